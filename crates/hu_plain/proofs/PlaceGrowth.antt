-- What a grown sequence earns in places: a growth that begins with an item is what is left of it after the step.
use Rattle.std.proofs.Common.{◌≡◌, ℕ, Bool, true, false, cond, ℤ, pos, ◌+ℤ◌, Option, None, Some, is_some, option_map}
use Rattle.std.proofs.Common.{List, [], ◌∷◌, ◌++◌, refl, sym, ap, ◌∙◌, ◌⊎◌, inl, inr, arith}
use Rattle.std.specs.List.{AllByRecursion}
use Rattle.std.proofs.lemmas.Int.{ints}
use Rattle.hu_kind.specs.Record.{holds, values_of, items_in}
use Rattle.hu_kind.specs.Sequence.{better, best_utility}
use Rattle.hu_kind.specs.Order.{Ascend}
use Rattle.hu_plain.specs.Row.{Cells, RowOf, grown_row, grown_rows, IsRising}
use Rattle.hu_plain.specs.Place.{Places, after, best_from, best_of, best_sum, fresh, grown_best, into, itemsets_of, AreAscending}
use Rattle.hu_kind.proofs.lemmas.Better.{some_cases, better-none, better-assoc, plus, plus-none, plus-better, better-plus}
use Rattle.hu_plain.proofs.Cut.{AllAbove, cut}

-- what a set earns in a whole row, with a utility after it
abbrev pub row_best : List ℕ → Option ℤ → RowOf → Option ℤ
row_best items later row = cond (holds items row.1) (option_map (λ u. (row.0 +ℤ values_of items row.1) +ℤ u) later) None

best_from-grown_row : (item : ℕ) (items : List ℕ) (later : Option ℤ) (row : RowOf) → IsRising row → AllAbove item items
    → best_from items later (grown_row item row.0 row.1) ≡ row_best (item ∷ items) later row
best_from-grown_row item items later row up above = elim (cut item row.0 row.1) [
  | inr none ↦ simp (none.0, none.1)
  | inl c ↦
      let tail = c.tail up in
      simp (c.is, c.here, c.earns, tail.held items above, tail.earn items above) (apart c.value (values_of items c.rest) (holds items c.rest) later)
]
  where
    apart : (v w : ℤ) (b : Bool) (u : Option ℤ) → better (cond b (option_map (λ x. ((row.0 +ℤ v) +ℤ w) +ℤ x) u) None) None
        ≡ cond b (option_map (λ x. (row.0 +ℤ (v +ℤ w)) +ℤ x) u) None
    apart v w false u = refl
    apart v w true None = refl
    apart v w true (Some x) = ap (λ n. Some n) (omega (arith, ints))

best_from-append : (items : List ℕ) (later : Option ℤ) (xs ys : List RowOf)
    → best_from items later (xs ++ ys) ≡ better (best_from items later xs) (best_from items later ys)
best_from-append items later [] ys = refl
best_from-append items later (x ∷ xs) ys =
    ap (λ b. better (row_best items later x) b) (best_from-append items later xs ys)
    ∙ sym (better-assoc (row_best items later x) (best_from items later xs) (best_from items later ys))

pub best_from-grown_rows : (item : ℕ) (items : List ℕ) (later : Option ℤ) (rows : List RowOf) → AllByRecursion IsRising rows → AllAbove item items
    → best_from items later (grown_rows item rows) ≡ best_from (item ∷ items) later rows
best_from-grown_rows item items later [] up above = refl
best_from-grown_rows item items later (row ∷ rows) up above =
    best_from-append items later (grown_row item row.0 row.1) (grown_rows item rows)
    ∙ ap (λ a. better a (best_from items later (grown_rows item rows))) (best_from-grown_row item items later row up.0 above)
    ∙ ap (λ b. better (row_best (item ∷ items) later row) b) (best_from-grown_rows item items later rows up.1 above)

-- where a growth is found: in the first row, or in a later one
pub here_or_later : (items : List ℕ) (later : Option ℤ) (row : RowOf) (rows : List RowOf) → is_some (best_from items later (row ∷ rows)) ≡ true
    → ((holds items row.1 ≡ true) × (is_some later ≡ true)) ⊎ (is_some (best_from items later rows) ≡ true)
here_or_later items later row rows some = elim (some_cases (row_best items later row) (best_from items later rows) some) [
  | inl here ↦ inl (tested (holds items row.1) later here)
  | inr there ↦ inr there
]
  where
    tested : (b : Bool) (u : Option ℤ) → is_some (cond b (option_map (λ x. (row.0 +ℤ values_of items row.1) +ℤ x) u) None) ≡ true
        → (b ≡ true) × (is_some u ≡ true)
    tested true (Some x) h = (refl, refl)
    tested true None h = cc
    tested false u h = cc

-- a step leaves the itemsets
pub itemsets-into : (item : ℕ) (places : Places) → itemsets_of (into item places) ≡ itemsets_of places
itemsets-into item [] = refl
itemsets-into item (place ∷ places) = ap (λ es. place.1 ∷ es) (itemsets-into item places)

pub itemsets-after : (item : ℕ) (best : Option ℤ) (places : Places) → itemsets_of (after item best places) ≡ itemsets_of places
itemsets-after item best [] = refl
itemsets-after item best (place ∷ places) = ap (λ es. place.1 ∷ es) (itemsets-after item (better best (best_sum place.0)) places)

-- an item into the last itemset
pub grown_best-into : (item : ℕ) (items : List ℕ) (rest : List (List ℕ)) (places : Places) → AreAscending places → AllAbove item items
    → grown_best items rest (into item places) ≡ grown_best (item ∷ items) rest places
grown_best-into item items rest [] up above = refl
grown_best-into item items rest (place ∷ places) up above =
    let later = best_utility rest (itemsets_of places) in
    ap (λ es. better (best_from items (best_utility rest es) (grown_rows item place.0)) (grown_best items rest (into item places))) (itemsets-into item places)
    ∙ ap (λ a. better a (grown_best items rest (into item places))) (best_from-grown_rows item items later place.0 up.0.0 above)
    ∙ ap (λ b. better (best_from (item ∷ items) later place.0) b) (grown_best-into item items rest places up.1 above)

-- rows with nothing more in their itemset
best_from-none : (later : Option ℤ) (rows : List RowOf) → best_from [] later rows ≡ plus (best_sum rows) later
best_from-none later [] = refl
best_from-none later (row ∷ rows) =
    ap (λ b. better (row_best [] later row) b) (best_from-none later rows)
    ∙ ap (λ a. better a (plus (best_sum rows) later)) (alone later)
    ∙ sym (plus-better (Some row.0) (best_sum rows) later)
  where
    alone : (u : Option ℤ) → row_best [] u row ≡ plus (Some row.0) u
    alone None = refl
    alone (Some x) = ap (λ n. Some n) (omega (arith, ints))

-- an item of a whole itemset after a sum
best_from-fresh : (item : ℕ) (items : List ℕ) (rest : List (List ℕ)) (best : Option ℤ) (cells : Cells) (es : List Cells) → Ascend (items_in cells)
    → AllAbove item items
    → best_from items (best_utility rest es) (grown_rows item (fresh best cells))
    ≡ plus best (cond (holds (item ∷ items) cells) (option_map (λ u. values_of (item ∷ items) cells +ℤ u) (best_utility rest es)) None)
best_from-fresh item items rest None cells es up above = refl
best_from-fresh item items rest (Some sum) cells es up above =
    best_from-grown_rows item items (best_utility rest es) ((sum, cells) ∷ []) (up, tt) above
    ∙ better-none (row_best (item ∷ items) (best_utility rest es) (sum, cells))
    ∙ apart (holds (item ∷ items) cells) (values_of (item ∷ items) cells) (best_utility rest es)
  where
    apart : (b : Bool) (v : ℤ) (u : Option ℤ)
        → cond b (option_map (λ x. (sum +ℤ v) +ℤ x) u) None ≡ option_map (λ x. sum +ℤ x) (cond b (option_map (λ x. v +ℤ x) u) None)
    apart false v u = refl
    apart true v None = refl
    apart true v (Some x) = ap (λ n. Some n) (omega (arith, ints))

-- an item in a new itemset
after-parts : (a x y b g : Option ℤ) → better (plus a x) (better (plus (better a b) y) g) ≡ better (plus a (better x y)) (better (plus b y) g)
after-parts a x y b g =
    ap (λ z. better (plus a x) (better z g)) (plus-better a b y)
    ∙ ap (λ z. better (plus a x) z) (better-assoc (plus a y) (plus b y) g)
    ∙ sym (better-assoc (plus a x) (plus a y) (better (plus b y) g))
    ∙ ap (λ z. better z (better (plus b y) g)) (sym (better-plus a x y))

pub grown_best-after : (item : ℕ) (items : List ℕ) (rest : List (List ℕ)) (best : Option ℤ) (places : Places) → AreAscending places
    → AllAbove item items
    → grown_best items rest (after item best places)
    ≡ better (plus best (best_utility ((item ∷ items) ∷ rest) (itemsets_of places))) (grown_best [] ((item ∷ items) ∷ rest) places)
grown_best-after item items rest best [] up above = sym (better-none (plus best None) ∙ plus-none best)
grown_best-after item items rest best (place ∷ places) up above =
    let es = itemsets_of places in
    let next = better best (best_sum place.0) in
    let here = cond (holds (item ∷ items) place.1) (option_map (λ u. values_of (item ∷ items) place.1 +ℤ u) (best_utility rest es)) None in
    let later = best_utility ((item ∷ items) ∷ rest) es in
    let more = grown_best [] ((item ∷ items) ∷ rest) places in
    let grown = grown_best items rest (after item next places) in
    ap (λ ds. better (best_from items (best_utility rest ds) (grown_rows item (fresh best place.1))) grown) (itemsets-after item next places)
    ∙ ap (λ a. better a grown) (best_from-fresh item items rest best place.1 es up.0.1 above)
    ∙ ap (λ b. better (plus best here) b) (grown_best-after item items rest next places up.1 above)
    ∙ after-parts best here later (best_sum place.0) more
    ∙ ap (λ b. better (plus best (better here later)) (better b more)) (sym (best_from-none later place.0))

-- the prefix alone
pub grown_best-alone : (places : Places) → grown_best [] [] places ≡ best_of places
grown_best-alone [] = refl
grown_best-alone (place ∷ places) =
    ap (λ a. better a (grown_best [] [] places)) (best_from-none (Some (pos 0)) place.0 ∙ zero_after (best_sum place.0))
    ∙ ap (λ b. better (best_sum place.0) b) (grown_best-alone places)
  where
    zero_after : (a : Option ℤ) → plus a (Some (pos 0)) ≡ a
    zero_after None = refl
    zero_after (Some x) = ap (λ n. Some n) (omega (arith, ints))
