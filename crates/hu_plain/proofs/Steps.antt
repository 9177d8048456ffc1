-- A sequence that grows a prefix begins with a step, and what is left of it grows the prefix after the step.
use Rattle.std.proofs.Common.{◌≡◌, ℕ, ◌<◌, ◌+◌, Bool, true, false, cond, ℤ, pos, negsuc, ◌+ℤ◌, Option, None, Some}
use Rattle.std.proofs.Common.{is_some, unwrap_or, option_map, List, [], ◌∷◌, ◌++◌, map, length, refl, sym, ap, ◌∙◌}
use Rattle.std.proofs.Common.{subst, inl, inr, arith, flat_map, append_assoc, append-nil}
use Rattle.std.specs.List.{AllByRecursion}
use Rattle.std.proofs.lemmas.Int.{ints}
use Rattle.std.proofs.lemmas.List.Sums.{sum_by-cons}
use Rattle.hu_kind.specs.declared.entry.Entry.{Entry}
use Rattle.hu_kind.specs.declared.item.Item.{Item}
use Rattle.hu_kind.specs.Record.{holds, values_of, items_in}
use Rattle.hu_kind.specs.Sequence.{better, best_utility, sequence_key}
use Rattle.hu_kind.specs.Order.{Ascend}
use Rattle.hu_kind.proofs.lemmas.Each.{each-weaker}
use Rattle.hu_kind.proofs.lemmas.Members.{Member, Member-append_left, Member-append_right, Member-flat_map, Member-from_filter, Member-from_map}
use Rattle.hu_kind.proofs.lemmas.Occurring.{at_member, by_members, counted, holds-members}
use Rattle.hu_collect.specs.State.{State, Reached, ReachedSome}
use Rattle.hu_collect.proofs.lemmas.Searching.{reached-as, some-as}
use Rattle.hu_plain.specs.declared.places.Step.{Step}
use Rattle.hu_plain.specs.declared.places.Step.TheVariants.{Into, After}
use Rattle.hu_plain.specs.Row.{Cells, RowOf, IsRising}
use Rattle.hu_kind.specs.Sequence.{closed}
use Rattle.hu_plain.specs.Growth.{grown_support, grown_utility, growth_entry, prefix_entry, stepped_key, IsSet, Grows, IsGrowth}
use Rattle.hu_plain.specs.Place.{PlaceOf, Places, after, all_stepped, begun, best_from, best_of, best_sum, fresh}
use Rattle.hu_plain.specs.Place.{grown_best, into, itemsets_of, occurs_at, stepped, IsAscending, AreAscending, IsBegun}
use Rattle.hu_plain.specs.PlaceView.{following, joining, HasSteps}
use Rattle.hu_kind.proofs.lemmas.Better.{some_cases, some_left}
use Rattle.hu_plain.proofs.Cut.{AllAbove}
use Rattle.hu_plain.proofs.Growth.{IsCut, cut-grown_rows}
use Rattle.hu_plain.proofs.PlaceGrowth.{grown_best-into, grown_best-after, grown_best-alone, here_or_later}
use Rattle.hu_plain.proofs.SoFar.{OfOne, AreWhole}

-- the further items and itemsets that a growth has before a step, by those that it has after it
abbrev pub items_before : Step → List ℕ → List ℕ
items_before (Into item) items = item.0 ∷ items
items_before (After item) items = []

abbrev pub rest_before : Step → List ℕ → List (List ℕ) → List (List ℕ)
rest_before (Into item) items rest = rest
rest_before (After item) items rest = (item.0 ∷ items) ∷ rest

abbrev pub item_of_step : Step → ℕ
item_of_step (Into item) = item.0
item_of_step (After item) = item.0

-- ---- what a growth earns after a step

-- places before the first in which the prefix ends hold no growth
grown_best-begun : (items : List ℕ) (rest : List (List ℕ)) (places : Places) → grown_best items rest (begun places) ≡ grown_best items rest places
grown_best-begun items rest [] = refl
grown_best-begun items rest (([], cells) ∷ places) = grown_best-begun items rest places
grown_best-begun items rest ((row ∷ rows, cells) ∷ places) = refl

grown_best-stepped : (step : Step) (items : List ℕ) (rest : List (List ℕ)) (places : Places) → AreAscending places → AllAbove (item_of_step step) items
    → grown_best items rest (stepped step places) ≡ grown_best (items_before step items) (rest_before step items rest) places
grown_best-stepped (Into item) items rest places up above =
    grown_best-begun items rest (into item.0 places) ∙ grown_best-into item.0 items rest places up above
grown_best-stepped (After item) items rest places up above =
    grown_best-begun items rest (after item.0 None places) ∙ grown_best-after item.0 items rest None places up above

-- over all records: one without places holds no growth
utility-cons : (items : List ℕ) (rest : List (List ℕ)) (places : Places) (rows : List Places)
    → grown_utility (cond (occurs_at places) (places ∷ rows) rows) items rest
    ≡ unwrap_or (grown_best items rest places) (pos 0) +ℤ grown_utility rows items rest
utility-cons items rest [] rows = omega (arith, ints)
utility-cons items rest (place ∷ places) rows = refl

support-cons : (items : List ℕ) (rest : List (List ℕ)) (places : Places) (rows : List Places)
    → grown_support (cond (occurs_at places) (places ∷ rows) rows) items rest
    ≡ cond (is_some (grown_best items rest places)) 1 0 + grown_support rows items rest
support-cons items rest [] rows = omega arith
support-cons items rest (place ∷ places) rows = sum_by-cons (λ s. cond (is_some (grown_best items rest s)) 1 0) (place ∷ places) rows

module _ (step : Step) (items : List ℕ) (rest : List (List ℕ)) (above : AllAbove (item_of_step step) items) where
  utility-stepped : (rows : List Places) → AllByRecursion AreAscending rows
      → grown_utility (all_stepped step rows) items rest ≡ grown_utility rows (items_before step items) (rest_before step items rest)
  utility-stepped [] up = refl
  utility-stepped (places ∷ rows) up =
      utility-cons items rest (stepped step places) (all_stepped step rows)
      ∙ (λ j. unwrap_or (grown_best-stepped step items rest places up.0 above j) (pos 0) +ℤ utility-stepped rows up.1 j)

  pub support-stepped : (rows : List Places) → AllByRecursion AreAscending rows
      → grown_support (all_stepped step rows) items rest ≡ grown_support rows (items_before step items) (rest_before step items rest)
  support-stepped [] up = refl
  support-stepped (places ∷ rows) up =
      support-cons items rest (stepped step places) (all_stepped step rows)
      ∙ (λ j. cond (is_some (grown_best-stepped step items rest places up.0 above j)) 1 0 + support-stepped rows up.1 j)
      ∙ sym (sum_by-cons (λ s. cond (is_some (grown_best (items_before step items) (rest_before step items rest) s)) 1 0) places rows)

-- keys
closed-push : (xs ys : List ℤ) (n : ℤ) → closed ((xs ++ n ∷ []) ++ ys) ≡ ((xs ++ n ∷ []) ++ ys) ++ negsuc 0 ∷ []
closed-push [] ys n = refl
closed-push (x ∷ xs) ys n = refl

key-stepped : (prefix : List ℤ) (step : Step) (items : List ℕ) (rest : List (List ℕ))
    → closed (stepped_key prefix step ++ map pos items) ++ sequence_key rest
    ≡ closed (prefix ++ map pos (items_before step items)) ++ sequence_key (rest_before step items rest)
key-stepped prefix (Into item) items rest = ap (λ k. closed k ++ sequence_key rest) (append_assoc prefix (pos item.0 ∷ []) (map pos items))
key-stepped prefix (After item) items rest =
    let mark = negsuc 0 ∷ [] in
    let key = pos item.0 ∷ map pos items in
    ap (λ k. k ++ sequence_key rest) (closed-push (closed prefix) (map pos items) (pos item.0))
    ∙ ap (λ k. (k ++ mark) ++ sequence_key rest) (append_assoc (closed prefix) (pos item.0 ∷ []) (map pos items))
    ∙ ap (λ k. k ++ sequence_key rest) (append_assoc (closed prefix) key mark)
    ∙ append_assoc (closed prefix) (key ++ mark) (sequence_key rest)
    ∙ ap (λ p. closed p ++ ((key ++ mark) ++ sequence_key rest)) (sym (append-nil prefix))

-- the entry of a growth is that of what is left of it after the step
entry-stepped : (prefix : List ℤ) (step : Step) (items : List ℕ) (rest : List (List ℕ)) (rows : List Places) → AllByRecursion AreAscending rows
    → AllAbove (item_of_step step) items
    → growth_entry (stepped_key prefix step) (all_stepped step rows) items rest
    ≡ growth_entry prefix rows (items_before step items) (rest_before step items rest)
entry-stepped prefix step items rest rows up above =
    let k = key-stepped prefix step items rest in
    let u = utility-stepped step items rest above rows up in
    let s = support-stepped step items rest above rows up in
    cc

-- ---- what places are after a step

-- what holds of the places of each record after a step
pub each-stepped : (P Q : Places → Type 0) (step : Step) (rows : List Places)
    → ((places : Places) → P places → occurs_at (stepped step places) ≡ true → Q (stepped step places))
    → AllByRecursion P rows → AllByRecursion Q (all_stepped step rows)
each-stepped P Q step rows one all = by_members Q (all_stepped step rows) (λ places m.
    let kept = Member-from_filter occurs_at places (map (stepped step) rows) m in
    let from = Member-from_map (stepped step) places rows kept.0 in
    subst Q from.2 (one from.0 (at_member P from.0 rows all from.1) (ap occurs_at from.2 ∙ kept.1)))

-- they begin with one in which the prefix ends
IsBegun-begun : (places : Places) → occurs_at (begun places) ≡ true → IsBegun (begun places)
IsBegun-begun [] some = cc
IsBegun-begun (([], cells) ∷ places) some = IsBegun-begun places some
IsBegun-begun ((row ∷ rows, cells) ∷ places) some = tt

pub IsBegun-stepped : (step : Step) (places : Places) → occurs_at (stepped step places) ≡ true → IsBegun (stepped step places)
IsBegun-stepped (Into item) places some = IsBegun-begun (into item.0 places) some
IsBegun-stepped (After item) places some = IsBegun-begun (after item.0 None places) some

pub begun-stepped : (step : Step) (rows : List Places) → AllByRecursion AreAscending rows → AllByRecursion IsBegun (all_stepped step rows)
begun-stepped step rows up = each-stepped AreAscending IsBegun step rows (λ places all some. IsBegun-stepped step places some) up

-- their items ascend, and in each row they come after the step's item
abbrev pub IsCutAt : ℕ → PlaceOf → Type 0
IsCutAt item place = AllByRecursion (IsCut item) place.0 × Ascend (items_in place.1)

each-begun : (P : PlaceOf → Type 0) (places : Places) → AllByRecursion P places → AllByRecursion P (begun places)
each-begun P [] all = tt
each-begun P (([], cells) ∷ places) all = each-begun P places all.1
each-begun P ((row ∷ rows, cells) ∷ places) all = all

pub rising-fresh : (best : Option ℤ) (cells : Cells) → Ascend (items_in cells) → AllByRecursion IsRising (fresh best cells)
rising-fresh None cells up = tt
rising-fresh (Some x) cells up = (up, tt)

cut-into : (item : ℕ) (places : Places) → AreAscending places → AllByRecursion (IsCutAt item) (into item places)
cut-into item [] up = tt
cut-into item (place ∷ places) up = ((cut-grown_rows item place.0 up.0.0, up.0.1), cut-into item places up.1)

cut-after : (item : ℕ) (best : Option ℤ) (places : Places) → AreAscending places → AllByRecursion (IsCutAt item) (after item best places)
cut-after item best [] up = tt
cut-after item best (place ∷ places) up = (
  (cut-grown_rows item (fresh best place.1) (rising-fresh best place.1 up.0.1), up.0.1),
  cut-after item (better best (best_sum place.0)) places up.1,
)

cut-stepped : (step : Step) (places : Places) → AreAscending places → AllByRecursion (IsCutAt (item_of_step step)) (stepped step places)
cut-stepped (Into item) places up = each-begun (IsCutAt item.0) (into item.0 places) (cut-into item.0 places up)
cut-stepped (After item) places up = each-begun (IsCutAt item.0) (after item.0 None places) (cut-after item.0 None places up)

all-cut : (step : Step) (rows : List Places) → AllByRecursion AreAscending rows
    → AllByRecursion (λ places. AllByRecursion (IsCutAt (item_of_step step)) places) (all_stepped step rows)
all-cut step rows up =
    each-stepped AreAscending (λ places. AllByRecursion (IsCutAt (item_of_step step)) places) step rows (λ places all some. cut-stepped step places all) up

pub ascending-stepped : (step : Step) (rows : List Places) → AllByRecursion AreAscending rows → AllByRecursion AreAscending (all_stepped step rows)
ascending-stepped step rows up =
    let cut = item_of_step step in
    each-weaker (λ places. AllByRecursion (IsCutAt cut) places) AreAscending (all_stepped step rows)
    (λ places. each-weaker (IsCutAt cut) IsAscending places (λ place is. (each-weaker (IsCut cut) IsRising place.0 (λ row r. r.rising) is.0, is.1)))
    (all-cut step rows up)

-- ---- the entry of the prefix itself

best-begun : (places : Places) → IsBegun places → is_some (best_of places) ≡ true
best-begun [] is = absurd is
best-begun (([], cells) ∷ places) is = absurd is
best-begun ((row ∷ rows, cells) ∷ places) is =
    some_left (better (Some row.0) (best_sum rows)) (best_of places) (some_left (Some row.0) (best_sum rows) refl)

support-begun : (rows : List Places) → AllByRecursion IsBegun rows → grown_support rows [] [] ≡ length rows
support-begun [] all = refl
support-begun (places ∷ rows) all =
    let whole = sum_by-cons (λ s. cond (is_some (grown_best [] [] s)) 1 0) places rows in
    let here : is_some (grown_best [] [] places) ≡ true = ap (λ b. is_some b) (grown_best-alone places) ∙ best-begun places all.0 in
    let one : ◌≡◌ {A = ℕ} (cond (is_some (grown_best [] [] places)) 1 0) 1 = rw here refl in
    omega (arith, support-begun rows all.1)

entry-alone : (prefix : List ℤ) (rows : List Places) → AllByRecursion IsBegun rows → growth_entry prefix rows [] [] ≡ prefix_entry prefix rows
entry-alone prefix rows all =
    let k = append-nil (closed (prefix ++ [])) ∙ ap (λ p. closed p) (append-nil prefix) in
    let s = support-begun rows all in
    cc

-- ---- which steps growths begin with

-- the items of a growth that occurs are those of some row
record IsHeld (items : List ℕ) (rows : List RowOf) : Type 0 where
  pub row : RowOf
  pub among : Member row rows
  pub held : holds items row.1 ≡ true

held_in : (items : List ℕ) (later : Option ℤ) (rows : List RowOf) → is_some (best_from items later rows) ≡ true → IsHeld items rows
held_in items later [] some = cc
held_in items later (row ∷ rows) some = elim (here_or_later items later row rows some) [
  | inl here ↦ record { row = row; among = inl refl; held = here.0 }
  | inr there ↦ let h = held_in items later rows there in record { row = h.row; among = inr h.among; held = h.held }
]

held_at : (items : List ℕ) (rest : List (List ℕ)) (places : Places) → is_some (grown_best items rest places) ≡ true
    → (place : PlaceOf) × Member place places × IsHeld items place.0
held_at items rest [] some = cc
held_at items rest (place ∷ places) some =
    let later = best_utility rest (itemsets_of places) in
    elim (some_cases (best_from items later place.0) (grown_best items rest places) some) [
      | inl here ↦ (place, inl refl, held_in items later place.0 here)
      | inr there ↦ let h = held_at items rest places there in (h.0, inr h.1, h.2)
    ]

-- the items of a new itemset stand after the first place
occurring-member : (item : ℕ) (items : List ℕ) (rest : List (List ℕ)) (elements : List Cells)
    → is_some (best_utility ((item ∷ items) ∷ rest) elements) ≡ true → Member item (flat_map items_in elements)
occurring-member item items rest [] some = cc
occurring-member item items rest (e ∷ es) some =
    let set = item ∷ items in
    let here_best = cond (holds set e) (option_map (λ u. values_of set e +ℤ u) (best_utility rest es)) None in
    elim (some_cases here_best (best_utility (set ∷ rest) es) some) [
      | inl here ↦
          let held : holds set e ≡ true = tested (holds set e) (option_map (λ u. values_of set e +ℤ u) (best_utility rest es)) here in
          Member-append_left item (items_in e) (flat_map items_in es) (holds-members set e held).0
      | inr later ↦ Member-append_right item (items_in e) (flat_map items_in es) (occurring-member item items rest es later)
    ]
  where
    tested : (b : Bool) (u : Option ℤ) → is_some (cond b u None) ≡ true → b ≡ true
    tested true u h = refl
    tested false u h = cc

later-some : (later : Option ℤ) (rows : List RowOf) → is_some (best_from [] later rows) ≡ true → is_some later ≡ true
later-some later [] some = cc
later-some later (row ∷ rows) some = elim (here_or_later [] later row rows some) [ inl here ↦ here.1 | inr there ↦ later-some later rows there ]

following-some : (item : ℕ) (items : List ℕ) (rest : List (List ℕ)) (places : Places)
    → is_some (grown_best [] ((item ∷ items) ∷ rest) places) ≡ true
    → Member item (following places)
following-some item items rest [] some = cc
following-some item items rest (place ∷ places) some =
    let later = best_utility ((item ∷ items) ∷ rest) (itemsets_of places) in
    elim (some_cases (best_from [] later place.0) (grown_best [] ((item ∷ items) ∷ rest) places) some) [
      | inl here ↦ occurring-member item items rest (itemsets_of places) (later-some later place.0 here)
      | inr there ↦ after-first places (following-some item items rest places there)
    ]
  where
    after-first : (ps : Places) → Member item (following ps) → Member item (flat_map items_in (itemsets_of ps))
    after-first [] m = m
    after-first (p ∷ ps) m = Member-append_right item (items_in p.1) (flat_map items_in (itemsets_of ps)) m

-- after a step the items of a growth that occurs come after the step's item
above-occurs : (step : Step) (items : List ℕ) (rest : List (List ℕ)) (rows : List Places) → AllByRecursion AreAscending rows
    → 0 < grown_support (all_stepped step rows) items rest → AllAbove (item_of_step step) items
above-occurs step items rest rows up some =
    let cut = item_of_step step in
    let found = counted (λ places. is_some (grown_best items rest places)) (all_stepped step rows) some in
    let at = held_at items rest found.0 found.2 in
    let here = at.2 in
    let places = at_member (λ places. AllByRecursion (IsCutAt cut) places) found.0 (all_stepped step rows) (all-cut step rows up) found.1 in
    let place = at_member (IsCutAt cut) at.0 found.0 places at.1 in
    let row = at_member (IsCut cut) here.row at.0.0 place.0 here.among in
    each-weaker (λ i. Member i (items_in here.row.1)) (λ other. cut < other) items
    (λ i m. at_member (λ other. cut < other) i (items_in here.row.1) row.above m) (holds-members items here.row.1 here.held)

-- the entries that begin with a step
abbrev pub BeginsWith : List ℤ → List Places → Step → Entry → Type 0
BeginsWith prefix rows step entry = (0 < length (all_stepped step rows)) × IsGrowth (stepped_key prefix step) (all_stepped step rows) entry

itemsets-before : (step : Step) (items : List ℕ) (rest : List (List ℕ)) → Ascend (item_of_step step ∷ items) → AllByRecursion IsSet rest
    → AllByRecursion IsSet (rest_before step items rest)
itemsets-before (Into item) items rest up all = all
itemsets-before (After item) items rest up all = ((omega arith, up), all)

ascend-before : (step : Step) (items : List ℕ) → Ascend (item_of_step step ∷ items) → Ascend (items_before step items)
ascend-before (Into item) items up = up
ascend-before (After item) items up = tt

some-before : (step : Step) (items : List ℕ) (rest : List (List ℕ)) → 0 < length (items_before step items) + length (rest_before step items rest)
some-before (Into item) items rest = omega arith
some-before (After item) items rest = omega arith

module _ (prefix : List ℤ) (rows : List Places) (up : AllByRecursion AreAscending rows) where
  -- what grows the prefix after a step grows it
  grows-before : (step : Step) (items : List ℕ) (rest : List (List ℕ)) (entry : Entry) → Ascend items → AllByRecursion IsSet rest
      → 0 < grown_support (all_stepped step rows) items rest → growth_entry (stepped_key prefix step) (all_stepped step rows) items rest ≡ entry
      → Grows prefix rows entry
  grows-before step items rest entry ascending itemsets occurs is =
      let above = above-occurs step items rest rows up occurs in
      record {
        items = items_before step items;
        rest = rest_before step items rest;
        some = some-before step items rest;
        ascending = ascend-before step items (above, ascending);
        itemsets = itemsets-before step items rest (above, ascending) itemsets;
        occurs = subst (λ n. 0 < n) (support-stepped step items rest above rows up) occurs;
        is = sym (entry-stepped prefix step items rest rows up above) ∙ is;
      }

  begins-grows : (step : Step) (entry : Entry) → BeginsWith prefix rows step entry → Grows prefix rows entry
  begins-grows step entry (some, inl own) =
      let all = begun-stepped step rows up in
      grows-before step [] [] entry tt tt (subst (λ n. 0 < n) (sym (support-begun (all_stepped step rows) all)) some)
      (entry-alone (stepped_key prefix step) (all_stepped step rows) all ∙ own)
  begins-grows step entry (some, inr g) = grows-before step g.items g.rest entry g.ascending g.itemsets g.occurs g.is

  -- what grows the prefix begins with a step
  begins-by : (step : Step) (items : List ℕ) (rest : List (List ℕ)) (entry : Entry) → AllAbove (item_of_step step) items → Ascend items
      → AllByRecursion IsSet rest
      → 0 < grown_support rows (items_before step items) (rest_before step items rest)
      → growth_entry prefix rows (items_before step items) (rest_before step items rest) ≡ entry → BeginsWith prefix rows step entry
  begins-by step items rest entry above ascending itemsets occurs is =
      let some : 0 < grown_support (all_stepped step rows) items rest = subst (λ n. 0 < n) (sym (support-stepped step items rest above rows up)) occurs in
      (long (all_stepped step rows) some, by_rest items rest ascending itemsets some (entry-stepped prefix step items rest rows up above ∙ is))
    where
      long : (rs : List Places) → 0 < grown_support rs items rest → 0 < length rs
      long [] some = absurd (omega arith)
      long (r ∷ rs) some = omega arith

      by_rest : (is : List ℕ) (ss : List (List ℕ)) → Ascend is → AllByRecursion IsSet ss → 0 < grown_support (all_stepped step rows) is ss
          → growth_entry (stepped_key prefix step) (all_stepped step rows) is ss ≡ entry
          → IsGrowth (stepped_key prefix step) (all_stepped step rows) entry
      by_rest [] [] a b some e = inl (sym (entry-alone (stepped_key prefix step) (all_stepped step rows) (begun-stepped step rows up)) ∙ e)
      by_rest (i ∷ is) ss a b some e = inr (record { items = i ∷ is; rest = ss; some = omega arith; ascending = a; itemsets = b; occurs = some; is = e })
      by_rest [] (s ∷ ss) a b some e = inr (record { items = []; rest = s ∷ ss; some = omega arith; ascending = a; itemsets = b; occurs = some; is = e })

  grows-begins : (steps : List Step) → HasSteps rows steps → (entry : Entry) → Grows prefix rows entry → OfOne (BeginsWith prefix rows) steps entry
  grows-begins steps has entry g = by_items g.items g.rest g.some g.ascending g.itemsets g.occurs g.is
    where
      first : (step : Step) → BeginsWith prefix rows step entry → OfOne (BeginsWith prefix rows) steps entry
      first step by = record { part = step; among = has step by.0; is = by }

      by_items : (is : List ℕ) (ss : List (List ℕ)) → 0 < length is + length ss → Ascend is → AllByRecursion IsSet ss → 0 < grown_support rows is ss
          → growth_entry prefix rows is ss ≡ entry → OfOne (BeginsWith prefix rows) steps entry
      by_items [] [] some a b occurs e = absurd (omega arith)
      by_items [] ([] ∷ ss) some a b occurs e = absurd (omega (arith, b.0.0))
      by_items [] ((i ∷ is) ∷ ss) some a b occurs e =
          let step = After (record { 0 = i }) in
          first step (begins-by step is ss entry b.0.1.0 b.0.1.1 b.1 occurs e)
      by_items (i ∷ is) ss some a b occurs e =
          let step = Into (record { 0 = i }) in
          first step (begins-by step is ss entry a.0 a.1 b occurs e)

  pub begins-whole : (steps : List Step) → HasSteps rows steps → AreWhole (BeginsWith prefix rows) (Grows prefix rows) steps
  begins-whole steps has = record {
    sound = λ entry of. begins-grows of.part entry of.is;
    complete = grows-begins steps has;
  }

-- ---- the steps that can be taken

module _ (rows : List Places) (up : AllByRecursion AreAscending rows) where
  taken-support : (step : Step) → 0 < length (all_stepped step rows) → 0 < grown_support rows (items_before step []) (rest_before step [] [])
  taken-support step some =
      let all = support-begun (all_stepped step rows) (begun-stepped step rows up) in
      subst (λ n. 0 < n) (sym all ∙ support-stepped step [] [] tt rows up) some

  -- a step that joins is that of an item after some row
  pub taken-joining : (item : Item) → 0 < length (all_stepped (Into item) rows) → Member item.0 (flat_map joining rows)
  taken-joining item some =
      let found = counted (λ places. is_some (grown_best (item.0 ∷ []) [] places)) rows (taken-support (Into item) some) in
      let at = held_at (item.0 ∷ []) [] found.0 found.2 in
      let here = at.2 in
      let in_row = (holds-members (item.0 ∷ []) here.row.1 here.held).0 in
      let in_place = Member-flat_map (λ (row : RowOf). items_in row.1) here.row item.0 at.0.0 here.among in_row in
      let in_places = Member-flat_map (λ (place : PlaceOf). flat_map (λ row. items_in row.1) place.0) at.0 item.0 found.0 at.1 in_place in
      Member-flat_map joining found.0 item.0 rows found.1 in_places

  -- and one that follows that of an item of a later itemset
  pub taken-following : (item : Item) → 0 < length (all_stepped (After item) rows) → Member item.0 (flat_map following rows)
  taken-following item some =
      let found = counted (λ places. is_some (grown_best [] ((item.0 ∷ []) ∷ []) places)) rows (taken-support (After item) some) in
      Member-flat_map following found.0 item.0 rows found.1 (following-some item.0 [] [] found.0 found.2)

-- what a step grows, where some row takes it
pub record IsGrown (step : Step) (rows found : List Places) : Type 0 where
  pub is : found ≡ all_stepped step rows
  pub some : 0 < length (all_stepped step rows)

-- the entries of what a step grows begin with the step
module _ {before prefix : List ℤ} {step : Step} {rows found : List Places} (grown : IsGrown step rows found) (same : before ≡ prefix) where
  growth : IsGrowth (stepped_key before step) found ≡ IsGrowth (stepped_key prefix step) (all_stepped step rows)
  growth = λ j. IsGrowth (stepped_key (same j) step) (grown.is j)

  pub begins-reached : {now new : State} → Reached now (IsGrowth (stepped_key before step) found) new → Reached now (BeginsWith prefix rows step) new
  begins-reached {now = now} {new = new} reached =
      reached-as {P = IsGrowth (stepped_key prefix step) (all_stepped step rows)} {R = BeginsWith prefix rows step}
      (λ e p. (grown.some, p)) (λ e r pass high. r.1) (subst (λ P. Reached now P new) growth reached)

  pub begins-some : {now new : State} → ReachedSome now (IsGrowth (stepped_key before step) found) new → ReachedSome now (BeginsWith prefix rows step) new
  begins-some {now = now} {new = new} reached =
      some-as {P = IsGrowth (stepped_key prefix step) (all_stepped step rows)} {R = BeginsWith prefix rows step}
      (λ e p. (grown.some, p)) (subst (λ P. ReachedSome now P new) growth reached)
