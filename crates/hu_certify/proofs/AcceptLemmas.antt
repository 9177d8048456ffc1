-- What the lines of prefixes say has no fault.
use Rattle.std.proofs.Common.{◌≡◌, ℕ, ◌+◌, ◌<◌, Bool, true, false, not, cond, ◌&&◌, ◌||◌, eqb, ℤ, pos, int_lt, int_le}
use Rattle.std.proofs.Common.{int_eq, Option, None, Some, List, [], ◌∷◌, ◌++◌, map, length, refl, sym, ap, ◌∙◌, subst}
use Rattle.std.proofs.Common.{inl, inr, arith, append_assoc}
use Rattle.std.specs.List.{AllByRecursion, list_any}
use Rattle.std.specs.Str.{bytes_eq}
use Rattle.std.proofs.lemmas.Bool.{cases_Bool, eq-eqb, ne_eqb}
use Rattle.std.proofs.lemmas.Bool.Decides.{Decides-int_eq}
use Rattle.std.proofs.lemmas.Int.{ints}
use Rattle.std.proofs.lemmas.Slice.Eq.{bytes_eq-Decides}
use Rattle.hu_kind.specs.Database.{utility}
use Rattle.hu_kind.specs.First.{first_some}
use Rattle.hu_kind.proofs.lemmas.Members.{Member, Member-append_right}
use Rattle.hu_proof.specs.Bounds.{after, cut_bound, stands_with}
use Rattle.hu_proof.specs.Check.{Node, children, first_such, wrong_child, left_out, wrong_bound_of, wrong_bound}
use Rattle.hu_proof.specs.Check.{not_cut_of, not_cut, line_fault, opened_by, walk}
use Rattle.hu_proof.specs.Judged.{token_items}
use Rattle.hu_proof.specs.Text.{Said, said_of}
use Rattle.hu_totals.proofs.lemmas.SortedLists.{Once}
use Rattle.hu_certify.specs.Text.{children_of, child_bound, is_opened, line_of, lines_below}

-- what a line says of a prefix and its children
abbrev pub said_from : ℤ → List ℕ → ℤ → List (ℕ × ℤ) → Said
said_from least prefix earned cs = record {
  prefix = prefix;
  utility = earned;
  tokens = map (λ child. record { item = record { 0 = child.0 }; bound = cond (int_lt child.1 least) (Some child.1) None }) cs;
}

abbrev pub said_line : List (List (ℕ × ℤ)) → ℤ → List ℕ → List ℕ → Said
said_line records least prefix later = said_from least prefix (utility records prefix) (children_of records prefix later)

-- whether one of these passes
abbrev any_in : {X : Type 0} → List X → (X → Bool) → Bool
any_in xs test = list_any test xs

-- the children whose lines follow
abbrev pub nodes_below : List (List (ℕ × ℤ)) → ℤ → List ℕ → List ℕ → List Node
nodes_below records least prefix [] = []
nodes_below records least prefix (item ∷ later) =
    cond (is_opened records least prefix item later) (record { prefix = prefix ++ item ∷ []; later = later } ∷ []) [] ++ nodes_below records least prefix later

-- ---- items in order

other_from_once : (item : ℕ) (later : List ℕ) (x : ℕ) → Once (item ∷ later) → Member x later → eqb x item ≡ false
other_from_once item later x once m = ne_eqb x item (λ e. once.0 (subst (λ y. Member y later) e m))

module _ (records : List (List (ℕ × ℤ))) (least : ℤ) (prefix : List ℕ) where
  each-later : (P : ℕ → Type 0) (later : List ℕ) → ((x : ℕ) → Member x later → P x)
      → AllByRecursion P (token_items (said_line records least prefix later).tokens)
  each-later P [] h = tt
  each-later P (item ∷ later) h =
      let ih = each-later P later (λ x m. h x (inr m)) in
      elim (cases_Bool (stands_with records prefix item)) [ inl e ↦ simp e (h item (inl refl), ih) | inr e ↦ simp e ih ]

  skip-child : (item : ℕ) (later : List ℕ) (said : Said) → AllByRecursion (λ x. eqb x item ≡ false) (token_items said.tokens)
      → wrong_child (item ∷ later) said.tokens ≡ wrong_child later said.tokens
  skip-child item later said = elim said.tokens as (λ ts. AllByRecursion (λ x. eqb x item ≡ false) (token_items ts)
      → wrong_child (item ∷ later) ts ≡ wrong_child later ts) [
        | [] ↦ λ all. refl
        | t ∷ ts ↦ λ all. let here = all.0 in rw here refl
      ]

  right-children : (later : List ℕ) → Once later → wrong_child later (said_line records least prefix later).tokens ≡ None
  right-children [] once = refl
  right-children (item ∷ later) once =
      let ih = right-children later once.1 in
      let same : eqb item item ≡ true = eq-eqb item item refl in
      elim (cases_Bool (stands_with records prefix item)) [
        | inl e ↦ simp (e, same) ih
        | inr e ↦ simp e (skip-child item later (said_line records least prefix later)
            (each-later (λ x. eqb x item ≡ false) later (λ x m. other_from_once item later x once m)) ∙ ih)
      ]

  or-true : (b : Bool) → (b || true) ≡ true
  or-true true = refl
  or-true false = refl

  and-false : (b : Bool) → (b && false) ≡ false
  and-false true = refl
  and-false false = refl

  named-child : (later : List ℕ) (x : ℕ) → Member x later → stands_with records prefix x ≡ true
      → any_in (said_line records least prefix later).tokens (λ token. eqb x token.item.0) ≡ true
  named-child [] x m h = absurd m
  named-child (item ∷ later) x (inl e) h =
      let stands : stands_with records prefix item ≡ true = subst (λ y. stands_with records prefix y ≡ true) (sym e) h in
      let same : eqb x item ≡ true = eq-eqb x item (sym e) in
      simp (stands, same)
  named-child (item ∷ later) x (inr m) h =
      let ih = named-child later x m h in
      elim (cases_Bool (stands_with records prefix item)) [
        | inl e ↦ simp (e, ih) (or-true (eqb x item))
        | inr e ↦ simp e ih
      ]

  none-such : (test : ℕ → Bool) (xs : List ℕ) → ((x : ℕ) → Member x xs → test x ≡ false) → first_such test xs ≡ None
  none-such test [] h = refl
  none-such test (x ∷ xs) h = let here = h x (inl refl) in rw here (none-such test xs (λ y m. h y (inr m)))

  none-left : (later : List ℕ) → left_out records (record { prefix = prefix; later = later }) (said_line records least prefix later).tokens ≡ None
  none-left later = none-such _ later each
    where
      each : (x : ℕ) → Member x later → (not (any_in (said_line records least prefix later).tokens (λ token. eqb x token.item.0)) && stands_with records
          prefix x) ≡ false
      each x m = elim (cases_Bool (stands_with records prefix x)) [
        | inl e ↦ ap (λ b. not b && stands_with records prefix x) (named-child later x m e)
        | inr e ↦ rw e (and-false (not (any_in (said_line records least prefix later).tokens (λ token. eqb x token.item.0))))
      ]

  -- what stands after an item of an order
  after-front : (front : List ℕ) (x : ℕ) (rest : List ℕ) → Once (front ++ x ∷ rest) → after x (front ++ x ∷ rest) ≡ rest
  after-front [] x rest once = let same : eqb x x ≡ true = eq-eqb x x refl in rw same refl
  after-front (y ∷ front) x rest once =
      let other : eqb x y ≡ false = ne_eqb x y (λ e. once.0
      (subst (λ z. Member z (front ++ x ∷ rest)) e (Member-append_right x front (x ∷ rest) (inl refl)))) in
      rw other (after-front front x rest once.1)

  first-none : {A : Type 0} (o : Option A) (os : List (Option A)) → o ≡ None → first_some os ≡ None → first_some (o ∷ os) ≡ None
  first-none None os h t = t
  first-none (Some x) os h t = cc

  right-bound : (line item : ℕ) (bound sum : ℤ) (b : Bool) → bound ≡ sum → wrong_bound_of line (record { 0 = item }) (cond b (Some bound) None) sum ≡ None
  right-bound line item bound sum true e = let same : int_eq bound sum ≡ true = (Decides-int_eq bound sum).1 e in rw same refl
  right-bound line item bound sum false e = refl

  right-bounds : (line : ℕ) (full front later : List ℕ) → full ≡ front ++ later → Once full
      → first_some (map (wrong_bound line records (record { prefix = prefix; later = full })) (said_line records least prefix later).tokens) ≡ None
  right-bounds line full front [] e once = refl
  right-bounds line full front (item ∷ later) e once =
      let ih = right-bounds line full (front ++ item ∷ []) later (e ∙ sym (append_assoc front (item ∷ []) later)) once in
      let rest : after item full ≡ later = ap (after item) e ∙ after-front front item later (subst Once e once) in
      let bound : child_bound records prefix item later ≡ cut_bound records (prefix ++ item ∷ [])
      (after item full) = ap (cut_bound records (prefix ++ item ∷ [])) (sym rest) in
      elim (cases_Bool (stands_with records prefix item)) [
        | inl h ↦ simp h (first-none _ _ (right-bound line item (child_bound records prefix item later)
            (cut_bound records (prefix ++ item ∷ []) (after item full)) (int_lt (child_bound records prefix item later) least) bound) ih)
        | inr h ↦ simp h ih
      ]

  below-not : (bound : ℤ) → int_lt bound least ≡ true → int_le least bound ≡ false
  below-not bound h = grind (arith, ints)

  above-not : (bound : ℤ) → int_lt bound least ≡ false → int_le least bound ≡ true
  above-not bound h = grind (arith, ints)

  is-cut : (line item : ℕ) (bound : ℤ) (b : Bool) → int_lt bound least ≡ b → not_cut_of line least (record { 0 = item }) (cond b (Some bound) None) ≡ None
  is-cut line item bound true e = let low = below-not bound e in rw low refl
  is-cut line item bound false e = refl

  all-cut : (line : ℕ) (cs : List (ℕ × ℤ)) → first_some (map (not_cut line least) (said_from least prefix (pos 0) cs).tokens) ≡ None
  all-cut line [] = refl
  all-cut line (c ∷ cs) = first-none _ _ (is-cut line c.0 c.1 (int_lt c.1 least) refl) (all-cut line cs)

  -- the line has no fault
  pub no-fault : (line : ℕ) (later : List ℕ) → Once later
      → line_fault records least line (record { prefix = prefix; later = later }) (Some (said_line records least prefix later)) ≡ None
  no-fault line later once =
      let own : bytes_eq prefix prefix ≡ true = (bytes_eq-Decides prefix prefix).1 refl in
      let sum : int_eq (utility records prefix) (utility records prefix) ≡ true = (Decides-int_eq (utility records prefix) (utility records prefix)).1 refl in
      let order = right-children later once in
      let left = none-left later in
      let bounds = right-bounds line later [] later refl once in
      let cut = all-cut line (children_of records prefix later) in
      rw (own, sum, order, left, bounds, cut) refl

  -- the prefixes that it opens
  opened-nodes : (full front later : List ℕ) → full ≡ front ++ later → Once full
      → children (record { prefix = prefix; later = full }) (said_line records least prefix later).tokens ≡ nodes_below records least prefix later
  opened-nodes full front [] e once = refl
  opened-nodes full front (item ∷ later) e once =
      let ih = opened-nodes full (front ++ item ∷ []) later (e ∙ sym (append_assoc front (item ∷ []) later)) once in
      let rest : after item full ≡ later = ap (after item) e ∙ after-front front item later (subst Once e once) in
      let bound = child_bound records prefix item later in
      elim (cases_Bool (stands_with records prefix item)) [
        | inl h ↦ elim (cases_Bool (int_lt bound least)) [
          | inl k ↦ let low = below-not bound k in simp (h, k, low) ih
          | inr k ↦ let high = above-not bound k in simp (h, k, high) (λ j. record { prefix = prefix ++ item ∷ []; later = rest j } ∷ ih j)
        ]
        | inr h ↦ simp h ih
      ]

  pub opened-by : (later : List ℕ) → Once later → opened_by (record { prefix = prefix; later = later })
      (Some (said_line records least prefix later)) ≡ nodes_below records least prefix later
  opened-by later once = opened-nodes later [] later refl once

-- ---- the walk over the lines

-- reading the line of a prefix gives what it says
abbrev pub Reads : List (List (ℕ × ℤ)) → ℤ → List ℕ → List ℕ → Type 0
Reads records least prefix later = said_of (line_of records least prefix later) ≡ Some (said_line records least prefix later)

module _ (records : List (List (ℕ × ℤ))) (least : ℤ) (fine : List ℕ → List ℕ → Type 0)
    (reads : (prefix later : List ℕ) → fine prefix later → Reads records least prefix later)
    (once : (prefix later : List ℕ) → fine prefix later → Once later)
    (deeper : (prefix later : List ℕ) (item : ℕ) → fine prefix (item ∷ later) → fine (prefix ++ item ∷ []) later)
    (further : (prefix later : List ℕ) (item : ℕ) → fine prefix (item ∷ later) → fine prefix later) where
  -- a line and what follows it
  step : (line : ℕ) (prefix later : List ℕ) (nodes : List Node) (rest : List (List ℕ)) → 0 < length rest → fine prefix later
      → walk records least (line + 1) (nodes_below records least prefix later ++ nodes) rest ≡ None
      → walk records least line (record { prefix = prefix; later = later } ∷ nodes) (line_of records least prefix later ∷ rest) ≡ None
  step line prefix later nodes [] some is h = absurd (omega (arith, some))
  step line prefix later nodes (next ∷ rest) some is h =
      let read = reads prefix later is in
      let right = ap (line_fault records least line (record { prefix = prefix; later = later })) read
      ∙ no-fault records least prefix line later (once prefix later is) in
      let opens = ap (opened_by (record { prefix = prefix; later = later })) read ∙ opened-by records least prefix later (once prefix later is) in
      let goes : walk records least (line + 1) (opened_by (record { prefix = prefix; later = later }) (said_of (line_of records least prefix later))
      ++ nodes) (next ∷ rest) ≡ None =
      ap (λ ns. walk records least (line + 1) (ns ++ nodes) (next ∷ rest)) opens ∙ h in
      first-none records least prefix _ _ right (first-none records least prefix _ _ goes refl)

  more_lines : (xs ys : List (List ℕ)) → 0 < length ys → 0 < length (xs ++ ys)
  more_lines [] ys some = some
  more_lines (x ∷ xs) ys some = omega arith

  pub walk-below : (later prefix : List ℕ) (nodes : List Node) (rest : List (List ℕ)) → 0 < length rest → fine prefix later
      → ((line : ℕ) → walk records least line nodes rest ≡ None)
      → (line : ℕ) → walk records least line (nodes_below records least prefix later ++ nodes) (lines_below records least prefix later ++ rest) ≡ None
  walk-below [] prefix nodes rest some is h line = h line
  walk-below (item ∷ later) prefix nodes rest some is h line =
      let after = walk-below later prefix nodes rest some (further prefix later item is) h in
      let below = nodes_below records least prefix later ++ nodes in
      let lines = lines_below records least prefix later ++ rest in
      let inner = walk-below later (prefix ++ item ∷ []) below lines (more_lines (lines_below records least prefix later) rest some)
      (deeper prefix later item is) after in
      let first = step line (prefix ++ item ∷ []) later below (lines_below records least (prefix ++ item ∷ []) later ++ lines)
      (more_lines (lines_below records least (prefix ++ item ∷ []) later) lines (more_lines (lines_below records least prefix later) rest some))
      (deeper prefix later item is) (inner (line + 1)) in
      by (is_opened records least prefix item later) first (after line)
    where
      by : (b : Bool)
          → walk records least line (record { prefix = prefix ++ item ∷ []; later = later } ∷ (nodes_below records least prefix later ++ nodes))
          (line_of records least (prefix ++ item ∷ [])
          later ∷ (lines_below records least (prefix ++ item ∷ []) later ++ (lines_below records least prefix later ++ rest))) ≡ None
          → walk records least line (nodes_below records least prefix later ++ nodes) (lines_below records least prefix later ++ rest) ≡ None
          → walk records least line ((cond b (record { prefix = prefix ++ item ∷ []; later = later } ∷ []) [] ++ nodes_below records least prefix later)
          ++ nodes)
          ((cond b (line_of records least (prefix ++ item ∷ []) later ∷ lines_below records least (prefix ++ item ∷ []) later) []
          ++ lines_below records least prefix later) ++ rest) ≡ None
      by true first after =
          ap (λ ls. walk records least line (record { prefix = prefix ++ item ∷ []; later = later } ∷ (nodes_below records least prefix later ++ nodes))
          (line_of records least (prefix ++ item ∷ []) later ∷ ls))
          (append_assoc (lines_below records least (prefix ++ item ∷ []) later) (lines_below records least prefix later) rest)
          ∙ first
      by false first after = after

  -- all lines of prefixes, to the end of the text
  pub walk-all : (line : ℕ) (order : List ℕ) → fine [] order
      → walk records least line (record { prefix = []; later = order } ∷ [])
      ((line_of records least [] order ∷ lines_below records least [] order) ++ [] ∷ []) ≡ None
  walk-all line order is =
      step line [] order [] (lines_below records least [] order ++ [] ∷ []) (more_lines (lines_below records least [] order) ([] ∷ []) (omega arith)) is
      (walk-below order [] [] ([] ∷ []) (omega arith) is (λ n. refl) (line + 1))
