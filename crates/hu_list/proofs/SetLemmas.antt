-- What an ascending set earns in a record whose ranks ascend, and what stands after it there.
use Rattle.std.proofs.Common.{◌≡◌, ℕ, ◌<◌, ◌≤◌, ◌+◌, true, false, cond, eqb, ltb, ◌⊎◌, inl, inr, ℤ, pos, ◌+ℤ◌, ◌≤ℤ◌, unsigned_abs, List, [], ◌∷◌}
use Rattle.std.proofs.Common.{refl, sym, ap, ◌∙◌, subst, arith}
use Rattle.std.specs.List.{AllByRecursion, list_all}
use Rattle.std.proofs.lemmas.Bool.{eq-eqb, ne_eqb, cases_eq, and_parts, and_from, lt-ltb, le-ltb}
use Rattle.std.proofs.lemmas.Int.{ints}
use Rattle.std.proofs.lemmas.List.Sums.{sum_by-cons}
use Rattle.hu_kind.specs.Record.{has, holds, value_of, values_of, positive_part, items_in, absolute_of}
use Rattle.hu_kind.specs.Order.{Ascend}
use Rattle.hu_kind.proofs.lemmas.Earned.{positive_part-upper, positive_part-within}
use Rattle.hu_kind.proofs.lemmas.Occurring.{at_member, above_all, has-member}
use Rattle.hu_list.specs.Nodes.{rest_after}
use Rattle.hu_totals.proofs.lemmas.KeptLemmas.{values_of-skip, holds-skip, part-least}

-- ---- sets without a record's first cell

has-past : (item : ℕ) (cell : ℕ × ℤ) (cells : List (ℕ × ℤ)) → cell.0 < item → has item (cell ∷ cells) ≡ has item cells
has-past item cell cells above = let other : eqb item cell.0 ≡ false = ne_eqb item cell.0 (λ e. absurd (omega arith)) in rw other refl

value_of-first : (item : ℕ) (cell : ℕ × ℤ) (cells : List (ℕ × ℤ)) → item ≡ cell.0 → value_of item (cell ∷ cells) ≡ cell.1
value_of-first item cell cells e = let here : eqb item cell.0 ≡ true = eq-eqb item cell.0 e in rw here refl

-- a set that a record holds begins with the first cell, or stands after it
pub first_held : (s : ℕ) (ss : List ℕ) (cell : ℕ × ℤ) (cells : List (ℕ × ℤ)) → Ascend (s ∷ ss)
    → Ascend (items_in (cell ∷ cells)) → holds (s ∷ ss) (cell ∷ cells) ≡ true
    → ((s ≡ cell.0) × AllByRecursion (λ i. cell.0 < i) ss × (holds ss cells ≡ true)) ⊎
    (AllByRecursion (λ i. cell.0 < i) (s ∷ ss) × (holds (s ∷ ss) cells ≡ true))
first_held s ss cell cells up rise h = elim (cases_eq s cell.0) [
  | inl e ↦
      let above : AllByRecursion (λ i. cell.0 < i) ss = subst (λ x. AllByRecursion (λ i. x < i) ss) e up.0 in
      let both = and_parts (has s (cell ∷ cells)) (holds ss (cell ∷ cells)) h in
      inl (e, above, sym (holds-skip ss cell cells above) ∙ both.1)
  | inr ne ↦
      let both = and_parts (has s (cell ∷ cells)) (holds ss (cell ∷ cells)) h in
      let later : cell.0 < s = elim (has-member s (cell ∷ cells) both.0) [
        | inl e ↦ absurd (ne (sym e))
        | inr m ↦ at_member (λ i. cell.0 < i) s (items_in cells) rise.0 m
      ] in
      let above : AllByRecursion (λ i. cell.0 < i) (s ∷ ss) = (later, above_all cell.0 s ss later up.0) in
      inr (above, sym (holds-skip (s ∷ ss) cell cells above) ∙ h)
]

-- ---- what stands after a set

pub rest_after-least : (set : List ℕ) (cells : List (ℕ × ℤ)) → pos 0 ≤ℤ rest_after set cells
rest_after-least set [] = omega (arith, ints)
rest_after-least set (cell ∷ cells) =
    let ih = rest_after-least set cells in
    let one = part-least (list_all (λ rank. ltb rank cell.0) set) cell.1 in
    omega (arith, ints)

-- ranks below all of a record's don't matter
rest_after-skip : (s : ℕ) (ss : List ℕ) (cells : List (ℕ × ℤ)) → AllByRecursion (λ i. s < i) (items_in cells) → rest_after (s ∷ ss) cells ≡ rest_after ss cells
rest_after-skip s ss [] above = refl
rest_after-skip s ss (cell ∷ cells) above =
    let below : ltb s cell.0 ≡ true = lt-ltb s cell.0 above.0 in
    let ih = rest_after-skip s ss cells above.1 in
    rw below (ap (λ v. cond (list_all (λ rank. ltb rank cell.0) ss) (positive_part cell.1) (pos 0) +ℤ v) ih)

-- a cell that isn't after the first rank doesn't count
rest_after-not : (s : ℕ) (ss : List ℕ) (cell : ℕ × ℤ) (cells : List (ℕ × ℤ)) → cell.0 ≤ s → rest_after (s ∷ ss) (cell ∷ cells) ≡ rest_after (s ∷ ss) cells
rest_after-not s ss cell cells low =
    let not_below : ltb s cell.0 ≡ false = le-ltb s cell.0 low in
    let ih = rest_after (s ∷ ss) cells in
    rw not_below (omega (arith, ints))

-- the node of a set weighs no more than the record
pub weight-within : (cells : List (ℕ × ℤ)) (set : List ℕ) → Ascend set → Ascend (items_in cells) → holds set cells ≡ true
    → unsigned_abs (values_of set cells) + unsigned_abs (rest_after set cells) ≤ absolute_of cells
weight-within [] [] up rise h = omega arith
weight-within [] (s ∷ ss) up rise h = absurd (cc)
weight-within (cell ∷ cells) [] up rise h =
    let ih = weight-within cells [] tt rise.1 refl in
    let size = positive_part-within cell.1 in
    omega (arith, ints, sum_by-cons (λ c. unsigned_abs c.1) cell cells)
weight-within (cell ∷ cells) (s ∷ ss) up rise h = elim (first_held s ss cell cells up rise h) [
  | inl first ↦
      let value = value_of-first s cell cells first.0 in
      let rest = values_of-skip ss cell cells first.1 in
      let here = rest_after-not s ss cell cells (omega (arith, first.0)) in
      let skip = rest_after-skip s ss cells (subst (λ x. AllByRecursion (λ i. x < i) (items_in cells)) (sym first.0) rise.0) in
      let ih = weight-within cells ss up.1 rise.1 first.2 in
      let values : values_of (s ∷ ss) (cell ∷ cells) ≡ cell.1 +ℤ values_of ss cells = λ j. value j +ℤ rest j in
      let after : rest_after (s ∷ ss) (cell ∷ cells) ≡ rest_after ss cells = here ∙ skip in
      rw (values, after) (omega (arith, ints, sum_by-cons (λ c. unsigned_abs c.1) cell cells, ih))
  | inr later ↦
      let values = values_of-skip (s ∷ ss) cell cells later.0 in
      let above : cell.0 < s = later.0.0 in
      let after = rest_after-not s ss cell cells (omega arith) in
      let ih = weight-within cells (s ∷ ss) up rise.1 later.1 in
      rw (values, after) (omega (arith, sum_by-cons (λ c. unsigned_abs c.1) cell cells, ih))
]

-- ranks after a set earn no more than what stands after it
pub values_of-after : (cells : List (ℕ × ℤ)) (set more : List ℕ) → Ascend more → Ascend (items_in cells) → holds more cells ≡ true
    → AllByRecursion (λ m. list_all (λ rank. ltb rank m) set ≡ true) more → values_of more cells ≤ℤ rest_after set cells
values_of-after [] set [] up rise h after = omega (arith, ints)
values_of-after [] set (m ∷ ms) up rise h after = absurd (cc)
values_of-after (cell ∷ cells) set [] up rise h after = rest_after-least set (cell ∷ cells)
values_of-after (cell ∷ cells) set (m ∷ ms) up rise h after = elim (first_held m ms cell cells up rise h) [
  | inl first ↦
      let value = value_of-first m cell cells first.0 in
      let rest = values_of-skip ms cell cells first.1 in
      let values : values_of (m ∷ ms) (cell ∷ cells) ≡ cell.1 +ℤ values_of ms cells = λ j. value j +ℤ rest j in
      let here : list_all (λ rank. ltb rank cell.0) set ≡ true = subst (λ x. list_all (λ rank. ltb rank x) set ≡ true) first.0 after.0 in
      let counts : rest_after set (cell ∷ cells) ≡ positive_part cell.1 +ℤ rest_after set cells =
      ap (λ b. cond b (positive_part cell.1) (pos 0) +ℤ rest_after set cells) here in
      let ih = values_of-after cells set ms up.1 rise.1 first.2 after.1 in
      let part = (positive_part-upper cell.1).0 in
      rw (values, counts) (omega (arith, ints, ih, part))
  | inr later ↦
      let values = values_of-skip (m ∷ ms) cell cells later.0 in
      let one = part-least (list_all (λ rank. ltb rank cell.0) set) cell.1 in
      let ih = values_of-after cells set (m ∷ ms) up rise.1 later.1 after in
      rw values (omega (arith, ints, ih, one))
]

-- ---- two sets

pub list_all-below : (set : List ℕ) (m : ℕ) → AllByRecursion (λ rank. rank < m) set → list_all (λ rank. ltb rank m) set ≡ true
list_all-below [] m all = refl
list_all-below (s ∷ ss) m all = and_from (ltb s m) (list_all (λ rank. ltb rank m) ss) (lt-ltb s m all.0) (list_all-below ss m all.1)
