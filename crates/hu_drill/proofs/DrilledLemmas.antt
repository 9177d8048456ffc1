-- Generated records keep the rules of records.
use Rattle.std.proofs.Common.{◌≡◌, ℕ, zero, suc, ◌+◌, ◌*◌, ◌%◌, ◌<◌, ◌≤◌, ℤ, pos, true, false, ◌++◌, List, [], ◌∷◌, map}
use Rattle.std.proofs.Common.{length, sum_by, get_or, refl, sym, ap, subst, ◌∙◌, arith}
use Rattle.std.specs.Prelude.{unsigned_abs, int_lt}
use Rattle.std.specs.List.{AllByRecursion, All, AllAdjacentBelow, range_with_len, list_any}
use Rattle.std.proofs.lemmas.Int.{ints}
use Rattle.std.proofs.lemmas.List.{map-append}
use Rattle.std.proofs.lemmas.List.FromFn.{length-map-range_with_len, get_or-map-range_with_len, map-range_with_len_more}
use Rattle.std.proofs.lemmas.List.Elements.{All-cons}
use Rattle.std.proofs.Math.Nat.{mod-lt}
use Rattle.hu_kind.specs.declared.item.Cell.{Cell}
use Rattle.hu_kind.specs.Cell.{pair_of, pairs_of}
use Rattle.hu_kind.specs.Record.{absolute_of, any_negative, IsItemset, IsRecord}
use Rattle.hu_base.specs.Base.{carried_of, records_of}
use Rattle.hu_kind.specs.Sequence.{IsSequence}
use Rattle.hu_drill.specs.Draws.{after_draws}
use Rattle.hu_drill.specs.Drilled.{value_from, cell_at, cells_of, element_from, elements_of, drilled, drilled_sequences}
use Rattle.hu_drill.proofs.DrawLemmas.{All-map_range, sum_by-map_range}

-- the cells of places
abbrev cell_of : ℕ → ℕ → ℕ × ℤ
cell_of state place = cell_at place (after_draws (2 * place) state)

-- a cell earns at most 100
cell-most : (state place : ℕ) → unsigned_abs (cell_of state place).1 ≤ 100
cell-most state place = omega (arith, mod-lt (after_draws 2 (after_draws (2 * place) state)) {m = 100} (omega arith))

-- a record earns at most 100 for each of its cells
pub absolute_of-cells_of : (items state : ℕ) → absolute_of (cells_of items state) ≤ 100 * items
absolute_of-cells_of items state = sum_by-map_range (λ cell. unsigned_abs cell.1) (cell_of state) 100 items (cell-most state)

-- the items of a record ascend
rising : (items state : ℕ) → AllAdjacentBelow (λ a b. a.0 < b.0) (cells_of items state) (length (cells_of items state))
rising items state k d below =
    let within : k + 1 < items = omega (arith, below, length-map-range_with_len (cell_of state) 0 items) in
    let here = get_or-map-range_with_len (cell_of state) 0 items k k d (omega (arith, within)) (omega arith) in
    let next = get_or-map-range_with_len (cell_of state) 0 items (k + 1) (k + 1) d within (omega arith) in
    subst (λ a. a.0 < (get_or (cells_of items state) (k + 1) d).0) (sym here)
    (subst (λ b. (cell_of state k).0 < b.0) (sym next) (omega (arith, mod-lt (after_draws 1 (after_draws (2 * k) state)) {m = 7} (omega arith))))

pub IsRecord-cells_of : (items state : ℕ) → 1 ≤ items → items ≤ 4096 → IsRecord (cells_of items state)
IsRecord-cells_of items state some few = record {
  itemset = record {
    some = omega (arith, some, length-map-range_with_len (cell_of state) 0 items);
    ascending = rising items state;
    in_range = All-map_range (λ cell. cell.0 ≤ 2147483647) (cell_of state) items
        (λ place within. omega (arith, within, few, mod-lt (after_draws 1 (after_draws (2 * place) state)) {m = 7} (omega arith)));
  };
  few = omega (arith, few, length-map-range_with_len (cell_of state) 0 items);
  sum_fits = omega (arith, few, absolute_of-cells_of items state);
}

-- so many records earn so much at most
pub sum-drilled : (seed records items : ℕ) → items ≤ 4096 → sum_by absolute_of (drilled seed records items) ≤ 409600 * records
sum-drilled seed records items few =
    sum_by-map_range absolute_of (λ n. cells_of items (after_draws (2 * items * n) seed)) 409600 records
    (λ n. omega (arith, few, absolute_of-cells_of items (after_draws (2 * items * n) seed)))

-- an element is an itemset
pub IsItemset-element_from : (state : ℕ) → IsItemset (element_from state)
IsItemset-element_from state =
    let first = mod-lt (after_draws 1 state) {m = 25} (omega arith) in
    let second = mod-lt (after_draws 3 state) {m = 25} (omega arith) in
    record {
      some = omega arith;
      ascending = λ k d below. two k d below first;
      in_range = All-two (omega (arith, first)) (omega (arith, second));
    }
  where
    two : (k : ℕ) (d : ℕ × ℤ) → k + 1 < 2 → after_draws 1 state % 25 < 25 → (get_or (element_from state) k d).0 < (get_or (element_from state) (k + 1) d).0
    two zero d below first = omega (arith, first)
    two (suc k) d below first = absurd (omega (arith, below))

    All-two : 1 + after_draws 1 state % 25 ≤ 2147483647 → 26 + after_draws 3 state % 25 ≤ 2147483647 → All (λ cell. cell.0 ≤ 2147483647) (element_from state)
    All-two a b =
        let low : ℕ × ℤ → Type 0 = λ cell. cell.0 ≤ 2147483647 in
        All-cons low (1 + after_draws 1 state % 25, value_from (after_draws 2 state)) ((26 + after_draws 3 state % 25, value_from (after_draws 4 state)) ∷ []) a
        (All-cons low (26 + after_draws 3 state % 25, value_from (after_draws 4 state)) [] b (λ i d below. absurd (omega (arith, below))))

-- the elements of a state
abbrev element_of : ℕ → ℕ → List (ℕ × ℤ)
element_of state n = element_from (after_draws (4 * n) state)

-- an element earns at most 200
element-most : (state n : ℕ) → absolute_of (element_of state n) ≤ 200
element-most state n =
    let at = after_draws (4 * n) state in
    omega (arith, mod-lt (after_draws 2 at) {m = 100} (omega arith), mod-lt (after_draws 4 at) {m = 100} (omega arith))

-- a sequence earns at most 200 for each of its elements
pub sum-elements_of : (elements state : ℕ) → sum_by absolute_of (elements_of elements state) ≤ 200 * elements
sum-elements_of elements state = sum_by-map_range absolute_of (element_of state) 200 elements (element-most state)

-- no value of an element is below 0
not_below : (n : ℕ) → int_lt (pos n) (pos 0) ≡ false
not_below n = grind (arith, ints)

none_here : (state : ℕ) → any_negative (element_from state) ≡ false
none_here state = rw (not_below (1 + after_draws 2 state % 100), not_below (1 + after_draws 4 state % 100))

none_below : (f : ℕ → ℕ) (from n : ℕ) → list_any any_negative (map (λ i. element_from (f i)) (range_with_len from n)) ≡ false
none_below f from zero = refl
none_below f from (suc n) = rw (none_here (f from), none_below f (from + 1) n)

-- each element is an itemset
all_itemsets : (f : ℕ → ℕ) (from n : ℕ) → AllByRecursion IsItemset (map (λ i. element_from (f i)) (range_with_len from n))
all_itemsets f from zero = tt
all_itemsets f from (suc n) = (IsItemset-element_from (f from), all_itemsets f (from + 1) n)

pub IsSequence-elements_of : (elements state : ℕ) → 1 ≤ elements → elements ≤ 2048 → IsSequence (elements_of elements state)
IsSequence-elements_of elements state some few = record {
  itemsets = all_itemsets (λ n. after_draws (4 * n) state) 0 elements;
  some = omega (arith, some, length-map-range_with_len (element_of state) 0 elements);
  few = omega (arith, few, sum_by-map_range length (element_of state) 2 elements (λ n. omega arith));
  none_below = none_below (λ n. after_draws (4 * n) state) 0 elements;
  sum_fits = omega (arith, few, sum-elements_of elements state);
}

-- so many sequences earn so much at most
pub sum-drilled_sequences : (seed records elements : ℕ) → elements ≤ 2048
    → sum_by (sum_by absolute_of) (drilled_sequences seed records elements) ≤ 409600 * records
sum-drilled_sequences seed records elements few =
    sum_by-map_range (sum_by absolute_of) (λ n. elements_of elements (after_draws (4 * elements * n) seed)) 409600 records
    (λ n. omega (arith, few, sum-elements_of elements (after_draws (4 * elements * n) seed)))

-- cells with the next one
pub cells_of-more : (cells : List Cell) (cell : Cell) (place state : ℕ) → pairs_of cells ≡ cells_of place state → pair_of cell ≡ cell_of state place
    → pairs_of (cells ++ cell ∷ []) ≡ cells_of (place + 1) state
cells_of-more cells cell place state before next =
    map-append pair_of cells (cell ∷ []) ∙ ap (λ l. l ++ pair_of cell ∷ []) before ∙ ap (λ c. cells_of place state ++ c ∷ []) next
    ∙ sym (map-range_with_len_more (cell_of state) 0 place place (omega arith))

-- what can't be
pub no_false : false ≡ true → ⊥
no_false h = cc

-- records with the next one
pub drilled-more : (seed records items : ℕ) (one : List (ℕ × ℤ)) (base next : ℕ × List (List (ℕ × ℤ))) → base ≡ (0, drilled seed records items)
    → one ≡ cells_of items (after_draws (2 * items * records) seed) → next
    ≡ (carried_of base, records_of base ++ one ∷ []) → next ≡ (0, drilled seed (records + 1) items)
drilled-more seed records items one base next before is more =
    let all = ap (λ l. l ++ one ∷ []) (ap records_of before) ∙ ap (λ r. drilled seed records items ++ r ∷ []) is
    ∙ sym (map-range_with_len_more (λ n. cells_of items (after_draws (2 * items * n) seed)) 0 records records (omega arith)) in
    more ∙ (λ i. (carried_of (before i), all i))

-- elements with the next one
pub elements_of-more : (list next : List (List (ℕ × ℤ))) (one : List (ℕ × ℤ)) (elements state : ℕ) → list ≡ elements_of elements state
    → one ≡ element_of state elements → next ≡ list ++ one ∷ [] → next ≡ elements_of (elements + 1) state
elements_of-more list next one elements state before is more =
    more ∙ ap (λ l. l ++ one ∷ []) before ∙ ap (λ e. elements_of elements state ++ e ∷ []) is
    ∙ sym (map-range_with_len_more (element_of state) 0 elements elements (omega arith))

-- sequences with the next one
pub drilled_sequences-more : (seed records elements : ℕ) (one : List (List (ℕ × ℤ)))
    (base next : ℕ × List (List (List (ℕ × ℤ)))) → base ≡ (0, drilled_sequences seed records elements)
    → one ≡ elements_of elements (after_draws (4 * elements * records) seed) → next
    ≡ (carried_of base, records_of base ++ one ∷ []) → next ≡ (0, drilled_sequences seed (records + 1) elements)
drilled_sequences-more seed records elements one base next before is more =
    let all = ap (λ l. l ++ one ∷ []) (ap records_of before) ∙ ap (λ r. drilled_sequences seed records elements ++ r ∷ []) is
    ∙ sym (map-range_with_len_more (λ n. elements_of elements (after_draws (4 * elements * n) seed)) 0 records records (omega arith)) in
    more ∙ (λ i. (carried_of (before i), all i))

-- each of these sequences keeps the rules of a sequence
AllIsSequence-range : (seed elements from records : ℕ) → 1 ≤ elements → elements ≤ 2048
    → AllByRecursion IsSequence (map (λ n. elements_of elements (after_draws (4 * elements * n) seed))
    (range_with_len from records))
AllIsSequence-range seed elements from zero some few = tt
AllIsSequence-range seed elements from (suc n) some few =
    (IsSequence-elements_of elements (after_draws (4 * elements * from) seed) some few, AllIsSequence-range seed elements (from + 1) n some few)

pub AllIsSequence-drilled : (seed records elements : ℕ) → 1 ≤ elements → elements ≤ 2048 → AllByRecursion IsSequence (drilled_sequences seed records elements)
AllIsSequence-drilled seed records elements some few = AllIsSequence-range seed elements 0 records some few
