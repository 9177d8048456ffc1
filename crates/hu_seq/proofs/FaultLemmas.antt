-- The first fault of a line, and what stands where a check finds none.
use Rattle.std.proofs.Common.{◌≡◌, ℕ, ◌+◌, ◌-◌, ◌^◌, ◌<◌, ◌≤◌, ℤ, pos, int_lt, nat_lt, Bool, true, false, Option, None, Some, Result, Ok, Err, List, [], ◌∷◌}
use Rattle.std.proofs.Common.{◌++◌, map, refl, sym, ap, ◌∙◌, length, get_or, arith, sum_by, filter_map, IfOk, IfErr, OnOk, ◌⊎◌, inl, inr}
use Rattle.std.specs.Bool.{then_some}
use Rattle.std.specs.List.{All, AllByRecursion, AllZip, count_by, list_any, position, position_or_len, slice_split}
use Rattle.std.specs.Option.{option_map, option_map_or}
use Rattle.std.proofs.lemmas.Bool.{cases_lt, or_parts}
use Rattle.std.proofs.lemmas.Bool.Decides.{nat_tests}
use Rattle.std.proofs.lemmas.List.{append-nil, length-map}
use Rattle.std.proofs.lemmas.List.Elements.{filter_map-append}
use Rattle.std.proofs.lemmas.List.Folds.{list_any-append, list_any_none}
use Rattle.std.proofs.lemmas.List.Splits.{length-slice_split}
use Rattle.std.proofs.lemmas.List.Sums.{fails_before_first}
use Rattle.hu_kind.specs.Cells.{by_item}
use Rattle.hu_kind.specs.First.{first_some}
use Rattle.hu_kind.proofs.lemmas.FirstLemmas.{first_skip, first_here, first_alone, first_later, first_before}
use Rattle.hu_kind.specs.Record.{IsItemset, total, absolute_of, any_negative}
use Rattle.hu_kind.specs.Sequence.{IsSequence}
use Rattle.hu_kind.specs.Token.{tokens}
use Rattle.hu_seq.specs.declared.fault.SeqFault.{SeqFault}
use Rattle.hu_seq.specs.declared.fault.SeqFault.TheVariants.{TooManyItems, ItemOutOfRange, Negative, SumTooLarge, NoMemory}
use Rattle.hu_seq.specs.declared.token.Token.{Token}
use Rattle.hu_seq.specs.declared.token.Token.TheVariants.{ItemsetEnd, SequenceEnd}
use Rattle.hu_seq.specs.Token.{is_cell, is_itemset_end, is_out_of_range, is_negative, pair_in, sum_in}
use Rattle.hu_seq.specs.Reading.{known, cells, body, itemsets, bad_token, too_many_items, item_out_of_range, duplicate_item, negative, sum_too_large}
use Rattle.hu_seq.specs.Reading.{total_disagrees, order_faults, cell_faults, reading}
use Rattle.hu_seq.specs.Itemset.{IsSound, IsOrdered}
use Rattle.hu_seq.proofs.ShapeLemmas.{IsShaped, IsShaped-full, not_any, then_none}
use Rattle.hu_seq.proofs.SumLemmas.{any-parts, end_in_range, ordered-length, ordered-absolute, ordered-negative, ordered-some, length-cells, any_negative-cells}
use Rattle.hu_seq.proofs.SumLemmas.{total-absolute, cells-after}

-- ---- the faults of known tokens, one group of checks after another

abbrev all_faults : List Token → List (Option SeqFault)
all_faults told = order_faults told ++ cell_faults told

abbrev pub item_faults : List Token → List (Option SeqFault)
item_faults told = too_many_items told ∷ item_out_of_range told ∷ []

abbrev later_faults : List Token → List (Option SeqFault)
later_faults told =
    duplicate_item (itemsets (body told)) ∷ negative told ∷ sum_too_large (cells told) ∷ total_disagrees
    (filter_map sum_in told) (cells told) ∷ []

pub faults-order : (told : List Token) (fault : SeqFault) → first_some (order_faults told) ≡ Some fault → first_some (all_faults told) ≡ Some fault
faults-order told fault h = first_before (order_faults told) (cell_faults told) fault h

pub faults-items : (told : List Token) (fault : SeqFault) → first_some (order_faults told) ≡ None
    → first_some (item_faults told) ≡ Some fault → first_some (all_faults told) ≡ Some fault
faults-items told fault order h = first_later (order_faults told) (cell_faults told) order ∙ first_before (item_faults told) (later_faults told) fault h

later : (told : List Token) → first_some (order_faults told) ≡ None → first_some (item_faults told) ≡ None
    → first_some (all_faults told) ≡ first_some (later_faults told)
later told order items = first_later (order_faults told) (cell_faults told) order ∙ first_later (item_faults told) (later_faults told) items

pub faults-twice : (told : List Token) (fault : SeqFault) → first_some (order_faults told) ≡ None → first_some (item_faults told) ≡ None
    → duplicate_item (itemsets (body told)) ≡ Some fault → first_some (all_faults told) ≡ Some fault
faults-twice told fault order items h = later told order items ∙ first_here _ _ fault h

pub faults-negative : (told : List Token) (fault : SeqFault) → first_some (order_faults told) ≡ None → first_some (item_faults told) ≡ None
    → duplicate_item (itemsets (body told)) ≡ None → negative told ≡ Some fault → first_some (all_faults told) ≡ Some fault
faults-negative told fault order items once h = later told order items ∙ first_skip _ _ once ∙ first_here _ _ fault h

pub faults-sum : (told : List Token) (fault : SeqFault) → first_some (order_faults told) ≡ None → first_some (item_faults told) ≡ None
    → duplicate_item (itemsets (body told)) ≡ None → negative told ≡ None → sum_too_large (cells told) ≡ Some fault → first_some (all_faults told) ≡ Some fault
faults-sum told fault order items once above h = later told order items ∙ first_skip _ _ once ∙ first_skip _ _ above ∙ first_here _ _ fault h

pub faults-total : (told : List Token) → first_some (order_faults told) ≡ None → first_some (item_faults told) ≡ None
    → duplicate_item (itemsets (body told)) ≡ None → negative told ≡ None → sum_too_large (cells told) ≡ None
    → first_some (all_faults told) ≡ total_disagrees (filter_map sum_in told) (cells told)
faults-total told order items once above fits =
    later told order items ∙ first_skip _ _ once ∙ first_skip _ _ above ∙ first_skip _ _ fits
    ∙ first_alone (total_disagrees (filter_map sum_in told) (cells told))

-- ---- the reading of a line

pub reading-bad : (line : List ℕ) (fault : SeqFault) → bad_token (tokens line) ≡ Some fault → reading line ≡ Err fault
unfolding reading
reading-bad line fault h =
    ap (λ first. option_map_or Err first (Ok (map by_item (itemsets (body (known line))))))
    (first_here (bad_token (tokens line)) (all_faults (known line)) fault h)

reading-from : (line : List ℕ) (told : List Token) → told ≡ known line → bad_token (tokens line) ≡ None → reading line
    ≡ option_map_or Err (first_some (all_faults told)) (Ok (map by_item (itemsets (body told))))
unfolding reading
reading-from line told is h =
    ap (λ first. option_map_or Err first (Ok (map by_item (itemsets (body (known line)))))) (first_skip (bad_token (tokens line)) (all_faults (known line)) h)
    ∙ ap (λ ts. option_map_or Err (first_some (all_faults ts)) (Ok (map by_item (itemsets (body ts))))) (sym is)

-- ---- what stands where a check finds no fault

none_passes : (test : Token → Bool) (told : List Token) → position test told ≡ None → list_any test told ≡ false
none_passes test told none =
    let past : length told ≤ position_or_len test told = grind (arith, nat_tests) in
    list_any_none test told (λ k d within. fails_before_first test told k d (omega arith))

pub map_none : {A B : Type 0} (f : A → B) (o : Option A) → option_map f o ≡ None → o ≡ None
map_none f None h = refl
map_none f (Some x) h = cc

two_none : {A : Type 0} (a b : Option A) → first_some (a ∷ b ∷ []) ≡ None → (a ≡ None) × (b ≡ None)
two_none None None h = (refl, refl)
two_none (Some x) b h = cc
two_none None (Some x) h = cc

at_most : (n : ℕ) → nat_lt 4096 n ≡ false → n ≤ 4096
at_most n h = grind (arith, nat_tests)

-- the parts of the body may make itemsets
pub sound-parts : (told : List Token) → IsShaped told → first_some (item_faults told) ≡ None → All IsSound (slice_split is_itemset_end (body told))
sound-parts told shape items =
    let places = two_none (too_many_items told) (item_out_of_range told) items in
    let none : list_any is_out_of_range told ≡ false =
    none_passes is_out_of_range told (map_none (λ k. ItemOutOfRange (k + 1))
    (position is_out_of_range told) places.1) in
    let front : list_any is_out_of_range (body told) ≡ false =
    (or_parts (list_any is_out_of_range (body told)) (list_any is_out_of_range (ItemsetEnd ∷ SequenceEnd ∷ shape.rest))
    (sym (list_any-append is_out_of_range (body told) (ItemsetEnd ∷ SequenceEnd ∷ shape.rest)) ∙ sym (ap (list_any is_out_of_range) shape.is) ∙ none)).0 in
    let parts : list_any (list_any is_out_of_range) (slice_split is_itemset_end (body told)) ≡ false =
    any-parts is_out_of_range end_in_range (body told) ∙ front in
    λ k d within. record {
      some = IsShaped-full told shape k d within;
      in_range =
          λ j e inside. not_any is_out_of_range (get_or (slice_split is_itemset_end (body told)) k d) j e inside
          (not_any (list_any is_out_of_range) (slice_split is_itemset_end (body told)) k d within parts);
    }

-- the cells of a line are those of its body
pub cells-body : (told : List Token) → IsShaped told → cells (body told) ≡ cells told
cells-body told shape = sym (
    ap cells shape.is
    ∙ filter_map-append pair_in (body told) (ItemsetEnd ∷ SequenceEnd ∷ shape.rest)
    ∙ ap (λ more. cells (body told) ++ more) (cells-after shape.rest shape.after)
    ∙ append-nil (cells (body told))
    )

ordered-rules : (sets elements : List (List (ℕ × ℤ))) → AllZip IsOrdered sets elements → AllByRecursion IsItemset elements
ordered-rules [] [] h = tt
ordered-rules [] (e ∷ es) h = absurd h
ordered-rules (s ∷ ss) [] h = absurd h
ordered-rules (s ∷ ss) (e ∷ es) h = (h.0.rules, ordered-rules ss es h.1)

-- what the elements of a line keep, before their sum is looked at
pub record AreTold (told : List Token) (elements : List (List (ℕ × ℤ))) : Type 0 where
  pub itemsets : AllByRecursion IsItemset elements
  pub some : 0 < length elements
  pub few : sum_by length elements ≤ 4096
  pub none_below : list_any any_negative elements ≡ false
  pub sum : total (cells told) ≡ pos (sum_by absolute_of elements)

pub AreTold-from : (told : List Token) (elements : List (List (ℕ × ℤ))) → IsShaped told → first_some (item_faults told)
    ≡ None → AllZip IsOrdered (itemsets (body told)) elements → negative told ≡ None → AreTold told elements
AreTold-from told elements shape items ordered above =
    let places = two_none (too_many_items told) (item_out_of_range told) items in
    let count : count_by is_cell told ≤ 4096 =
    at_most (count_by is_cell told) (then_none (nat_lt 4096 (count_by is_cell told))
    (TooManyItems (count_by is_cell told)) places.0) in
    let same = cells-body told shape in
    let below : any_negative (cells told) ≡ false = any_negative-cells told
    ∙ none_passes is_negative told (map_none (λ k. Negative (k + 1)) (position is_negative told) above) in
    record {
      itemsets = ordered-rules (itemsets (body told)) elements ordered;
      some = omega (
        arith,
        ordered-some (itemsets (body told)) elements ordered,
        length-map (slice_split is_itemset_end (body told)) cells,
        length-slice_split is_itemset_end (body told),
      );
      few = omega (arith, ordered-length (body told) elements ordered, ap length same, length-cells told);
      none_below = ordered-negative (body told) elements ordered ∙ ap any_negative same ∙ below;
      sum = total-absolute (cells told) below ∙ ap (λ pairs. pos (absolute_of pairs)) (sym same) ∙ ap pos (sym (ordered-absolute (body told) elements ordered));
    }

pub IsSequence-from : (told : List Token) (elements : List (List (ℕ × ℤ))) → AreTold told elements → sum_by absolute_of elements < 2 ^ 127 → IsSequence elements
IsSequence-from told elements kept fits = record { itemsets = kept.itemsets; some = kept.some; few = kept.few; none_below = kept.none_below; sum_fits = fits }

large : (sum : ℕ) → 2 ^ 127 ≤ sum → int_lt (pos (2 ^ 127 - 1)) (pos sum) ≡ true
large sum h = grind (arith, nat_tests)

small : (sum : ℕ) → sum < 2 ^ 127 → int_lt (pos (2 ^ 127 - 1)) (pos sum) ≡ false
small sum h = grind (arith, nat_tests)

pub sum_too_large-yes : (told : List Token) (elements : List (List (ℕ × ℤ))) → AreTold told elements
    → 2 ^ 127 ≤ sum_by absolute_of elements → sum_too_large (cells told) ≡ Some SumTooLarge
sum_too_large-yes told elements kept h =
    ap (λ test. then_some test SumTooLarge) (ap (int_lt (pos (2 ^ 127 - 1))) kept.sum ∙ large (sum_by absolute_of elements) h)

pub sum_too_large-no : (told : List Token) (elements : List (List (ℕ × ℤ))) → AreTold told elements
    → sum_by absolute_of elements < 2 ^ 127 → sum_too_large (cells told) ≡ None
sum_too_large-no told elements kept h =
    ap (λ test. then_some test SumTooLarge) (ap (int_lt (pos (2 ^ 127 - 1))) kept.sum ∙ small (sum_by absolute_of elements) h)

-- elements that make no sequence have too large a sum
pub sum_too_large-from : (told : List Token) (elements : List (List (ℕ × ℤ))) → AreTold told elements
    → (IsSequence elements → ⊥) → sum_too_large (cells told) ≡ Some SumTooLarge
sum_too_large-from told elements kept never =
    elim (cases_lt (sum_by absolute_of elements) (2 ^ 127)) [
      | inl fits ↦ absurd (never (IsSequence-from told elements kept fits))
      | inr large ↦ sum_too_large-yes told elements kept large
    ]

-- ---- what is read of a line whose tokens are known

pub reading-ok : (line : List ℕ) (told : List Token) → told ≡ known line → bad_token (tokens line) ≡ None → (read : Result (List (List (ℕ × ℤ))) SeqFault)
    → IfOk read (λ one. one ≡ map by_item (itemsets (body told))) → OnOk read (first_some (all_faults told) ≡ None) → IfOk read (λ one. reading line ≡ Ok one)
reading-ok line told is good (Ok one) value none =
    reading-from line told is good ∙ ap (λ first. option_map_or Err first (Ok (map by_item (itemsets (body told))))) none ∙ ap Ok (sym value)
reading-ok line told is good (Err fault) value none = tt

pub reading-err : (line : List ℕ) (told : List Token) → told ≡ known line → bad_token (tokens line) ≡ None → (read : Result (List (List (ℕ × ℤ))) SeqFault)
    → IfErr read (λ fault. (fault ≡ NoMemory) ⊎ (first_some (all_faults told) ≡ Some fault))
    → IfErr read (λ fault. (fault ≡ NoMemory) ⊎ (reading line ≡ Err fault))
reading-err line told is good (Ok one) fault = tt
reading-err line told is good (Err e) (inl memory) = inl memory
reading-err line told is good (Err e) (inr first) =
    inr (reading-from line told is good ∙ ap (λ first. option_map_or Err first (Ok (map by_item (itemsets (body told))))) first)
