-- The canonical line of a sequence says that sequence.
use Rattle.std.proofs.Common.{◌≡◌, ℕ, ◌+◌, ◌<◌, ◌≤◌, ◌^◌, nat_lt, ℤ, pos, unsigned_abs, true, false, not, None, Ok, List, [], ◌∷◌, ◌++◌, length, filter_map}
use Rattle.std.proofs.Common.{refl, sym, ap, ◌∙◌, arith, position, sum_by, subst}
use Rattle.std.specs.Bool.{then_some}
use Rattle.std.specs.List.{AllByRecursion, AllZip, count_by, list_any}
use Rattle.std.specs.Option.{option_map}
use Rattle.std.specs.Ordering.{int_eq}
use Rattle.std.proofs.lemmas.Bool.Decides.{nat_tests}
use Rattle.std.proofs.lemmas.List.Elements.{filter_map-append}
use Rattle.std.proofs.lemmas.List.Sorted.{IsPermutation-refl}
use Rattle.std.proofs.lemmas.List.Sums.{sum_by-cons}
use Rattle.hu_kind.specs.First.{first_some}
use Rattle.hu_kind.specs.Record.{items_in, absolute_of, any_negative, IsItemset}
use Rattle.hu_kind.specs.Sequence.{IsSequence}
use Rattle.hu_kind.proofs.lemmas.CellsLemmas.{by_item-ascending, twice-ascending}
use Rattle.hu_kind.proofs.lemmas.Each.{each-append, each-from_all, each-weaker}
use Rattle.hu_kind.proofs.lemmas.CellPlaces.{items_rise}
use Rattle.hu_seq.specs.declared.fault.SeqFault.TheVariants.{TooManyItems, ItemOutOfRange, Negative, TotalDisagrees}
use Rattle.hu_seq.specs.declared.token.Token.{Token}
use Rattle.hu_seq.specs.declared.token.Token.TheVariants.{Cell, ItemsetEnd, SequenceEnd, Total}
use Rattle.hu_seq.specs.Token.{is_cell, is_out_of_range, is_negative, is_total, sum_in}
use Rattle.hu_seq.specs.Reading.{too_many_items, cells, body, itemsets, negative, total_disagrees, reading}
use Rattle.hu_seq.specs.Canonical.{canonical_line}
use Rattle.hu_seq.specs.Itemset.{IsOrdered}
use Rattle.hu_seq.proofs.CanonicalShape.{AreFilled, each-front, any_cells, itemsets-told, order-told}
use Rattle.hu_seq.proofs.CanonicalTokens.{IsSmall, AreSmall, cell_token, front, ending, told_of, told-line}
use Rattle.hu_seq.proofs.FaultLemmas.{AreTold-from, item_faults, cells-body, sum_too_large-no, faults-total, reading-ok}
use Rattle.hu_seq.proofs.ShapeLemmas.{IsShaped-from}
use Rattle.hu_seq.proofs.SumLemmas.{ordered-once, ordered-value, ordered-length, ordered-negative, length-cells, any_negative-cells}
use Rattle.hu_seq.proofs.lemmas.Firsts.{position-none, none-any}

-- ---- the cells of a sequence

small-cells : (cs : List (ℕ × ℤ)) → AllByRecursion (λ c. c.0 ≤ 2147483647) cs → absolute_of cs < 2 ^ 127 → AllByRecursion IsSmall cs
small-cells [] range fits = tt
small-cells (c ∷ cs) range fits =
    let sum = sum_by-cons (λ (cell : ℕ × ℤ). unsigned_abs cell.1) c cs in
    (record { item = omega (arith, range.0); value = omega (arith, sum) }, small-cells cs range.1 (omega (arith, sum)))

each-range : (e : List (ℕ × ℤ)) → IsItemset e → AllByRecursion (λ c. c.0 ≤ 2147483647) e
each-range e is = each-from_all (λ c. c.0 ≤ 2147483647) e is.in_range

small-elements : (elements : List (List (ℕ × ℤ))) → AllByRecursion IsItemset elements → sum_by absolute_of elements < 2 ^ 127 → AreSmall elements
small-elements [] rules fits = tt
small-elements (e ∷ es) rules fits =
    let sum = sum_by-cons absolute_of e es in
    (small-cells e (each-range e rules.0) (omega (arith, sum)), small-elements es rules.1 (omega (arith, sum)))

pub small-sequence : (elements : List (List (ℕ × ℤ))) → IsSequence elements → AreSmall elements
small-sequence elements rules = small-elements elements rules.itemsets rules.sum_fits

pub filled-sequence : (elements : List (List (ℕ × ℤ))) → IsSequence elements → AreFilled elements
filled-sequence elements rules = each-weaker IsItemset (λ (e : List (ℕ × ℤ)). 0 < length e) elements (λ e is. is.some) rules.itemsets

ordered-itself : (e : List (ℕ × ℤ)) → IsItemset e → IsOrdered e e
ordered-itself e is = record {
  value = sym (by_item-ascending e is.ascending);
  permutation = IsPermutation-refl e;
  once = twice-ascending (items_in e) (items_in e) (IsPermutation-refl (items_in e)) (items_rise e is.ascending);
  rules = is;
}

ordered-all : (elements : List (List (ℕ × ℤ))) → AllByRecursion IsItemset elements → AllZip IsOrdered elements elements
ordered-all [] rules = tt
ordered-all (e ∷ es) rules = (ordered-itself e rules.0, ordered-all es rules.1)

-- ---- the faults that the tokens don't have

in_range : (c : ℕ × ℤ) → c.0 ≤ 2147483647 → nat_lt 2147483647 c.0 ≡ false
in_range c h = grind (arith, nat_tests)

each-in_range : (elements : List (List (ℕ × ℤ))) → AllByRecursion IsItemset elements
    → AllByRecursion (AllByRecursion (λ c. is_out_of_range (cell_token c) ≡ false)) elements
each-in_range [] rules = tt
each-in_range (e ∷ es) rules =
    (each-weaker (λ c. c.0 ≤ 2147483647) (λ c. is_out_of_range (cell_token c) ≡ false) e in_range (each-range e rules.0), each-in_range es rules.1)

none-out : (elements : List (List (ℕ × ℤ))) (sum : ℕ) → AllByRecursion IsItemset elements → position is_out_of_range (front elements ++ ending sum) ≡ None
none-out elements sum rules =
    let inside = each-front is_out_of_range elements refl (each-in_range elements rules) in
    position-none is_out_of_range (front elements ++ ending sum)
    (each-append (λ t. is_out_of_range t ≡ false) (front elements) (ending sum) inside (refl, (refl, tt)))

none_stated : (told : List Token) → AllByRecursion (λ t. is_total t ≡ false) told → filter_map sum_in told ≡ []
none_stated [] all = refl
none_stated (Cell item value ∷ told) all = none_stated told all.1
none_stated (ItemsetEnd ∷ told) all = none_stated told all.1
none_stated (SequenceEnd ∷ told) all = none_stated told all.1
none_stated (Total sum ∷ told) all = absurd (let never : true ≡ false = all.0 in cc)

stated : (elements : List (List (ℕ × ℤ))) (sum : ℕ) → filter_map sum_in (front elements ++ ending sum) ≡ pos sum ∷ []
stated elements sum =
    filter_map-append sum_in (front elements) (ending sum)
    ∙ ap (λ first. first ++ pos sum ∷ [])
    (none_stated (front elements) (each-front is_total elements refl (any_cells (λ c. is_total (cell_token c) ≡ false) elements (λ c. refl))))

few-cells : (n : ℕ) → n ≤ 4096 → nat_lt 4096 n ≡ false
few-cells n h = grind (arith, nat_tests)

same-sum : (sum : ℕ) → int_eq (pos sum) (pos sum) ≡ true
same-sum sum = grind (arith, nat_tests)

-- what a sequence's tokens are found to be
pub reading-canonical : (elements : List (List (ℕ × ℤ))) → IsSequence elements → reading (canonical_line elements) ≡ Ok elements
reading-canonical elements rules =
    let sum = sum_by absolute_of elements in
    let told = told_of elements in
    let line = told-line elements (small-sequence elements rules) rules.sum_fits in
    let order = order-told elements sum rules.some (filled-sequence elements rules) in
    let shape = IsShaped-from told order in
    let same : itemsets (body told) ≡ elements = itemsets-told elements sum rules.some in
    let ordered : AllZip IsOrdered (itemsets (body told)) elements =
    subst (λ sets. AllZip IsOrdered sets elements) (sym same) (ordered-all elements rules.itemsets) in
    let inside = cells-body told shape in
    let count : count_by is_cell told ≤ 4096 = omega (arith, length-cells told, ap length inside, ordered-length (body told) elements ordered, rules.few) in
    let many : too_many_items told ≡ None = ap (λ b. then_some b (TooManyItems (count_by is_cell told))) (few-cells (count_by is_cell told) count) in
    let items : first_some (item_faults told) ≡ None =
    ap (λ o. first_some (o ∷ option_map (λ k. ItemOutOfRange (k + 1)) (position is_out_of_range told) ∷ [])) many
    ∙ ap (λ o. first_some (None ∷ option_map (λ k. ItemOutOfRange (k + 1)) o ∷ [])) (none-out elements sum rules.itemsets) in
    let below : list_any is_negative told ≡ false =
    sym (any_negative-cells told) ∙ ap any_negative (sym inside) ∙ sym (ordered-negative (body told) elements ordered) ∙ rules.none_below in
    let above : negative told ≡ None = ap (option_map (λ k. Negative (k + 1))) (position-none is_negative told (none-any is_negative told below)) in
    let kept = AreTold-from told elements shape items ordered above in
    let fits = sum_too_large-no told elements kept rules.sum_fits in
    let agrees : total_disagrees (filter_map sum_in told) (cells told) ≡ None =
    ap (λ sums. total_disagrees sums (cells told)) (stated elements sum)
    ∙ ap (λ z. then_some (not (int_eq (pos sum) z)) (TotalDisagrees (pos sum) z)) kept.sum
    ∙ ap (λ b. then_some (not b) (TotalDisagrees (pos sum) (pos sum))) (same-sum sum) in
    let none = faults-total told order items (ordered-once (itemsets (body told)) elements ordered) above fits ∙ agrees in
    reading-ok (canonical_line elements) told (sym line.known) line.good (Ok elements) (ordered-value (itemsets (body told)) elements ordered) none
