-- What an accepted line says is a sequence: it keeps the rules of one.
use Rattle.std.proofs.Common.{◌≡◌, ℕ, ◌≤◌, ◌^◌, ℤ, nat_lt, false, Option, None, Some, Ok, Err, List, [], ◌∷◌, ◌++◌}
use Rattle.std.proofs.Common.{map, refl, subst, inl, inr, arith, sum_by}
use Rattle.std.specs.List.{AllByRecursion, AllZip, slice_split}
use Rattle.std.specs.Option.{option_map_or}
use Rattle.std.proofs.lemmas.Bool.{cases_lt}
use Rattle.std.proofs.lemmas.Bool.Decides.{nat_tests}
use Rattle.std.proofs.lemmas.List.Elements.{All-from_recursion}
use Rattle.hu_kind.specs.Cells.{by_item, twice}
use Rattle.hu_kind.specs.First.{first_some}
use Rattle.hu_kind.specs.Record.{items_in, absolute_of}
use Rattle.hu_kind.specs.Sequence.{IsSequence}
use Rattle.hu_kind.specs.Token.{tokens}
use Rattle.hu_kind.proofs.lemmas.Each.{each-from_all}
use Rattle.hu_seq.specs.declared.fault.SeqFault.{SeqFault}
use Rattle.hu_seq.specs.declared.fault.SeqFault.TheVariants.{DuplicateItem}
use Rattle.hu_seq.specs.declared.token.Token.{Token}
use Rattle.hu_seq.specs.declared.token.Token.TheVariants.{Cell, ItemsetEnd, SequenceEnd, Total}
use Rattle.hu_seq.specs.Token.{is_itemset_end, is_out_of_range}
use Rattle.hu_seq.specs.Reading.{reading, known, cells, body, itemsets, bad_token, order_faults, cell_faults, faults}
use Rattle.hu_seq.specs.Reading.{duplicate_item, negative, sum_too_large}
use Rattle.hu_seq.specs.Itemset.{IsSound, IsOrdered}
use Rattle.hu_seq.proofs.ByItemLemmas.{IsOrdered-by_item}
use Rattle.hu_seq.proofs.FaultLemmas.{AreTold-from, IsSequence-from, sum_too_large-yes, sound-parts, map_none, item_faults}
use Rattle.hu_seq.proofs.ShapeLemmas.{IsShaped-from}

-- where there is no first of options, each is none
none_here : {A : Type 0} (o : Option A) (os : List (Option A)) → first_some (o ∷ os) ≡ None → (o ≡ None) × (first_some os ≡ None)
none_here None os h = (refl, h)
none_here (Some x) os h = cc

none_append : {A : Type 0} (os more : List (Option A)) → first_some (os ++ more) ≡ None → (first_some os ≡ None) × (first_some more ≡ None)
none_append [] more h = (refl, h)
none_append (None ∷ os) more h = none_append os more h
none_append (Some x ∷ os) more h = cc

-- the cells among tokens in range are in range
cells_in_range : (told : List Token) → AllByRecursion (λ token. is_out_of_range token ≡ false) told
    → AllByRecursion (λ cell. cell.0 ≤ 2147483647) (cells told)
cells_in_range [] all = tt
cells_in_range (Cell item value ∷ told) all =
    let test : nat_lt 2147483647 item ≡ false = all.0 in
    (grind (arith, nat_tests), cells_in_range told all.1)
cells_in_range (ItemsetEnd ∷ told) all = cells_in_range told all.1
cells_in_range (SequenceEnd ∷ told) all = cells_in_range told all.1
cells_in_range (Total sum ∷ told) all = cells_in_range told all.1

-- sound parts of which none has an item twice are ordered
ordered_parts : (parts : List (List Token)) → AllByRecursion IsSound parts
    → first_some (map (λ set. twice (items_in set)) (map cells parts)) ≡ None
    → AllZip IsOrdered (map cells parts) (map by_item (map cells parts))
ordered_parts [] sound none = tt
ordered_parts (part ∷ parts) sound none =
    let here = none_here (twice (items_in (cells part))) (map (λ set. twice (items_in set)) (map cells parts)) none in
    let in_range = cells_in_range part (each-from_all (λ token. is_out_of_range token ≡ false) part sound.0.in_range) in (
      IsOrdered-by_item (cells part) sound.0.some (All-from_recursion (λ cell. cell.0 ≤ 2147483647) (cells part) in_range) here.0,
      ordered_parts parts sound.1 here.1,
    )

-- tokens without a fault make a sequence
told-lawful : (told : List Token) → first_some (order_faults told ++ cell_faults told) ≡ None
    → IsSequence (map by_item (itemsets (body told)))
told-lawful told none =
    let elements = map by_item (itemsets (body told)) in
    let groups = none_append (order_faults told) (cell_faults told) none in
    let shape = IsShaped-from told groups.0 in
    let items = none_append (item_faults told) _ groups.1 in
    let single = none_here (duplicate_item (itemsets (body told))) _ items.1 in
    let above = none_here (negative told) _ single.1 in
    let small = none_here (sum_too_large (cells told)) _ above.1 in
    let sound = each-from_all IsSound (slice_split is_itemset_end (body told)) (sound-parts told shape items.0) in
    let once = map_none (λ item. DuplicateItem (record { 0 = item }))
    (first_some (map (λ set. twice (items_in set)) (itemsets (body told)))) single.0 in
    let kept = AreTold-from told elements shape items.0 (ordered_parts (slice_split is_itemset_end (body told)) sound once) above.0 in
    elim (cases_lt (sum_by absolute_of elements) (2 ^ 127)) [
      | inl fits ↦ IsSequence-from told elements kept fits
      | inr large ↦ let full = sum_too_large-yes told elements kept large in cc
    ]

accepted : (first : Option SeqFault) (sets one : List (List (ℕ × ℤ))) → option_map_or Err first (Ok sets) ≡ Ok one
    → (first ≡ None) × (sets ≡ one)
accepted None sets one h = (refl, cc)
accepted (Some fault) sets one h = cc

-- what an accepted line says
pub reading-lawful : (line : List ℕ) (one : List (List (ℕ × ℤ))) → reading line ≡ Ok one → IsSequence one
unfolding reading
reading-lawful line one h =
    let said = accepted (first_some (faults line)) (map by_item (itemsets (body (known line)))) one h in
    let none = none_here (bad_token (tokens line)) (order_faults (known line) ++ cell_faults (known line)) said.0 in
    subst IsSequence said.1 (told-lawful (known line) none.1)
