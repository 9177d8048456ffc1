use Rattle.std.proofs.Common.{refl, subst, sym}
use Rattle.hu_kind.specs.Cell.{AreItemset}
use Rattle.hu_kind.proofs.lemmas.RecordLemmas.{IsItemset-from_cells, IsItemset-to_cells}
use Rattle.hu_kind.proofs.sequence.Element.new.Goals as goal

pub invariant_of-result : goal.invariant_of-result
invariant_of-result c = IsItemset-from_cells _ (subst AreItemset c.deref.ensures.value (c.if-is_itemset.ensures.0 refl))

pub returns-then-is_itemset-clause-valid : goal.returns-then-is_itemset-clause-valid
returns-then-is_itemset-clause-valid c =
    (λ _. IsItemset-from_cells _ (subst AreItemset c.deref.ensures.value (c.if-is_itemset.ensures.0 refl)), λ _. refl)

pub returns-else-is_itemset-clause-valid : goal.returns-else-is_itemset-clause-valid
returns-else-is_itemset-clause-valid c =
    (λ never. absurd (cc), λ h. c.if-is_itemset.ensures.1 (subst AreItemset (sym c.deref.ensures.value) (IsItemset-to_cells _ h)))
