use Rattle.std.proofs.Common.{subst, rules}
use Rattle.std.proofs.lemmas.List.Sorted.{IsNonDecreasingBy-from_sort_by_key}
use Rattle.hu_kind.specs.declared.item.Item.{Item}
use Rattle.hu_span.specs.Kept.{IsTable}
use Rattle.hu_span.proofs.KeptLemmas.{of-all, of-known}
use Rattle.hu_span.proofs.kept.Kept.of.Goals as goal

pub invariant_of-result : goal.invariant_of-result
invariant_of-result c = (
  IsNonDecreasingBy-from_sort_by_key (λ (item : Item). item.0) c.sort_unstable_by_key.new.self.items c.sort_unstable_by_key.ensures.sorted
      (λ a r q k. search rules),
  subst (λ items. IsTable items c.in_ok-table.table.items) c.deref.ensures.value c.in_ok-table.ensures,
)

pub returns-clause-known : goal.returns-clause-known
returns-clause-known c item h = of-known c.args.items.items c.sort_unstable_by_key.new.self.items item c.sort_unstable_by_key.ensures.permutation h

pub returns-clause-all : goal.returns-clause-all
returns-clause-all c item among = of-all c.args.items.items c.sort_unstable_by_key.new.self.items item c.sort_unstable_by_key.ensures.permutation among
