use Rattle.std.proofs.Common.{rules, ℤ}
use Rattle.std.proofs.lemmas.List.Sorted.{answers_always}
use Rattle.hu_kind.proofs.lemmas.Falling.{stands_before, stands_before_order, fall-sorted}
use Rattle.hu_search.specs.declared.child.Child.{Child}
use Rattle.hu_search.proofs.child.best_first.Goals as goal

pub returns-clause-fall : goal.returns-clause-fall
returns-clause-fall c =
    let bound : Child → ℤ = λ child. child.bound in
    fall-sorted bound c.sort_unstable_by.new.self.items
    (c.sort_unstable_by.ensures.sorted (stands_before bound) (stands_before_order bound) (answers_always _ _ _ (λ f a r f' k. search rules)))
