use Rattle.std.proofs.Common.{◌++◌, ℤ, IsPermutation, rules, sym, subst, to_z, of_z}
use Rattle.std.specs.Int.{w128}
use Rattle.std.proofs.lemmas.Int.{to_z-of_z}
use Rattle.std.proofs.lemmas.List.Sorted.{answers_always}
use Rattle.hu_kind.proofs.lemmas.Falling.{stands_before, stands_before_order, fall-sorted}
use Rattle.hu_span.specs.declared.child.Branch.{Branch}
use Rattle.hu_span.specs.Branch.{AreCopies}
use Rattle.hu_span.proofs.BranchLemmas.{copies-both, copies-permuted, parts-among}
use Rattle.hu_span.proofs.ChildLemmas.{children-both}
use Rattle.hu_span.proofs.child.best_of.Goals as goal

pub returns-clause-best : goal.returns-clause-best
returns-clause-best c rs keep p into after =
    let floor = to_z w128 (of_z w128 c.args.floor) in
    let one = c.in_ok-kept.ensures.branches rs keep p into in
    let two = c.in_ok-later.ensures.branches rs keep p after in
    let all = one.all ++ two.all in
    let sorted = c.sort_unstable_by.new.self.items in
    let bound : Branch → ℤ = λ branch. branch.bound in
    let both = copies-both rs p floor one.all two.all c.in_ok-kept.kept.items c.in_ok-later.later.items one.copies two.copies in
    let copies = copies-permuted rs p floor all c.append.new.self.items sorted (subst (AreCopies rs p floor all) (sym c.in_ok-append.ensures.items) both)
    c.sort_unstable_by.ensures.permutation in
    record {
      all = all;
      are = children-both rs keep p one.all two.all one.are two.are;
      copies = subst (λ f. AreCopies rs p f all sorted) (to_z-of_z w128 c.args.floor c.ranges.floor) copies;
      fall = fall-sorted bound sorted
          (c.sort_unstable_by.ensures.sorted (stands_before bound) (stands_before_order bound) (answers_always _ _ _ (λ f a r f' k. search rules)));
    }

pub returns-clause-parts : goal.returns-clause-parts
returns-clause-parts c branch among =
    parts-among c.args.into.now c.args.after.now c.in_ok-kept.kept.items c.in_ok-later.later.items c.sort_unstable_by.new.self.items branch
    c.in_ok-kept.ensures.parts c.in_ok-later.ensures.parts
    (subst (λ bs. IsPermutation bs c.sort_unstable_by.new.self.items) c.in_ok-append.ensures.items c.sort_unstable_by.ensures.permutation) among
