use Rattle.std.proofs.Common.{refl, sym, subst, rules, SFits}
use Rattle.std.specs.Int.{w128}
use Rattle.std.proofs.lemmas.Int.{to_z-of_z}
use Rattle.hu_span.specs.Branch.{IsPushed}
use Rattle.hu_span.proofs.child.push_if.Goals as goal

pub returns-in_ok-push : goal.returns-in_ok-push
returns-in_ok-push c =
    let child = c.args.child.now in
    let fits : SFits w128 child.bound = search rules in
    subst (λ b. IsPushed b c.args.held.now c.args.kept.now.items c.push.new.self.items child) (sym c.if-is_kept.true) (
      _,
      c.in_ok-push.ensures.items,
      record {
        step = refl;
        marks = c.in_ok-own.ensures.marks child.step.item.0 c.requires.last;
        spans = c.in_ok-own.ensures.spans child.step.item.0 c.requires.last;
        bound = to_z-of_z w128 child.bound fits;
      },
    )

pub returns-else-is_kept : goal.returns-else-is_kept
returns-else-is_kept c =
    subst (λ b. IsPushed b c.args.held.now c.args.kept.now.items c.args.kept.now.items c.args.child.now) (sym c.if-is_kept.false) refl
