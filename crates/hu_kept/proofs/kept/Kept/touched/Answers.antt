use Rattle.std.proofs.Common.{◌≡◌, subst, inl, inr, sym, ap, ◌∙◌}
use Rattle.hu_kept.specs.Kept.{Keeping}
use Rattle.hu_kept.specs.Laws.{NoneBelow}
use Rattle.hu_kept.proofs.kept.Kept.touched.Goals as goal

pub returns-clause-either : goal.returns-clause-either
returns-clause-either c =
    let top : c.args.self.now.top ≡ c.self.inside.aim.top = sym (ap (λ (k : Keeping). k.top) c.self.view_is) in
    elim (c.may_lose.ensures c.if-may_lose.false) [
      | inl none ↦ inl (top ∙ none)
      | inr below ↦ inr (subst NoneBelow c.records-else-is_empty.ensures below)
    ]
