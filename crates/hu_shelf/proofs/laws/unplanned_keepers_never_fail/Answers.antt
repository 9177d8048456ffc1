use Rattle.std.proofs.Common.{◌≡◌, [], ◌∙◌, arith}
use Rattle.std.proofs.lemmas.Grind.{common_steps}
use Rattle.hu_shelf.proofs.laws.unplanned_keepers_never_fail.Goals as goal

pub returns : goal.returns
returns c = λ before now name unplanned plan rose.
    let none : now.plan.failing ≡ [] = plan ∙ unplanned in
    grind (arith, common_steps)
