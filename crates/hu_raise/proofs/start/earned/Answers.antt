use Rattle.std.proofs.Common.{◌<◌, [], ◌∷◌, ◌++◌, length, ap, ◌∙◌, sym, append-nil, arith, rules, FitsSigned}
use Rattle.std.specs.Int.{w128}
use Rattle.std.proofs.lemmas.Int.{to_z-of_z}
use Rattle.hu_raise.proofs.start.earned.Goals as goal
use Rattle.hu_raise.proofs.EarnedLemmas.{earned-step}
use Rattle.hu_raise.proofs.start.earned.Goals.{in-Some+in_ok-push, in_default}

pub loop-index-preserved : goal.loop-index-preserved
loop-index-preserved c =
    let totals = c.args.totals.now in
    let i = c.loop-index.index in
    let before = c.loop-index.utilities.items in
    let within : i < length totals = omega (arith, c.len-index-end.ensures.value) in
    elim c.match-earned_at.branch [
      | in-Some+in_ok-push w ↦
          let one = w.in-Some.utility in
          let fits : FitsSigned w128 one = search rules in
          earned-step totals i before _ (one ∷ []) within c.loop-index.invariant
          (ap (λ v. v.items) w.utilities-is ∙ w.in_ok-push.ensures.items ∙ ap (λ v. before ++ v ∷ []) (to_z-of_z w128 one fits))
          w.in-Some.ensures
      | in_default w ↦
          earned-step totals i before _ [] within c.loop-index.invariant
          (ap (λ v. v.items) w.utilities-is ∙ sym (append-nil before))
          w.in_default.ensures
    ]
