use Rattle.std.proofs.Common.{◌∷◌, [], length, ap, ◌∙◌, inr, arith, rules, FitsSigned}
use Rattle.std.specs.Int.{w128}
use Rattle.std.proofs.lemmas.Int.{to_z-of_z}
use Rattle.std.proofs.lemmas.List.{length-append}
use Rattle.std.specs.Option.{option_map}
use Rattle.hu_kind.specs.Number.{signed_number}
use Rattle.hu_kind.specs.Token.{tokens}
use Rattle.hu_trans.specs.declared.fault.Fault.TheVariants.{BadNumber}
use Rattle.hu_trans.proofs.NumbersLemmas.{bad_from-more, bad_token-none, bad_token-some, numbers-more}
use Rattle.hu_trans.proofs.numbers.read_utilities.Goals as goal

pub returns-in-Err-clause-bad : goal.returns-in-Err-clause-bad
returns-in-Err-clause-bad c =
    let found = c.in-Some.ensures.found in
    let place = c.loop-said.invariant.place in
    let first =
    bad_token-some signed_number (tokens c.args.part.now)
    (tokens c.loop-said.rest.now) c.loop-said.at found.token _ _ place found.first (found.value ∙ c.in-Err.is) in
    inr (ap (option_map (BadNumber 3)) first)

pub returns-clause-good : goal.returns-clause-good
returns-clause-good c =
    bad_token-none signed_number (tokens c.args.part.now)
    (tokens c.loop-said.rest.now) c.loop-said.at c.loop-said.invariant.place c.in_default.ensures.none

pub loop-said-preserved : goal.loop-said-preserved
loop-said-preserved c =
    let found = c.in-Some.ensures.found in
    let said = found.value ∙ c.in-Ok.is in
    let fits : FitsSigned w128 c.in-Ok.value = search rules in
    let push = c.in_ok-push-in-Ok.ensures.ok in
    record {
      so_far =
          numbers-more signed_number c.loop-said.utilities.items c.push.new.self.items (tokens c.loop-said.rest.now)
          (tokens c.in-Some.left.now) found.token _ _ _
          found.first said (to_z-of_z w128 c.in-Ok.value fits) push c.loop-said.invariant.so_far;
      place = c.loop-said.invariant.place ∙ bad_from-more signed_number c.loop-said.at (tokens c.loop-said.rest.now)
          (tokens c.in-Some.left.now) found.token _ found.first said;
      count = omega (
        arith,
        c.in_ok-push-in-Ok.ensures.len,
        c.loop-said.invariant.count,
        ap length push,
        length-append c.loop-said.utilities.items (c.in-Ok.value ∷ []),
      );
      few = omega (arith, c.loop-said.invariant.few, c.in-Some.ensures.shorter);
    }
