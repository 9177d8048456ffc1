use Rattle.std.proofs.Common.{ap, ◌∙◌, inr}
use Rattle.std.specs.Option.{option_map}
use Rattle.hu_kind.specs.Number.{number}
use Rattle.hu_kind.specs.Token.{tokens}
use Rattle.hu_trans.specs.declared.fault.Fault.TheVariants.{BadNumber}
use Rattle.hu_trans.proofs.NumbersLemmas.{bad_token-none, bad_token-some}
use Rattle.hu_trans.proofs.numbers.read_items.Goals as goal

pub returns-in-Err-clause-bad : goal.returns-in-Err-clause-bad
returns-in-Err-clause-bad c =
    let found = c.in-Some.ensures.found in
    let place = c.loop-said.invariant.place in
    let first =
    bad_token-some number (tokens c.args.part.now) (tokens c.loop-said.rest.now) c.loop-said.at found.token _ _
    place found.first (found.value ∙ c.in-Err.is) in
    inr (ap (option_map (BadNumber 1)) first)

pub returns-clause-good : goal.returns-clause-good
returns-clause-good c =
    bad_token-none number (tokens c.args.part.now) (tokens c.loop-said.rest.now) c.loop-said.at
    c.loop-said.invariant.place c.in_default.ensures.none
