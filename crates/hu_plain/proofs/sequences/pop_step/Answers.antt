use Rattle.std.proofs.Common.{◌∙◌, ap, pos}
use Rattle.hu_kind.specs.Sequence.{closed}
use Rattle.hu_plain.specs.Growth.{stepped_key}
use Rattle.hu_plain.proofs.SearchLemmas.{popped}
use Rattle.hu_plain.proofs.PlaceLemmas.{popped_closed}
use Rattle.hu_plain.proofs.sequences.pop_step.Goals as goal

pub returns-in-After : goal.returns-in-After
returns-in-After c = λ before e.
    let item = c.in-After.field-0 in
    let first = popped c.pop.result c.args.prefix.now c.pop.new.self (closed before) (pos item.0)
    (e ∙ ap (λ s. stepped_key before s) c.in-After.is) c.pop.ensures.empty c.pop.ensures.last in
    popped_closed c.pop-in-After.result c.pop.new.self c.pop-in-After.new.self before first
    c.pop-in-After.ensures.empty c.pop-in-After.ensures.last c.pop-in-After.ensures.kept
