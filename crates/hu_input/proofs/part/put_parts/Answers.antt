use Rattle.std.proofs.Common.{◌+◌, drop, subst, take}
use Rattle.std.specs.Prelude.{flat_map}
use Rattle.hu_io.specs.State.{Broke}
use Rattle.hu_input.specs.Part.{part_text}
use Rattle.hu_input.proofs.PartLemmas.{Appended-Broke, PutsAll-Broke}
use Rattle.hu_input.proofs.lemmas.Parts.{flat_map-split}
use Rattle.hu_input.proofs.part.put_parts.Goals as goal

pub returns-in_err-put_part : goal.returns-in_err-put_part
returns-in_err-put_part g c =
    let old = g.S.Sink.state c.args.sink.now in
    let new = g.S.Sink.state c.put_part.new.sink in
    let parts = c.args.parts.now in
    let i = c.loop-part.part-index in
    PutsAll-Broke old new c.from_residual.result (flat_map part_text parts) c.from_residual.ensures.0
    (subst (Broke old new) (flat_map-split part_text parts i _ c.loop-part-test.true)
    (Appended-Broke old (g.S.Sink.state c.loop-part.sink) new (flat_map part_text (take i parts)) _
    (flat_map part_text (drop (i + 1) parts)) c.loop-part.invariant c.in_err-put_part.ensures))
