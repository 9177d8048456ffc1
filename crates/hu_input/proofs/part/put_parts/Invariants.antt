use Rattle.std.proofs.Common.{take}
use Rattle.std.specs.Prelude.{flat_map}
use Rattle.hu_io.specs.State.{Appended}
use Rattle.hu_input.specs.Part.{part_text}
use Rattle.hu_input.proofs.part.put_parts.Given as goal

-- the parts so far were appended
abbrev pub invariant-loop-part : goal.invariant-loop-part
invariant-loop-part g l =
    Appended (g.S.Sink.state l.initial.sink) (g.S.Sink.state l.sink) (flat_map part_text (take l.part-index l.parts))
