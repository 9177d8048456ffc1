use Rattle.std.proofs.Common.{subst, sym}
use Rattle.hu_kind.specs.Sequence.{IsSequence}
use Rattle.hu_drill.proofs.DrilledLemmas.{IsSequence-elements_of, no_false}
use Rattle.hu_drill.proofs.sequences.next_sequence.Goals as goal

pub unreachable-requires : goal.unreachable-requires
unreachable-requires c =
    no_false
    (c.in-None.ensures.valid.1 (subst IsSequence (sym c.in_ok-next_elements.ensures.value)
    (IsSequence-elements_of c.args.elements c.args.draws.now.state c.requires.some c.requires.elements)))
