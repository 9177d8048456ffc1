use Rattle.std.proofs.Common.{subst, sym}
use Rattle.hu_kind.specs.Record.{IsRecord}
use Rattle.hu_drill.proofs.DrilledLemmas.{IsRecord-cells_of, no_false}
use Rattle.hu_drill.proofs.records.next_record.Goals as goal

pub unreachable-requires : goal.unreachable-requires
unreachable-requires c =
    no_false
    (c.in-None.ensures.valid.1 (subst IsRecord (sym c.in_ok-cells.ensures.value)
    (IsRecord-cells_of c.args.items c.args.draws.now.state c.requires.some c.requires.items)))
