use Rattle.std.proofs.Common.{◌≡◌, take, map}
use Rattle.hu_kind.specs.Record.{gain}
use Rattle.hu_kind.proofs.value.gain_of.Given as goal

abbrev pub invariant-loop-cell : goal.invariant-loop-cell
invariant-loop-cell g l = l.sum ≡ gain (take l.cell-index (map g.V.Valued.pair l.cells))
