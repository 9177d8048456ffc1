use Rattle.std.proofs.Common.{◌≡◌, take}
use Rattle.hu_totals.specs.Adding.{pairs_with}
use Rattle.hu_totals.specs.Totals.{item_totals}
use Rattle.hu_totals.proofs.totals.Totals.of.Given as goal

abbrev pub invariant-loop-record : goal.invariant-loop-record
invariant-loop-record l = pairs_with l.totals.entries ≡ item_totals (take l.record-index l.record-items)
