use Rattle.std.proofs.Common.{◌≡◌, ℕ, length, take, get_or, false, ◌||◌}
use Rattle.hu_totals.specs.Cells.{among}
use Rattle.hu_rows.proofs.setting.mark.Given as goal

abbrev pub invariant-loop-rank : goal.invariant-loop-rank
invariant-loop-rank l = record {
  len : length l.marks.items ≡ length l.initial.marks.items;
  marks : (rank : ℕ) → get_or l.marks.items rank false ≡ among rank (take l.rank-index l.keep) || get_or l.initial.marks.items rank false;
}
