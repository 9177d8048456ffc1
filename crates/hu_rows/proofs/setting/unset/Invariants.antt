use Rattle.std.proofs.Common.{◌≡◌, ℕ, pos, length, take, get_or, false, cond}
use Rattle.hu_rows.specs.Bounds.{value_at}
use Rattle.hu_rows.proofs.setting.unset.Given as goal
use Rattle.hu_totals.specs.Cells.{among}

abbrev pub invariant-loop-rank : goal.invariant-loop-rank
invariant-loop-rank l = record {
  len : length l.values.items ≡ length l.initial.values.items;
  marked : length l.marks.items ≡ length l.initial.marks.items;
  values : (rank : ℕ) → value_at l.values.items rank ≡ cond (among rank (take l.rank-index l.kept)) (pos 0) (value_at l.initial.values.items rank);
  marks : (rank : ℕ) → get_or l.marks.items rank false ≡ cond (among rank (take l.rank-index l.kept)) false (get_or l.initial.marks.items rank false);
}
