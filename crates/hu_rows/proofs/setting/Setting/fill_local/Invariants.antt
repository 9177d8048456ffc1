use Rattle.std.proofs.Common.{◌≡◌, ℕ, length, take}
use Rattle.hu_rows.specs.Bounds.{value_at, set_to, local_bound}
use Rattle.hu_rows.specs.View.{rows_of}
use Rattle.hu_rows.proofs.setting.Setting.fill_local.Given as goal

abbrev pub invariant-loop-row : goal.invariant-loop-row
invariant-loop-row l = record {
  kept : l.self.kept ≡ l.keep;
  len : length l.self.values ≡ length l.fn.self.values;
  value : (rank : ℕ) → value_at l.self.values rank ≡ set_to (local_bound (rows_of (take l.row-index l.rows)) l.keep) l.keep rank;
}
