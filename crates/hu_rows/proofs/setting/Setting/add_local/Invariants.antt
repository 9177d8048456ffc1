use Rattle.std.proofs.Common.{◌≡◌, ℕ, ◌+ℤ◌, length, take}
use Rattle.hu_totals.specs.View.{cells_of}
use Rattle.hu_rows.specs.Bounds.{value_at, local_share}
use Rattle.hu_rows.specs.View.{row_of}
use Rattle.hu_rows.proofs.SettingLemmas.{given}
use Rattle.hu_rows.proofs.setting.Setting.add_local.Given as goal

abbrev pub invariant-loop-cell : goal.invariant-loop-cell
invariant-loop-cell l = record {
  kept : l.self.kept ≡ l.initial.self.kept;
  len : length l.self.values ≡ length l.initial.self.values;
  value : (rank : ℕ) → value_at l.self.values rank ≡ value_at l.initial.self.values rank +ℤ given l.initial.self.kept
      (λ _. local_share l.initial.self.kept (row_of l.row)) (cells_of (take l.cell-index l.row.cells.now)) rank;
}
