-- What stands past the end of rows and of cells, as they lie in memory.
use Rattle.std.proofs.Common.{pos, []}
use Rattle.hu_totals.specs.declared.ranked.Dense.{Dense}
use Rattle.hu_rows.specs.declared.rows.Row.{Row}

abbrev pub past_row : Row
past_row = record { before = pos 0; count = 0; cells = record { ref_ptr = (0, 0); now = [] } }

abbrev pub past_cell : Dense
past_cell = record { rank = 0; value = pos 0 }
