-- Lines that hold no record.
use Rattle.std.specs.Prelude.{ℕ, ◌==◌, ◌||◌, Bool, List, slice_index}
use Rattle.std.specs.List.{list_all}

-- whether a line begins with `#`, `%` or `@` (bytes 35, 37 and 64)
abbrev pub is_marked : List ℕ → Bool
is_marked line = slice_index line 0 == 35 || slice_index line 0 == 37 || slice_index line 0 == 64

-- whether a line is skipped: it has no byte but spaces (byte 32), or begins with a mark
abbrev pub is_skipped_line : List ℕ → Bool
is_skipped_line line = list_all (λ b. b == 32) line || is_marked line
