-- The one line in which a sequence is written.
use Rattle.std.specs.Prelude.{◌≡◌, ◌≤◌, ◌==◌, false, length, slice_index, ℕ, ℤ, List, ◌++◌, codes, decimal}
use Rattle.std.specs.Fmt.{signed_decimal}
use Rattle.std.specs.Int.{IsInRange}
use Rattle.std.specs.List.{All, flat_map, sum_by}
use Rattle.hu_kind.specs.Record.{absolute_of}

-- a cell: its item, and in brackets its value
abbrev pub cell_text : ℕ × ℤ → List ℕ
cell_text cell = decimal cell.0 ++ codes "[" ++ signed_decimal cell.1 ++ codes "]"

-- an itemset: its cells and then `-1`, with a space behind each
abbrev pub itemset_text : List (ℕ × ℤ) → List ℕ
itemset_text cells = flat_map (λ cell. cell_text cell ++ codes " ") cells ++ codes "-1 "

-- the itemsets in order, the end, and the sum of the values, of which none is below 0
abbrev pub canonical_line : List (List (ℕ × ℤ)) → List ℕ
canonical_line elements =
    flat_map itemset_text elements
    ++ codes "-2 SUtility:"
    ++ decimal (sum_by absolute_of elements)

-- a line of at most 1,048,576 bytes without a line feed (byte 10) that begins with a digit, so
-- that it isn't skipped
pub record IsPlainLine (line : List ℕ) : Type 0 where
  pub short : length line ≤ 1048576
  pub no_feed : All (λ byte. (byte == 10) ≡ false) line
  pub begins : IsInRange 48 57 (slice_index line 0)
