-- A record's cells over ranks: those after a rank, and what they gain where their ranks are kept.
use Rattle.std.specs.Prelude.{ℕ, ℤ, Bool, ◌+ℤ◌, ◌==◌, pos, nat_lt, if◌then◌else◌, List, [], ◌∷◌}
use Rattle.std.specs.List.{filter, list_any}
use Rattle.hu_kind.specs.Record.{positive_part}

-- the cells after a rank
abbrev pub after : ℕ → List (ℕ × ℤ) → List (ℕ × ℤ)
after z cells = filter (λ cell. nat_lt z cell.0) cells

-- whether a rank is one of these
abbrev pub among : ℕ → List ℕ → Bool
among rank ranks = list_any (λ other. rank == other) ranks

-- the sum of the values above 0 at ranks that are kept
abbrev pub kept_gain : List ℕ → List (ℕ × ℤ) → ℤ
kept_gain keep [] = pos 0
kept_gain keep (cell ∷ cells) =
    (if among cell.0 keep then positive_part cell.1 else pos 0) +ℤ kept_gain keep cells
