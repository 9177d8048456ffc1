-- What an intake is seen as.
use Rattle.std.specs.Prelude.{ℕ, List}
use Rattle.hu_lines.specs.Lines.{State}

-- the line that is held, and the records of the file so far
pub record View (R : Type 0) : Type 0 where
  pub lines : State
  pub base : ℕ × List R
