-- What a search keeps for ranks has room for all of them.
use Rattle.std.specs.Prelude.{◌≡◌, ℕ}
use Rattle.hu_list.specs.declared.level.Board.{Board}

-- both of its slots have room for the ranks below a number
pub record HasRoom (board : Board) (n : ℕ) : Type 0 where
  pub kept : board.kept.room ≡ n
  pub found : board.found.room ≡ n
