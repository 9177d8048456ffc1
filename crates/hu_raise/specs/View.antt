-- A gate of pairs is seen as a table, and rests without lives.
use Rattle.std.specs.Prelude.{ℕ, ℤ, List, map}
use Rattle.std.specs.List.{All}
use Rattle.std.specs.List.Sorted.{IsStrictlyIncreasing}
use Rattle.std.specs.declared.vec.Vec.{Vec}
use Rattle.std.specs.declared.alloc.Global.{Global}
use Rattle.hu_totals.specs.View.{lists_in}
use Rattle.hu_raise.specs.declared.rests.Rest.{Rest}
use Rattle.hu_raise.specs.Partners.{PairTable}
use Rattle.hu_raise.specs.Rests.{RestOf}

-- the parts of a table together
abbrev pub table_of : ℤ → List (Vec ℕ Global) → PairTable
table_of floor partners = record { floor = floor; partners = lists_in partners }

-- the rule of a table: the ranks that a rank may join ascend
pub record IsTable (table : PairTable) : Type 0 where
  pub ascending : All IsStrictlyIncreasing table.partners

-- a rest without lives
abbrev pub rest_of : Rest → RestOf
rest_of rest = record { ranks = rest.ranks.now; gain = rest.gain }

-- rests without lives
abbrev pub rests_of : List Rest → List RestOf
rests_of rests = map rest_of rests

-- lists of them
abbrev pub waiting_in : List (Vec Rest Global) → List (List RestOf)
waiting_in lists = map (λ list. rests_of list.items) lists
