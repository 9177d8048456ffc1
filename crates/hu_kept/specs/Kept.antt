-- A kept answer is seen as the records so far and the task: the least utility, how many entries there may be where there is a
-- limit, and whether closed itemsets alone are wanted.
use Rattle.std.specs.Prelude.{ℕ, ℤ, Bool, Option, List, [], ◌++◌, if◌then◌else◌}
use Rattle.hu_kind.specs.declared.entry.Entry.{Entry}
use Rattle.hu_kind.specs.Itemsets.{closed_patterns, item_patterns}
use Rattle.hu_kind.specs.Answer.{item_answer, closed_answer}

pub record Keeping : Type 0 where
  pub records : List (List (ℕ × ℤ))
  pub least : ℤ
  pub top : Option ℕ
  pub closed : Bool

-- the patterns of a task: the closed itemsets, or all
abbrev pub patterns_of : Bool → List (List (ℕ × ℤ)) → List Entry
patterns_of closed records = if closed then closed_patterns records else item_patterns records

-- the answer of the records
abbrev pub answer_of : Keeping → List Entry
answer_of kept =
    if kept.closed then closed_answer kept.records kept.least kept.top else item_answer kept.records
    kept.least kept.top

-- a task without records
abbrev pub fresh : ℤ → Option ℕ → Bool → Keeping
fresh least top closed = record { records = []; least = least; top = top; closed = closed }

-- the same task with further records
abbrev pub with_batch : Keeping → List (List (ℕ × ℤ)) → Keeping
with_batch kept batch =
    record {
      records = kept.records ++ batch;
      least = kept.least;
      top = kept.top;
      closed =
          kept.closed;
    }
