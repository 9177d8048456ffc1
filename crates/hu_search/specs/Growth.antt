-- Sets of ranks, and what grows them by later ranks.
use Rattle.std.specs.Prelude.{◌≡◌, ℕ, ◌<◌, List, ◌++◌, length}
use Rattle.std.specs.List.{AllByRecursion}
use Rattle.hu_kind.specs.declared.entry.Entry.{Entry}
use Rattle.hu_kind.specs.Database.{utility, support}
use Rattle.hu_kind.specs.Order.{Ascend}
use Rattle.hu_totals.specs.Ranked.{Ranking}
use Rattle.hu_collect.specs.Ranks.{key_of}

-- the entry of a set of ranks
abbrev pub rank_entry : Ranking → List ℕ → Entry
rank_entry r ranks =
    record {
      key = key_of r.items ranks;
      utility = utility r.records ranks;
      support =
          support r.records ranks;
    }

-- an entry is that of a set that grows a set by later ranks, and occurs
pub record Grows (r : Ranking) (ranks : List ℕ) (entry : Entry) : Type 0 where
  pub more : List ℕ
  pub some : 0 < length more
  pub ascending : Ascend (ranks ++ more)
  pub occurs : 0 < support r.records (ranks ++ more)
  pub is : entry ≡ rank_entry r (ranks ++ more)

-- ranks of a table
abbrev pub InTable : Ranking → List ℕ → Type 0
InTable r ranks = AllByRecursion (λ rank. rank < length r.items) ranks
