-- What the records over ranks keep of a database.
use Rattle.std.specs.Prelude.{◌≡◌, ◌↔◌, ℕ, ◌<◌, ℤ, ◌≤ℤ◌, List, length}
use Rattle.std.specs.List.{All, Contains}
use Rattle.hu_kind.specs.declared.entry.Entry.{Entry}
use Rattle.hu_kind.specs.Database.{utility, support, items_of}
use Rattle.hu_kind.specs.Itemsets.{sublists, item_patterns}
use Rattle.hu_kind.specs.Answer.{found}
use Rattle.hu_totals.specs.Ranked.{Ranking, unranked}

-- every set of ranked items has the utility and the support that it has in the database
abbrev pub KeepsSets : List (List (ℕ × ℤ)) → Ranking → Type 0
KeepsSets records r = (items : List ℕ) → 0 < length items → All (Contains r.items) items
    → (utility (unranked r) items ≡ utility records items)
    × (support (unranked r) items ≡ support records items)

-- every set whose utility reaches the floor has ranked items alone
abbrev pub RanksHigh : List (List (ℕ × ℤ)) → Ranking → Type 0
RanksHigh records r = (items : List ℕ) → Contains (sublists (items_of records)) items
    → r.floor ≤ℤ utility records items → All (Contains r.items) items

-- the patterns that reach the floor, or more, are those of the database
abbrev pub KeepsPatterns : List (List (ℕ × ℤ)) → Ranking → Type 0
KeepsPatterns records r = (least : ℤ) → r.floor ≤ℤ least → (entry : Entry)
    → Contains (found least (item_patterns (unranked r))) entry
    ↔ Contains (found least (item_patterns records)) entry
