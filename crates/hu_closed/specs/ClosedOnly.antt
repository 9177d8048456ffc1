-- A collector of closed patterns is seen as the inner collector, the records and the item of each rank.
use Rattle.std.specs.Prelude.{◌≡◌, ℕ, ℤ, ◌&&◌, Option, Some, List}
use Rattle.hu_kind.specs.Itemsets.{item_patterns, closed_patterns}
use Rattle.hu_collect.specs.Rule.{Rule}
use Rattle.hu_collect.specs.Ranks.{RestsOn}
use Rattle.hu_collect.specs.State.{State, offered}
use Rattle.hu_totals.specs.declared.weights.RankOrder.{RankOrder}
use Rattle.hu_totals.specs.Ranked.{Ranking, ranked_by}
use Rattle.hu_closed.specs.Keys.{is_closed_key}

-- the inner collector
abbrev pub inner_of : {C : Type 0} → C × List (List (ℕ × ℤ)) × List ℕ → C
inner_of c = c.0

-- the records
abbrev pub records_in : {C : Type 0} → C × List (List (ℕ × ℤ)) × List ℕ → List (List (ℕ × ℤ))
records_in c = c.1

-- the item of each rank
abbrev pub table_of : {C : Type 0} → C × List (List (ℕ × ℤ)) × List ℕ → List ℕ
table_of c = c.2

-- an inner rule that wants closed keys alone and rests on a table of ranks
abbrev pub closed_rule : Rule → List (List (ℕ × ℤ)) → List ℕ → Rule
closed_rule inner records table = record {
  start = inner.start;
  limit = inner.limit;
  wants = λ key. inner.wants key && is_closed_key records key;
  table = Some table;
}

-- ranks are those of records, in some order and with some floor
abbrev pub IsRankingOf : List (List (ℕ × ℤ)) → Ranking → Type 0
IsRankingOf records ranking = (order : RankOrder) × (floor : ℤ) × (ranking ≡ ranked_by order floor records)

-- ranks are those of the records, and a rule rests on them where it rests on ranks
pub record AreOfOne (inner : Option (List ℕ)) (records : List (List (ℕ × ℤ)))
    (ranking : Ranking) : Type 0 where
  pub base : IsRankingOf records ranking
  pub rests : RestsOn inner ranking.items

-- the state of a collector of closed keys around an inner one
abbrev pub closed_state : State → List (List (ℕ × ℤ)) → List ℕ → State
closed_state inner records table =
    record { rule = closed_rule inner.rule records table; content = inner.content }

-- offered all patterns of its records, it is around what the inner one is that was offered the closed ones
abbrev pub MakesClosed : List (List (ℕ × ℤ)) → List ℕ → State → Type 0
MakesClosed records table inner =
    offered (closed_state inner records table) (item_patterns records)
    ≡ closed_state (offered inner (closed_patterns records)) records table
