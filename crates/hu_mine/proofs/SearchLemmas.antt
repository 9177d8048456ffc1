-- What a search over ranks makes of a collector.
use Rattle.std.proofs.Common.{◌≡◌, ◌∙◌, ℕ, ℤ, ◌≤ℤ◌, List, Result, Ok, Err, OnOk}
use Rattle.hu_kind.specs.Itemsets.{item_patterns}
use Rattle.hu_collect.specs.State.{State, offered, floor_in, IsInOrder, Mines}
use Rattle.hu_totals.specs.Ranked.{Ranking, unranked}
use Rattle.hu_totals.specs.Laws.{KeepsPatterns}
use Rattle.hu_search.proofs.lemmas.RankedPatterns.{offered-ranked}

-- after a search of ranked records the patterns of their database were offered
pub mined-ranked : {T E : Type 0} (result : Result T E) (old new : State) (records : List (List (ℕ × ℤ))) (r : Ranking)
    → IsInOrder old → KeepsPatterns records r
    → r.floor ≤ℤ floor_in old → Mines old (item_patterns (unranked r)) new result → OnOk result (new ≡ offered old (item_patterns records))
mined-ranked (Ok x) old new records r ordered keeps low mines = mines ∙ offered-ranked old records r ordered keeps low
mined-ranked (Err e) old new records r ordered keeps low mines = tt
