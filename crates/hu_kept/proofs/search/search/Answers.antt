use Rattle.std.proofs.Common.{◌≡◌, ◌∙◌, ℕ, ℤ, List, Result, Ok, Err, OnOk}
use Rattle.hu_kind.specs.Itemsets.{item_patterns}
use Rattle.hu_collect.specs.State.{State, offered, Mines}
use Rattle.hu_totals.specs.Ranked.{Ranking, unranked}
use Rattle.hu_totals.specs.Laws.{KeepsPatterns}
use Rattle.hu_search.proofs.lemmas.RankedPatterns.{offered-ranked}
use Rattle.hu_kept.proofs.search.search.Goals as goal

by_records : {T E : Type 0} (result : Result T E) (old new : State) (r : Ranking)
    → ((records : List (List (ℕ × ℤ))) → KeepsPatterns records r → offered old (item_patterns (unranked r)) ≡ offered old (item_patterns records))
    → Mines old (item_patterns (unranked r)) new result
    → OnOk result ((records : List (List (ℕ × ℤ))) → KeepsPatterns records r → new ≡ offered old (item_patterns records))
by_records (Ok x) old new r same mines = λ records keeps. mines ∙ same records keeps
by_records (Err e) old new r same mines = tt

pub returns : goal.returns
returns g c =
    let old = g.C.Collect.state c.args.collect.now in
    by_records c.mine.result old (g.C.Collect.state c.mine.new.collect) c.args.ranked.now
    (λ records keeps. offered-ranked old records c.args.ranked.now c.floor.ensures.in_order keeps c.requires.floor) c.mine.ensures
