use Rattle.std.proofs.Common.{sym, subst}
use Rattle.hu_collect.specs.State.{Searches}
use Rattle.hu_search.specs.Growth.{Grows}
use Rattle.hu_search.proofs.lemmas.Children.{mined-patterns}
use Rattle.hu_project.specs.Level.{IsLevel}
use Rattle.hu_project.proofs.FirstLevel.{IsLevel-first}
use Rattle.hu_project.proofs.search.mine.Goals as goal

pub search-requires-clause-level : goal.search-requires-clause-level
search-requires-clause-level g c =
    subst (λ set. IsLevel (g.C.Collect.state c.args.collect.now) c.args.ranked.now set c.in_ok-rows.rows) (sym c.new-4.ensures.items)
    (IsLevel-first (g.C.Collect.state c.args.collect.now) c.args.ranked.now c.in_ok-rows.rows c.records-records.ensures.rules c.in_ok-rows.ensures.over
    c.in_ok-rows.ensures.count c.in_ok-rows.ensures.rules c.in_ok-rows.ensures.counted c.in_ok-rows.ensures.ranks)

pub returns : goal.returns
returns g c =
    mined-patterns c.args.ranked.now c.records-records.ensures.rules (g.C.Collect.state c.args.collect.now)
    (g.C.Collect.state c.search.new.collect) c.search.result
    (subst (λ set. Searches (g.C.Collect.state c.args.collect.now) (Grows c.args.ranked.now set) (g.C.Collect.state c.search.new.collect) c.search.result)
    c.new-4.ensures.items c.search.ensures.made)
