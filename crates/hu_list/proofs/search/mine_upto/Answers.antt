use Rattle.std.proofs.Common.{subst}
use Rattle.hu_collect.specs.State.{Searches}
use Rattle.hu_search.specs.Growth.{Grows}
use Rattle.hu_search.proofs.lemmas.Children.{mined-patterns}
use Rattle.hu_list.proofs.SearchLemmas.{enough-first}
use Rattle.hu_list.proofs.search.mine_upto.Goals as goal

pub search-requires-clause-enough : goal.search-requires-clause-enough
search-requires-clause-enough g c =
    enough-first (g.C.Collect.state c.args.collect.now) c.args.ranked.now c.new-2.result.items c.in_ok-all_ranks.field-0.ranks
    c.record_tails.ensures.rules c.new-2.ensures.items c.in_ok-all_ranks.ensures.all

pub returns : goal.returns
returns g c =
    mined-patterns c.args.ranked.now c.record_tails.ensures.rules (g.C.Collect.state c.args.collect.now)
    (g.C.Collect.state c.search.new.collect) c.search.result
    (subst (λ set. Searches (g.C.Collect.state c.args.collect.now) (Grows c.args.ranked.now set) (g.C.Collect.state c.search.new.collect) c.search.result)
    c.new-2.ensures.items c.search.ensures.searches)
