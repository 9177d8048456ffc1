use Rattle.std.proofs.Common.{◌≡◌, ℕ, ◌<◌, List, [], length, ◌∙◌, sym, ap, subst, to_z, of_z}
use Rattle.std.specs.Int.{w128}
use Rattle.std.proofs.lemmas.Int.{to_z-of_z}
use Rattle.hu_kind.specs.Itemsets.{item_patterns}
use Rattle.hu_totals.specs.Ranked.{unranked}
use Rattle.hu_search.specs.Growth.{Grows}
use Rattle.hu_search.proofs.lemmas.UnrankLemmas.{pattern-grows, grows-pattern}
use Rattle.hu_average.specs.Best.{Covers}
use Rattle.hu_average.proofs.BestLemmas.{best_with, if_ok-as}
use Rattle.hu_average.proofs.CoverLemmas.{covers-all}
use Rattle.hu_kind.proofs.lemmas.Members.{Member}
use Rattle.hu_average.proofs.TurnLemmas.{enough-first}
use Rattle.hu_average.proofs.search.mine.Goals as goal

pub search-requires-clause-enough : goal.search-requires-clause-enough
search-requires-clause-enough c =
    let r = c.args.ranked.now in
    enough-first c.new-best.result r c.new-2.result.items c.deref-2.result.now c.record_tails.ensures.rules c.new-2.ensures.items
    (subst (λ (ranks : List ℕ). (z : ℕ) → z < length r.items → Member z ranks) (sym c.deref-2.ensures.value) c.in_ok-later.ensures.whole)

pub returns : goal.returns
returns c =
    let r = c.args.ranked.now in
    let rules = c.record_tails.ensures.rules in
    let least = c.args.least in
    let same : to_z w128 (of_z w128 least) ≡ least = to_z-of_z w128 least c.ranges.least in
    let start : c.new-best.result ≡ best_with least c.args.top [] = c.new-best.ensures.value ∙ ap (λ z. best_with z c.args.top []) same in
    let covers : Covers (best_with least c.args.top []) (Grows r []) c.search.new.best =
    subst (λ b. Covers b (Grows r []) c.search.new.best) start
    (subst (λ set. Covers c.new-best.result (Grows r set) c.search.new.best) c.new-2.ensures.items c.in_ok-search.ensures.covers) in
    if_ok-as c.into_entries.result _ _
    (λ entries held. held ∙ covers-all {P = Grows r []} least c.args.top c.search.new.best (item_patterns (unranked r)) covers (pattern-grows r rules)
    (grows-pattern r rules))
    c.into_entries.ensures
