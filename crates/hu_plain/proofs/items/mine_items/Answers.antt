use Rattle.std.proofs.Common.{◌∙◌, ap, map, subst}
use Rattle.hu_base.specs.Base.{records_of}
use Rattle.hu_collect.specs.State.{Mines}
use Rattle.hu_collect.proofs.lemmas.Searching.{mined}
use Rattle.hu_plain.specs.Row.{grown_patterns, Grows}
use Rattle.hu_plain.specs.View.{rows_of, first_row}
use Rattle.hu_plain.proofs.Patterns.{item_patterns-grown}
use Rattle.hu_plain.proofs.items.mine_items.Goals as goal

pub returns : goal.returns
returns g c =
    let old = g.C.Collect.state c.args.collect.now in
    let new = g.C.Collect.state c.search.new.collect in
    let rows = rows_of c.deref.result.now in
    let prefix = c.new.result in
    let first = ap rows_of c.deref.ensures.value ∙ c.in_ok-rows.ensures.value ∙ ap (λ rs. map first_row rs) c.records.ensures in
    let same = (λ j. grown_patterns (c.new.ensures j) (first j)) ∙ item_patterns-grown (records_of c.args.base.now) in
    subst (λ all. Mines old all new c.search.result) same
    (mined (Grows prefix rows) old new (grown_patterns prefix rows) c.search.result (λ e. (λ p. p, λ p. p)) c.search.ensures.searches)
