use Rattle.std.proofs.Common.{◌∙◌, ap, sym, subst, map}
use Rattle.hu_kind.specs.Sequence.{sequence_patterns}
use Rattle.hu_base.specs.Base.{records_of}
use Rattle.hu_collect.proofs.lemmas.Searching.{mined}
use Rattle.hu_plain.specs.Growth.{Grows}
use Rattle.hu_plain.specs.Place.{first_places, ArePlaces}
use Rattle.hu_plain.specs.PlaceView.{all_places}
use Rattle.hu_plain.proofs.PlaceLemmas.{patterns-first}
use Rattle.hu_plain.proofs.sequences.mine_sequences.Goals as goal

pub returns : goal.returns
returns g c =
    let rows = all_places c.deref.result.now in
    let records = records_of c.args.base.now in
    let first = ap all_places c.deref.ensures.value ∙ c.in_ok-rows.ensures.value ∙ ap (λ rs. map first_places rs) c.records.ensures in
    let are : ArePlaces rows = subst (λ rs. ArePlaces (all_places rs)) (sym c.deref.ensures.value) c.in_ok-rows.ensures.rules in
    mined (Grows c.new.result rows) (g.C.Collect.state c.args.collect.now) (g.C.Collect.state c.search.new.collect) (sequence_patterns records) c.search.result
    (patterns-first c.new.result rows records c.new.ensures first are.ascending) c.search.ensures.searches
