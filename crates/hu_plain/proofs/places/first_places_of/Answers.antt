use Rattle.std.proofs.Common.{◌∙◌, ap, map}
use Rattle.std.proofs.lemmas.List.{take_all}
use Rattle.hu_plain.specs.Place.{first_places}
use Rattle.hu_plain.proofs.PlaceLemmas.{ArePlaces-first}
use Rattle.hu_plain.proofs.places.first_places_of.Goals as goal

pub returns-clause-rules : goal.returns-clause-rules
returns-clause-rules c =
    let all = take_all c.loop-record.record-index c.args.records.now c.loop-record-test.false in
    ArePlaces-first c.loop-record.rows.items c.args.records.now (c.loop-record.invariant.so_far ∙ ap (λ rs. map first_places rs) all)
    c.loop-record.invariant.ascending c.requires
