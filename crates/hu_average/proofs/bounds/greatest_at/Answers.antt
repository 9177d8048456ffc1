use Rattle.std.proofs.Common.{[], map, ap, sym, ◌∙◌, SFits}
use Rattle.std.specs.Int.{w128}
use Rattle.std.proofs.lemmas.Int.{to_z-of_z}
use Rattle.std.proofs.lemmas.List.{get_or-map}
use Rattle.hu_totals.specs.View.{dense_pair, pairs_in}
use Rattle.hu_average.specs.Bound.{greatest}
use Rattle.hu_average.proofs.bounds.greatest_at.Goals as goal

pub returns : goal.returns
returns c =
    let records = c.args.records.now in
    let vec = c.index-records-node.result in
    let fits : SFits w128 c.greatest.result = record { sfits = c.greatest.type_inv } in
    to_z-of_z w128 c.greatest.result fits ∙ c.greatest.ensures ∙ ap (λ cells. greatest (map dense_pair cells)) c.deref.ensures.value
    ∙ ap (λ v. greatest (pairs_in v)) c.index-records-node.is ∙ ap greatest (sym (get_or-map pairs_in records c.args.node.now.place vec [] c.requires))
