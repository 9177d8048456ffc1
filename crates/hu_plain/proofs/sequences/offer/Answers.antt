use Rattle.std.proofs.Common.{[], ◌∷◌, ◌∙◌, ap, subst, to_z, of_z, SFits, rules}
use Rattle.std.proofs.lemmas.Int.{to_z-of_z}
use mir.Syntax.{w128}
use Rattle.hu_kind.specs.declared.entry.Entry.{Entry}
use Rattle.hu_collect.specs.State.{Takes}
use Rattle.hu_kind.specs.Sequence.{closed}
use Rattle.hu_plain.proofs.PlaceLemmas.{own_entry}
use Rattle.hu_plain.proofs.sequences.offer.Goals as goal

pub returns : goal.returns
returns g c =
    let old = g.C.Collect.state c.args.collect.now in
    let new = g.C.Collect.state c.offer.new.self in
    let sum = c.total_best.result in
    let fits : SFits w128 sum = search rules in
    let entry = own_entry c.args.prefix.now c.end_itemset.new.self c.args.rows.now (to_z w128 (of_z w128 sum))
    (c.in_ok-end_itemset.ensures.ok ∙ ap closed c.in_ok-key.ensures) (to_z-of_z w128 sum fits ∙ c.total_best.ensures) in
    subst (λ (e : Entry). Takes old (e ∷ []) new c.offer.result) entry c.offer.ensures
