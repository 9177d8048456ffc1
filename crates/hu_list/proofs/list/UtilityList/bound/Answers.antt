use Rattle.std.proofs.Common.{ap, ◌∙◌, arith}
use Rattle.std.proofs.lemmas.Int.{ints}
use Rattle.hu_list.specs.Bounds.{bound_of}
use Rattle.hu_list.proofs.NodeSums.{bound_of-all}
use Rattle.hu_list.proofs.ListLemmas.{BoundsGrown-list, bound-list}
use Rattle.hu_list.proofs.list.UtilityList.bound.Goals as goal

pub returns-clause-records : goal.returns-clause-records
returns-clause-records c records ranks list =
    let is = c.bound_of.ensures ∙ ap bound_of c.nodes.ensures.value in
    let e = bound-list c.args.self.now c.bound_of.result is records ranks list in
    let within = bound_of-all c.args.self.now in
    let fits = c.nodes.ensures.fits in
    omega (arith, ints, e, is, within, fits)

pub returns-clause-grown : goal.returns-clause-grown
returns-clause-grown c records rises ranks more list up =
    let is = c.bound_of.ensures ∙ ap bound_of c.nodes.ensures.value in
    let below = BoundsGrown-list c.args.self.now c.bound_of.result is records rises ranks more list up in
    let within = bound_of-all c.args.self.now in
    let fits = c.nodes.ensures.fits in
    omega (arith, ints, below, is, within, fits)
