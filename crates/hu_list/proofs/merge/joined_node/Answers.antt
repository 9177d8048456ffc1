use Rattle.std.proofs.Common.{◌≡◌, Some, slice_get, ap, sym, ◌∙◌, ◌+ℤ◌, ◌-ℤ◌, arith}
use Rattle.std.specs.Option.{option_copied}
use Rattle.std.proofs.lemmas.Int.{ints}
use Rattle.hu_list.specs.Joins.{first_own}
use Rattle.hu_list.proofs.PlaceLemmas.{Some-node, joined_node-first, Fits-first}
use Rattle.hu_list.proofs.merge.joined_node.Goals as goal

pub overflow_add-result : goal.overflow_add-result
overflow_add-result c =
    let first : slice_get c.args.others.now 0 ≡ Some c.in_ok-other.other.now = sym c.first.ensures.value ∙ ap option_copied c.in_ok-other.was in
    let fits = Fits-first c.args.before.now c.args.others.now c.in_ok-other.other.now c.args.node.now first c.if-other-node.false c.requires in
    let before = c.first_own.ensures in
    omega (arith, ints, fits.0, fits.1, before)

pub returns : goal.returns
returns c =
    let first : slice_get c.args.others.now 0 ≡ Some c.in_ok-other.other.now = sym c.first.ensures.value ∙ ap option_copied c.in_ok-other.was in
    let fits = Fits-first c.args.before.now c.args.others.now c.in_ok-other.other.now c.args.node.now first c.if-other-node.false c.requires in
    let before = c.first_own.ensures in
    Some-node c.args.node.now.place _ ((c.in_ok-other.other.now.own -ℤ first_own c.args.before.now) +ℤ c.args.node.now.own) _ c.args.node.now.rest _
    (omega (arith, ints, fits.0, fits.1, before))
    (omega (arith, ints))
    (joined_node-first c.args.before.now c.args.others.now c.in_ok-other.other.now c.args.node.now first c.if-other-node.false)
