use Rattle.std.proofs.Common.{◌∙◌, ap, sym, ◌<◌, length, get_or, take, arith}
use Rattle.std.specs.List.{list_any}
use Rattle.std.proofs.lemmas.Bool.{or_from}
use Rattle.std.proofs.lemmas.List.{length-take, get_or-take}
use Rattle.std.proofs.lemmas.List.Folds.{list_any_at, list_any_more}
use Rattle.std.proofs.lemmas.Option.{get_or_from_slice_get}
use Rattle.hu_closed.specs.Keys.{is_outside}
use Rattle.hu_closed.proofs.candidates.any_outside_below.Goals as goal

pub returns-then-is_outside : goal.returns-then-is_outside
returns-then-is_outside c =
    let items = c.args.ranked.now.items in
    let rank = c.loop-rank.rank in
    let at = get_or_from_slice_get items rank c.item_of.result.0 0 c.item_of.ensures.value in
    let inside : rank < length (take c.args.last items) = omega (arith, length-take c.args.last items, c.loop-rank-test.true, c.requires.last) in
    let same = get_or-take c.args.last items rank 0 c.loop-rank-test.true in
    sym (list_any_at (is_outside c.args.key.now) (take c.args.last items) rank 0 inside
    (ap (is_outside c.args.key.now) (same ∙ at) ∙ sym c.if-is_outside.ensures))

pub loop-rank-preserved : goal.loop-rank-preserved
loop-rank-preserved c =
    let items = c.args.ranked.now.items in
    let rank = c.loop-rank.rank in
    let test = is_outside c.args.key.now in
    let at = get_or_from_slice_get items rank c.item_of.result.0 0 c.item_of.ensures.value in
    let inside : rank < length items = omega (arith, c.loop-rank-test.true, c.requires.last) in
    list_any_more test items rank 0 inside ∙ or_from (list_any test (take rank items))
    (test (get_or items rank 0)) c.loop-rank.invariant (ap test at ∙ sym c.if-is_outside.ensures)
