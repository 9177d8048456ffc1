use Rattle.std.proofs.Common.{rules, ◌≤◌}
use Rattle.hu_plain.specs.Grown.{item_at}
use Rattle.hu_plain.proofs.Parts.{Parts, parts_in_order, parts_at}
use Rattle.hu_plain.proofs.grown.grown_by.Goals as goal

pub slice_bounds-result-count : goal.slice_bounds-result-count
slice_bounds-result-count c =
    let parts : Parts item_at c.args.grown.now c.args.item.0 c.count_below.result c.count_upto.result =
    record { below = c.count_below.ensures.splits; upto = c.count_upto.ensures.splits } in
    parts_in_order item_at c.args.grown.now c.args.item.0 c.count_below.result c.count_upto.result parts c.count_below.ensures.bound

pub slice_bounds-result-start : goal.slice_bounds-result-start
slice_bounds-result-start c =
    let a = c.count_below.result in
    let b = c.count_upto.result in
    let parts : Parts item_at c.args.grown.now c.args.item.0 a b = record { below = c.count_below.ensures.splits; upto = c.count_upto.ensures.splits } in
    let order : a ≤ b = parts_in_order item_at c.args.grown.now c.args.item.0 a b parts c.count_below.ensures.bound in
    search rules

pub returns : goal.returns
returns c =
    let parts : Parts item_at c.args.grown.now c.args.item.0 c.count_below.result c.count_upto.result =
    record { below = c.count_below.ensures.splits; upto = c.count_upto.ensures.splits } in
    parts_at item_at c.args.grown.now c.args.item.0 c.count_below.result c.count_upto.result parts c.count_upto.ensures.bound
