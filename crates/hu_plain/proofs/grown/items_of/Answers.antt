use Rattle.std.proofs.Common.{◌∙◌, ap, map}
use Rattle.std.proofs.lemmas.List.{take_all}
use Rattle.hu_plain.specs.Grown.{item_at}
use Rattle.hu_plain.proofs.RowLemmas.{SameMembers-dedup, numbers-distinct}
use Rattle.hu_plain.proofs.grown.items_of.Goals as goal

pub returns : goal.returns
returns c =
    let grown = c.args.grown.now in
    let all = take_all c.loop-one.one-index grown c.loop-one-test.false in
    numbers-distinct c.loop-one.items.items c.dedup.new.self.items (map item_at grown) (c.loop-one.invariant ∙ ap (map item_at) all)
    (SameMembers-dedup c.loop-one.items.items c.dedup.new.self.items c.dedup.ensures.filtered)
