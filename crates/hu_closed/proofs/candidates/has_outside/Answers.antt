use Rattle.std.proofs.Common.{sym}
use Rattle.hu_kind.specs.declared.item.Item.{Item}
use Rattle.hu_closed.specs.Keys.{is_outside}
use Rattle.hu_closed.proofs.Tries.{any_number-at}
use Rattle.hu_closed.proofs.candidates.has_outside.Goals as goal

no_item : Item
no_item = record { 0 = 0 }

pub returns-then-is_outside : goal.returns-then-is_outside
unfolding no_item
returns-then-is_outside c =
    sym (any_number-at (is_outside c.args.key.now) c.args.items.now c.loop-item.item-index no_item c.loop-item-test.true (sym c.if-is_outside.ensures))
