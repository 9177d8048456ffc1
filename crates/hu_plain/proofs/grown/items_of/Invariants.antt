use Rattle.std.proofs.Common.{◌≡◌, map, take}
use Rattle.hu_plain.specs.Grown.{item_at}
use Rattle.hu_plain.specs.View.{numbers_of}
use Rattle.hu_plain.proofs.grown.items_of.Given as goal

abbrev pub invariant-loop-one : goal.invariant-loop-one
invariant-loop-one l = numbers_of l.items.items ≡ map item_at (take l.one-index l.grown)
