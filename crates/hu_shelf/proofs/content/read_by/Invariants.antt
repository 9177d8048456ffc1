use Rattle.std.proofs.Common.{◌-◌, length}
use Rattle.hu_shelf.proofs.ContentLemmas.{ReadSoFar}
use Rattle.hu_shelf.proofs.content.read_by.Given as goal

abbrev pub invariant-pieces : goal.invariant-pieces
invariant-pieces g l = ReadSoFar (g.K.Keeper.state l.initial.keeper) (g.K.Keeper.state l.keeper) l.name l.text.items

abbrev pub decreases-pieces : goal.decreases-pieces
decreases-pieces g l = 268435457 - length l.text.items
