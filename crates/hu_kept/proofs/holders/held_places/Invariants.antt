use Rattle.std.proofs.Common.{ℕ, pos, take, Contains}
use Rattle.hu_kind.proofs.lemmas.Members.{Member}
use Rattle.hu_closed.specs.Places.{places_at}
use Rattle.hu_kept.specs.Shared.{batch_items}
use Rattle.hu_kept.proofs.holders.held_places.Given as goal

abbrev pub invariant-loop-index : goal.invariant-loop-index
invariant-loop-index l = (place item : ℕ) → Member item (take l.index (batch_items l.batch))
    → Contains (places_at l.listed (pos item)) place → Contains l.places.items place
