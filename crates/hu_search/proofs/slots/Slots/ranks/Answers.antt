use Rattle.std.proofs.Common.{◌<◌, subst, nat_eq}
use Rattle.std.specs.List.{AllByRecursion, IsDistinct}
use Rattle.hu_search.specs.Slots.{SlotsOf}
use Rattle.hu_search.proofs.SlotLemmas.{slots-distinct, slots-below}
use Rattle.hu_search.proofs.slots.Slots.ranks.Goals as goal

pub returns-clause-once : goal.returns-clause-once
returns-clause-once c =
    subst (λ (s : SlotsOf). IsDistinct nat_eq s.ranks) c.self.view_is (slots-distinct c.self.inside.places.items c.self.inside.ranks.items c.self.invariant)

pub returns-clause-within : goal.returns-clause-within
returns-clause-within c =
    subst (λ (s : SlotsOf). AllByRecursion (λ rank. rank < s.room) s.ranks) c.self.view_is
    (slots-below c.self.inside.places.items c.self.inside.ranks.items c.self.invariant)
