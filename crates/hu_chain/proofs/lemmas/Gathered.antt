-- The places of a grown pattern, by the kind of growth, and where the place of a pattern stands.
use Rattle.std.proofs.Common.{◌≡◌, ℕ, ◌<◌, ℤ, List, length, sum_by, pos}
use Rattle.hu_kind.specs.Record.{absolute_of}
use Rattle.hu_kind.specs.Sequence.{best_utility, IsSequence}
use Rattle.hu_chain.specs.declared.chain.Growth.{Growth}
use Rattle.hu_chain.specs.declared.chain.Growth.TheVariants.{IntoLast, AfterLast}
use Rattle.hu_chain.specs.declared.place.Place.{Place}
use Rattle.hu_chain.specs.Bound.{best_of}
use Rattle.hu_chain.specs.Grown.{grown, CanGrow}
use Rattle.hu_chain.specs.Pattern.{Ends}
use Rattle.hu_chain.specs.Place.{chain_of, element_at, totals}
use Rattle.hu_chain.specs.Search.{followed_places, joined_places, IsPlaceOf}
use Rattle.hu_chain.proofs.Finding as finding
use Rattle.hu_chain.proofs.Places as places
use Rattle.hu_chain.proofs.Tails as tails
use Rattle.hu_chain.proofs.lemmas.Growing.{chain_of-after}

-- the places of a grown pattern, by those of the pattern
abbrev pub grown_places : Growth → List (List (ℕ × ℤ)) → ℕ → List Place → List Place
grown_places IntoLast elements item places = joined_places elements item places
grown_places AfterLast elements item places = followed_places elements item places

pub chain_of-grown : (growth : Growth) (pattern : List (List ℕ)) (item : ℕ) (elements : List (List (ℕ × ℤ))) → CanGrow growth pattern item
    → chain_of (grown growth pattern item) elements ≡ grown_places growth elements item (chain_of pattern elements)
chain_of-grown IntoLast pattern item elements can = finding.chain_of-into pattern item elements
chain_of-grown AfterLast pattern item elements can = chain_of-after pattern item elements can

-- the greatest utility of a chain is the best one
pub best_of-chain : (pattern : List (List ℕ)) (elements : List (List (ℕ × ℤ))) → Ends pattern
    → best_of (chain_of pattern elements) ≡ best_utility pattern elements
best_of-chain pattern elements ends = places.best_of-chain_of pattern elements ends

-- a place stands at a cell
pub place-at : (elements : List (List (ℕ × ℤ))) (last : ℕ) (place : Place) → IsPlaceOf elements last place
    → (place.element < length elements) × (place.cell < length (element_at elements place.element))
place-at elements last place is = tails.place-within elements last place is

-- all values of a sequence are its absolute ones
pub totals-all : (elements : List (List (ℕ × ℤ))) → IsSequence elements → totals elements ≡ pos (sum_by absolute_of elements)
totals-all elements is = tails.totals-absolute elements is
