-- How far a search has come that offers all children of a pattern and then enters them best bound first.
use Rattle.std.specs.Prelude.{◌≡◌, ◌<◌, ◌≤ℤ◌, true, ℕ, ℤ, Bool, Option, None, Some, List, take, Result, MatchResult}
use Rattle.std.specs.List.{Contains}
use Rattle.hu_kind.specs.declared.entry.Entry.{Entry}
use Rattle.hu_collect.specs.State.{State, Reached, ReachedSome, floor_in}
use Rattle.hu_span.specs.declared.child.Child.{Child}
use Rattle.hu_chain.specs.Grown.{IsGrownFrom}
use Rattle.hu_kind.specs.Sequence.{sequence_support, sequence_utility}
use Rattle.hu_kind.specs.declared.item.Item.{Item}
use Rattle.hu_span.specs.declared.child.Branch.{Branch}
use Rattle.hu_span.specs.Branch.{AreCopies, Fall}
use Rattle.hu_span.specs.declared.gather.Grown.{Grown}
use Rattle.hu_span.specs.declared.search.Below.{Below}
use Rattle.hu_span.specs.declared.search.Below.TheVariants.{Items, Nothing}
use Rattle.hu_span.specs.declared.search.Fewer.{Fewer}
use Rattle.hu_span.specs.declared.trail.Held.{Held}
use Rattle.hu_span.specs.declared.trail.TrailCell.{TrailCell}
use Rattle.hu_span.specs.Child.{child_entry, stepped, AreChildren}
use Rattle.hu_span.specs.Kept.{keeps, AreKept}
use Rattle.hu_span.specs.Growing.{GrowsOn, Records}
use Rattle.hu_span.specs.Trail.{AreHeld, AreSpans}

-- the entry is that of a child
pub record IsOneOf (records : Records) (pattern : List (List ℕ)) (children : List Child)
    (entry : Entry) : Type 0 where
  pub child : Child
  pub among : Contains children child
  pub is : entry ≡ child_entry records pattern child

-- the entry is that of a pattern that grows from a branch
pub record IsBelow (records : Records) (keep : ℕ → Bool) (pattern : List (List ℕ))
    (branches : List Branch) (entry : Entry) : Type 0 where
  pub branch : Branch
  pub among : Contains branches branch
  pub grows : GrowsOn records keep (stepped pattern branch.step) entry

-- those children of a pattern are kept whose bound reaches the floor, best bound first
pub record AreKeptBest (records : Records) (keep : ℕ → Bool) (pattern : List (List ℕ)) (floor : ℤ)
    (kept : List Branch) : Type 0 where
  pub all : List Child
  pub are : AreChildren records keep pattern all
  pub copies : AreCopies records pattern floor all kept
  pub fall : Fall kept

-- the first of the kept children were entered
pub record IsSoFar (old now : State) (records : Records) (keep : ℕ → Bool) (pattern : List (List ℕ))
    (kept : List Branch) (at : ℕ) : Type 0 where
  pub best : AreKeptBest records keep pattern (floor_in old) kept
  pub made : Reached old (IsBelow records keep pattern (take at kept)) now

-- the items that count below a pattern: fewer, or those that count at it
abbrev pub counting : Option (Bool × List Item) → Bool × List Item → Bool × List Item
counting None kept = kept
counting (Some fewer) kept = fewer

-- all children of a pattern were offered, and items are kept at which all patterns end that grow from it and reach the floor
pub record IsNarrowed (old new : State) (records : Records) (keep : ℕ → Bool)
    (pattern : List (List ℕ)) (kept : Bool × List Item) : Type 0 where
  pub all : List Child
  pub are : AreChildren records keep pattern all
  pub offers : Reached old (IsOneOf records pattern all) new
  pub fewer : (item : ℕ) → keeps kept item ≡ true → keep item ≡ true
  pub own : AreKept (keeps kept) pattern
  pub enough : (other : List (List ℕ)) → IsGrownFrom pattern other → AreKept keep other
      → 0 < sequence_support records other
      → floor_in new ≤ℤ sequence_utility records other → AreKept (keeps kept) other

-- those of fewer items, and the cells that a level below walks over
abbrev pub kept_of : Option Fewer → Option (Bool × List Item)
kept_of None = None
kept_of (Some fewer) = Some fewer.kept

abbrev pub trail_of : Option Fewer → List TrailCell → List TrailCell
trail_of None trail = trail
trail_of (Some fewer) trail = fewer.trail.items

-- the kept cells behind all marks by which a pattern grows stand in a trail
pub record AreBehind (keep : ℕ → Bool) (records : Records) (trail : List TrailCell)
    (grown : Grown) : Type 0 where
  pub into : AreSpans keep records trail grown.into.marks.items grown.into.spans.items
  pub after : AreSpans keep records trail grown.after.marks.items grown.after.spans.items

-- by what a pattern grows can be gathered, where it has places and the items that count are fewer or the same
pub record CanGather (records : Records) (kept : Bool × List Item)
    (fewer : Option (Bool × List Item)) (trail : List TrailCell) (held : Held)
    (pattern : List (List ℕ)) : Type 0 where
  pub are : AreHeld (keeps kept) records trail pattern held
  pub own : AreKept (keeps kept) pattern
  pub still : AreKept (keeps (counting fewer kept)) pattern
  pub less : (item : ℕ) → keeps (counting fewer kept) item ≡ true → keeps kept item ≡ true

-- all that grows from a pattern was offered that counts, or all its children were, and items are kept
abbrev pub GoesOn : State → State → Records → Bool × List Item → List (List ℕ) → Below → Type 0
GoesOn old new records kept pattern Nothing = Reached old (GrowsOn records (keeps kept) pattern) new
GoesOn old new records kept pattern (Items fewer) =
    IsNarrowed old new records (keeps kept) pattern (counting fewer kept)

-- after Ok the search goes on so, after Err some children were offered
abbrev pub Narrows : {E : Type 0} → State → State → Records → Bool × List Item → List (List ℕ)
    → Result Below E → Type 0
Narrows old new records kept pattern result =
    MatchResult result (GoesOn old new records kept pattern)
    (λ _. ReachedSome old (GrowsOn records (keeps kept) pattern) new)

-- after Ok all children of a pattern were offered, after Err some were
abbrev pub OffersAll : {T E : Type 0} → State → State → Records → (ℕ → Bool) → List (List ℕ)
    → Result T E → Type 0
OffersAll old new records keep pattern result = MatchResult result
    (λ _. (all : List Child) × AreChildren records keep pattern all
    × Reached old (IsOneOf records pattern all) new)
    (λ _. ReachedSome old (GrowsOn records keep pattern) new)
