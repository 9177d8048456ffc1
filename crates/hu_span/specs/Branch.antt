-- Children that are entered, each with places of its own.
use Rattle.std.specs.Prelude.{◌≡◌, true, false, ◌<◌, ◌≤ℤ◌, ◌<ℤ◌, ◌⊎◌, ℕ, ℤ, Bool, List, [], ◌∷◌, ◌++◌}
use Rattle.std.specs.List.{Contains}
use Rattle.hu_kind.specs.Order.{FallBy}
use Rattle.hu_kind.specs.Sequence.{sequence_support, sequence_utility}
use Rattle.hu_chain.specs.Grown.{IsGrownFrom}
use Rattle.hu_span.specs.declared.child.Branch.{Branch}
use Rattle.hu_span.specs.declared.child.Child.{Child}
use Rattle.hu_span.specs.declared.mark.Mark.{Mark}
use Rattle.hu_chain.specs.declared.chain.Growth.{Growth}
use Rattle.hu_span.specs.Child.{stepped, AreChildrenBy, ArePlaces}
use Rattle.hu_span.specs.Gather.{MayTake}
use Rattle.hu_span.specs.Growing.{Records}
use Rattle.hu_span.specs.Mark.{marks_with}
use Rattle.hu_span.specs.declared.trail.Held.{Held}
use Rattle.hu_span.specs.Links.{keys_of, picked}

-- a branch of a pattern: a step by a kept item that the pattern may take, where what it makes occurs, with its places; no
-- pattern earns more than its bound that grows from it
pub record IsBranch (records : Records) (keep : ℕ → Bool) (pattern : List (List ℕ))
    (branch : Branch) : Type 0 where
  pub may : MayTake branch.step.growth pattern branch.step.item.0
  pub kept : keep branch.step.item.0 ≡ true
  pub places : ArePlaces records (stepped pattern branch.step) branch.step.item.0 branch.held.marks.items
  pub occurs : 0 < sequence_support records (stepped pattern branch.step)
  pub bound : (other : List (List ℕ)) → IsGrownFrom (stepped pattern branch.step) other
      → sequence_utility records other ≤ℤ branch.bound

-- the marks of a child's item are its places
abbrev pub HasPlaces : Records → List (List ℕ) → List Mark → Child → Type 0
HasPlaces records pattern marks child =
    ArePlaces records (stepped pattern child.step) child.step.item.0
    (marks_with child.step.item.0 marks)

-- a branch is a child with its places
pub record IsCopy (records : Records) (pattern : List (List ℕ)) (child : Child)
    (branch : Branch) : Type 0 where
  pub step : branch.step ≡ child.step
  pub places : ArePlaces records (stepped pattern child.step) child.step.item.0 branch.held.marks.items
  pub bound : branch.bound ≡ child.bound

-- one of the branches is a child
pub record HasCopy (records : Records) (pattern : List (List ℕ)) (branches : List Branch)
    (child : Child) : Type 0 where
  pub branch : Branch
  pub among : Contains branches branch
  pub is : IsCopy records pattern child branch

-- the branches are children, and all of those whose bound reaches a floor
pub record AreCopies (records : Records) (pattern : List (List ℕ)) (floor : ℤ)
    (children : List Child) (branches : List Branch) : Type 0 where
  pub each : (branch : Branch) → Contains branches branch
      → (child : Child) × Contains children child × IsCopy records pattern child branch
  pub all : (child : Child) → Contains children child
      → HasCopy records pattern branches child ⊎ (child.bound <ℤ floor)

-- the marks of a branch are those of an item, with their spans
pub record IsPart (held : Held) (branch : Branch) : Type 0 where
  pub item : ℕ
  pub marks : branch.held.marks.items ≡ marks_with item held.marks.items
  pub spans : branch.held.spans.items ≡ picked item (keys_of held.marks.items) held.spans.items

-- a branch is a child with the marks of its item
pub record IsMade (held : Held) (child : Child) (branch : Branch) : Type 0 where
  pub step : branch.step ≡ child.step
  pub marks : branch.held.marks.items ≡ marks_with child.step.item.0 held.marks.items
  pub spans : branch.held.spans.items
      ≡ picked child.step.item.0 (keys_of held.marks.items) held.spans.items
  pub bound : branch.bound ≡ child.bound

-- branches with a child more, if it is kept
abbrev pub IsPushed : Bool → Held → List Branch → List Branch → Child → Type 0
IsPushed true held old new child =
    (branch : Branch) × (new ≡ old ++ branch ∷ []) × IsMade held child branch
IsPushed false held old new child = new ≡ old

-- bounds that fall
abbrev pub Fall : List Branch → Type 0
Fall branches = FallBy (λ branch. branch.bound) branches

-- the branches of a kind of growth are those children of all that reach a floor
pub record AreBranchesBy (records : Records) (keep : ℕ → Bool) (pattern : List (List ℕ))
    (growth : Growth) (floor : ℤ) (branches : List Branch) : Type 0 where
  pub all : List Child
  pub are : AreChildrenBy records keep pattern growth all
  pub copies : AreCopies records pattern floor all branches
