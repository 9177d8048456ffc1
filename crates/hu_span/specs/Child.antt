-- The patterns with one step more than a pattern.
use Rattle.std.specs.Prelude.{◌≡◌, true, ◌<◌, ◌^◌, ◌++◌, ◌≤ℤ◌, ◌<ℤ◌, ℕ, ℤ, pos, Bool, List, length, take, slice_index_or, IfSome}
use Rattle.std.specs.List.{AllByRecursion, Contains}
use Rattle.hu_kind.specs.declared.entry.Entry.{Entry}
use Rattle.hu_kind.specs.Sequence.{sequence_entry, sequence_support, sequence_utility}
use Rattle.hu_chain.specs.declared.chain.Growth.{Growth}
use Rattle.hu_chain.specs.Grown.{grown, IsGrownFrom}
use Rattle.hu_chain.specs.declared.chain.Growth.TheVariants.{IntoLast, AfterLast}
use Rattle.hu_span.specs.declared.child.Child.{Child}
use Rattle.hu_span.specs.declared.child.Family.{Family}
use Rattle.hu_span.specs.declared.gather.Grown.{Grown}
use Rattle.hu_span.specs.declared.links.Links.{Links}
use Rattle.hu_span.specs.declared.mark.Mark.{Mark}
use Rattle.hu_span.specs.declared.step.Step.{Step}
use Rattle.hu_span.specs.declared.tally.Told.{Told}
use Rattle.hu_chain.specs.Bound.{IsFit}
use Rattle.hu_span.specs.Cut.{spread}
use Rattle.hu_span.specs.Gather.{AreGrown, MayTake}
use Rattle.hu_span.specs.Links.{at, keys_of, AreLinked, AreLinks, IsBack}
use Rattle.hu_span.specs.Growing.{AreRecords, IsBegun, Records}
use Rattle.hu_span.specs.Mark.{marks_of, marks_with, IsMark}
use Rattle.hu_span.specs.Tally.{reaches_of, told, IsTally, IsTold}

-- a pattern with a step more
abbrev pub stepped : List (List ℕ) → Step → List (List ℕ)
stepped pattern step = grown step.growth pattern step.item.0

-- the marks of a pattern that ends with an item
pub record ArePlaces (records : Records) (pattern : List (List ℕ)) (item : ℕ)
    (marks : List Mark) : Type 0 where
  pub is : marks ≡ marks_of records pattern item
  pub each : AllByRecursion (IsMark records item) marks

-- a child: a step by a kept item that the pattern may take, where what it makes occurs, with its utility and its support; no
-- pattern earns more than its bound that grows from it
pub record IsChild (records : Records) (keep : ℕ → Bool) (pattern : List (List ℕ))
    (child : Child) : Type 0 where
  pub may : MayTake child.step.growth pattern child.step.item.0
  pub kept : keep child.step.item.0 ≡ true
  pub occurs : 0 < sequence_support records (stepped pattern child.step)
  pub utility : child.utility ≡ sequence_utility records (stepped pattern child.step)
  pub support : child.support ≡ sequence_support records (stepped pattern child.step)
  pub bound : (other : List (List ℕ)) → IsGrownFrom (stepped pattern child.step) other
      → sequence_utility records other ≤ℤ child.bound

-- what a child is made of
pub record IsStep (records : Records) (keep : ℕ → Bool) (pattern : List (List ℕ)) (step : Step)
    (marks : List Mark) : Type 0 where
  pub are : AreRecords records
  pub begun : IsBegun pattern
  pub may : MayTake step.growth pattern step.item.0
  pub kept : keep step.item.0 ≡ true
  pub some : 0 < length marks
  pub places : ArePlaces records (stepped pattern step) step.item.0 marks

-- what the children of a kind of growth are made of
pub record IsGathered (records : Records) (keep : ℕ → Bool) (pattern : List (List ℕ))
    (growth : Growth) (marks : List Mark) : Type 0 where
  pub are : AreRecords records
  pub begun : IsBegun pattern
  pub grown : AreGrown records keep pattern growth marks

-- one of the children has a step
abbrev pub HasStep : List Child → Growth → ℕ → Type 0
HasStep children growth item =
    (child : Child) × Contains children child × (child.step.growth ≡ growth)
    × (child.step.item.0 ≡ item)

-- all children of a pattern by a kind of growth
pub record AreChildrenBy (records : Records) (keep : ℕ → Bool) (pattern : List (List ℕ))
    (growth : Growth) (children : List Child) : Type 0 where
  pub each : AllByRecursion (IsChild records keep pattern) children
  pub all : (item : ℕ) → keep item ≡ true → MayTake growth pattern item
      → 0 < sequence_support records (grown growth pattern item)
      → HasStep children growth item

-- the sum over the rows of a child, where it is known
abbrev pub IsSpread : List ℤ → Records → List (List ℕ) → Child → Type 0
IsSpread reaches records pattern child = IfSome child.spread
    (λ sum. sum ≡ spread reaches (marks_of records (stepped pattern child.step) child.step.item.0))

-- what is told of marks, item by item: their links, and the tally of the marks of each item
pub record AreTold (reaches : List ℤ) (links : Links) (tells : List Told)
    (marks : List Mark) : Type 0 where
  pub linked : AreLinks links (keys_of marks)
  pub size : length tells ≡ length links.numbers.items.items
  pub each : (number : ℕ) (none : Told) → number < length tells
      → IsTold reaches (marks_with (at links.numbers.items.items number) marks)
      (slice_index_or tells number none)

-- of the item of a mark so much may be told, as no sum is too large
pub record MayTell (mark : Mark) (marks : List Mark) : Type 0 where
  pub fit : IsFit mark.place
  pub tally : IsTally (told (marks_with mark.item.0 marks))
  pub fits : reaches_of (told (marks_with mark.item.0 marks)) <ℤ pos (2 ^ 127)

-- of each of further marks so much may be told after those in front of it
abbrev pub MayTellEach : List Mark → List Mark → Type 0
MayTellEach marks more = (i : ℕ) (none : Mark) → i < length more
    → MayTell (slice_index_or more i none) (marks ++ take i more)

-- a child tells where the last mark of its item stands among marks
abbrev pub IsLast : List Mark → Child → Type 0
IsLast marks child = IsBack (keys_of marks) child.step.item.0 child.last (length marks)

-- children of a kind of growth, each with its last mark: those before it are linked
pub record AreLasting (growth : Growth) (marks : List Mark) (children : List Child) : Type 0 where
  pub growths : AllByRecursion (λ child. child.step.growth ≡ growth) children
  pub lasts : AllByRecursion (IsLast marks) children

-- they are all children by the growth, and their sums over rows are known
pub record AreAllTold (records : Records) (keep : ℕ → Bool) (pattern : List (List ℕ))
    (growth : Growth) (reaches : List ℤ) (children : List Child) : Type 0 where
  pub are : AreChildrenBy records keep pattern growth children
  pub spreads : AllByRecursion (IsSpread reaches records pattern) children

-- a family has such children, and links their marks
pub record IsFamily (growth : Growth) (marks : List Mark) (family : Family) : Type 0 where
  pub lasting : AreLasting growth marks family.children.items
  pub linked : AreLinked (keys_of marks) family.olders.items

-- all children of a pattern
pub record AreChildren (records : Records) (keep : ℕ → Bool) (pattern : List (List ℕ))
    (children : List Child) : Type 0 where
  pub each : AllByRecursion (IsChild records keep pattern) children
  pub all : (growth : Growth) (item : ℕ) → keep item ≡ true → MayTake growth pattern item
      → 0 < sequence_support records (grown growth pattern item)
      → HasStep children growth item

-- the entry of a child
abbrev pub child_entry : Records → List (List ℕ) → Child → Entry
child_entry records pattern child = sequence_entry records (stepped pattern child.step)

-- what a pattern grows by, in both kinds
pub record AreGathered (records : Records) (keep : ℕ → Bool) (pattern : List (List ℕ))
    (grown : Grown) : Type 0 where
  pub into : IsGathered records keep pattern IntoLast grown.into.marks.items
  pub after : IsGathered records keep pattern AfterLast grown.after.marks.items
