-- The laws of what collectors make. They hold of every rule.
use Rattle.std.specs.Prelude.{◌≡◌, true, ◌<ℤ◌, ◌≤ℤ◌, ◌↔◌, List, [], ◌∷◌, ◌++◌}
use Rattle.std.specs.List.{Contains}
use Rattle.hu_kind.specs.declared.entry.Entry.{Entry}
use Rattle.hu_collect.specs.Rule.{Rule, passes, made, IsKept, floor_of}

-- two lists have the same members
abbrev pub SameMembers : {A : Type 0} → List A → List A → Type 0
SameMembers xs ys = (x : _) → Contains xs x ↔ Contains ys x

-- making of one list and then of another is making of both
abbrev pub MakesInTurn : Type 0
MakesInTurn = (rule : Rule) (content first second : List Entry) →
    made rule (made rule content first) second ≡ made rule content (first ++ second)

-- lists with the same members make the same
abbrev pub MakesByMembers : Type 0
MakesByMembers = (rule : Rule) (content xs ys : List Entry) → SameMembers xs ys
    → made rule content xs ≡ made rule content ys

-- so do lists with the same members among those that pass
abbrev pub MakesByPassing : Type 0
MakesByPassing = (rule : Rule) (content xs ys : List Entry)
    → ((x : Entry) → passes rule x ≡ true → Contains xs x ↔ Contains ys x)
    → made rule content xs ≡ made rule content ys

-- and where the content is kept, lists with the same members among those that pass and reach the floor
abbrev pub MakesByReaching : Type 0
MakesByReaching = (rule : Rule) (content xs ys : List Entry) → IsKept rule content
    → ((x : Entry) → passes rule x ≡ true → floor_of rule content ≤ℤ x.utility
    → Contains xs x ↔ Contains ys x)
    → made rule content xs ≡ made rule content ys

-- an entry below the floor leaves the content
abbrev pub LeavesBelowFloor : Type 0
LeavesBelowFloor = (rule : Rule) (content : List Entry) (entry : Entry) → IsKept rule content →
    entry.utility <ℤ floor_of rule content → made rule content (entry ∷ []) ≡ content

-- the floor never falls
abbrev pub KeepsFloor : Type 0
KeepsFloor = (rule : Rule) (content entries : List Entry) → IsKept rule content →
    floor_of rule content ≤ℤ floor_of rule (made rule content entries)
