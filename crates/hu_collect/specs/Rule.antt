-- What a collector keeps: its rule, and what it makes of entries by that rule.
use Rattle.std.specs.Prelude.{
  ◌≡◌,
  ℕ,
  ℤ,
  int_le,
  nat_lt,
  Bool,
  true,
  ◌&&◌,
  Option,
  None,
  Some,
  List,
  [],
  ◌∷◌,
  ◌++◌,
  length,
  if◌then◌else◌,
}
use Rattle.std.specs.Int.{int_max}
use Rattle.std.specs.List.{All, Contains, filter}
use Rattle.hu_kind.specs.declared.entry.Entry.{Entry}
use Rattle.hu_kind.specs.Order.{entry_cmp, ranking, cut}

-- a collector's start, its limit (a number of entries or none), the keys that it wants, and the item of each rank
-- where it rests on a table of ranks
pub record Rule : Type 0 where
  pub start : ℤ
  pub limit : Option ℕ
  pub wants : List ℤ → Bool
  pub table : Option (List ℕ)

-- the rule that wants every key and rests on no table
abbrev pub rule_of : ℤ → Option ℕ → Rule
rule_of start limit = record { start = start; limit = limit; wants = λ _. true; table = None }

-- whether an entry has a wanted key and at least the start as its utility
abbrev pub passes : Rule → Entry → Bool
passes rule entry = rule.wants entry.key && int_le rule.start entry.utility

-- what a content and further entries make together: those that pass are put in by the one order, each once, and the
-- first of all stay, up to the limit
abbrev pub made : Rule → List Entry → List Entry → List Entry
made rule content entries = cut rule.limit (ranking entry_cmp (content ++ filter (passes rule) entries))

-- a content is in the one order, each entry once, and no longer than the limit
abbrev pub IsKept : Rule → List Entry → Type 0
IsKept rule content = made rule content [] ≡ content

-- the utility of the last entry, or a given number where there is none
abbrev pub last_utility : ℤ → List Entry → ℤ
last_utility least [] = least
last_utility least (entry ∷ entries) = last_utility entry.utility entries

-- the floor by the limit: the start until the limit is reached, then the greater of it and the last entry's utility
abbrev pub floor_by : Option ℕ → ℤ → List Entry → ℤ
floor_by None start content = start
floor_by (Some k) start content =
    if nat_lt (length content) k then start else int_max start (last_utility start content)

-- the floor: an entry of less utility changes nothing
abbrev pub floor_of : Rule → List Entry → ℤ
floor_of rule content = floor_by rule.limit rule.start content

-- a content that an old one and some of these entries make together
abbrev pub MakesSome : Rule → List Entry → List Entry → List Entry → Type 0
MakesSome rule old entries new =
    (some : List Entry) × All (λ entry. Contains entries entry) some × (new ≡ made rule old some)
