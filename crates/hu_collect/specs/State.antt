-- The state of a collector, and what offers and searches make of it.
use Rattle.std.specs.Prelude.{◌≡◌, true, ℕ, ℤ, ◌≤ℤ◌, Option, List, [], Result, MatchResult}
use Rattle.std.specs.List.{All, Contains}
use Rattle.hu_kind.specs.declared.entry.Entry.{Entry}
use Rattle.hu_collect.specs.Rule.{Rule, rule_of, passes, made, floor_of}

-- the rule of a collector, which nothing changes, and what it holds
pub record State : Type 0 where
  pub rule : Rule
  pub content : List Entry

-- a state that holds nothing, wants every key and rests on no table
abbrev pub fresh : ℤ → Option ℕ → State
fresh start limit = record { rule = rule_of start limit; content = [] }

-- the state after offers of these entries
abbrev pub offered : State → List Entry → State
offered state entries = record { rule = state.rule; content = made state.rule state.content entries }

-- the floor: an entry of less utility changes nothing
abbrev pub floor_in : State → ℤ
floor_in state = floor_of state.rule state.content

-- what is held is in the one order, each entry once, and no longer than the limit
abbrev pub IsInOrder : State → Type 0
IsInOrder state = offered state [] ≡ state

-- an offer: after Ok the entries were offered, after Err all is as before
abbrev pub Takes : {T E : Type 0} → State → List Entry → State → Result T E → Type 0
Takes old entries new result = MatchResult result (λ _. new ≡ offered old entries) (λ _. new ≡ old)

-- some of these entries were offered
abbrev pub OfferedSome : State → List Entry → State → Type 0
OfferedSome old entries new = (some : List Entry) × All (Contains entries) some × (new ≡ offered old some)

-- a whole search: after Ok it is as if all entries had been offered, after Err some of them were
abbrev pub Mines : {T E : Type 0} → State → List Entry → State → Result T E → Type 0
Mines old entries new result =
    MatchResult result (λ _. new ≡ offered old entries) (λ _. OfferedSome old entries new)

-- of all entries that have a property some were offered, and none is left out that passes and reaches the new floor
pub record Reached (old : State) (P : Entry → Type 0) (new : State) : Type 0 where
  pub entries : List Entry
  pub each : (entry : Entry) → Contains entries entry → P entry
  pub enough : (entry : Entry) → P entry → passes old.rule entry ≡ true
      → floor_in new ≤ℤ entry.utility → Contains entries entry
  pub is : new ≡ offered old entries

-- some entries that have a property were offered
pub record ReachedSome (old : State) (P : Entry → Type 0) (new : State) : Type 0 where
  pub entries : List Entry
  pub each : (entry : Entry) → Contains entries entry → P entry
  pub is : new ≡ offered old entries

-- a step of a search for the entries that have a property: after Ok all that count were offered, after Err some were
abbrev pub Searches : {T E : Type 0} → State → (Entry → Type 0) → State → Result T E → Type 0
Searches old P new result = MatchResult result (λ _. Reached old P new) (λ _. ReachedSome old P new)
