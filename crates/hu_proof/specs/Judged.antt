-- What a step of the check answers, and what it stands on.
use Rattle.std.specs.Prelude.{
  ◌≡◌,
  ◌⊎◌,
  ℕ,
  ◌<◌,
  ◌≤◌,
  ℤ,
  Bool,
  true,
  false,
  ◌&&◌,
  not,
  Option,
  None,
  Some,
  Result,
  MatchResult,
  List,
  [],
  ◌∷◌,
  map,
  option_map,
  drop,
  length,
  slice_index,
}
use Rattle.std.specs.List.{list_any}
use Rattle.hu_kind.specs.First.{first_some}
use Rattle.hu_kind.specs.Record.{has}
use Rattle.hu_proof.specs.declared.fault.CheckFault.{CheckFault}
use Rattle.hu_proof.specs.declared.fault.CheckFault.TheVariants.{NoMemory, NotOfForm, LeftOut}
use Rattle.hu_proof.specs.declared.token.Token.{Token}
use Rattle.hu_proof.specs.Bounds.{is_among, after}
use Rattle.hu_proof.specs.Check.{
  Node,
  first_such,
  wrong_bound_of,
  prefix_fault,
  utility_fault,
  child_fault,
  not_cut,
  minimum_fault,
}
use Rattle.hu_proof.specs.Places.{PlaceOf, earned, shares}
use Rattle.hu_proof.specs.Text.{Said, said_of}

-- a step goes on where there is no fault, else it answers the fault; want of memory is free
abbrev pub Judges : {T : Type 0} → Result T CheckFault → Option CheckFault → Type 0
Judges result fault = MatchResult result (λ _. fault ≡ None) (λ e. (e ≡ NoMemory) ⊎ (fault ≡ Some e))

-- the items of tokens
abbrev pub token_items : List Token → List ℕ
token_items tokens = map (λ token. token.item.0) tokens

-- the first fault of tokens' bounds, by the places of the prefix
abbrev pub bound_fault_at : ℕ → List ℕ → List PlaceOf → Token → Option CheckFault
bound_fault_at line later places token =
    wrong_bound_of line token.item token.bound (shares token.item.0
    (after token.item.0 later) places)

abbrev pub bound_faults : ℕ → List ℕ → List PlaceOf → List Token → Option CheckFault
bound_faults line later places tokens = first_some (map (bound_fault_at line later places) tokens)

-- the first later item that isn't named and stands in some of these places
abbrev pub missing : List ℕ → List ℕ → List PlaceOf → Option ℕ
missing later named places =
    first_such (λ item. not (is_among item named) && list_any (λ place. has item place.0) places)
    later

-- the lowest rank, from one on, of an item that isn't named and passes a test; as many as there are items where there is none
pub record IsLowest (order named : List ℕ) (from : ℕ) (test : ℕ → Bool) (low : ℕ) : Type 0 where
  pub within : low ≤ length order
  pub above : low < length order → from ≤ low
  pub unnamed : low < length order → is_among (slice_index order low) named ≡ false
  pub passes : low < length order → test (slice_index order low) ≡ true
  pub least : (rank : ℕ) → from ≤ rank → rank < low → is_among (slice_index order rank) named
      ≡ false → test (slice_index order rank) ≡ false

-- a rank from one on and below another, of an item that isn't named
pub record IsLower (order named : List ℕ) (from low item rank : ℕ) : Type 0 where
  pub above : from ≤ rank
  pub below : rank < low
  pub within : rank < length order
  pub is : slice_index order rank ≡ item
  pub unnamed : is_among item named ≡ false

-- an item after the prefix is left out
abbrev pub missing_fault : ℕ → List ℕ → List ℕ → List PlaceOf → Option CheckFault
missing_fault line later named places =
    option_map (λ item. LeftOut line (record { 0 = item })) (missing later named places)

-- the node of a path, before the later items of which so many items of the order stand
abbrev pub node_at : List ℕ → List ℕ → ℕ → Node
node_at order path from = record { prefix = path; later = drop from order }

-- the first fault of a line's tokens, by the places of the prefix
abbrev pub children_fault_at : ℤ → ℕ → List ℕ → List PlaceOf → List Token → Option CheckFault
children_fault_at least line later places tokens = first_some (
    missing_fault line later (token_items tokens) places
    ∷ bound_faults line later places tokens
    ∷ first_some (map (not_cut line least) tokens)
    ∷ [])

-- the first fault of the line of a prefix
abbrev pub fault_at : ℤ → ℕ → Node → List PlaceOf → Said → Option CheckFault
fault_at least line node places said = first_some (
    prefix_fault line node said
    ∷ utility_fault line said.utility (earned places)
    ∷ child_fault line node said
    ∷ children_fault_at least line node.later places said.tokens
    ∷ [])

abbrev pub line_fault_at : ℤ → ℕ → Node → List PlaceOf → Option Said → Option CheckFault
line_fault_at least line node places None = Some (NotOfForm line)
line_fault_at least line node places (Some said) = fault_at least line node places said

-- a line was read that says these tokens
abbrev pub SaysTokens : List ℕ → List Token → Type 0
SaysTokens text tokens = (said : Said) × (said_of text ≡ Some said) × (said.tokens ≡ tokens)

-- line 1 states the minimum, or this is the fault of the text
abbrev pub JudgesMinimum : ℤ → Option ℤ → Option CheckFault → Type 0
JudgesMinimum least stated None = stated ≡ Some least
JudgesMinimum least stated (Some fault) = (records : List (List (ℕ × ℤ))) (rest : List (List ℕ))
    → minimum_fault records least stated rest ≡ Some fault
