-- What a chain bounds: no pattern that grows from the chain's one earns more. After the prefix extension utility and
-- the reduced sequence utility of HUS-Span (Wang, Huang and Chen, 2016).
use Rattle.std.specs.Prelude.{
  ◌^◌,
  ℕ,
  ℤ,
  pos,
  ◌+ℤ◌,
  ◌≤ℤ◌,
  ◌<ℤ◌,
  Option,
  None,
  Some,
  is_some,
  unwrap_or,
  List,
  [],
  ◌∷◌,
  ⊤,
  if◌then◌else◌,
}
use Rattle.hu_kind.specs.Sequence.{better, best_utility}
use Rattle.hu_chain.specs.declared.place.Place.{Place}

-- the greatest of what places count for
abbrev pub greatest : (Place → ℤ) → List Place → Option ℤ
greatest f [] = None
greatest f (place ∷ places) = better (Some (f place)) (greatest f places)

-- the greatest utility at places
abbrev pub best_of : List Place → Option ℤ
best_of places = greatest (λ place. place.best) places

-- the utility at a place with all values after it
abbrev pub reach : Place → ℤ
reach place = place.best +ℤ place.rest

-- the greatest reach of places, 0 where there is none
abbrev pub extension_bound : List Place → ℤ
extension_bound places = unwrap_or (greatest reach places) (pos 0)

-- the same for a growth: 0 where the grown pattern doesn't occur
abbrev pub reduced_bound : List Place → List (List ℕ) → List (List (ℕ × ℤ)) → ℤ
reduced_bound places pattern elements =
    if is_some (best_utility pattern elements) then extension_bound places else pos 0

-- a utility, if there is one, is at most a bound
abbrev pub IsAtMost : Option ℤ → ℤ → Type 0
IsAtMost None bound = ⊤
IsAtMost (Some u) bound = u ≤ℤ bound

-- the rules of a place: no sum is below 0, and what it reaches is at most 2 ^ 127 - 1
pub record IsFit (place : Place) : Type 0 where
  pub best : pos 0 ≤ℤ place.best
  pub rest : pos 0 ≤ℤ place.rest
  pub reach : reach place <ℤ pos (2 ^ 127)
