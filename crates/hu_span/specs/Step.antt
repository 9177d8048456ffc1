-- The steps of a search: each growth with its item. They tell the pattern that they make of the empty one, and its key.
use Rattle.std.specs.Prelude.{ℕ, ℤ, pos, List, [], ◌∷◌, ◌++◌}
use Rattle.hu_kind.specs.Sequence.{closed}
use Rattle.hu_chain.specs.declared.chain.Growth.{Growth}
use Rattle.hu_chain.specs.declared.chain.Growth.TheVariants.{IntoLast, AfterLast}
use Rattle.hu_chain.specs.Grown.{grown}
use Rattle.hu_span.specs.declared.step.Step.{Step}

-- what steps make of a pattern
abbrev pub pattern_from : List (List ℕ) → List Step → List (List ℕ)
pattern_from pattern [] = pattern
pattern_from pattern (step ∷ steps) = pattern_from (grown step.growth pattern step.item.0) steps

-- and of the empty one
abbrev pub pattern_of : List Step → List (List ℕ)
pattern_of steps = pattern_from [] steps

-- a key with a growth by an item more, its last itemset open
abbrev pub grown_key : List ℤ → Growth → ℕ → List ℤ
grown_key key IntoLast item = key ++ pos item ∷ []
grown_key key AfterLast item = closed key ++ pos item ∷ []

-- the key of steps, its last itemset open
abbrev pub open_key : List ℤ → List Step → List ℤ
open_key key [] = key
open_key key (step ∷ steps) = open_key (grown_key key step.growth step.item.0) steps
