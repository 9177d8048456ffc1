-- How a pattern grows: an item is put into its last itemset, or begins a new one. After USpan (Yin, Zheng and Cao,
-- 2012).
use Rattle.std.specs.Prelude.{◌≡◌, ℕ, List, [], ◌∷◌}
use Rattle.hu_chain.specs.declared.chain.Growth.{Growth}
use Rattle.hu_chain.specs.declared.chain.Growth.TheVariants.{IntoLast, AfterLast}
use Rattle.hu_chain.specs.Pattern.{Ends, EndsBelow, into, after}

-- a pattern after one growth
abbrev pub grown : Growth → List (List ℕ) → ℕ → List (List ℕ)
grown IntoLast pattern item = into pattern item
grown AfterLast pattern item = after pattern item

-- a pattern may take a growth: an item that is put into the last itemset is greater than the items there
abbrev pub CanGrow : Growth → List (List ℕ) → ℕ → Type 0
CanGrow IntoLast pattern item = EndsBelow pattern item
CanGrow AfterLast pattern item = Ends pattern

-- growths, one after the other, lead from one pattern to another
abbrev pub Leads : List (Growth × ℕ) → List (List ℕ) → List (List ℕ) → Type 0
Leads [] pattern other = pattern ≡ other
Leads (step ∷ steps) pattern other =
    CanGrow step.0 pattern step.1 × Leads steps (grown step.0 pattern step.1) other

-- a pattern comes of another one by any number of growths
pub record IsGrownFrom (pattern other : List (List ℕ)) : Type 0 where
  pub steps : List (Growth × ℕ)
  pub leads : Leads steps pattern other
