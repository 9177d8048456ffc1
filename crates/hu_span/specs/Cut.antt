-- What the records earn at most in which a pattern is grown by an item: no pattern with the item earns more. After the
-- reduced sequence utility of HUS-Span (Wang, Huang and Chen, 2016).
use Rattle.std.specs.Prelude.{
  ◌≡◌,
  ◌==◌,
  ◌≤ℤ◌,
  ◌<ℤ◌,
  ◌+ℤ◌,
  ◌⊎◌,
  true,
  ℕ,
  ℤ,
  pos,
  Bool,
  false,
  Option,
  None,
  Some,
  List,
  [],
  ◌∷◌,
  if◌then◌else◌,
}
use Rattle.std.specs.Prelude.{slice_index_or, map}
use Rattle.std.specs.List.{AllByRecursion, Contains}
use Rattle.hu_kind.specs.declared.item.Item.{Item}
use Rattle.hu_chain.specs.Bound.{reach}
use Rattle.hu_span.specs.declared.child.Child.{Child}
use Rattle.hu_span.specs.declared.mark.Mark.{Mark}
use Rattle.hu_span.specs.declared.step.Step.{Step}
use Rattle.hu_span.specs.Kept.{keeps}

-- what is known of a row, by its number
abbrev pub at_row : List ℤ → ℕ → ℤ
at_row reaches row = slice_index_or reaches row (pos 0)

-- whether a row is that of the mark before, if there is one
abbrev pub is_last : Option ℕ → ℕ → Bool
is_last None row = false
is_last (Some last) row = last == row

-- the sum over the rows of marks, each row once
abbrev pub spread_after : List ℤ → Option ℕ → List Mark → ℤ
spread_after reaches last [] = pos 0
spread_after reaches last (mark ∷ marks) =
    (if is_last last mark.row then pos 0 else at_row reaches mark.row)
    +ℤ spread_after reaches (Some mark.row) marks

abbrev pub spread : List ℤ → List Mark → ℤ
spread reaches marks = spread_after reaches None marks

-- no place of a row reaches further than what is known of the row
abbrev pub AreBelow : List ℤ → List Mark → Type 0
AreBelow reaches marks = AllByRecursion (λ mark. reach mark.place ≤ℤ at_row reaches mark.row) marks

-- a sum that is known stays below a floor
abbrev pub IsLow : Option ℤ → ℤ → Type 0
IsLow None floor = ⊥
IsLow (Some sum) floor = sum <ℤ floor

-- the items that are kept at a node: those of its steps, and those of its children whose rows reach the floor
pub record AreOpen (steps : List Step) (children : List Child) (floor : ℤ)
    (kept : Bool × List Item) : Type 0 where
  pub known : (item : ℕ) → keeps kept item ≡ true
      → Contains (map (λ step. step.item.0) steps) item ⊎ Contains
      (map (λ child. child.step.item.0) children) item
  pub own : AllByRecursion (λ step. keeps kept step.item.0 ≡ true) steps
  pub reaching : AllByRecursion (λ child. (keeps kept child.step.item.0 ≡ true) ⊎
      IsLow child.spread floor) children
