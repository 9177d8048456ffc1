-- An item cuts a row: what its cell earns, and the cells after it.
use Rattle.std.proofs.Common.{◌≡◌, ℕ, ◌<◌, ◌≤◌, ◌+◌, true, false, eqb, ℤ, ◌+ℤ◌, unsigned_abs, List, [], ◌∷◌, length}
use Rattle.std.proofs.Common.{refl, sym, ◌∙◌, subst, ◌⊎◌, inl, inr, arith}
use Rattle.std.specs.List.{AllByRecursion}
use Rattle.std.proofs.lemmas.Bool.{eq-eqb, ne_eqb, cases_eq}
use Rattle.std.proofs.lemmas.List.Sums.{sum_by-cons}
use Rattle.hu_kind.specs.Record.{has, holds, value_of, values_of, items_in, absolute_of}
use Rattle.hu_kind.specs.Order.{Ascend}
use Rattle.hu_kind.proofs.lemmas.Occurring.{at_member, above_all, has-member}
use Rattle.hu_plain.specs.Row.{Cells, grown_row}

-- all items of a list come after one
abbrev pub AllAbove : ℕ → List ℕ → Type 0
AllAbove item items = AllByRecursion (λ other. item < other) items

-- a cell before all items of a set changes nothing
holds-skip : (cell : ℕ × ℤ) (cells : Cells) (items : List ℕ) → AllAbove cell.0 items → holds items (cell ∷ cells) ≡ holds items cells
holds-skip cell cells [] above = refl
holds-skip cell cells (item ∷ items) above =
    let no : eqb item cell.0 ≡ false = ne_eqb item cell.0 (λ e. absurd (omega arith)) in
    simp (no, holds-skip cell cells items above.1)

values_of-skip : (cell : ℕ × ℤ) (cells : Cells) (items : List ℕ) → AllAbove cell.0 items → values_of items (cell ∷ cells) ≡ values_of items cells
values_of-skip cell cells [] above = refl
values_of-skip cell cells (item ∷ items) above =
    let no : eqb item cell.0 ≡ false = ne_eqb item cell.0 (λ e. absurd (omega arith)) in
    simp (no, values_of-skip cell cells items above.1)

-- cells after an item, of cells that ascend: later items stand in both alike
pub record IsTail (item : ℕ) (cells rest : Cells) : Type 0 where
  pub ascending : Ascend (items_in rest)
  pub above : AllAbove item (items_in rest)
  pub held : (items : List ℕ) → AllAbove item items → holds items cells ≡ holds items rest
  pub earn : (items : List ℕ) → AllAbove item items → values_of items cells ≡ values_of items rest

-- the row that an item makes
pub record Cut (item : ℕ) (sum : ℤ) (cells : Cells) : Type 0 where
  pub value : ℤ
  pub rest : Cells
  pub is : grown_row item sum cells ≡ (sum +ℤ value, rest) ∷ []
  pub weight : unsigned_abs value + absolute_of rest ≤ absolute_of cells
  pub fewer : length rest < length cells
  pub here : has item cells ≡ true
  pub earns : value_of item cells ≡ value
  pub tail : Ascend (items_in cells) → IsTail item cells rest

pub cut : (item : ℕ) (sum : ℤ) (cells : Cells) → Cut item sum cells ⊎ ((grown_row item sum cells ≡ []) × (has item cells ≡ false))
cut item sum [] = inr (refl, refl)
cut item sum (cell ∷ cells) = elim (cases_eq item cell.0) [
  | inl e ↦
      let yes : eqb item cell.0 ≡ true = eq-eqb item cell.0 e in
      let whole = sum_by-cons (λ (c : ℕ × ℤ). unsigned_abs c.1) cell cells in
      inl (record {
        value = cell.1;
        rest = cells;
        is = rw yes refl;
        weight = omega (arith, whole);
        fewer = omega arith;
        here = rw yes refl;
        earns = rw yes refl;
        tail = λ up. record {
          ascending = up.1;
          above = subst (λ x. AllAbove x (items_in cells)) (sym e) up.0;
          held = λ items above. holds-skip cell cells items (subst (λ x. AllAbove x items) e above);
          earn = λ items above. values_of-skip cell cells items (subst (λ x. AllAbove x items) e above);
        };
      })
  | inr differs ↦
      let no : eqb item cell.0 ≡ false = ne_eqb item cell.0 differs in
      let whole = sum_by-cons (λ (c : ℕ × ℤ). unsigned_abs c.1) cell cells in
      elim (cut item sum cells) [
        | inr none ↦ inr (rw no none.0, rw no none.1)
        | inl c ↦
            let weight = c.weight in
            let fewer = c.fewer in
            let later : Ascend (items_in (cell ∷ cells)) → (items : List ℕ) → AllAbove item items → AllAbove cell.0 items =
            λ up items above. above_all cell.0 item items (at_member (λ y. cell.0 < y) item (items_in cells) up.0 (has-member item cells c.here)) above in
            inl (record {
              value = c.value;
              rest = c.rest;
              is = rw no c.is;
              weight = omega (arith, whole, weight);
              fewer = omega (arith, fewer);
              here = rw no c.here;
              earns = rw no c.earns;
              tail = λ up. let tail = c.tail up.1 in record {
                ascending = tail.ascending;
                above = tail.above;
                held = λ items above. holds-skip cell cells items (later up items above) ∙ tail.held items above;
                earn = λ items above. values_of-skip cell cells items (later up items above) ∙ tail.earn items above;
              };
            })
      ]
]
