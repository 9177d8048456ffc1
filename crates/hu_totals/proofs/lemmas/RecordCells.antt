-- The cells of a record.
use Rattle.std.proofs.Common.{◌≡◌, ℕ, ◌<◌, Bool, true, false, cond, eqb, ◌||◌, ℤ, pos, List, [], ◌∷◌, refl, arith}
use Rattle.std.specs.List.{AllByRecursion}
use Rattle.std.proofs.lemmas.Bool.{ne_eqb}
use Rattle.hu_kind.specs.Order.{Ascend}
use Rattle.hu_kind.specs.Record.{has, value_of, items_in, IsRecord}
use Rattle.hu_kind.proofs.lemmas.Ascending.{Ascend-adjacent}

-- its items ascend
pub Ascend-record : (cells : List (ℕ × ℤ)) → IsRecord cells → Ascend (items_in cells)
Ascend-record cells is = Ascend-adjacent cells is.itemset.ascending

-- an item before all others isn't there
pub has-below : (item : ℕ) (cells : List (ℕ × ℤ)) → AllByRecursion (λ other. item < other) (items_in cells) → has item cells ≡ false
has-below item [] above = refl
has-below item (cell ∷ cells) above =
    let no : eqb item cell.0 ≡ false = ne_eqb item cell.0 (λ e. absurd (omega arith)) in
    rw no (has-below item cells above.1)

-- what isn't there has the value 0
pub value_of-absent : (item : ℕ) (cells : List (ℕ × ℤ)) → has item cells ≡ false → value_of item cells ≡ pos 0
value_of-absent item [] out = refl
value_of-absent item (cell ∷ cells) out = by (eqb item cell.0) (value_of-absent item cells) out
  where
    by : (b : Bool) → (has item cells ≡ false → value_of item cells ≡ pos 0) → b || has item cells ≡ false → cond b cell.1 (value_of item cells) ≡ pos 0
    by true ih out' = cc
    by false ih out' = ih out'
