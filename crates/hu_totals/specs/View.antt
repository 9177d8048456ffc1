-- Cells over ranks are seen as pairs (rank, value).
use Rattle.std.specs.Prelude.{ℕ, ℤ, List, map}
use Rattle.std.specs.declared.vec.Vec.{Vec}
use Rattle.std.specs.declared.alloc.Global.{Global}
use Rattle.hu_kind.specs.declared.item.Item.{Item}
use Rattle.hu_totals.specs.declared.ranked.Dense.{Dense}
use Rattle.hu_totals.specs.Ranked.{Ranking}

-- a cell as a pair
abbrev pub dense_pair : Dense → ℕ × ℤ
dense_pair cell = (cell.rank, cell.value)

-- cells as pairs
abbrev pub cells_of : List Dense → List (ℕ × ℤ)
cells_of cells = map dense_pair cells

-- the cells of a record as pairs
abbrev pub pairs_in : Vec Dense Global → List (ℕ × ℤ)
pairs_in cells = map dense_pair cells.items

-- what each of some vectors holds
abbrev pub lists_in : {A : Type 0} → List (Vec A Global) → List (List A)
lists_in vectors = map (λ vector. vector.items) vectors

-- the parts of ranked records together
abbrev pub ranking_of : ℤ → List Item → List (Vec Dense Global) → Ranking
ranking_of floor items records =
    record { floor = floor; items = map (λ item. item.0) items; records = map pairs_in records }
