-- Cells after a rank.
use Rattle.std.proofs.Common.{◌≡◌, ℕ, zero, suc, ◌+◌, ◌<◌, ◌≤◌, Bool, true, false, cond, eqb, nat_lt, ◌&&◌, ◌||◌, ℤ}
use Rattle.std.proofs.Common.{unsigned_abs, ◌+ℤ◌, List, [], ◌∷◌, length, get_or, drop, inl, inr, refl, ap, arith}
use Rattle.std.specs.List.{AllByRecursion}
use Rattle.std.proofs.lemmas.Bool.{ne_eqb, eq-eqb, eqb-true, ltb-true, ltb-false, lt-ltb, le-ltb}
use Rattle.std.proofs.lemmas.List.Sums.{sum_by-cons}
use Rattle.hu_kind.specs.Order.{Ascend}
use Rattle.hu_kind.specs.Record.{has, holds, value_of, values_of, items_in, absolute_of}
use Rattle.hu_kind.proofs.lemmas.Members.{Member}
use Rattle.hu_totals.specs.Cells.{after}

-- a cell in front that isn't after z says nothing of ranks after z
other : (z s : ℕ) (cell : ℕ × ℤ) → z < s → nat_lt z cell.0 ≡ false → eqb s cell.0 ≡ false
other z s cell above h = let low = ltb-false z cell.0 h in ne_eqb s cell.0 (λ e. absurd (omega arith))

pub has-after : (z s : ℕ) (cells : List (ℕ × ℤ)) → z < s → has s (after z cells) ≡ has s cells
has-after z s [] above = refl
has-after z s (cell ∷ cells) above = by (nat_lt z cell.0) refl (has-after z s cells above)
  where
    by : (b : Bool) → nat_lt z cell.0 ≡ b → has s (after z cells) ≡ has s cells → has s (cond b (cell ∷ after z cells) (after z cells)) ≡ has s (cell ∷ cells)
    by true h ih = ap (λ r. eqb s cell.0 || r) ih
    by false h ih = let no : eqb s cell.0 ≡ false = other z s cell above h in rw no ih

pub value_of-after : (z s : ℕ) (cells : List (ℕ × ℤ)) → z < s → value_of s (after z cells) ≡ value_of s cells
value_of-after z s [] above = refl
value_of-after z s (cell ∷ cells) above = by (nat_lt z cell.0) refl (value_of-after z s cells above)
  where
    by : (b : Bool) → nat_lt z cell.0 ≡ b → value_of s (after z cells) ≡ value_of s cells
        → value_of s (cond b (cell ∷ after z cells) (after z cells)) ≡ value_of s (cell ∷ cells)
    by true h ih = ap (λ r. cond (eqb s cell.0) cell.1 r) ih
    by false h ih = let no : eqb s cell.0 ≡ false = other z s cell above h in rw no ih

pub holds-after : (z : ℕ) (set : List ℕ) (cells : List (ℕ × ℤ)) → AllByRecursion (λ rank. z < rank) set → holds set (after z cells) ≡ holds set cells
holds-after z [] cells above = refl
holds-after z (s ∷ set) cells above = λ j. has-after z s cells above.0 j && holds-after z set cells above.1 j

pub values_of-after : (z : ℕ) (set : List ℕ) (cells : List (ℕ × ℤ)) → AllByRecursion (λ rank. z < rank) set
    → values_of set (after z cells) ≡ values_of set cells
values_of-after z [] cells above = refl
values_of-after z (s ∷ set) cells above = λ j. value_of-after z s cells above.0 j +ℤ values_of-after z set cells above.1 j

-- what holds of each rank holds of those after z
pub each-after : (P : ℕ → Type 0) (z : ℕ) (cells : List (ℕ × ℤ)) → AllByRecursion P (items_in cells) → AllByRecursion P (items_in (after z cells))
each-after P z [] all = tt
each-after P z (cell ∷ cells) all = by (nat_lt z cell.0) (each-after P z cells all.1)
  where
    by : (b : Bool) → AllByRecursion P (items_in (after z cells)) → AllByRecursion P (items_in (cond b (cell ∷ after z cells) (after z cells)))
    by true ih = (all.0, ih)
    by false ih = ih

pub Ascend-after : (z : ℕ) (cells : List (ℕ × ℤ)) → Ascend (items_in cells) → Ascend (items_in (after z cells))
Ascend-after z [] up = tt
Ascend-after z (cell ∷ cells) up = by (nat_lt z cell.0) (Ascend-after z cells up.1)
  where
    by : (b : Bool) → Ascend (items_in (after z cells)) → Ascend (items_in (cond b (cell ∷ after z cells) (after z cells)))
    by true ih = (each-after (λ y. cell.0 < y) z cells up.0, ih)
    by false ih = ih

-- cells that are all after z
pub after-all : (z : ℕ) (cells : List (ℕ × ℤ)) → AllByRecursion (λ y. z < y) (items_in cells) → after z cells ≡ cells
after-all z [] all = refl
after-all z (cell ∷ cells) all = let yes : nat_lt z cell.0 ≡ true = lt-ltb z cell.0 all.0 in rw yes (ap (λ rest. cell ∷ rest) (after-all z cells all.1))

-- a rank that is less than each is less than that at a place
pub rank-above : (z : ℕ) (cells : List (ℕ × ℤ)) (i : ℕ) (d : ℕ × ℤ) → AllByRecursion (λ y. z < y) (items_in cells) → i < length cells
    → z < (get_or cells i d).0
rank-above z [] i d all within = absurd (omega arith)
rank-above z (cell ∷ cells) zero d all within = all.0
rank-above z (cell ∷ cells) (suc i) d all within = rank-above z cells i d all.1 (omega arith)

-- the cell at a place, by its rank
pub record IsPlace (z : ℕ) (cells : List (ℕ × ℤ)) (value : ℤ) (rest : List (ℕ × ℤ)) : Type 0 where
  pub found : has z cells ≡ true
  pub worth : value_of z cells ≡ value
  pub tail : after z cells ≡ rest

pub IsPlace-at : (cells : List (ℕ × ℤ)) (i : ℕ) (d : ℕ × ℤ) → Ascend (items_in cells) → i < length cells
    → IsPlace (get_or cells i d).0 cells (get_or cells i d).1 (drop (suc i) cells)
IsPlace-at [] i d up within = absurd (omega arith)
IsPlace-at (cell ∷ cells) zero d up within =
    let here : eqb cell.0 cell.0 ≡ true = eq-eqb cell.0 cell.0 refl in
    let not_after : nat_lt cell.0 cell.0 ≡ false = le-ltb cell.0 cell.0 (omega arith) in
    record { found = rw here refl; worth = rw here refl; tail = rw not_after (after-all cell.0 cells up.0) }
IsPlace-at (cell ∷ cells) (suc i) d up within =
    let z = (get_or cells i d).0 in
    let ih = IsPlace-at cells i d up.1 (omega arith) in
    let before : cell.0 < z = rank-above cell.0 cells i d up.0 (omega arith) in
    let no : eqb z cell.0 ≡ false = ne_eqb z cell.0 (λ e. absurd (omega arith)) in
    let not_after : nat_lt z cell.0 ≡ false = le-ltb z cell.0 (omega arith) in
    record { found = rw no ih.found; worth = rw no ih.worth; tail = rw not_after ih.tail }

-- the absolute values after z are within all of them, with that of z
pub absolute_of-after : (z : ℕ) (cells : List (ℕ × ℤ)) → absolute_of (after z cells) + unsigned_abs (value_of z cells) ≤ absolute_of cells
absolute_of-after z [] = omega arith
absolute_of-after z (cell ∷ cells) = by (nat_lt z cell.0) (eqb z cell.0) refl refl (absolute_of-after z cells)
  where
    by : (b c : Bool) → nat_lt z cell.0 ≡ b → eqb z cell.0 ≡ c → absolute_of (after z cells) + unsigned_abs (value_of z cells) ≤ absolute_of cells
        → absolute_of (cond b (cell ∷ after z cells) (after z cells)) + unsigned_abs (cond c cell.1 (value_of z cells)) ≤ absolute_of (cell ∷ cells)
    by true true h e ih = let low = ltb-true z cell.0 h in let same = eqb-true z cell.0 e in absurd (omega arith)
    by true false h e ih =
        omega (
          arith,
          sum_by-cons (λ (c : ℕ × ℤ). unsigned_abs c.1) cell (after z cells),
          sum_by-cons (λ (c : ℕ × ℤ). unsigned_abs c.1) cell cells,
        )
    by false true h e ih = omega (arith, sum_by-cons (λ (c : ℕ × ℤ). unsigned_abs c.1) cell cells)
    by false false h e ih = omega (arith, sum_by-cons (λ (c : ℕ × ℤ). unsigned_abs c.1) cell cells)

-- a rank after z among the cells after z, and one of all cells
pub Member-after : (z rank : ℕ) (cells : List (ℕ × ℤ)) → Member rank (items_in (after z cells)) → (z < rank) × Member rank (items_in cells)
Member-after z rank [] m = absurd m
Member-after z rank (cell ∷ cells) m = by (nat_lt z cell.0) refl (Member-after z rank cells) m
  where
    by : (b : Bool) → nat_lt z cell.0 ≡ b → (Member rank (items_in (after z cells)) → (z < rank) × Member rank (items_in cells))
        → Member rank (items_in (cond b (cell ∷ after z cells) (after z cells))) → (z < rank) × Member rank (items_in (cell ∷ cells))
    by true h ih (inl e) = (omega (arith, ltb-true z cell.0 h), inl e)
    by true h ih (inr n) = let r = ih n in (r.0, inr r.1)
    by false h ih n = let r = ih n in (r.0, inr r.1)
