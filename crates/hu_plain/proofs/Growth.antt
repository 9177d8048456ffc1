-- A prefix grows by one item after another: the sets that begin with an item are the item alone and the sets that grow
-- the prefix with it.
use Rattle.std.proofs.Common.{◌≡◌, ℕ, ◌≤◌, ◌+◌, Bool, true, false, cond, ℤ, pos, ◌+ℤ◌, List, [], ◌∷◌, ◌++◌, length}
use Rattle.std.proofs.Common.{refl, sym, ap, ◌∙◌, inl, inr, arith, sum_by, length-append}
use Rattle.std.specs.List.{AllByRecursion}
use Rattle.std.proofs.lemmas.Int.{ints}
use Rattle.std.proofs.lemmas.List.Sums.{sum_by-cons, sum_by-append}
use Rattle.hu_kind.specs.Record.{holds, values_of, items_in}
use Rattle.hu_kind.specs.Database.{support}
use Rattle.hu_kind.proofs.lemmas.Each.{each-append, each-weaker}
use Rattle.hu_plain.specs.Row.{RowOf, earned_in, earned, tails, grown_row, grown_rows, weight_of, AreRows, IsRising}
use Rattle.hu_plain.proofs.Cut.{AllAbove, cut}

-- what a set that begins with an item earns in a row is what the rest earns in the grown row
earned-grown_row : (item : ℕ) (items : List ℕ) (row : RowOf) → IsRising row → AllAbove item items
    → earned (grown_row item row.0 row.1) items ≡ earned_in (item ∷ items) row
earned-grown_row item items row up above = elim (cut item row.0 row.1) [
  | inr none ↦ simp (none.0, none.1)
  | inl c ↦
      let tail = c.tail up in
      simp (c.is, c.here, c.earns, tail.held items above, tail.earn items above) (apart c.value (values_of items c.rest) (holds items c.rest))
]
  where
    apart : (v w : ℤ) (b : Bool) → cond b ((row.0 +ℤ v) +ℤ w) (pos 0) +ℤ pos 0 ≡ cond b (row.0 +ℤ (v +ℤ w)) (pos 0)
    apart v w true = omega (arith, ints)
    apart v w false = refl

-- as many grown rows hold the rest as rows hold the set
support-grown_row : (item : ℕ) (items : List ℕ) (row : RowOf) → IsRising row → AllAbove item items
    → support (tails (grown_row item row.0 row.1)) items ≡ cond (holds (item ∷ items) row.1) 1 0
support-grown_row item items row up above = elim (cut item row.0 row.1) [
  | inr none ↦ simp (none.0, none.1)
  | inl c ↦ let tail = c.tail up in simp (c.is, c.here, tail.held items above) (once (holds items c.rest))
]
  where
    once : (b : Bool) → 0 + cond b 1 0 ≡ cond b 1 0
    once true = refl
    once false = refl

-- the same over all rows
earned-append : (xs ys : List RowOf) (items : List ℕ) → earned (xs ++ ys) items ≡ earned xs items +ℤ earned ys items
earned-append [] ys items = omega (arith, ints)
earned-append (x ∷ xs) ys items = let ih = earned-append xs ys items in omega (arith, ints)

tails-append : (xs ys : List RowOf) → tails (xs ++ ys) ≡ tails xs ++ tails ys
tails-append [] ys = refl
tails-append (x ∷ xs) ys = ap (λ z. x.1 ∷ z) (tails-append xs ys)

pub earned-grown_rows : (item : ℕ) (items : List ℕ) (rows : List RowOf) → AllByRecursion IsRising rows → AllAbove item items
    → earned (grown_rows item rows) items ≡ earned rows (item ∷ items)
earned-grown_rows item items [] up above = refl
earned-grown_rows item items (row ∷ rows) up above =
    earned-append (grown_row item row.0 row.1) (grown_rows item rows) items
    ∙ ap (λ z. z +ℤ earned (grown_rows item rows) items) (earned-grown_row item items row up.0 above)
    ∙ ap (λ z. earned_in (item ∷ items) row +ℤ z) (earned-grown_rows item items rows up.1 above)

pub support-grown_rows : (item : ℕ) (items : List ℕ) (rows : List RowOf) → AllByRecursion IsRising rows → AllAbove item items
    → support (tails (grown_rows item rows)) items ≡ support (tails rows) (item ∷ items)
support-grown_rows item items [] up above = refl
support-grown_rows item items (row ∷ rows) up above =
    ap (λ z. support z items) (tails-append (grown_row item row.0 row.1) (grown_rows item rows))
    ∙ sum_by-append (λ r. cond (holds items r) 1 0) (tails (grown_row item row.0 row.1)) (tails (grown_rows item rows))
    ∙ ap (λ z. z + support (tails (grown_rows item rows)) items) (support-grown_row item items row up.0 above)
    ∙ ap (λ z. cond (holds (item ∷ items) row.1) 1 0 + z) (support-grown_rows item items rows up.1 above)
    ∙ sym (sum_by-cons (λ r. cond (holds (item ∷ items) r) 1 0) row.1 (tails rows))

-- the cells of grown rows ascend, and come after the item
pub record IsCut (item : ℕ) (row : RowOf) : Type 0 where
  pub rising : IsRising row
  pub above : AllAbove item (items_in row.1)

cut-grown_row : (item : ℕ) (row : RowOf) → IsRising row → AllByRecursion (IsCut item) (grown_row item row.0 row.1)
cut-grown_row item row up = elim (cut item row.0 row.1) [
  | inr none ↦ rw none.0 tt
  | inl c ↦ let tail = c.tail up in rw c.is (record { rising = tail.ascending; above = tail.above }, tt)
]

pub cut-grown_rows : (item : ℕ) (rows : List RowOf) → AllByRecursion IsRising rows → AllByRecursion (IsCut item) (grown_rows item rows)
cut-grown_rows item [] up = tt
cut-grown_rows item (row ∷ rows) up =
    each-append (IsCut item) (grown_row item row.0 row.1) (grown_rows item rows) (cut-grown_row item row up.0) (cut-grown_rows item rows up.1)

pub rising-grown_rows : (item : ℕ) (rows : List RowOf) → AllByRecursion IsRising rows → AllByRecursion IsRising (grown_rows item rows)
rising-grown_rows item rows up = each-weaker (IsCut item) IsRising (grown_rows item rows) (λ row is. is.rising) (cut-grown_rows item rows up)

pub above-grown_rows : (item : ℕ) (rows : List RowOf) → AllByRecursion IsRising rows
    → AllByRecursion (λ row. AllAbove item (items_in row.1)) (grown_rows item rows)
above-grown_rows item rows up =
    each-weaker (IsCut item) (λ row. AllAbove item (items_in row.1)) (grown_rows item rows) (λ row is. is.above) (cut-grown_rows item rows up)

-- grown rows weigh no more
weights-grown_row : (item : ℕ) (row : RowOf) → sum_by weight_of (grown_row item row.0 row.1) ≤ weight_of row
weights-grown_row item row = elim (cut item row.0 row.1) [
  | inr none ↦ rw none.0 (omega arith)
  | inl c ↦ let weight = c.weight in rw c.is (omega (arith, ints, weight))
]

weights-grown_rows : (item : ℕ) (rows : List RowOf) → sum_by weight_of (grown_rows item rows) ≤ sum_by weight_of rows
weights-grown_rows item [] = omega arith
weights-grown_rows item (row ∷ rows) = omega (
  arith,
  sum_by-append weight_of (grown_row item row.0 row.1) (grown_rows item rows),
  sum_by-cons weight_of row rows,
  weights-grown_row item row,
  weights-grown_rows item rows,
)

-- so a prefix grows from rows to rows
pub AreRows-grown_rows : (item : ℕ) (rows : List RowOf) → AreRows rows → AreRows (grown_rows item rows)
AreRows-grown_rows item rows are = record {
  ascending = rising-grown_rows item rows are.ascending;
  sum_fits = omega (arith, weights-grown_rows item rows, are.sum_fits);
}

-- how many cells stand after the prefix: each grown row has taken one
abbrev pub cells_in : List RowOf → ℕ
cells_in rows = sum_by (λ row. length row.1) rows

cells_in-grown_row : (item : ℕ) (row : RowOf) → cells_in (grown_row item row.0 row.1) + length (grown_row item row.0 row.1) ≤ length row.1
cells_in-grown_row item row = elim (cut item row.0 row.1) [
  | inr none ↦ rw none.0 (omega arith)
  | inl c ↦ let fewer = c.fewer in rw c.is (omega (arith, fewer))
]

pub cells_in-grown_rows : (item : ℕ) (rows : List RowOf) → cells_in (grown_rows item rows) + length (grown_rows item rows) ≤ cells_in rows
cells_in-grown_rows item [] = omega arith
cells_in-grown_rows item (row ∷ rows) = omega (
  arith,
  sum_by-append (λ (r : RowOf). length r.1) (grown_row item row.0 row.1) (grown_rows item rows),
  length-append (grown_row item row.0 row.1) (grown_rows item rows),
  sum_by-cons (λ (r : RowOf). length r.1) row rows,
  cells_in-grown_row item row,
  cells_in-grown_rows item rows,
)

-- all rows hold the prefix
pub support-none : (rows : List RowOf) → support (tails rows) [] ≡ length rows
support-none [] = refl
support-none (row ∷ rows) = omega (arith, sum_by-cons (λ r. cond (holds [] r) 1 0) row.1 (tails rows), support-none rows)
