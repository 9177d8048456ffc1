-- Rows of the same ranks made one: what they add stays, and in order no two have the same ranks.
use Rattle.std.proofs.Common.{◌≡◌, ◌<◌, ◌≢◌, ℕ, suc, ◌+◌, ◌≤◌, Bool, true, false, cond, ◌||◌, ℤ, ◌+ℤ◌, List, [], ◌∷◌, take, drop, reverse, refl, sym}
use Rattle.std.proofs.Common.{ap, ◌∙◌, subst, arith, sum_by, nat_cmp, Ordering, Less, Equal, Greater}
use Rattle.std.specs.List.{AllByRecursion, fold, prefix_len, list_any}
use Rattle.std.specs.Ordering.{is_lt, is_eq, ordering_reverse}
use Rattle.std.specs.Cmp.{IsTotalOrder}
use Rattle.std.specs.Cmp.Lexicographic.{slice_cmp}
use Rattle.std.proofs.lemmas.Cmp.{nat_list_cmp_total, on_total, tied_itself}
use Rattle.std.proofs.lemmas.Int.{ints}
use Rattle.std.proofs.lemmas.List.{reverse-reverse}
use Rattle.std.proofs.lemmas.List.Sums.{sum_by-cons}
use Rattle.std.proofs.lemmas.Map.Lookups.{exact_bytes}
use Rattle.hu_kind.specs.Order.{Ascend}
use Rattle.hu_rows.specs.declared.rows.Row.{Row}
use Rattle.hu_rows.specs.Rows.{RowOf, AreRows, AreApart, AreCounted, count_of, size_of, ranks_of}
use Rattle.hu_rows.specs.Sums.{sum_over}
use Rattle.hu_rows.specs.Merging.{row_cmp, added, merged, merged_from}
use Rattle.hu_rows.specs.View.{row_of, rows_of, same_ranks}
use Rattle.hu_rows.proofs.AddedCells.{items_in-added_cells, size_of-added}

-- ---- the order of rows

pub row_cmp_total : IsTotalOrder row_cmp
row_cmp_total = on_total (λ row. reverse (ranks_of row)) nat_list_cmp_total

is_eq-true : (o : Ordering) → is_eq o ≡ true → o ≡ Equal
is_eq-true Less h = cc
is_eq-true Equal h = refl
is_eq-true Greater h = cc

pub same-from_is_eq : (a b : RowOf) → is_eq (row_cmp a b) ≡ true → ranks_of a ≡ ranks_of b
same-from_is_eq a b h =
    let back : reverse (ranks_of a) ≡ reverse (ranks_of b) = exact_bytes (reverse (ranks_of a)) (reverse (ranks_of b)) (is_eq-true (row_cmp a b) h) in
    sym (reverse-reverse (ranks_of a)) ∙ ap reverse back ∙ reverse-reverse (ranks_of b)

apart-from_is_eq : (a b : RowOf) → is_eq (row_cmp a b) ≡ false → ranks_of a ≢ ranks_of b
apart-from_is_eq a b h same =
    let tied : row_cmp a b ≡ Equal = ap (λ ranks. slice_cmp nat_cmp (reverse (ranks_of a)) (reverse ranks)) (sym same) ∙ tied_itself row_cmp_total a in
    let never : is_eq (row_cmp a b) ≡ true = ap is_eq tied in
    cc

-- ---- rows as they are merged

-- what holds of a row alone, of a row that takes on the next one, and of a row before another holds of merged rows
by_merging : (P : RowOf → List RowOf → List RowOf → Type 0)
    → ((row : RowOf) → P row [] (row ∷ []))
    → ((row next : RowOf) (rows answer : List RowOf) → ranks_of row ≡ ranks_of next → P (added row next) rows answer → P row (next ∷ rows) answer)
    → ((row next : RowOf) (rows : List RowOf) → is_eq (row_cmp row next) ≡ false → P next rows (merged_from next rows)
    → P row (next ∷ rows) (row ∷ merged_from next rows))
    → (row : RowOf) (rows : List RowOf) → P row rows (merged_from row rows)
by_merging P one same other row [] = one row
by_merging P one same other row (next ∷ rows) = by (is_eq (row_cmp row next)) refl (λ r. by_merging P one same other r rows)
  where
    by : (b : Bool) → is_eq (row_cmp row next) ≡ b → ((r : RowOf) → P r rows (merged_from r rows))
        → P row (next ∷ rows) (cond b (merged_from (added row next) rows) (row ∷ merged_from next rows))
    by true h ih = same row next rows (merged_from (added row next) rows) (same-from_is_eq row next h) (ih (added row next))
    by false h ih = other row next rows h (ih next)

-- ---- what rows of the same ranks add

abbrev pub IsAdded : (RowOf → ℤ) → Type 0
IsAdded f = (row other : RowOf) → ranks_of row ≡ ranks_of other → f (added row other) ≡ f row +ℤ f other

abbrev pub IsCounted : (RowOf → ℕ) → Type 0
IsCounted f = (row other : RowOf) → ranks_of row ≡ ranks_of other → f (added row other) ≡ f row + f other

pub sum_over-merged : (f : RowOf → ℤ) → IsAdded f → (rows : List RowOf) → sum_over f (merged rows) ≡ sum_over f rows
sum_over-merged f adds [] = refl
sum_over-merged f adds (row ∷ rows) =
    by_merging (λ row rows answer. sum_over f answer ≡ f row +ℤ sum_over f rows)
    (λ row. refl)
    (λ row next rows answer same ih. omega (arith, ints, ih, adds row next same))
    (λ row next rows h ih. ap (λ rest. f row +ℤ rest) ih)
    row rows

pub sum_by-merged : (f : RowOf → ℕ) → IsCounted f → (rows : List RowOf) → sum_by f (merged rows) ≡ sum_by f rows
sum_by-merged f adds [] = refl
sum_by-merged f adds (row ∷ rows) =
    by_merging (λ row rows answer. sum_by f answer ≡ sum_by f (row ∷ rows))
    (λ row. refl)
    (λ row next rows answer same ih. omega (
      arith,
      ih,
      adds row next same,
      sum_by-cons f (added row next) rows,
      sum_by-cons f row (next ∷ rows),
      sum_by-cons f next rows,
    ))
    (λ row next rows h ih. omega (arith, ih, sum_by-cons f row (merged_from next rows), sum_by-cons f row (next ∷ rows)))
    row rows

-- ---- the ranks of merged rows

-- some row passes a test of its ranks where one does of the merged rows
pub list_any-merged : (p : List ℕ → Bool) (rows : List RowOf) → list_any (λ row. p (ranks_of row)) (merged rows) ≡ list_any (λ row. p (ranks_of row)) rows
list_any-merged p [] = refl
list_any-merged p (row ∷ rows) =
    by_merging (λ row rows answer. list_any (λ r. p (ranks_of r)) answer ≡ (p (ranks_of row) || list_any (λ r. p (ranks_of r)) rows))
    (λ row. refl)
    (λ row next rows answer same ih.
    ih ∙ ap (λ ranks. p ranks || list_any (λ r. p (ranks_of r)) rows) (items_in-added_cells row.cells next.cells)
    ∙ twice (p (ranks_of row)) (p (ranks_of next)) (list_any (λ r. p (ranks_of r)) rows) (ap p same))
    (λ row next rows h ih. ap (λ rest. p (ranks_of row) || rest) ih)
    row rows
  where
    twice : (a b c : Bool) → a ≡ b → (a || c) ≡ (a || (b || c))
    twice true b c e = refl
    twice false true c e = cc
    twice false false c e = refl

-- what holds of the ranks of each row holds of those of merged rows
each-merged_from : (P : List ℕ → Type 0) (row : RowOf) (rows : List RowOf) → P (ranks_of row) → AllByRecursion (λ other. P (ranks_of other)) rows
    → AllByRecursion (λ other. P (ranks_of other)) (merged_from row rows)
each-merged_from P =
    by_merging (λ row rows answer. P (ranks_of row) → AllByRecursion (λ other. P (ranks_of other)) rows → AllByRecursion (λ other. P (ranks_of other)) answer)
    (λ row here all. (here, tt))
    (λ row next rows answer same ih here all. ih (subst P (sym (items_in-added_cells row.cells next.cells)) here) all.1)
    (λ row next rows h ih here all. (here, ih all.0 all.1))

pub each-merged : (P : List ℕ → Type 0) (rows : List RowOf) → AllByRecursion (λ row. P (ranks_of row)) rows
    → AllByRecursion (λ row. P (ranks_of row)) (merged rows)
each-merged P [] all = tt
each-merged P (row ∷ rows) all = each-merged_from P row rows all.0 all.1

-- merged rows stand for records where the rows do
pub counted-merged : (rows : List RowOf) → AreCounted rows → AreCounted (merged rows)
counted-merged [] all = tt
counted-merged (row ∷ rows) all =
    by_merging (λ row rows answer. 0 < row.count → AreCounted rows → AreCounted answer)
    (λ row here all. (here, tt))
    (λ row next rows answer same ih here all. ih (omega arith) all.1)
    (λ row next rows h ih here all. (here, ih all.0 all.1))
    row rows all.0 all.1

-- ---- the rules of rows

sizes-merged : (rows : List RowOf) → sum_by size_of (merged rows) ≤ sum_by size_of rows
sizes-merged [] = omega arith
sizes-merged (row ∷ rows) =
    by_merging (λ row rows answer. sum_by size_of answer ≤ sum_by size_of (row ∷ rows))
    (λ row. omega arith)
    (λ row next rows answer same ih. omega (
      arith,
      ih,
      size_of-added row next,
      sum_by-cons size_of (added row next) rows,
      sum_by-cons size_of row (next ∷ rows),
      sum_by-cons size_of next rows,
    ))
    (λ row next rows h ih. omega (arith, ih, sum_by-cons size_of row (merged_from next rows), sum_by-cons size_of row (next ∷ rows)))
    row rows

pub AreRows-merged : (rows : List RowOf) → AreRows rows → AreRows (merged rows)
AreRows-merged rows rules = record {
  ascending = each-merged Ascend rows rules.ascending;
  sizes = omega (arith, sizes-merged rows, rules.sizes);
  counts = omega (arith, sum_by-merged count_of (λ row other same. refl) rows, rules.counts);
}

-- ---- merged rows in order

-- each row stands before none of those in front of it
abbrev pub Rising : List RowOf → Type 0
Rising [] = Unit {0}
Rising (row ∷ rows) = AllByRecursion (λ other. is_lt (row_cmp other row) ≡ false) rows × Rising rows

above : (a b : RowOf) → is_lt (row_cmp b a) ≡ false → is_eq (row_cmp a b) ≡ false → row_cmp a b ≡ Less
above a b low apart = by (row_cmp a b) refl
  where
    by : (o : Ordering) → row_cmp a b ≡ o → row_cmp a b ≡ Less
    by Less e = e
    by Equal e = let eq : is_eq (row_cmp a b) ≡ true = ap is_eq e in cc
    by Greater e = let less : is_lt (row_cmp b a) ≡ true = ap is_lt (row_cmp_total.antisymm b a ∙ ap ordering_reverse e) in cc

-- a row that is less than another has the ranks of none that isn't
apart-above : (row next other : RowOf) → row_cmp row next ≡ Less → is_lt (row_cmp other next) ≡ false → ranks_of row ≢ ranks_of other
apart-above row next other less high same =
    let same_cmp : row_cmp other next ≡ Less = ap (λ ranks. slice_cmp nat_cmp (reverse ranks) (reverse (ranks_of next))) (sym same) ∙ less in
    let never : is_lt (row_cmp other next) ≡ true = ap is_lt same_cmp in
    cc

all_apart : (row next : RowOf) (rows : List RowOf) → row_cmp row next ≡ Less → AllByRecursion (λ other. is_lt (row_cmp other next) ≡ false) rows
    → AllByRecursion (λ other. ranks_of row ≢ ranks_of other) rows
all_apart row next [] less high = tt
all_apart row next (other ∷ rows) less high = (apart-above row next other less high.0, all_apart row next rows less high.1)

-- a row in front that takes on another keeps its place
rising-added : (row next : RowOf) (rows : List RowOf) → AllByRecursion (λ other. is_lt (row_cmp other row) ≡ false) rows
    → AllByRecursion (λ other. is_lt (row_cmp other (added row next)) ≡ false) rows
rising-added row next [] high = tt
rising-added row next (other ∷ rows) high =
    let keeps : ranks_of row ≡ ranks_of (added row next) = sym (items_in-added_cells row.cells next.cells) in
    (subst (λ ranks. is_lt (slice_cmp nat_cmp (reverse (ranks_of other)) (reverse ranks)) ≡ false) keeps high.0, rising-added row next rows high.1)

pub AreApart-merged : (rows : List RowOf) → Rising rows → AreApart (merged rows)
AreApart-merged [] rise = tt
AreApart-merged (row ∷ rows) rise =
    by_merging (λ row rows answer. Rising (row ∷ rows) → AreApart answer)
    (λ row rise. (tt, tt))
    (λ row next rows answer same ih rise. ih (rising-added row next rows rise.0.1, rise.1.1))
    (λ row next rows h ih rise.
    let higher = all_apart row next rows (above row next rise.0.0 h) rise.1.0 in
    (each-merged_from (λ ranks. ranks_of row ≢ ranks) next rows (apart-from_is_eq row next h) higher, ih rise.1))
    row rows rise

-- ---- merging run by run

fold-run : (first row : RowOf) (rest : List Row) → ranks_of row ≡ ranks_of first
    → merged_from row (rows_of rest) ≡ fold added row (rows_of (take (prefix_len (same_ranks first) rest) rest))
    ∷ merged (rows_of (drop (prefix_len (same_ranks first) rest) rest))
fold-run first row [] same = refl
fold-run first row (next ∷ rest) same =
    by (is_eq (row_cmp row (row_of next))) (is_eq (row_cmp first (row_of next)))
    (ap (λ ranks. is_eq (slice_cmp nat_cmp (reverse ranks) (reverse (ranks_of (row_of next))))) same)
    (fold-run first (added row (row_of next)) rest (items_in-added_cells row.cells (row_of next).cells ∙ same))
  where
    by : (b c : Bool) → b ≡ c
        → merged_from (added row (row_of next)) (rows_of rest) ≡ fold added (added row (row_of next))
        (rows_of (take (prefix_len (same_ranks first) rest) rest)) ∷ merged (rows_of (drop (prefix_len (same_ranks first) rest) rest))
        → cond b (merged_from (added row (row_of next)) (rows_of rest)) (row ∷ merged_from (row_of next) (rows_of rest))
        ≡ fold added row (rows_of (take (cond c (1 + prefix_len (same_ranks first) rest) 0) (next ∷ rest)))
        ∷ merged (rows_of (drop (cond c (1 + prefix_len (same_ranks first) rest) 0) (next ∷ rest)))
    by true true e ih =
        let n = prefix_len (same_ranks first) rest in
        let one : 1 + n ≡ suc n = omega arith in
        rw one ih
    by false false e ih = refl
    by true false e ih = cc
    by false true e ih = cc

-- the rows at the front that have the ranks of the first become one row
pub merged-run : (first : Row) (rest : List Row)
    → merged (rows_of (first ∷ rest)) ≡ fold added (row_of first) (rows_of (take (prefix_len (same_ranks (row_of first)) rest) rest))
    ∷ merged (rows_of (drop (prefix_len (same_ranks (row_of first)) rest) rest))
merged-run first rest = fold-run (row_of first) (row_of first) rest refl

-- what grows by no more than each row's share as rows are added
pub fold-within : (f : RowOf → ℕ) → ((row other : RowOf) → f (added row other) ≤ f row + f other) → (row : RowOf) (rows : List RowOf)
    → f (fold added row rows) ≤ f row + sum_by f rows
fold-within f grows row [] = omega arith
fold-within f grows row (next ∷ rows) = omega (arith, fold-within f grows (added row next) rows, grows row next, sum_by-cons f next rows)
