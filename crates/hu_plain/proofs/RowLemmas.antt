-- Rows, by their places.
use Rattle.std.proofs.Common.{◌≡◌, ℕ, zero, suc, ◌<◌, ◌≤◌, ◌^◌, true, ◌+ℤ◌, unsigned_abs, List, [], ◌∷◌, ◌++◌, map, length, get_or, take, refl, sym, ap, subst}
use Rattle.std.proofs.Common.{arith, sum_by, nat_eq, Contains, IsPermutation}
use Rattle.std.specs.List.{AllByRecursion}
use Rattle.std.specs.List.Retain.{IsFiltered, DiffersFromLast}
use Rattle.std.specs.Ordering.{on}
use Rattle.std.proofs.lemmas.Int.{ints}
use Rattle.std.proofs.lemmas.Bool.{eqb-true}
use Rattle.std.proofs.lemmas.Cmp.{on_equiv, nat_eq_equiv}
use Rattle.std.proofs.lemmas.List.Sums.{sum_by-cons}
use Rattle.std.proofs.lemmas.List.Filters.{dedup_is}
use Rattle.std.proofs.lemmas.List.Kept.{Contains-dedup, Contains-from_dedup}
use Rattle.std.proofs.lemmas.List.Sorted.{Contains-permutation, IsPermutation-sym}
use Rattle.hu_kind.specs.declared.item.Item.{Item}
use Rattle.hu_kind.specs.Cell.{pairs_of}
use Rattle.hu_kind.specs.Record.{items_in, absolute_of, IsRecord}
use Rattle.hu_kind.specs.Order.{Ascend}
use Rattle.hu_kind.proofs.lemmas.Ascending.{Ascend-adjacent}
use Rattle.hu_kind.proofs.lemmas.Members.{Member, Member-map, Member-from_map, Contains-from_member, Member-from_contains}
use Rattle.hu_collect.specs.Laws.{SameMembers}
use Rattle.hu_plain.specs.declared.row.Row.{Row}
use Rattle.hu_plain.specs.Row.{Cells, earned, weight_of, AreRows, IsRising}
use Rattle.hu_plain.specs.View.{row_of, rows_of, first_row, numbers_of}

-- a row's weight is within the sum
weight-at : (rows : List Row) (i : ℕ) (d : Row) → i < length rows → weight_of (row_of (get_or rows i d)) ≤ sum_by weight_of (rows_of rows)
weight-at [] i d within = absurd (omega arith)
weight-at (row ∷ rows) zero d within = omega (arith, sum_by-cons weight_of (row_of row) (rows_of rows))
weight-at (row ∷ rows) (suc i) d within = omega (arith, sum_by-cons weight_of (row_of row) (rows_of rows), weight-at rows i d (omega arith))

pub weight-below : (rows : List Row) (i : ℕ) (d : Row) (bound : ℕ) → sum_by weight_of (rows_of rows) < bound → i < length rows
    → weight_of (row_of (get_or rows i d)) < bound
weight-below rows i d bound below within = omega (arith, weight-at rows i d within)

-- one more row, and what the prefix earns in the rows so far
pub earned-more : (rows : List Row) (i : ℕ) (d : Row) → i < length rows
    → earned (rows_of (take (suc i) rows)) [] ≡ earned (rows_of (take i rows)) [] +ℤ (get_or rows i d).earned
earned-more [] i d within = absurd (omega arith)
earned-more (row ∷ rows) zero d within = omega (arith, ints)
earned-more (row ∷ rows) (suc i) d within = let ih = earned-more rows i d (omega arith) in omega (arith, ints)

-- what a prefix earns is within the weights
earned-within : (rows : List Row) (i : ℕ) → unsigned_abs (earned (rows_of (take i rows)) []) ≤ sum_by weight_of (rows_of rows)
earned-within [] zero = omega arith
earned-within [] (suc i) = omega arith
earned-within (row ∷ rows) zero = omega arith
earned-within (row ∷ rows) (suc i) = let ih = earned-within rows i in omega (arith, ints, sum_by-cons weight_of (row_of row) (rows_of rows))

pub sum-within : (rows : List Row) (i : ℕ) (d : Row) → i < length rows
    → unsigned_abs (earned (rows_of (take i rows)) [] +ℤ (get_or rows i d).earned) ≤ sum_by weight_of (rows_of rows)
sum-within rows i d within = rw (← earned-more rows i d within) (earned-within rows (suc i))

-- dropping repeats keeps which items there are, and so does sorting before it
exact_item : (x y : Item) → on (λ (item : Item). item.0) nat_eq x y ≡ true → x ≡ y
exact_item x y h = let item : ℕ → Item = λ n. record { 0 = n } in ap item (eqb-true x.0 y.0 h)

pub SameMembers-dedup : (items kept : List Item) → IsFiltered (DiffersFromLast (on (λ (item : Item). item.0) nat_eq)) [] items kept
    → SameMembers items kept
SameMembers-dedup items kept filtered item =
    let same = on (λ (item : Item). item.0) nat_eq in
    let is = dedup_is same items kept filtered in (
      λ c. subst (λ xs. Contains xs item) (sym is) (Contains-dedup (on_equiv (λ (item : Item). item.0) nat_eq_equiv) exact_item items item c),
      λ c. Contains-from_dedup same items item (subst (λ xs. Contains xs item) is c),
    )

pub SameMembers-distinct : (items sorted kept : List Item) → IsPermutation items sorted
    → IsFiltered (DiffersFromLast (on (λ (item : Item). item.0) nat_eq)) [] sorted kept → SameMembers items kept
SameMembers-distinct items sorted kept moved filtered item =
    let same = SameMembers-dedup sorted kept filtered item in (
      λ c. same.0 (Contains-permutation items sorted item moved c),
      λ c. Contains-permutation sorted items item (IsPermutation-sym items sorted moved) (same.1 c),
    )

-- and so which numbers there are
Contains-numbers : (items others : List Item) → ((item : Item) → Contains items item → Contains others item)
    → (n : ℕ) → Contains (numbers_of items) n → Contains (numbers_of others) n
Contains-numbers items others each n c =
    let number : Item → ℕ = λ item. item.0 in
    let found = Member-from_map number n items (Member-from_contains n (numbers_of items) c) in
    let m = Member-map number found.0 others (Member-from_contains found.0 others (each found.0 (Contains-from_member found.0 items found.1))) in
    Contains-from_member n (numbers_of others) (subst (λ x. Member x (numbers_of others)) found.2 m)

pub numbers-distinct : (items kept : List Item) (numbers : List ℕ) → numbers_of items ≡ numbers → SameMembers items kept
    → SameMembers numbers (numbers_of kept)
numbers-distinct items kept numbers is same n = (
  λ c. Contains-numbers items kept (λ item. (same item).0) n (subst (λ xs. Contains xs n) (sym is) c),
  λ c. subst (λ xs. Contains xs n) is (Contains-numbers kept items (λ item. (same item).1) n c),
)

-- the items of a list by their numbers
pub item-of_number : (item : Item) (items : List Item) → Contains (numbers_of items) item.0 → Contains items item
item-of_number item items c =
    let number : Item → ℕ = λ i. i.0 in
    let item_of : ℕ → Item = λ n. record { 0 = n } in
    let found = Member-from_map number item.0 items (Member-from_contains item.0 (numbers_of items) c) in
    Contains-from_member item items (subst (λ i. Member i items) (ap item_of found.2) found.1)

pub number-of_item : (item : Item) (items : List Item) → Contains items item → Contains (numbers_of items) item.0
number-of_item item items c =
    let number : Item → ℕ = λ i. i.0 in
    Contains-from_member item.0 (numbers_of items) (Member-map number item items (Member-from_contains item items c))

-- one more row whose cells ascend
pub rising_push : (rows : List Row) (row : Row) (cells : Cells) → AllByRecursion IsRising (rows_of rows) → IsRecord cells
    → pairs_of row.tail.now ≡ cells → AllByRecursion IsRising (rows_of (rows ++ row ∷ []))
rising_push [] row cells all is same = (subst (λ cs. Ascend (items_in cs)) (sym same) (Ascend-adjacent cells is.itemset.ascending), tt)
rising_push (r ∷ rows) row cells all is same = (all.0, rising_push rows row cells all.1 is same)

-- the rows of the empty prefix weigh as much as the records
weights-first : (records : List Cells) → sum_by weight_of (map first_row records) ≡ sum_by absolute_of records
weights-first [] = refl
weights-first (r ∷ records) = omega (
  arith,
  sum_by-cons weight_of (first_row r) (map first_row records),
  sum_by-cons absolute_of r records,
  weights-first records,
)

pub AreRows-first : (rows : List Row) (records : List Cells) → rows_of rows ≡ map first_row records
    → AllByRecursion IsRising (rows_of rows) → sum_by absolute_of records < 2 ^ 127 → AreRows (rows_of rows)
AreRows-first rows records is up fits = record {
  ascending = up;
  sum_fits = omega (arith, ap (sum_by weight_of) is, weights-first records, fits);
}
