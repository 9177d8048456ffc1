-- How often items stand in a list, and cells in order.
use Rattle.std.proofs.Common.{◌≡◌, ℕ, ◌+◌, ◌-◌, ◌<◌, ◌≤◌, ◌≢◌, ◌==◌, Bool, true, false, cond, min, fold, None, Some, List, [], ◌∷◌, ◌++◌, length, take, drop}
use Rattle.std.proofs.Common.{map, filter, refl, sym, ap, ◌∙◌, ◌⊎◌, inl, inr, arith, get_or, nat_lt, suc, ℤ, pos, add-zero}
use Rattle.std.specs.List.{All, AllByRecursion, AllAdjacentBelow, reduce}
use Rattle.std.specs.List.Sorted.{IsPermutation, IsStrictlySortedBy, IsNonDecreasing, IsNonDecreasingBy, IsStrictlyIncreasing}
use Rattle.std.specs.declared.cmp.Ordering.TheVariants.{Less}
use Rattle.std.specs.Ordering.{nat_cmp, int_cmp}
use Rattle.std.proofs.lemmas.Bool.{cases_eq, cases_lt}
use Rattle.std.proofs.lemmas.Bool.Decides.{nat_tests}
use Rattle.std.proofs.lemmas.List.Sums.{sum_by-cons, sum_by-append, get_or-le-sum_by}
use Rattle.std.proofs.lemmas.List.{get_or_default, get_or-map, length-map, take-append-drop, length-take-le, length-drop, get_or-take, get_or-drop}
use Rattle.std.proofs.lemmas.List.Sorted.{sum_by-IsPermutation, IsPermutation-map}
use Rattle.std.proofs.lemmas.Map.Keys.{sorted_head, sorted_tail, sorted_from_strictly_increasing, sorted_from_all_adjacent}
use Rattle.std.proofs.lemmas.Map.Lookups.{exact_pairs, exact_unsigned, exact_signed}
use Rattle.std.proofs.lemmas.Cmp.{then_total, on_total, int_cmp_total, nat_cmp_total}
use Rattle.hu_kind.specs.declared.item.Cell.{Cell}
use Rattle.hu_kind.specs.Cell.{pair_of, pairs_of}
use Rattle.hu_kind.specs.Cells.{pair_cmp, by_item, times, twice, IsFirstTwice}
use Rattle.hu_kind.specs.Record.{items_in}
use Rattle.hu_kind.proofs.lemmas.RankingLemmas.{IsExactOrder, ranking-permutation, ranking-sorted}

times-cons : (e x : ℕ) (xs : List ℕ) → times e (x ∷ xs) ≡ cond (x == e) 1 0 + times e xs
times-cons e x xs = sum_by-cons (λ other. cond (other == e) 1 0) x xs

times-append : (e : ℕ) (xs ys : List ℕ) → times e (xs ++ ys) ≡ times e xs + times e ys
times-append e xs ys = sum_by-append (λ other. cond (other == e) 1 0) xs ys

times-permutation : (e : ℕ) (xs ys : List ℕ) → IsPermutation xs ys → times e ys ≡ times e xs
times-permutation e xs ys h = sum_by-IsPermutation (λ other. cond (other == e) 1 0) xs ys h

-- what stands at a place stands in the list
times-present : (xs : List ℕ) (k e : ℕ) → k < length xs → get_or xs k 0 ≡ e → 0 < times e xs
times-present xs k e within at =
    let some = get_or-le-sum_by (λ other. cond (other == e) 1 0) xs k 0 within in
    grind (arith, nat_tests)

-- what stands at no place doesn't
times-absent : (e : ℕ) (xs : List ℕ) → All (λ x. e < x) xs → times e xs ≡ 0
times-absent e [] h = refl
times-absent e (x ∷ xs) h =
    let above : e < x = h 0 0 (omega arith) in
    let rest : times e xs ≡ 0 = times-absent e xs (λ k d within. h (suc k) d (omega arith)) in
    let step = times-cons e x xs in
    grind (arith, nat_tests)

times-head : (x : ℕ) (xs : List ℕ) → 0 < times x (x ∷ xs)
times-head x xs = times-present (x ∷ xs) 0 x (omega arith) refl

head_or_later : (x d : ℕ) (xs : List ℕ) → 0 < times d (x ∷ xs) → (x ≡ d) ⊎ (0 < times d xs)
head_or_later x d xs some =
    elim (cases_eq x d) [
      | inl same ↦ inl same
      | inr other ↦ let step = times-cons d x xs in inr (grind (arith, nat_tests))
    ]

-- the least of numbers
min_reached : (a x d : ℕ) (xs : List ℕ) → (a ≡ d) ⊎ (0 < times d (x ∷ xs)) → d ≤ a → d ≤ x → (min a x ≡ d) ⊎ (0 < times d xs)
min_reached a x d xs (inl here) below above = inl (omega arith)
min_reached a x d xs (inr some) below above =
    elim (cases_eq x d) [
      | inl same ↦ inl (omega arith)
      | inr other ↦ let step = times-cons d x xs in inr (grind (arith, nat_tests))
    ]

fold_min : (xs : List ℕ) (a d : ℕ) → (a ≡ d) ⊎ (0 < times d xs) → d ≤ a → ((e : ℕ) → 0 < times e xs → d ≤ e) → fold min a xs ≡ d
fold_min [] a d (inl here) below least = here
fold_min [] a d (inr some) below least = absurd (omega (arith, some))
fold_min (x ∷ xs) a d reached below least =
    let above : d ≤ x = least x (times-head x xs) in
    fold_min xs (min a x) d (min_reached a x d xs reached below above) (omega arith) (λ e some. least e (omega (arith, times-cons e x xs)))

reduce_min : (xs : List ℕ) (d : ℕ) → 0 < times d xs → ((e : ℕ) → 0 < times e xs → d ≤ e) → reduce min xs ≡ Some d
reduce_min [] d some least = absurd (omega (arith, some))
reduce_min (x ∷ xs) d some least =
    let above : d ≤ x = least x (times-head x xs) in
    let reached : (x ≡ d) ⊎ (0 < times d xs) = head_or_later x d xs some in
    ap Some (fold_min xs x d reached above (λ e more. least e (omega (arith, times-cons e x xs))))

filter_step : (p : ℕ → Bool) (e x : ℕ) (xs ys : List ℕ) (t : Bool) → p x ≡ t → times e ys ≡ cond (p e) (times e xs) 0
    → (x ≡ e) ⊎ (x ≢ e) → times e (cond t (x ∷ ys) ys) ≡ cond (p e) (times e (x ∷ xs)) 0
filter_step p e x xs ys true is more (inl same) =
    let passes : p e ≡ true = rw (← same) is in
    let front = times-cons e x xs in
    let kept = times-cons e x ys in
    simp passes (omega (arith, rw passes at more))
filter_step p e x xs ys false is more (inl same) =
    let fails : p e ≡ false = rw (← same) is in
    simp fails (rw fails at more)
filter_step p e x xs ys true is more (inr other) =
    let front = times-cons e x xs in
    let kept = times-cons e x ys in
    grind (arith, nat_tests)
filter_step p e x xs ys false is more (inr other) =
    let front = times-cons e x xs in
    grind (arith, nat_tests)

times-filter : (p : ℕ → Bool) (e : ℕ) (xs : List ℕ) → times e (filter p xs) ≡ cond (p e) (times e xs) 0
times-filter p e [] = grind (arith, nat_tests)
times-filter p e (x ∷ xs) = filter_step p e x xs (filter p xs) (p x) refl (times-filter p e xs) (cases_eq x e)

-- the smallest of the items that stand more than once
twice-some : (xs : List ℕ) (d : ℕ) → 1 < times d xs → ((e : ℕ) → 1 < times e xs → d ≤ e) → twice xs ≡ Some d
twice-some xs d more least =
    let repeats : ℕ → Bool = λ item. nat_lt 1 (times item xs) in
    reduce_min (filter repeats xs) d
    (let kept = times-filter repeats d xs in grind (arith, nat_tests))
    (λ e some. least e (let kept = times-filter repeats e xs in grind (arith, nat_tests)))

none_left : (xs : List ℕ) → ((e : ℕ) → times e xs ≡ 0) → reduce min xs ≡ None
none_left [] none = refl
none_left (x ∷ xs) none = absurd (omega (arith, times-head x xs, none x))

twice-none : (xs : List ℕ) → ((e : ℕ) → times e xs ≤ 1) → twice xs ≡ None
twice-none xs once =
    let repeats : ℕ → Bool = λ item. nat_lt 1 (times item xs) in
    none_left (filter repeats xs) (λ e. let kept = times-filter repeats e xs in let one = once e in grind (arith, nat_tests))

Less-lt : (x y : ℕ) → nat_cmp x y ≡ Less → x < y
Less-lt x y h = grind (arith, nat_tests)

times-above : (e x : ℕ) (xs : List ℕ) → AllByRecursion (λ y. nat_cmp x y ≡ Less) xs → e ≤ x → times e xs ≡ 0
times-above e x [] h below = refl
times-above e x (y ∷ ys) h below =
    let above : x < y = Less-lt x y h.0 in
    let rest = times-above e x ys h.1 below in
    let step = times-cons e y ys in
    grind (arith, nat_tests)

at_most_one : (b : Bool) → cond b 1 0 ≤ 1
at_most_one true = omega arith
at_most_one false = omega arith

-- an item of a list that ascends strictly stands there once
times-sorted : (e : ℕ) (xs : List ℕ) → IsStrictlySortedBy nat_cmp xs → times e xs ≤ 1
times-sorted e [] h = omega arith
times-sorted e (x ∷ xs) h =
    elim (cases_eq x e) [
      | inl same ↦ omega (arith, times-cons e x xs, times-above e x xs (sorted_head nat_cmp x xs h) (omega arith), at_most_one (x == e))
      | inr other ↦ let step = times-cons e x xs in let rest = times-sorted e xs (sorted_tail nat_cmp x xs h) in grind (arith, nat_tests)
    ]

times-split : (e i : ℕ) (xs : List ℕ) → times e xs ≡ times e (take i xs) + times e (drop i xs)
times-split e i xs = ap (times e) (sym (take-append-drop i xs)) ∙ times-append e (take i xs) (drop i xs)

front_ascends : (xs : List ℕ) (i : ℕ) → i ≤ length xs → ((k : ℕ) → k + 1 < i → get_or xs k 0 < get_or xs (k + 1) 0) → IsStrictlyIncreasing (take i xs)
front_ascends xs i within strictly k below =
    let short : length (take i xs) ≡ i = length-take-le i xs within in
    omega (arith, get_or-take i xs k 0 (omega arith), get_or-take i xs (k + 1) 0 (omega arith), strictly k (omega arith))

back_above : (xs : List ℕ) (i d e : ℕ) → IsNonDecreasing xs → i < length xs → get_or xs i 0 ≡ d → e < d → All (λ x. e < x) (drop i xs)
back_above xs i d e ascending within here below k z short =
    let inside : i + k < length xs = omega (arith, length-drop i xs) in
    omega (arith, get_or-drop i xs k z, ascending i (i + k) z (omega arith) inside, get_or_default xs i z 0 within)

-- the first item of ascending ones that the next one repeats
pub IsFirstTwice-repeated : (xs : List ℕ) (i d : ℕ) → 0 < i → i < length xs → IsNonDecreasing xs → ((k : ℕ) → k + 1 < i → get_or xs k 0 < get_or xs (k + 1) 0)
    → get_or xs i 0 ≡ d → get_or xs (i - 1) 0 ≡ d → IsFirstTwice xs d
IsFirstTwice-repeated xs i d some within ascending strictly here before =
    let front : 0 < times d (take i xs) =
    times-present (take i xs) (i - 1) d (omega (arith, length-take-le i xs (omega arith)))
    (get_or-take i xs (i - 1) 0 (omega arith) ∙ before) in
    let back : 0 < times d (drop i xs) =
    times-present (drop i xs) 0 d (omega (arith, length-drop i xs))
    (omega (arith, get_or-drop i xs 0 0, ap (λ k. get_or xs k 0) (add-zero i))) in
    record { more = omega (arith, times-split d i xs); least = λ e more. least e more (cases_lt e d) }
  where
    least : (e : ℕ) → 1 < times e xs → (e < d) ⊎ (d ≤ e) → d ≤ e
    least e more (inr above) = above
    least e more (inl below) = absurd (omega (
      arith,
      times-split e i xs,
      times-sorted e (take i xs) (sorted_from_strictly_increasing (take i xs) (front_ascends xs i (omega arith) strictly)),
      times-absent e (drop i xs) (back_above xs i d e ascending within here below),
    ))

-- the order in which a list stands doesn't matter
pub twice-IsFirstTwice : (xs ys : List ℕ) (d : ℕ) → IsPermutation xs ys → IsFirstTwice ys d → twice xs ≡ Some d
twice-IsFirstTwice xs ys d same first =
    twice-some xs d (omega (arith, times-permutation d xs ys same, first.more)) (λ e more. first.least e (omega (arith, times-permutation e xs ys same)))

pub twice-ascending : (xs ys : List ℕ) → IsPermutation xs ys → IsStrictlyIncreasing ys → twice xs ≡ None
twice-ascending xs ys same h =
    twice-none xs (λ e. omega (arith, times-permutation e xs ys same, times-sorted e ys (sorted_from_strictly_increasing ys h)))

-- a cell that stands past the end
no_cell : Cell
no_cell = record { item = record { 0 = 0 }; value = pos 0 }

items_of-cells : (cells : List Cell) → items_in (pairs_of cells) ≡ map (λ cell. cell.item.0) cells
items_of-cells [] = refl
items_of-cells (c ∷ cs) = ap (λ items. c.item.0 ∷ items) (items_of-cells cs)

pub length-items : (cells : List Cell) → length (items_in (pairs_of cells)) ≡ length cells
length-items cells = ap length (items_of-cells cells) ∙ length-map cells (λ cell. cell.item.0)

pub item_at : (cells : List Cell) (k z : ℕ) (d : Cell) → k < length cells → get_or (items_in (pairs_of cells)) k z ≡ (get_or cells k d).item.0
item_at cells k z d within = ap (λ items. get_or items k z) (items_of-cells cells) ∙ get_or-map (λ cell. cell.item.0) cells k d z within

pub items-ascending : (cells : List Cell) → IsNonDecreasingBy (λ cell. cell.item.0) cells → IsNonDecreasing (items_in (pairs_of cells))
items-ascending cells h i j z before within =
    let inside : j < length cells = omega (arith, length-items cells) in
    omega (arith, item_at cells i z no_cell (omega arith), item_at cells j z no_cell inside, h i j no_cell before inside)

pub items-strictly : (cells : List Cell) → AllAdjacentBelow (λ a b. a.item.0 < b.item.0) cells (length cells) → IsStrictlyIncreasing (items_in (pairs_of cells))
items-strictly cells h k within =
    let inside : k + 1 < length cells = omega (arith, length-items cells) in
    omega (arith, item_at cells k 0 no_cell (omega arith), item_at cells (k + 1) 0 no_cell inside, h k no_cell inside)

pub items-permutation : (cells ordered : List Cell) → IsPermutation cells ordered → IsPermutation (items_in (pairs_of cells)) (items_in (pairs_of ordered))
items-permutation cells ordered h = IsPermutation-map (λ pair. pair.0) (pairs_of cells) (pairs_of ordered) (IsPermutation-map pair_of cells ordered h)

pub pair_less : (a b : ℕ × ℤ) → a.0 < b.0 → pair_cmp a b ≡ Less
pair_less a b below = let first : nat_cmp a.0 b.0 ≡ Less = grind (arith, nat_tests) in rw first refl

pair_exact : IsExactOrder pair_cmp
pair_exact = record {
  total = then_total (on_total (λ pair. pair.0) nat_cmp_total) (on_total (λ pair. pair.1) int_cmp_total);
  exact = exact_pairs nat_cmp int_cmp exact_unsigned exact_signed;
}

-- pairs whose items ascend strictly are in order
pub by_item-ascending : (pairs : List (ℕ × ℤ)) → AllAdjacentBelow (λ a b. a.0 < b.0) pairs (length pairs) → by_item pairs ≡ pairs
by_item-ascending pairs h =
    ranking-sorted pair_cmp pairs (sorted_from_all_adjacent pair_exact.total pairs (0, pos 0)
    (λ k within. pair_less (get_or pairs k (0, pos 0)) (get_or pairs (k + 1) (0, pos 0)) (h k (0, pos 0) within)))

-- cells that ascend strictly are the pairs by item of the cells that were put in order
pub by_item-ordered : (cells ordered : List Cell) → IsPermutation cells ordered → AllAdjacentBelow (λ a b. a.item.0 < b.item.0) ordered (length ordered)
    → pairs_of ordered ≡ by_item (pairs_of cells)
by_item-ordered cells ordered same ascending =
    sym (ranking-permutation pair_cmp pair_exact (pairs_of cells) (pairs_of ordered) (IsPermutation-map pair_of cells ordered same)
    ∙ by_item-ascending (pairs_of ordered) rises)
  where
    at : (k : ℕ) (d : ℕ × ℤ) → k < length ordered → (get_or (pairs_of ordered) k d).0 ≡ (get_or ordered k no_cell).item.0
    at k d within = ap (λ pair. pair.0) (get_or-map pair_of ordered k no_cell d within)

    rises : AllAdjacentBelow (λ a b. a.0 < b.0) (pairs_of ordered) (length (pairs_of ordered))
    rises k d within =
        let inside : k + 1 < length ordered = omega (arith, length-map ordered pair_of) in
        omega (arith, at k d (omega arith), at (k + 1) d inside, ascending k no_cell inside)
