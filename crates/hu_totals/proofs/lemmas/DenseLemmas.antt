-- A record's cells take the ranks of their items; put in order by rank they are the record over these ranks.
use Rattle.std.proofs.Common.{◌≡◌, ◌≢◌, ℕ, suc, ◌<◌, ◌≤◌, ◌+◌, Bool, true, false, cond, eqb, nat_eq, nat_lt, ℤ, pos, unsigned_abs, List, [], ◌∷◌, ◌++◌, map}
use Rattle.std.proofs.Common.{length, get_or, position, option_map, Option, Some, None, refl, sym, ap, ◌∙◌, subst, inl, inr, arith, Ordering, Less, Equal}
use Rattle.std.proofs.Common.{Greater, nat_cmp, one-add, zero, drop}
use Rattle.std.specs.List.{AllByRecursion, position_or_len, IsDistinct}
use Rattle.std.specs.List.Sorted.{IsPermutation, IsStrictlySortedBy, IsNonDecreasing, IsNonDecreasingBy, IsStrictlyIncreasing}
use Rattle.std.specs.Option.{option_to_list}
use Rattle.std.specs.Ordering.{int_cmp, match_ordering}
use Rattle.std.specs.BTreeSet.{insert_key}
use Rattle.std.proofs.lemmas.Bool.{eq-eqb, ne_eqb, cases_eq}
use Rattle.std.proofs.lemmas.Bool.Decides.{nat_tests}
use Rattle.std.proofs.lemmas.Cmp.{then_total, on_total, int_cmp_total, nat_cmp_total, nat_eq_equiv}
use Rattle.std.proofs.lemmas.List.{get_or-map, length-map}
use Rattle.std.proofs.lemmas.List.Sorted.{IsPermutation-map}
use Rattle.std.proofs.lemmas.List.Sums.{sum_by-cons}
use Rattle.std.proofs.lemmas.Map.Keys.{IsDistinct-IsPermutation, IsStrictlyIncreasing-from_distinct, sorted_from_all_adjacent}
use Rattle.std.proofs.lemmas.Map.Lookups.{exact_pairs, exact_unsigned, exact_signed}
use Rattle.hu_kind.specs.Cells.{pair_cmp}
use Rattle.hu_kind.specs.Order.{ranking, Ascend}
use Rattle.hu_kind.specs.Record.{has, value_of, items_in, absolute_of}
use Rattle.hu_kind.proofs.lemmas.Members.{Member}
use Rattle.hu_kind.proofs.lemmas.Occurring.{at_member}
use Rattle.hu_kind.proofs.lemmas.RankingLemmas.{IsExactOrder, ranking-permutation, ranking-sorted}
use Rattle.hu_kind.proofs.lemmas.CellsLemmas.{pair_less}
use Rattle.hu_totals.specs.declared.ranked.Dense.{Dense}
use Rattle.hu_totals.specs.Ranked.{cells_from}
use Rattle.hu_totals.specs.View.{dense_pair, cells_of}
use Rattle.hu_totals.specs.Weights.{dense_of, dense_cells}
use Rattle.hu_totals.proofs.lemmas.RecordCells.{has-below}
use Rattle.hu_totals.proofs.lemmas.SortedLists.{Once, IsDistinct-from_once}

-- ---- the rank of an item, by recursion

abbrev pub rank_in : ℕ → List ℕ → Option ℕ
rank_in item [] = None
rank_in item (x ∷ xs) = cond (eqb item x) (Some 0) (option_map suc (rank_in item xs))

position-later : (p n : ℕ) (b : Bool) → nat_lt p n ≡ b → cond (nat_lt (1 + p) (suc n)) (Some (1 + p)) None ≡ option_map suc (cond b (Some p) None)
position-later p n true h = let up : nat_lt (1 + p) (suc n) ≡ true = grind (arith, nat_tests) in rw up (ap Some (one-add p))
position-later p n false h = let up : nat_lt (1 + p) (suc n) ≡ false = grind (arith, nat_tests) in rw up refl

pub position-rank_in : (item : ℕ) (items : List ℕ) → position (nat_eq item) items ≡ rank_in item items
position-rank_in item [] = refl
position-rank_in item (x ∷ xs) = elim (cases_eq item x) [
  | inl e ↦
      let here : eqb item x ≡ true = eq-eqb item x e in
      let first : nat_lt 0 (suc (length xs)) ≡ true = grind (arith, nat_tests) in
      simp (here, first)
  | inr ne ↦
      let other : eqb item x ≡ false = ne_eqb item x ne in
      rw other (position-later (position_or_len (nat_eq item) xs) (length xs)
      (nat_lt (position_or_len (nat_eq item) xs) (length xs)) refl ∙ ap (option_map suc) (position-rank_in item xs))
]

rank_in-none : (item : ℕ) (items : List ℕ) → rank_in item items ≡ None → Member item items → ⊥
rank_in-none item [] h m = m
rank_in-none item (x ∷ xs) h m = elim (cases_eq item x) [
  | inl e ↦ let here : eqb item x ≡ true = eq-eqb item x e in let some = rw here at h in cc
  | inr ne ↦ let other : eqb item x ≡ false = ne_eqb item x ne in later (rank_in item xs) (rank_in-none item xs) (rw other at h) m ne
]
  where
    later : (r : Option ℕ) → (r ≡ None → Member item xs → ⊥) → option_map suc r ≡ None → Member item (x ∷ xs) → item ≢ x → ⊥
    later None ih h' (inl e) ne = ne (sym e)
    later None ih h' (inr n) ne = ih refl n
    later (Some k) ih h' m' ne = cc

-- one rank has one item
rank_in-same : (items : List ℕ) (i j k : ℕ) → rank_in i items ≡ Some k → rank_in j items ≡ Some k → i ≡ j
rank_in-same [] i j k a b = cc
rank_in-same (x ∷ xs) i j k a b = elim (cases_eq i x) [
  | inl e ↦ elim (cases_eq j x) [
    | inl f ↦ e ∙ sym f
    | inr ne ↦
        let here : eqb i x ≡ true = eq-eqb i x e in
        let other : eqb j x ≡ false = ne_eqb j x ne in
        mixed (rank_in j xs) (rw here at a) (rw other at b)
  ]
  | inr ne ↦ elim (cases_eq j x) [
    | inl f ↦
        let here : eqb j x ≡ true = eq-eqb j x f in
        let other : eqb i x ≡ false = ne_eqb i x ne in
        mixed (rank_in i xs) (rw here at b) (rw other at a)
    | inr nf ↦
        let other : eqb i x ≡ false = ne_eqb i x ne in
        let apart : eqb j x ≡ false = ne_eqb j x nf in
        both (rank_in i xs) (rank_in j xs) k (rw other at a) (rw apart at b) (rank_in-same xs i j)
  ]
]
  where
    mixed : (r : Option ℕ) → Some 0 ≡ Some k → option_map suc r ≡ Some k → i ≡ j
    mixed None p q = cc
    mixed (Some n) p q = let e : Some (suc n) ≡ Some 0 = q ∙ sym p in let f : suc n ≡ 0 = cc in absurd (omega arith)

    both : (r s : Option ℕ) (n : ℕ) → option_map suc r ≡ Some n → option_map suc s ≡ Some n → ((m : ℕ) → r ≡ Some m → s ≡ Some m → i ≡ j) → i ≡ j
    both None s n p q ih = cc
    both (Some m) None n p q ih = cc
    both (Some m) (Some m') n p q ih = let e : Some (suc m') ≡ Some (suc m) = q ∙ sym p in let f : suc m' ≡ suc m =
        cc in let g : m' ≡ m = omega arith in ih m refl (ap Some g)

-- ---- pairs by rank

pair_exact : IsExactOrder pair_cmp
pair_exact = record {
  total = then_total (on_total (λ pair. pair.0) nat_cmp_total) (on_total (λ pair. pair.1) int_cmp_total);
  exact = exact_pairs nat_cmp int_cmp exact_unsigned exact_signed;
}

pair_greater : (a b : ℕ × ℤ) → b.0 < a.0 → pair_cmp a b ≡ Greater
pair_greater a b above = let first : nat_cmp a.0 b.0 ≡ Greater = grind (arith, nat_tests) in rw first refl

-- the ranks of a record from a rank on
pub ranks_from : (rank : ℕ) (items : List ℕ) (cells : List (ℕ × ℤ))
    → AllByRecursion (λ cell. (rank ≤ cell.0) × (cell.0 < rank + length items)) (cells_from rank items cells)
ranks_from rank [] cells = tt
ranks_from rank (x ∷ xs) cells = by (has x cells) (weaker (cells_from (rank + 1) xs cells) (ranks_from (rank + 1) xs cells))
  where
    weaker : (dense : List (ℕ × ℤ)) → AllByRecursion (λ cell. (rank + 1 ≤ cell.0) × (cell.0 < rank + 1 + length xs))
        dense → AllByRecursion (λ cell. (rank ≤ cell.0) × (cell.0 < rank + length (x ∷ xs))) dense
    weaker [] all = tt
    weaker (c ∷ cs) all = let low = all.0.0 in let high = all.0.1 in ((omega arith, omega arith), weaker cs all.1)

    by : (b : Bool) → AllByRecursion (λ cell. (rank ≤ cell.0) × (cell.0 < rank + length (x ∷ xs))) (cells_from (rank + 1) xs cells)
        → AllByRecursion (λ cell. (rank ≤ cell.0) × (cell.0 < rank + length (x ∷ xs)))
        (cond b ((rank, value_of x cells) ∷ []) [] ++ cells_from (rank + 1) xs cells)
    by true rest = ((omega arith, omega arith), rest)
    by false rest = rest

insert-front : (cell : ℕ × ℤ) (high : ℕ) (dense : List (ℕ × ℤ))
    → AllByRecursion (λ other. (cell.0 + 1 ≤ other.0) × (other.0 < high)) dense → insert_key pair_cmp dense cell
    ≡ cell ∷ dense
insert-front cell high [] all = refl
insert-front cell high (d ∷ ds) all = let low = all.0.0 in let less : pair_cmp cell d ≡ Less = pair_less cell d (omega arith) in rw less refl

-- a cell of no ranked item changes nothing
cells_from-skip : (rank : ℕ) (items : List ℕ) (cell : ℕ × ℤ) (cells : List (ℕ × ℤ)) → (Member cell.0 items → ⊥)
    → cells_from rank items (cell ∷ cells) ≡ cells_from rank items cells
cells_from-skip rank [] cell cells out = refl
cells_from-skip rank (x ∷ xs) cell cells out =
    let other : eqb x cell.0 ≡ false = ne_eqb x cell.0 (λ e. out (inl e)) in
    let rest = cells_from-skip (rank + 1) xs cell cells (λ m. out (inr m)) in
    simp (other, rest)

-- a cell of a ranked item stands at its rank
cells_from-put : (rank : ℕ) (items : List ℕ) (cell : ℕ × ℤ) (cells : List (ℕ × ℤ)) (k : ℕ) → Once items
    → has cell.0 cells ≡ false → rank_in cell.0 items ≡ Some k
    → insert_key pair_cmp (cells_from rank items cells) (rank + k, cell.1) ≡ cells_from rank items (cell ∷ cells)
cells_from-put rank [] cell cells k o fresh at = cc
cells_from-put rank (x ∷ xs) cell cells k o fresh at = elim (cases_eq cell.0 x) [
  | inl e ↦
      let here : eqb cell.0 x ≡ true = eq-eqb cell.0 x e in
      let back : eqb x cell.0 ≡ true = eq-eqb x cell.0 (sym e) in
      let none : has x cells ≡ false = subst (λ i. has i cells ≡ false) e fresh in
      let first = rw here at at in
      let k0 : k ≡ 0 = zero_of k first in
      let at_rank : rank + k ≡ rank = omega arith in
      let skip = cells_from-skip (rank + 1) xs cell cells (λ m. o.0 (subst (λ i. Member i xs) e m)) in
      let front = insert-front (rank, cell.1) (rank + 1 + length xs) (cells_from (rank + 1) xs cells) (ranks_from (rank + 1) xs cells) in
      simp (none, back, at_rank) (front ∙ ap (λ rest. (rank, cell.1) ∷ rest) (sym skip))
  | inr ne ↦
      let other : eqb cell.0 x ≡ false = ne_eqb cell.0 x ne in
      let apart : eqb x cell.0 ≡ false = ne_eqb x cell.0 (λ e. ne (sym e)) in
      let found = later_rank (rank_in cell.0 xs) k (rw other at at) in
      let ih = cells_from-put (rank + 1) xs cell cells found.0 o.1 fresh found.1 in
      let at_rank : rank + k ≡ rank + 1 + found.0 = let next = found.2 in omega arith in
      simp apart (by (has x cells) (rank + k) found.0 at_rank ih)
]
  where
    zero_of : (n : ℕ) → Some 0 ≡ Some n → n ≡ 0
    zero_of n e = cc

    later_rank : (r : Option ℕ) (n : ℕ) → option_map suc r ≡ Some n → (m : ℕ) × (r ≡ Some m) × (suc m ≡ n)
    later_rank None n e = cc
    later_rank (Some m) n e = (m, refl, cc)

    by : (b : Bool) (place n : ℕ) → place ≡ rank + 1 + n
        → insert_key pair_cmp (cells_from (rank + 1) xs cells) (rank + 1 + n, cell.1) ≡ cells_from (rank + 1) xs (cell ∷ cells)
        → insert_key pair_cmp (cond b ((rank, value_of x cells) ∷ []) [] ++ cells_from (rank + 1) xs cells) (place, cell.1)
        ≡ cond b ((rank, value_of x cells) ∷ []) [] ++ cells_from (rank + 1) xs (cell ∷ cells)
    by true place n e ih =
        let above : pair_cmp (place, cell.1) (rank, value_of x cells) ≡ Greater = pair_greater (place, cell.1) (rank, value_of x cells) (omega arith) in
        rw above (ap (λ dense. (rank, value_of x cells) ∷ dense) (ap (λ p. insert_key pair_cmp (cells_from (rank + 1) xs cells) (p, cell.1)) e ∙ ih))
    by false place n e ih = ap (λ p. insert_key pair_cmp (cells_from (rank + 1) xs cells) (p, cell.1)) e ∙ ih

cells_from-none : (rank : ℕ) (items : List ℕ) → cells_from rank items [] ≡ []
cells_from-none rank [] = refl
cells_from-none rank (x ∷ xs) = cells_from-none (rank + 1) xs

-- ---- the cells with their ranks

abbrev dense_from : List ℕ → ℕ × ℤ → Option ℕ → List (ℕ × ℤ)
dense_from items cell place = option_to_list (option_map (λ rank. (rank, cell.1)) place)

dense-is : (items : List ℕ) (cell : ℕ × ℤ) (place : Option ℕ) → rank_in cell.0 items ≡ place → dense_of items cell ≡ dense_from items cell place
dense-is items cell place e = ap (dense_from items cell) (position-rank_in cell.0 items ∙ e)

ranking-dense-by : (items : List ℕ) (cell : ℕ × ℤ) (cells : List (ℕ × ℤ)) (place : Option ℕ) → rank_in cell.0 items
    ≡ place → Once items → has cell.0 cells ≡ false
    → ranking pair_cmp (dense_cells items cells) ≡ cells_from 0 items cells
    → ranking pair_cmp (dense_from items cell place ++ dense_cells items cells) ≡ cells_from 0 items (cell ∷ cells)
ranking-dense-by items cell cells None at o fresh ih = ih ∙ sym (cells_from-skip 0 items cell cells (rank_in-none cell.0 items at))
ranking-dense-by items cell cells (Some k) at o fresh ih =
    let zero_on : k ≡ 0 + k = omega arith in
    ap (λ dense. insert_key pair_cmp dense (k, cell.1)) ih
    ∙ ap (λ rank. insert_key pair_cmp (cells_from 0 items cells) (rank, cell.1)) zero_on
    ∙ cells_from-put 0 items cell cells k o fresh at

-- in order they are the record over the ranks
pub ranking-dense : (items : List ℕ) (cells : List (ℕ × ℤ)) → Once items → Ascend (items_in cells)
    → ranking pair_cmp (dense_cells items cells) ≡ cells_from 0 items cells
ranking-dense items [] o up = sym (cells_from-none 0 items)
ranking-dense items (cell ∷ cells) o up =
    let place = rank_in cell.0 items in
    ap (λ dense. ranking pair_cmp (dense ++ dense_cells items cells)) (dense-is items cell place refl)
    ∙ ranking-dense-by items cell cells place refl o (has-below cell.0 cells up.0) (ranking-dense items cells o up.1)

-- each rank is that of a cell's item
member-dense-by : (items : List ℕ) (cell : ℕ × ℤ) (cells : List (ℕ × ℤ)) (k : ℕ) (place : Option ℕ) → rank_in cell.0 items ≡ place
    → (Member k (items_in (dense_cells items cells)) → (i : ℕ) × Member i (items_in cells) × (rank_in i items ≡ Some k))
    → Member k (items_in (dense_from items cell place ++ dense_cells items cells)) → (i : ℕ) × Member i (items_in (cell ∷ cells)) × (rank_in i items ≡ Some k)
member-dense-by items cell cells k None at ih m = let r = ih m in (r.0, inr r.1, r.2)
member-dense-by items cell cells k (Some n) at ih (inl e) = (cell.0, inl refl, at ∙ ap Some e)
member-dense-by items cell cells k (Some n) at ih (inr m) = let r = ih m in (r.0, inr r.1, r.2)

member-dense : (items : List ℕ) (cells : List (ℕ × ℤ)) (k : ℕ) → Member k (items_in (dense_cells items cells))
    → (i : ℕ) × Member i (items_in cells) × (rank_in i items ≡ Some k)
member-dense items [] k m = absurd m
member-dense items (cell ∷ cells) k m =
    let place = rank_in cell.0 items in
    member-dense-by items cell cells k place refl (member-dense items cells k)
    (subst (λ dense. Member k (items_in (dense ++ dense_cells items cells))) (dense-is items cell place refl) m)

once-dense-by : (items : List ℕ) (cell : ℕ × ℤ) (cells : List (ℕ × ℤ)) (place : Option ℕ) → rank_in cell.0 items ≡ place
    → AllByRecursion (λ other. cell.0 < other) (items_in cells)
    → Once (items_in (dense_cells items cells)) → Once (items_in (dense_from items cell place ++ dense_cells items cells))
once-dense-by items cell cells None at above ih = ih
once-dense-by items cell cells (Some k) at above ih = (λ m. apart (member-dense items cells k m), ih)
  where
    apart : ((i : ℕ) × Member i (items_in cells) × (rank_in i items ≡ Some k)) → ⊥
    apart r =
        let same = rank_in-same items cell.0 r.0 k at r.2 in
        let below : cell.0 < r.0 = at_member (λ other. cell.0 < other) r.0 (items_in cells) above r.1 in
        absurd (omega arith)

-- no two cells have one rank
once-dense : (items : List ℕ) (cells : List (ℕ × ℤ)) → Ascend (items_in cells) → Once (items_in (dense_cells items cells))
once-dense items [] up = tt
once-dense items (cell ∷ cells) up =
    let place = rank_in cell.0 items in
    subst (λ dense. Once (items_in (dense ++ dense_cells items cells))) (sym (dense-is items cell place refl))
    (once-dense-by items cell cells place refl up.0 (once-dense items cells up.1))

-- ---- the cells sorted by rank

-- a cell past the end
no_dense : Dense
no_dense = record { rank = 0; value = pos 0 }

rank_at : (dense : List Dense) (k d : ℕ) (e : Dense) → k < length dense → get_or (items_in (map dense_pair dense)) k d ≡ (get_or dense k e).rank
rank_at dense k d e within =
    let inside : k < length (map dense_pair dense) = omega (arith, length-map dense dense_pair) in
    get_or-map (λ (cell : ℕ × ℤ). cell.0) (map dense_pair dense) k (dense_pair e) d inside
    ∙ ap (λ (cell : ℕ × ℤ). cell.0) (get_or-map dense_pair dense k e (dense_pair e) within)

length-ranks : (dense : List Dense) → length (items_in (map dense_pair dense)) ≡ length dense
length-ranks dense = length-map (map dense_pair dense) (λ cell. cell.0) ∙ length-map dense dense_pair

rising : (dense : List Dense) → IsNonDecreasingBy (λ cell. cell.rank) dense → IsNonDecreasing (items_in (map dense_pair dense))
unfolding no_dense
rising dense up i j d upto within =
    let inside : j < length dense = omega (arith, length-ranks dense) in
    omega (arith, rank_at dense i d no_dense (omega arith), rank_at dense j d no_dense inside, up i j no_dense upto inside)

-- sorted by rank they are the record over the ranks
pub sorted-dense : (items : List ℕ) (cells : List (ℕ × ℤ)) (dense sorted : List Dense) → Once items
    → Ascend (items_in cells) → map dense_pair dense ≡ dense_cells items cells
    → IsPermutation dense sorted → IsNonDecreasingBy (λ cell. cell.rank) sorted → map dense_pair sorted ≡ cells_from 0 items cells
unfolding no_dense
sorted-dense items cells dense sorted o up is moved rise =
    sym (ranking-sorted pair_cmp (map dense_pair sorted) strictly)
    ∙ sym (ranking-permutation pair_cmp pair_exact (map dense_pair dense) (map dense_pair sorted) moved_pairs)
    ∙ ap (ranking pair_cmp) is
    ∙ ranking-dense items cells o up
  where
    moved_pairs : IsPermutation (map dense_pair dense) (map dense_pair sorted)
    moved_pairs = IsPermutation-map dense_pair dense sorted moved

    apart : IsDistinct eqb (items_in (map dense_pair sorted))
    apart = IsDistinct-IsPermutation eqb nat_eq_equiv.symm (items_in (map dense_pair dense)) (items_in (map dense_pair sorted))
        (IsPermutation-map (λ cell. cell.0) (map dense_pair dense) (map dense_pair sorted) moved_pairs)
        (subst (λ ps. IsDistinct eqb (items_in ps)) (sym is) (IsDistinct-from_once (items_in (dense_cells items cells)) (once-dense items cells up)))

    increasing : IsStrictlyIncreasing (items_in (map dense_pair sorted))
    increasing = IsStrictlyIncreasing-from_distinct (items_in (map dense_pair sorted)) (rising sorted rise) apart

    strictly : IsStrictlySortedBy pair_cmp (map dense_pair sorted)
    strictly = sorted_from_all_adjacent pair_exact.total (map dense_pair sorted) (0, pos 0) (λ k within.
        let len : length (map dense_pair sorted) ≡ length sorted = length-map sorted dense_pair in
        let here = get_or-map dense_pair sorted k no_dense (0, pos 0) (omega arith) in
        let next = get_or-map dense_pair sorted (k + 1) no_dense (0, pos 0) (omega arith) in
        let rank = rank_at sorted k 0 no_dense (omega arith) in
        let rank' = rank_at sorted (k + 1) 0 no_dense (omega arith) in
        let less = increasing k (omega (arith, length-ranks sorted)) in
        pair_less (get_or (map dense_pair sorted) k (0, pos 0)) (get_or (map dense_pair sorted) (k + 1) (0, pos 0))
        (omega (arith, ap (λ (p : ℕ × ℤ). p.0) here, ap (λ (p : ℕ × ℤ). p.0) next)))

-- ---- the values of the record over the ranks are within those of the record

dense-within-by : (items : List ℕ) (cell : ℕ × ℤ) (cells : List (ℕ × ℤ)) (place : Option ℕ) → absolute_of (dense_cells items cells) ≤ absolute_of cells
    → absolute_of (dense_from items cell place ++ dense_cells items cells) ≤ absolute_of (cell ∷ cells)
dense-within-by items cell cells None ih = omega (arith, sum_by-cons (λ (c : ℕ × ℤ). unsigned_abs c.1) cell cells)
dense-within-by items cell cells (Some k) ih =
    omega (arith, sum_by-cons (λ (c : ℕ × ℤ). unsigned_abs c.1) cell cells, sum_by-cons (λ (c : ℕ × ℤ). unsigned_abs c.1) (k, cell.1) (dense_cells items cells))

dense-within : (items : List ℕ) (cells : List (ℕ × ℤ)) → absolute_of (dense_cells items cells) ≤ absolute_of cells
dense-within items [] = omega arith
dense-within items (cell ∷ cells) =
    let place = rank_in cell.0 items in
    subst (λ dense. absolute_of (dense ++ dense_cells items cells) ≤ absolute_of (cell ∷ cells))
    (sym (dense-is items cell place refl)) (dense-within-by items cell cells place (dense-within items cells))

insert-within-by : (cell d : ℕ × ℤ) (ds : List (ℕ × ℤ)) (o : Ordering) → absolute_of (insert_key pair_cmp ds cell) ≤ absolute_of (cell ∷ ds)
    → absolute_of (match_ordering o (cell ∷ d ∷ ds) (d ∷ ds) (d ∷ insert_key pair_cmp ds cell)) ≤ absolute_of (cell ∷ d ∷ ds)
insert-within-by cell d ds Less ih = omega arith
insert-within-by cell d ds Equal ih = omega (arith, sum_by-cons (λ (c : ℕ × ℤ). unsigned_abs c.1) cell (d ∷ ds))
insert-within-by cell d ds Greater ih = omega (
  arith,
  sum_by-cons (λ (c : ℕ × ℤ). unsigned_abs c.1) d (insert_key pair_cmp ds cell),
  sum_by-cons (λ (c : ℕ × ℤ). unsigned_abs c.1) cell ds,
  sum_by-cons (λ (c : ℕ × ℤ). unsigned_abs c.1) cell (d ∷ ds),
  sum_by-cons (λ (c : ℕ × ℤ). unsigned_abs c.1) d ds,
)

insert-within : (cell : ℕ × ℤ) (ds : List (ℕ × ℤ)) → absolute_of (insert_key pair_cmp ds cell) ≤ absolute_of (cell ∷ ds)
insert-within cell [] = omega arith
insert-within cell (d ∷ ds) = insert-within-by cell d ds (pair_cmp cell d) (insert-within cell ds)

ranking-within : (cells : List (ℕ × ℤ)) → absolute_of (ranking pair_cmp cells) ≤ absolute_of cells
ranking-within [] = omega arith
ranking-within (cell ∷ cells) = omega (
  arith,
  insert-within cell (ranking pair_cmp cells),
  ranking-within cells,
  sum_by-cons (λ (c : ℕ × ℤ). unsigned_abs c.1) cell (ranking pair_cmp cells),
  sum_by-cons (λ (c : ℕ × ℤ). unsigned_abs c.1) cell cells,
)

pub cells_from-within : (items : List ℕ) (cells : List (ℕ × ℤ)) → Once items → Ascend (items_in cells)
    → absolute_of (cells_from 0 items cells) ≤ absolute_of cells
cells_from-within items cells o up =
    omega (
      arith,
      ap absolute_of (ranking-dense items cells o up),
      ranking-within (dense_cells items cells),
      dense-within items cells,
    )

-- what holds of each rank holds of that at a place
pub rank-at : (P : ℕ → Type 0) (cells : List Dense) (i : ℕ) (d : Dense) → AllByRecursion P (items_in (cells_of cells))
    → i < length cells → P (get_or cells i d).rank
rank-at P [] i d all within = absurd (omega arith)
rank-at P (cell ∷ cells) zero d all within = all.0
rank-at P (cell ∷ cells) (suc i) d all within = rank-at P cells i d all.1 (omega arith)

-- a value is within the absolute values
pub value-within : (cells : List Dense) (i : ℕ) (d : Dense) → i < length cells → unsigned_abs (get_or cells i d).value ≤ absolute_of (cells_of cells)
value-within [] i d within = absurd (omega arith)
value-within (cell ∷ cells) zero d within = omega (arith, sum_by-cons (λ (c : ℕ × ℤ). unsigned_abs c.1) (dense_pair cell) (cells_of cells))
value-within (cell ∷ cells) (suc i) d within =
    omega (arith, sum_by-cons (λ (c : ℕ × ℤ). unsigned_abs c.1) (dense_pair cell) (cells_of cells), value-within cells i d (omega (arith, within)))

pub Ascend-rest : (cells : List Dense) (i : ℕ) → Ascend (items_in (cells_of cells)) → Ascend (items_in (cells_of (drop i cells)))
Ascend-rest cells zero up = up
Ascend-rest [] (suc i) up = tt
Ascend-rest (cell ∷ cells) (suc i) up = Ascend-rest cells i up.1

pub each-rank : (n : ℕ) (cells : List (ℕ × ℤ)) → AllByRecursion (λ cell. cell.0 < n) cells → AllByRecursion (λ rank. rank < n) (items_in cells)
each-rank n [] all = tt
each-rank n (cell ∷ cells) all = (all.0, each-rank n cells all.1)
