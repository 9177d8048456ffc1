-- Sums by rank.
use Rattle.std.proofs.Common.{◌≡◌, ◌≢◌, ℕ, zero, suc, ◌<◌, Bool, true, false, cond, nat_eq, ◌&&◌, ◌||◌, ℤ, pos, negsuc, ◌+ℤ◌, ◌≤ℤ◌, ◌<ℤ◌, int_le, int_lt, List}
use Rattle.std.proofs.Common.{[], ◌∷◌, ◌++◌, length, get_or, set, replicate, filter, refl, sym, ap, ◌∙◌, subst, inl, inr, arith, append-nil, ◌^◌, FitsSigned}
use Rattle.std.specs.Int.{w128}
use Rattle.std.specs.Int.Signed.{≤ℤ_refl}
use Rattle.std.specs.List.{All, list_any, range_with_len, IsDistinct}
use Rattle.std.specs.List.Sorted.{IsPermutation, IsSorted}
use Rattle.std.specs.Ordering.{nat_cmp, int_eq}
use Rattle.std.proofs.lemmas.Bool.{cases_eq, cases_lt, eq-eqb, ne_eqb, eqb-true}
use Rattle.std.proofs.lemmas.Bool.Decides.{Decides-int_eq}
use Rattle.std.proofs.lemmas.Cmp.{nat_eq_equiv}
use Rattle.std.proofs.lemmas.Int.{ints}
use Rattle.std.proofs.lemmas.List.{get_or-set_same, get_or-set_other, get_or_past}
use Rattle.std.proofs.lemmas.List.Folds.{list_any-append}
use Rattle.std.proofs.lemmas.List.Sorted.{IsNonDecreasingBy-from_sort, Contains-permutation, IsPermutation-sym}
use Rattle.std.proofs.lemmas.Map.Keys.{IsDistinct-push, IsDistinct-IsPermutation, IsStrictlyIncreasing-from_distinct}
use Rattle.std.proofs.lemmas.Map.Views.{list_any-from_Contains, Contains-from_any}
use Rattle.hu_kind.proofs.lemmas.Members.{Member, Contains-from_member, Member-from_contains, Member-filter, Member-from_filter}
use Rattle.hu_kind.proofs.lemmas.Occurring.{eqb-flips}
use Rattle.hu_totals.proofs.lemmas.SortedLists.{Once-from_distinct, IsDistinct-from_once}
use Rattle.hu_raise.specs.Sums.{first_rank, sum_at, ranks_reaching, AreSums}
use Rattle.hu_raise.proofs.NumberLists.{Once-filter, ascending_same, filter-range_ascends, Member-filter_range}

-- ---- no sum

sum_at-replicate : (n rank : ℕ) → sum_at (replicate n (pos 0)) rank ≡ pos 0
sum_at-replicate zero rank = refl
sum_at-replicate (suc n) zero = refl
sum_at-replicate (suc n) (suc rank) = sum_at-replicate n rank

pub AreSums-replicate : (n : ℕ) → AreSums (replicate n (pos 0)) []
unfolding IsDistinct
AreSums-replicate n = record {
  least = λ rank. rw (sum_at-replicate n rank) (≤ℤ_refl (pos 0));
  once = tt;
  listed = λ rank. rw (sum_at-replicate n rank) refl;
}

-- sums that are all 0
replicate-from_zeros : (sums : List ℤ) (n : ℕ) → length sums ≡ n → ((rank : ℕ) → sum_at sums rank ≡ pos 0) → sums ≡ replicate n (pos 0)
replicate-from_zeros [] zero long zeros = refl
replicate-from_zeros [] (suc n) long zeros = absurd (omega arith)
replicate-from_zeros (x ∷ xs) zero long zeros = absurd (omega arith)
replicate-from_zeros (x ∷ xs) (suc n) long zeros = let first = zeros 0 in let rest =
    replicate-from_zeros xs n (omega arith) (λ rank. zeros (suc rank)) in (λ j. first j ∷ rest j)

-- a rank that is listed has a sum
listed-below : (sums : List ℤ) (touched : List ℕ) (i d : ℕ) → AreSums sums touched → i < length touched → get_or touched i d < length sums
listed-below sums touched i d are within = elim (cases_lt (get_or touched i d) (length sums)) [
  | inl below ↦ below
  | inr past ↦
      let rank = get_or touched i d in
      let found : list_any (nat_eq rank) touched ≡ true = list_any-from_Contains nat_eq_equiv rank touched (i, within, same touched i d within) in
      let none : sum_at sums rank ≡ pos 0 = get_or_past sums rank (pos 0) past in
      let never : true ≡ false = sym found ∙ are.listed rank ∙ ap (λ s. int_lt (pos 0) s) none in
      absurd (cc)
]
  where
    same : (xs : List ℕ) (i d : ℕ) → i < length xs → get_or xs i (get_or xs i d) ≡ get_or xs i d
    same [] i d within = absurd (omega arith)
    same (x ∷ xs) zero d within = refl
    same (x ∷ xs) (suc i) d within = same xs i d (omega arith)

pub All-listed_below : (sums : List ℤ) (touched : List ℕ) → AreSums sums touched → All (λ rank. rank < length sums) touched
All-listed_below sums touched are k d within = listed-below sums touched k d are within

-- with the listed ones set to 0 all are
pub replicate-cleared : (sums cleared : List ℤ) (touched : List ℕ) → AreSums sums touched → length cleared ≡ length sums
    → ((rank : ℕ) → sum_at cleared rank ≡ cond (list_any (nat_eq rank) touched) (pos 0) (sum_at sums rank)) → cleared ≡ replicate (length sums) (pos 0)
replicate-cleared sums cleared touched are long is =
    replicate-from_zeros cleared (length sums) long (λ rank. is rank
    ∙ by rank (list_any (nat_eq rank) touched) (are.listed rank))
  where
    by : (rank : ℕ) (b : Bool) → b ≡ int_lt (pos 0) (sum_at sums rank) → cond b (pos 0) (sum_at sums rank) ≡ pos 0
    by rank true h = refl
    by rank false h = let low = are.least rank in grind (arith, ints)

-- ---- a gain more

module _ (sums : List ℤ) (touched : List ℕ) (rank : ℕ) (gain sum : ℤ) (are : AreSums sums touched)
    (within : rank < length sums) (least : pos 0 ≤ℤ gain) (is : sum ≡ sum_at sums rank +ℤ gain) where
  here : sum_at (set sums rank sum) rank ≡ sum
  here = get_or-set_same sums rank sum (pos 0) within

  there : (other : ℕ) → other ≢ rank → sum_at (set sums rank sum) other ≡ sum_at sums other
  there other apart = get_or-set_other sums rank other sum (pos 0) apart

  none_below : (other : ℕ) → pos 0 ≤ℤ sum_at (set sums rank sum) other
  none_below other = elim (cases_eq other rank) [
    | inl e ↦ let old = are.least rank in subst (λ r. pos 0 ≤ℤ sum_at (set sums rank sum) r) (sym e) (rw here (omega (arith, ints)))
    | inr apart ↦ rw (there other apart) (are.least other)
  ]

  -- the first gain above 0 lists the rank
  AreSums-first : sum_at sums rank ≡ pos 0 → pos 0 <ℤ gain → AreSums (set sums rank sum) (touched ++ rank ∷ [])
  AreSums-first none some = record {
    least = none_below;
    once = IsDistinct-push nat_eq_equiv touched rank are.once (are.listed rank ∙ ap (λ s. int_lt (pos 0) s) none);
    listed = listed;
  }
    where
      listed : (other : ℕ) → list_any (nat_eq other) (touched ++ rank ∷ []) ≡ int_lt (pos 0) (sum_at (set sums rank sum) other)
      listed other = elim (cases_eq other rank) [
        | inl e ↦
            let high : int_lt (pos 0) sum ≡ true = grind (arith, ints) in
            let found : list_any (nat_eq rank) (touched ++ rank ∷ []) ≡ true =
            list_any-append (nat_eq rank) touched (rank ∷ [])
            ∙ at_end (list_any (nat_eq rank) touched) (eq-eqb rank rank refl) in
            subst (λ r. list_any (nat_eq r) (touched ++ rank ∷ []) ≡ int_lt (pos 0) (sum_at (set sums rank sum) r))
            (sym e) (found ∙ sym (ap (λ s. int_lt (pos 0) s) here ∙ high))
        | inr apart ↦
            list_any-append (nat_eq other) touched (rank ∷ [])
            ∙ not_at_end (list_any (nat_eq other) touched) (ne_eqb other rank apart) ∙ are.listed other
            ∙ ap (λ s. int_lt (pos 0) s) (sym (there other apart))
      ]
        where
          at_end : (b : Bool) → nat_eq rank rank ≡ true → (b || (nat_eq rank rank || false)) ≡ true
          at_end true h = refl
          at_end false h = rw h refl

          not_at_end : (b : Bool) → nat_eq other rank ≡ false → (b || (nat_eq other rank || false)) ≡ b
          not_at_end true h = refl
          not_at_end false h = rw h refl

  -- any other gain leaves the list
  AreSums-again : (sum_at sums rank ≡ pos 0 → gain ≤ℤ pos 0) → AreSums (set sums rank sum) touched
  AreSums-again again = record { least = none_below; once = are.once; listed = listed }
    where
      listed : (other : ℕ) → list_any (nat_eq other) touched ≡ int_lt (pos 0) (sum_at (set sums rank sum) other)
      listed other = elim (cases_eq other rank) [
        | inl e ↦
            let old = are.least rank in
            let alike : int_lt (pos 0) (sum_at sums rank) ≡ int_lt (pos 0) sum = positive (sum_at sums rank) gain sum old least is again in
            subst (λ r. list_any (nat_eq r) touched ≡ int_lt (pos 0) (sum_at (set sums rank sum) r)) (sym e)
            (are.listed rank ∙ alike ∙ ap (λ s. int_lt (pos 0) s) (sym here))
        | inr apart ↦ are.listed other ∙ ap (λ s. int_lt (pos 0) s) (sym (there other apart))
      ]
        where
          positive : (s g t : ℤ) → pos 0 ≤ℤ s → pos 0 ≤ℤ g → t ≡ s +ℤ g → (s ≡ pos 0 → g ≤ℤ pos 0) → int_lt (pos 0) s ≡ int_lt (pos 0) t
          positive (pos zero) g t h k e again = let low : g ≤ℤ pos 0 = again refl in grind (arith, ints)
          positive (pos (suc n)) g t h k e again = grind (arith, ints)
          positive (negsuc n) g t h k e again = absurd (omega (arith, ints))

-- and so the list that the first rank is put to
pub AreSums-set : (sums : List ℤ) (touched touched' : List ℕ) (rank : ℕ) (gain sum : ℤ) → AreSums sums touched
    → rank < length sums → pos 0 ≤ℤ gain → sum ≡ sum_at sums rank +ℤ gain
    → touched' ≡ touched ++ first_rank rank (sum_at sums rank) gain → AreSums (set sums rank sum) touched'
AreSums-set sums touched touched' rank gain sum are within least is next = by (int_eq (sum_at sums rank) (pos 0)) (int_lt (pos 0) gain) refl refl next
  where
    by : (b d : Bool) → int_eq (sum_at sums rank) (pos 0) ≡ b → int_lt (pos 0) gain ≡ d → touched'
        ≡ touched ++ (cond (b && d) (rank ∷ []) []) → AreSums (set sums rank sum) touched'
    by true true h k n =
        let none : sum_at sums rank ≡ pos 0 = (Decides-int_eq (sum_at sums rank) (pos 0)).0 h in
        let some : pos 0 <ℤ gain = grind (arith, ints) in
        subst (AreSums (set sums rank sum)) (sym n) (AreSums-first sums touched rank gain sum are within least is none some)
    by true false h k n =
        let low : gain ≤ℤ pos 0 = grind (arith, ints) in
        subst (AreSums (set sums rank sum)) (sym (n ∙ append-nil touched)) (AreSums-again sums touched rank gain sum are within least is (λ _. low))
    by false d h k n =
        let apart : sum_at sums rank ≡ pos 0 → gain ≤ℤ pos 0 = λ e. absurd (let t : true ≡ false = sym (ap (λ s. int_eq s (pos 0)) e) ∙ h in cc) in
        subst (AreSums (set sums rank sum)) (sym (n ∙ append-nil touched)) (AreSums-again sums touched rank gain sum are within least is apart)

-- a sum of numbers that aren't below 0
pub sum-fits : (a b : ℤ) → pos 0 ≤ℤ a → pos 0 ≤ℤ b → (a +ℤ b) <ℤ pos (2 ^ 127) → FitsSigned w128 (a +ℤ b)
sum-fits a b low least high = fits (a +ℤ b) (omega (arith, ints)) high
  where
    fits : (c : ℤ) → pos 0 ≤ℤ c → c <ℤ pos (2 ^ 127) → FitsSigned w128 c
    fits (pos n) low high = record { sfits = omega (arith, ints) }
    fits (negsuc n) low high = absurd (omega (arith, ints))

-- ---- the ranks whose sum reaches a floor

module _ (floor : ℤ) (sums : List ℤ) (touched : List ℕ) (are : AreSums sums touched) (least : pos 1 ≤ℤ floor) where
  abbrev reaches : ℕ → Bool
  reaches rank = int_le floor (sum_at sums rank)

  reaching-within : (rank : ℕ) → reaches rank ≡ true → rank < length sums
  reaching-within rank h = elim (cases_lt rank (length sums)) [
    | inl below ↦ below
    | inr past ↦
        let none : sum_at sums rank ≡ pos 0 = get_or_past sums rank (pos 0) past in
        let high : floor ≤ℤ sum_at sums rank = grind (arith, ints) in
        absurd (omega (arith, ints))
  ]

  reaching-listed : (rank : ℕ) → reaches rank ≡ true → Member rank touched
  reaching-listed rank h =
      let high : floor ≤ℤ sum_at sums rank = grind (arith, ints) in
      let some : int_lt (pos 0) (sum_at sums rank) ≡ true = grind (arith, ints) in
      Member-from_contains rank touched (Contains-from_any (λ x y e. eqb-true x y e) rank touched (are.listed rank ∙ some))

  -- the listed ranks that reach it, once sorted
  pub reaching-sorted : (found sorted : List ℕ) → found ≡ filter reaches touched → IsPermutation found sorted
      → IsSorted nat_cmp sorted → sorted ≡ ranks_reaching floor sums
  reaching-sorted found sorted is same up =
      let once =
      subst (IsDistinct nat_eq) (sym is) (IsDistinct-from_once (filter reaches touched)
      (Once-filter reaches touched (Once-from_distinct touched are.once))) in
      let rise =
      IsStrictlyIncreasing-from_distinct sorted (IsNonDecreasingBy-from_sort (λ x. x) sorted up)
      (IsDistinct-IsPermutation nat_eq eqb-flips found sorted same once) in
      ascending_same sorted (ranks_reaching floor sums) rise (filter-range_ascends reaches 0 (length sums)) to back
    where
      to : (x : ℕ) → Member x sorted → Member x (ranks_reaching floor sums)
      to x m =
          let before =
          Member-from_contains x found (Contains-permutation sorted found x (IsPermutation-sym found sorted same)
          (Contains-from_member x sorted m)) in
          let passed = (Member-from_filter reaches x touched (subst (Member x) is before)).1 in
          Member-filter_range reaches 0 (length sums) x (omega arith) (omega (arith, reaching-within x passed)) passed

      back : (x : ℕ) → Member x (ranks_reaching floor sums) → Member x sorted
      back x m =
          let passed = (Member-from_filter reaches x (range_with_len 0 (length sums)) m).1 in
          let before = subst (Member x) (sym is) (Member-filter reaches x touched (reaching-listed x passed) passed) in
          Member-from_contains x sorted (Contains-permutation found sorted x same (Contains-from_member x found before))
