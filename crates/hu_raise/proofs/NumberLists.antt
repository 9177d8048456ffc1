-- Lists of numbers: what passes a test, and ranges.
use Rattle.std.proofs.Common.{◌≡◌, ℕ, zero, suc, ◌+◌, ◌<◌, ◌≤◌, Bool, true, false, cond, List, [], ◌∷◌, ◌++◌, length, get_or, take, filter, sym, ◌∙◌, inl, inr}
use Rattle.std.proofs.Common.{arith, append-nil}
use Rattle.std.specs.List.{range_with_len}
use Rattle.std.specs.List.Sorted.{IsStrictlyIncreasing}
use Rattle.std.specs.Ordering.{nat_cmp}
use Rattle.std.proofs.lemmas.Cmp.{nat_cmp_total}
use Rattle.std.proofs.lemmas.List.Elements.{filter_more}
use Rattle.std.proofs.lemmas.List.Kept.{IsStrictlyIncreasing-filter}
use Rattle.std.proofs.lemmas.List.FromFn.{length-range_with_len, get_or-range_with_len}
use Rattle.std.proofs.lemmas.Map.Keys.{sorted_from_strictly_increasing}
use Rattle.hu_kind.proofs.lemmas.Members.{Member, Member-filter, Member-from_filter}
use Rattle.hu_kind.proofs.lemmas.Ascending.{Member-range}
use Rattle.hu_totals.proofs.lemmas.SortedLists.{Once, sorted_same}

-- ---- what passes a test

-- numbers that stand once still do
pub Once-filter : (p : ℕ → Bool) (xs : List ℕ) → Once xs → Once (filter p xs)
Once-filter p [] o = tt
Once-filter p (x ∷ xs) o = by (p x) (Once-filter p xs o.1)
  where
    by : (b : Bool) → Once (filter p xs) → Once (cond b (x ∷ filter p xs) (filter p xs))
    by true ih = (λ m. o.0 (Member-from_filter p x xs m).0, ih)
    by false ih = ih

-- a loop that filters
pub filter-more_yes : (p : ℕ → Bool) (xs : List ℕ) (i : ℕ) (before after : List ℕ) → i < length xs → before ≡ filter p (take i xs) → p (get_or xs i 0) ≡ true
    → after ≡ before ++ get_or xs i 0 ∷ [] → after ≡ filter p (take (i + 1) xs)
filter-more_yes p xs i before after within so_far passes is =
    is ∙ (λ j. so_far j ++ cond (sym passes j) (get_or xs i 0 ∷ []) []) ∙ sym (filter_more p xs i 0 within)

pub filter-more_no : (p : ℕ → Bool) (xs : List ℕ) (i : ℕ) (before after : List ℕ) → i < length xs → before ≡ filter p (take i xs) → p (get_or xs i 0) ≡ false
    → after ≡ before → after ≡ filter p (take (i + 1) xs)
filter-more_no p xs i before after within so_far fails is =
    is ∙ sym (append-nil before) ∙ (λ j. so_far j ++ cond (sym fails j) (get_or xs i 0 ∷ []) []) ∙ sym (filter_more p xs i 0 within)

-- ---- ranges

pub Member-from_range : (a n x : ℕ) → Member x (range_with_len a n) → (a ≤ x) × (x < a + n)
Member-from_range a zero x m = absurd m
Member-from_range a (suc n) x (inl e) = (omega arith, omega arith)
Member-from_range a (suc n) x (inr m) = let ih = Member-from_range (a + 1) n x m in (omega arith, omega arith)

range_ascends : (a n : ℕ) → IsStrictlyIncreasing (range_with_len a n)
range_ascends a n k within =
    omega (
      arith,
      length-range_with_len a n,
      get_or-range_with_len a n k 0 (omega (arith, length-range_with_len a n)),
      get_or-range_with_len a n (k + 1) 0 (omega (arith, length-range_with_len a n)),
    )

-- numbers of a range that pass a test, in order
pub filter-range_ascends : (p : ℕ → Bool) (a n : ℕ) → IsStrictlyIncreasing (filter p (range_with_len a n))
filter-range_ascends p a n = IsStrictlyIncreasing-filter p (range_with_len a n) (range_ascends a n)

pub Member-filter_range : (p : ℕ → Bool) (a n x : ℕ) → a ≤ x → x < a + n → p x ≡ true → Member x (filter p (range_with_len a n))
Member-filter_range p a n x low high h = Member-filter p x (range_with_len a n) (Member-range a n x low high) h

-- ascending lists with the same members are one
pub ascending_same : (xs ys : List ℕ) → IsStrictlyIncreasing xs → IsStrictlyIncreasing ys
    → ((x : ℕ) → Member x xs → Member x ys) → ((x : ℕ) → Member x ys → Member x xs) → xs ≡ ys
ascending_same xs ys up rise to back =
    sorted_same nat_cmp nat_cmp_total xs ys (sorted_from_strictly_increasing xs up)
    (sorted_from_strictly_increasing ys rise) to back
