-- A binary search among ascending numbers.
use Rattle.std.proofs.Common.{◌≡◌, ℕ, ◌+◌, ◌<◌, ◌≤◌, ◌==◌, false, Result, Ok, Err, List, length, get_or, sym, ◌∙◌, inl, inr, arith}
use Rattle.std.specs.List.{All, list_any}
use Rattle.std.specs.List.Sorted.{IsStrictlyIncreasing, IsNonDecreasing, IsBinarySearchResult}
use Rattle.std.specs.Ordering.{nat_cmp}
use Rattle.std.specs.Result.{is_ok, MatchResult}
use Rattle.std.proofs.lemmas.Bool.{eq-eqb, ne_eqb, cases_lt}
use Rattle.std.proofs.lemmas.List.{get_or_default}
use Rattle.std.proofs.lemmas.List.Folds.{list_any_at, list_any_none}
use Rattle.std.proofs.lemmas.List.Sorted.{searched, IsNonDecreasingBy-from_all_adjacent}

IsNonDecreasing-from_strictly : (xs : List ℕ) → IsStrictlyIncreasing xs → IsNonDecreasing xs
IsNonDecreasing-from_strictly xs up =
    IsNonDecreasingBy-from_all_adjacent (λ x. x) xs (λ k d within. omega
    (arith, up k within, get_or_default xs k 0 d (omega arith), get_or_default xs (k + 1) 0 d within))

-- it finds a number just where it is there
pub found-list_any : (xs : List ℕ) (x : ℕ) (r : Result ℕ ℕ) → IsStrictlyIncreasing xs
    → IsBinarySearchResult (λ y. nat_cmp y x) xs r → is_ok r ≡ list_any (λ y. y == x) xs
found-list_any xs x r up h = by r (searched xs x r h (λ i j before within. IsNonDecreasing-from_strictly xs up i j 0 before within))
  where
    by : (r : Result ℕ ℕ)
        → MatchResult r (λ i. (i < length xs) × (get_or xs i 0 ≡ x))
        (λ i. (i ≤ length xs) × ((k : ℕ) → k < i → get_or xs k 0 < x)
        × ((k : ℕ) → i ≤ k → k < length xs → x < get_or xs k 0))
        → is_ok r ≡ list_any (λ y. y == x) xs
    by (Ok i) f = sym (list_any_at (λ y. y == x) xs i 0 f.0 (eq-eqb (get_or xs i 0) x f.1))
    by (Err i) f = sym (list_any_none (λ y. y == x) xs none)
      where
        other : (k : ℕ) → k < length xs → get_or xs k 0 ≡ x → ⊥
        other k within same = elim (cases_lt k i) [
          | inl below ↦ absurd (omega (arith, f.1 k below))
          | inr above ↦ absurd (omega (arith, f.2 k above within))
        ]

        none : All (λ y. (y == x) ≡ false) xs
        none k d within = ne_eqb (get_or xs k d) x (λ same. other k within (get_or_default xs k 0 d within ∙ same))
