-- What sets and sequences earn is a sum over the records, in any order.
use Rattle.std.proofs.Common.{◌≡◌, ℕ, ◌+◌, ℤ, pos, negsuc, ◌+ℤ◌, cond, unwrap_or, is_some, List, [], ◌∷◌, refl, sym, ap, ◌∙◌, arith, sum_by}
use Rattle.std.specs.List.Sorted.{IsPermutation}
use Rattle.std.proofs.lemmas.Int.{ints}
use Rattle.std.proofs.lemmas.List.Sorted.{sum_by-IsPermutation}
use Rattle.std.proofs.lemmas.List.Sums.{sum_by-append, sum_by-cons}
use Rattle.hu_kind.specs.Record.{holds, utility_in}
use Rattle.hu_kind.specs.Database.{utility, support}
use Rattle.hu_kind.specs.Sequence.{best_utility, sequence_utility, sequence_support}
use Rattle.hu_answer.specs.Laws.{UtilitiesAdd, SupportsAdd}

pub utilities_add : UtilitiesAdd
utilities_add [] second items = omega (arith, ints)
utilities_add (r ∷ rs) second items = let ih = utilities_add rs second items in omega (arith, ints)

pub supports_add : SupportsAdd
supports_add first second items = sum_by-append (λ r. cond (holds items r) 1 0) first second

-- ---- a sum of whole numbers, as the parts above 0 less the parts below it

abbrev total_by : {A : Type 0} → (A → ℤ) → List A → ℤ
total_by f [] = pos 0
total_by f (x ∷ xs) = f x +ℤ total_by f xs

abbrev above : ℤ → ℕ
above (pos n) = n
above (negsuc n) = 0

abbrev below : ℤ → ℕ
below (pos n) = 0
below (negsuc n) = n + 1

parts : (z : ℤ) → z +ℤ pos (below z) ≡ pos (above z)
parts (pos n) = omega (arith, ints)
parts (negsuc n) = omega (arith, ints)

total-parts : {A : Type 0} (f : A → ℤ) (xs : List A) → total_by f xs +ℤ pos (sum_by (λ x. below (f x)) xs) ≡ pos (sum_by (λ x. above (f x)) xs)
total-parts f [] = refl
total-parts f (x ∷ xs) =
    let ih = total-parts f xs in
    let head = parts (f x) in
    omega (arith, ints, sum_by-cons (λ y. below (f y)) x xs, sum_by-cons (λ y. above (f y)) x xs)

total-permutation : {A : Type 0} (f : A → ℤ) (xs ys : List A) → IsPermutation xs ys → total_by f xs ≡ total_by f ys
total-permutation f xs ys h =
    let up = sum_by-IsPermutation (λ x. above (f x)) xs ys h in
    let down = sum_by-IsPermutation (λ x. below (f x)) xs ys h in
    omega (arith, ints, total-parts f xs, total-parts f ys)

utility-total : (records : List (List (ℕ × ℤ))) (items : List ℕ) → utility records items ≡ total_by (utility_in items) records
utility-total [] items = refl
utility-total (r ∷ rs) items = ap (λ s. utility_in items r +ℤ s) (utility-total rs items)

sequence-total : (records : List (List (List (ℕ × ℤ)))) (pattern : List (List ℕ))
    → sequence_utility records pattern ≡ total_by (λ r. unwrap_or (best_utility pattern r) (pos 0)) records
sequence-total [] pattern = refl
sequence-total (r ∷ rs) pattern = ap (λ s. unwrap_or (best_utility pattern r) (pos 0) +ℤ s) (sequence-total rs pattern)

-- ---- records in another order

pub utility-permutation : (first second : List (List (ℕ × ℤ))) (items : List ℕ) → IsPermutation first second → utility first items ≡ utility second items
utility-permutation first second items h =
    utility-total first items ∙ total-permutation (utility_in items) first second h ∙ sym (utility-total second items)

pub support-permutation : (first second : List (List (ℕ × ℤ))) (items : List ℕ) → IsPermutation first second → support first items ≡ support second items
support-permutation first second items h = sym (sum_by-IsPermutation (λ r. cond (holds items r) 1 0) first second h)

pub sequence_utility-permutation : (first second : List (List (List (ℕ × ℤ)))) (pattern : List (List ℕ)) → IsPermutation first second
    → sequence_utility first pattern ≡ sequence_utility second pattern
sequence_utility-permutation first second pattern h =
    sequence-total first pattern
    ∙ total-permutation (λ r. unwrap_or (best_utility pattern r) (pos 0)) first second h
    ∙ sym (sequence-total second pattern)

pub sequence_support-permutation : (first second : List (List (List (ℕ × ℤ)))) (pattern : List (List ℕ)) → IsPermutation first second
    → sequence_support first pattern ≡ sequence_support second pattern
sequence_support-permutation first second pattern h = sym (sum_by-IsPermutation (λ r. cond (is_some (best_utility pattern r)) 1 0) first second h)
