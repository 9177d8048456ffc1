-- Keys of itemsets ascend, so an item is found in them by halves.
use Rattle.std.proofs.Common.{◌≡◌, ℕ, zero, suc, ◌+◌, ◌<◌, ℤ, pos, negsuc, ◌<ℤ◌, ◌≤ℤ◌, int_lt, int_le, true, false}
use Rattle.std.proofs.Common.{◌&&◌, Result, Ok, Err, List, [], ◌∷◌, length, get_or, sym, ap, arith, nat_lt, inl, inr}
use Rattle.std.proofs.Common.{Less, Equal, Greater}
use Rattle.std.specs.Result.{is_err}
use Rattle.std.specs.List.{All, list_any}
use Rattle.std.specs.List.Sorted.{IsSortedBy, IsBinarySearchResult, IsPartitionPoint, IsSearchInRange}
use Rattle.std.specs.Ordering.{int_cmp, int_eq, is_eq, is_lt}
use Rattle.std.specs.Cmp.{int_cmp_is}
use Rattle.std.proofs.lemmas.Int.{ints}
use Rattle.std.proofs.lemmas.Bool.{and_parts, cases_lt, ltb-true, not_from_true, not_from_false}
use Rattle.std.proofs.lemmas.Cmp.{int_cmp_total}
use Rattle.std.proofs.lemmas.List.Folds.{list_any_at, list_any_none}
use Rattle.std.proofs.lemmas.List.Sorted.{searchable_from_sorted}
use Rattle.hu_closed.specs.Keys.{ascends_above, is_outside, is_set_key}

pub ascends-next : (below n : ℤ) (ns : List ℤ) → ascends_above below (n ∷ ns) ≡ true → (below <ℤ n) × (n ≤ℤ pos 2147483647) × (ascends_above n ns ≡ true)
ascends-next below n ns h =
    let first = and_parts (int_lt below n && int_le n (pos 2147483647)) (ascends_above n ns) h in
    let second = and_parts (int_lt below n) (int_le n (pos 2147483647)) first.0 in
    let low = second.0 in
    let high = second.1 in
    (grind (arith, ints), grind (arith, ints), first.1)

pub ascends-rises : (below : ℤ) (key : List ℤ) (k : ℕ) (d : ℤ) → ascends_above below key ≡ true → k + 1 < length key → get_or key k d <ℤ get_or key (k + 1) d
ascends-rises below [] k d h within = absurd (omega arith)
ascends-rises below (n ∷ []) k d h within = absurd (omega arith)
ascends-rises below (n ∷ m ∷ ns) zero d h within = (ascends-next n m ns (ascends-next below n (m ∷ ns) h).2).0
ascends-rises below (n ∷ m ∷ ns) (suc k) d h within =
    let later : suc k + 1 ≡ suc (k + 1) = omega arith in
    rw later (ascends-rises n (m ∷ ns) k d (ascends-next below n (m ∷ ns) h).2 (omega arith))

pub key-sorted : (key : List ℤ) → is_set_key key ≡ true → IsSortedBy (λ (a b : ℤ). is_lt (int_cmp a b)) key
key-sorted key h k d low within =
    let up = and_parts (nat_lt 0 (length key)) (ascends_above (negsuc 0) key) h in
    let rise = ascends-rises (negsuc 0) key k d up.1 within in
    ap is_lt (sym (int_cmp_is (get_or key (k + 1) d) (get_or key k d) Greater rise))

not_outside : (key : List ℤ) (item i : ℕ) → i < length key → int_cmp (get_or key i (pos item)) (pos item) ≡ Equal → false ≡ is_outside key item
not_outside key item i within same =
    sym (not_from_true (list_any (λ n. int_eq n (pos item)) key) (list_any_at (λ n. int_eq n (pos item)) key i (pos item) within (ap is_eq same)))

outside : (key : List ℤ) (item i : ℕ) → IsPartitionPoint (λ y. int_cmp y (pos item) ≡ Less)
    (λ y. int_cmp y (pos item) ≡ Greater) key i → true ≡ is_outside key item
outside key item i parts =
    let each : All (λ n. int_eq n (pos item) ≡ false) key = λ k d within. elim (cases_lt k i) [
      | inl before ↦ ap is_eq (parts.0 k d (omega arith) before)
      | inr after ↦ ap is_eq (parts.1 k d after within)
    ] in
    sym (not_from_false (list_any (λ n. int_eq n (pos item)) key) (list_any_none (λ n. int_eq n (pos item)) key each))

-- a search by halves finds an item where it isn't outside
pub outside-found : (key : List ℤ) (item : ℕ) (r : Result ℕ ℕ) → is_set_key key ≡ true → IsSearchInRange r (length key)
    → IsBinarySearchResult (λ y. int_cmp y (pos item)) key r → is_err r ≡ is_outside key item
outside-found key item (Ok i) h within found = not_outside key item i within (found (pos item))
outside-found key item (Err i) h within found =
    outside key item i (found (searchable_from_sorted int_cmp_total (λ (n : ℤ). n) key (pos item) (key-sorted key h)))

pub set_key-some : (key : List ℤ) → is_set_key key ≡ true → 0 < length key
set_key-some key h = ltb-true 0 (length key) (and_parts (nat_lt 0 (length key)) (ascends_above (negsuc 0) key) h).0
