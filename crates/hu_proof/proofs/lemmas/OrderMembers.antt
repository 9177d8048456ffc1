-- Orders of items, and members of them.
use Rattle.std.proofs.Common.{◌≡◌, ℕ, eqb, List, [], Contains, arith, true, sym, subst, false}
use Rattle.std.specs.List.{dedup}
use Rattle.std.specs.List.Retain.{IsFiltered, DiffersFromLast}
use Rattle.std.specs.List.Sorted.{IsPermutation, IsSorted, IsStrictlySortedBy}
use Rattle.std.specs.Ordering.{nat_cmp, is_eq}
use Rattle.std.proofs.lemmas.Cmp.{nat_cmp_total}
use Rattle.std.proofs.lemmas.List.Filters.{dedup_is}
use Rattle.std.proofs.lemmas.List.Kept.{Contains-dedup_nat, Contains-from_dedup, IsStrictlySortedBy-dedup}
use Rattle.std.proofs.lemmas.List.Sorted.{Contains-permutation, IsPermutation-sym}
use Rattle.std.proofs.lemmas.Bool.Decides.{nat_tests}
use Rattle.std.proofs.lemmas.Bool.{eqb-true, false_from_ne_true}
use Rattle.std.proofs.lemmas.Map.Lookups.{exact_unsigned}
use Rattle.hu_kind.specs.Order.{ranking}
use Rattle.hu_kind.proofs.lemmas.Members.{Contains-from_member, Member-from_contains, Member}
use Rattle.hu_kind.proofs.lemmas.Tests.{any-member}
use Rattle.hu_kind.proofs.lemmas.RankingLemmas.{IsExactOrder}
use Rattle.hu_answer.proofs.lemmas.Ranked.{Member-ranked, Member-from_ranked, sorted-ranked, sorted-same}
use Rattle.hu_proof.specs.Bounds.{is_among}

pub exact_order : IsExactOrder nat_cmp
exact_order = record { total = nat_cmp_total; exact = exact_unsigned }

pub eq_by-nat : (a b : ℕ) → eqb a b ≡ is_eq (nat_cmp a b)
eq_by-nat a b = grind (arith, nat_tests)

pub ranking-dedup : (xs ys zs : List ℕ) → IsPermutation xs ys → IsSorted nat_cmp ys → IsFiltered (DiffersFromLast eqb) [] ys zs → zs ≡ ranking nat_cmp xs
ranking-dedup xs ys zs moved sorted filtered =
    let once : zs ≡ dedup eqb ys = dedup_is eqb ys zs filtered in
    let rising : IsStrictlySortedBy nat_cmp zs = rw once (IsStrictlySortedBy-dedup nat_cmp_total eq_by-nat ys sorted) in
    let back : (x : ℕ) → Contains zs x → Contains xs x =
    λ x k. Contains-permutation ys xs x (IsPermutation-sym xs ys moved) (Contains-from_dedup eqb ys x (rw once at k)) in
    let there : (x : ℕ) → Contains xs x → Contains zs x = λ x k. rw once (Contains-dedup_nat ys x (Contains-permutation xs ys x moved k)) in
    sorted-same nat_cmp exact_order zs (ranking nat_cmp xs) rising (sorted-ranked nat_cmp exact_order xs)
    (λ z m. Member-ranked nat_cmp exact_order z xs (Member-from_contains z xs (back z (Contains-from_member z zs m))))
    (λ z m. Member-from_contains z zs (there z (Contains-from_member z xs (Member-from_ranked nat_cmp z xs m))))

pub among-member : (x : ℕ) (xs : List ℕ) → is_among x xs ≡ true → Member x xs
among-member x xs h = let r = any-member (λ i. eqb x i) xs h in subst (λ y. Member y xs) (sym (eqb-true x r.0 r.2)) r.1

pub not_among : (x : ℕ) (xs : List ℕ) → (Member x xs → ⊥) → is_among x xs ≡ false
not_among x xs out = false_from_ne_true (is_among x xs) (λ h. out (among-member x xs h))
