-- The lengths of keys that grow, and of the keys of sets of ranks.
use Rattle.std.proofs.Common.{◌≡◌, ℕ, ◌<◌, ◌≤◌, Bool, true, false, cond, ℤ, pos, List, [], ◌∷◌, ◌++◌, length, slice_index, Option, None, Some, inl}
use Rattle.std.proofs.Common.{inr, refl, ap, ◌∙◌, subst, arith}
use Rattle.std.specs.List.{AllByRecursion}
use Rattle.std.specs.Ordering.{nat_cmp, int_eq}
use Rattle.std.proofs.lemmas.List.{length-map}
use Rattle.hu_kind.specs.Order.{ranking, Ascend}
use Rattle.hu_kind.proofs.lemmas.Members.{Member, Member-map, Member-from_map, Member-append_left, Member-append_right, Member-append_cases}
use Rattle.hu_kind.proofs.lemmas.Occurring.{at_member, Member-ranking, Ascend-ranking}
use Rattle.hu_totals.specs.Ranked.{Ranking, IsRanking}
use Rattle.hu_totals.proofs.lemmas.SortedLists.{Member-from_ranking, length-ranking}
use Rattle.hu_collect.specs.Ranks.{key_of, is_part, IsGrown}
use Rattle.hu_search.proofs.lemmas.ItemsAt.{items_at, Once-items_at}

-- ---- keys that grow

part-shorter : (xs ys : List ℤ) → is_part xs ys ≡ true → length xs ≤ length ys
part-shorter [] ys part = omega arith
part-shorter (x ∷ xs) [] part = cc
part-shorter (x ∷ xs) (y ∷ ys) part = by (int_eq x y) part (part-shorter xs ys) (part-shorter (x ∷ xs) ys)
  where
    by : (b : Bool) → cond b (is_part xs ys) (is_part (x ∷ xs) ys) ≡ true → (is_part xs ys ≡ true → length xs ≤ length ys)
        → (is_part (x ∷ xs) ys ≡ true → length (x ∷ xs) ≤ length ys) → length (x ∷ xs) ≤ length (y ∷ ys)
    by true part here later = let fewer = here part in omega (arith, fewer)
    by false part here later = let fewer = later part in omega (arith, fewer)

-- ascending numbers are no more than others among which they all are
ascending-fewer : (xs ys : List ℕ) → Ascend xs → Ascend ys → ((z : ℕ) → Member z xs → Member z ys) → length xs ≤ length ys
ascending-fewer [] ys up rise each = omega arith
ascending-fewer (x ∷ xs) [] up rise each = absurd (each x (inl refl))
ascending-fewer (x ∷ xs) (y ∷ ys) up rise each =
    let fewer = ascending-fewer xs ys up.1 rise.1 later in
    omega (arith, fewer)
  where
    later : (z : ℕ) → Member z xs → Member z ys
    later z m =
        let above : x < z = at_member (λ w. x < w) z xs up.0 m in
        elim (each z (inr m)) [
          | inr n ↦ n
          | inl same ↦ elim (each x (inl refl)) [
            | inl first ↦ absurd (omega (arith, above, same, first))
            | inr n ↦ let low : y < x = at_member (λ w. y < w) x ys rise.0 n in absurd (omega (arith, above, same, low))
          ]
        ]

key_of-shorter : (table ranks more : List ℕ) → ((z : ℕ) → Member z ranks → Member z more) → length (key_of table ranks) ≤ length (key_of table more)
key_of-shorter table ranks more each =
    let few = ranking nat_cmp (items_at table ranks) in
    let many = ranking nat_cmp (items_at table more) in
    let fewer : length few ≤ length many = ascending-fewer few many (Ascend-ranking (items_at table ranks)) (Ascend-ranking (items_at table more)) (λ z m.
    let from = Member-from_map (λ rank. slice_index table rank) z ranks (Member-from_ranking nat_cmp z (items_at table ranks) m) in
    Member-ranking z (items_at table more) (subst (λ w. Member w (items_at table more)) from.2
    (Member-map (λ rank. slice_index table rank) from.0 more (each from.0 from.1)))) in
    omega (arith, fewer, length-map few pos, length-map many pos)

-- a key that grows has no fewer numbers then
pub grown-longer : (table : Option (List ℕ)) (key : List ℤ) (last : ℕ) (grown : List ℤ) → IsGrown table key last grown → length key ≤ length grown
grown-longer None key last grown part = part-shorter key grown part
grown-longer (Some table) key last grown g =
    let fewer = key_of-shorter table (g.0 ++ last ∷ []) (g.0 ++ last ∷ g.1) (λ z m. elim (Member-append_cases z g.0 (last ∷ []) m) [
      | inl early ↦ Member-append_left z g.0 (last ∷ g.1) early
      | inr (inl e) ↦ Member-append_right z g.0 (last ∷ g.1) (inl e)
      | inr (inr none) ↦ absurd none
    ]) in
    omega (arith, fewer, ap length g.3, ap length g.4)

-- ---- keys of sets of ranks

-- the key of a set of ranks has as many numbers as the set has ranks
pub length-key_of : (r : Ranking) → IsRanking r → (set : List ℕ) → Ascend set → AllByRecursion (λ rank. rank < length r.items) set
    → length (key_of r.items set) ≡ length set
length-key_of r rules set up within =
    length-map (ranking nat_cmp (items_at r.items set)) pos
    ∙ length-ranking (items_at r.items set) (Once-items_at r rules set up within)
    ∙ length-map set (λ rank. slice_index r.items rank)
