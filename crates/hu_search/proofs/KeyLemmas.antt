-- The keys of sets of ranks.
use Rattle.std.proofs.Common.{◌≡◌, ◌≢◌, ℕ, zero, suc, ◌<◌, ◌+◌, true, false, eqb, pos, List, [], ◌∷◌, map, length, get_or, slice_get, slice_index, Some, refl}
use Rattle.std.proofs.Common.{sym, ap, ◌∙◌, subst, inl, inr, arith, nat_cmp, is_eq, Ordering, Less, Equal, Greater}
use Rattle.std.specs.List.{AllByRecursion}
use Rattle.std.specs.List.Sorted.{IsPermutation, IsNonDecreasing, IsNonDecreasingBy}
use Rattle.std.specs.Ordering.{int_eq, int_cmp}
use Rattle.std.proofs.lemmas.Bool.{cases_eq}
use Rattle.std.proofs.lemmas.Cmp.{nat_cmp_total, int_cmp_total, nat_eq_equiv, tied_itself}
use Rattle.std.proofs.lemmas.List.{get_or-map, length-map}
use Rattle.std.proofs.lemmas.List.Sorted.{IsPermutation-map}
use Rattle.std.proofs.lemmas.Map.Keys.{IsDistinct-IsPermutation, IsStrictlyIncreasing-from_distinct, sorted_from_strictly_increasing}
use Rattle.std.proofs.lemmas.Map.Lookups.{exact_unsigned, exact_signed}
use Rattle.hu_kind.specs.declared.item.Item.{Item}
use Rattle.hu_kind.specs.Order.{ranking, Ascend}
use Rattle.hu_kind.proofs.lemmas.Members.{Member, Member-from_map, Member-map}
use Rattle.hu_kind.proofs.lemmas.Occurring.{at_member, Member-ranking, Ascend-ranking}
use Rattle.hu_kind.proofs.lemmas.RankingLemmas.{IsExactOrder, ranking-permutation, ranking-sorted}
use Rattle.hu_totals.specs.Ranked.{Ranking, IsRanking}
use Rattle.hu_totals.proofs.lemmas.RankingRules.{All-from_each}
use Rattle.hu_totals.proofs.lemmas.SortedLists.{Once, IsDistinct-from_once, Member-from_ranking}
use Rattle.hu_collect.specs.Ranks.{IsRankSet, key_of, is_part}
use Rattle.hu_search.proofs.lemmas.ItemsAt.{items_at, Once-items_at}

pub nat_exact : IsExactOrder nat_cmp
nat_exact = record { total = nat_cmp_total; exact = exact_unsigned }

-- the numbers of items
abbrev pub numbers : List Item → List ℕ
numbers items = map (λ item. item.0) items

-- an item past the end
no_item : Item
no_item = record { 0 = 0 }

rising : (items : List Item) → IsNonDecreasingBy (λ item. item.0) items → IsNonDecreasing (numbers items)
unfolding no_item
rising items up i j d upto within =
    let size = length-map items (λ (item : Item). item.0) in
    omega (
      arith,
      get_or-map (λ (item : Item). item.0) items i no_item d (omega arith),
      get_or-map (λ (item : Item). item.0) items j no_item d (omega arith),
      up i j no_item upto (omega arith),
    )

-- items sorted by their numbers, of which each stands once
pub sorted-items : (items sorted : List Item) → Once (numbers items) → IsPermutation items sorted
    → IsNonDecreasingBy (λ item. item.0) sorted → numbers sorted ≡ ranking nat_cmp (numbers items)
sorted-items items sorted o moved up =
    let moved_numbers = IsPermutation-map (λ (item : Item). item.0) items sorted moved in
    let apart = IsDistinct-IsPermutation eqb nat_eq_equiv.symm (numbers items) (numbers sorted) moved_numbers (IsDistinct-from_once (numbers items) o) in
    let strictly = sorted_from_strictly_increasing (numbers sorted) (IsStrictlyIncreasing-from_distinct (numbers sorted) (rising sorted up) apart) in
    sym (ranking-sorted nat_cmp (numbers sorted) strictly) ∙ sym (ranking-permutation nat_cmp nat_exact (numbers items) (numbers sorted) moved_numbers)

-- ---- the items of ranks

pub slice_get-index : (xs : List ℕ) (i x : ℕ) → slice_get xs i ≡ Some x → slice_index xs i ≡ x
slice_get-index [] i x is = absurd (cc)
slice_get-index (y ∷ ys) zero x is = cc
slice_get-index (y ∷ ys) (suc i) x is = slice_get-index ys i x is

-- a key of sorted items
pub key-sorted : (r : Ranking) → IsRanking r → (ranks : List ℕ) (items sorted : List Item) → Ascend ranks
    → AllByRecursion (λ rank. rank < length r.items) ranks → numbers items ≡ items_at r.items ranks
    → IsPermutation items sorted → IsNonDecreasingBy (λ item. item.0) sorted → map (λ item. pos item.0) sorted ≡ key_of r.items ranks
key-sorted r rules ranks items sorted up within is moved rise =
    let o : Once (numbers items) = subst Once (sym is) (Once-items_at r rules ranks up within) in
    map-pos sorted ∙ ap (map pos) (sorted-items items sorted o moved rise ∙ ap (ranking nat_cmp) is)
  where
    map-pos : (xs : List Item) → map (λ item. pos item.0) xs ≡ map pos (numbers xs)
    map-pos [] = refl
    map-pos (x ∷ xs) = ap (λ ns. pos x.0 ∷ ns) (map-pos xs)

-- ---- keys that grow

adjacent : (ranks : List ℕ) (k d : ℕ) → Ascend ranks → suc k < length ranks → get_or ranks k d < get_or ranks (suc k) d
adjacent [] k d up within = absurd (omega arith)
adjacent (a ∷ []) k d up within = absurd (omega arith)
adjacent (a ∷ b ∷ ranks) zero d up within = up.0.0
adjacent (a ∷ b ∷ ranks) (suc k) d up within = adjacent (b ∷ ranks) k d up.1 (omega arith)

pub IsRankSet-from : (table ranks : List ℕ) → Ascend ranks → AllByRecursion (λ rank. rank < length table) ranks → IsRankSet table ranks
IsRankSet-from table ranks up within = record {
  ascending = λ k d inside. let e : suc k ≡ k + 1 = omega arith in subst (λ j. get_or ranks k d < get_or ranks j d) e (adjacent ranks k d up (omega arith));
  in_table = All-from_each (λ rank. rank < length table) ranks within;
}

later_member : (a b : ℕ) (xs ys : List ℕ) → AllByRecursion (λ z. a < z) xs → a ≡ b → (z : ℕ) → Member z xs → Member z (b ∷ ys) → Member z ys
later_member a b xs ys up same z m (inl e) = let low : a < z = at_member (λ w. a < w) z xs up m in absurd (omega arith)
later_member a b xs ys up same z m (inr n) = n

above_member : (a b : ℕ) (xs ys : List ℕ) → AllByRecursion (λ z. a < z) xs → b < a → (z : ℕ) → Member z (a ∷ xs) → Member z (b ∷ ys) → Member z ys
above_member a b xs ys up low z (inl e) (inl f) = absurd (omega arith)
above_member a b xs ys up low z (inr m) (inl f) = let high : a < z = at_member (λ w. a < w) z xs up m in absurd (omega arith)
above_member a b xs ys up low z m (inr n) = n

int_eq-same : (a b : ℕ) → a ≡ b → int_eq (pos a) (pos b) ≡ true
int_eq-same a b e = ap (λ z. int_eq (pos a) (pos z)) (sym e) ∙ ap is_eq (tied_itself int_cmp_total (pos a))

int_eq-other : (a b : ℕ) → a ≢ b → int_eq (pos a) (pos b) ≡ false
int_eq-other a b ne = by (int_cmp (pos a) (pos b)) refl
  where
    by : (o : Ordering) → int_cmp (pos a) (pos b) ≡ o → int_eq (pos a) (pos b) ≡ false
    by Less e = ap is_eq e
    by Greater e = ap is_eq e
    by Equal e = let same = exact_signed (pos a) (pos b) e in absurd (ne (cc))

-- ascending numbers of which each is among others that ascend
pub is_part-members : (xs ys : List ℕ) → Ascend xs → Ascend ys → ((z : ℕ) → Member z xs → Member z ys) → is_part (map pos xs) (map pos ys) ≡ true
is_part-members [] ys up rise each = refl
is_part-members (a ∷ xs) [] up rise each = absurd (each a (inl refl))
is_part-members (a ∷ xs) (b ∷ ys) up rise each = elim (cases_eq a b) [
  | inl e ↦
      let here : int_eq (pos a) (pos b) ≡ true = int_eq-same a b e in
      rw here (is_part-members xs ys up.1 rise.1 (λ z m. later_member a b xs ys up.0 e z m (each z (inr m))))
  | inr ne ↦
      let other : int_eq (pos a) (pos b) ≡ false = int_eq-other a b ne in
      let low : b < a = elim (each a (inl refl)) [
        | inl e ↦ absurd (ne (sym e))
        | inr m ↦ at_member (λ z. b < z) a ys rise.0 m
      ] in
      rw other (is_part-members (a ∷ xs) ys up rise.1 (λ z m. above_member a b xs ys up.0 low z m (each z m)))
]

pub is_part-key_of : (table xs ys : List ℕ) → ((z : ℕ) → Member z xs → Member z ys) → is_part (key_of table xs) (key_of table ys) ≡ true
is_part-key_of table xs ys each =
    is_part-members (ranking nat_cmp (items_at table xs)) (ranking nat_cmp (items_at table ys))
    (Ascend-ranking (items_at table xs)) (Ascend-ranking (items_at table ys))
    (λ z m.
    let from = Member-from_map (λ rank. slice_index table rank) z xs (Member-from_ranking nat_cmp z (items_at table xs) m) in
    Member-ranking z (items_at table ys) (subst (λ w. Member w (items_at table ys)) from.2
    (Member-map (λ rank. slice_index table rank) from.0 ys (each from.0 from.1))))
