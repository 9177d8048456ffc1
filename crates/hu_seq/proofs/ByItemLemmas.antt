-- Pairs of which no item stands twice, by item: the same pairs, and their items ascend.
use Rattle.std.proofs.Common.{◌≡◌, ℕ, ◌<◌, ◌≤◌, ◌==◌, nat_lt, ℤ, Bool, cond, None, List, [], ◌∷◌, filter, length, min, refl, sym, subst, inl, inr, arith}
use Rattle.std.proofs.Common.{add-one}
use Rattle.std.specs.List.{All, reduce}
use Rattle.std.specs.List.Sorted.{IsPermutation}
use Rattle.std.specs.declared.cmp.Ordering.TheVariants.{Less, Greater}
use Rattle.std.specs.Ordering.{nat_cmp}
use Rattle.std.specs.BTreeSet.{insert_key}
use Rattle.std.proofs.lemmas.Bool.{cases_eq, cases_lt, lt-ltb}
use Rattle.std.proofs.lemmas.Bool.Decides.{nat_tests}
use Rattle.std.proofs.lemmas.List.Elements.{All-from_recursion}
use Rattle.std.proofs.lemmas.List.Sorted.{All-permutation, IsPermutation-refl, IsPermutation-trans, IsPermutation-cons, IsPermutation-map, IsPermutation-middle}
use Rattle.std.proofs.lemmas.List.Sorted.{length_permutation, sum_by-IsPermutation}
use Rattle.std.proofs.lemmas.List.Sums.{sum_by-cons}
use Rattle.hu_kind.specs.Cells.{pair_cmp, by_item, times, twice}
use Rattle.hu_kind.specs.Order.{Ascend}
use Rattle.hu_kind.specs.Record.{items_in}
use Rattle.hu_kind.proofs.lemmas.Each.{each-from_all}
use Rattle.hu_kind.proofs.lemmas.Members.{Member, Member-filter}
use Rattle.hu_kind.proofs.lemmas.Occurring.{above_all}
use Rattle.hu_kind.proofs.lemmas.CellPlaces.{adjacent}
use Rattle.hu_seq.specs.Itemset.{IsOrdered}

-- a number that stands in a list is a member
member_times : (e : ℕ) (xs : List ℕ) → 0 < times e xs → Member e xs
member_times e [] some = absurd (omega (arith, some))
member_times e (x ∷ xs) some =
    elim (cases_eq x e) [
      | inl same ↦ inl same
      | inr other ↦ let step = sum_by-cons (λ o. cond (o == e) 1 0) x xs in inr (member_times e xs (grind (arith, nat_tests)))
    ]

-- there is no least number of none
none_reduced : (xs : List ℕ) → reduce min xs ≡ None → xs ≡ []
none_reduced [] h = refl
none_reduced (x ∷ xs) h = cc

-- where no item stands twice, each stands at most once
once-twice : (items : List ℕ) → twice items ≡ None → (e : ℕ) → times e items ≤ 1
once-twice items none e =
    elim (cases_lt 1 (times e items)) [
      | inl more ↦
          let repeats : ℕ → Bool = λ item. nat_lt 1 (times item items) in
          let there : Member e (filter repeats items) =
          Member-filter repeats e items (member_times e items (omega arith)) (lt-ltb 1 (times e items) more) in
          absurd (subst (Member e) (none_reduced (filter repeats items) none) there)
      | inr once ↦ once
    ]

-- the same pairs, their items ascending
record IsByItem (set ordered : List (ℕ × ℤ)) : Type 0 where
  up : Ascend (items_in ordered)
  same : IsPermutation set ordered

put_before : (x y : ℕ × ℤ) (ys : List (ℕ × ℤ)) → x.0 < y.0 → Ascend (items_in (y ∷ ys))
    → IsByItem (x ∷ y ∷ ys) (insert_key pair_cmp (y ∷ ys) x)
put_before x y ys below up =
    let first : nat_cmp x.0 y.0 ≡ Less = grind (arith, nat_tests) in
    let here : insert_key pair_cmp (y ∷ ys) x ≡ x ∷ y ∷ ys = rw first refl in
    subst (IsByItem (x ∷ y ∷ ys)) (sym here)
    (record { up = ((below, above_all x.0 y.0 (items_in ys) below up.0), up); same = IsPermutation-refl (x ∷ y ∷ ys) })

put_after : (x y : ℕ × ℤ) (ys : List (ℕ × ℤ)) → y.0 < x.0 → Ascend (items_in (y ∷ ys))
    → IsByItem (x ∷ ys) (insert_key pair_cmp ys x)
    → IsByItem (x ∷ y ∷ ys) (insert_key pair_cmp (y ∷ ys) x)
put_after x y ys above up put =
    let more = insert_key pair_cmp ys x in
    let first : nat_cmp x.0 y.0 ≡ Greater = grind (arith, nat_tests) in
    let here : insert_key pair_cmp (y ∷ ys) x ≡ y ∷ more = rw first refl in
    let items : IsPermutation (items_in (x ∷ ys)) (items_in more) = IsPermutation-map (λ pair. pair.0) (x ∷ ys) more put.same in
    let later : All (λ z. y.0 < z) (items_in (x ∷ ys)) = All-from_recursion (λ z. y.0 < z) (items_in (x ∷ ys)) (above, up.0) in
    subst (IsByItem (x ∷ y ∷ ys)) (sym here) (record {
      up = (
        each-from_all (λ z. y.0 < z) (items_in more)
            (All-permutation (λ z. y.0 < z) (items_in (x ∷ ys)) (items_in more) items later),
        put.up,
      );
      same =
          IsPermutation-trans (x ∷ y ∷ ys) (y ∷ x ∷ ys) (y ∷ more) (IsPermutation-middle (x ∷ []) y ys)
          (IsPermutation-cons y (x ∷ ys) more put.same);
    })

-- a pair is put among ordered ones that lack its item
put_in : (x : ℕ × ℤ) (ys : List (ℕ × ℤ)) → times x.0 (items_in ys) ≡ 0 → Ascend (items_in ys)
    → IsByItem (x ∷ ys) (insert_key pair_cmp ys x)
put_in x [] lacks up = record { up = (tt, tt); same = IsPermutation-refl (x ∷ []) }
put_in x (y ∷ ys) lacks up =
    let step = sum_by-cons (λ o. cond (o == x.0) 1 0) y.0 (items_in ys) in
    elim (cases_lt x.0 y.0) [
      | inl below ↦ put_before x y ys below up
      | inr above ↦ put_after x y ys (grind (arith, nat_tests)) up (put_in x ys (omega arith) up.1)
    ]

by_item-once : (set : List (ℕ × ℤ)) → ((e : ℕ) → times e (items_in set) ≤ 1) → IsByItem set (by_item set)
by_item-once [] once = record { up = tt; same = IsPermutation-refl [] }
by_item-once (x ∷ xs) once =
    let rest : IsByItem xs (by_item xs) =
    by_item-once xs (λ e. omega (arith, once e, sum_by-cons (λ o. cond (o == e) 1 0) x.0 (items_in xs))) in
    let items : IsPermutation (items_in xs) (items_in (by_item xs)) = IsPermutation-map (λ pair. pair.0) xs (by_item xs) rest.same in
    let count = sum_by-IsPermutation (λ o. cond (o == x.0) 1 0) (items_in xs) (items_in (by_item xs)) items in
    let step = sum_by-cons (λ o. cond (o == x.0) 1 0) x.0 (items_in xs) in
    let one = once x.0 in
    let put = put_in x (by_item xs) (grind (arith, nat_tests)) rest.up in
    record {
      up = put.up;
      same =
          IsPermutation-trans (x ∷ xs) (x ∷ by_item xs) (by_item (x ∷ xs))
          (IsPermutation-cons x xs (by_item xs) rest.same) put.same;
    }

-- pairs that make an itemset are one by item
pub IsOrdered-by_item : (set : List (ℕ × ℤ)) → 0 < length set → All (λ cell. cell.0 ≤ 2147483647) set → twice (items_in set) ≡ None
    → IsOrdered set (by_item set)
IsOrdered-by_item set some in_range once =
    let told = by_item-once set (once-twice (items_in set) once) in
    record {
      value = refl;
      permutation = told.same;
      once = once;
      rules = record {
        some = omega (arith, length_permutation set (by_item set) told.same);
        ascending = λ k d within. rw add-one (adjacent (by_item set) k d told.up (omega arith));
        in_range = All-permutation (λ cell. cell.0 ≤ 2147483647) set (by_item set) told.same in_range;
      };
    }
