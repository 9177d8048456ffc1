-- Lists that ascend strictly by an order, and numbers that stand once.
use Rattle.std.proofs.Common.{◌≡◌, ◌≢◌, ℕ, false, eqb, List, [], ◌∷◌, refl, sym, ap, ◌∙◌, inl, inr, ◌⊎◌, Ordering, Less, Equal, Greater, suc, length}
use Rattle.std.specs.List.{AllByRecursion, IsDistinct}
use Rattle.std.specs.List.Sorted.{IsStrictlySortedBy}
use Rattle.std.specs.Cmp.{IsTotalOrder}
use Rattle.std.specs.Ordering.{match_ordering, ordering_reverse, nat_cmp}
use Rattle.std.specs.BTreeSet.{insert_key}
use Rattle.std.proofs.lemmas.Cmp.{tied_itself}
use Rattle.std.proofs.lemmas.Bool.{ne_eqb, eqb-false}
use Rattle.std.proofs.lemmas.Map.Lookups.{CmpEqualImpliesEq, exact_unsigned}
use Rattle.hu_kind.specs.Order.{ranking}
use Rattle.hu_kind.proofs.lemmas.Members.{Member}
use Rattle.hu_kind.proofs.lemmas.Occurring.{at_member}

-- no number stands twice
abbrev pub Once : List ℕ → Type 0
Once [] = Unit {0}
Once (x ∷ xs) = (Member x xs → ⊥) × Once xs

apart-member : (x y : ℕ) (xs : List ℕ) → AllByRecursion (λ z. eqb x z ≡ false) xs → Member y xs → x ≢ y
apart-member x y xs all m = eqb-false x y (at_member (λ z. eqb x z ≡ false) y xs all m)

pub Once-from_distinct : (xs : List ℕ) → IsDistinct eqb xs → Once xs
unfolding IsDistinct
Once-from_distinct [] d = tt
Once-from_distinct (x ∷ xs) d = (λ m. apart-member x x xs d.0 m refl, Once-from_distinct xs d.1)

all_apart : (x : ℕ) (xs : List ℕ) → (Member x xs → ⊥) → AllByRecursion (λ z. eqb x z ≡ false) xs
all_apart x [] out = tt
all_apart x (y ∷ ys) out = (ne_eqb x y (λ e. out (inl (sym e))), all_apart x ys (λ m. out (inr m)))

pub IsDistinct-from_once : (xs : List ℕ) → Once xs → IsDistinct eqb xs
unfolding IsDistinct
IsDistinct-from_once [] o = tt
IsDistinct-from_once (x ∷ xs) o = (all_apart x xs o.0, IsDistinct-from_once xs o.1)

module _ {A : Type 0} (cmp : A → A → Ordering) where
  each-insert-by : (P : A → Type 0) (x y : A) (ys : List A) (o : Ordering) → P x → AllByRecursion P (y ∷ ys) → AllByRecursion P (insert_key cmp ys x)
      → AllByRecursion P (match_ordering o (x ∷ y ∷ ys) (y ∷ ys) (y ∷ insert_key cmp ys x))
  each-insert-by P x y ys Less h all ih = (h, all)
  each-insert-by P x y ys Equal h all ih = all
  each-insert-by P x y ys Greater h all ih = (all.0, ih)

  -- what holds of each element and of one more holds after it is put in
  pub each-insert : (P : A → Type 0) (x : A) (xs : List A) → P x → AllByRecursion P xs → AllByRecursion P (insert_key cmp xs x)
  each-insert P x [] h all = (h, tt)
  each-insert P x (y ∷ ys) h all = each-insert-by P x y ys (cmp x y) h all (each-insert P x ys h all.1)

  Member-from_insert-by : (z x y : A) (ys : List A) (o : Ordering) → (Member z (insert_key cmp ys x) → (x ≡ z) ⊎ Member z ys)
      → Member z (match_ordering o (x ∷ y ∷ ys) (y ∷ ys) (y ∷ insert_key cmp ys x)) → (x ≡ z) ⊎ Member z (y ∷ ys)
  Member-from_insert-by z x y ys Less ih (inl e) = inl e
  Member-from_insert-by z x y ys Less ih (inr m) = inr m
  Member-from_insert-by z x y ys Equal ih m = inr m
  Member-from_insert-by z x y ys Greater ih (inl e) = inr (inl e)
  Member-from_insert-by z x y ys Greater ih (inr m) = elim (ih m) [ inl e ↦ inl e | inr n ↦ inr (inr n) ]

  Member-from_insert : (z x : A) (xs : List A) → Member z (insert_key cmp xs x) → (x ≡ z) ⊎ Member z xs
  Member-from_insert z x [] m = m
  Member-from_insert z x (y ∷ ys) m = Member-from_insert-by z x y ys (cmp x y) (Member-from_insert z x ys) m

  -- a member of a ranking is one of its list
  pub Member-from_ranking : (z : A) (xs : List A) → Member z (ranking cmp xs) → Member z xs
  Member-from_ranking z [] m = m
  Member-from_ranking z (x ∷ xs) m = elim (Member-from_insert z x (ranking cmp xs) m) [ inl e ↦ inl e | inr n ↦ inr (Member-from_ranking z xs n) ]

  Member-insert-by : CmpEqualImpliesEq cmp → (z x y : A) (ys : List A) (o : Ordering) → cmp x y ≡ o → ((x ≡ z) ⊎ Member z ys → Member z (insert_key cmp ys x))
      → (x ≡ z) ⊎ Member z (y ∷ ys) → Member z (match_ordering o (x ∷ y ∷ ys) (y ∷ ys) (y ∷ insert_key cmp ys x))
  Member-insert-by exact z x y ys Less h ih m = m
  Member-insert-by exact z x y ys Equal h ih (inl e) = inl (sym (exact x y h) ∙ e)
  Member-insert-by exact z x y ys Equal h ih (inr m) = m
  Member-insert-by exact z x y ys Greater h ih (inl e) = inr (ih (inl e))
  Member-insert-by exact z x y ys Greater h ih (inr (inl e)) = inl e
  Member-insert-by exact z x y ys Greater h ih (inr (inr m)) = inr (ih (inr m))

  Member-insert : CmpEqualImpliesEq cmp → (z x : A) (xs : List A) → (x ≡ z) ⊎ Member z xs → Member z (insert_key cmp xs x)
  Member-insert exact z x [] m = m
  Member-insert exact z x (y ∷ ys) m = Member-insert-by exact z x y ys (cmp x y) refl (Member-insert exact z x ys) m

  -- and a member of the list one of its ranking
  pub Member-to_ranking : CmpEqualImpliesEq cmp → (z : A) (xs : List A) → Member z xs → Member z (ranking cmp xs)
  Member-to_ranking exact z [] m = m
  Member-to_ranking exact z (x ∷ xs) (inl e) = Member-insert exact z x (ranking cmp xs) (inl e)
  Member-to_ranking exact z (x ∷ xs) (inr m) = Member-insert exact z x (ranking cmp xs) (inr (Member-to_ranking exact z xs m))

  later : IsTotalOrder cmp → (x y : A) (ys : List A) → cmp x y ≡ Less → AllByRecursion (λ z. cmp y z ≡ Less) ys → AllByRecursion (λ z. cmp x z ≡ Less) ys
  later o x y [] h all = tt
  later o x y (z ∷ zs) h all = (o.trans x y z h all.0, later o x y zs h all.1)

  sorted-insert-by : IsTotalOrder cmp → (x y : A) (ys : List A) (r : Ordering) → cmp x y ≡ r
      → IsStrictlySortedBy cmp (y ∷ ys) → IsStrictlySortedBy cmp (insert_key cmp ys x)
      → IsStrictlySortedBy cmp (match_ordering r (x ∷ y ∷ ys) (y ∷ ys) (y ∷ insert_key cmp ys x))
  unfolding IsStrictlySortedBy
  sorted-insert-by o x y ys Less h up ih = ((h, later o x y ys h up.0), up)
  sorted-insert-by o x y ys Equal h up ih = up
  sorted-insert-by o x y ys Greater h up ih = (each-insert (λ z. cmp y z ≡ Less) x ys (o.antisymm y x ∙ ap ordering_reverse h) up.0, ih)

  sorted-insert : IsTotalOrder cmp → (x : A) (xs : List A) → IsStrictlySortedBy cmp xs → IsStrictlySortedBy cmp (insert_key cmp xs x)
  unfolding IsStrictlySortedBy
  sorted-insert o x [] up = (tt, tt)
  sorted-insert o x (y ∷ ys) up = sorted-insert-by o x y ys (cmp x y) refl up (sorted-insert o x ys up.1)

  -- a ranking ascends strictly
  pub sorted-ranking : IsTotalOrder cmp → (xs : List A) → IsStrictlySortedBy cmp (ranking cmp xs)
  unfolding IsStrictlySortedBy
  sorted-ranking o [] = tt
  sorted-ranking o (x ∷ xs) = sorted-insert o x (ranking cmp xs) (sorted-ranking o xs)

  heads : IsTotalOrder cmp → (x y : A) (xs ys : List A) → AllByRecursion (λ z. cmp x z ≡ Less) xs → AllByRecursion (λ z. cmp y z ≡ Less) ys
      → Member x (y ∷ ys) → Member y (x ∷ xs) → x ≡ y
  heads o x y xs ys up rise (inl e) n = sym e
  heads o x y xs ys up rise (inr m) (inl e) = e
  heads o x y xs ys up rise (inr m) (inr n) =
      let below : cmp x y ≡ Less = at_member (λ z. cmp x z ≡ Less) y xs up n in
      let above : cmp y x ≡ Less = at_member (λ z. cmp y z ≡ Less) x ys rise m in
      let back : cmp x y ≡ Greater = o.antisymm x y ∙ ap ordering_reverse above in
      cc

  tail_member : IsTotalOrder cmp → (x y z : A) (xs ys : List A) → AllByRecursion (λ w. cmp x w ≡ Less) xs → x ≡ y
      → Member z xs → Member z (y ∷ ys) → Member z ys
  tail_member o x y z xs ys up same m (inl e) =
      let below : cmp x z ≡ Less = at_member (λ w. cmp x w ≡ Less) z xs up m in
      let tied : cmp x z ≡ Equal = ap (cmp x) (sym (same ∙ e)) ∙ tied_itself o x in
      let never : Less ≡ Equal = sym below ∙ tied in
      cc
  tail_member o x y z xs ys up same m (inr n) = n

  -- two lists that ascend strictly and have the same members are one
  pub sorted_same : IsTotalOrder cmp → (xs ys : List A) → IsStrictlySortedBy cmp xs → IsStrictlySortedBy cmp ys
      → ((z : A) → Member z xs → Member z ys) → ((z : A) → Member z ys → Member z xs) → xs ≡ ys
  unfolding IsStrictlySortedBy
  sorted_same o [] [] up rise to back = refl
  sorted_same o [] (y ∷ ys) up rise to back = absurd (back y (inl refl))
  sorted_same o (x ∷ xs) [] up rise to back = absurd (to x (inl refl))
  sorted_same o (x ∷ xs) (y ∷ ys) up rise to back =
      let same = heads o x y xs ys up.0 rise.0 (to x (inl refl)) (back y (inl refl)) in
      let rest = sorted_same o xs ys up.1 rise.1
      (λ z m. tail_member o x y z xs ys up.0 same m (to z (inr m)))
      (λ z m. tail_member o y x z ys xs rise.0 (sym same) m (back z (inr m))) in
      cc

  -- rankings of lists with the same members are one
  pub ranking-members : IsTotalOrder cmp → CmpEqualImpliesEq cmp → (xs ys : List A)
      → ((z : A) → Member z xs → Member z ys) → ((z : A) → Member z ys → Member z xs) → ranking cmp xs ≡ ranking cmp ys
  ranking-members o exact xs ys to back = sorted_same o (ranking cmp xs) (ranking cmp ys) (sorted-ranking o xs) (sorted-ranking o ys)
      (λ z m. Member-to_ranking exact z ys (to z (Member-from_ranking z xs m)))
      (λ z m. Member-to_ranking exact z xs (back z (Member-from_ranking z ys m)))

-- numbers that ascend strictly by an order stand once
pub Once-from_sorted : (cmp : ℕ → ℕ → Ordering) → IsTotalOrder cmp → (xs : List ℕ) → IsStrictlySortedBy cmp xs → Once xs
unfolding IsStrictlySortedBy
Once-from_sorted cmp o [] up = tt
Once-from_sorted cmp o (x ∷ xs) up = (out, Once-from_sorted cmp o xs up.1)
  where
    out : Member x xs → ⊥
    out m =
        let below : cmp x x ≡ Less = at_member (λ z. cmp x z ≡ Less) x xs up.0 m in
        let never : Less ≡ Equal = sym below ∙ tied_itself o x in
        cc

length-insert : (xs : List ℕ) (x : ℕ) → (Member x xs → ⊥) → length (insert_key nat_cmp xs x) ≡ suc (length xs)
length-insert [] x out = refl
length-insert (y ∷ ys) x out = by (nat_cmp x y) refl (length-insert ys x (λ m. out (inr m)))
  where
    by : (o : Ordering) → nat_cmp x y ≡ o → length (insert_key nat_cmp ys x) ≡ suc (length ys)
        → length (insert_key nat_cmp (y ∷ ys) x) ≡ suc (length (y ∷ ys))
    by Less e ih = rw e refl
    by Greater e ih = rw e (ap suc ih)
    by Equal e ih = absurd (out (inl (sym (exact_unsigned x y e))))

pub length-ranking : (xs : List ℕ) → Once xs → length (ranking nat_cmp xs) ≡ length xs
length-ranking [] once = refl
length-ranking (x ∷ xs) once =
    length-insert (ranking nat_cmp xs) x (λ m. once.0 (Member-from_ranking nat_cmp x xs m)) ∙ ap suc (length-ranking xs once.1)
