-- What a ranking keeps of its list, by an order in which equal elements are the same: its members, in order, each once.
use Rattle.std.proofs.Common.{◌≡◌, List, [], ◌∷◌, refl, sym, ◌∙◌, subst, inl, inr}
use Rattle.std.specs.List.{AllByRecursion}
use Rattle.std.specs.List.Sorted.{IsStrictlySortedBy}
use Rattle.std.specs.Ordering.{match_ordering}
use Rattle.std.specs.declared.cmp.Ordering.{Ordering}
use Rattle.std.specs.declared.cmp.Ordering.TheVariants.{Less, Equal, Greater}
use Rattle.std.specs.BTreeSet.{insert_key}
use Rattle.std.proofs.lemmas.Cmp.{tied_itself}
use Rattle.hu_kind.specs.Order.{ranking}
use Rattle.hu_kind.proofs.lemmas.Each.{each-weaker}
use Rattle.hu_kind.proofs.lemmas.Members.{Member}
use Rattle.hu_kind.proofs.lemmas.Occurring.{at_member}
use Rattle.hu_kind.proofs.lemmas.RankingLemmas.{IsExactOrder}

-- ---- the members of a ranking are those of its list

Member-insert-cases : {A : Type 0} (cmp : A → A → Ordering) → IsExactOrder cmp → (z x y : A) (ys : List A) (o : Ordering) → cmp x y ≡ o
    → (Member z (x ∷ ys) → Member z (insert_key cmp ys x)) → Member z (x ∷ y ∷ ys) → Member z (match_ordering o (x ∷ y ∷ ys) (y ∷ ys) (y ∷ insert_key cmp ys x))
Member-insert-cases cmp e z x y ys Less h ih m = m
Member-insert-cases cmp e z x y ys Equal h ih (inl s) = inl (sym (e.exact x y h) ∙ s)
Member-insert-cases cmp e z x y ys Equal h ih (inr m) = m
Member-insert-cases cmp e z x y ys Greater h ih (inl s) = inr (ih (inl s))
Member-insert-cases cmp e z x y ys Greater h ih (inr (inl s)) = inl s
Member-insert-cases cmp e z x y ys Greater h ih (inr (inr m)) = inr (ih (inr m))

Member-insert : {A : Type 0} (cmp : A → A → Ordering) → IsExactOrder cmp → (z x : A) (xs : List A) → Member z (x ∷ xs) → Member z (insert_key cmp xs x)
Member-insert cmp e z x [] m = m
Member-insert cmp e z x (y ∷ ys) m = Member-insert-cases cmp e z x y ys (cmp x y) refl (Member-insert cmp e z x ys) m

Member-from_insert-cases : {A : Type 0} (cmp : A → A → Ordering) (z x y : A) (ys : List A) (o : Ordering)
    → (Member z (insert_key cmp ys x) → Member z (x ∷ ys)) → Member z (match_ordering o (x ∷ y ∷ ys) (y ∷ ys) (y ∷ insert_key cmp ys x)) → Member z (x ∷ y ∷ ys)
Member-from_insert-cases cmp z x y ys Less ih m = m
Member-from_insert-cases cmp z x y ys Equal ih m = inr m
Member-from_insert-cases cmp z x y ys Greater ih (inl s) = inr (inl s)
Member-from_insert-cases cmp z x y ys Greater ih (inr m) = elim (ih m) [ inl s ↦ inl s | inr n ↦ inr (inr n) ]

Member-from_insert : {A : Type 0} (cmp : A → A → Ordering) (z x : A) (xs : List A) → Member z (insert_key cmp xs x) → Member z (x ∷ xs)
Member-from_insert cmp z x [] m = m
Member-from_insert cmp z x (y ∷ ys) m = Member-from_insert-cases cmp z x y ys (cmp x y) (Member-from_insert cmp z x ys) m

pub Member-ranked : {A : Type 0} (cmp : A → A → Ordering) → IsExactOrder cmp → (z : A) (xs : List A) → Member z xs → Member z (ranking cmp xs)
Member-ranked cmp e z [] m = m
Member-ranked cmp e z (x ∷ xs) (inl s) = Member-insert cmp e z x (ranking cmp xs) (inl s)
Member-ranked cmp e z (x ∷ xs) (inr m) = Member-insert cmp e z x (ranking cmp xs) (inr (Member-ranked cmp e z xs m))

pub Member-from_ranked : {A : Type 0} (cmp : A → A → Ordering) (z : A) (xs : List A) → Member z (ranking cmp xs) → Member z xs
Member-from_ranked cmp z [] m = m
Member-from_ranked cmp z (x ∷ xs) m = elim (Member-from_insert cmp z x (ranking cmp xs) m) [ inl s ↦ inl s | inr n ↦ inr (Member-from_ranked cmp z xs n) ]

-- ---- a ranking is in order

each-insert-cases : {A : Type 0} (P : A → Type 0) (cmp : A → A → Ordering) (x y : A) (ys : List A) (o : Ordering) → P x → AllByRecursion P (y ∷ ys)
    → AllByRecursion P (insert_key cmp ys x)
    → AllByRecursion P (match_ordering o (x ∷ y ∷ ys) (y ∷ ys) (y ∷ insert_key cmp ys x))
each-insert-cases P cmp x y ys Less p h ih = (p, h)
each-insert-cases P cmp x y ys Equal p h ih = h
each-insert-cases P cmp x y ys Greater p h ih = (h.0, ih)

each-insert : {A : Type 0} (P : A → Type 0) (cmp : A → A → Ordering) (x : A) (xs : List A) → P x → AllByRecursion P xs → AllByRecursion P (insert_key cmp xs x)
each-insert P cmp x [] p h = (p, tt)
each-insert P cmp x (y ∷ ys) p h = each-insert-cases P cmp x y ys (cmp x y) p h (each-insert P cmp x ys p h.1)

sorted-insert-cases : {A : Type 0} (cmp : A → A → Ordering) → IsExactOrder cmp → (x y : A) (ys : List A) (o : Ordering) → cmp x y ≡ o
    → IsStrictlySortedBy cmp (y ∷ ys) → IsStrictlySortedBy cmp (insert_key cmp ys x)
    → IsStrictlySortedBy cmp (match_ordering o (x ∷ y ∷ ys) (y ∷ ys) (y ∷ insert_key cmp ys x))
unfolding IsStrictlySortedBy
sorted-insert-cases cmp e x y ys Less h up ih = ((h, each-weaker _ _ ys (λ z. e.total.trans x y z h) up.0), up)
sorted-insert-cases cmp e x y ys Equal h up ih = up
sorted-insert-cases cmp e x y ys Greater h up ih =
    let less : cmp y x ≡ Less = rw (e.total.antisymm y x, h) refl in
    (each-insert (λ z. cmp y z ≡ Less) cmp x ys less up.0, ih)

sorted-insert : {A : Type 0} (cmp : A → A → Ordering) → IsExactOrder cmp → (x : A) (xs : List A) → IsStrictlySortedBy cmp xs
    → IsStrictlySortedBy cmp (insert_key cmp xs x)
unfolding IsStrictlySortedBy
sorted-insert cmp e x [] up = (tt, tt)
sorted-insert cmp e x (y ∷ ys) up = sorted-insert-cases cmp e x y ys (cmp x y) refl up (sorted-insert cmp e x ys up.1)

pub sorted-ranked : {A : Type 0} (cmp : A → A → Ordering) → IsExactOrder cmp → (xs : List A) → IsStrictlySortedBy cmp (ranking cmp xs)
unfolding IsStrictlySortedBy
sorted-ranked cmp e [] = tt
sorted-ranked cmp e (x ∷ xs) = sorted-insert cmp e x (ranking cmp xs) (sorted-ranked cmp e xs)

-- ---- lists in order with the same members are the same

pub not_before_itself : {A : Type 0} (cmp : A → A → Ordering) → IsExactOrder cmp → (x : A) → cmp x x ≡ Less → ⊥
not_before_itself cmp e x h = let same = tied_itself e.total x in cc

pub not_both_before : {A : Type 0} (cmp : A → A → Ordering) → IsExactOrder cmp → (x y : A) → cmp x y ≡ Less → cmp y x ≡ Less → ⊥
not_both_before cmp e x y h i = not_before_itself cmp e x (e.total.trans x y x h i)

heads-same : {A : Type 0} (cmp : A → A → Ordering) → IsExactOrder cmp → (x y : A) (xs ys : List A)
    → AllByRecursion (λ z. cmp x z ≡ Less) xs → AllByRecursion (λ z. cmp y z ≡ Less) ys → Member x (y ∷ ys) → Member y (x ∷ xs) → x ≡ y
heads-same cmp e x y xs ys up rise (inl s) n = sym s
heads-same cmp e x y xs ys up rise (inr m) (inl s) = s
heads-same cmp e x y xs ys up rise (inr m) (inr n) = absurd (not_both_before cmp e x y (at_member _ y xs up n) (at_member _ x ys rise m))

later : {A : Type 0} (cmp : A → A → Ordering) → IsExactOrder cmp → (x y z : A) (xs ys : List A)
    → AllByRecursion (λ w. cmp x w ≡ Less) xs → x ≡ y → Member z xs → Member z (y ∷ ys) → Member z ys
later cmp e x y z xs ys up s m (inl t) = absurd (not_before_itself cmp e x (subst (λ w. cmp x w ≡ Less) (sym (s ∙ t)) (at_member _ z xs up m)))
later cmp e x y z xs ys up s m (inr n) = n

pub sorted-same : {A : Type 0} (cmp : A → A → Ordering) → IsExactOrder cmp → (xs ys : List A) → IsStrictlySortedBy cmp xs → IsStrictlySortedBy cmp ys
    → ((z : A) → Member z xs → Member z ys) → ((z : A) → Member z ys → Member z xs) → xs ≡ ys
unfolding IsStrictlySortedBy
sorted-same cmp e [] [] up rise there back = refl
sorted-same cmp e [] (y ∷ ys) up rise there back = absurd (back y (inl refl))
sorted-same cmp e (x ∷ xs) [] up rise there back = absurd (there x (inl refl))
sorted-same cmp e (x ∷ xs) (y ∷ ys) up rise there back =
    let head : x ≡ y = heads-same cmp e x y xs ys up.0 rise.0 (there x (inl refl)) (back y (inl refl)) in
    let tail : xs ≡ ys = sorted-same cmp e xs ys up.1 rise.1
    (λ z m. later cmp e x y z xs ys up.0 head m (there z (inr m)))
    (λ z m. later cmp e y x z ys xs rise.0 (sym head) m (back z (inr m))) in
    cc
