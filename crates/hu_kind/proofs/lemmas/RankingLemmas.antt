-- Ranking by an order in which equal elements are the same: the members alone decide it.
use Rattle.std.proofs.Common.{◌≡◌, ◌↔◌, List, [], ◌∷◌, ◌++◌, refl, sym, ap, ◌∙◌, ◌⊎◌, inl, inr, append-nil, arith}
use Rattle.std.specs.List.{Contains}
use Rattle.std.specs.List.Sorted.{IsPermutation, IsStrictlySortedBy}
use Rattle.std.specs.declared.cmp.Ordering.{Ordering}
use Rattle.std.specs.declared.cmp.Ordering.TheVariants.{Less, Equal, Greater}
use Rattle.std.specs.Cmp.{IsTotalOrder}
use Rattle.std.specs.BTreeSet.{insert_key}
use Rattle.std.proofs.lemmas.Cmp.{tied_itself}
use Rattle.std.proofs.lemmas.List.Elements.{Contains-push, Contains-push_cases, Contains-append_left, Contains-append_right, Contains-append_cases}
use Rattle.std.proofs.lemmas.List.Sorted.{Contains-permutation, IsPermutation-sym}
use Rattle.std.proofs.lemmas.Map.Keys.{sorted_head, sorted_tail}
use Rattle.std.proofs.lemmas.Map.Lookups.{CmpEqualImpliesEq}
use Rattle.hu_kind.specs.Order.{ranking}

-- a total order in which equal elements are the same
pub record IsExactOrder {A : Type 0} (cmp : A → A → Ordering) : Type 0 where
  pub total : IsTotalOrder cmp
  pub exact : CmpEqualImpliesEq cmp

-- the three ways in which two elements compare
pub data Compared {A : Type 0} (cmp : A → A → Ordering) (x y : A) : Type 0 where
  before : cmp x y ≡ Less → cmp y x ≡ Greater → Compared cmp x y
  same : x ≡ y → cmp x y ≡ Equal → cmp y x ≡ Equal → Compared cmp x y
  after : cmp x y ≡ Greater → cmp y x ≡ Less → Compared cmp x y

compared-by : {A : Type 0} (cmp : A → A → Ordering) → IsExactOrder cmp → (x y : A) (o : Ordering) → cmp x y ≡ o → Compared cmp x y
compared-by cmp e x y Less h = before h (rw (e.total.antisymm y x, h) refl)
compared-by cmp e x y Equal h = same (e.exact x y h) h (rw (e.total.antisymm y x, h) refl)
compared-by cmp e x y Greater h = after h (rw (e.total.antisymm y x, h) refl)

pub compared : {A : Type 0} (cmp : A → A → Ordering) → IsExactOrder cmp → (x y : A) → Compared cmp x y
compared cmp e x y = compared-by cmp e x y (cmp x y) refl

-- insertions commute, whatever the list
insert_comm-nil : {A : Type 0} (cmp : A → A → Ordering) (x y : A) → Compared cmp x y → insert_key cmp (x ∷ []) y ≡ insert_key cmp (y ∷ []) x
insert_comm-nil cmp x y (before h b) = simp (h, b)
insert_comm-nil cmp x y (same e h b) = simp (h, b) (ap (λ z. z ∷ []) e)
insert_comm-nil cmp x y (after h b) = simp (h, b)

insert_comm-cons : {A : Type 0} (cmp : A → A → Ordering) → IsExactOrder cmp → (z : A) (zs : List A) (x y : A)
    → insert_key cmp (insert_key cmp zs x) y ≡ insert_key cmp (insert_key cmp zs y) x
    → Compared cmp x z → Compared cmp y z → Compared cmp x y
    → insert_key cmp (insert_key cmp (z ∷ zs) x) y ≡ insert_key cmp (insert_key cmp (z ∷ zs) y) x
insert_comm-cons cmp e z zs x y ih (before a a') (before b b') (before c c') = simp (a, b, c, c')
insert_comm-cons cmp e z zs x y ih (before a a') (before b b') (same c d d') = simp (a, b, d, d') (ap (λ w. w ∷ z ∷ zs) c)
insert_comm-cons cmp e z zs x y ih (before a a') (before b b') (after c c') = simp (a, b, c, c')
insert_comm-cons cmp e z zs x y ih (before a a') (same b d d') c = let k : cmp y x ≡ Greater = rw b a' in simp (a, d, k)
insert_comm-cons cmp e z zs x y ih (before a a') (after b b') c = let t : cmp x y ≡ Less =
    e.total.trans x z y a b' in let k : cmp y x ≡ Greater = rw (e.total.antisymm y x, t) refl in simp (a, b, k)
insert_comm-cons cmp e z zs x y ih (same a d d') (before b b') c = let k : cmp x y ≡ Greater = rw a b' in simp (d, b, k)
insert_comm-cons cmp e z zs x y ih (same a d d') (same b f f') c = simp (d, f)
insert_comm-cons cmp e z zs x y ih (same a d d') (after b b') c = simp (d, b)
insert_comm-cons cmp e z zs x y ih (after a a') (before b b') c = let t : cmp y x ≡ Less =
    e.total.trans y z x b a' in let k : cmp x y ≡ Greater = rw (e.total.antisymm x y, t) refl in simp (a, b, k)
insert_comm-cons cmp e z zs x y ih (after a a') (same b f f') c = simp (a, f)
insert_comm-cons cmp e z zs x y ih (after a a') (after b b') c = simp (a, b) (ap (λ w. z ∷ w) ih)

pub insert_comm : {A : Type 0} (cmp : A → A → Ordering) → IsExactOrder cmp → (xs : List A) (x y : A)
    → insert_key cmp (insert_key cmp xs x) y ≡ insert_key cmp (insert_key cmp xs y) x
insert_comm cmp e [] x y = insert_comm-nil cmp x y (compared cmp e x y)
insert_comm cmp e (z ∷ zs) x y =
    insert_comm-cons cmp e z zs x y (insert_comm cmp e zs x y) (compared cmp e x z) (compared cmp e y z) (compared cmp e x y)

-- an element is put in once
insert_twice-cons : {A : Type 0} (cmp : A → A → Ordering) → IsExactOrder cmp → (z : A) (zs : List A) (x : A)
    → insert_key cmp (insert_key cmp zs x) x ≡ insert_key cmp zs x → Compared cmp x z
    → insert_key cmp (insert_key cmp (z ∷ zs) x) x ≡ insert_key cmp (z ∷ zs) x
insert_twice-cons cmp e z zs x ih (before a a') = simp (a, tied_itself e.total x)
insert_twice-cons cmp e z zs x ih (same a d d') = simp (d)
insert_twice-cons cmp e z zs x ih (after a a') = simp (a) (ap (λ w. z ∷ w) ih)

pub insert_twice : {A : Type 0} (cmp : A → A → Ordering) → IsExactOrder cmp → (xs : List A) (x : A)
    → insert_key cmp (insert_key cmp xs x) x ≡ insert_key cmp xs x
insert_twice cmp e [] x = rw (tied_itself e.total x) refl
insert_twice cmp e (z ∷ zs) x = insert_twice-cons cmp e z zs x (insert_twice cmp e zs x) (compared cmp e x z)

-- where an element stands in the list doesn't matter
ranking-middle : {A : Type 0} (cmp : A → A → Ordering) → IsExactOrder cmp → (xs : List A) (y : A) (ys : List A)
    → ranking cmp (xs ++ y ∷ ys) ≡ insert_key cmp (ranking cmp (xs ++ ys)) y
ranking-middle cmp e [] y ys = refl
ranking-middle cmp e (x ∷ xs) y ys =
    ap (λ s. insert_key cmp s x) (ranking-middle cmp e xs y ys) ∙ insert_comm cmp e (ranking cmp (xs ++ ys)) y x

pub ranking-append_comm : {A : Type 0} (cmp : A → A → Ordering) → IsExactOrder cmp → (xs ys : List A)
    → ranking cmp (xs ++ ys) ≡ ranking cmp (ys ++ xs)
ranking-append_comm cmp e xs [] = rw append-nil refl
ranking-append_comm cmp e xs (y ∷ ys) =
    ranking-middle cmp e xs y ys ∙ ap (λ s. insert_key cmp s y) (ranking-append_comm cmp e xs ys)

-- an element of a list is its first one or a later one
empty_or_later : {A : Type 0} (y : A) (ys : List A) (x : A) → Contains [] x ⊎ (y ≡ x) → (y ≡ x) ⊎ Contains ys x
empty_or_later y ys x (inl none) = absurd (omega (arith, none.1))
empty_or_later y ys x (inr at_head) = inl at_head

pub first_or_later : {A : Type 0} (y : A) (ys : List A) (x : A) → Contains (y ∷ ys) x → (y ≡ x) ⊎ Contains ys x
first_or_later y ys x h =
    elim (Contains-append_cases (y ∷ []) ys x h) [
      | inl first ↦ empty_or_later y ys x (Contains-push_cases [] y x first)
      | inr later ↦ inr later
    ]

-- a member is there already
ranking-member-cons : {A : Type 0} (cmp : A → A → Ordering) → IsExactOrder cmp → (y : A) (ys : List A) (x : A)
    → (Contains ys x → insert_key cmp (ranking cmp ys) x ≡ ranking cmp ys) → (y ≡ x) ⊎ Contains ys x
    → insert_key cmp (ranking cmp (y ∷ ys)) x ≡ ranking cmp (y ∷ ys)
ranking-member-cons cmp e y ys x ih (inl at_head) = rw at_head (insert_twice cmp e (ranking cmp ys) x)
ranking-member-cons cmp e y ys x ih (inr later) =
    insert_comm cmp e (ranking cmp ys) y x ∙ ap (λ s. insert_key cmp s y) (ih later)

pub ranking-member : {A : Type 0} (cmp : A → A → Ordering) → IsExactOrder cmp → (xs : List A) (x : A) → Contains xs x
    → insert_key cmp (ranking cmp xs) x ≡ ranking cmp xs
ranking-member cmp e [] x h = absurd (omega (arith, h.1))
ranking-member cmp e (y ∷ ys) x h =
    ranking-member-cons cmp e y ys x (ranking-member cmp e ys x) (first_or_later y ys x h)

-- a list whose elements are members of another adds nothing to it
ranking-append_members : {A : Type 0} (cmp : A → A → Ordering) → IsExactOrder cmp → (xs ys : List A)
    → ((x : A) → Contains xs x → Contains ys x) → ranking cmp (xs ++ ys) ≡ ranking cmp ys
ranking-append_members cmp e [] ys h = refl
ranking-append_members cmp e (x ∷ xs) ys h =
    ap (λ s. insert_key cmp s x) (ranking-append_members cmp e xs ys (λ z k. h z (Contains-append_right (x ∷ []) xs z k)))
    ∙ ranking-member cmp e ys x (h x (Contains-append_left (x ∷ []) xs x (Contains-push [] x)))

-- lists with the same members have the same ranking
pub ranking-same_members : {A : Type 0} (cmp : A → A → Ordering) → IsExactOrder cmp → (xs ys : List A)
    → ((x : A) → Contains xs x ↔ Contains ys x) → ranking cmp xs ≡ ranking cmp ys
ranking-same_members cmp e xs ys h =
    sym (ranking-append_members cmp e ys xs (λ x. (h x).1))
    ∙ ranking-append_comm cmp e ys xs
    ∙ ranking-append_members cmp e xs ys (λ x. (h x).0)

-- so has a list in another order
pub ranking-permutation : {A : Type 0} (cmp : A → A → Ordering) → IsExactOrder cmp → (xs ys : List A) → IsPermutation xs ys
    → ranking cmp xs ≡ ranking cmp ys
ranking-permutation cmp e xs ys h = ranking-same_members cmp e xs ys
    (λ x. (Contains-permutation xs ys x h, Contains-permutation ys xs x (IsPermutation-sym xs ys h)))

insert_key-least : {A : Type 0} (cmp : A → A → Ordering) (x : A) (xs : List A) → IsStrictlySortedBy cmp (x ∷ xs) → insert_key cmp xs x ≡ x ∷ xs
insert_key-least cmp x [] h = refl
insert_key-least cmp x (y ∷ ys) h = let first : cmp x y ≡ Less = (sorted_head cmp x (y ∷ ys) h).0 in rw first refl

-- a list that ascends strictly is its own ranking
pub ranking-sorted : {A : Type 0} (cmp : A → A → Ordering) (xs : List A) → IsStrictlySortedBy cmp xs → ranking cmp xs ≡ xs
ranking-sorted cmp [] h = refl
ranking-sorted cmp (x ∷ xs) h = rw (ranking-sorted cmp xs (sorted_tail cmp x xs h)) (insert_key-least cmp x xs h)
