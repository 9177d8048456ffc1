-- The first k of a ranking.
use Rattle.std.proofs.Common.{◌≡◌, ℕ, zero, suc, Option, None, Some, List, [], ◌∷◌, ◌++◌, take, refl, sym, ap, ◌∙◌, arith}
use Rattle.std.specs.declared.cmp.Ordering.{Ordering}
use Rattle.std.specs.declared.cmp.Ordering.TheVariants.{Less}
use Rattle.std.specs.List.{AllByRecursion}
use Rattle.std.specs.List.Sorted.{IsStrictlySortedBy}
use Rattle.std.specs.BTreeSet.{insert_key}
use Rattle.std.proofs.lemmas.List.{take-take}
use Rattle.hu_kind.specs.Order.{ranking, cut}
use Rattle.hu_kind.proofs.lemmas.RankingLemmas.{IsExactOrder, before, same, after, compared, ranking-append_comm, ranking-sorted}
use Rattle.hu_kind.proofs.lemmas.Each.{each-take}

-- what holds of each element holds after an insertion, and of the first k
AllByRecursion-insert : {A : Type 0} (P : A → Type 0) (cmp : A → A → Ordering) → IsExactOrder cmp → (xs : List A) (x : A)
    → P x → AllByRecursion P xs → AllByRecursion P (insert_key cmp xs x)
AllByRecursion-insert P cmp e [] x p h = (p, tt)
AllByRecursion-insert P cmp e (y ∷ ys) x p h =
    elim (compared cmp e x y) [
      | before a b ↦ rw a (p, h)
      | same q a b ↦ rw a h
      | after a b ↦ rw a (h.0, AllByRecursion-insert P cmp e ys x p h.1)
    ]

pub AllByRecursion-weaker : {A : Type 0} (P Q : A → Type 0) → ((x : A) → P x → Q x) → (xs : List A) → AllByRecursion P xs → AllByRecursion Q xs
AllByRecursion-weaker P Q w [] h = tt
AllByRecursion-weaker P Q w (x ∷ xs) h = (w x h.0, AllByRecursion-weaker P Q w xs h.1)

-- an insertion keeps a list in order
sorted-insert : {A : Type 0} (cmp : A → A → Ordering) → IsExactOrder cmp → (xs : List A) (x : A)
    → IsStrictlySortedBy cmp xs → IsStrictlySortedBy cmp (insert_key cmp xs x)
unfolding IsStrictlySortedBy
sorted-insert cmp e [] x h = (tt, tt)
sorted-insert cmp e (y ∷ ys) x h =
    elim (compared cmp e x y) [
      | before a b ↦ rw a ((a, AllByRecursion-weaker _ _ (λ z. e.total.trans x y z a) ys h.0), h)
      | same q a b ↦ rw a h
      | after a b ↦ rw a (AllByRecursion-insert (λ z. cmp y z ≡ Less) cmp e ys x b h.0, sorted-insert cmp e ys x h.1)
    ]

-- a ranking is in order, and so are the first of it
pub sorted-ranking : {A : Type 0} (cmp : A → A → Ordering) → IsExactOrder cmp → (xs : List A) → IsStrictlySortedBy cmp (ranking cmp xs)
unfolding IsStrictlySortedBy
sorted-ranking cmp e [] = tt
sorted-ranking cmp e (x ∷ xs) = sorted-insert cmp e (ranking cmp xs) x (sorted-ranking cmp e xs)

sorted-take : {A : Type 0} (cmp : A → A → Ordering) (k : ℕ) (xs : List A) → IsStrictlySortedBy cmp xs → IsStrictlySortedBy cmp (take k xs)
unfolding IsStrictlySortedBy
sorted-take cmp zero xs h = tt
sorted-take cmp (suc k) [] h = tt
sorted-take cmp (suc k) (x ∷ xs) h = (each-take (λ y. cmp x y ≡ Less) k xs h.0, sorted-take cmp k xs h.1)

pub sorted-cut : {A : Type 0} (cmp : A → A → Ordering) (limit : Option ℕ) (xs : List A) → IsStrictlySortedBy cmp xs → IsStrictlySortedBy cmp (cut limit xs)
sorted-cut cmp None xs h = h
sorted-cut cmp (Some k) xs h = sorted-take cmp k xs h

-- the first k after an insertion need the first k before it alone
take-cons_take : {A : Type 0} (k : ℕ) (x : A) (xs : List A) → take k (x ∷ take k xs) ≡ take k (x ∷ xs)
take-cons_take zero x xs = refl
take-cons_take (suc k) x xs = ap (λ s. x ∷ s) (take-take k (suc k) xs (omega arith))

take-insert : {A : Type 0} (cmp : A → A → Ordering) → IsExactOrder cmp → (k : ℕ) (xs : List A) (x : A)
    → take k (insert_key cmp (take k xs) x) ≡ take k (insert_key cmp xs x)
take-insert cmp e zero xs x = refl
take-insert cmp e (suc k) [] x = refl
take-insert cmp e (suc k) (y ∷ ys) x =
    elim (compared cmp e x y) [
      | before a b ↦ rw a (ap (λ s. x ∷ s) (take-cons_take k y ys))
      | same q a b ↦ rw a (ap (λ s. y ∷ s) (take-take k k ys (omega arith)))
      | after a b ↦ rw a (ap (λ s. y ∷ s) (take-insert cmp e k ys x))
    ]

cut-insert : {A : Type 0} (cmp : A → A → Ordering) → IsExactOrder cmp → (limit : Option ℕ) (xs : List A) (x : A)
    → cut limit (insert_key cmp (cut limit xs) x) ≡ cut limit (insert_key cmp xs x)
cut-insert cmp e None xs x = refl
cut-insert cmp e (Some k) xs x = take-insert cmp e k xs x

pub cut-cut : {A : Type 0} (limit : Option ℕ) (xs : List A) → cut limit (cut limit xs) ≡ cut limit xs
cut-cut None xs = refl
cut-cut (Some k) xs = take-take k k xs (omega arith)

-- the cut of a ranking is its own ranking
pub ranking-cut : {A : Type 0} (cmp : A → A → Ordering) → IsExactOrder cmp → (limit : Option ℕ) (xs : List A)
    → ranking cmp (cut limit (ranking cmp xs)) ≡ cut limit (ranking cmp xs)
ranking-cut cmp e limit xs = ranking-sorted cmp (cut limit (ranking cmp xs)) (sorted-cut cmp limit (ranking cmp xs) (sorted-ranking cmp e xs))

-- further elements may as well be put into the cut of a ranking
cut-ranking-append : {A : Type 0} (cmp : A → A → Ordering) → IsExactOrder cmp → (limit : Option ℕ) (xs ys : List A)
    → cut limit (ranking cmp (xs ++ cut limit (ranking cmp ys))) ≡ cut limit (ranking cmp (xs ++ ys))
cut-ranking-append cmp e limit [] ys = ap (cut limit) (ranking-cut cmp e limit ys) ∙ cut-cut limit (ranking cmp ys)
cut-ranking-append cmp e limit (x ∷ xs) ys =
    sym (cut-insert cmp e limit (ranking cmp (xs ++ cut limit (ranking cmp ys))) x)
    ∙ ap (λ s. cut limit (insert_key cmp s x)) (cut-ranking-append cmp e limit xs ys)
    ∙ cut-insert cmp e limit (ranking cmp (xs ++ ys)) x

pub cut-ranking-in_turn : {A : Type 0} (cmp : A → A → Ordering) → IsExactOrder cmp → (limit : Option ℕ) (xs ys : List A)
    → cut limit (ranking cmp (cut limit (ranking cmp xs) ++ ys)) ≡ cut limit (ranking cmp (xs ++ ys))
cut-ranking-in_turn cmp e limit xs ys =
    ap (cut limit) (ranking-append_comm cmp e (cut limit (ranking cmp xs)) ys)
    ∙ cut-ranking-append cmp e limit ys xs
    ∙ ap (cut limit) (ranking-append_comm cmp e ys xs)
