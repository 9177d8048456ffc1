-- Utilities along the one order, and the last one of a content.
use Rattle.std.proofs.Common.{◌≡◌, ℕ, ◌<◌, ◌≤◌, ℤ, ◌<ℤ◌, ◌≤ℤ◌, Option, None, Some, true, false, if◌then◌else◌, nat_lt, ltb, List, [], ◌∷◌, ◌++◌, length, take}
use Rattle.std.proofs.Common.{refl, sym, ap, ◌∙◌, arith}
use Rattle.std.specs.declared.cmp.Ordering.TheVariants.{Less, Greater}
use Rattle.std.specs.Int.{int_max}
use Rattle.std.specs.Int.Signed.{≤ℤ_refl}
use Rattle.std.specs.Cmp.{int_cmp_is}
use Rattle.std.specs.List.{AllByRecursion}
use Rattle.std.specs.List.Sorted.{IsStrictlySortedBy}
use Rattle.std.specs.BTreeSet.{insert_key}
use Rattle.std.proofs.lemmas.Int.{ints, clamps, by_lt_z}
use Rattle.std.proofs.lemmas.List.{take_all, take_at, length-take}
use Rattle.std.proofs.lemmas.Bool.{lt-ltb, le-ltb, ltb-false}
use borrow.Author.Tests.{ltb-true}
use Rattle.hu_kind.specs.declared.entry.Entry.{Entry}
use Rattle.hu_kind.specs.Order.{entry_cmp, cut}
use Rattle.hu_kind.proofs.lemmas.RankingLemmas.{before, same, after, compared}
use Rattle.hu_kind.proofs.lemmas.EntryOrder.{entry_order}
use Rattle.hu_kind.proofs.lemmas.Each.{each-take}
use Rattle.hu_collect.specs.Rule.{last_utility, floor_by}
use Rattle.hu_collect.proofs.lemmas.Cutting.{AllByRecursion-weaker}

-- an entry of less utility comes later
pub later-by_utility : (a b : Entry) → a.utility <ℤ b.utility → entry_cmp a b ≡ Greater
unfolding entry_cmp
later-by_utility a b h = rw (← int_cmp_is b.utility a.utility Greater h) refl

-- an earlier entry has no less utility
pub utility-before : (a b : Entry) → entry_cmp a b ≡ Less → b.utility ≤ℤ a.utility
utility-before a b h = by_lt_z a.utility b.utility (λ lt. absurd (let e : Greater ≡ Less = sym (later-by_utility a b lt) ∙ h in cc)) (λ le. le)

-- the last utility lies within bounds on all of them
last-le : (m d : ℤ) (xs : List Entry) → d ≤ℤ m → AllByRecursion (λ x. x.utility ≤ℤ m) xs → last_utility d xs ≤ℤ m
last-le m d [] p h = p
last-le m d (x ∷ xs) p h = last-le m x.utility xs h.0 h.1

le-last : (m d : ℤ) (xs : List Entry) → m ≤ℤ d → AllByRecursion (λ x. m ≤ℤ x.utility) xs → m ≤ℤ last_utility d xs
le-last m d [] p h = p
le-last m d (x ∷ xs) p h = le-last m x.utility xs h.0 h.1

-- no utility is below the last one
pub last-least : (d : ℤ) (xs : List Entry) → IsStrictlySortedBy entry_cmp xs → AllByRecursion (λ x. last_utility d xs ≤ℤ x.utility) xs
unfolding IsStrictlySortedBy
last-least d [] h = tt
last-least d (x ∷ xs) h =
    (last-le x.utility x.utility xs (≤ℤ_refl x.utility) (AllByRecursion-weaker _ _ (utility-before x) xs h.0), last-least x.utility xs h.1)

-- the last utility doesn't fall when an entry is put in and the last one goes
last_utility-insert : (d : ℤ) (xs : List Entry) (x : Entry) → IsStrictlySortedBy entry_cmp xs
    → last_utility d xs ≤ℤ last_utility d (take (length xs) (insert_key entry_cmp xs x))
unfolding IsStrictlySortedBy
last_utility-insert d [] x h = ≤ℤ_refl d
last_utility-insert d (y ∷ ys) x h =
    elim (compared entry_cmp entry_order x y) [
      | before a b ↦
          let least : AllByRecursion (λ z. last_utility d (y ∷ ys) ≤ℤ z.utility) (y ∷ ys) = last-least d (y ∷ ys) h in
          let earlier : y.utility ≤ℤ x.utility = utility-before x y a in
          let last : last_utility d (y ∷ ys) ≤ℤ y.utility = least.0 in
          rw a (le-last _ x.utility (take (length ys) (y ∷ ys)) (omega (arith, ints)) (each-take _ (length ys) (y ∷ ys) least))
      | same q a b ↦ rw (a, take_all (length ys) ys (omega arith)) (≤ℤ_refl (last_utility y.utility ys))
      | after a b ↦ rw a (last_utility-insert y.utility ys x h.1)
    ]

-- an entry that comes after all others is put in at the end
insert-at_end : (xs : List Entry) (x : Entry) → AllByRecursion (λ y. entry_cmp x y ≡ Greater) xs → insert_key entry_cmp xs x ≡ xs ++ x ∷ []
insert-at_end [] x h = refl
insert-at_end (y ∷ ys) x h = rw (h.0) (ap (λ s. y ∷ s) (insert-at_end ys x h.1))

-- an entry below the last utility isn't among the first as many
pub take-insert_below : (d : ℤ) (xs : List Entry) (x : Entry) → IsStrictlySortedBy entry_cmp xs → x.utility <ℤ last_utility d xs
    → take (length xs) (insert_key entry_cmp xs x) ≡ xs
take-insert_below d xs x h below =
    rw (insert-at_end xs x
    (AllByRecursion-weaker _ _ (λ y. λ (le : last_utility d xs ≤ℤ y.utility). later-by_utility x y
    (omega (arith, ints))) xs (last-least d xs h)))
    (take_at xs (x ∷ []) (length xs) refl)

-- an insertion doesn't shorten
pub length-insert_key : (xs : List Entry) (x : Entry) → length xs ≤ length (insert_key entry_cmp xs x)
length-insert_key [] x = omega arith
length-insert_key (y ∷ ys) x =
    elim (compared entry_cmp entry_order x y) [
      | before a b ↦ rw a (omega arith)
      | same q a b ↦ rw a (omega arith)
      | after a b ↦ let more = length-insert_key ys x in rw a (omega (arith, more))
    ]

-- the greater of two numbers
int_max-le_left : (x y : ℤ) → x ≤ℤ int_max x y
int_max-le_left x y = omega (arith, ints, clamps)

int_max-le_right : (x y z : ℤ) → y ≤ℤ z → int_max x y ≤ℤ int_max x z
int_max-le_right x y z h = omega (arith, ints, clamps)

below_right : (x y z : ℤ) → z <ℤ int_max x y → x ≤ℤ z → z <ℤ y
below_right x y z h l = omega (arith, ints, clamps)

-- the floor is the start or more
pub floor_by-start : (limit : Option ℕ) (start : ℤ) (xs : List Entry) → start ≤ℤ floor_by limit start xs
floor_by-start None start xs = ≤ℤ_refl start
floor_by-start (Some k) start xs =
    elim (nat_lt (length xs) k) as (λ b. start ≤ℤ (if b then start else int_max start (last_utility start xs))) [
      | true ↦ ≤ℤ_refl start
      | false ↦ int_max-le_left start (last_utility start xs)
    ]

-- with as many entries as the limit the floor is the greater of the start and the last utility
pub floor_by-full : (k : ℕ) (start : ℤ) (xs : List Entry) → k ≤ length xs → floor_by (Some k) start xs ≡ int_max start (last_utility start xs)
floor_by-full k start xs h = rw (le-ltb (length xs) k h) refl

-- with fewer it is the start
floor_by-short : (k : ℕ) (start : ℤ) (xs : List Entry) → length xs < k → floor_by (Some k) start xs ≡ start
floor_by-short k start xs h = rw (lt-ltb (length xs) k h) refl

-- one more entry leaves the floor or raises it
floor_by-full_insert : (start : ℤ) (xs : List Entry) (x : Entry) → IsStrictlySortedBy entry_cmp xs
    → floor_by (Some (length xs)) start xs ≤ℤ floor_by (Some (length xs)) start (take (length xs) (insert_key entry_cmp xs x))
floor_by-full_insert start xs x h =
    let long : length xs ≤ length (take (length xs) (insert_key entry_cmp xs x)) =
    omega (arith, length-take (length xs) (insert_key entry_cmp xs x), length-insert_key xs x) in
    rw (floor_by-full (length xs) start xs (omega arith), floor_by-full (length xs) start (take (length xs) (insert_key entry_cmp xs x)) long)
    (int_max-le_right start _ _ (last_utility-insert start xs x h))

by_length : {P : Type 0} (m n : ℕ) → (m < n → P) → (n ≤ m → P) → P
by_length {P} m n f g = elim (ltb m n) as (λ b. ltb m n ≡ b → P) [ true ↦ λ e. f (ltb-true m n e) | false ↦ λ e. g (ltb-false m n e) ] refl

pub floor_by-insert : (limit : Option ℕ) (start : ℤ) (xs : List Entry) (x : Entry) → IsStrictlySortedBy entry_cmp xs → cut limit xs ≡ xs
    → floor_by limit start xs ≤ℤ floor_by limit start (cut limit (insert_key entry_cmp xs x))
floor_by-insert None start xs x h c = ≤ℤ_refl start
floor_by-insert (Some k) start xs x h c =
    by_length (length xs) k
    (λ short. rw (floor_by-short k start xs short) (floor_by-start (Some k) start (take k (insert_key entry_cmp xs x))))
    (λ full. let fits : k ≡ length xs = omega (arith, length-take k xs, ap length c) in rw fits (floor_by-full_insert start xs x h))

-- an entry below the floor changes nothing, if it has the start
pub cut-insert_below : (limit : Option ℕ) (start : ℤ) (xs : List Entry) (x : Entry) → IsStrictlySortedBy entry_cmp xs → cut limit xs ≡ xs
    → start ≤ℤ x.utility → x.utility <ℤ floor_by limit start xs → cut limit (insert_key entry_cmp xs x) ≡ xs
cut-insert_below None start xs x h c l below = absurd (omega (arith, ints))
cut-insert_below (Some k) start xs x h c l below =
    by_length (length xs) k
    (λ short. let low : x.utility <ℤ start = rw (floor_by-short k start xs short) at below in absurd (omega (arith, ints)))
    (λ full.
    let fits : k ≡ length xs = omega (arith, length-take k xs, ap length c) in
    let low : x.utility <ℤ int_max start (last_utility start xs) = rw (floor_by-full k start xs full) at below in
    rw fits (take-insert_below start xs x h (below_right start (last_utility start xs) x.utility low l)))
