-- An answer is in the one order, and so are its fronts: those of a k and those of a minimum.
use Rattle.std.proofs.Common.{◌≡◌, ℕ, zero, suc, ◌<◌, ℤ, ◌<ℤ◌, ◌≤ℤ◌, Bool, true, false, cond, Option, None, Some, List}
use Rattle.std.proofs.Common.{[], ◌∷◌, length, get_or, take, filter, refl, sym, ap, ◌∙◌, subst, inl, inr, arith}
use Rattle.std.specs.Prelude.{int_le}
use Rattle.std.specs.List.{AllByRecursion}
use Rattle.std.specs.List.Sorted.{IsStrictlySortedBy}
use Rattle.std.specs.Cmp.{int_cmp_is}
use Rattle.std.specs.Ordering.{nat_cmp, MatchOrdering}
use Rattle.std.specs.declared.cmp.Ordering.{Ordering}
use Rattle.std.specs.declared.cmp.Ordering.TheVariants.{Less, Equal, Greater}
use Rattle.std.proofs.lemmas.Cmp.{ranked}
use Rattle.std.proofs.lemmas.Float.{T_from_true}
use Rattle.std.proofs.lemmas.Int.{ints, by_lt_z}
use Rattle.std.proofs.lemmas.List.{take-take}
use Rattle.std.proofs.lemmas.List.Kept.{IsStrictlySortedBy-filter}
use Rattle.std.proofs.lemmas.Map.Keys.{Less-from_sorted}
use Rattle.hu_kind.specs.declared.entry.Entry.{Entry}
use Rattle.hu_kind.specs.Answer.{found, answer}
use Rattle.hu_kind.specs.Order.{Before, entry_cmp, ranking, cut}
use Rattle.hu_kind.proofs.lemmas.Each.{each-take}
use Rattle.hu_kind.proofs.lemmas.Members.{Member, Contains-from_member, Member-from_contains, Member-filter, Member-from_filter}
use Rattle.hu_kind.proofs.lemmas.Occurring.{at_member}
use Rattle.hu_answer.specs.Laws.{AnswerAscends, StandsOnce, IsFirstOfAnswer, OutsideComesAfter, GreaterTopKeepsFront, HigherMinimumKeepsFront}
use Rattle.hu_answer.proofs.lemmas.Answers.{true_from_T, Member-answer, Member-from_answer}
use Rattle.hu_kind.proofs.lemmas.EntryOrder.{entry_order}
use Rattle.hu_answer.proofs.lemmas.Ranked.{sorted-ranked, sorted-same, not_before_itself}

-- ---- in the one order

sorted-take : {A : Type 0} (cmp : A → A → Ordering) (k : ℕ) (xs : List A) → IsStrictlySortedBy cmp xs → IsStrictlySortedBy cmp (take k xs)
unfolding IsStrictlySortedBy
sorted-take cmp zero xs h = tt
sorted-take cmp (suc k) [] h = tt
sorted-take cmp (suc k) (x ∷ xs) h = (each-take (λ y. cmp x y ≡ Less) k xs h.0, sorted-take cmp k xs h.1)

pub sorted-cut : {A : Type 0} (cmp : A → A → Ordering) (top : Option ℕ) (xs : List A) → IsStrictlySortedBy cmp xs → IsStrictlySortedBy cmp (cut top xs)
sorted-cut cmp None xs h = h
sorted-cut cmp (Some k) xs h = sorted-take cmp k xs h

pub sorted-answer : (least : ℤ) (top : Option ℕ) (patterns : List Entry) → IsStrictlySortedBy entry_cmp (answer least top patterns)
sorted-answer least top patterns =
    sorted-cut entry_cmp top (ranking entry_cmp (found least patterns)) (sorted-ranked entry_cmp entry_order (found least patterns))

pub answer_ascends : AnswerAscends
answer_ascends least top patterns i j d before within =
    Less-from_sorted entry_cmp (answer least top patterns) i j d (sorted-answer least top patterns) before within

pub stands_once : StandsOnce
stands_once least top patterns i j d here there same = by (nat_cmp i j) (ranked i j (nat_cmp i j) refl)
  where
    entries : List Entry
    entries = answer least top patterns

    never : (a b : ℕ) → a < b → b < length entries → get_or entries a d ≡ get_or entries b d → ⊥
    never a b before within e =
        let less : Before (get_or entries a d) (get_or entries b d) = answer_ascends least top patterns a b d before within in
        not_before_itself entry_cmp entry_order (get_or entries b d) (subst (λ x. Before x (get_or entries b d)) e less)

    by : (o : Ordering) → MatchOrdering o (i < j) (i ≡ j) (j < i) → i ≡ j
    by Less h = absurd (never i j h there same)
    by Equal h = h
    by Greater h = absurd (never j i h here (sym same))

-- ---- the first k

pub is_first_of_answer : IsFirstOfAnswer
is_first_of_answer least k patterns = refl

before-outside : {A : Type 0} (cmp : A → A → Ordering) (k : ℕ) (xs : List A) (a b : A) → IsStrictlySortedBy cmp xs
    → Member a (take k xs) → Member b xs → (Member b (take k xs) → ⊥) → cmp a b ≡ Less
unfolding IsStrictlySortedBy
before-outside cmp zero xs a b h m n out = absurd m
before-outside cmp (suc k) [] a b h m n out = absurd m
before-outside cmp (suc k) (x ∷ xs) a b h m (inl e) out = absurd (out (inl e))
before-outside cmp (suc k) (x ∷ xs) a b h (inl e) (inr n) out = subst (λ y. cmp y b ≡ Less) e (at_member (λ y. cmp x y ≡ Less) b xs h.0 n)
before-outside cmp (suc k) (x ∷ xs) a b h (inr m) (inr n) out = before-outside cmp k xs a b h.1 m n (λ w. out (inr w))

pub outside_comes_after : OutsideComesAfter
outside_comes_after least k patterns inside outside here there out =
    before-outside entry_cmp k (answer least None patterns) inside outside (sorted-answer least None patterns)
    (Member-from_contains inside _ here)
    (Member-from_contains outside _ there)
    (λ m. out (Contains-from_member outside _ m))

pub greater_top_keeps_front : GreaterTopKeepsFront
greater_top_keeps_front least k more patterns h = sym (take-take k more (answer least None patterns) h)

-- ---- a higher minimum

-- an entry of less utility comes later
later-by_utility : (a b : Entry) → a.utility <ℤ b.utility → entry_cmp a b ≡ Greater
unfolding entry_cmp
later-by_utility a b h = rw (← int_cmp_is b.utility a.utility Greater h) refl

-- an earlier entry has no less utility
utility-before : (a b : Entry) → Before a b → b.utility ≤ℤ a.utility
utility-before a b h = by_lt_z a.utility b.utility (λ lt. absurd (let e : Greater ≡ Less = sym (later-by_utility a b lt) ∙ h in cc)) (λ le. le)

abbrev reaches : ℤ → Entry → Bool
reaches higher entry = int_le higher entry.utility

reaches-before : (higher : ℤ) (a b : Entry) → Before a b → reaches higher b ≡ true → reaches higher a ≡ true
reaches-before higher a b h r =
    let low : higher ≤ℤ b.utility = record { le = T_from_true _ r } in
    let up : b.utility ≤ℤ a.utility = utility-before a b h in
    let all : higher ≤ℤ a.utility = omega (arith, ints) in
    true_from_T (reaches higher a) all.le

none-reach : (higher : ℤ) (x : Entry) (xs : List Entry) → AllByRecursion (Before x) xs → reaches higher x ≡ false → filter (reaches higher) xs ≡ []
none-reach higher x [] after low = refl
none-reach higher x (y ∷ ys) after low = by (none-reach higher x ys after.1 low) (reaches higher y) refl
  where
    by : filter (reaches higher) ys ≡ [] → (b : Bool) → reaches higher y ≡ b → cond b (y ∷ filter (reaches higher) ys) (filter (reaches higher) ys) ≡ []
    by ih true e = let up = reaches-before higher x y after.0 e in absurd (let no : true ≡ false = sym up ∙ low in cc)
    by ih false e = ih

filter-front : (higher : ℤ) (xs : List Entry) → IsStrictlySortedBy entry_cmp xs → filter (reaches higher) xs ≡ take (length (filter (reaches higher) xs)) xs
unfolding IsStrictlySortedBy
filter-front higher [] h = refl
filter-front higher (x ∷ xs) h = by (filter-front higher xs h.1) (reaches higher x) refl
  where
    rest : List Entry
    rest = filter (reaches higher) xs

    by : rest ≡ take (length rest) xs → (b : Bool) → reaches higher x ≡ b → cond b (x ∷ rest) rest ≡ take (length (cond b (x ∷ rest) rest)) (x ∷ xs)
    by ih true e = ap (λ s. x ∷ s) ih
    by ih false e = let none : rest ≡ [] = none-reach higher x xs h.0 e in subst (λ s. s ≡ take (length s) (x ∷ xs)) (sym none) refl

-- what a higher minimum finds is what reaches it of what the lower one finds
pub answer-higher : (least higher : ℤ) (patterns : List Entry) → least ≤ℤ higher
    → answer higher None patterns ≡ filter (reaches higher) (answer least None patterns)
answer-higher least higher patterns h =
    sorted-same entry_cmp entry_order (answer higher None patterns) (filter (reaches higher) (answer least None patterns)) (sorted-answer higher None patterns)
    (IsStrictlySortedBy-filter entry_cmp (reaches higher) (answer least None patterns) (sorted-answer least None patterns))
    there
    back
  where
    there : (e : Entry) → Member e (answer higher None patterns) → Member e (filter (reaches higher) (answer least None patterns))
    there e m =
        let from = Member-from_answer higher patterns e m in
        let up : higher ≤ℤ e.utility = from.1 in
        let all : least ≤ℤ e.utility = omega (arith, ints) in
        Member-filter (reaches higher) e (answer least None patterns) (Member-answer least patterns e from.0 all) (true_from_T (reaches higher e) up.le)

    back : (e : Entry) → Member e (filter (reaches higher) (answer least None patterns)) → Member e (answer higher None patterns)
    back e m =
        let from = Member-from_filter (reaches higher) e (answer least None patterns) m in
        Member-answer higher patterns e (Member-from_answer least patterns e from.0).0 (record { le = T_from_true _ from.1 })

pub higher_minimum_keeps_front : HigherMinimumKeepsFront
higher_minimum_keeps_front least higher patterns h =
    let same = answer-higher least higher patterns h in
    let front = filter-front higher (answer least None patterns) (sorted-answer least None patterns) in
    subst (λ s. s ≡ take (length s) (answer least None patterns)) (sym same) front
