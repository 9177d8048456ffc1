-- What is left out by a collector, and what searches make of it.
use Rattle.std.proofs.Common.{◌≡◌, ℕ, suc, ◌<◌, ◌≤◌, Bool, true, false, max, ℤ, pos, ◌*ℤ◌, ◌<ℤ◌, int_le, Option, None, Some, List, [], ◌∷◌, ◌++◌, take}
use Rattle.std.proofs.Common.{length, ◌-◌, slice_get, refl, sym, ap, ◌∙◌, subst, arith, ◌⊎◌, inl, inr, append_assoc, append-nil}
use Rattle.std.specs.declared.cmp.Ordering.{Ordering}
use Rattle.std.specs.declared.cmp.Ordering.TheVariants.{Less, Equal, Greater}
use Rattle.std.specs.Ordering.{match_ordering, MatchOrdering, int_cmp, ordering_then}
use Rattle.std.specs.List.{AllByRecursion}
use Rattle.std.specs.List.Sorted.{IsStrictlySortedBy}
use Rattle.std.specs.BTreeSet.{insert_key}
use Rattle.std.proofs.lemmas.Cmp.{int_ranked}
use Rattle.std.specs.Cmp.{int_cmp_is}
use Rattle.std.proofs.lemmas.Int.{ints}
use Rattle.std.proofs.lemmas.List.{take_at, take_all, length-take}
use Rattle.hu_kind.specs.declared.entry.Entry.{Entry}
use Rattle.hu_kind.specs.Order.{ranking, cut}
use Rattle.hu_kind.proofs.lemmas.Each.{each-take, each-weaker}
use Rattle.hu_kind.proofs.lemmas.Members.{Member, Member-append_left, Member-append_right, Member-append_cases, Member-filter, Member-from_filter}
use Rattle.hu_kind.proofs.lemmas.RankingLemmas.{ranking-sorted}
use Rattle.hu_collect.proofs.lemmas.Cutting.{sorted-ranking, sorted-cut}
use Rattle.hu_kind.proofs.lemmas.Occurring.{by_members}
use Rattle.hu_average.specs.Order.{Average, average_of, fraction_cmp, average_cmp, average_cmp_total, times-swap, times-le, times-lt, times-lt_cancel}
use Rattle.hu_average.specs.Answer.{reaches, reaching}
use Rattle.hu_average.specs.Best.{BestOf, offered, IsKept, IsPast, IsLeftOut, IsAtMost, IsPastLast, Covers}
use Rattle.hu_average.proofs.AverageOrder.{average_order, ranking-same, ranking-push}
use Rattle.hu_average.proofs.BestLemmas.{firsts, best_with, firsts-in_turn, kept-content, kept-sorted, offered-kept, offered-then, offered-low, offered-one}

-- ---- what is past stays so

-- an entry comes after all of these
abbrev AllBefore : List Entry → Entry → Type 0
AllBefore xs e = AllByRecursion (λ x. average_cmp x e ≡ Less) xs

past-insert-by : (x : Entry) (xs : List Entry) (z e : Entry) (o : Ordering) → average_cmp z x ≡ o → AllBefore (x ∷ xs) e
    → (length (take (length xs) (insert_key average_cmp xs z)) ≡ length xs) × AllBefore (take (length xs) (insert_key average_cmp xs z)) e
    → (length (take (suc (length xs)) (match_ordering o (z ∷ x ∷ xs) (x ∷ xs) (x ∷ insert_key average_cmp xs z))) ≡ suc (length xs))
    × AllBefore (take (suc (length xs)) (match_ordering o (z ∷ x ∷ xs) (x ∷ xs) (x ∷ insert_key average_cmp xs z))) e
past-insert-by x xs z e Less h all ih = (
  let l = length-take (length xs) (x ∷ xs) in omega (arith, l),
  (
    average_cmp_total.trans z x e h all.0,
    each-take (λ y. average_cmp y e ≡ Less)
        (length xs) (x ∷ xs) all,
  ),
)
past-insert-by x xs z e Equal h all ih =
    let same : take (length xs) xs ≡ xs = take_all (length xs) xs (omega arith) in
    (ap (λ t. suc (length t)) same, (all.0, subst (λ t. AllBefore t e) (sym same) all.1))
past-insert-by x xs z e Greater h all ih = (ap suc ih.0, (all.0, ih.1))

past-insert : (xs : List Entry) (z e : Entry) → AllBefore xs e
    → (length (take (length xs) (insert_key average_cmp xs z)) ≡ length xs) × AllBefore (take (length xs) (insert_key average_cmp xs z)) e
past-insert [] z e all = (refl, tt)
past-insert (x ∷ xs) z e all = past-insert-by x xs z e (average_cmp z x) refl all (past-insert xs z e all.1)

past-cut : (top : Option ℕ) (content : List Entry) (z e : Entry) → IsPast top content e → IsPast top (cut top (insert_key average_cmp content z)) e
past-cut None content z e past = past
past-cut (Some k) content z e past =
    let both = past-insert content z e past.1 in
    subst (λ n. (length (take n (insert_key average_cmp content z)) ≡ n) × AllBefore (take n (insert_key average_cmp content z)) e) past.0 both

cases_true : (b : Bool) → (b ≡ true) ⊎ (b ≡ false)
cases_true true = inl refl
cases_true false = inr refl

left_out-next : (b : BestOf) (z e : Entry) → IsKept b → IsLeftOut b e → IsLeftOut (offered b (z ∷ [])) e
left_out-next b z e kept (inl low) = inl low
left_out-next b z e kept (inr past) = elim (cases_true (reaches b.least z)) [
  | inl high ↦ subst (λ s. IsLeftOut s e) (sym (offered-one b z kept high)) (inr (past-cut b.top b.content z e past))
  | inr low ↦ subst (λ s. IsLeftOut s e) (sym (offered-low b z kept low)) (inr past)
]

-- what is left out stays so
pub left_out-more : (b : BestOf) (zs : List Entry) (e : Entry) → IsKept b → IsLeftOut b e → IsLeftOut (offered b zs) e
left_out-more b [] e kept out = subst (λ s. IsLeftOut s e) (sym kept) out
left_out-more b (z ∷ zs) e kept out =
    subst (λ s. IsLeftOut s e) (offered-then b (z ∷ []) zs) (left_out-more (offered b (z ∷ [])) zs e (offered-kept b (z ∷ []))
    (left_out-next b z e kept out))

-- ---- an entry that is left out changes nothing

insert-last : (xs : List Entry) (e : Entry) → AllBefore xs e → insert_key average_cmp xs e ≡ xs ++ e ∷ []
insert-last [] e all = refl
insert-last (x ∷ xs) e all = let h : average_cmp e x ≡ Greater = rw (average_cmp_total.antisymm e x, all.0) refl in rw h (ap (λ t. x ∷ t)
    (insert-last xs e all.1))

past-same : (top : Option ℕ) (content : List Entry) (e : Entry) → IsPast top content e → cut top (insert_key average_cmp content e) ≡ content
past-same None content e past = absurd past
past-same (Some k) content e past = ap (take k) (insert-last content e past.1) ∙ take_at content (e ∷ []) k past.0

pub offered-left_out : (b : BestOf) (e : Entry) → IsKept b → IsLeftOut b e → offered b (e ∷ []) ≡ b
offered-left_out b e kept (inl low) = offered-low b e kept low
offered-left_out b e kept (inr past) = elim (cases_true (reaches b.least e)) [
  | inl high ↦ offered-one b e kept high ∙ ap (best_with b.least b.top) (past-same b.top b.content e past)
  | inr low ↦ offered-low b e kept low
]

-- ---- by an average

less-from : (a b : ℤ) → int_cmp a b ≡ Less → a <ℤ b
less-from a b h = subst (λ o. MatchOrdering o (a <ℤ b) (a ≡ b) (b <ℤ a)) h (int_ranked a b (int_cmp a b) refl)

first-less : (o p : Ordering) → o ≡ Less → ordering_then o p ≡ Less
first-less o p h = ap (λ q. ordering_then q p) h

at_most-after : (average : Average) (last e : Entry) → 0 < average.1 → 0 < length last.key → fraction_cmp average (average_of last) ≡ Less
    → IsAtMost average e → average_cmp last e ≡ Less
unfolding average_cmp
at_most-after average last e some more less most =
    let c = average.1 in let m = length last.key in let n = length e.key in
    let c' : c ≡ max c 1 = omega (arith, some) in
    let m' : m ≡ max m 1 = omega (arith, more) in
    let n' : n ≡ max n 1 = let k = most.0 in omega (arith, k) in
    let x : (average.0 *ℤ pos m) <ℤ (last.utility *ℤ pos c) =
    subst (λ z. (average.0 *ℤ pos z) <ℤ (last.utility *ℤ pos c)) (sym m') (subst (λ z. (average.0 *ℤ pos (max m 1)) <ℤ (last.utility *ℤ pos z)) (sym c')
    (less-from (average.0 *ℤ pos (max m 1)) (last.utility *ℤ pos (max c 1)) less)) in
    let y = times-lt (average.0 *ℤ pos m) (last.utility *ℤ pos c) n most.0 x in
    let z = times-le (e.utility *ℤ pos c) (average.0 *ℤ pos n) m most.1 in
    let s = times-swap average.0 m n in let t = times-swap last.utility c n in let u = times-swap e.utility c m in
    let under : (e.utility *ℤ pos m) <ℤ (last.utility *ℤ pos n) =
    times-lt_cancel (e.utility *ℤ pos m) (last.utility *ℤ pos n) c (omega (arith, ints, y, z, s, t, u)) in
    let wide : (e.utility *ℤ pos (max m 1)) <ℤ (last.utility *ℤ pos (max n 1)) =
    subst (λ k. (e.utility *ℤ pos k) <ℤ (last.utility *ℤ pos (max n 1))) m' (subst (λ k. (e.utility *ℤ pos m) <ℤ (last.utility *ℤ pos k)) n' under) in
    first-less (int_cmp (e.utility *ℤ pos (max m 1)) (last.utility *ℤ pos (max n 1))) _
    (sym (int_cmp_is (e.utility *ℤ pos (max m 1)) (last.utility *ℤ pos (max n 1)) Less wide))

-- an entry of at most an average that doesn't reach the least one
pub low-left_out : (b : BestOf) (average : Average) → 0 < average.1 → int_le (b.least *ℤ pos average.1) average.0 ≡ false → (e : Entry)
    → IsAtMost average e → IsLeftOut b e
low-left_out b average some low e most =
    let under : average.0 <ℤ (b.least *ℤ pos average.1) = grind (arith, ints) in
    let x = times-lt average.0 (b.least *ℤ pos average.1) (length e.key) most.0 under in
    let s = times-swap b.least average.1 (length e.key) in
    let most' = most.1 in
    let less : e.utility <ℤ (b.least *ℤ pos (length e.key)) =
    times-lt_cancel e.utility (b.least *ℤ pos (length e.key)) average.1 (omega (arith, ints, x, s, most')) in
    inl (grind (arith, ints))

before-last : (front : List Entry) (last e : Entry) → IsStrictlySortedBy average_cmp (front ++ last ∷ []) → average_cmp last e ≡ Less
    → AllBefore (front ++ last ∷ []) e
unfolding IsStrictlySortedBy
before-last [] last e up h = (h, tt)
before-last (x ∷ xs) last e up h =
    let less : average_cmp x last ≡ Less = at xs up.0 in
    (average_cmp_total.trans x last e less h, before-last xs last e up.1 h)
  where
    at : (ys : List Entry) → AllByRecursion (λ y. average_cmp x y ≡ Less) (ys ++ last ∷ []) → average_cmp x last ≡ Less
    at [] all = all.0
    at (y ∷ ys) all = at ys all.1

-- the last element of a list
last-splits : (xs : List Entry) (e : Entry) → slice_get xs (length xs - 1) ≡ Some e → (front : List Entry) × (xs ≡ front ++ e ∷ [])
last-splits [] e h = cc
last-splits (x ∷ []) e h = ([], let same : x ≡ e = (cc) in ap (λ z. z ∷ []) same)
last-splits (x ∷ y ∷ ys) e h =
    let i : length (x ∷ y ∷ ys) - 1 ≡ suc (length ys) = omega arith in
    let j : length (y ∷ ys) - 1 ≡ length ys = omega arith in
    let k : slice_get (y ∷ ys) (length ys) ≡ Some e = rw i at h in
    let rest = last-splits (y ∷ ys) e (rw j k) in
    (x ∷ rest.0, ap (λ t. x ∷ t) rest.1)

full : (k : ℕ) (xs : List Entry) → firsts (Some k) xs ≡ xs → k ≤ length xs → length xs ≡ k
full k xs same most = let l = length-take k (ranking average_cmp xs) in let e = ap length same in omega (arith, l, e, most)

pub past-left_out : (b : BestOf) (average : Average) → IsKept b → 0 < average.1 → IsPastLast b.top b.content average → (e : Entry)
    → IsAtMost average e → IsLeftOut b e
past-left_out b average kept some past e most = by b.top past (kept-content b kept)
  where
    by : (top : Option ℕ) → IsPastLast top b.content average → firsts top b.content ≡ b.content → IsLeftOut (best_with b.least top b.content) e
    by None past same = absurd past
    by (Some k) (last, at_end, enough, key, less) same =
        let split = last-splits b.content last at_end in let front = split.0 in let is = split.1 in
        inr (
          full k b.content same enough,
          subst (λ t. AllBefore t e) (sym is)
              (before-last front last e (subst (IsStrictlySortedBy average_cmp) is (kept-sorted b kept)) (at_most-after average last e some key less most)),
        )

-- ---- what a search leaves

pub covers-kept : {old new : BestOf} {P : Entry → Type 0} → Covers old P new → IsKept new
covers-kept {old} h = subst IsKept (sym h.is) (offered-kept old h.entries)

-- what was left out before is left out after
pub covers-left_out : {old new : BestOf} {P : Entry → Type 0} → IsKept old → Covers old P new → (e : Entry) → IsLeftOut old e → IsLeftOut new e
covers-left_out {old} kept h e out = subst (λ b. IsLeftOut b e) (sym h.is) (left_out-more old h.entries e kept out)

-- nothing was offered: all is left out
pub covers-none : {P : Entry → Type 0} (b : BestOf) → IsKept b → ((e : Entry) → P e → IsLeftOut b e) → Covers b P b
covers-none b kept out = record { entries = []; each = λ e m. absurd m; rest = λ e p. inr (out e p); is = sym kept }

-- all of a list were offered
pub covers-list : {P : Entry → Type 0} (old new : BestOf) (entries : List Entry) → new ≡ offered old entries → ((e : Entry) → Member e entries → P e)
    → ((e : Entry) → P e → Member e entries) → Covers old P new
covers-list old new entries is each whole = record { entries = entries; each = each; rest = λ e p. inl (whole e p); is = is }

-- one search after another
pub covers-then : {P Q R : Entry → Type 0} {old mid new : BestOf} → ((e : Entry) → P e → R e) → ((e : Entry) → Q e → R e)
    → ((e : Entry) → R e → P e ⊎ (Q e ⊎ IsLeftOut new e)) → Covers old P mid → Covers mid Q new → Covers old R new
covers-then {P} {Q} {R} {old} {mid} {new} p q cases first second = record {
  entries = first.entries ++ second.entries;
  each = λ e m. elim (Member-append_cases e first.entries second.entries m) [ inl k ↦ p e (first.each e k) | inr k ↦ q e (second.each e k) ];
  rest = λ e r. by e (cases e r);
  is = second.is ∙ ap (λ b. offered b second.entries) first.is ∙ offered-then old first.entries second.entries;
}
  where
    here : (e : Entry) → Member e first.entries ⊎ IsLeftOut mid e → Member e (first.entries ++ second.entries) ⊎ IsLeftOut new e
    here e (inl m) = inl (Member-append_left e first.entries second.entries m)
    here e (inr out) = inr (covers-left_out (covers-kept first) second e out)

    there : (e : Entry) → Member e second.entries ⊎ IsLeftOut new e → Member e (first.entries ++ second.entries) ⊎ IsLeftOut new e
    there e (inl m) = inl (Member-append_right e first.entries second.entries m)
    there e (inr out) = inr out

    by : (e : Entry) → P e ⊎ (Q e ⊎ IsLeftOut new e) → Member e (first.entries ++ second.entries) ⊎ IsLeftOut new e
    by e (inl k) = here e (first.rest e k)
    by e (inr (inl k)) = there e (second.rest e k)
    by e (inr (inr out)) = inr out

-- the same of another property
pub covers-as : {P R : Entry → Type 0} {old new : BestOf} → ((e : Entry) → P e → R e) → ((e : Entry) → R e → P e ⊎ IsLeftOut new e)
    → Covers old P new → Covers old R new
covers-as {P} {R} {old} {new} p cases first = record {
  entries = first.entries;
  each = λ e m. p e (first.each e m);
  rest = λ e r. elim (cases e r) [ inl k ↦ first.rest e k | inr out ↦ inr out ];
  is = first.is;
}

-- ---- a whole search

member-last : {A : Type 0} (z x : A) (xs : List A) → Member z (xs ++ x ∷ []) → Member z xs ⊎ (x ≡ z)
member-last z x xs m = elim (Member-append_cases z xs (x ∷ []) m) [ inl k ↦ inl k | inr k ↦ elim k [ inl s ↦ inr s | inr none ↦ absurd none ] ]

-- an entry more that is there already, or past, changes nothing
firsts-more : (top : Option ℕ) (xs : List Entry) (e : Entry) → Member e xs ⊎ IsPast top (firsts top xs) e → firsts top (xs ++ e ∷ []) ≡ firsts top xs
firsts-more top xs e (inl m) = ap (cut top) (ranking-same average_cmp average_order (xs ++ e ∷ []) xs
    (λ z k. elim (member-last z e xs k) [ inl j ↦ j | inr s ↦ subst (λ y. Member y xs) s m ])
    (λ z k. Member-append_left z xs (e ∷ []) k))
firsts-more top xs e (inr past) =
    sym (firsts-in_turn top xs (e ∷ []))
    ∙ ap (cut top) (ranking-push average_cmp average_order (firsts top xs) e ∙ ap (λ t. insert_key average_cmp t e) (ranking-sorted average_cmp
    (firsts top xs) up))
    ∙ past-same top (firsts top xs) e past
  where
    up : IsStrictlySortedBy average_cmp (firsts top xs)
    up = sorted-cut average_cmp top (ranking average_cmp xs) (sorted-ranking average_cmp
        (record { total = average_order.total; exact = average_order.exact }) xs)

firsts-all : (top : Option ℕ) (ys xs : List Entry) → AllByRecursion (λ e. Member e xs ⊎ IsPast top (firsts top xs) e) ys
    → firsts top (xs ++ ys) ≡ firsts top xs
firsts-all top [] xs all = ap (firsts top) (append-nil xs)
firsts-all top (y ∷ ys) xs all =
    let one = firsts-more top xs y all.0 in
    ap (firsts top) (sym (append_assoc xs (y ∷ []) ys))
    ∙ firsts-all top ys (xs ++ y ∷ []) (each-weaker (λ e. Member e xs ⊎ IsPast top (firsts top xs) e) (λ e. Member e (xs ++ y ∷ [])
    ⊎ IsPast top (firsts top (xs ++ y ∷ [])) e) ys
    (λ e h. elim h [ inl m ↦ inl (Member-append_left e xs (y ∷ []) m) | inr past ↦ inr (subst (λ c. IsPast top c e) (sym one) past) ]) all.1)
    ∙ one

-- a search for all of a list's entries by a collector that held none finds the first of these
pub covers-all : {P : Entry → Type 0} (least : ℤ) (top : Option ℕ) (new : BestOf) (all : List Entry) → Covers (best_with least top []) P new
    → ((e : Entry) → P e → Member e all) → ((e : Entry) → Member e all → P e) → new.content ≡ cut top (ranking average_cmp (reaching least all))
covers-all {P} least top new all h there back =
    content ∙ sym (firsts-all top ys xs (by_members (λ e. Member e xs ⊎ IsPast top (firsts top xs) e) ys found))
    ∙ ap (cut top) (ranking-same average_cmp average_order (xs ++ ys) ys
    (λ z m. elim (Member-append_cases z xs ys m) [ inl k ↦ inside z k | inr k ↦ k ])
    (λ z m. Member-append_right z xs ys m))
  where
    xs : List Entry
    xs = reaching least h.entries

    ys : List Entry
    ys = reaching least all

    content : new.content ≡ firsts top (reaching least h.entries)
    content = ap (λ (b : BestOf). b.content) h.is

    inside : (z : Entry) → Member z (reaching least h.entries) → Member z (reaching least all)
    inside z m = let from = Member-from_filter (reaches least) z h.entries m in Member-filter (reaches least) z all (there z (h.each z from.0)) from.1

    out : (e : Entry) → reaches least e ≡ true → IsLeftOut new e → IsPast top (firsts top (reaching least h.entries)) e
    out e high left = by (subst (λ b. IsLeftOut b e) h.is left)
      where
        by : IsLeftOut (offered (best_with least top []) h.entries) e → IsPast top (firsts top (reaching least h.entries)) e
        by (inl low) = cc
        by (inr past) = past

    found : (e : Entry) → Member e (reaching least all) → Member e (reaching least h.entries) ⊎ IsPast top (firsts top (reaching least h.entries)) e
    found e m =
        let from = Member-from_filter (reaches least) e all m in
        elim (h.rest e (back e from.0)) [
          | inl k ↦ inl (Member-filter (reaches least) e h.entries k from.1)
          | inr left ↦ inr (out e from.1 left)
        ]
