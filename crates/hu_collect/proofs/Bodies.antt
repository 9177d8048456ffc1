-- What the bodies of `All` and `Top` compute.
use Rattle.std.proofs.Common.{◌≡◌, ◌∷◌, [], ◌++◌, ℕ, ◌-◌, ℤ, ◌<ℤ◌, ◌≤ℤ◌, Bool, true, false, Option, None, Some, List}
use Rattle.std.proofs.Common.{length, take, refl, sym, ap, ◌∙◌, append-nil, arith}
use Rattle.std.specs.Prelude.{int_le, slice_get}
use Rattle.std.specs.BTreeSet.{insert_key}
use Rattle.std.specs.List.{Contains, dedup}
use Rattle.std.specs.List.Retain.{IsFiltered, DiffersFromLast}
use Rattle.std.specs.List.Sorted.{IsPermutation, IsSorted, IsStrictlySortedBy}
use Rattle.std.specs.Cmp.{Equal-is}
use Rattle.std.specs.Ordering.{eq_by_cmp}
use Rattle.std.proofs.lemmas.Cmp.{eq_by_cmp_equiv}
use Rattle.std.proofs.lemmas.Int.{ints}
use Rattle.std.proofs.lemmas.List.Filters.{dedup_is}
use Rattle.std.proofs.lemmas.List.Kept.{Contains-dedup, Contains-from_dedup, IsStrictlySortedBy-dedup}
use Rattle.std.proofs.lemmas.List.Sorted.{Contains-permutation, IsPermutation-sym}
use Rattle.std.proofs.Math.Dec.{T}
use Rattle.hu_kind.specs.declared.entry.Entry.{Entry}
use Rattle.hu_kind.specs.Order.{entry_cmp, entry_cmp_total, ranking}
use Rattle.hu_collect.specs.Rule.{rule_of, passes, made, IsKept, last_utility, floor_of, floor_by}
use Rattle.hu_collect.specs.State.{State}
use Rattle.hu_collect.specs.Top.{IsTop}
use Rattle.hu_kind.proofs.lemmas.RankingLemmas.{ranking-same_members, ranking-sorted}
use Rattle.hu_collect.proofs.lemmas.Cutting.{cut-ranking-in_turn}
use Rattle.hu_kind.proofs.lemmas.EntryOrder.{entry_order, entry_exact}
use Rattle.hu_collect.proofs.lemmas.Floor.{floor_by-start}
use Rattle.hu_collect.proofs.lemmas.Made.{leaves_below_floor, made-passing, made-not_passing, by_passing, start-passes, kept-made, keeps_floor}

-- states of one rule are equal where what they hold is
pub same_state : (start : ℤ) (limit : Option ℕ) {xs ys : List Entry} → xs ≡ ys
    → ◌≡◌ {A = State} (record { rule = rule_of start limit; content = xs }) (record { rule = rule_of start limit; content = ys })
same_state start limit same = ap (λ content. record { rule = rule_of start limit; content = content }) same

true-from : (b : Bool) → T b → b ≡ true
true-from true h = refl
true-from false h = elim h [ ]

-- an entry of at least the start passes a rule that wants every key, and one below it doesn't
passes-start : (start : ℤ) (limit : Option ℕ) (entry : Entry) → start ≤ℤ entry.utility → passes (rule_of start limit) entry ≡ true
passes-start start limit entry h = true-from (int_le start entry.utility) (h.le)

pub made-low : (start : ℤ) (limit : Option ℕ) (content : List Entry) (entry : Entry) → IsKept (rule_of start limit) content
    → entry.utility <ℤ start → made (rule_of start limit) content (entry ∷ []) ≡ content
made-low start limit content entry kept low =
    by_passing (rule_of start limit) entry
    (λ e. absurd (let least : start ≤ℤ entry.utility = start-passes (rule_of start limit) entry e in omega (arith, ints)))
    (made-not_passing (rule_of start limit) content entry kept)

-- the ranking of what was offered is a content without a limit
pub kept-ranking : (start : ℤ) (offered : List Entry) → IsKept (rule_of start None) (ranking entry_cmp offered)
kept-ranking start offered = cut-ranking-in_turn entry_cmp entry_order None offered [] ∙ ap (ranking entry_cmp) (append-nil offered)

pub made-pushed : (start : ℤ) (offered : List Entry) (entry : Entry) → start ≤ℤ entry.utility
    → made (rule_of start None) (ranking entry_cmp offered) (entry ∷ []) ≡ ranking entry_cmp (offered ++ entry ∷ [])
made-pushed start offered entry h =
    rw (passes-start start None entry h) (cut-ranking-in_turn entry_cmp entry_order None offered (entry ∷ []))

-- a list sorted and without its repetitions is its ranking
exact-from_eq : (a b : Entry) → eq_by_cmp entry_cmp a b ≡ true → a ≡ b
exact-from_eq a b h = entry_exact a b ((Equal-is (entry_cmp a b)).0 h)

pub ranking-dedup : (xs ys zs : List Entry) → IsPermutation xs ys → IsSorted entry_cmp ys
    → IsFiltered (DiffersFromLast (eq_by_cmp entry_cmp)) [] ys zs → zs ≡ ranking entry_cmp xs
ranking-dedup xs ys zs moved sorted filtered =
    let once : zs ≡ dedup (eq_by_cmp entry_cmp) ys = dedup_is (eq_by_cmp entry_cmp) ys zs filtered in
    let rising : IsStrictlySortedBy entry_cmp zs = rw once (IsStrictlySortedBy-dedup entry_cmp_total (λ _ _. refl) ys sorted) in
    let back : (x : Entry) → Contains zs x → Contains xs x =
    λ x k. Contains-permutation ys xs x (IsPermutation-sym xs ys moved) (Contains-from_dedup (eq_by_cmp entry_cmp) ys x (rw once at k)) in
    let on : (x : Entry) → Contains xs x → Contains zs x =
    λ x k. rw once (Contains-dedup (eq_by_cmp_equiv entry_cmp_total) exact-from_eq ys x (Contains-permutation xs ys x moved k)) in
    sym (ranking-sorted entry_cmp zs rising) ∙ ranking-same_members entry_cmp entry_order zs xs (λ x. (back x, on x))

-- the last utility, by the last entry
last_utility-cons : (d : ℤ) (x : Entry) (xs : List Entry) (entry : Entry) → slice_get (x ∷ xs) (length xs) ≡ Some entry
    → last_utility d (x ∷ xs) ≡ entry.utility
last_utility-cons d x [] entry h = let e : x ≡ entry = cc in ap (λ z. z.utility) e
last_utility-cons d x (y ∷ ys) entry h = last_utility-cons x.utility y ys entry h

pub last_utility-at_end : (d : ℤ) (xs : List Entry) (entry : Entry) → slice_get xs (length xs - 1) ≡ Some entry
    → last_utility d xs ≡ entry.utility
last_utility-at_end d [] entry h = cc
last_utility-at_end d (x ∷ xs) entry h =
    let e : length (x ∷ xs) - 1 ≡ length xs = omega arith in last_utility-cons d x xs entry (rw e at h)

-- an offer to a collector of the first k
pub made-put : (k : ℕ) (start floor : ℤ) (content : List Entry) (entry : Entry) → IsTop (rule_of start (Some k)) floor content
    → floor ≤ℤ entry.utility → made (rule_of start (Some k)) content (entry ∷ []) ≡ take k (insert_key entry_cmp content entry)
made-put k start floor content entry top h =
    let least : start ≤ℤ floor = rw (top.value) (floor_by-start (Some k) start content) in
    made-passing (rule_of start (Some k)) content entry top.kept (passes-start start (Some k) entry (omega (arith, ints)))

pub made-refused : (k : ℕ) (start floor : ℤ) (content : List Entry) (entry : Entry) → IsTop (rule_of start (Some k)) floor content
    → entry.utility <ℤ floor → made (rule_of start (Some k)) content (entry ∷ []) ≡ content
made-refused k start floor content entry top h =
    leaves_below_floor (rule_of start (Some k)) content entry top.kept (rw (← top.value) h)

pub top-put : (k : ℕ) (start floor floor' : ℤ) (content : List Entry) (entry : Entry) → IsTop (rule_of start (Some k)) floor content
    → floor ≤ℤ entry.utility → floor' ≡ floor_by (Some k) start (take k (insert_key entry_cmp content entry))
    → IsTop (rule_of start (Some k)) floor' (take k (insert_key entry_cmp content entry))
top-put k start floor floor' content entry top h e =
    let rule = rule_of start (Some k) in
    let put = made-put k start floor content entry top h in
    let rises : floor_of rule content ≤ℤ floor_of rule (take k (insert_key entry_cmp content entry)) =
    rw (← put) (keeps_floor rule content (entry ∷ []) top.kept) in
    let old : floor ≡ floor_of rule content = top.value in
    record {
      least = let l = top.least in rw e (let r : floor ≤ℤ floor_of rule (take k (insert_key entry_cmp content entry)) = rw old rises in omega (arith, ints));
      value = e;
      kept = rw (← put) (kept-made rule content (entry ∷ []));
    }
