-- An untouched pattern outside the first k stays outside: each that came before it still does.
use Rattle.std.proofs.Common.{◌≡◌, ◌∙◌, ◌≢◌, ◌⊎◌, ℕ, ◌≤◌, ℤ, ◌<ℤ◌, ◌≤ℤ◌, int_le, Bool, true, false, Option, None, Some, List, [], ◌∷◌, ◌++◌, map}
use Rattle.std.proofs.Common.{refl, sym, ap, subst, inl, inr, arith, filter, Contains, Ordering, Less, Equal, Greater}
use Rattle.std.specs.List.{AllByRecursion, IsDistinct, count_by}
use Rattle.std.specs.List.Sorted.{IsStrictlySortedBy}
use Rattle.std.specs.Ordering.{int_cmp, int_eq, is_lt, nat_cmp}
use Rattle.std.specs.Cmp.{int_cmp_is, nat_cmp_is}
use Rattle.std.specs.Cmp.Lexicographic.{slice_cmp}
use Rattle.std.specs.Cmp.Rules.{signed_items}
use Rattle.std.proofs.lemmas.Cmp.{int_eq_equiv, lists_equiv, tied_itself}
use Rattle.std.proofs.lemmas.Int.{ints, by_lt_z}
use Rattle.std.proofs.lemmas.List.{length-map}
use Rattle.std.proofs.lemmas.List.Kept.{IsStrictlySortedBy-filter}
use Rattle.std.proofs.lemmas.List.Sums.{length-filter}
use Rattle.std.proofs.lemmas.Map.Made.{is_member-Decides, length-le_from_is_member}
use lib.Pointwise.{pointwise}
use Rattle.hu_kind.specs.declared.entry.Entry.{Entry}
use Rattle.hu_kind.specs.Order.{cut, entry_cmp, entry_cmp_total, ranking}
use Rattle.hu_kind.specs.Answer.{answer, found}
use Rattle.hu_kind.proofs.lemmas.Members.{Contains-from_member, Member, Member-filter, Member-from_contains, Member-from_filter, Member-from_map, Member-map}
use Rattle.hu_kind.proofs.lemmas.Members.{Member-from_take}
use Rattle.hu_kind.proofs.lemmas.Occurring.{by_members}
use Rattle.hu_kind.proofs.lemmas.EntryOrder.{entry_exact, entry_order}
use Rattle.hu_collect.proofs.lemmas.Cutting.{sorted-cut, sorted-ranking}
use Rattle.hu_collect.proofs.lemmas.Floor.{utility-before}
use Rattle.hu_totals.proofs.lemmas.SortedLists.{Member-from_ranking, Member-to_ranking}
use Rattle.hu_kept.specs.Kept.{Keeping, answer_of, patterns_of, with_batch}
use Rattle.hu_kept.specs.Laws.{NoneBelow, StaysOutside}
use Rattle.hu_kept.specs.Touched.{is_touched}
use Rattle.hu_kept.proofs.Firsts.{before, count-first, first-count}
use Rattle.hu_kept.proofs.Patterns.{IsPattern, IsPattern-from_member, Member-from_pattern, answer-patterns, pattern-before, pattern-grown, same_key}

-- ---- keys

apart : (a b : List ℤ) → a ≢ b → pointwise int_eq a b ≡ false
apart a b ne = by (pointwise int_eq a b) refl
  where
    by : (r : Bool) → pointwise int_eq a b ≡ r → r ≡ false
    by false e = refl
    by true e = absurd (ne ((signed_items a b).0 e))

module _ (P : Entry → Type 0) (alone : (a b : Entry) → P a → P b → a.key ≡ b.key → a ≡ b) where
  -- the keys of entries in order are distinct, where a key tells its entry
  keys-distinct : (xs : List Entry) → IsStrictlySortedBy entry_cmp xs → AllByRecursion P xs → IsDistinct (pointwise int_eq) (map (λ e. e.key) xs)
  unfolding IsStrictlySortedBy IsDistinct
  keys-distinct [] up all = tt
  keys-distinct (x ∷ xs) up all = (each xs up.0 all.1, keys-distinct xs up.1 all.1)
    where
      each : (ys : List Entry) → AllByRecursion (λ y. entry_cmp x y ≡ Less) ys → AllByRecursion P ys
          → AllByRecursion (λ k. pointwise int_eq x.key k ≡ false) (map (λ e. e.key) ys)
      each [] below rest = tt
      each (y ∷ ys) below rest = (
        apart x.key y.key (λ e.
            let same = alone x y all.0 rest.0 e in
            let tied : entry_cmp x x ≡ Equal = tied_itself entry_cmp_total x in
            let less : entry_cmp x x ≡ Less = ap (entry_cmp x) same ∙ below.0 in
            cc),
        each ys below.1 rest.1,
      )

-- ---- an entry that grows stays before another of another key

keys-cmp : (a b : Entry) → slice_cmp int_cmp a.key b.key ≡ Equal → a.key ≡ b.key
unfolding entry_cmp
keys-cmp a b h =
    let utility : int_cmp a.utility a.utility ≡ Equal = sym (int_cmp_is a.utility a.utility Equal refl) in
    let support : nat_cmp a.support a.support ≡ Equal = sym (nat_cmp_is a.support a.support Equal refl) in
    let first : Entry = record { key = a.key; utility = a.utility; support = a.support } in
    let second : Entry = record { key = b.key; utility = a.utility; support = a.support } in
    let tied : entry_cmp first second ≡ Equal = rw (utility, h, support) refl in
    ap (λ (e : Entry). e.key) (entry_exact first second tied)

-- by the key, where the utilities are the same
key-before : (y x g : Entry) (o : Ordering) → slice_cmp int_cmp y.key x.key ≡ o → y.key ≢ x.key → g.key ≡ y.key
    → x.utility ≡ y.utility → x.utility ≡ g.utility → entry_cmp y x ≡ Less → entry_cmp g x ≡ Less
unfolding entry_cmp
key-before y x g Less h other key low high less =
    let tied : int_cmp x.utility g.utility ≡ Equal = sym (int_cmp_is x.utility g.utility Equal high) in
    let here : slice_cmp int_cmp g.key x.key ≡ Less = ap (λ k. slice_cmp int_cmp k x.key) key ∙ h in
    rw (tied, here) refl
key-before y x g Equal h other key low high less = absurd (other (keys-cmp y x h))
key-before y x g Greater h other key low high less =
    let tied : int_cmp x.utility y.utility ≡ Equal = sym (int_cmp_is x.utility y.utility Equal low) in
    let greater : entry_cmp y x ≡ Greater = rw (tied, h) refl in
    cc

utility-less : (g x : Entry) → x.utility <ℤ g.utility → entry_cmp g x ≡ Less
unfolding entry_cmp
utility-less g x h = rw (← int_cmp_is x.utility g.utility Less h) refl

grows-before : (y x g : Entry) → y.key ≢ x.key → g.key ≡ y.key → y.utility ≤ℤ g.utility → entry_cmp y x ≡ Less → entry_cmp g x ≡ Less
grows-before y x g other key grows less =
    let low = utility-before y x less in
    by_lt_z x.utility g.utility (utility-less g x)
    (λ high.
    let first : x.utility ≡ y.utility = omega (arith, ints, low, high, grows) in
    let second : x.utility ≡ g.utility = omega (arith, ints, low, high, grows) in
    key-before y x g (slice_cmp int_cmp y.key x.key) refl other key first second less)

-- ---- how many come before an untouched pattern

less-from : (o : Ordering) → is_lt o ≡ true → o ≡ Less
less-from Less h = refl
less-from Equal h = cc
less-from Greater h = cc

-- the patterns of a task that earn at least a least utility, in order
abbrev ranked_patterns : Bool → ℤ → List (List (ℕ × ℤ)) → List Entry
ranked_patterns closed least records = ranking entry_cmp (found least (patterns_of closed records))

module _ (closed : Bool) (least : ℤ) (records : List (List (ℕ × ℤ))) where
  record IsFound (entry : Entry) : Type 0 where
    pub pattern : IsPattern closed records entry
    pub reaches : int_le least entry.utility ≡ true

  IsFound-from_member : (entry : Entry) → Member entry (ranked_patterns closed least records) → IsFound entry
  IsFound-from_member entry m =
      let both =
      Member-from_filter (λ (e : Entry). int_le least e.utility) entry (patterns_of closed records)
      (Member-from_ranking entry_cmp entry (found least (patterns_of closed records)) m) in
      record { pattern = IsPattern-from_member closed records entry both.0; reaches = both.1 }

  Member-from_found : (entry : Entry) → IsFound entry → Member entry (ranked_patterns closed least records)
  Member-from_found entry f =
      Member-to_ranking entry_cmp entry_exact entry (found least (patterns_of closed records))
      (Member-filter (λ (e : Entry). int_le least e.utility) entry (patterns_of closed records) (Member-from_pattern closed records entry f.pattern) f.reaches)

  sorted : IsStrictlySortedBy entry_cmp (ranked_patterns closed least records)
  sorted = sorted-ranking entry_cmp entry_order (found least (patterns_of closed records))

module _ (closed : Bool) (least : ℤ) (records batch : List (List (ℕ × ℤ))) (none : NoneBelow batch) (x : Entry) (pattern : IsPattern closed records x) where
  abbrev old : List Entry
  old = filter (before entry_cmp x) (ranked_patterns closed least records)

  abbrev new : List Entry
  new = filter (before entry_cmp x) (ranked_patterns closed least (records ++ batch))

  -- one that came before still does, with what it earns now
  still-before : (y : Entry) → Member y old → (g : Entry) × Member g new × (g.key ≡ y.key)
  still-before y m =
      let both = Member-from_filter (before entry_cmp x) y (ranked_patterns closed least records) m in
      let less = less-from (entry_cmp y x) both.1 in
      let of = IsFound-from_member closed least records y both.0 in
      let more = pattern-grown closed records batch y none of.pattern in
      let g = more.0 in
      let other : y.key ≢ x.key = λ e.
      let same = same_key closed records y x of.pattern pattern e in
      let tied : entry_cmp x x ≡ Equal = tied_itself entry_cmp_total x in
      let here : entry_cmp x x ≡ Less = ap (λ z. entry_cmp z x) (sym same) ∙ less in
      cc in
      let enough : int_le least g.utility ≡ true = reach y g of.reaches more.3 in
      let here = Member-from_found closed least (records ++ batch) g (record { pattern = more.1; reaches = enough }) in
      let first : before entry_cmp x g ≡ true = ap is_lt (grows-before y x g other more.2 more.3 less) in
      (g, Member-filter (before entry_cmp x) g (ranked_patterns closed least (records ++ batch)) here first, more.2)
    where
      reach : (y g : Entry) → int_le least y.utility ≡ true → y.utility ≤ℤ g.utility → int_le least g.utility ≡ true
      reach y g h more = grind (arith, ints)

  count-kept : count_by (before entry_cmp x) (ranked_patterns closed least records)
      ≤ count_by (before entry_cmp x) (ranked_patterns closed least (records ++ batch))
  count-kept =
      let key = λ (e : Entry). e.key in
      let up = IsStrictlySortedBy-filter entry_cmp (before entry_cmp x) (ranked_patterns closed least records) (sorted closed least records) in
      let all =
      by_members (IsPattern closed records) old
      (λ y m. (IsFound-from_member closed least records y
      (Member-from_filter (before entry_cmp x) y (ranked_patterns closed least records) m).0).pattern) in
      let less = length-le_from_is_member (lists_equiv int_eq_equiv) (map key old) (map key new)
      (keys-distinct (IsPattern closed records) (same_key closed records) old up all)
      (λ q h.
      let y = Member-from_map key q old (Member-from_contains q (map key old) ((is_member-Decides signed_items (map key old) q).0 h)) in
      let g = still-before y.0 y.1 in
      (is_member-Decides signed_items (map key new) q).1
      (Contains-from_member q (map key new) (subst (λ k. Member k (map key new)) (g.2 ∙ y.2) (Member-map key g.0 new g.1)))) in
      omega (
        arith,
        length-map old key,
        length-map new key,
        length-filter (before entry_cmp x) (ranked_patterns closed least records),
        length-filter (before entry_cmp x) (ranked_patterns closed least (records ++ batch)),
      )

-- ---- the law

pub Member-cut : (limit : Option ℕ) (x : Entry) (xs : List Entry) → Member x (cut limit xs) → Member x xs
Member-cut None x xs m = m
Member-cut (Some k) x xs m = Member-from_take x k xs m

-- the keys of an answer are distinct
pub answer-distinct : (kept : Keeping) → IsDistinct (pointwise int_eq) (map (λ e. e.key) (answer_of kept))
answer-distinct kept =
    let ranked = ranked_patterns kept.closed kept.least kept.records in
    let first = cut kept.top ranked in
    let all =
    by_members (IsPattern kept.closed kept.records) first
    (λ e m. (IsFound-from_member kept.closed kept.least kept.records e (Member-cut kept.top e ranked m)).pattern) in
    subst (λ es. IsDistinct (pointwise int_eq) (map (λ (e : Entry). e.key) es)) (sym (answer-patterns kept))
    (keys-distinct (IsPattern kept.closed kept.records) (same_key kept.closed kept.records) first
    (sorted-cut entry_cmp kept.top ranked (sorted kept.closed kept.least kept.records)) all)

module _ (closed : Bool) (least : ℤ) (records batch : List (List (ℕ × ℤ))) (x : Entry) (out : is_touched batch x.key ≡ false) where
  found-before : IsFound closed least (records ++ batch) x → IsFound closed least records x
  found-before f = record { pattern = pattern-before closed records batch x out f.pattern; reaches = f.reaches }

  pub stays-outside : (top : Option ℕ) → (top ≡ None) ⊎ NoneBelow batch
      → Member x (answer least top (patterns_of closed (records ++ batch))) → Member x (answer least top (patterns_of closed records))
  stays-outside None either m = Member-from_found closed least records x (found-before (IsFound-from_member closed least (records ++ batch) x m))
  stays-outside (Some k) (inl e) m = cc
  stays-outside (Some k) (inr none) m =
      let was = found-before (IsFound-from_member closed least (records ++ batch) x (Member-from_take x k (ranked_patterns closed least (records ++ batch)) m)) in
      let few = count-first entry_cmp entry_cmp_total x k (ranked_patterns closed least (records ++ batch)) (sorted closed least (records ++ batch)) m in
      let fewer = count-kept closed least records batch none x was.pattern in
      first-count entry_cmp entry_cmp_total x k (ranked_patterns closed least records) (sorted closed least records)
      (Member-from_found closed least records x was) (omega (arith, few, fewer))

pub stays_outside : StaysOutside
stays_outside kept batch either entry out c =
    let new = answer kept.least kept.top (patterns_of kept.closed (kept.records ++ batch)) in
    let old = answer kept.least kept.top (patterns_of kept.closed kept.records) in
    let m = Member-from_contains entry new (subst (λ es. Contains es entry) (answer-patterns (with_batch kept batch)) c) in
    subst (λ es. Contains es entry) (sym (answer-patterns kept))
    (Contains-from_member entry old
    (stays-outside kept.closed kept.least kept.records batch entry out kept.top either m))
