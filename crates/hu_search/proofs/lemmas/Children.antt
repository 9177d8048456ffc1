-- What a search makes that offers all children of a set and then enters them best bound first.
use Rattle.std.proofs.Common.{◌≡◌, ℕ, zero, suc, ◌<◌, ◌≤◌, ◌+◌, true, ◌<ℤ◌, ◌≤ℤ◌, List, [], ◌∷◌, ◌++◌, length, get_or, take, drop, refl, sym, ap, ◌∙◌, subst}
use Rattle.std.proofs.Common.{inl, inr, ◌⊎◌, arith, append_assoc, Contains, Result}
use Rattle.std.proofs.lemmas.Int.{ints}
use Rattle.std.proofs.lemmas.List.{take_more}
use Rattle.std.proofs.lemmas.List.Elements.{Contains-append_left, Contains-push, Contains-push_cases}
use Rattle.hu_kind.specs.declared.entry.Entry.{Entry}
use Rattle.hu_kind.specs.Database.{support}
use Rattle.hu_kind.specs.Itemsets.{item_patterns}
use Rattle.hu_kind.specs.Order.{Ascend}
use Rattle.hu_kind.proofs.lemmas.Falling.{fall-later}
use Rattle.hu_kind.proofs.lemmas.Members.{Member, Member-from_contains, Contains-from_member, Member-drop, Member-past}
use Rattle.hu_kind.proofs.lemmas.Occurring.{at_member}
use Rattle.hu_totals.specs.Ranked.{Ranking, IsRanking, unranked}
use Rattle.hu_collect.specs.Rule.{passes}
use Rattle.hu_collect.specs.State.{State, offered, floor_in, IsInOrder, Reached, ReachedSome, Searches, Mines}
use Rattle.hu_collect.proofs.lemmas.Searching.{empty-contains, reached-rule, reached-floor, passes-new, reached-none, reached-one}
use Rattle.hu_collect.proofs.lemmas.Searching.{reached-then, reached-as, some-reached, some-as, some-then, mined}
use Rattle.hu_search.specs.declared.child.Child.{Child}
use Rattle.hu_search.specs.Growth.{rank_entry, Grows}
use Rattle.hu_search.specs.Children.{IsChild, ranks_of, IsOneOf, IsBelow, Counts, AreEnough, IsBarren, IsBound, AreOpen, Fall, IsUpto}
use Rattle.hu_search.proofs.lemmas.UnrankLemmas.{pattern-grows, grows-pattern}

-- ---- the ranks of the first children

map-push : (children : List Child) (child : Child) → ranks_of (children ++ child ∷ []) ≡ ranks_of children ++ child.rank ∷ []
map-push [] child = refl
map-push (c ∷ cs) child = ap (λ ranks. c.rank ∷ ranks) (map-push cs child)

pub ranks-more : (children : List Child) (i : ℕ) (d : Child) → i < length children → ranks_of (take (i + 1) children)
    ≡ ranks_of (take i children) ++ (get_or children i d).rank ∷ []
ranks-more children i d within = ap ranks_of (take_more children i d within) ∙ map-push (take i children) (get_or children i d)

contains-before : (children : List Child) (i : ℕ) (d : Child) (rank : ℕ) → i < length children
    → Contains (ranks_of (take i children)) rank → Contains (ranks_of (take (i + 1) children)) rank
contains-before children i d rank within c =
    subst (λ ranks. Contains ranks rank) (sym (ranks-more children i d within))
    (Contains-append_left (ranks_of (take i children)) ((get_or children i d).rank ∷ []) rank c)

contains-here : (children : List Child) (i : ℕ) (d : Child) → i < length children → Contains (ranks_of (take (i + 1) children)) (get_or children i d).rank
contains-here children i d within =
    subst (λ ranks. Contains ranks (get_or children i d).rank) (sym (ranks-more children i d within))
    (Contains-push (ranks_of (take i children)) (get_or children i d).rank)

contains-cases : (children : List Child) (i : ℕ) (d : Child) (rank : ℕ) → i < length children → Contains (ranks_of (take (i + 1) children)) rank
    → Contains (ranks_of (take i children)) rank ⊎ ((get_or children i d).rank ≡ rank)
contains-cases children i d rank within c =
    Contains-push_cases (ranks_of (take i children)) (get_or children i d).rank rank (subst (λ ranks. Contains ranks rank) (ranks-more children i d within) c)

Member-front : (children : List Child) (i : ℕ) (rank : ℕ) → Member rank (ranks_of (take i children)) → Member rank (ranks_of children)
Member-front children zero rank m = absurd m
Member-front [] (suc i) rank m = absurd m
Member-front (c ∷ cs) (suc i) rank (inl e) = inl e
Member-front (c ∷ cs) (suc i) rank (inr m) = inr (Member-front cs i rank m)

-- a rank of children is that of one among the first, or of a later one
Member-parts : (children : List Child) (i : ℕ) (rank : ℕ) → Member rank (ranks_of children)
    → Member rank (ranks_of (take i children)) ⊎ ((child : Child) × Member child (drop i children) × (child.rank ≡ rank))
Member-parts [] i rank m = absurd m
Member-parts (c ∷ cs) zero rank (inl e) = inr (c, inl refl, e)
Member-parts (c ∷ cs) zero rank (inr m) = elim (Member-parts cs zero rank m) [
  | inl none ↦ absurd none
  | inr later ↦ inr (later.0, inr later.1, later.2)
]
Member-parts (c ∷ cs) (suc i) rank (inl e) = inl (inl e)
Member-parts (c ∷ cs) (suc i) rank (inr m) = elim (Member-parts cs i rank m) [ inl here ↦ inl (inr here) | inr later ↦ inr later ]

-- what counts at a later state counted before
pub counts-before : {s t : State} {e : Entry} → t.rule ≡ s.rule → floor_in s ≤ℤ floor_in t → Counts t e → Counts s e
counts-before {e = e} same rises counts = record {
  pass = subst (λ rule. passes rule e ≡ true) same counts.pass;
  high = let high = counts.high in omega (arith, ints, rises, high);
}

module _ (r : Ranking) (set : List ℕ) where
  -- ---- offers of children

  one-as : {ranks others : List ℕ} {e : Entry} (one : IsOneOf r set ranks e) → Contains others one.rank → IsOneOf r set others e
  one-as one among = record { rank = one.rank; among = among; ascending = one.ascending; occurs = one.occurs; is = one.is }

  below-as : {ranks others : List ℕ} {e : Entry} (below : IsBelow r set ranks e) → Contains others below.rank → IsBelow r set others e
  below-as below among = record { rank = below.rank; among = among; grows = below.grows }

  one-grows : (ranks : List ℕ) (e : Entry) → IsOneOf r set ranks e → Grows r set e
  one-grows ranks e one = record { more = one.rank ∷ []; some = omega arith; ascending = one.ascending; occurs = one.occurs; is = one.is }

  pub offered-none : (s : State) → IsInOrder s → Reached s (IsOneOf r set []) s
  offered-none s ordered = reached-none {P = IsOneOf r set []} s ordered (λ e one pass high. empty-contains one.rank one.among)

  pub offered-next : {old s t : State} (children : List Child) (i : ℕ) (d : Child) → i < length children → IsInOrder old
      → IsChild r set (get_or children i d) → Reached old (IsOneOf r set (ranks_of (take i children))) s
      → t ≡ offered s (rank_entry r (set ++ (get_or children i d).rank ∷ []) ∷ []) → Reached old (IsOneOf r set (ranks_of (take (i + 1) children))) t
  offered-next {old} {s} {t} children i d within ordered right first is =
      let entry = rank_entry r (set ++ (get_or children i d).rank ∷ []) in
      reached-then {P = IsOneOf r set (ranks_of (take i children))} {Q = λ e. entry ≡ e} {R = IsOneOf r set (ranks_of (take (i + 1) children))} ordered
      (λ e one. one-as one (contains-before children i d one.rank within one.among))
      (λ e same. record {
        rank = (get_or children i d).rank;
        among = contains-here children i d within;
        ascending = right.ascending;
        occurs = right.occurs;
        is = sym same;
      })
      (λ e one pass high. elim (contains-cases children i d one.rank within one.among) [
        | inl before ↦ inl (one-as one before)
        | inr same ↦ inr (ap (λ rank. rank_entry r (set ++ rank ∷ [])) same ∙ sym one.is)
      ])
      first (reached-one s entry t is)

  -- want of memory after some were offered
  pub some-offered : {old s t : State} (children : List Child) (i : ℕ) → Reached old (IsOneOf r set (ranks_of (take i children))) s → t ≡ s
      → ReachedSome old (IsOneOf r set (ranks_of children)) t
  some-offered {old} children i first same =
      subst (ReachedSome old (IsOneOf r set (ranks_of children))) (sym same)
      (some-reached {P = IsOneOf r set (ranks_of (take i children))} {R = IsOneOf r set (ranks_of children)}
      (λ e one. one-as one (Contains-from_member one.rank (ranks_of children)
      (Member-front children i one.rank (Member-from_contains one.rank (ranks_of (take i children)) one.among))))
      first)

  pub offered-some : {old new : State} (ranks : List ℕ) → ReachedSome old (IsOneOf r set ranks) new → ReachedSome old (Grows r set) new
  offered-some ranks some = some-as {P = IsOneOf r set ranks} {R = Grows r set} (one-grows ranks) some

  -- ---- children that are entered

  below-grows : (ranks : List ℕ) (e : Entry) → IsBelow r set ranks e → Grows r set e
  below-grows ranks e below =
      let g = below.grows in
      let same : (set ++ below.rank ∷ []) ++ g.more ≡ set ++ below.rank ∷ g.more = append_assoc set (below.rank ∷ []) g.more in
      record {
        more = below.rank ∷ g.more;
        some = omega arith;
        ascending = subst Ascend same g.ascending;
        occurs = subst (λ s. 0 < support r.records s) same g.occurs;
        is = g.is ∙ ap (rank_entry r) same;
      }

  module _ (ranks : List ℕ) (chosen : List Child) where
    upto-grows : (i : ℕ) (e : Entry) → IsUpto r set ranks chosen i e → Grows r set e
    upto-grows i e (inl one) = one-grows ranks e one
    upto-grows i e (inr below) = below-grows (ranks_of (take i chosen)) e below

    -- all children were offered, and none was entered yet
    pub upto-none : {old mid : State} → Reached old (IsOneOf r set ranks) mid → Reached old (IsUpto r set ranks chosen 0) mid
    upto-none first = reached-as {P = IsOneOf r set ranks} {R = IsUpto r set ranks chosen 0} (λ e one. inl one)
        (λ e upto pass high. elim upto [ inl one ↦ one | inr below ↦ absurd (empty-contains below.rank below.among) ])
        first

    module _ (i : ℕ) (d : Child) (within : i < length chosen) where
      -- one more was entered
      pub upto-next : {old s t : State} → IsInOrder old → Reached old (IsUpto r set ranks chosen i) s
          → Reached s (Grows r (set ++ (get_or chosen i d).rank ∷ [])) t → Reached old (IsUpto r set ranks chosen (i + 1)) t
      upto-next ordered first second =
          reached-then {P = IsUpto r set ranks chosen i} {Q = Grows r (set ++ (get_or chosen i d).rank ∷ [])} {R = IsUpto r set ranks chosen (i + 1)} ordered
          (λ e upto. elim upto [ inl one ↦ inl one | inr below ↦ inr (below-as below (contains-before chosen i d below.rank within below.among)) ])
          (λ e grows. inr (record { rank = (get_or chosen i d).rank; among = contains-here chosen i d within; grows = grows }))
          (λ e upto pass high. elim upto [
            | inl one ↦ inl (inl one)
            | inr below ↦ elim (contains-cases chosen i d below.rank within below.among) [
              | inl before ↦ inl (inr (below-as below before))
              | inr same ↦ inr (subst (λ rank. Grows r (set ++ rank ∷ []) e) (sym same) below.grows)
            ]
          ])
          first second

      -- want of memory below one
      pub upto-some : {old s t : State} → Reached old (IsUpto r set ranks chosen i) s
          → ReachedSome s (Grows r (set ++ (get_or chosen i d).rank ∷ [])) t → ReachedSome old (Grows r set) t
      upto-some first second =
          some-then {P = IsUpto r set ranks chosen i} {Q = Grows r (set ++ (get_or chosen i d).rank ∷ [])} {R = Grows r set}
          (upto-grows i)
          (λ e grows. below-grows ((get_or chosen i d).rank ∷ []) e
          (record {
            rank = (get_or chosen i d).rank;
            among = Contains-push [] (get_or chosen i d).rank;
            grows =
                grows;
          }))
          first second

    -- want of memory after some were entered
    pub upto-stopped : {old s : State} (i : ℕ) → Reached old (IsUpto r set ranks chosen i) s → ReachedSome old (Grows r set) s
    upto-stopped i first = some-reached {P = IsUpto r set ranks chosen i} {R = Grows r set} (upto-grows i) first

    -- all are entered, or the next bound is below the floor
    abbrev pub Ends : State → ℕ → Child → Type 0
    Ends s i d = (length chosen ≤ i) ⊎ ((get_or chosen i d).bound <ℤ floor_in s)

    pub upto-all : {old mid new : State} (i : ℕ) (d : Child) → IsInOrder old → AreEnough old r set ranks → Reached old (IsOneOf r set ranks) mid
        → AreOpen mid r set ranks chosen → Fall chosen → floor_in mid ≤ℤ floor_in new → Ends new i d
        → Reached old (IsUpto r set ranks chosen i) new → Reached old (Grows r set) new
    upto-all {old} {mid} {new} i d ordered enough offers opened fall rises ends first =
        reached-as {P = IsUpto r set ranks chosen i} {R = Grows r set} (upto-grows i)
        (λ e grows pass high.
        let counts : Counts new e = record { pass = passes-new first e pass; high = high } in
        cases e counts grows.more grows.some grows.ascending grows.occurs grows.is)
        first
      where
        floors : floor_in old ≤ℤ floor_in new
        floors = let up = reached-floor ordered offers in omega (arith, ints, up, rises)

        counts-old : (e : Entry) → Counts new e → Counts old e
        counts-old e counts = counts-before (reached-rule first) floors counts

        counts-mid : (e : Entry) → Counts new e → Counts mid e
        counts-mid e counts = counts-before (reached-rule first ∙ sym (reached-rule offers)) rises counts

        late : (e : Entry) (child : Child) → Counts new e → Member child (drop i chosen) → Grows r (set ++ child.rank ∷ []) e → ⊥
        late e child counts m grows = elim ends [
          | inl past ↦ Member-past child i chosen past m
          | inr low ↦
              let bounded = at_member (λ c. IsBound mid r (set ++ c.rank ∷ []) c.bound) child chosen opened.bounds (Member-drop child i chosen m) in
              let under = bounded e grows (counts-mid e counts) in
              let falls = fall-later (λ (c : Child). c.bound) chosen i d child fall m in
              let high = counts.high in
              absurd (omega (arith, ints, under, falls, low, high))
        ]

        below : (e : Entry) (rank : ℕ) → Counts new e → Contains ranks rank → Grows r (set ++ rank ∷ []) e → IsUpto r set ranks chosen i e
        below e rank counts c grows = elim (opened.others rank c) [
          | inl among ↦ elim (Member-parts chosen i rank (Member-from_contains rank (ranks_of chosen) among)) [
            | inl here ↦ inr (record { rank = rank; among = Contains-from_member rank (ranks_of (take i chosen)) here; grows = grows })
            | inr later ↦ absurd (late e later.0 counts later.1 (subst (λ n. Grows r (set ++ n ∷ []) e) (sym later.2) grows))
          ]
          | inr barren ↦ absurd (barren e grows (counts-mid e counts))
        ]

        cases : (e : Entry) → Counts new e → (more : List ℕ) → 0 < length more → Ascend (set ++ more)
            → 0 < support r.records (set ++ more) → e ≡ rank_entry r (set ++ more)
            → IsUpto r set ranks chosen i e
        cases e counts [] some up occurs is = absurd (omega arith)
        cases e counts (m ∷ ms) some up occurs is =
            let among = (enough (m ∷ ms) up occurs (subst (Counts old) is (counts-old e counts))).0 in
            by ms up occurs is among
          where
            by : (ms : List ℕ) → Ascend (set ++ m ∷ ms) → 0 < support r.records (set ++ m ∷ ms) → e
                ≡ rank_entry r (set ++ m ∷ ms) → Contains ranks m → IsUpto r set ranks chosen i e
            by [] up occurs is among = inl (record { rank = m; among = among; ascending = up; occurs = occurs; is = is })
            by (n ∷ ns) up occurs is among =
                let same : set ++ m ∷ n ∷ ns ≡ (set ++ m ∷ []) ++ n ∷ ns = sym (append_assoc set (m ∷ []) (n ∷ ns)) in
                below e m counts among (record {
                  more = n ∷ ns;
                  some = omega arith;
                  ascending = subst Ascend same up;
                  occurs = subst (λ s. 0 < support r.records s) same occurs;
                  is = is ∙ ap (rank_entry r) same;
                })

-- ---- a whole search

-- what all sets of ranks make is what all itemsets make
pub mined-patterns : {T E : Type 0} (r : Ranking) → IsRanking r → (old new : State) (result : Result T E) → Searches old (Grows r []) new result
    → Mines old (item_patterns (unranked r)) new result
mined-patterns r rules old new result = mined (Grows r []) old new (item_patterns (unranked r)) result (λ e. (
  λ g. Contains-from_member e (item_patterns (unranked r)) (pattern-grows r rules e g),
  λ c. grows-pattern r rules e (Member-from_contains e (item_patterns (unranked r)) c),
))

pub barren-reached : (s : State) (r : Ranking) (set : List ℕ) → IsInOrder s → IsBarren s r set → Reached s (Grows r set) s
barren-reached s r set ordered barren = reached-none {P = Grows r set} s ordered (λ e grows pass high. barren e grows (record { pass = pass; high = high }))
