-- The laws of what collectors make, for proofs above to cite.
use Rattle.std.proofs.Common.{◌≡◌, ◌↔◌, ◌<ℤ◌, ◌≤ℤ◌, ℤ, Bool, true, false, not, cond, ◌&&◌, ◌⊎◌, inl, inr, List, [], ◌∷◌}
use Rattle.std.proofs.Common.{◌++◌, refl, sym, ap, subst, ◌∙◌, arith, append-nil, append_assoc}
use Rattle.std.specs.Prelude.{int_le, T}
use Rattle.std.specs.Int.Signed.{≤ℤ_refl}
use Rattle.std.specs.List.{All, AllByRecursion, Contains, filter}
use Rattle.std.specs.List.Sorted.{IsStrictlySortedBy}
use Rattle.std.specs.BTreeSet.{insert_key}
use Rattle.std.proofs.lemmas.Int.{ints, by_lt_z}
use Rattle.std.proofs.lemmas.Float.{T_from_true}
use Rattle.std.proofs.lemmas.List.Elements.{filter-append, filter_passes, All-filter, All-weaker, All-contains}
use Rattle.std.proofs.lemmas.List.Elements.{All-contains_itself, recursion_from_All, Contains-append_left}
use Rattle.std.proofs.lemmas.List.Elements.{Contains-append_right, Contains-append_cases}
use Rattle.hu_kind.specs.declared.entry.Entry.{Entry}
use Rattle.hu_kind.specs.Order.{entry_cmp, ranking, cut}
use Rattle.hu_collect.specs.Rule.{Rule, passes, made, IsKept, floor_of}
use Rattle.hu_collect.specs.Laws.{MakesInTurn, MakesByMembers, MakesByPassing, MakesByReaching, LeavesBelowFloor, KeepsFloor}
use Rattle.hu_kind.proofs.lemmas.RankingLemmas.{ranking-append_comm, ranking-same_members, ranking-sorted, first_or_later}
use Rattle.hu_collect.proofs.lemmas.Cutting.{AllByRecursion-weaker, sorted-ranking, sorted-cut, cut-cut, cut-ranking-in_turn}
use Rattle.hu_kind.proofs.lemmas.EntryOrder.{entry_order}
use Rattle.hu_collect.proofs.lemmas.Floor.{floor_by-insert, cut-insert_below}

-- making of one list and then of another is making of both
pub makes_in_turn : MakesInTurn
makes_in_turn rule content first second =
    let pass : List Entry → List Entry = filter (passes rule) in
    let joined : (content ++ pass first) ++ pass second ≡ content ++ pass (first ++ second) = rw (filter-append, append_assoc) refl in
    cut-ranking-in_turn entry_cmp entry_order rule.limit (content ++ pass first) (pass second)
    ∙ ap (λ s. cut rule.limit (ranking entry_cmp s)) joined

-- what is made is kept
pub kept-made : (rule : Rule) (content entries : List Entry) → IsKept rule (made rule content entries)
kept-made rule content entries = makes_in_turn rule content entries [] ∙ ap (made rule content) (append-nil entries)

-- the members that pass
Contains-cons : {A : Type 0} (y : A) (ys : List A) (x : A) → y ≡ x → Contains (y ∷ ys) x
Contains-cons y ys x h = (0, omega arith, h)

Contains-filter_cons : {A : Type 0} (p : A → Bool) (y : A) (ys : List A) (x : A) → p x ≡ true
    → (Contains ys x → Contains (filter p ys) x) → (y ≡ x) ⊎ Contains ys x → Contains (filter p (y ∷ ys)) x
Contains-filter_cons p y ys x e ih (inl at_head) =
    let passed : p y ≡ true = rw at_head e in
    rw passed (Contains-cons y (filter p ys) x at_head)
Contains-filter_cons p y ys x e ih (inr later) =
    elim (p y) as (λ b. Contains (cond b (y ∷ filter p ys) (filter p ys)) x) [
      | true ↦ Contains-append_right (y ∷ []) (filter p ys) x (ih later)
      | false ↦ ih later
    ]

Contains-filter : {A : Type 0} (p : A → Bool) (xs : List A) (x : A) → p x ≡ true → Contains xs x → Contains (filter p xs) x
Contains-filter p [] x e h = absurd (omega (arith, h.1))
Contains-filter p (y ∷ ys) x e h = Contains-filter_cons p y ys x e (Contains-filter p ys x e) (first_or_later y ys x h)

passing-members : (rule : Rule) (xs ys : List Entry) → ((x : Entry) → passes rule x ≡ true → Contains xs x → Contains ys x)
    → (x : Entry) → Contains (filter (passes rule) xs) x → Contains (filter (passes rule) ys) x
passing-members rule xs ys h x k =
    let passed = All-contains (λ z. passes rule z ≡ true) (filter (passes rule) xs) x (filter_passes (passes rule) xs) k in
    let member = All-contains (Contains xs) (filter (passes rule) xs) x (All-filter (passes rule) (Contains xs) xs (All-contains_itself xs)) k in
    Contains-filter (passes rule) ys x passed (h x passed member)

appended-members : (content xs ys : List Entry) → ((x : Entry) → Contains xs x → Contains ys x)
    → (x : Entry) → Contains (content ++ xs) x → Contains (content ++ ys) x
appended-members content xs ys h x k =
    elim (Contains-append_cases content xs x k) [
      | inl old ↦ Contains-append_left content ys x old
      | inr new ↦ Contains-append_right content ys x (h x new)
    ]

-- lists with the same members among those that pass make the same
pub makes_by_passing : MakesByPassing
makes_by_passing rule content xs ys h =
    ap (cut rule.limit)
    (ranking-same_members entry_cmp entry_order (content ++ filter (passes rule) xs) (content ++ filter (passes rule) ys)
    (λ x. (
      appended-members content _ _ (passing-members rule xs ys (λ z p. (h z p).0)) x,
      appended-members content _ _ (passing-members rule ys xs (λ z p. (h z p).1)) x,
    )))

-- and so do those with the same members
pub makes_by_members : MakesByMembers
makes_by_members rule content xs ys h = makes_by_passing rule content xs ys (λ x passed. h x)

-- a content that is kept is in order and within the limit
pub sorted-kept : (rule : Rule) (content : List Entry) → IsKept rule content → IsStrictlySortedBy entry_cmp content
sorted-kept rule content kept =
    subst (IsStrictlySortedBy entry_cmp) kept (sorted-cut entry_cmp rule.limit (ranking entry_cmp (content ++ []))
    (sorted-ranking entry_cmp entry_order (content ++ [])))

pub cut-kept : (rule : Rule) (content : List Entry) → IsKept rule content → cut rule.limit content ≡ content
cut-kept rule content kept = ap (cut rule.limit) (sym kept) ∙ cut-cut rule.limit (ranking entry_cmp (content ++ [])) ∙ kept

-- one entry that passes is put in, and another is left out
pub made-passing : (rule : Rule) (content : List Entry) (entry : Entry) → IsKept rule content → passes rule entry ≡ true
    → made rule content (entry ∷ []) ≡ cut rule.limit (insert_key entry_cmp content entry)
made-passing rule content entry kept e =
    rw (e, ranking-append_comm entry_cmp entry_order content (entry ∷ []), ranking-sorted entry_cmp content (sorted-kept rule content kept)) refl

pub made-not_passing : (rule : Rule) (content : List Entry) (entry : Entry) → IsKept rule content → passes rule entry ≡ false
    → made rule content (entry ∷ []) ≡ content
made-not_passing rule content entry kept e = rw e kept

and-right : (a b : Bool) → (a && b) ≡ true → b ≡ true
and-right true b h = h
and-right false b h = cc

pub start-passes : (rule : Rule) (entry : Entry) → passes rule entry ≡ true → rule.start ≤ℤ entry.utility
start-passes rule entry h = record { le = T_from_true _ (and-right (rule.wants entry.key) (int_le rule.start entry.utility) h) }

pub by_passing : {P : Type 0} (rule : Rule) (entry : Entry) → (passes rule entry ≡ true → P) → (passes rule entry ≡ false → P) → P
by_passing {P} rule entry f g = elim (passes rule entry) as (λ b. passes rule entry ≡ b → P) [ true ↦ f | false ↦ g ] refl

-- an entry below the floor leaves the content
pub leaves_below_floor : LeavesBelowFloor
leaves_below_floor rule content entry kept below =
    by_passing rule entry
    (λ e. made-passing rule content entry kept e
    ∙ cut-insert_below rule.limit rule.start content entry (sorted-kept rule content kept) (cut-kept rule content kept) (start-passes rule entry e) below)
    (made-not_passing rule content entry kept)

-- entries each of which leaves the content leave it together
made-idle : (rule : Rule) (content entries : List Entry) → IsKept rule content
    → AllByRecursion (λ entry. made rule content (entry ∷ []) ≡ content) entries → made rule content entries ≡ content
made-idle rule content [] kept h = kept
made-idle rule content (entry ∷ entries) kept h =
    sym (makes_in_turn rule content (entry ∷ []) entries) ∙ rw (h.0) (made-idle rule content entries kept h.1)

-- entries that are all below the floor leave the content
pub made-below_floor : (rule : Rule) (content entries : List Entry) → IsKept rule content
    → All (λ entry. entry.utility <ℤ floor_of rule content) entries → made rule content entries ≡ content
made-below_floor rule content entries kept h =
    made-idle rule content entries kept
    (AllByRecursion-weaker _ _ (λ entry. leaves_below_floor rule content entry kept) entries (recursion_from_All _ entries h))

-- what reaches a floor, and what doesn't
abbrev reaches : ℤ → Entry → Bool
reaches floor entry = int_le floor entry.utility

abbrev falls_short : ℤ → Entry → Bool
falls_short floor entry = not (int_le floor entry.utility)

not_both : (b : Bool) → T b → not b ≡ true → ⊥
not_both true t h = cc
not_both false t h = absurd t

short-below : (floor : ℤ) (entry : Entry) → falls_short floor entry ≡ true → entry.utility <ℤ floor
short-below floor entry h = by_lt_z entry.utility floor (λ below. below) (λ reached. absurd (not_both (int_le floor entry.utility) reached.le h))

-- the members of a filtered list
from_filter : (p : Entry → Bool) (xs : List Entry) (x : Entry) → Contains (filter p xs) x → Contains xs x × (p x ≡ true)
from_filter p xs x k = (
  All-contains (Contains xs) (filter p xs) x (All-filter p (Contains xs) xs (All-contains_itself xs)) k,
  All-contains (λ z. p z ≡ true) (filter p xs) x (filter_passes p xs) k,
)

parted-members : (floor : ℤ) (xs : List Entry) (x : Entry) → Contains xs x ↔ Contains (filter (falls_short floor) xs ++ filter (reaches floor) xs) x
parted-members floor xs x = (there, back)
  where
    there : Contains xs x → Contains (filter (falls_short floor) xs ++ filter (reaches floor) xs) x
    there k = elim (reaches floor x) as (λ b. reaches floor x ≡ b → Contains (filter (falls_short floor) xs ++ filter (reaches floor) xs) x) [
      | true ↦ λ e. Contains-append_right (filter (falls_short floor) xs) (filter (reaches floor) xs) x (Contains-filter (reaches floor) xs x e k)
      | false ↦ λ e. Contains-append_left (filter (falls_short floor) xs) (filter (reaches floor) xs) x (Contains-filter (falls_short floor) xs x (ap not e) k)
    ] refl

    back : Contains (filter (falls_short floor) xs ++ filter (reaches floor) xs) x → Contains xs x
    back k = elim (Contains-append_cases (filter (falls_short floor) xs) (filter (reaches floor) xs) x k) [
      | inl low ↦ (from_filter (falls_short floor) xs x low).0
      | inr high ↦ (from_filter (reaches floor) xs x high).0
    ]

-- of a list only what reaches the floor counts
made-reaching : (rule : Rule) (content xs : List Entry) → IsKept rule content → made rule content xs
    ≡ made rule content (filter (reaches (floor_of rule content)) xs)
made-reaching rule content xs kept =
    let floor = floor_of rule content in
    let low = filter (falls_short floor) xs in
    let high = filter (reaches floor) xs in
    let below : All (λ entry. entry.utility <ℤ floor) low =
    All-weaker _ _ (λ entry short. short-below floor entry short) low (filter_passes (falls_short floor) xs) in
    makes_by_members rule content xs (low ++ high) (parted-members floor xs)
    ∙ sym (makes_in_turn rule content low high)
    ∙ ap (λ c. made rule c high) (made-below_floor rule content low kept below)

-- lists with the same members among those that pass and reach the floor make the same
pub makes_by_reaching : MakesByReaching
makes_by_reaching rule content xs ys kept h =
    made-reaching rule content xs kept ∙ makes_by_passing rule content _ _ same ∙ sym (made-reaching rule content ys kept)
  where
    floor : ℤ
    floor = floor_of rule content

    reached : (x : Entry) → reaches floor x ≡ true → floor ≤ℤ x.utility
    reached x e = record { le = T_from_true _ e }

    same : (x : Entry) → passes rule x ≡ true → Contains (filter (reaches floor) xs) x ↔ Contains (filter (reaches floor) ys) x
    same x passed = (
      λ k. let from = from_filter (reaches floor) xs x k in Contains-filter (reaches floor) ys x from.1 ((h x passed (reached x from.1)).0 from.0),
      λ k. let from = from_filter (reaches floor) ys x k in Contains-filter (reaches floor) xs x from.1 ((h x passed (reached x from.1)).1 from.0),
    )

-- the floor never falls
keeps_floor-one : (rule : Rule) (content : List Entry) (entry : Entry) → IsKept rule content
    → floor_of rule content ≤ℤ floor_of rule (made rule content (entry ∷ []))
keeps_floor-one rule content entry kept =
    by_passing rule entry
    (λ e. rw (made-passing rule content entry kept e) (floor_by-insert rule.limit rule.start content entry
    (sorted-kept rule content kept) (cut-kept rule content kept)))
    (λ e. rw (made-not_passing rule content entry kept e) (≤ℤ_refl (floor_of rule content)))

pub keeps_floor : KeepsFloor
keeps_floor rule content [] kept = rw kept (≤ℤ_refl (floor_of rule content))
keeps_floor rule content (entry ∷ entries) kept =
    let one : floor_of rule content ≤ℤ floor_of rule (made rule content (entry ∷ [])) = keeps_floor-one rule content entry kept in
    let more : floor_of rule (made rule content (entry ∷ [])) ≤ℤ floor_of rule (made rule (made rule content (entry ∷ [])) entries) =
    keeps_floor rule (made rule content (entry ∷ [])) entries (kept-made rule content (entry ∷ [])) in
    rw (← makes_in_turn rule content (entry ∷ []) entries) (omega (arith, ints))
