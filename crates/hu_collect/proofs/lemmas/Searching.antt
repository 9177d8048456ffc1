-- What a search makes of a collector's state, step by step.
use Rattle.std.proofs.Common.{◌≡◌, true, ◌<ℤ◌, ◌≤ℤ◌, List, [], ◌∷◌, ◌++◌, sym, ap, ◌∙◌, subst, inl, inr, ◌⊎◌, ◌↔◌, arith, Contains, Result, Ok, Err, IsErr}
use Rattle.std.proofs.Common.{IsOk, OnErr}
use Rattle.std.proofs.lemmas.Int.{ints}
use Rattle.std.proofs.lemmas.List.Elements.{All-contains_itself, All-weaker}
use Rattle.hu_kind.specs.declared.entry.Entry.{Entry}
use Rattle.hu_kind.proofs.lemmas.Members.{Member-append_left, Member-append_right, Member-append_cases, Member-from_contains, Contains-from_member}
use Rattle.hu_collect.specs.Rule.{Rule, passes, IsKept}
use Rattle.hu_collect.specs.State.{State, offered, floor_in, IsInOrder, OfferedSome, Reached, ReachedSome, Searches, Mines}
use Rattle.hu_collect.proofs.lemmas.Made.{makes_in_turn, kept-made, makes_by_members, makes_by_reaching, leaves_below_floor, keeps_floor}

-- a state of a rule and a content
abbrev pub state_of : Rule → List Entry → State
state_of rule content = record { rule = rule; content = content }

-- states are equal where their rules and contents are
pub state-equal : {a b : State} → a.rule ≡ b.rule → a.content ≡ b.content → a ≡ b
state-equal rules contents = λ j. record { rule = rules j; content = contents j }

pub kept-in_order : (s : State) → IsInOrder s → IsKept s.rule s.content
kept-in_order s h = ap (λ t. t.content) h

-- ---- offers

-- offers of one list and then of another are offers of both
pub offered-then : (s : State) (first second : List Entry) → offered (offered s first) second ≡ offered s (first ++ second)
offered-then s first second = ap (state_of s.rule) (makes_in_turn s.rule s.content first second)

pub offered-in_order : (s : State) (entries : List Entry) → IsInOrder (offered s entries)
offered-in_order s entries = ap (state_of s.rule) (kept-made s.rule s.content entries)

-- lists with the same members make the same state
pub offered-members : (s : State) (xs ys : List Entry) → ((x : Entry) → Contains xs x ↔ Contains ys x) → offered s xs ≡ offered s ys
offered-members s xs ys same = ap (state_of s.rule) (makes_by_members s.rule s.content xs ys same)

-- and so do those with the same members among what passes and reaches the floor
pub offered-reaching : (s : State) (xs ys : List Entry) → IsInOrder s
    → ((x : Entry) → passes s.rule x ≡ true → floor_in s ≤ℤ x.utility → Contains xs x ↔ Contains ys x) → offered s xs ≡ offered s ys
offered-reaching s xs ys ordered same = ap (state_of s.rule) (makes_by_reaching s.rule s.content xs ys (kept-in_order s ordered) same)

-- an entry below the floor leaves a state
pub offered-low : (s : State) (entry : Entry) → IsInOrder s → entry.utility <ℤ floor_in s → offered s (entry ∷ []) ≡ s
offered-low s entry ordered low = ap (state_of s.rule) (leaves_below_floor s.rule s.content entry (kept-in_order s ordered) low)

-- the floor never falls
pub floor-offered : (s : State) (entries : List Entry) → IsInOrder s → floor_in s ≤ℤ floor_in (offered s entries)
floor-offered s entries ordered = keeps_floor s.rule s.content entries (kept-in_order s ordered)

-- ---- members of lists of entries

pub empty-contains : {A : Type 0} (x : A) → Contains [] x → ⊥
empty-contains x c = Member-from_contains x [] c

both_cases : {P Q R : Entry → Type 0} (first second : List Entry) → ((e : Entry) → P e → R e) → ((e : Entry) → Q e → R e)
    → ((e : Entry) → Contains first e → P e) → ((e : Entry) → Contains second e → Q e) → (e : Entry) → Contains (first ++ second) e → R e
both_cases first second p q each_first each_second e c = elim (Member-append_cases e first second (Member-from_contains e (first ++ second) c)) [
  | inl m ↦ p e (each_first e (Contains-from_member e first m))
  | inr m ↦ q e (each_second e (Contains-from_member e second m))
]

contains_left : (e : Entry) (first second : List Entry) → Contains first e → Contains (first ++ second) e
contains_left e first second c = Contains-from_member e (first ++ second) (Member-append_left e first second (Member-from_contains e first c))

contains_right : (e : Entry) (first second : List Entry) → Contains second e → Contains (first ++ second) e
contains_right e first second c = Contains-from_member e (first ++ second) (Member-append_right e first second (Member-from_contains e second c))

-- ---- what a search leaves

pub reached-rule : {P : Entry → Type 0} {old new : State} → Reached old P new → new.rule ≡ old.rule
reached-rule r = ap (λ s. s.rule) r.is

pub reached-in_order : {P : Entry → Type 0} {old new : State} → Reached old P new → IsInOrder new
reached-in_order {old = old} r = subst IsInOrder (sym r.is) (offered-in_order old r.entries)

pub reached-floor : {P : Entry → Type 0} {old new : State} → IsInOrder old → Reached old P new → floor_in old ≤ℤ floor_in new
reached-floor {old = old} ordered r = subst (λ s. floor_in old ≤ℤ floor_in s) (sym r.is) (floor-offered old r.entries ordered)

-- what doesn't pass by an old rule doesn't by the new one
pub passes-old : {P : Entry → Type 0} {old new : State} → Reached old P new → (e : Entry) → passes new.rule e ≡ true → passes old.rule e ≡ true
passes-old r e pass = subst (λ rule. passes rule e ≡ true) (reached-rule r) pass

pub passes-new : {P : Entry → Type 0} {old new : State} → Reached old P new → (e : Entry) → passes old.rule e ≡ true → passes new.rule e ≡ true
passes-new r e pass = subst (λ rule. passes rule e ≡ true) (sym (reached-rule r)) pass

-- ---- steps

-- nothing was offered: nothing that has the property counts
pub reached-none : {P : Entry → Type 0} (s : State) → IsInOrder s → ((e : Entry) → P e → passes s.rule e ≡ true → floor_in s ≤ℤ e.utility → ⊥) → Reached s P s
reached-none s ordered none = record {
  entries = [];
  each = λ e c. absurd (empty-contains e c);
  enough = λ e p pass high. absurd (none e p pass high);
  is = sym ordered;
}

-- an entry was offered
pub reached-one : (old : State) (entry : Entry) (new : State) → new ≡ offered old (entry ∷ []) → Reached old (λ e. entry ≡ e) new
reached-one old entry new is = record {
  entries = entry ∷ [];
  each = λ e c. one e (Member-from_contains e (entry ∷ []) c);
  enough = λ e same pass high. Contains-from_member e (entry ∷ []) (inl same);
  is = is;
}
  where
    one : (e : Entry) → (entry ≡ e) ⊎ ⊥ → entry ≡ e
    one e (inl same) = same
    one e (inr none) = absurd none

-- one step after another
pub reached-then : {P Q R : Entry → Type 0} {old mid new : State} → IsInOrder old → ((e : Entry) → P e → R e) → ((e : Entry) → Q e → R e)
    → ((e : Entry) → R e → passes old.rule e ≡ true → floor_in new ≤ℤ e.utility → P e ⊎ Q e) → Reached old P mid → Reached mid Q new → Reached old R new
reached-then {old = old} {mid = mid} {new = new} ordered p q cases first second =
    let rises : floor_in mid ≤ℤ floor_in new = reached-floor (reached-in_order first) second in
    record {
      entries = first.entries ++ second.entries;
      each = both_cases first.entries second.entries p q first.each second.each;
      enough = λ e r pass high. elim (cases e r pass high) [
        | inl here ↦ contains_left e first.entries second.entries (first.enough e here pass (omega (arith, ints, rises, high)))
        | inr there ↦ contains_right e first.entries second.entries (second.enough e there (passes-new first e pass) high)
      ];
      is = second.is ∙ ap (λ s. offered s second.entries) first.is ∙ offered-then old first.entries second.entries;
    }

-- two steps in turn find what either finds
pub reached-both : {P Q : Entry → Type 0} {old mid new : State} → IsInOrder old → Reached old P mid → Reached mid Q new → Reached old (λ e. P e ⊎ Q e) new
reached-both {P = P} {Q = Q} ordered first second =
    reached-then {P = P} {Q = Q} {R = λ e. P e ⊎ Q e} ordered (λ e p. inl p) (λ e q. inr q) (λ e r pass high. r) first second

-- another property of the same entries, as far as they count
pub reached-as : {P R : Entry → Type 0} {old new : State} → ((e : Entry) → P e → R e)
    → ((e : Entry) → R e → passes old.rule e ≡ true → floor_in new ≤ℤ e.utility → P e) → Reached old P new → Reached old R new
reached-as p cases first = record {
  entries = first.entries;
  each = λ e c. p e (first.each e c);
  enough = λ e r pass high. first.enough e (cases e r pass high) pass high;
  is = first.is;
}

-- ---- steps that ended for want of memory

pub some-none : {P : Entry → Type 0} (s : State) → IsInOrder s → ReachedSome s P s
some-none s ordered = record { entries = []; each = λ e c. absurd (empty-contains e c); is = sym ordered }

pub some-reached : {P R : Entry → Type 0} {old new : State} → ((e : Entry) → P e → R e) → Reached old P new → ReachedSome old R new
some-reached p first = record { entries = first.entries; each = λ e c. p e (first.each e c); is = first.is }

pub some-as : {P R : Entry → Type 0} {old new : State} → ((e : Entry) → P e → R e) → ReachedSome old P new → ReachedSome old R new
some-as p first = record { entries = first.entries; each = λ e c. p e (first.each e c); is = first.is }

pub some-then : {P Q R : Entry → Type 0} {old mid new : State} → ((e : Entry) → P e → R e) → ((e : Entry) → Q e → R e)
    → Reached old P mid → ReachedSome mid Q new → ReachedSome old R new
some-then {old = old} p q first second = record {
  entries = first.entries ++ second.entries;
  each = both_cases first.entries second.entries p q first.each second.each;
  is = second.is ∙ ap (λ s. offered s second.entries) first.is ∙ offered-then old first.entries second.entries;
}

-- ---- results

-- a step that ended for want of memory
pub stopped : {T E : Type 0} {P : Entry → Type 0} {old new : State} (result : Result T E) → IsErr result → ReachedSome old P new → Searches old P new result
stopped (Ok x) none some = cc
stopped (Err e) none some = some

-- a step that ended well
pub finished : {T E : Type 0} {P : Entry → Type 0} {old new : State} (result : Result T E) → IsOk result → Reached old P new → Searches old P new result
finished (Ok x) fine all = all
finished (Err e) fine all = cc

-- ---- a whole search

-- what leaves out only what doesn't count makes the same as all
pub reached-all : {P : Entry → Type 0} {old new : State} (all : List Entry) → Reached old P new → ((e : Entry) → P e ↔ Contains all e) → new ≡ offered old all
reached-all {old = old} {new = new} all some same =
    let again : offered new all ≡ offered new some.entries = offered-reaching new all some.entries (reached-in_order some) (λ e pass high. (
      λ c. some.enough e ((same e).1 c) (passes-old some e pass) high,
      λ c. (same e).0 (some.each e c),
    )) in
    let both : (more : List Entry) → offered new more ≡ offered old (some.entries ++ more) =
    λ more. ap (λ s. offered s more) some.is ∙ offered-then old some.entries more in
    let twice : offered new some.entries ≡ new =
    both some.entries ∙ offered-members old (some.entries ++ some.entries) some.entries (λ e. (
      λ c. both_cases {P = Contains some.entries} {Q = Contains some.entries} {R = Contains some.entries} some.entries
          some.entries (λ x d. d) (λ x d. d) (λ x d. d) (λ x d. d) e c,
      λ c. contains_left e some.entries some.entries c,
    )) ∙ sym some.is in
    let whole : offered new all ≡ offered old all =
    both all ∙ offered-members old (some.entries ++ all) all (λ e. (
      λ c. both_cases {P = Contains some.entries} {Q = Contains all} {R = Contains all} some.entries all
          (λ x d. (same x).0 (some.each x d)) (λ x d. d) (λ x d. d) (λ x d. d) e c,
      λ c. contains_right e some.entries all c,
    )) in
    sym twice ∙ sym again ∙ whole

pub some-all : {P : Entry → Type 0} {old new : State} (all : List Entry) → ReachedSome old P new
    → ((e : Entry) → P e → Contains all e) → OfferedSome old all new
some-all all some same = (
  some.entries,
  All-weaker (λ e. Contains some.entries e) (λ e. Contains all e) (λ e c. same e (some.each e c)) some.entries (All-contains_itself some.entries),
  some.is,
)

-- a search for all that has a property is one for the entries that have it
pub mined : {T E : Type 0} (P : Entry → Type 0) (old new : State) (all : List Entry) (result : Result T E) → ((e : Entry) → P e ↔ Contains all e)
    → Searches old P new result → Mines old all new result
mined P old new all (Ok x) same some = reached-all {P = P} all some same
mined P old new all (Err e) same some = some-all {P = P} all some (λ x. (same x).0)

-- a claim of failure holds where its fact does
pub on_err : {T E : Type 0} (result : Result T E) (P : Type 0) → P → OnErr result P
on_err (Ok x) P p = tt
on_err (Err e) P p = p
