-- Items that follow in an order, and that name all later ones that stand in some places: what stands after one of them.
use Rattle.std.proofs.Common.{◌≡◌, ℕ, ◌+◌, ◌<◌, Bool, true, false, not, cond, eqb, ◌&&◌, ◌||◌, ℤ, pos, ◌+ℤ◌, Option, None, Some, option_map, List, [], ◌∷◌}
use Rattle.std.proofs.Common.{length, get_or, map, refl, sym, ap, ◌∙◌, subst, inl, inr, arith, drop, ◌⊎◌}
use Rattle.std.specs.Prelude.{is_some}
use Rattle.std.specs.List.{AllByRecursion, list_any}
use Rattle.std.proofs.lemmas.Bool.{cases_eq, eq-eqb, ne_eqb, both_ways, or_left, or_right}
use Rattle.std.proofs.lemmas.List.{drop_more, get_or-map}
use Rattle.hu_kind.specs.First.{first_some}
use Rattle.hu_kind.specs.Record.{has, value_of, positive_part}
use Rattle.hu_kind.proofs.lemmas.FirstLemmas.{first_here, first_skip}
use Rattle.hu_kind.proofs.lemmas.Each.{each-weaker}
use Rattle.hu_kind.proofs.lemmas.Members.{Member}
use Rattle.hu_kind.proofs.lemmas.Occurring.{at_member, by_members}
use Rattle.hu_kind.proofs.lemmas.Tests.{same_bool, any-from_member}
use Rattle.hu_proof.specs.declared.fault.CheckFault.{CheckFault}
use Rattle.hu_proof.specs.declared.token.Token.{Token}
use Rattle.hu_proof.specs.Bounds.{is_among, after, later_gain}
use Rattle.hu_proof.specs.Check.{wrong_bound_of}
use Rattle.hu_proof.specs.Judged.{token_items, missing, missing_fault, bound_fault_at, bound_faults}
use Rattle.hu_proof.specs.Places.{PlaceOf, shares, Apart, Follows, IsRoomy, HasRoom}
use Rattle.hu_proof.specs.Slots.{named_at, shares_at, NamesAll}
use Rattle.hu_proof.proofs.Orders.{member-among, Member-after, Apart-after, not_after_itself, each-follows, Apart-follows}
use Rattle.hu_proof.proofs.PlaceLemmas.{later_size-monotone}
use Rattle.hu_proof.proofs.lemmas.OrderMembers.{among-member}

-- ---- what stands after an item that stands after another

after-after : (x y : ℕ) (later : List ℕ) → Apart later → Member x (after y later) → after x (after y later) ≡ after x later
after-after x y [] apart m = refl
after-after x y (z ∷ zs) apart m = elim (cases_eq y z) [
  | inl e ↦
      let here : eqb y z ≡ true = eq-eqb y z e in
      let inside : Member x zs = subst (λ b. Member x (cond b zs (after y zs))) here m in
      let other : eqb x z ≡ false = ne_eqb x z (λ same. apart.0 (subst (λ w. Member w zs) same inside)) in
      simp (here, other)
  | inr ne ↦
      let there : eqb y z ≡ false = ne_eqb y z ne in
      let inside : Member x (after y zs) = subst (λ b. Member x (cond b zs (after y zs))) there m in
      let other : eqb x z ≡ false = ne_eqb x z (λ same. apart.0 (subst (λ w. Member w zs) same (Member-after x y zs inside))) in
      simp (there, other) (after-after x y zs apart.1 inside)
]

-- what follows after an item stands after it
Member-followed : (x y : ℕ) (later xs : List ℕ) → Apart later → Follows later xs → Member x xs → Member y (after x xs) → Member y (after x later)
Member-followed x y later [] apart f m n = absurd m
Member-followed x y later (t ∷ ts) apart f m n = elim (cases_eq x t) [
  | inl e ↦
      let here : eqb x t ≡ true = eq-eqb x t e in
      let inside : Member y ts = subst (λ b. Member y (cond b ts (after x ts))) here n in
      subst (λ w. Member y (after w later)) (sym e) (at_member (λ w. Member w (after t later)) y ts (each-follows (after t later) ts f.1) inside)
  | inr ne ↦
      let there : eqb x t ≡ false = ne_eqb x t ne in
      let inside : Member y (after x ts) = subst (λ b. Member y (cond b ts (after x ts))) there n in
      let within : Member x ts = rest ne m in
      let deep = Member-followed x y (after t later) ts (Apart-after t later apart) f.1 within inside in
      let after' : Member x (after t later) = at_member (λ w. Member w (after t later)) x ts (each-follows (after t later) ts f.1) within in
      subst (Member y) (after-after x t later apart after') deep
]
  where
    rest : (x ≡ t → ⊥) → Member x (t ∷ ts) → Member x ts
    rest out (inl e) = absurd (out (sym e))
    rest out (inr k) = k

-- a named item that stands after one stands after it among the named ones
Member-following : (x y : ℕ) (later xs : List ℕ) → Apart later → Follows later xs → Member x xs → Member y xs → Member y (after x later)
    → Member y (after x xs)
Member-following x y later [] apart f m k n = absurd m
Member-following x y later (t ∷ ts) apart f m k n = elim (cases_eq x t) [
  | inl e ↦
      let here : eqb x t ≡ true = eq-eqb x t e in
      subst (λ b. Member y (cond b ts (after x ts))) (sym here) (rest y (λ same. not_after_itself x later apart
      (subst (λ w. Member w (after x later)) (same ∙ sym e) n)) k)
  | inr ne ↦
      let there : eqb x t ≡ false = ne_eqb x t ne in
      let within : Member x ts = rest x ne m in
      let after' : Member x (after t later) = at_member (λ w. Member w (after t later)) x ts (each-follows (after t later) ts f.1) within in
      let deep : Member y (after x (after t later)) = subst (Member y) (sym (after-after x t later apart after')) n in
      let other : y ≡ t → ⊥ = λ same. not_after_itself t later apart
      (subst (λ w. Member w (after t later)) same (Member-after y x (after t later) deep)) in
      subst (λ b. Member y (cond b ts (after x ts))) (sym there)
      (Member-following x y (after t later) ts (Apart-after t later apart) f.1 within (rest y other k) deep)
]
  where
    rest : (z : ℕ) → (z ≡ t → ⊥) → Member z (t ∷ ts) → Member z ts
    rest z out (inl e) = absurd (out (sym e))
    rest z out (inr k) = k

-- ---- all later items of a place are named

all-named : (later named : List ℕ) (places : List PlaceOf) → missing later named places ≡ None → (x : ℕ) → Member x later
    → list_any (λ (place : PlaceOf). has x place.0) places ≡ true → Member x named
all-named [] named places none x m stands = absurd m
all-named (y ∷ ys) named places none x m stands =
    by (is_among y named) (list_any (λ (place : PlaceOf). has y place.0) places) refl refl none (λ n k. all-named ys named places n x k stands)
  where
    by : (a b : Bool) → is_among y named ≡ a → list_any (λ (place : PlaceOf). has y place.0) places ≡ b
        → cond (not a && b) (Some y) (missing ys named places) ≡ None → (missing ys named places ≡ None → Member x ys → Member x named)
        → Member x named
    by true b ea eb none next = elim m [
      | inl e ↦ subst (λ z. Member z named) e (among-member y named ea)
      | inr k ↦ next none k
    ]
    by false true ea eb none next = cc
    by false false ea eb none next = elim m [
      | inl e ↦
          absurd (both_ways (list_any (λ (place : PlaceOf). has y place.0) places) eb
          (subst (λ z. list_any (λ (place : PlaceOf). has z place.0) places ≡ true) (sym e) stands))
      | inr k ↦ next none k
    ]

pub names-all : (later named : List ℕ) (places : List PlaceOf) → missing later named places ≡ None → NamesAll later named places
names-all later named places none =
    by_members (λ place. (x : ℕ) → Member x later → has x place.0 ≡ true → Member x named) places
    (λ place p x m h. all-named later named places none x m (any-from_member (λ (q : PlaceOf). has x q.0) place places p h))

pub missing-none : (line : ℕ) (later named : List ℕ) (places : List PlaceOf) → missing_fault line later named places ≡ None → missing later named places ≡ None
missing-none line later named places none = by (missing later named places) none
  where
    by : (o : Option ℕ) → option_map (λ item. CheckFault.LeftOut line (record { 0 = item })) o ≡ None → o ≡ None
    by None e = refl
    by (Some x) e = cc

-- ---- the shares are those of the named items

gain-named : (x : ℕ) (later named : List ℕ) (cells : List (ℕ × ℤ)) → Apart later → Follows later named → Member x named
    → ((y : ℕ) → Member y later → has y cells ≡ true → Member y named) → later_gain (after x later) cells ≡ later_gain (after x named) cells
gain-named x later named [] apart f m all = refl
gain-named x later named (cell ∷ cells) apart f m all =
    let ih = gain-named x later named cells apart f m (λ y k h. all y k (or_right (eqb y cell.0) (has y cells) h)) in
    let here : has cell.0 (cell ∷ cells) ≡ true = or_left (eqb cell.0 cell.0) (has cell.0 cells) (eq-eqb cell.0 cell.0 refl) in
    let same : is_among cell.0 (after x later) ≡ is_among cell.0 (after x named) =
    same_bool (is_among cell.0 (after x later)) (is_among cell.0 (after x named))
    (λ h. let k = among-member cell.0 (after x later) h in member-among cell.0 (after x named)
    (Member-following x cell.0 later named apart f m (all cell.0 (Member-after cell.0 x later k) here) k))
    (λ h. member-among cell.0 (after x later) (Member-followed x cell.0 later named apart f m (among-member cell.0 (after x named) h))) in
    rw (same, ih) refl

shares-named : (x : ℕ) (later named : List ℕ) (places : List PlaceOf) → Apart later → Follows later named → Member x named
    → NamesAll later named places → shares x (after x later) places ≡ shares x (after x named) places
shares-named x later named [] apart f m all = refl
shares-named x later named (place ∷ places) apart f m all =
    let ih = shares-named x later named places apart f m all.1 in
    let gain = gain-named x later named place.0 apart f m all.0 in
    (λ j. cond (has x place.0) (positive_part ((place.1 +ℤ value_of x place.0) +ℤ gain j)) (pos 0) +ℤ ih j)

pub bounds-named : (line : ℕ) (later : List ℕ) (places : List PlaceOf) (tokens : List Token) → Apart later → Follows later (token_items tokens)
    → NamesAll later (token_items tokens) places → bound_faults line later places tokens ≡ bound_faults line (token_items tokens) places tokens
bounds-named line later places tokens apart f all = each tokens (by_members (λ x. Member x (token_items tokens)) (token_items tokens) (λ x m. m))
  where
    step : (o : Option CheckFault) (os qs : List (Option CheckFault)) → first_some os ≡ first_some qs → first_some (o ∷ os) ≡ first_some (o ∷ qs)
    step None os qs e = e
    step (Some fault) os qs e = refl

    each : (ts : List Token) → AllByRecursion (λ x. Member x (token_items tokens)) (token_items ts)
        → first_some (map (bound_fault_at line later places) ts) ≡ first_some (map (bound_fault_at line (token_items tokens) places) ts)
    each [] within = refl
    each (t ∷ ts) within =
        let ih = each ts within.1 in
        let same = shares-named t.item.0 later (token_items tokens) places apart f within.0 all in
        (λ j. first_some (wrong_bound_of line t.item t.bound (same j) ∷ map (bound_fault_at line later places) ts))
        ∙ step (bound_fault_at line (token_items tokens) places t) (map (bound_fault_at line later places) ts)
        (map (bound_fault_at line (token_items tokens) places) ts) ih

-- ---- the named items have room

pub HasRoom-named : (later named : List ℕ) (places : List PlaceOf) → HasRoom later places → Follows later named → HasRoom named places
HasRoom-named later named places room f = record {
  apart = Apart-follows later named room.apart f;
  each = each-weaker (IsRoomy later) (IsRoomy named) places
      (λ place roomy. let less = later_size-monotone named later place.0
      (λ x m. at_member (λ y. Member y later) x named (each-follows later named f) m) in omega (arith, roomy, less)) room.each;
  rises = room.rises;
  sum = room.sum;
}

-- ---- the fault of one token's bound

pub fault-slot : (line : ℕ) (named : List ℕ) (places : List PlaceOf) (tokens : List Token) (slot : ℕ) (d : Token) (summed : ℤ)
    → named ≡ token_items tokens → slot < length tokens → summed ≡ shares_at named places slot
    → bound_faults line named places (drop slot tokens) ≡ first_some
    (wrong_bound_of line (get_or tokens slot d).item (get_or tokens slot d).bound summed ∷ map (bound_fault_at line named places) (drop (slot + 1) tokens))
fault-slot line named places tokens slot d summed items within is =
    let token = get_or tokens slot d in
    let item : named_at named slot ≡ token.item.0 = ap (λ xs. named_at xs slot) items ∙ get_or-map (λ (t : Token). t.item.0) tokens slot d 0 within in
    let same : shares token.item.0 (after token.item.0 named) places ≡ summed =
    sym (is ∙ ap (λ x. shares x (after x named) places) item) in
    ap (bound_faults line named places) (drop_more tokens slot d within)
    ∙ ap (λ sum. first_some (wrong_bound_of line token.item token.bound sum ∷ map (bound_fault_at line named places) (drop (slot + 1) tokens))) same

pub judged-here : (e : CheckFault) (whole w : Option CheckFault) (rest : List (Option CheckFault)) → whole ≡ first_some (w ∷ rest)
    → (e ≡ CheckFault.NoMemory) ⊎ (w ≡ Some e) → (e ≡ CheckFault.NoMemory) ⊎ (whole ≡ Some e)
judged-here e whole w rest is (inl memory) = inl memory
judged-here e whole w rest is (inr fault) = inr (is ∙ first_here w rest e fault)

-- ---- the faults of a line's tokens by the named items

pub bounds-same : (line : ℕ) (later named : List ℕ) (places : List PlaceOf) (tokens : List Token) → named ≡ token_items tokens → Apart later
    → Follows later (token_items tokens) → missing_fault line later named places ≡ None
    → bound_faults line later places tokens ≡ bound_faults line named places tokens
bounds-same line later named places tokens items apart f none =
    bounds-named line later places tokens apart f
    (subst (λ xs. NamesAll later xs places) items (names-all later named places (missing-none line later named places none)))
    ∙ ap (λ xs. bound_faults line xs places tokens) (sym items)

pub judged-second : (e : CheckFault) (a b c : Option CheckFault) → a ≡ None → (e ≡ CheckFault.NoMemory) ⊎ (b ≡ Some e)
    → (e ≡ CheckFault.NoMemory) ⊎ (first_some (a ∷ b ∷ c ∷ []) ≡ Some e)
judged-second e a b c none (inl memory) = inl memory
judged-second e a b c none (inr fault) = inr (first_skip a (b ∷ c ∷ []) none ∙ first_here b (c ∷ []) e fault)

-- no token's bound has a fault where none states one
pub bounds-none : (line : ℕ) (named : List ℕ) (places : List PlaceOf) (tokens : List Token) → list_any (λ token. is_some token.bound) tokens ≡ false
    → bound_faults line named places tokens ≡ None
bounds-none line named places [] none = refl
bounds-none line named places (token ∷ tokens) none = by token.bound none (bounds-none line named places tokens)
  where
    by : (b : Option ℤ) → (is_some b || list_any (λ t. is_some t.bound) tokens) ≡ false
        → (list_any (λ t. is_some t.bound) tokens ≡ false → bound_faults line named places tokens ≡ None)
        → first_some (wrong_bound_of line token.item b (shares token.item.0 (after token.item.0 named) places)
        ∷ map (bound_fault_at line named places) tokens) ≡ None
    by (Some value) none rest = cc
    by None none rest = rest none
