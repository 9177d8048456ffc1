-- The best utility of a sequence is the greatest over its occurrences.
use Rattle.std.proofs.Common.{◌≡◌, ℕ, zero, suc, ◌<◌, nat_lt, Bool, true, false, cond, ◌&&◌, ℤ, pos, ◌+ℤ◌, ◌≤ℤ◌, Option, None, Some, is_some, option_map, List}
use Rattle.std.proofs.Common.{[], ◌∷◌, map, length, get_or, refl, sym, ap, ◌∙◌, subst, ◌⊎◌, inl, inr, arith}
use Rattle.std.specs.Int.{int_max}
use Rattle.std.specs.List.{list_all}
use Rattle.std.proofs.lemmas.Bool.{and_parts, and_from, lt-ltb, ltb-true}
use Rattle.std.proofs.lemmas.Int.{ints, clamps, by_lt_z}
use Rattle.hu_kind.specs.Record.{holds, values_of}
use Rattle.hu_kind.specs.Sequence.{better, best_utility}
use Rattle.hu_kind.proofs.lemmas.Tests.{same_bool}
use Rattle.hu_answer.specs.Occurrences.{is_ascending, are_held_at, is_occurrence, earned_at}
use Rattle.hu_answer.specs.Laws.{HasBestWhereItOccurs, BestIsReached, NoneEarnsMore}

-- ---- places one further on, in a record with one more element at its front

abbrev further : List ℕ → List ℕ
further places = map (λ k. suc k) places

less-further : (a b : ℕ) → nat_lt (suc a) (suc b) ≡ nat_lt a b
less-further a b =
    same_bool (nat_lt (suc a) (suc b)) (nat_lt a b)
    (λ h. let less : suc a < suc b = ltb-true (suc a) (suc b) h in lt-ltb a b (omega arith))
    (λ h. let less : a < b = ltb-true a b h in lt-ltb (suc a) (suc b) (omega arith))

above-further : (k : ℕ) (ks : List ℕ) → list_all (λ j. nat_lt (suc k) j) (further ks) ≡ list_all (λ j. nat_lt k j) ks
above-further k [] = refl
above-further k (j ∷ js) = let head = less-further k j in let tail = above-further k js in rw (head, tail) refl

above-zero : (ks : List ℕ) → list_all (λ j. nat_lt 0 j) (further ks) ≡ true
above-zero [] = refl
above-zero (k ∷ ks) = and_from (nat_lt 0 (suc k)) (list_all (λ j. nat_lt 0 j) (further ks)) (lt-ltb 0 (suc k) (omega arith)) (above-zero ks)

ascending-further : (ks : List ℕ) → is_ascending (further ks) ≡ is_ascending ks
ascending-further [] = refl
ascending-further (k ∷ ks) = let head = above-further k ks in let tail = ascending-further ks in rw (head, tail) refl

held-further : (pattern : List (List ℕ)) (e : List (ℕ × ℤ)) (es : List (List (ℕ × ℤ))) (ks : List ℕ)
    → are_held_at pattern (e ∷ es) (further ks) ≡ are_held_at pattern es ks
held-further [] e es [] = refl
held-further [] e es (k ∷ ks) = refl
held-further (p ∷ ps) e es [] = refl
held-further (p ∷ ps) e es (k ∷ ks) = let head = less-further k (length es) in let tail = held-further ps e es ks in rw (head, tail) refl

earned-further : (pattern : List (List ℕ)) (e : List (ℕ × ℤ)) (es : List (List (ℕ × ℤ))) (ks : List ℕ)
    → earned_at pattern (e ∷ es) (further ks) ≡ earned_at pattern es ks
earned-further [] e es ks = refl
earned-further (p ∷ ps) e es [] = refl
earned-further (p ∷ ps) e es (k ∷ ks) = ap (λ s. values_of p (get_or es k []) +ℤ s) (earned-further ps e es ks)

-- places above another are one further on than some
nearer : (x : ℕ) (ks : List ℕ) → list_all (λ j. nat_lt x j) ks ≡ true → (js : List ℕ) × (further js ≡ ks)
nearer x [] h = ([], refl)
nearer x (zero ∷ ks) h = let below : x < 0 = ltb-true x 0 (and_parts (nat_lt x 0) (list_all (λ j. nat_lt x j) ks) h).0 in absurd (omega arith)
nearer x (suc k ∷ ks) h =
    let rest = nearer x ks (and_parts (nat_lt x (suc k)) (list_all (λ j. nat_lt x j) ks) h).1 in
    (k ∷ rest.0, ap (λ s. suc k ∷ s) rest.1)

-- ---- the best utility is that of an occurrence

no_best : {P : Type 0} (u : ℤ) → None ≡ Some u → P
no_best u h = absurd (let no : false ≡ true = ap is_some h in cc)

better-cases : (a b : Option ℤ) (u : ℤ) → better a b ≡ Some u → (a ≡ Some u) ⊎ (b ≡ Some u)
better-cases None b u h = inr h
better-cases (Some x) None u h = inl h
better-cases (Some x) (Some y) u h =
    by_lt_z x y
    (λ less. let up : int_max x y ≡ y = omega (arith, ints, clamps) in inr (ap (λ z. Some z) (sym up) ∙ h))
    (λ most. let up : int_max x y ≡ x = omega (arith, ints, clamps) in inl (ap (λ z. Some z) (sym up) ∙ h))

mapped : (f : ℤ → ℤ) (a : Option ℤ) (u : ℤ) → option_map f a ≡ Some u → (w : ℤ) × (a ≡ Some w) × (Some (f w) ≡ Some u)
mapped f None u h = no_best u h
mapped f (Some w) u h = (w, refl, h)

first-held : (b : Bool) (a : Option ℤ) (u : ℤ) → cond b a None ≡ Some u → (b ≡ true) × (a ≡ Some u)
first-held true a u h = (refl, h)
first-held false a u h = no_best u h

abbrev Reached : List (List ℕ) → List (List (ℕ × ℤ)) → ℤ → Type 0
Reached pattern elements u = (places : List ℕ) × (is_occurrence pattern elements places ≡ true) × (earned_at pattern elements places ≡ u)

-- what a sequence earns with its first itemset in the first element
abbrev pub first_utility : List ℕ → List (List ℕ) → List (ℕ × ℤ) → List (List (ℕ × ℤ)) → Option ℤ
first_utility p ps e es = cond (holds p e) (option_map (λ u. values_of p e +ℤ u) (best_utility ps es)) None

some-same : (x y : ℤ) → Some x ≡ Some y → x ≡ y
some-same x y h = cc

reached-later : (pattern : List (List ℕ)) (e : List (ℕ × ℤ)) (es : List (List (ℕ × ℤ))) (u : ℤ) → Reached pattern es u → Reached pattern (e ∷ es) u
reached-later pattern e es u r =
    let parts = and_parts (is_ascending r.0) (are_held_at pattern es r.0) r.1 in (
      further r.0,
      and_from (is_ascending (further r.0)) (are_held_at pattern (e ∷ es) (further r.0))
          (ascending-further r.0 ∙ parts.0)
          (held-further pattern e es r.0 ∙ parts.1),
      earned-further pattern e es r.0 ∙ r.2,
    )

reached-first : (p : List ℕ) (ps : List (List ℕ)) (e : List (ℕ × ℤ)) (es : List (List (ℕ × ℤ))) (w : ℤ) → holds p e ≡ true → Reached ps es w
    → Reached (p ∷ ps) (e ∷ es) (values_of p e +ℤ w)
unfolding reached-later
reached-first p ps e es w h r =
    let later = reached-later ps e es w r in
    let parts = and_parts (is_ascending (further r.0)) (are_held_at ps (e ∷ es) (further r.0)) later.1 in
    let here = and_from (nat_lt 0 (length (e ∷ es))) (holds p e) (lt-ltb 0 (length (e ∷ es)) (omega arith)) h in (
      0 ∷ further r.0,
      and_from (is_ascending (0 ∷ further r.0)) (are_held_at (p ∷ ps) (e ∷ es) (0 ∷ further r.0))
          (and_from (list_all (λ j. nat_lt 0 j) (further r.0)) (is_ascending (further r.0)) (above-zero r.0) parts.0)
          (and_from (nat_lt 0 (length (e ∷ es)) && holds p e) (are_held_at ps (e ∷ es) (further r.0)) here parts.1),
      ap (λ s. values_of p e +ℤ s) later.2,
    )

pub best_is_reached : BestIsReached
best_is_reached [] elements best h = ([], refl, some-same (pos 0) best h)
best_is_reached (p ∷ ps) [] best h = no_best best h
best_is_reached (p ∷ ps) (e ∷ es) best h = elim (better-cases (first_utility p ps e es) (best_utility (p ∷ ps) es) best h) [
  | inl first ↦
      let held = first-held (holds p e) (option_map (λ u. values_of p e +ℤ u) (best_utility ps es)) best first in
      let rest = mapped (λ u. values_of p e +ℤ u) (best_utility ps es) best held.1 in
      subst (Reached (p ∷ ps) (e ∷ es)) (some-same (values_of p e +ℤ rest.0) best rest.2)
      (reached-first p ps e es rest.0 held.0 (best_is_reached ps es rest.0 rest.1))
  | inr later ↦ reached-later (p ∷ ps) e es best (best_is_reached (p ∷ ps) es best later)
]

-- ---- and no occurrence earns more

-- there is a utility, and it is no less than another
abbrev IsAtLeast : Option ℤ → ℤ → Type 0
IsAtLeast None u = ⊥
IsAtLeast (Some v) u = u ≤ℤ v

at_least-left : (a b : Option ℤ) (u : ℤ) → IsAtLeast a u → IsAtLeast (better a b) u
at_least-left None b u h = absurd h
at_least-left (Some x) None u h = h
at_least-left (Some x) (Some y) u h = omega (arith, ints, clamps)

at_least-right : (a b : Option ℤ) (u : ℤ) → IsAtLeast b u → IsAtLeast (better a b) u
at_least-right None b u h = h
at_least-right (Some x) None u h = absurd h
at_least-right (Some x) (Some y) u h = omega (arith, ints, clamps)

at_least-first : (b : Bool) (a : Option ℤ) (value u : ℤ) → b ≡ true → IsAtLeast a u → IsAtLeast (cond b (option_map (λ w. value +ℤ w) a) None) (value +ℤ u)
at_least-first true None value u e h = absurd h
at_least-first true (Some w) value u e h = omega (arith, ints)
at_least-first false a value u e h = absurd (let no : false ≡ true = e in cc)

-- an occurrence at places one further on
occurrence-nearer : (pattern : List (List ℕ)) (e : List (ℕ × ℤ)) (es : List (List (ℕ × ℤ))) (js : List ℕ) → is_ascending (further js) ≡ true
    → are_held_at pattern (e ∷ es) (further js) ≡ true → is_occurrence pattern es js ≡ true
occurrence-nearer pattern e es js up held =
    and_from (is_ascending js) (are_held_at pattern es js) (sym (ascending-further js) ∙ up) (sym (held-further pattern e es js) ∙ held)

abbrev Bounded : List (List ℕ) → List (List (ℕ × ℤ)) → Type 0
Bounded pattern elements = (places : List ℕ) → is_occurrence pattern elements places ≡ true →
    IsAtLeast (best_utility pattern elements) (earned_at pattern elements places)

bounded-later : (p : List ℕ) (ps : List (List ℕ)) (e : List (ℕ × ℤ)) (es : List (List (ℕ × ℤ))) → Bounded (p ∷ ps) es → (js : List ℕ)
    → is_occurrence (p ∷ ps) (e ∷ es) (further js) ≡ true → IsAtLeast (best_utility (p ∷ ps) (e ∷ es)) (earned_at (p ∷ ps) (e ∷ es) (further js))
bounded-later p ps e es bounded js occurs =
    let parts = and_parts (is_ascending (further js)) (are_held_at (p ∷ ps) (e ∷ es) (further js)) occurs in
    let least = bounded js (occurrence-nearer (p ∷ ps) e es js parts.0 parts.1) in
    subst (IsAtLeast (best_utility (p ∷ ps) (e ∷ es))) (sym (earned-further (p ∷ ps) e es js))
    (at_least-right (first_utility p ps e es) (best_utility (p ∷ ps) es) (earned_at (p ∷ ps) es js) least)

bounded-first : (p : List ℕ) (ps : List (List ℕ)) (e : List (ℕ × ℤ)) (es : List (List (ℕ × ℤ))) → Bounded ps es → (js : List ℕ)
    → is_occurrence (p ∷ ps) (e ∷ es) (0 ∷ further js) ≡ true → IsAtLeast (best_utility (p ∷ ps) (e ∷ es)) (earned_at (p ∷ ps) (e ∷ es) (0 ∷ further js))
bounded-first p ps e es bounded js occurs =
    let parts = and_parts (is_ascending (0 ∷ further js)) (are_held_at (p ∷ ps) (e ∷ es) (0 ∷ further js)) occurs in
    let up = and_parts (list_all (λ j. nat_lt 0 j) (further js)) (is_ascending (further js)) parts.0 in
    let held = and_parts (nat_lt 0 (length (e ∷ es)) && holds p e) (are_held_at ps (e ∷ es) (further js)) parts.1 in
    let here = and_parts (nat_lt 0 (length (e ∷ es))) (holds p e) held.0 in
    let least = bounded js (occurrence-nearer ps e es js up.1 held.1) in
    let first = at_least-first (holds p e) (best_utility ps es) (values_of p e) (earned_at ps es js) here.1 least in
    subst (IsAtLeast (best_utility (p ∷ ps) (e ∷ es))) (ap (λ s. values_of p e +ℤ s) (sym (earned-further ps e es js)))
    (at_least-left (first_utility p ps e es) (best_utility (p ∷ ps) es) (values_of p e +ℤ earned_at ps es js) first)

bounded : (pattern : List (List ℕ)) (elements : List (List (ℕ × ℤ))) → Bounded pattern elements
bounded [] elements places occurs = omega (arith, ints)
bounded (p ∷ ps) elements [] occurs = absurd (let no : false ≡ true = occurs in cc)
bounded (p ∷ ps) [] (k ∷ ks) occurs =
    let parts = and_parts (is_ascending (k ∷ ks)) (are_held_at (p ∷ ps) [] (k ∷ ks)) occurs in
    let held = and_parts (nat_lt k 0 && holds p (get_or [] k [])) (are_held_at ps [] ks) parts.1 in
    let below : k < 0 = ltb-true k 0 (and_parts (nat_lt k 0) (holds p (get_or [] k [])) held.0).0 in
    absurd (omega arith)
bounded (p ∷ ps) (e ∷ es) (zero ∷ ks) occurs =
    let parts = and_parts (is_ascending (0 ∷ ks)) (are_held_at (p ∷ ps) (e ∷ es) (0 ∷ ks)) occurs in
    let near = nearer 0 ks (and_parts (list_all (λ j. nat_lt 0 j) ks) (is_ascending ks) parts.0).0 in
    subst (λ s. IsAtLeast (best_utility (p ∷ ps) (e ∷ es)) (earned_at (p ∷ ps) (e ∷ es) (0 ∷ s))) near.1
    (bounded-first p ps e es (bounded ps es) near.0 (subst (λ s. is_occurrence (p ∷ ps) (e ∷ es) (0 ∷ s) ≡ true) (sym near.1) occurs))
bounded (p ∷ ps) (e ∷ es) (suc k ∷ ks) occurs =
    let parts = and_parts (is_ascending (suc k ∷ ks)) (are_held_at (p ∷ ps) (e ∷ es) (suc k ∷ ks)) occurs in
    let near = nearer (suc k) ks (and_parts (list_all (λ j. nat_lt (suc k) j) ks) (is_ascending ks) parts.0).0 in
    subst (λ s. IsAtLeast (best_utility (p ∷ ps) (e ∷ es)) (earned_at (p ∷ ps) (e ∷ es) (suc k ∷ s))) near.1
    (bounded-later p ps e es (bounded (p ∷ ps) es) (k ∷ near.0) (subst (λ s. is_occurrence (p ∷ ps) (e ∷ es) (suc k ∷ s) ≡ true) (sym near.1) occurs))

pub none_earns_more : NoneEarnsMore
none_earns_more pattern elements best places h occurs = subst (λ a. IsAtLeast a (earned_at pattern elements places)) h (bounded pattern elements places occurs)

some-at_least : (a : Option ℤ) (u : ℤ) → IsAtLeast a u → is_some a ≡ true
some-at_least None u h = absurd h
some-at_least (Some v) u h = refl

best-of_some : (a : Option ℤ) → is_some a ≡ true → (u : ℤ) × (a ≡ Some u)
best-of_some None h = absurd (let no : false ≡ true = h in cc)
best-of_some (Some u) h = (u, refl)

pub has_best_where_it_occurs : HasBestWhereItOccurs
has_best_where_it_occurs pattern elements = (there, back)
  where
    there : is_some (best_utility pattern elements) ≡ true → (places : List ℕ) × (is_occurrence pattern elements places ≡ true)
    there h =
        let best = best-of_some (best_utility pattern elements) h in
        let r = best_is_reached pattern elements best.0 best.1 in
        (r.0, r.1)

    back : (places : List ℕ) × (is_occurrence pattern elements places ≡ true) → is_some (best_utility pattern elements) ≡ true
    back s = some-at_least (best_utility pattern elements) (earned_at pattern elements s.0) (bounded pattern elements s.0 s.1)
