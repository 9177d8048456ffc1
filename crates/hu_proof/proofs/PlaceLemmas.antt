-- Steps over the places of a prefix, and that their sums fit.
use Rattle.std.proofs.Common.{◌≡◌, ℕ, zero, suc, ◌+◌, ◌<◌, ◌≤◌, ◌^◌, Bool, true, false, cond, eqb, ℤ, pos, ◌+ℤ◌, ◌≤ℤ◌, unsigned_abs, Option, None, Some, List}
use Rattle.std.proofs.Common.{[], ◌∷◌, ◌++◌, length, take, drop, get_or, refl, sym, ap, ◌∙◌, subst, sum_by, inl, inr, arith}
use Rattle.std.proofs.lemmas.Bool.{eq-eqb, ne_eqb, cases_Bool, cases_eq}
use Rattle.std.proofs.lemmas.Int.{ints}
use Rattle.std.proofs.lemmas.List.{drop_more, take_more, map-append}
use Rattle.std.proofs.lemmas.List.Sums.{sum_by-cons}
use Rattle.hu_kind.specs.Record.{has, value_of, absolute_of, positive_part}
use Rattle.hu_kind.proofs.lemmas.Earned.{positive_part-upper, positive_part-within}
use Rattle.hu_kind.proofs.lemmas.Members.{Member}
use Rattle.hu_proof.specs.declared.place.Place.{Place}
use Rattle.hu_proof.specs.Bounds.{is_among, after, later_gain}
use Rattle.hu_proof.specs.Places.{PlaceOf, place_of, places_of, value_in, narrowed, later_size, Apart, IsRoomy, HasRoom, Rises, Stands}
use Rattle.hu_proof.proofs.Orders.{member-among, Member-after, not_after_itself}
use Rattle.hu_proof.proofs.lemmas.OrderMembers.{among-member, not_among}

-- ---- sums of the absolute values of later items

pub value_of-later_size : (x : ℕ) (later : List ℕ) (cells : List (ℕ × ℤ)) → Member x later → unsigned_abs (value_of x cells) ≤ later_size later cells
value_of-later_size x later [] m = omega arith
value_of-later_size x later (cell ∷ cells) m =
    let ih = value_of-later_size x later cells m in
    elim (cases_eq x cell.0) [
      | inl e ↦
          let here : eqb x cell.0 ≡ true = eq-eqb x cell.0 e in
          let there : is_among cell.0 later ≡ true = member-among cell.0 later (subst (λ y. Member y later) e m) in
          simp (here, there) (omega arith)
      | inr ne ↦ let other : eqb x cell.0 ≡ false = ne_eqb x cell.0 ne in simp other (omega arith)
    ]

-- ---- one place of many

size_of : PlaceOf → ℕ
size_of place = absolute_of place.0

-- what a place keeps within the bound of all
pub record AtPlace (later : List ℕ) (place : PlaceOf) : Type 0 where
  pub roomy : IsRoomy later place
  pub rises : Rises place
  pub fits : absolute_of place.0 < 2 ^ 127

HasRoom-tail : (later : List ℕ) (place : PlaceOf) (places : List PlaceOf) → HasRoom later (place ∷ places) → HasRoom later places
HasRoom-tail later place places room = record {
  apart = room.apart;
  each = room.each.1;
  rises = room.rises.1;
  sum =
      omega (arith, room.sum, sum_by-cons (λ (p : PlaceOf). absolute_of p.0) place places);
}

pub at-place : (later : List ℕ) (places : List Place) (i : ℕ) (d : Place) → HasRoom later (places_of places) → i < length places
    → AtPlace later (place_of (get_or places i d))
at-place later [] i d room within = absurd (omega arith)
at-place later (p ∷ ps) zero d room within =
    record {
      roomy = room.each.0;
      rises = room.rises.0;
      fits = omega (arith, room.sum, sum_by-cons (λ (q : PlaceOf). absolute_of q.0) (place_of p) (places_of ps));
    }
at-place later (p ∷ ps) (suc i) d room within = at-place later ps i d (HasRoom-tail later (place_of p) (places_of ps) room) (omega arith)

pub places-drop : (places : List Place) (i : ℕ) (d : Place) → i < length places
    → places_of (drop i places) ≡ place_of (get_or places i d) ∷ places_of (drop (i + 1) places)
places-drop places i d within = ap places_of (drop_more places i d within)

pub sizes-drop : (places : List Place) (i : ℕ) (d : Place) → i < length places
    → sum_by (λ (p : PlaceOf). absolute_of p.0) (places_of (drop i places))
    ≡ absolute_of (place_of (get_or places i d)).0 + sum_by (λ (p : PlaceOf). absolute_of p.0) (places_of (drop (i + 1) places))
sizes-drop places i d within = ap (sum_by (λ (p : PlaceOf). absolute_of p.0)) (places-drop places i d within)
    ∙ sum_by-cons (λ (p : PlaceOf). absolute_of p.0) (place_of (get_or places i d)) (places_of (drop (i + 1) places))

pub places-take : (places : List Place) (i : ℕ) (d : Place) → i < length places
    → places_of (take (i + 1) places) ≡ places_of (take i places) ++ place_of (get_or places i d) ∷ []
places-take places i d within = ap places_of (take_more places i d within) ∙ map-append place_of (take i places) (get_or places i d ∷ [])

-- ---- a value in a record

pub value_in-some : (x : ℕ) (cells : List (ℕ × ℤ)) (value : ℤ) → Some value ≡ value_in x cells → (has x cells ≡ true) × (value_of x cells ≡ value)
value_in-some x cells value e = by (has x cells) e
  where
    by : (b : Bool) → ◌≡◌ {A = Option ℤ} (Some value) (cond b (Some (value_of x cells)) None) → (b ≡ true) × (value_of x cells ≡ value)
    by true h = (refl, cc)
    by false h = cc

pub value_in-none : (x : ℕ) (cells : List (ℕ × ℤ)) → ◌≡◌ {A = Option ℤ} None (value_in x cells) → has x cells ≡ false
value_in-none x cells e = by (has x cells) e
  where
    by : (b : Bool) → ◌≡◌ {A = Option ℤ} None (cond b (Some (value_of x cells)) None) → b ≡ false
    by true h = cc
    by false h = refl

-- ---- narrowing

narrowed-append : (x : ℕ) (ps qs : List PlaceOf) → narrowed x (ps ++ qs) ≡ narrowed x ps ++ narrowed x qs
narrowed-append x [] qs = refl
narrowed-append x (p ∷ ps) qs =
    let ih = narrowed-append x ps qs in
    elim (cases_Bool (has x p.0)) [
      | inl e ↦ simp e (ap (λ rest. (p.0, p.1 +ℤ value_of x p.0) ∷ rest) ih)
      | inr e ↦ simp e ih
    ]

pub narrowed-more : (x : ℕ) (places : List Place) (i : ℕ) (d : Place) → i < length places
    → narrowed x (places_of (take (i + 1) places)) ≡ narrowed x (places_of (take i places)) ++ narrowed x (place_of (get_or places i d) ∷ [])
narrowed-more x places i d within =
    ap (narrowed x) (places-take places i d within) ∙ narrowed-append x (places_of (take i places)) (place_of (get_or places i d) ∷ [])

pub narrowed-one : (x : ℕ) (place : PlaceOf) (value own : ℤ) → Some value ≡ value_in x place.0 → own ≡ place.1 +ℤ value
    → (place.0, own) ∷ [] ≡ narrowed x (place ∷ [])
narrowed-one x place value own e sum = let h = value_in-some x place.0 value e in rw (h.0, h.1, sum) refl

pub narrowed-none : (x : ℕ) (place : PlaceOf) → ◌≡◌ {A = Option ℤ} None (value_in x place.0) → narrowed x (place ∷ []) ≡ []
narrowed-none x place e = rw (value_in-none x place.0 e) refl

-- ---- shares

pub size-monotone : (a b : Bool) (n : ℕ) → (a ≡ true → b ≡ true) → cond a n 0 ≤ cond b n 0
size-monotone true b n w = let here : b ≡ true = w refl in rw here (omega arith)
size-monotone false true n w = omega arith
size-monotone false false n w = omega arith

pub later_size-monotone : (xs ys : List ℕ) (cells : List (ℕ × ℤ)) → ((x : ℕ) → Member x xs → Member x ys) → later_size xs cells ≤ later_size ys cells
later_size-monotone xs ys [] w = omega arith
later_size-monotone xs ys (cell ∷ cells) w =
    let ih = later_size-monotone xs ys cells w in
    let here = size-monotone (is_among cell.0 xs) (is_among cell.0 ys) (unsigned_abs cell.1)
    (λ h. member-among cell.0 ys (w cell.0 (among-member cell.0 xs h))) in
    omega arith

later_size-after : (x : ℕ) (later : List ℕ) (cells : List (ℕ × ℤ)) → Apart later → Member x later
    → unsigned_abs (value_of x cells) + later_size (after x later) cells ≤ later_size later cells
later_size-after x later [] apart m = omega arith
later_size-after x later (cell ∷ cells) apart m =
    let more = later_size-monotone (after x later) later cells (λ y n. Member-after y x later n) in
    let ih = later_size-after x later cells apart m in
    elim (cases_eq x cell.0) [
      | inl e ↦
          let here : eqb x cell.0 ≡ true = eq-eqb x cell.0 e in
          let there : is_among cell.0 later ≡ true = member-among cell.0 later (subst (λ y. Member y later) e m) in
          let gone : is_among cell.0 (after x later) ≡ false =
          not_among cell.0 (after x later) (λ n. not_after_itself x later apart (subst (λ y. Member y (after x later)) (sym e) n)) in
          simp (here, there, gone) (omega arith)
      | inr ne ↦
          let other : eqb x cell.0 ≡ false = ne_eqb x cell.0 ne in
          let bit = size-monotone (is_among cell.0 (after x later)) (is_among cell.0 later) (unsigned_abs cell.1)
          (λ h. member-among cell.0 later (Member-after cell.0 x later (among-member cell.0 (after x later) h))) in
          simp other (omega arith)
    ]

gain-size : (b : Bool) (value : ℤ) → (pos 0 ≤ℤ cond b (positive_part value) (pos 0)) ×
    (unsigned_abs (cond b (positive_part value) (pos 0)) ≤ cond b (unsigned_abs value) 0)
gain-size true value = ((positive_part-upper value).1, positive_part-within value)
gain-size false value = (omega (arith, ints), omega arith)

later_gain-size : (later : List ℕ) (cells : List (ℕ × ℤ)) → (pos 0 ≤ℤ later_gain later cells) ×
    (unsigned_abs (later_gain later cells) ≤ later_size later cells)
later_gain-size later [] = (omega (arith, ints), omega arith)
later_gain-size later (cell ∷ cells) =
    let ih = later_gain-size later cells in
    let here = gain-size (is_among cell.0 later) cell.1 in
    (omega (arith, ints), omega (arith, ints))

-- a share fits, in each of its steps
pub room-share : (x : ℕ) (order later : List ℕ) (place : PlaceOf) → IsRoomy order place → Stands order x later
    → unsigned_abs place.1 + (unsigned_abs (value_of x place.0) + unsigned_abs (later_gain later place.0)) ≤ absolute_of place.0
room-share x order later place room stands =
    let sizes = subst (λ (ys : List ℕ). unsigned_abs (value_of x place.0) + later_size ys place.0 ≤ later_size order place.0) stands.after
    (later_size-after x order place.0 stands.apart stands.member) in
    let gain = later_gain-size later place.0 in
    omega (arith, sizes, gain.1, room)
