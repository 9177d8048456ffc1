-- The lowest rank of an item that isn't named and passes a test.
use Rattle.std.proofs.Common.{◌≡◌, ℕ, zero, suc, ◌+◌, ◌<◌, ◌≤◌, Bool, true, false, not, eqb, nat_eq, ◌&&◌, ◌||◌, List}
use Rattle.std.proofs.Common.{[], ◌∷◌, ◌++◌, length, take, drop, get_or, position, Option, None, Some, refl, sym, ap}
use Rattle.std.proofs.Common.{◌∙◌, subst, inl, inr, ◌⊎◌, arith}
use Rattle.std.specs.Prelude.{slice_get, is_some}
use Rattle.std.specs.List.{list_any}
use Rattle.std.proofs.lemmas.Bool.{eq-eqb, ne_eqb, or_right, or_left, or_from, both_ways}
use Rattle.std.proofs.lemmas.List.{take_more, map-append}
use Rattle.std.proofs.lemmas.List.Folds.{list_any-append}
use Rattle.hu_kind.specs.declared.item.Cell.{Cell}
use Rattle.hu_kind.specs.Cell.{pair_of, pairs_of}
use Rattle.hu_kind.specs.Record.{has}
use Rattle.hu_proof.specs.declared.place.Place.{Place}
use Rattle.hu_proof.specs.Bounds.{is_among}
use Rattle.hu_proof.specs.Check.{first_such}
use Rattle.hu_proof.specs.Judged.{IsLowest, IsLower, missing}
use Rattle.hu_proof.specs.Places.{PlaceOf, place_of, places_of, Apart}
use Rattle.hu_proof.proofs.Orders.{member-among}
use Rattle.hu_proof.proofs.PlaceLemmas.{places-take}
use Rattle.hu_proof.proofs.Ranks.{StandsAt, StandsAt-position, Member-drop, not_in-drop, not_among-position}

get_or-same : (xs : List ℕ) (i a b : ℕ) → i < length xs → get_or xs i a ≡ get_or xs i b
get_or-same [] i a b within = absurd (omega arith)
get_or-same (x ∷ xs) zero a b within = refl
get_or-same (x ∷ xs) (suc i) a b within = get_or-same xs i a b (omega arith)

pub stands-at : (order : List ℕ) (item rank : ℕ) → rank < length order → get_or order rank 0 ≡ item → StandsAt order item rank
stands-at order item rank within is = record { within = within; is = get_or-same order rank item 0 within ∙ is }

pub at-stands : (order : List ℕ) (item rank : ℕ) → StandsAt order item rank → get_or order rank 0 ≡ item
at-stands order item rank s = get_or-same order rank 0 item s.within ∙ s.is

pub among-stands : (order : List ℕ) (item rank : ℕ) → StandsAt order item rank → is_among item order ≡ true
among-stands order item rank s = member-among item order (Member-drop order item rank 0 s (omega arith))

-- an item stands at one place
stands-once : (order : List ℕ) (item a b : ℕ) → Apart order → StandsAt order item a → StandsAt order item b → a < b → ⊥
stands-once order item a b apart s t below = not_in-drop order item a b apart s below (Member-drop order item b b t (omega arith))

-- ---- which ranks are lower

pub lower-no : (order named : List ℕ) (from low item place : ℕ) → Apart order → low ≤ length order → StandsAt order item place
    → (place < from) ⊎ ((low ≤ place) ⊎ (is_among item named ≡ true))
    → (rank : ℕ) → from ≤ rank → rank < low → is_among (get_or order rank 0) named ≡ false → get_or order rank 0 ≡ item → ⊥
lower-no order named from low item place apart within s (inl below) rank above under unnamed is =
    stands-once order item place rank apart s (stands-at order item rank (omega arith) is) (omega arith)
lower-no order named from low item place apart within s (inr (inl above')) rank above under unnamed is =
    stands-once order item rank place apart (stands-at order item rank (omega arith) is) s (omega arith)
lower-no order named from low item place apart within s (inr (inr is_named)) rank above under unnamed is =
    let out : true ≡ false = sym is_named ∙ (ap (λ x. is_among x named) (sym is) ∙ unnamed) in cc

pub lower-none : (order named : List ℕ) (from low item : ℕ) → low ≤ length order → position (nat_eq item) order ≡ None
    → (rank : ℕ) → from ≤ rank → rank < low → is_among (get_or order rank 0) named ≡ false → get_or order rank 0 ≡ item → ⊥
lower-none order named from low item within e rank above under unnamed is =
    both_ways (is_among item order) (not_among-position order item e) (among-stands order item rank (stands-at order item rank (omega arith) is))

-- ---- one item more

pub IsLowest-as : (order named : List ℕ) (from low : ℕ) (s t : ℕ → Bool) → ((i : ℕ) → s i ≡ t i) → IsLowest order named from s low
    → IsLowest order named from t low
IsLowest-as order named from low s t same l = record {
  within = l.within;
  above = l.above;
  unnamed = l.unnamed;
  passes = λ below. sym (same (get_or order low 0)) ∙ l.passes below;
  least = λ rank above below unnamed. sym (same (get_or order rank 0)) ∙ l.least rank above below unnamed;
}

pub lowest-lower : (order named : List ℕ) (from low item rank : ℕ) (test : ℕ → Bool) → Apart order → IsLowest order named from test low
    → IsLower order named from low item rank
    → IsLowest order named from (λ i. test i || eqb i item) rank
lowest-lower order named from low item rank test apart l h = record {
  within = omega (arith, h.within);
  above = λ below. h.above;
  unnamed = λ below. subst (λ x. is_among x named ≡ false) (sym h.is) h.unnamed;
  passes = λ below. or_right (test (get_or order rank 0)) (eqb (get_or order rank 0) item) (eq-eqb (get_or order rank 0) item h.is);
  least = λ other above below unnamed.
      or_from (test (get_or order other 0)) (eqb (get_or order other 0) item) (l.least other above (omega (arith, h.below)) unnamed)
      (ne_eqb (get_or order other 0) item (λ e. stands-once order item other rank apart (stands-at order item other (omega (arith, h.within)) e)
      (stands-at order item rank h.within h.is) below));
}

pub lowest-same : (order named : List ℕ) (from low item : ℕ) (test : ℕ → Bool) → IsLowest order named from test low
    → ((rank : ℕ) → from ≤ rank → rank < low → is_among (get_or order rank 0) named ≡ false → get_or order rank 0 ≡ item → ⊥)
    → IsLowest order named from (λ i. test i || eqb i item) low
lowest-same order named from low item test l none = record {
  within = l.within;
  above = l.above;
  unnamed = l.unnamed;
  passes = λ below. or_left (test (get_or order low 0)) (eqb (get_or order low 0) item) (l.passes below);
  least = λ rank above below unnamed.
      or_from (test (get_or order rank 0)) (eqb (get_or order rank 0) item) (l.least rank above below unnamed)
      (ne_eqb (get_or order rank 0) item (none rank above below unnamed));
}

or-assoc : (a b c : Bool) → ((a || b) || c) ≡ (a || (b || c))
or-assoc true b c = refl
or-assoc false b c = refl

or-false : (a : Bool) → (a || false) ≡ a
or-false true = refl
or-false false = refl

-- the test of a cell more
pub has-more : (cells : List Cell) (i : ℕ) (d : Cell) (test : ℕ → Bool) (item : ℕ) → i < length cells
    → ((test item || has item (pairs_of (take i cells))) || eqb item (get_or cells i d).item.0) ≡ (test item || has item (pairs_of (take (i + 1) cells)))
has-more cells i d test item within =
    let more : pairs_of (take (i + 1) cells) ≡ pairs_of (take i cells) ++ pair_of (get_or cells i d) ∷ [] =
    ap pairs_of (take_more cells i d within) ∙ map-append pair_of (take i cells) (get_or cells i d ∷ []) in
    or-assoc (test item) (has item (pairs_of (take i cells))) (eqb item (get_or cells i d).item.0)
    ∙ ap (λ b. test item || b)
    (ap (λ b. has item (pairs_of (take i cells)) || b) (sym (or-false (eqb item (get_or cells i d).item.0)))
    ∙ (sym (list_any-append (λ (cell : ℕ × _). eqb item cell.0) (pairs_of (take i cells)) (pair_of (get_or cells i d) ∷ [])) ∙ ap (has item) (sym more)))

-- and of a place more
pub any-more : (places : List Place) (i : ℕ) (d : Place) (item : ℕ) → i < length places
    → (list_any (λ (place : PlaceOf). has item place.0) (places_of (take i places)) || has item (pairs_of (get_or places i d).cells.now)) ≡ list_any
    (λ (place : PlaceOf). has item place.0) (places_of (take (i + 1) places))
any-more places i d item within =
    ap (λ b. list_any (λ (place : PlaceOf). has item place.0) (places_of (take i places)) || b)
    (sym (or-false (has item (pairs_of (get_or places i d).cells.now))))
    ∙ (sym (list_any-append (λ (place : PlaceOf). has item place.0) (places_of (take i places)) (place_of (get_or places i d) ∷ []))
    ∙ ap (list_any (λ (place : PlaceOf). has item place.0)) (sym (places-take places i d within)))

-- ---- the first later item

first-low : (order : List ℕ) (from low : ℕ) (test : ℕ → Bool) → low ≤ length order → (low < length order → from ≤ low)
    → (low < length order → test (get_or order low 0) ≡ true)
    → ((rank : ℕ) → from ≤ rank → rank < low → test (get_or order rank 0) ≡ false) → first_such test (drop from order) ≡ slice_get order low
first-low [] zero low test within above passes least = refl
first-low [] (suc from) low test within above passes least = refl
first-low (x ∷ xs) zero zero test within above passes least = let here = passes (omega arith) in rw here refl
first-low (x ∷ xs) zero (suc low) test within above passes least =
    let here : test x ≡ false = least 0 (omega arith) (omega arith) in
    rw here (first-low xs zero low test (omega arith) (λ h. omega arith) (λ h. passes (omega arith))
    (λ rank a b. least (suc rank) (omega arith) (omega arith)))
first-low (x ∷ xs) (suc from) zero test within above passes least = absurd (let h = above (omega arith) in omega arith)
first-low (x ∷ xs) (suc from) (suc low) test within above passes least =
    first-low xs from low test (omega arith) (λ h. let k = above (omega arith) in omega arith) (λ h. passes (omega arith))
    (λ rank a b. least (suc rank) (omega arith) (omega arith))

both-true : (a b : Bool) → a ≡ false → b ≡ true → (not a && b) ≡ true
both-true a b h k = rw (h, k) refl

not-both : (a b : Bool) → (a ≡ false → b ≡ false) → (not a && b) ≡ false
not-both true b h = refl
not-both false b h = h refl

pub missing-low : (order named : List ℕ) (from low : ℕ) (places : List PlaceOf)
    → IsLowest order named from (λ item. list_any (λ place. has item place.0) places) low
    → missing (drop from order) named places ≡ slice_get order low
missing-low order named from low places l =
    first-low order from low (λ item. not (is_among item named) && list_any (λ (place : PlaceOf). has item place.0) places) l.within l.above
    (λ h. both-true _ _ (l.unnamed h) (l.passes h))
    (λ rank a b. not-both _ _ (l.least rank a b))

pub lowest-none : (order named : List ℕ) (from : ℕ) → IsLowest order named from (λ item. false) (length order)
lowest-none order named from = record {
  within = omega arith;
  above = λ h. absurd (omega arith);
  unnamed = λ h. absurd (omega arith);
  passes = λ h. absurd (omega arith);
  least = λ rank a b c. refl;
}

-- an item is named where it has a rank among those that are
pub named-none : (named : List ℕ) (item : ℕ) (rank : Option ℕ) → rank ≡ position (nat_eq item) named → is_some rank ≡ false → is_among item named ≡ false
named-none named item None e h = not_among-position named item (sym e)
named-none named item (Some r) e h = cc

pub named-some : (named : List ℕ) (item : ℕ) (rank : Option ℕ) → rank ≡ position (nat_eq item) named → is_some rank ≡ true → is_among item named ≡ true
named-some named item None e h = cc
named-some named item (Some r) e h = among-stands named item r (StandsAt-position named item r (sym e))
