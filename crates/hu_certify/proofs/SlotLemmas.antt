-- Slots of ranks, a cell and a place at a time.
use Rattle.std.proofs.Common.{◌≡◌, ℕ, zero, suc, ◌+◌, ◌<◌, ◌≤◌, ◌^◌, Bool, true, false, cond, ◌||◌, eqb, ℤ, pos, ◌+ℤ◌, unsigned_abs, List, [], ◌∷◌, ◌++◌, map}
use Rattle.std.proofs.Common.{length, take, drop, get_or, set, replicate, refl, sym, ap, ◌∙◌, subst, inl, inr, arith, sum_by, append-nil, add-one, nat_cmp}
use Rattle.std.specs.List.{AllByRecursion}
use Rattle.std.proofs.Math.Bool.{or-true}
use Rattle.std.proofs.lemmas.Bool.{cases_Bool, cases_eq, eq-eqb, ne_eqb}
use Rattle.std.proofs.lemmas.Cmp.{nat_cmp_total}
use Rattle.std.proofs.lemmas.Grind.{flat_map-append}
use Rattle.std.proofs.lemmas.Int.{ints}
use Rattle.std.proofs.lemmas.List.{drop_more, take-map, get_or-set_same, get_or-set_other}
use Rattle.std.proofs.lemmas.List.Sums.{sum_by-cons, sum_by-take-le}
use Rattle.std.proofs.lemmas.Map.Lookups.{exact_unsigned}
use Rattle.hu_kind.specs.Order.{ranking, Ascend}
use Rattle.hu_kind.specs.Record.{has, absolute_of, positive_part, gain, items_in}
use Rattle.hu_kind.proofs.lemmas.Earned.{gain-within}
use Rattle.hu_kind.proofs.lemmas.Members.{Member}
use Rattle.hu_totals.specs.Cells.{among}
use Rattle.hu_totals.specs.declared.ranked.Dense.{Dense}
use Rattle.hu_totals.specs.View.{dense_pair}
use Rattle.hu_totals.proofs.lemmas.RecordCells.{has-below}
use Rattle.hu_totals.proofs.lemmas.SortedLists.{Once, Once-from_sorted, sorted-ranking, ranking-members, Member-to_ranking}
use Rattle.hu_totals.proofs.lemmas.KeptLemmas.{among-member}
use Rattle.hu_certify.specs.declared.place.Place.{Place}
use Rattle.hu_certify.specs.declared.slots.Slot.{Slot}
use Rattle.hu_certify.specs.Slots.{no_slot, slot_of, slot_over, with_more, with_spot, AreEmpty}
use Rattle.hu_certify.specs.Spots.{SpotOf, spot_of, spots_of, past, grown, narrowed, most, ranks_in, standing, size_of, HasRoom, AreAscending}
use Rattle.hu_certify.proofs.SpotLemmas.{dense-sizes, most-size, narrowed-more, narrowed-size, sizes-append, spots-take}

-- ---- ranks among others

among-append : (z : ℕ) (xs ys : List ℕ) → among z (xs ++ ys) ≡ (among z xs || among z ys)
among-append z [] ys = refl
among-append z (x ∷ xs) ys = ap (λ b. eqb z x || b) (among-append z xs ys) ∙ or-assoc (eqb z x) (among z xs) (among z ys)
  where
    or-assoc : (a b c : Bool) → (a || (b || c)) ≡ ((a || b) || c)
    or-assoc true b c = refl
    or-assoc false b c = refl

among-items : (z : ℕ) (cells : List (ℕ × ℤ)) → among z (items_in cells) ≡ has z cells
among-items z [] = refl
among-items z (cell ∷ cells) = ap (λ b. eqb z cell.0 || b) (among-items z cells)

member-among : (z : ℕ) (xs : List ℕ) → among z xs ≡ true → Member z xs
member-among z [] h = cc
member-among z (x ∷ xs) h = elim (cases_eq z x) [
  | inl e ↦ inl (sym e)
  | inr ne ↦ let other : eqb z x ≡ false = ne_eqb z x ne in inr (member-among z xs (rw other at h))
]

absent-among : (z : ℕ) (xs : List ℕ) → (Member z xs → ⊥) → among z xs ≡ false
absent-among z xs out = elim (cases_Bool (among z xs)) [ inl h ↦ absurd (out (member-among z xs h)) | inr h ↦ h ]

-- ranks that are the same ones in some order
pub ranking-same : (xs ys : List ℕ) → ((z : ℕ) → among z xs ≡ among z ys) → ranking nat_cmp xs ≡ ranking nat_cmp ys
ranking-same xs ys same = ranking-members nat_cmp nat_cmp_total exact_unsigned xs ys
    (λ z m. member-among z ys (sym (same z) ∙ among-member z xs m))
    (λ z m. member-among z xs (same z ∙ among-member z ys m))

pub Once-standing : (spots : List SpotOf) → Once (standing spots)
Once-standing spots = Once-from_sorted nat_cmp nat_cmp_total (standing spots) (sorted-ranking nat_cmp nat_cmp_total (ranks_in spots))

-- ---- slots as a list

pub slot-set : (slots : List Slot) (rank : ℕ) (slot : Slot) → rank < length slots
    → (z : ℕ) → slot_of (set slots rank slot) z ≡ cond (eqb z rank) slot (slot_of slots z)
slot-set slots rank slot within z = elim (cases_eq z rank) [
  | inl e ↦
      let here : eqb z rank ≡ true = eq-eqb z rank e in
      rw here (ap (slot_of (set slots rank slot)) e ∙ get_or-set_same slots rank slot no_slot within)
  | inr ne ↦ let other : eqb z rank ≡ false = ne_eqb z rank ne in rw other (get_or-set_other slots rank z slot no_slot ne)
]

pub slot-more : (slots : List Slot) (rank : ℕ) (share : ℤ) → rank < length slots → (z : ℕ)
    → slot_of (set slots rank (with_more (slot_of slots rank) share)) z ≡ cond (eqb z rank) (with_more (slot_of slots z) share) (slot_of slots z)
slot-more slots rank share within z = slot-set slots rank (with_more (slot_of slots rank) share) within z ∙ elim (cases_eq z rank) [
  | inl e ↦ ap (λ k. cond (eqb z rank) (with_more (slot_of slots k) share) (slot_of slots z)) (sym e)
  | inr ne ↦ let other : eqb z rank ≡ false = ne_eqb z rank ne in rw other refl
]

pub empty-slot : (slots : List Slot) (z : ℕ) → AreEmpty slots → slot_of slots z ≡ no_slot
empty-slot slots z empty = ap (λ s. slot_of s z) empty ∙ each (length slots) z
  where
    each : (n z : ℕ) → slot_of (replicate n no_slot) z ≡ no_slot
    each zero z = refl
    each (suc n) zero = refl
    each (suc n) (suc z) = each n z

pub all-same : {A : Type 0} (none : A) (xs : List A) → ((z : ℕ) → get_or xs z none ≡ none) → xs ≡ replicate (length xs) none
all-same none [] same = refl
all-same none (x ∷ xs) same = λ j. same 0 j ∷ all-same none xs (λ z. same (suc z)) j

pub replicate-at : {A : Type 0} (none : A) (n z : ℕ) → get_or (replicate n none) z none ≡ none
replicate-at none zero z = refl
replicate-at none (suc n) zero = refl
replicate-at none (suc n) (suc z) = replicate-at none n z

-- ---- a cell more

pub with_spot-below : (z : ℕ) (cells : List (ℕ × ℤ)) (own : ℤ) (slot : Slot) → AllByRecursion (λ y. z < y) (items_in cells)
    → (with_spot z (cells, own) slot).bound ≡ slot.bound
with_spot-below z cells own slot below = let gone = has-below z cells below in rw gone (omega (arith, ints))

with_spot-first : (z : ℕ) (cell : ℕ × ℤ) (cells : List (ℕ × ℤ)) (own : ℤ) (slot : Slot) → AllByRecursion (λ y. cell.0 < y) (items_in cells)
    → with_spot z (cell ∷ cells, own) slot
    ≡ cond (eqb z cell.0) (with_more (with_spot z (cells, own) slot) (positive_part (own +ℤ cell.1 +ℤ gain cells))) (with_spot z (cells, own) slot)
with_spot-first z cell cells own slot up = elim (cases_eq z cell.0) [
  | inl e ↦
      let here : eqb z cell.0 ≡ true = eq-eqb z cell.0 e in
      let gone : has z cells ≡ false = has-below z cells (subst (λ y. AllByRecursion (λ other. y < other) (items_in cells)) (sym e) up) in
      let share = positive_part (own +ℤ cell.1 +ℤ gain cells) in
      let sum : slot.bound +ℤ (share +ℤ pos 0) ≡ (slot.bound +ℤ pos 0) +ℤ share = omega (arith, ints) in
      let met : (slot.met || true) ≡ true = or-true slot.met in
      simp (here, gone) (λ j. record { met = met j; bound = sum j })
  | inr ne ↦ let other : eqb z cell.0 ≡ false = ne_eqb z cell.0 ne in rw other refl
]

-- the rank at a place is below those after it
pub rank-below : (cells : List Dense) (i : ℕ) (d : Dense) → Ascend (items_in (map dense_pair cells)) → i < length cells
    → AllByRecursion (λ y. (get_or cells i d).rank < y) (items_in (map dense_pair (drop (i + 1) cells)))
rank-below [] i d up within = absurd (omega arith)
rank-below (cell ∷ cells) zero d up within = up.0
rank-below (cell ∷ cells) (suc i) d up within = rw add-one (let ih = rank-below cells i d up.1 (omega arith) in rw add-one at ih)

pub cell-at : (P : ℕ × ℤ → Type 0) (cells : List Dense) (i : ℕ) (d : Dense) → AllByRecursion P (map dense_pair cells)
    → i < length cells → P (dense_pair (get_or cells i d))
cell-at P [] i d all within = absurd (omega arith)
cell-at P (cell ∷ cells) zero d all within = all.0
cell-at P (cell ∷ cells) (suc i) d all within = cell-at P cells i d all.1 (omega arith)

-- backward with the cell before
pub slot-back : (cells : List Dense) (i : ℕ) (d : Dense) → Ascend (items_in (map dense_pair cells)) → i < length cells
    → (own : ℤ) (z : ℕ) (first old new : Slot) → old ≡ with_spot z (map dense_pair (drop (i + 1) cells), own) first
    → new ≡ cond (eqb z (get_or cells i d).rank)
    (with_more old (positive_part (own +ℤ (get_or cells i d).value +ℤ gain (map dense_pair (drop (i + 1) cells))))) old
    → new ≡ with_spot z (map dense_pair (drop i cells), own) first
slot-back cells i d up within own z first old new before is =
    let cell = get_or cells i d in
    let rest = map dense_pair (drop (i + 1) cells) in
    is
    ∙ ap (λ slot. cond (eqb z cell.rank) (with_more slot (positive_part (own +ℤ cell.value +ℤ gain rest))) slot) before
    ∙ sym (with_spot-first z (dense_pair cell) rest own first (rank-below cells i d up within))
    ∙ sym (ap (λ cs. with_spot z (map dense_pair cs, own) first) (drop_more cells i d within))

absolute-drop : (cells : List Dense) (i : ℕ) → absolute_of (map dense_pair (drop i cells)) ≤ absolute_of (map dense_pair cells)
absolute-drop cells zero = omega arith
absolute-drop [] (suc i) = omega arith
absolute-drop (cell ∷ cells) (suc i) =
    omega (arith, sum_by-cons (λ (c : ℕ × ℤ). unsigned_abs c.1) (dense_pair cell) (map dense_pair cells), absolute-drop cells i)

-- a value and the gain after it are within all values
pub cell-within : (cells : List Dense) (i : ℕ) (d : Dense) → i < length cells
    → unsigned_abs (get_or cells i d).value + unsigned_abs (gain (map dense_pair (drop (i + 1) cells))) ≤ absolute_of (map dense_pair cells)
cell-within cells i d within =
    omega (arith, dense-sizes cells i d within, absolute-drop cells i, gain-within (map dense_pair (drop (i + 1) cells)))

-- ---- a place more

pub spot-at : (P : SpotOf → Type 0) (places : List Place) (i : ℕ) (d : Place) → AllByRecursion P (spots_of places)
    → i < length places → P (spot_of (get_or places i d))
spot-at P [] i d all within = absurd (omega arith)
spot-at P (place ∷ places) zero d all within = all.0
spot-at P (place ∷ places) (suc i) d all within = spot-at P places i d all.1 (omega arith)

most-append : (ps qs : List SpotOf) → most (ps ++ qs) ≡ most ps +ℤ most qs
most-append [] qs = omega (arith, ints)
most-append (p ∷ ps) qs = omega (arith, ints, most-append ps qs)

pub slot_over-more : (places : List Place) (i : ℕ) (d : Place) → i < length places → (z : ℕ)
    → slot_over (spots_of (take (i + 1) places)) z ≡ with_spot z (spot_of (get_or places i d)) (slot_over (spots_of (take i places)) z)
slot_over-more places i d within z =
    let before = spots_of (take i places) in
    let one = spot_of (get_or places i d) in
    let ranks : ranks_in (spots_of (take (i + 1) places)) ≡ ranks_in before ++ items_in one.0 =
    ap ranks_in (spots-take places i d within) ∙ flat_map-append (λ (spot : SpotOf). items_in spot.0) before (one ∷ [])
    ∙ ap (λ more. ranks_in before ++ more) (append-nil (items_in one.0)) in
    let met : among z (ranks_in (spots_of (take (i + 1) places))) ≡ (among z (ranks_in before) || has z one.0) =
    ap (among z) ranks ∙ among-append z (ranks_in before) (items_in one.0) ∙ ap (λ b. among z (ranks_in before) || b) (among-items z one.0) in
    let bound : most (narrowed z (spots_of (take (i + 1) places))) ≡ most (narrowed z before) +ℤ most (grown z one) =
    ap most (narrowed-more z places i d within) ∙ most-append (narrowed z before) (grown z one) in
    λ j. record { met = met j; bound = bound j }

pub slot_over-fits : (places : List Place) (i : ℕ) (d : Place) → i < length places → HasRoom (spots_of places) → (z : ℕ)
    → unsigned_abs (slot_over (spots_of (take i places)) z).bound + size_of (spot_of (get_or places i d)) < 2 ^ 127
slot_over-fits places i d within room z =
    let before = spots_of (take i places) in
    let one = spot_of (get_or places i d) in
    let more : sum_by size_of (spots_of (take (i + 1) places)) ≡ sum_by size_of before + sum_by size_of (one ∷ []) =
    ap (sum_by size_of) (spots-take places i d within) ∙ sizes-append before (one ∷ []) in
    let whole = ap (sum_by size_of) (take-map spot_of (i + 1) places) in
    omega (
      arith,
      more,
      whole,
      sum_by-cons size_of one [],
      sum_by-take-le size_of (spots_of places) (i + 1),
      (most-size (narrowed z before)).1,
      narrowed-size z before,
      room,
    )

-- a rank that stands nowhere
module _ (spots : List SpotOf) (z : ℕ) (out : Member z (standing spots) → ⊥) where
  gone : among z (ranks_in spots) ≡ false
  gone = absent-among z (ranks_in spots) (λ m. out (Member-to_ranking nat_cmp exact_unsigned z (ranks_in spots) m))

  pub narrowed-absent : narrowed z spots ≡ []
  narrowed-absent = nothing spots gone
    where
      both : (a b : Bool) → (a || b) ≡ false → (a ≡ false) × (b ≡ false)
      both true b h = cc
      both false b h = (refl, h)

      nothing : (ss : List SpotOf) → among z (ranks_in ss) ≡ false → narrowed z ss ≡ []
      nothing [] h = refl
      nothing (s ∷ ss) h =
          let parts = both (among z (items_in s.0)) (among z (ranks_in ss)) (sym (among-append z (items_in s.0) (ranks_in ss)) ∙ h) in
          let here : has z s.0 ≡ false = sym (among-items z s.0) ∙ parts.0 in
          rw here (nothing ss parts.1)

  pub slot_over-absent : slot_over spots z ≡ no_slot
  slot_over-absent = λ j. record { met = gone j; bound = most (narrowed-absent j) }

-- ---- what ranks have, taken by rank

-- these ranks have what they had, and all others nothing
pub record IsLeft {A : Type 0} (none : A) (full : ℕ → A) (ranks : List ℕ) (now : ℕ → A) : Type 0 where
  pub left : (z : ℕ) → Member z ranks → now z ≡ full z
  pub done : (z : ℕ) → (Member z ranks → ⊥) → now z ≡ none

IsLeft-less : {A : Type 0} (none : A) (full : ℕ → A) (rank : ℕ) (ranks : List ℕ) (now next : ℕ → A) → Once (rank ∷ ranks)
    → ((z : ℕ) → next z ≡ cond (eqb z rank) none (now z)) → IsLeft none full (rank ∷ ranks) now → IsLeft none full ranks next
IsLeft-less none full rank ranks now next once taken is = record {
  left = λ z m.
      let other : eqb z rank ≡ false = ne_eqb z rank (λ e. once.0 (subst (λ y. Member y ranks) e m)) in
      taken z ∙ ap (λ b. cond b none (now z)) other ∙ is.left z (inr m);
  done = λ z out. taken z ∙ elim (cases_eq z rank) [
    | inl e ↦ let here : eqb z rank ≡ true = eq-eqb z rank e in ap (λ b. cond b none (now z)) here
    | inr ne ↦
        let other : eqb z rank ≡ false = ne_eqb z rank ne in
        ap (λ b. cond b none (now z)) other ∙ is.done z (λ m. elim m [ inl e ↦ ne (sym e) | inr n ↦ out n ])
  ];
}

pub Once-drop : (from : ℕ) (ranks : List ℕ) → Once ranks → Once (drop from ranks)
Once-drop zero ranks once = once
Once-drop (suc from) [] once = once
Once-drop (suc from) (x ∷ xs) once = Once-drop from xs once.1

Member-at : (ranks : List ℕ) (i : ℕ) → i < length ranks → Member (get_or ranks i 0) ranks
Member-at [] i within = absurd (omega arith)
Member-at (r ∷ ranks) zero within = inl refl
Member-at (r ∷ ranks) (suc i) within = inr (Member-at ranks i (omega arith))

-- at a place of the ranks that stand
module _ (spots : List SpotOf) (ranks : List ℕ) (same : ranks ≡ standing spots) (i : ℕ) (within : i < length ranks) where
  split : drop i ranks ≡ get_or ranks i 0 ∷ drop (i + 1) ranks
  split = drop_more ranks i 0 within

  once : Once (get_or ranks i 0 ∷ drop (i + 1) ranks)
  once = subst Once split (Once-drop i ranks (subst Once (sym same) (Once-standing spots)))

  pub stands-at : Member (get_or ranks i 0) (standing spots)
  stands-at = subst (Member (get_or ranks i 0)) same (Member-at ranks i within)

  pub left-at : {A : Type 0} (none : A) (full now : ℕ → A) → IsLeft none full (drop i ranks) now → now (get_or ranks i 0) ≡ full (get_or ranks i 0)
  left-at none full now is = is.left (get_or ranks i 0) (subst (Member (get_or ranks i 0)) (sym split) (inl refl))

  pub left-next : {A : Type 0} (none : A) (full now next : ℕ → A) → ((z : ℕ) → next z ≡ cond (eqb z (get_or ranks i 0)) none (now z))
      → IsLeft none full (drop i ranks) now → IsLeft none full (drop (i + 1) ranks) next
  left-next none full now next taken is =
      IsLeft-less none full (get_or ranks i 0) (drop (i + 1) ranks) now next once taken (subst (λ rs. IsLeft none full rs now) split is)

-- ---- ranks ascend

past-ascend : (rank : ℕ) (cells : List (ℕ × ℤ)) → Ascend (items_in cells) → Ascend (items_in (past rank cells))
past-ascend rank [] up = tt
past-ascend rank (c ∷ cs) up = elim (cases_Bool (eqb rank c.0)) [ inl h ↦ simp h up.1 | inr h ↦ simp h (past-ascend rank cs up.1) ]

pub AreAscending-narrowed : (rank : ℕ) (spots : List SpotOf) → AreAscending spots → AreAscending (narrowed rank spots)
AreAscending-narrowed rank [] all = tt
AreAscending-narrowed rank (s ∷ ss) all =
    let ih = AreAscending-narrowed rank ss all.1 in
    let rest = past-ascend rank s.0 all.0 in
    elim (cases_Bool (has rank s.0)) [ inl h ↦ simp h (rest, ih) | inr h ↦ simp h ih ]
