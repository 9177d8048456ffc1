-- The places of slots.
use Rattle.std.proofs.Common.{◌≡◌, ◌≢◌, ℕ, zero, suc, ◌<◌, true, false, eqb, List, [], ◌∷◌, length, get_or, take}
use Rattle.std.proofs.Common.{inl, inr, sym, subst, arith, nat_eq}
use Rattle.std.specs.List.{AllByRecursion, IsDistinct}
use Rattle.std.proofs.lemmas.Bool.{ne_eqb, eqb-true, or_cases, false_from_ne_true}
use Rattle.std.proofs.lemmas.List.{take_all}
use Rattle.hu_totals.specs.Cells.{among}
use Rattle.hu_search.specs.Slots.{IsPlace, AreSlots}

-- a rank among the first of some stands at a place
among-place : (rank n : ℕ) (ranks : List ℕ) → among rank (take n ranks) ≡ true → (i : ℕ) × (i < n) × (i < length ranks) × (get_or ranks i 0 ≡ rank)
among-place rank zero ranks m = cc
among-place rank (suc n) [] m = cc
among-place rank (suc n) (r ∷ ranks) m = elim (or_cases (eqb rank r) (among rank (take n ranks)) m) [
  | inl e ↦ (0, omega arith, omega arith, sym (eqb-true rank r e))
  | inr later ↦ let at = among-place rank n ranks later in let low = at.1 in let within = at.2 in (suc at.0, omega (arith, low), omega (arith, within), at.3)
]

pub slots-absent : (places ranks : List ℕ) (rank : ℕ) → AreSlots places ranks
    → ((i : ℕ) → i < length ranks → rank < length places → get_or places rank 0 ≡ i → get_or ranks i 0 ≡ rank → ⊥) → among rank ranks ≡ false
slots-absent places ranks rank slots none = false_from_ne_true (among rank ranks) (λ m.
    let at = among-place rank (length ranks) ranks (subst (λ rs. among rank rs ≡ true) (sym (take_all (length ranks) ranks (omega arith))) m) in
    let slot = slots at.0 at.2 in
    none at.0 at.2 (subst (λ r. r < length places) at.3 slot.0) (subst (λ r. get_or places r 0 ≡ at.0) at.3 slot.1) at.3)

pub slots-place : (places ranks : List ℕ) (rank place : ℕ) → AreSlots places ranks → get_or places rank 0 ≡ place
    → place < length ranks → get_or ranks place 0 ≡ rank → IsPlace ranks rank place
slots-place places ranks rank place slots is within here = record {
  within = within;
  here = here;
  first = false_from_ne_true (among rank (take place ranks)) (λ m.
      let at = among-place rank place ranks m in
      let slot = slots at.0 at.2 in
      let same : get_or places rank 0 ≡ at.0 = subst (λ r. get_or places r 0 ≡ at.0) at.3 slot.1 in
      let low = at.1 in
      absurd (omega (arith, same, is, low)));
}

each-place : (P : ℕ → Type 0) (ranks : List ℕ) → ((i : ℕ) → i < length ranks → P (get_or ranks i 0)) → AllByRecursion P ranks
each-place P [] all = tt
each-place P (r ∷ ranks) all = (all 0 (omega arith), each-place P ranks (λ i within. all (suc i) (omega arith)))

pub slots-below : (places ranks : List ℕ) → AreSlots places ranks → AllByRecursion (λ rank. rank < length places) ranks
slots-below places ranks slots = each-place (λ rank. rank < length places) ranks (λ i within. (slots i within).0)

distinct-from : (ranks : List ℕ) → ((i j : ℕ) → i < j → j < length ranks → get_or ranks i 0 ≢ get_or ranks j 0) → IsDistinct nat_eq ranks
unfolding IsDistinct
distinct-from [] apart = tt
distinct-from (r ∷ ranks) apart = (
  each-place (λ y. eqb r y ≡ false) ranks (λ i within. ne_eqb r (get_or ranks i 0) (apart 0 (suc i) (omega arith) (omega arith))),
  distinct-from ranks (λ i j low within. apart (suc i) (suc j) (omega arith) (omega arith)),
)

pub slots-distinct : (places ranks : List ℕ) → AreSlots places ranks → IsDistinct nat_eq ranks
slots-distinct places ranks slots = distinct-from ranks (λ i j low within e.
    let first = slots i (omega arith) in
    let second = slots j within in
    let one : get_or places (get_or ranks j 0) 0 ≡ i = subst (λ r. get_or places r 0 ≡ i) e first.1 in
    let two = second.1 in
    absurd (omega (arith, one, two, low)))

-- a rank at whose place it does not stand has none

pub missing : (places ranks : List ℕ) (rank : ℕ) → AreSlots places ranks
    → (rank < length places → get_or places rank 0 < length ranks → get_or ranks (get_or places rank 0) 0 ≡ rank → ⊥)
    → among rank ranks ≡ false
missing places ranks rank slots none = slots-absent places ranks rank slots (λ i within below at here.
    none below (subst (λ k. k < length ranks) (sym at) within) (subst (λ k. get_or ranks k 0 ≡ rank) (sym at) here))
