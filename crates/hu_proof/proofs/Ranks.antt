-- Items of an order by how many stand before them.
use Rattle.std.proofs.Common.{◌≡◌, ℕ, zero, suc, ◌+◌, ◌<◌, ◌≤◌, true, false, eqb, nat_eq, List, [], ◌∷◌, length, drop, get_or, position, None, Some, refl, sym}
use Rattle.std.proofs.Common.{ap, ◌∙◌, subst, inr, arith}
use Rattle.std.specs.List.{position_or_len}
use Rattle.std.proofs.lemmas.Bool.{eqb-true, eq-eqb, ne_eqb}
use Rattle.std.proofs.lemmas.Bool.Decides.{nat_tests}
use Rattle.std.proofs.lemmas.List.Quantifiers.{position-Some}
use Rattle.std.proofs.lemmas.List.Sums.{fails_before_first}
use Rattle.hu_kind.proofs.lemmas.Members.{Member, Member-get}
use Rattle.hu_proof.specs.Bounds.{is_among, after}
use Rattle.hu_proof.specs.Places.{Apart}
use Rattle.hu_proof.proofs.Orders.{member-among}
use Rattle.hu_proof.proofs.lemmas.OrderMembers.{not_among}

-- an item stands at a place of an order
pub record StandsAt (order : List ℕ) (item rank : ℕ) : Type 0 where
  pub within : rank < length order
  pub is : get_or order rank item ≡ item

pub StandsAt-position : (order : List ℕ) (item rank : ℕ) → position (nat_eq item) order ≡ Some rank → StandsAt order item rank
StandsAt-position order item rank e =
    let found = position-Some (nat_eq item) order rank item e in
    record { within = found.0; is = sym (eqb-true item (get_or order rank item) found.1) }

none-before : (order : List ℕ) (item : ℕ) → position (nat_eq item) order ≡ None → (k : ℕ) → k < length order → eqb item (get_or order k item) ≡ false
none-before order item e k within =
    let end : length order ≤ position_or_len (nat_eq item) order = grind (arith, nat_tests) in
    fails_before_first (nat_eq item) order k item (omega arith)

no-member : (order : List ℕ) (item : ℕ) → ((k : ℕ) → k < length order → eqb item (get_or order k item) ≡ false) → is_among item order ≡ false
no-member [] item h = refl
no-member (x ∷ xs) item h = simp (h 0 (omega arith)) (no-member xs item (λ k within. h (suc k) (omega arith)))

pub not_among-position : (order : List ℕ) (item : ℕ) → position (nat_eq item) order ≡ None → is_among item order ≡ false
not_among-position order item e = no-member order item (none-before order item e)

pub Member-from_drop : (x k : ℕ) (xs : List ℕ) → Member x (drop k xs) → Member x xs
Member-from_drop x zero xs m = m
Member-from_drop x (suc k) [] m = absurd m
Member-from_drop x (suc k) (y ∷ ys) m = inr (Member-from_drop x k ys m)

pub not_among-drop : (order : List ℕ) (item k : ℕ) → position (nat_eq item) order ≡ None → is_among item (drop k order) ≡ false
not_among-drop order item k e =
    not_among item (drop k order) (λ m. let out : true ≡ false =
    sym (member-among item order (Member-from_drop item k order m)) ∙ not_among-position order item e in cc)

pub Member-drop : (order : List ℕ) (item rank k : ℕ) → StandsAt order item rank → k ≤ rank → Member item (drop k order)
Member-drop order item rank zero s below = subst (λ x. Member x order) s.is (Member-get order rank item s.within)
Member-drop [] item rank (suc k) s below = absurd (omega (arith, s.within))
Member-drop (x ∷ xs) item zero (suc k) s below = absurd (omega arith)
Member-drop (x ∷ xs) item (suc rank) (suc k) s below = Member-drop xs item rank k (record { within = omega (arith, s.within); is = s.is }) (omega arith)

pub not_in-drop : (order : List ℕ) (item rank k : ℕ) → Apart order → StandsAt order item rank → rank < k → Member item (drop k order) → ⊥
not_in-drop order item rank zero apart s below m = absurd (omega arith)
not_in-drop [] item rank (suc k) apart s below m = m
not_in-drop (x ∷ xs) item zero (suc k) apart s below m = apart.0 (subst (λ y. Member y xs) (sym s.is) (Member-from_drop item k xs m))
not_in-drop (x ∷ xs) item (suc rank) (suc k) apart s below m =
    not_in-drop xs item rank k apart.1 (record { within = omega (arith, s.within); is = s.is }) (omega arith) m

pub after-drop : (order : List ℕ) (item rank k : ℕ) → Apart order → StandsAt order item rank → k ≤ rank → after item (drop k order) ≡ drop (rank + 1) order
after-drop [] item rank k apart s below = absurd (omega (arith, s.within))
after-drop (x ∷ xs) item zero zero apart s below = simp (eq-eqb item x (sym s.is))
after-drop (x ∷ xs) item (suc rank) zero apart s below =
    let at : StandsAt xs item rank = record { within = omega (arith, s.within); is = s.is } in
    let other : eqb item x ≡ false = ne_eqb item x (λ e. apart.0 (subst (λ y. Member y xs) e (Member-drop xs item rank 0 at (omega arith)))) in
    let e : suc rank + 1 ≡ suc (rank + 1) = omega arith in
    simp other (after-drop xs item rank zero apart.1 at (omega arith) ∙ sym (ap (λ n. drop n (x ∷ xs)) e))
after-drop (x ∷ xs) item zero (suc k) apart s below = absurd (omega arith)
after-drop (x ∷ xs) item (suc rank) (suc k) apart s below =
    let e : suc rank + 1 ≡ suc (rank + 1) = omega arith in
    after-drop xs item rank k apart.1 (record { within = omega (arith, s.within); is = s.is }) (omega arith) ∙ sym (ap (λ n. drop n (x ∷ xs)) e)
