-- No prefix earns more with later items than its bound.
use Rattle.std.proofs.Common.{◌≡◌, ℕ, Bool, true, false, cond, eqb, ◌&&◌, ℤ, pos, ◌+ℤ◌, ◌≤ℤ◌, List, [], ◌∷◌, ◌++◌, refl, sym, subst, inl, inr, arith}
use Rattle.std.proofs.lemmas.Bool.{cases_eq, eq-eqb, ne_eqb}
use Rattle.std.proofs.lemmas.Int.{ints}
use Rattle.hu_kind.specs.Record.{holds, value_of, values_of, utility_in, positive_part}
use Rattle.hu_kind.specs.Database.{utility}
use Rattle.hu_kind.proofs.lemmas.Earned.{positive_part-upper}
use Rattle.hu_kind.proofs.lemmas.Members.{Member}
use Rattle.hu_kind.proofs.lemmas.Occurring.{at_member, holds-append, values_of-append}
use Rattle.hu_proof.specs.Bounds.{is_among, later_gain, bound_in, cut_bound}
use Rattle.hu_proof.specs.Places.{Apart, Follows}
use Rattle.hu_proof.proofs.Orders.{member-among, each-follows, Apart-follows}
use Rattle.hu_proof.proofs.lemmas.OrderMembers.{among-member, not_among}

-- ---- values of later items

part-monotone : (a b : Bool) (value : ℤ) → (a ≡ true → b ≡ true) → cond a (positive_part value) (pos 0) ≤ℤ cond b (positive_part value) (pos 0)
part-monotone true b value w = let here : b ≡ true = w refl in rw here (omega (arith, ints))
part-monotone false true value w = (positive_part-upper value).1
part-monotone false false value w = omega (arith, ints)

-- more items gain no less
pub later_gain-monotone : (xs ys : List ℕ) (cells : List (ℕ × ℤ)) → ((x : ℕ) → Member x xs → Member x ys) → later_gain xs cells ≤ℤ later_gain ys cells
later_gain-monotone xs ys [] w = omega (arith, ints)
later_gain-monotone xs ys (cell ∷ cells) w =
    let ih = later_gain-monotone xs ys cells w in
    let here = part-monotone (is_among cell.0 xs) (is_among cell.0 ys) cell.1 (λ h. member-among cell.0 ys (w cell.0 (among-member cell.0 xs h))) in
    omega (arith, ints)

-- an item more adds its value
later_gain-more : (x : ℕ) (xs : List ℕ) (cells : List (ℕ × ℤ)) → (Member x xs → ⊥)
    → (positive_part (value_of x cells) +ℤ later_gain xs cells) ≤ℤ later_gain (x ∷ xs) cells
later_gain-more x xs [] out = omega (arith, ints)
later_gain-more x xs (cell ∷ cells) out = elim (cases_eq x cell.0) [
  | inl e ↦
      let here : eqb x cell.0 ≡ true = eq-eqb x cell.0 e in
      let back : eqb cell.0 x ≡ true = eq-eqb cell.0 x (sym e) in
      let gone : is_among cell.0 xs ≡ false = not_among cell.0 xs (subst (λ y. Member y xs → ⊥) e out) in
      let more = later_gain-monotone xs (x ∷ xs) cells (λ y m. inr m) in
      simp (here, back, gone) (omega (arith, ints))
  | inr ne ↦
      let here : eqb x cell.0 ≡ false = ne_eqb x cell.0 ne in
      let back : eqb cell.0 x ≡ false = ne_eqb cell.0 x (λ e. ne (sym e)) in
      let ih = later_gain-more x xs cells out in
      simp (here, back) (omega (arith, ints))
]

pub values_of-later_gain : (xs : List ℕ) (cells : List (ℕ × ℤ)) → Apart xs → values_of xs cells ≤ℤ later_gain xs cells
values_of-later_gain [] [] apart = omega (arith, ints)
values_of-later_gain [] (cell ∷ cells) apart = let ih = values_of-later_gain [] cells apart in omega (arith, ints)
values_of-later_gain (x ∷ xs) cells apart =
    let ih = values_of-later_gain xs cells apart.1 in
    let more = later_gain-more x xs cells apart.0 in
    let upper = (positive_part-upper (value_of x cells)).0 in
    omega (arith, ints)

-- items that follow in an order earn no more in a record than what all of the order gain
pub values_of-follows : (later xs : List ℕ) (cells : List (ℕ × ℤ)) → Apart later → Follows later xs → values_of xs cells ≤ℤ later_gain later cells
values_of-follows later xs cells apart f =
    let some = values_of-later_gain xs cells (Apart-follows later xs apart f) in
    let more = later_gain-monotone xs later cells (λ x m. at_member (λ y. Member y later) x xs (each-follows later xs f) m) in
    omega (arith, ints)

-- ---- a prefix with later items

and-assoc : (a b c : Bool) → (a && (b && c)) ≡ ((a && b) && c)
and-assoc true b c = refl
and-assoc false b c = refl

utility_in-bound : (prefix later xs : List ℕ) (cells : List (ℕ × ℤ)) → Apart later → Follows later xs
    → utility_in (prefix ++ xs) cells ≤ℤ bound_in prefix later cells
utility_in-bound prefix later xs cells apart f = simp (holds-append prefix xs cells, values_of-append prefix xs cells)
    (by (holds prefix cells) (holds xs cells))
  where
    by : (a b : Bool) → cond (a && b) (values_of prefix cells +ℤ values_of xs cells) (pos 0) ≤ℤ cond a
        (positive_part (values_of prefix cells +ℤ later_gain later cells)) (pos 0)
    by true true =
        let upper = (positive_part-upper (values_of prefix cells +ℤ later_gain later cells)).0 in
        let more = values_of-follows later xs cells apart f in
        omega (arith, ints)
    by true false = (positive_part-upper (values_of prefix cells +ℤ later_gain later cells)).1
    by false b = omega (arith, ints)

-- no prefix earns more with later items than its bound
pub utility-cut_bound : (records : List (List (ℕ × ℤ))) (prefix later xs : List ℕ) → Apart later → Follows later xs
    → utility records (prefix ++ xs) ≤ℤ cut_bound records prefix later
utility-cut_bound [] prefix later xs apart f = omega (arith, ints)
utility-cut_bound (r ∷ rs) prefix later xs apart f =
    let ih = utility-cut_bound rs prefix later xs apart f in
    let one = utility_in-bound prefix later xs r apart f in
    omega (arith, ints)
