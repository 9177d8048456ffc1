-- The records at places that rise share with a batch what all records do, where each that holds an item of it is among them.
use Rattle.std.proofs.Common.{◌≡◌, ◌∙◌, ℕ, suc, ◌+◌, ◌-◌, ◌<◌, ◌≤◌, ℤ, true, false, List, [], ◌∷◌, ◌++◌, length, get_or, refl, sym, ap, subst, inl, inr, arith}
use Rattle.std.proofs.Common.{flat_map, Contains}
use Rattle.std.specs.List.{AllByRecursion}
use Rattle.std.specs.List.Sorted.{IsStrictlyIncreasing}
use Rattle.std.proofs.lemmas.Bool.{cases_lt, cases_order}
use Rattle.std.proofs.lemmas.List.{get_or_append_left, get_or_past}
use Rattle.hu_kind.specs.Order.{Ascend}
use Rattle.hu_kind.specs.Record.{has}
use Rattle.hu_kind.proofs.lemmas.Each.{each-weaker}
use Rattle.hu_kind.proofs.lemmas.Members.{Member, Member-from_contains, Member-from_filter, Member-map}
use Rattle.hu_kind.proofs.lemmas.Occurring.{above_all, at_member, has-from_member}
use Rattle.hu_kept.specs.Holders.{AreHolders}
use Rattle.hu_kept.specs.Shared.{occurs_in, shared, shared_at, shared_cells, some_of}

Ascend-rising-from : (x : ℕ) (xs : List ℕ) → IsStrictlyIncreasing (x ∷ xs) → Ascend (x ∷ xs)
Ascend-rising-from x [] up = (tt, tt)
Ascend-rising-from x (y ∷ ys) up =
    let up' : IsStrictlyIncreasing (y ∷ ys) =
    λ k within. let e : suc k + 1 ≡ suc (k + 1) =
    omega arith in subst (λ j. get_or (y ∷ ys) k 0 < get_or (x ∷ y ∷ ys) j 0) e
    (up (suc k) (omega arith)) in
    let rest = Ascend-rising-from y ys up' in
    let before : x < y = up 0 (omega arith) in
    ((before, above_all x y ys before rest.0), rest)

Ascend-rising : (xs : List ℕ) → IsStrictlyIncreasing xs → Ascend xs
Ascend-rising [] up = tt
Ascend-rising (x ∷ xs) up = Ascend-rising-from x xs up

module _ (f : List (ℕ × ℤ) → List (List (ℕ × ℤ))) (nothing : f [] ≡ []) where
  -- what the records from a place on give at some places
  abbrev given : ℕ → List (List (ℕ × ℤ)) → List ℕ → List (List (ℕ × ℤ))
  given from records places = flat_map (λ place. f (get_or records (place - from) [])) places

  given-none : (from : ℕ) (places : List ℕ) → given from [] places ≡ []
  given-none from [] = refl
  given-none from (p ∷ ps) = (λ j. nothing j ++ given-none from ps j)

  -- later places see the later records
  given-later : (from : ℕ) (r : List (ℕ × ℤ)) (records : List (List (ℕ × ℤ))) (places : List ℕ) → AllByRecursion (λ p. from < p) places
      → given from (r ∷ records) places ≡ given (suc from) records places
  given-later from r records [] all = refl
  given-later from r records (p ∷ ps) all =
      let here : p - from ≡ suc (p - suc from) = omega (arith, all.0) in
      (λ j. f (get_or (r ∷ records) (here j) []) ++ given-later from r records ps all.1 j)

  -- the place of each record that gives something is there
  abbrev Whole : ℕ → List (List (ℕ × ℤ)) → List ℕ → Type 0
  Whole from records places = (p : ℕ) → from ≤ p → (f (get_or records (p - from) []) ≡ [] → ⊥) → Member p places

  Whole-later : (from : ℕ) (r : List (ℕ × ℤ)) (records : List (List (ℕ × ℤ))) (places : List ℕ) → Whole from (r ∷ records) places
      → Whole (suc from) records places
  Whole-later from r records places whole p low some =
      let here : p - from ≡ suc (p - suc from) = omega (arith, low) in
      whole p (omega (arith, low)) (λ e. some (sym (ap (λ k. f (get_or (r ∷ records) k [])) here) ∙ e))

  first-none : (from : ℕ) (r : List (ℕ × ℤ)) (records : List (List (ℕ × ℤ))) (places : List ℕ) → (Member from places → ⊥)
      → Whole from (r ∷ records) places → f r ≡ []
  first-none from r records places out whole = by (f r) refl
    where
      here : from - from ≡ 0
      here = omega arith

      by : (rs : List (List (ℕ × ℤ))) → f r ≡ rs → rs ≡ []
      by [] e = refl
      by (x ∷ xs) e =
          absurd
          (out (whole from (omega arith) (λ none.
          let no : x ∷ xs ≡ [] = sym e ∙ sym (ap (λ k. f (get_or (r ∷ records) k [])) here) ∙ none in
          cc)))

  above-out : (x : ℕ) (xs : List ℕ) → AllByRecursion (λ y. x < y) xs → Member x xs → ⊥
  above-out x xs above m = let less = at_member (λ y. x < y) x xs above m in omega (arith, less)

  pub given-all : (from : ℕ) (records : List (List (ℕ × ℤ))) (places : List ℕ) → Ascend places → AllByRecursion (λ p. from ≤ p) places
      → Whole from records places → given from records places ≡ flat_map f records
  given-all from [] places up low whole = given-none from places
  given-all from (r ∷ records) [] up low whole =
      given-all (suc from) records [] tt tt (Whole-later from r records [] whole)
      ∙ (λ j. sym (first-none from r records [] (λ m. m) whole) j ++ flat_map f records)
  given-all from (r ∷ records) (p ∷ ps) up low whole = elim (cases_order from p) [
    | inl here ↦
        let above : AllByRecursion (λ q. from < q) ps = subst (λ x. AllByRecursion (λ q. x < q) ps) (sym here) up.0 in
        let at : p - from ≡ 0 = omega (arith, here) in
        let ih = given-all (suc from) records ps up.1 (each-weaker (λ q. from < q) (λ q. suc from ≤ q) ps (λ q l. omega (arith, l)) above)
        (λ q l some. rest q l (Whole-later from r records (p ∷ ps) whole q l some) here) in
        (λ j. f (get_or (r ∷ records) (at j) []) ++ given-later from r records ps above j) ∙ ap (λ rs. f r ++ rs) ih
    | inr (inl less) ↦
        let above : AllByRecursion (λ q. from < q) (p ∷ ps) = (less, above_all from p ps less up.0) in
        let ih = given-all (suc from) records (p ∷ ps) up (each-weaker (λ q. from < q) (λ q. suc from ≤ q) (p ∷ ps) (λ q l. omega (arith, l)) above)
        (Whole-later from r records (p ∷ ps) whole) in
        given-later from r records (p ∷ ps) above ∙ ih
        ∙ (λ j. sym (first-none from r records (p ∷ ps) (above-out from (p ∷ ps) above) whole) j ++ flat_map f records)
    | inr (inr more) ↦ absurd (let first = low.0 in omega arith)
  ]
    where
      rest : (q : ℕ) → suc from ≤ q → Member q (p ∷ ps) → from ≡ p → Member q ps
      rest q l (inl e) here = absurd (omega (arith, l, e, here))
      rest q l (inr m) here = m

-- ---- the places of a batch

some-left : (batch : List (List (ℕ × ℤ))) (cells : List (ℕ × ℤ)) → (some_of (shared_cells batch cells) ≡ [] → ⊥)
    → (item : ℕ) × (occurs_in batch item ≡ true) × (has item cells ≡ true)
some-left batch cells some = by (shared_cells batch cells) refl
  where
    by : (left : List (ℕ × ℤ)) → shared_cells batch cells ≡ left → (item : ℕ) × (occurs_in batch item ≡ true) × (has item cells ≡ true)
    by [] e = absurd (some (ap some_of e))
    by (c ∷ cs) e =
        let both = Member-from_filter (λ (cell : ℕ × ℤ). occurs_in batch cell.0) c cells (subst (Member c) (sym e) (inl refl)) in
        (c.0, both.1, has-from_member c.0 cells (Member-map (λ (cell : ℕ × ℤ). cell.0) c cells both.0))

given-start : (f : List (ℕ × ℤ) → List (List (ℕ × ℤ))) (records : List (List (ℕ × ℤ))) (places : List ℕ)
    → flat_map (λ place. f (get_or records place [])) places ≡ flat_map (λ place. f (get_or records (place - 0) [])) places
given-start f records [] = refl
given-start f records (p ∷ ps) =
    let same : p ≡ p - 0 = omega arith in
    (λ j. f (get_or records (same j) []) ++ given-start f records ps j)

each-least : (places : List ℕ) → AllByRecursion (λ p. 0 ≤ p) places
each-least [] = tt
each-least (p ∷ ps) = (omega arith, each-least ps)

pub shared_at-all : (batch records : List (List (ℕ × ℤ))) (places : List ℕ) → AreHolders batch records places
    → shared_at batch records places ≡ shared batch records
shared_at-all batch records places h =
    let share : List (ℕ × ℤ) → List (List (ℕ × ℤ)) = λ cells. some_of (shared_cells batch cells) in
    given-start share records places
    ∙ given-all share refl 0 records places (Ascend-rising places h.rising) (each-least places) (λ p low some.
    let same : p - 0 ≡ p = omega arith in
    let left = some-left batch (get_or records p []) (λ e. some (ap (λ k. share (get_or records k [])) same ∙ e)) in
    Member-from_contains p places (h.whole p left.0 left.1 left.2))

-- places that rise, among them those of the first records with an item of the batch, and all later ones
pub AreHolders-from : (batch noted records : List (List (ℕ × ℤ))) (places : List ℕ) → noted ++ batch ≡ records → IsStrictlyIncreasing places
    → ((place item : ℕ) → occurs_in batch item ≡ true → has item (get_or noted place []) ≡ true → Contains places place)
    → ((place : ℕ) → length noted ≤ place → place < length records → Contains places place)
    → AreHolders batch records places
AreHolders-from batch noted records places joined rising held later = record {
  rising = rising;
  whole = λ place item occurs h. elim (cases_lt place (length noted)) [
    | inl low ↦
        let same : get_or records place [] ≡ get_or noted place [] =
        ap (λ rs. get_or rs place []) (sym joined) ∙ get_or_append_left noted batch [] place low in
        held place item occurs (ap (has item) (sym same) ∙ h)
    | inr high ↦ elim (cases_lt place (length records)) [
      | inl within ↦ later place high within
      | inr past ↦
          let none : false ≡ true = ap (has item) (sym (get_or_past records place [] past)) ∙ h in
          cc
    ]
  ];
}
