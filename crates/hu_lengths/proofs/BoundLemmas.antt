-- No set with so many later ranks earns more than its bound.
use Rattle.std.proofs.Common.{◌≡◌, ℕ, zero, suc, ◌<◌, ◌≤◌, Bool, true, false, cond, eqb, nat_lt, int_lt, ◌&&◌, inl, inr, ℤ, pos, ◌+ℤ◌, ◌≤ℤ◌, List, [], ◌∷◌}
use Rattle.std.proofs.Common.{◌++◌, take, length, refl, sym, ap, ◌∙◌, subst, arith}
use Rattle.std.specs.List.{AllByRecursion, list_all}
use Rattle.std.proofs.lemmas.Bool.{eq-eqb, cases_eq, and_parts, and_from, and_right, lt-ltb, ltb-true}
use Rattle.std.proofs.lemmas.Int.{ints}
use Rattle.hu_kind.specs.Record.{has, holds, values_of, items_in, utility_in}
use Rattle.hu_kind.specs.Database.{utility}
use Rattle.hu_kind.specs.Order.{Ascend}
use Rattle.hu_kind.proofs.lemmas.Ascending.{Ascend-right, Ascend-across}
use Rattle.hu_kind.proofs.lemmas.Earned.{positive_part-upper}
use Rattle.hu_kind.proofs.lemmas.Members.{Member-append_right}
use Rattle.hu_kind.proofs.lemmas.Occurring.{at_member, above_all, by_members, has-member, holds-append, values_of-append}
use Rattle.hu_lengths.specs.Bound.{later_values, values_after, falling, sum_of, sized_most, sized_bound}
use Rattle.hu_lengths.proofs.GreatestLemmas.{NoLoss, first_sum, falling-falls, falling-least, first_sum-least, first_sum-more, put-keeps, put-counts}
use Rattle.hu_totals.proofs.lemmas.KeptLemmas.{values_of-skip, holds-skip}

-- ---- the values after a set are those after its last rank

after-last : (before : List ℕ) (last c : ℕ) → Ascend (before ++ last ∷ []) → list_all (λ rank. nat_lt rank c) (before ++ last ∷ []) ≡ nat_lt last c
after-last [] last c up = by (nat_lt last c)
  where
    by : (b : Bool) → (b && true) ≡ b
    by true = refl
    by false = refl
after-last (b ∷ bs) last c up = by (nat_lt last c) refl (after-last bs last c up.1)
  where
    low : b < last
    low = at_member (λ y. b < y) last (bs ++ last ∷ []) up.0 (Member-append_right last bs (last ∷ []) (inl refl))

    by : (t : Bool) → nat_lt last c ≡ t → list_all (λ rank. nat_lt rank c) (bs ++ last ∷ []) ≡ nat_lt last c
        → (nat_lt b c && list_all (λ rank. nat_lt rank c) (bs ++ last ∷ [])) ≡ nat_lt last c
    by true h rest =
        let high : last < c = ltb-true last c h in
        let under = low in
        and_from (nat_lt b c) (list_all (λ rank. nat_lt rank c) (bs ++ last ∷ [])) (lt-ltb b c (omega (arith, high, under))) (rest ∙ h) ∙ sym h
    by false h rest = and_right (nat_lt b c) (list_all (λ rank. nat_lt rank c) (bs ++ last ∷ [])) (rest ∙ h) ∙ sym h

pub later_values-last : (before : List ℕ) (last : ℕ) (cells : List (ℕ × ℤ)) → Ascend (before ++ last ∷ [])
    → later_values (before ++ last ∷ []) cells ≡ values_after last cells
later_values-last before last [] up = refl
later_values-last before last (cell ∷ cells) up =
    λ j. cond (after-last before last cell.0 up j && int_lt (pos 0) cell.1) (cell.1 ∷ []) [] ++ later_values-last before last cells up j

pub values_after-least : (last : ℕ) (cells : List (ℕ × ℤ)) → NoLoss (values_after last cells)
values_after-least last [] = tt
values_after-least last (cell ∷ cells) = by (nat_lt last cell.0) (int_lt (pos 0) cell.1) refl (values_after-least last cells)
  where
    by : (b c : Bool) → int_lt (pos 0) cell.1 ≡ c → NoLoss (values_after last cells) → NoLoss (cond (b && c) (cell.1 ∷ []) [] ++ values_after last cells)
    by true true h rest = (grind (arith, ints), rest)
    by true false h rest = rest
    by false c h rest = rest

-- ---- sets without a record's first cell

-- ---- the greatest values after a rank

abbrev best : ℕ → ℕ → List (ℕ × ℤ) → ℤ
best last n cells = first_sum n (falling (values_after last cells))

best-least : (last n : ℕ) (cells : List (ℕ × ℤ)) → pos 0 ≤ℤ best last n cells
best-least last n cells = first_sum-least n (falling (values_after last cells)) (falling-least (values_after last cells) (values_after-least last cells))

best-more : (last n : ℕ) (cells : List (ℕ × ℤ)) → best last n cells ≤ℤ best last (suc n) cells
best-more last n cells = first_sum-more n (falling (values_after last cells)) (falling-least (values_after last cells) (values_after-least last cells))

-- a cell more doesn't lessen them
best-keeps : (last n : ℕ) (cell : ℕ × ℤ) (cells : List (ℕ × ℤ)) → best last n cells ≤ℤ best last n (cell ∷ cells)
best-keeps last n cell cells = by (nat_lt last cell.0) (int_lt (pos 0) cell.1) refl
  where
    vs : List ℤ
    vs = values_after last cells

    by : (b c : Bool) → int_lt (pos 0) cell.1 ≡ c → first_sum n (falling (values_after last cells))
        ≤ℤ first_sum n (falling (cond (b && c) (cell.1 ∷ []) [] ++ values_after last cells))
    by true true h =
        put-keeps n cell.1 (falling (values_after last cells)) (falling-falls (values_after last cells))
        (falling-least (values_after last cells) (values_after-least last cells)) (grind (arith, ints))
    by true false h = omega (arith, ints)
    by false c h = omega (arith, ints)

-- and one more of them counts it, where its rank is later
best-counts : (last n : ℕ) (cell : ℕ × ℤ) (cells : List (ℕ × ℤ)) → last < cell.0 → (cell.1 +ℤ best last n cells) ≤ℤ best last (suc n) (cell ∷ cells)
best-counts last n cell cells later = subst (λ b. (cell.1 +ℤ best last n cells) ≤ℤ first_sum (suc n)
    (falling (cond (b && int_lt (pos 0) cell.1) (cell.1 ∷ []) [] ++ values_after last cells)))
    (sym (lt-ltb last cell.0 later)) (by (int_lt (pos 0) cell.1) refl)
  where
    by : (c : Bool) → int_lt (pos 0) cell.1 ≡ c → (cell.1 +ℤ best last n cells)
        ≤ℤ first_sum (suc n) (falling (cond c (cell.1 ∷ []) [] ++ values_after last cells))
    by true h = put-counts n cell.1 (falling (values_after last cells))
    by false h = let more = best-more last n cells in let low : cell.1 ≤ℤ pos 0 = grind (arith, ints) in omega (arith, ints, more, low)

-- ---- later ranks earn no more than the greatest values

pub values_of-best : (last n : ℕ) (more : List ℕ) (cells : List (ℕ × ℤ)) → Ascend more → AllByRecursion (λ m. last < m) more → length more ≤ n
    → Ascend (items_in cells) → holds more cells ≡ true → values_of more cells ≤ℤ best last n cells
values_of-best last n [] cells up after few rise h = best-least last n cells
values_of-best last zero (m ∷ ms) cells up after few rise h = absurd (omega (arith, few))
values_of-best last (suc n) (m ∷ ms) [] up after few rise h = cc
values_of-best last (suc n) (m ∷ ms) (cell ∷ cells) up after few rise h = elim (cases_eq m cell.0) [
  | inl e ↦
      let both = and_parts (has m (cell ∷ cells)) (holds ms (cell ∷ cells)) h in
      let above : AllByRecursion (λ i. cell.0 < i) ms = subst (λ x. AllByRecursion (λ i. x < i) ms) e up.0 in
      let rest = values_of-best last n ms cells up.1 after.1 (omega (arith, few)) rise.1 (sym (holds-skip ms cell cells above) ∙ both.1) in
      let here : eqb m cell.0 ≡ true = eq-eqb m cell.0 e in
      let later : last < cell.0 = subst (λ x. last < x) e after.0 in
      let counts = best-counts last n cell cells later in
      rw here (rw (values_of-skip ms cell cells above) (omega (arith, ints, rest, counts)))
  | inr ne ↦
      let both = and_parts (has m (cell ∷ cells)) (holds ms (cell ∷ cells)) h in
      let later : cell.0 < m = elim (has-member m (cell ∷ cells) both.0) [
        | inl e ↦ absurd (ne (sym e))
        | inr n ↦ at_member (λ i. cell.0 < i) m (items_in cells) rise.0 n
      ] in
      let above : AllByRecursion (λ i. cell.0 < i) (m ∷ ms) = (later, above_all cell.0 m ms later up.0) in
      let rest = values_of-best last (suc n) (m ∷ ms) cells up after few rise.1 (sym (holds-skip (m ∷ ms) cell cells above) ∙ h) in
      let keeps = best-keeps last (suc n) cell cells in
      rw (values_of-skip (m ∷ ms) cell cells above) (omega (arith, ints, rest, keeps))
]

-- ---- the law

module _ (before more : List ℕ) (last room : ℕ) (up : Ascend ((before ++ last ∷ []) ++ more)) (ends : Ascend (before ++ last ∷ []))
    (few : length more ≤ room) where
  later : AllByRecursion (λ m. last < m) more
  later = by_members (λ m. last < m) more (λ m n.
      at_member (λ x. x < m) last (before ++ last ∷ []) (Ascend-across (before ++ last ∷ []) more up m n) (Member-append_right last before
      (last ∷ []) (inl refl)))

  in_record : (cells : List (ℕ × ℤ)) → Ascend (items_in cells)
      → utility_in ((before ++ last ∷ []) ++ more) cells ≤ℤ cond (holds (before ++ last ∷ []) cells) (sized_most (before ++ last ∷ []) room cells) (pos 0)
  in_record cells rise =
      let set = before ++ last ∷ [] in
      subst (λ b. cond b (values_of (set ++ more) cells) (pos 0) ≤ℤ cond (holds set cells) (sized_most set room cells) (pos 0)) (sym
      (holds-append set more cells))
      (by (holds set cells) (holds more cells) refl)
    where
      same : later_values (before ++ last ∷ []) cells ≡ values_after last cells
      same = later_values-last before last cells ends

      by : (b c : Bool) → holds more cells ≡ c
          → cond (b && c) (values_of ((before ++ last ∷ []) ++ more) cells) (pos 0) ≤ℤ cond b (sized_most (before ++ last ∷ []) room cells) (pos 0)
      by true true h =
          let set = before ++ last ∷ [] in
          let sum = values_of-append set more cells in
          let within = values_of-best last room more cells (Ascend-right set more up) later few rise h in
          let equal : sum_of (take room (falling (later_values set cells))) ≡ best last room cells = ap (λ vs. first_sum room (falling vs)) same in
          let part = (positive_part-upper (values_of set cells +ℤ sum_of (take room (falling (later_values set cells))))).0 in
          omega (arith, ints, sum, within, equal, part)
      by true false h =
          (positive_part-upper (values_of (before ++ last ∷ []) cells
          +ℤ sum_of (take room (falling (later_values (before ++ last ∷ []) cells))))).1
      by false c h = omega (arith, ints)

  pub utility-bounded : (records : List (List (ℕ × ℤ))) → AllByRecursion (λ cells. Ascend (items_in cells)) records
      → utility records ((before ++ last ∷ []) ++ more) ≤ℤ sized_bound records (before ++ last ∷ []) room
  utility-bounded [] rise = omega (arith, ints)
  utility-bounded (cells ∷ records) rise =
      let one = in_record cells rise.0 in
      let rest = utility-bounded records rise.1 in
      omega (arith, ints, one, rest)
