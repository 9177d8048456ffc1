-- What passes over tails come to: sums of what sets with a rank more earn, bounds on them, and their tails.
use Rattle.std.proofs.Common.{◌≡◌, ℕ, ◌+◌, ◌<◌, Bool, true, false, cond, eqb, nat_lt, ◌&&◌, ℤ, pos, ◌+ℤ◌, ◌≤ℤ◌, List, [], ◌∷◌, ◌++◌, length, filter, inl, inr}
use Rattle.std.proofs.Common.{refl, sym, ap, ◌∙◌, subst, arith, append_assoc, append-nil}
use Rattle.std.specs.List.{AllByRecursion}
use Rattle.std.proofs.lemmas.Bool.{ne_eqb, eq-eqb, cases_eq, le-ltb}
use Rattle.std.proofs.lemmas.Int.{ints}
use Rattle.std.proofs.lemmas.List.Elements.{filter-append}
use Rattle.hu_kind.specs.Order.{Ascend}
use Rattle.hu_kind.specs.Record.{has, holds, value_of, values_of, items_in, positive_part}
use Rattle.hu_kind.proofs.lemmas.Occurring.{at_member, has-member}
use Rattle.hu_list.specs.declared.sums.Sum.{Sum}
use Rattle.hu_list.specs.Tails.{TailOf, earned, held, grown_at, grown, has_cells, share, gain_with}
use Rattle.hu_list.specs.Passes.{met, met_in, gaining, summing, sum_with, growing}
use Rattle.hu_totals.specs.Cells.{after, among, kept_gain}
use Rattle.hu_totals.proofs.lemmas.AfterLemmas.{Ascend-after, after-all, holds-after, values_of-after}
use Rattle.hu_totals.proofs.lemmas.KeptLemmas.{positive-least, positive-above, values_of-kept, has-among}

-- ---- a rank in a tail's cells

-- what a pass leaves at a rank: what its cell makes, by the cells after it
module _ {A : Type 0} (make : ℕ × ℤ → List (ℕ × ℤ) → A → A) (z : ℕ) where
  pub met-is : (cells : List (ℕ × ℤ)) (a : A) → Ascend (items_in cells) → met make z cells a
      ≡ cond (has z cells) (make (z, value_of z cells) (after z cells) a) a
  met-is [] a up = refl
  met-is (cell ∷ cells) a up = elim (cases_eq z cell.0) [
    | inl e ↦
        let here : eqb z cell.0 ≡ true = eq-eqb z cell.0 e in
        let not_after : nat_lt z cell.0 ≡ false = le-ltb z cell.0 (omega (arith, e)) in
        let rest : after z cells ≡ cells = after-all z cells (subst (λ x. AllByRecursion (λ y. x < y) (items_in cells)) (sym e) up.0) in
        let rank' : cell.0 ≡ z = sym e in
        let rest' : cells ≡ after z cells = sym rest in
        rw (here, not_after) (λ j. make (rank' j, cell.1) (rest' j) a)
    | inr ne ↦
        let other : eqb z cell.0 ≡ false = ne_eqb z cell.0 ne in
        rw other (met-is cells a up.1 ∙ by (has z cells) refl)
  ]
    where
      by : (b : Bool) → has z cells ≡ b → cond b (make (z, value_of z cells) (after z cells) a) a
          ≡ cond b (make (z, value_of z cells) (cond (nat_lt z cell.0) (cell ∷ after z cells) (after z cells)) a) a
      by true h = let low =
          at_member (λ y. cell.0 < y) z (items_in cells) up.0 (has-member z cells h) in let no : nat_lt z cell.0
          ≡ false = le-ltb z cell.0 (omega (arith, low)) in rw no refl
      by false h = refl

-- the ranks of each tail ascend
abbrev pub AllUp : List TailOf → Type 0
AllUp tails = AllByRecursion (λ tail. Ascend (items_in tail.cells)) tails

-- ---- gains

gained-one : (keep : List ℕ) (z : ℕ) (tail : TailOf) (a : ℤ) → Ascend (items_in tail.cells) → among z keep ≡ true
    → met (gaining keep tail) z tail.cells a ≡ a +ℤ cond (has z tail.cells) (share keep tail) (pos 0)
gained-one keep z tail a up kept = met-is (gaining keep tail) z tail.cells a up ∙ rw kept (by (has z tail.cells))
  where
    by : (b : Bool) → cond b (a +ℤ share keep tail) a ≡ a +ℤ cond b (share keep tail) (pos 0)
    by true = refl
    by false = omega (arith, ints)

pub gained : (keep : List ℕ) (z : ℕ) (tails : List TailOf) (a : ℤ) → AllUp tails → among z keep ≡ true
    → met_in (gaining keep) z tails a ≡ a +ℤ gain_with keep tails z
gained keep z [] a ups kept = omega (arith, ints)
gained keep z (tail ∷ tails) a ups kept =
    let one = gained-one keep z tail a ups.0 kept in
    let rest = gained keep z tails (met (gaining keep tail) z tail.cells a) ups.1 kept in
    omega (arith, ints, one, rest)

gained-same : (keep : List ℕ) (z : ℕ) (tail : TailOf) (a : ℤ) → Ascend (items_in tail.cells) → among z keep ≡ false → met (gaining keep tail) z tail.cells a ≡ a
gained-same keep z tail a up out = met-is (gaining keep tail) z tail.cells a up ∙ rw out (by (has z tail.cells))
  where
    by : (b : Bool) → cond b a a ≡ a
    by true = refl
    by false = refl

pub gained-out : (keep : List ℕ) (z : ℕ) (tails : List TailOf) (a : ℤ) → AllUp tails → among z keep ≡ false → met_in (gaining keep) z tails a ≡ a
gained-out keep z [] a ups out = refl
gained-out keep z (tail ∷ tails) a ups out = gained-out keep z tails (met (gaining keep tail) z tail.cells a) ups.1 out ∙ gained-same keep z tail a ups.0 out

-- a rank at no tail gains nothing
pub gain-unheld : (keep : List ℕ) (z : ℕ) (tails : List TailOf) → held tails (z ∷ []) ≡ 0 → gain_with keep tails z ≡ pos 0
gain-unheld keep z [] none = refl
gain-unheld keep z (tail ∷ tails) none = by (has z tail.cells) none (gain-unheld keep z tails)
  where
    by : (b : Bool) → cond (b && true) 1 0 + held tails (z ∷ []) ≡ 0 → (held tails (z ∷ []) ≡ 0 → gain_with keep tails z ≡ pos 0)
        → cond b (share keep tail) (pos 0) +ℤ gain_with keep tails z ≡ pos 0
    by true none rest = absurd (omega (arith, none))
    by false none rest = let zero = rest (omega (arith, none)) in omega (arith, ints, zero)

earned-share : (keep set : List ℕ) (z : ℕ) (tail : TailOf) → Ascend (items_in tail.cells) → Ascend set
    → AllByRecursion (λ rank. among rank keep ≡ true) set → among z set ≡ true
    → cond (holds set tail.cells) (tail.own +ℤ values_of set tail.cells) (pos 0) ≤ℤ cond (has z tail.cells) (share keep tail) (pos 0)
earned-share keep set z tail up rise kept m = by (holds set tail.cells) (has z tail.cells) refl refl
  where
    by : (b c : Bool) → holds set tail.cells ≡ b → has z tail.cells ≡ c
        → cond b (tail.own +ℤ values_of set tail.cells) (pos 0) ≤ℤ cond c (share keep tail) (pos 0)
    by true true h k = omega (arith, ints, positive-above (tail.own +ℤ kept_gain keep tail.cells), values_of-kept keep tail.cells set up rise kept h)
    by true false h k = let there = has-among z set tail.cells m h in cc
    by false true h k = positive-least (tail.own +ℤ kept_gain keep tail.cells)
    by false false h k = omega (arith, ints)

-- no set of kept ranks earns more than any of its ranks gains
pub earned-gain : (keep set : List ℕ) (z : ℕ) (tails : List TailOf) → AllUp tails → Ascend set
    → AllByRecursion (λ rank. among rank keep ≡ true) set → among z set ≡ true
    → earned tails set ≤ℤ gain_with keep tails z
earned-gain keep set z [] ups rise kept m = omega (arith, ints)
earned-gain keep set z (tail ∷ tails) ups rise kept m =
    omega (arith, ints, earned-share keep set z tail ups.0 rise kept m, earned-gain keep set z tails ups.1 rise kept m)

-- ---- sums

summed-one : (keep : List ℕ) (z : ℕ) (tail : TailOf) (a : Sum) → Ascend (items_in tail.cells) → among z keep ≡ true
    → met (summing keep tail) z tail.cells a ≡ cond (has z tail.cells) (sum_with a (tail.own +ℤ value_of z tail.cells) (kept_gain keep (after z tail.cells))) a
summed-one keep z tail a up kept = met-is (summing keep tail) z tail.cells a up ∙ rw kept refl

pub summed-support : (keep : List ℕ) (z : ℕ) (tails : List TailOf) (a : Sum) → AllUp tails → among z keep ≡ true
    → (met_in (summing keep) z tails a).support ≡ a.support + held tails (z ∷ [])
summed-support keep z [] a ups kept = omega arith
summed-support keep z (tail ∷ tails) a ups kept =
    let one = ap (λ (s : Sum). s.support) (summed-one keep z tail a ups.0 kept) in
    let rest = summed-support keep z tails (met (summing keep tail) z tail.cells a) ups.1 kept in
    omega (arith, rest, one, by (has z tail.cells))
  where
    by : (b : Bool)
        → (cond b (sum_with a (tail.own +ℤ value_of z tail.cells) (kept_gain keep (after z tail.cells))) a).support
        ≡ a.support + cond (b && true) 1 0
    by true = refl
    by false = omega arith

pub summed-utility : (keep : List ℕ) (z : ℕ) (tails : List TailOf) (a : Sum) → AllUp tails → among z keep ≡ true
    → (met_in (summing keep) z tails a).utility ≡ a.utility +ℤ earned tails (z ∷ [])
summed-utility keep z [] a ups kept = omega (arith, ints)
summed-utility keep z (tail ∷ tails) a ups kept =
    let one = ap (λ (s : Sum). s.utility) (summed-one keep z tail a ups.0 kept) in
    let rest = summed-utility keep z tails (met (summing keep tail) z tail.cells a) ups.1 kept in
    omega (arith, ints, rest, one, by (has z tail.cells))
  where
    by : (b : Bool) → (cond b (sum_with a (tail.own +ℤ value_of z tail.cells) (kept_gain keep (after z tail.cells))) a).utility
        ≡ a.utility +ℤ cond (b && true) (tail.own +ℤ (value_of z tail.cells +ℤ pos 0)) (pos 0)
    by true = omega (arith, ints)
    by false = omega (arith, ints)

earned-most : (keep more : List ℕ) (z : ℕ) (tail : TailOf) → Ascend (items_in tail.cells) → Ascend (z ∷ more)
    → AllByRecursion (λ rank. among rank keep ≡ true) more
    → cond (has z tail.cells && holds more tail.cells) (tail.own +ℤ (value_of z tail.cells +ℤ values_of more tail.cells)) (pos 0)
    ≤ℤ cond (has z tail.cells) (positive_part (tail.own +ℤ value_of z tail.cells +ℤ kept_gain keep (after z tail.cells))) (pos 0)
earned-most keep more z tail up rise kept = by (has z tail.cells) (holds more tail.cells) refl
  where
    by : (b c : Bool) → holds more tail.cells ≡ c → cond (b && c) (tail.own +ℤ (value_of z tail.cells +ℤ values_of more tail.cells)) (pos 0)
        ≤ℤ cond b (positive_part (tail.own +ℤ value_of z tail.cells +ℤ kept_gain keep (after z tail.cells))) (pos 0)
    by true true h =
        let inside = values_of-kept keep (after z tail.cells) more (Ascend-after z tail.cells up) rise.1 kept (holds-after z more tail.cells rise.0 ∙ h) in
        omega (
          arith,
          ints,
          positive-above (tail.own +ℤ value_of z tail.cells +ℤ kept_gain keep (after z tail.cells)),
          inside,
          values_of-after z more tail.cells rise.0,
        )
    by true false h = positive-least (tail.own +ℤ value_of z tail.cells +ℤ kept_gain keep (after z tail.cells))
    by false c h = omega (arith, ints)

-- no set that grows one by a rank and then by later kept ones earns more than the rank's bound
pub summed-bound : (keep more : List ℕ) (z : ℕ) (tails : List TailOf) (a : Sum) → AllUp tails → among z keep ≡ true
    → Ascend (z ∷ more) → AllByRecursion (λ rank. among rank keep ≡ true) more
    → (a.bound +ℤ earned tails (z ∷ more)) ≤ℤ (met_in (summing keep) z tails a).bound
summed-bound keep more z [] a ups kept rise all = omega (arith, ints)
summed-bound keep more z (tail ∷ tails) a ups kept rise all =
    let one = ap (λ (s : Sum). s.bound) (summed-one keep z tail a ups.0 kept) in
    let rest = summed-bound keep more z tails (met (summing keep tail) z tail.cells a) ups.1 kept rise all in
    omega (arith, ints, rest, one, by (has z tail.cells), earned-most keep more z tail ups.0 rise all)
  where
    by : (b : Bool) → (cond b (sum_with a (tail.own +ℤ value_of z tail.cells) (kept_gain keep (after z tail.cells))) a).bound
        ≡ a.bound +ℤ cond b (positive_part (tail.own +ℤ value_of z tail.cells +ℤ kept_gain keep (after z tail.cells))) (pos 0)
    by true = refl
    by false = omega (arith, ints)

-- ---- tails

grew-one : (keep : List ℕ) (z : ℕ) (tail : TailOf) (a : List TailOf) → Ascend (items_in tail.cells) → among z keep ≡ true
    → met (growing keep tail) z tail.cells a ≡ a ++ filter has_cells (grown_at z tail)
grew-one keep z tail a up kept = met-is (growing keep tail) z tail.cells a up ∙ rw kept (by (has z tail.cells))
  where
    some : (c : Bool) → cond c (a ++ (record { own = tail.own +ℤ value_of z tail.cells; cells = after z tail.cells }) ∷ []) a
        ≡ a ++ cond c ((record { own = tail.own +ℤ value_of z tail.cells; cells = after z tail.cells }) ∷ []) []
    some true = refl
    some false = sym (append-nil a)

    by : (b : Bool)
        → cond b (cond (nat_lt 0 (length (after z tail.cells)))
        (a ++ (record { own = tail.own +ℤ value_of z tail.cells; cells = after z tail.cells }) ∷ []) a) a
        ≡ a ++ filter has_cells (cond b ((record { own = tail.own +ℤ value_of z tail.cells; cells = after z tail.cells }) ∷ []) [])
    by true = some (nat_lt 0 (length (after z tail.cells)))
    by false = sym (append-nil a)

pub grew : (keep : List ℕ) (z : ℕ) (tails : List TailOf) (a : List TailOf) → AllUp tails → among z keep ≡ true
    → met_in (growing keep) z tails a ≡ a ++ filter has_cells (grown z tails)
grew keep z [] a ups kept = sym (append-nil a)
grew keep z (tail ∷ tails) a ups kept =
    grew keep z tails (met (growing keep tail) z tail.cells a) ups.1 kept
    ∙ ap (λ xs. xs ++ filter has_cells (grown z tails)) (grew-one keep z tail a ups.0 kept)
    ∙ append_assoc a (filter has_cells (grown_at z tail)) (filter has_cells (grown z tails))
    ∙ ap (λ xs. a ++ xs) (sym (filter-append has_cells (grown_at z tail) (grown z tails)))
