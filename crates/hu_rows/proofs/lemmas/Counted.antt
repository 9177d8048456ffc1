-- Rows that stand for records: what is told of a rank tells whether they hold it.
use Rattle.std.proofs.Common.{◌≡◌, ℕ, ◌+◌, ◌<◌, ◌≤◌, Bool, true, false, cond, eqb, nat_lt, ◌&&◌, ◌||◌, ℤ, pos, ◌+ℤ◌, List, [], ◌∷◌, length, refl, sym, ap}
use Rattle.std.proofs.Common.{subst, arith, inl, inr, ◌⊎◌}
use Rattle.std.specs.List.{AllByRecursion}
use Rattle.std.proofs.lemmas.Bool.{eqb-true, or_cases}
use Rattle.std.proofs.lemmas.Int.{ints}
use Rattle.hu_kind.specs.Record.{has, value_of, items_in}
use Rattle.hu_kind.proofs.lemmas.Each.{each-append}
use Rattle.hu_rows.specs.Rows.{RowOf, AreCounted, count_over}
use Rattle.hu_rows.specs.Tally.{EachRank, tail_most, tail_over, tail_told, no_tally, tally_with}
use Rattle.hu_rows.specs.Handed.{only, narrowed_row, narrowed, row_if_some, handed_row, handed}
use Rattle.hu_rows.proofs.ProjectionLemmas.{count_over-append}
use Rattle.hu_totals.specs.Cells.{after}

pub AreCounted-narrowed : (p : ℕ → Bool) (rows : List RowOf) → AreCounted rows → AreCounted (narrowed p rows)
AreCounted-narrowed p [] all = tt
AreCounted-narrowed p (row ∷ rows) all = each-append (λ (r : RowOf). 0 < r.count) (narrowed_row p row) (narrowed p rows)
    (by (nat_lt 1 (length (only p row.cells)))) (AreCounted-narrowed p rows all.1)
  where
    by : (b : Bool) → AreCounted (cond b (record { before = row.before; count = row.count; cells = only p row.cells } ∷ []) [])
    by true = (all.0, tt)
    by false = tt

pub AreCounted-handed : (z : ℕ) (rows : List RowOf) → AreCounted rows → AreCounted (handed z rows)
AreCounted-handed z [] all = tt
AreCounted-handed z (row ∷ rows) all = each-append (λ (r : RowOf). 0 < r.count) (handed_row z row) (handed z rows) (by (has z row.cells))
    (AreCounted-handed z rows all.1)
  where
    some : (before : ℤ) (cells : List (ℕ × ℤ)) → AreCounted (row_if_some before row.count cells)
    some before [] = tt
    some before (cell ∷ cells) = (all.0, tt)

    by : (b : Bool) → AreCounted (cond b (row_if_some (row.before +ℤ value_of z row.cells) row.count (after z row.cells)) [])
    by true = some (row.before +ℤ value_of z row.cells) (after z row.cells)
    by false = tt

at_rank : (P : ℕ → Type 0) (z : ℕ) (cells : List (ℕ × ℤ)) → AllByRecursion P (items_in cells) → has z cells ≡ true → P z
at_rank P z [] all h = cc
at_rank P z (cell ∷ cells) all h = elim (or_cases (eqb z cell.0) (has z cells) h) [
  | inl e ↦ subst P (sym (eqb-true z cell.0 e)) all.0
  | inr later ↦ at_rank P z cells all.1 later
]

-- what holds of each rank of the rows holds of one that records hold
pub each-held : (P : ℕ → Type 0) (z : ℕ) (rows : List RowOf) → EachRank P rows → 0 < count_over rows (z ∷ []) → P z
each-held P z [] all held = absurd (omega arith)
each-held P z (row ∷ rows) all held = by (has z row.cells) refl (λ later. each-held P z rows all.1 later)
  where
    by : (b : Bool) → has z row.cells ≡ b → (0 < count_over rows (z ∷ []) → P z) → P z
    by true h ih = at_rank P z row.cells all.0 h
    by false h ih = ih (let none : cond (has z row.cells && true) row.count 0 ≡ 0 = ap (λ b. cond (b && true) row.count 0) h in omega arith)

-- a rank of which tails tell is held
pub tail-held : (z : ℕ) (rows : List RowOf) → AreCounted rows → (tail_told rows z ≡ no_tally) ⊎ (0 < count_over rows (z ∷ []))
tail-held z rows counted = elim (by rows counted) [ inl e ↦ inl (ap (λ b. tally_with (pos 0) 0 b) e) | inr held ↦ inr held ]
  where
    by : (rows : List RowOf) → AreCounted rows → (tail_over rows z ≡ pos 0) ⊎ (0 < count_over rows (z ∷ []))
    by [] all = inl refl
    by (row ∷ rows) all = one (has z row.cells) refl (by rows all.1)
      where
        one : (b : Bool) → has z row.cells ≡ b → (tail_over rows z ≡ pos 0) ⊎ (0 < count_over rows (z ∷ []))
            → (tail_over (row ∷ rows) z ≡ pos 0) ⊎ (0 < count_over (row ∷ rows) (z ∷ []))
        one true h rest =
            let here : cond (has z row.cells && true) row.count 0 ≡ row.count = ap (λ b. cond (b && true) row.count 0) h in
            let some = all.0 in
            inr (omega arith)
        one false h (inl none) =
            let gone : cond (has z row.cells) (tail_most row z) (pos 0) ≡ pos 0 = ap (λ b. cond b (tail_most row z) (pos 0)) h in
            inl (omega (arith, ints))
        one false h (inr held) = inr (omega arith)

or-right : (b c : Bool) → c ≡ true → b || c ≡ true
or-right true c k = refl
or-right false c k = k

-- narrowed rows hold what the rows hold
pub count-narrower : (p : ℕ → Bool) (z : ℕ) (rows : List RowOf) → count_over (narrowed p rows) (z ∷ []) ≤ count_over rows (z ∷ [])
count-narrower p z [] = omega arith
count-narrower p z (row ∷ rows) =
    omega (arith, count_over-append (narrowed_row p row) (narrowed p rows) (z ∷ []), count-narrower p z rows, by (nat_lt 1 (length (only p row.cells))))
  where
    has-only : (cells : List (ℕ × ℤ)) → has z (only p cells) ≡ true → has z cells ≡ true
    has-only [] h = h
    has-only (cell ∷ cells) h = kept (p cell.0) h (λ k. has-only cells k)
      where
        kept : (b : Bool) → has z (cond b (cell ∷ only p cells) (only p cells)) ≡ true → (has z (only p cells) ≡ true → has z cells ≡ true)
            → eqb z cell.0 || has z cells ≡ true
        kept true k ih = elim (or_cases (eqb z cell.0) (has z (only p cells)) k) [
          | inl e ↦ rw e refl
          | inr later ↦ or-right (eqb z cell.0) (has z cells) (ih later)
        ]
        kept false k ih = or-right (eqb z cell.0) (has z cells) (ih k)

    part : (b c : Bool) → (b ≡ true → c ≡ true) → cond (b && true) row.count 0 + 0 ≤ cond (c && true) row.count 0
    part true true i = omega arith
    part true false i = let e = i refl in cc
    part false c i = omega arith

    by : (b : Bool) → count_over (cond b (record { before = row.before; count = row.count; cells = only p row.cells } ∷ []) []) (z ∷ []) ≤ cond
        (has z row.cells && true) row.count 0
    by true = part (has z (only p row.cells)) (has z row.cells) (has-only row.cells)
    by false = omega arith
