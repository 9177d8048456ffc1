-- What rows tell of ranks, cell by cell and row by row.
use Rattle.std.proofs.Common.{◌≡◌, ℕ, zero, suc, ◌+◌, ◌-◌, ◌^◌, ◌<◌, ◌≤◌, Bool, true, false, cond, eqb, ◌&&◌, ◌||◌, ℤ, pos, unsigned_abs, ◌+ℤ◌, List, [], ◌∷◌}
use Rattle.std.proofs.Common.{◌++◌, length, get_or, take, drop, inl, inr, refl, sym, ap, ◌∙◌, subst, to_z, of_z, arith, sum_by, Contains}
use Rattle.std.specs.Int.{w128}
use Rattle.std.specs.List.{AllByRecursion}
use Rattle.std.proofs.lemmas.Bool.{ne_eqb, eq-eqb, cases_eq}
use Rattle.std.proofs.lemmas.Int.{ints}
use Rattle.std.proofs.lemmas.List.{take_rest, drop_more}
use Rattle.std.proofs.lemmas.List.Sums.{sum_by-cons}
use Rattle.hu_kind.specs.Order.{Ascend}
use Rattle.hu_kind.specs.Record.{has, value_of, gain, items_in, absolute_of, positive_part}
use Rattle.hu_kind.proofs.lemmas.Earned.{gain-within, positive_part-within}
use Rattle.hu_kind.proofs.lemmas.Each.{each-get}
use Rattle.hu_totals.specs.declared.ranked.Dense.{Dense}
use Rattle.hu_totals.specs.View.{dense_pair, cells_of}
use Rattle.hu_totals.specs.Cells.{after}
use Rattle.hu_totals.proofs.lemmas.AfterLemmas.{IsPlace, absolute_of-after}
use Rattle.hu_totals.proofs.lemmas.RecordCells.{has-below}
use Rattle.hu_totals.proofs.lemmas.DenseLemmas.{Ascend-rest}
use Rattle.hu_rows.specs.declared.rows.Row.{Row}
use Rattle.hu_rows.specs.declared.tally.Tally.{Tally}
use Rattle.hu_rows.specs.Rows.{RowOf, AreRows, ranks_of, size_of, count_of}
use Rattle.hu_rows.specs.Tally.{tally_with, no_tally, plus, tally_at, share_if, row_share, most, most_with, tail_most, tail_share, most_over, tail_over, told}
use Rattle.hu_rows.specs.Tally.{tail_told, Fits, HasRoom, AreNoted, Adds}
use Rattle.hu_rows.specs.View.{row_of, rows_of}
use Rattle.hu_rows.proofs.CellChecks.{IsPlace-cells}
use Rattle.hu_rows.proofs.RankOrder.{length-ranks, get_or-ranks}
use Rattle.hu_rows.proofs.ProjectionLemmas.{over-append, count_over-append}
use Rattle.hu_rows.proofs.RunLemmas.{rows_of-more, sum_by-more}
use Rattle.hu_rows.proofs.SettingLemmas.{same-fit}

-- ---- sums of tallies

pub tally-equal : (a b : Tally) → a.utility ≡ b.utility → a.count ≡ b.count → a.bound ≡ b.bound → a ≡ b
tally-equal a b u n m = λ j. record { utility = u j; count = n j; bound = m j }

pub plus-none : (a : Tally) → plus a no_tally ≡ a
plus-none a = tally-equal (plus a no_tally) a (omega (arith, ints)) (omega arith) (omega (arith, ints))

pub none-plus : (a : Tally) → plus no_tally a ≡ a
none-plus a = tally-equal (plus no_tally a) a (omega (arith, ints)) (omega arith) (omega (arith, ints))

pub plus-assoc : (a b c : Tally) → plus (plus a b) c ≡ plus a (plus b c)
plus-assoc a b c = tally-equal (plus (plus a b) c) (plus a (plus b c)) (omega (arith, ints)) (omega arith) (omega (arith, ints))

-- ---- cell by cell, from the last backwards

-- what was told of a rank by some cells
abbrev pub told_by : (ℕ → Tally) → List Dense → ℕ → Tally
told_by share cells rank = share_if (has rank (cells_of cells)) (share rank)

module _ (share : ℕ → Tally) (cells : List Dense) (i : ℕ) (d : Dense) (up : Ascend (items_in (cells_of cells))) (within : i < length cells) where
  rest-up : Ascend (items_in (cells_of (get_or cells i d ∷ drop (i + 1) cells)))
  rest-up = subst (λ (cs : List Dense). Ascend (items_in (cells_of cs))) (drop_more cells i d within) (Ascend-rest cells i up)

  fresh : has (get_or cells i d).rank (cells_of (drop (i + 1) cells)) ≡ false
  fresh = has-below (get_or cells i d).rank (cells_of (drop (i + 1) cells)) rest-up.0

  -- a rank of which a cell tells was told nothing by the cells after it
  pub told_by-fresh : told_by share (drop (i + 1) cells) (get_or cells i d).rank ≡ no_tally
  told_by-fresh = ap (λ b. share_if b (share (get_or cells i d).rank)) fresh

  pub told_by-more : (rank : ℕ) → told_by share (drop i cells) rank
      ≡ plus (told_by share (drop (i + 1) cells) rank) (share_if (eqb rank (get_or cells i d).rank) (share (get_or cells i d).rank))
  told_by-more rank =
      let z = (get_or cells i d).rank in
      let split : told_by share (drop i cells) rank ≡ share_if (eqb rank z || has rank (cells_of (drop (i + 1) cells))) (share rank) =
      ap (λ cs. told_by share cs rank) (drop_more cells i d within) in
      split ∙ elim (cases_eq rank z) [
        | inl e ↦
            let here : eqb rank z ≡ true = eq-eqb rank z e in
            let none : has rank (cells_of (drop (i + 1) cells)) ≡ false = ap (λ r. has r (cells_of (drop (i + 1) cells))) e ∙ fresh in
            rw (here, none) (ap share e ∙ sym (none-plus (share z)))
        | inr ne ↦
            let no : eqb rank z ≡ false = ne_eqb rank z ne in
            rw no (sym (plus-none (told_by share (drop (i + 1) cells) rank)))
      ]

-- the tallies with one cell more
pub adds-more : (share : ℕ → Tally) (cells : List Dense) (i : ℕ) (d : Dense) (first now then : List Tally) (one : Tally) → Ascend (items_in (cells_of cells))
    → i < length cells
    → Adds (told_by share (drop (i + 1) cells)) first now → one ≡ share (get_or cells i d).rank
    → Adds (λ other. share_if (eqb other (get_or cells i d).rank) one) now then → Adds (told_by share (drop i cells)) first then
adds-more share cells i d first now then one up within before is added rank =
    added rank
    ∙ (λ j. plus (before rank j) (share_if (eqb rank (get_or cells i d).rank) (is j)))
    ∙ plus-assoc (tally_at first rank) (told_by share (drop (i + 1) cells) rank) (share_if (eqb rank (get_or cells i d).rank) (share (get_or cells i d).rank))
    ∙ ap (plus (tally_at first rank)) (sym (told_by-more share cells i d up within rank))

-- the tally of the next cell's rank is as it was
pub adds-fresh : (share : ℕ → Tally) (cells : List Dense) (i : ℕ) (d : Dense) (first now : List Tally) → Ascend (items_in (cells_of cells)) → i < length cells
    → Adds (told_by share (drop (i + 1) cells)) first now → tally_at now (get_or cells i d).rank ≡ tally_at first (get_or cells i d).rank
adds-fresh share cells i d first now up within before =
    before (get_or cells i d).rank
    ∙ ap (plus (tally_at first (get_or cells i d).rank)) (told_by-fresh share cells i d up within)
    ∙ plus-none (tally_at first (get_or cells i d).rank)

pub adds-none : (share : ℕ → Tally) (cells : List Dense) (i : ℕ) (first : List Tally) → length cells ≤ i → Adds (told_by share (drop i cells)) first first
adds-none share [] zero first end = λ rank. sym (plus-none (tally_at first rank))
adds-none share [] (suc i) first end = λ rank. sym (plus-none (tally_at first rank))
adds-none share (cell ∷ cells) zero first end = absurd (omega arith)
adds-none share (cell ∷ cells) (suc i) first end = adds-none share cells i first (omega arith)

-- ---- sizes

pub most-within : (row : RowOf) → unsigned_abs (most row) ≤ size_of row
most-within row = omega (arith, ints, positive_part-within (row.before +ℤ gain row.cells), gain-within row.cells)

most_with-within : (earned : ℤ) (cells : List (ℕ × ℤ)) → unsigned_abs (most_with earned cells) ≤ unsigned_abs earned + absolute_of cells
most_with-within earned [] = omega arith
most_with-within earned (cell ∷ cells) = omega (arith, ints, positive_part-within (earned +ℤ gain (cell ∷ cells)), gain-within (cell ∷ cells))

pub tail_most-within : (row : RowOf) (z : ℕ) → unsigned_abs (tail_most row z) ≤ size_of row
tail_most-within row z = omega (arith, ints, most_with-within (row.before +ℤ value_of z row.cells) (after z row.cells), absolute_of-after z row.cells)

pub value-size : (row : RowOf) (z : ℕ) → unsigned_abs (row.before +ℤ value_of z row.cells) ≤ size_of row
value-size row z = omega (arith, ints, absolute_of-after z row.cells)

pub rest-within : (cells : List Dense) (i : ℕ) (d : Dense) → i < length cells
    → unsigned_abs (gain (cells_of (drop (i + 1) cells))) + unsigned_abs (get_or cells i d).value ≤ absolute_of (cells_of cells)
rest-within [] i d within = absurd (omega arith)
rest-within (cell ∷ cells) zero d within =
    omega (arith, sum_by-cons (λ (c : ℕ × ℤ). unsigned_abs c.1) (dense_pair cell) (cells_of cells), gain-within (cells_of cells))
rest-within (cell ∷ cells) (suc i) d within =
    let next : suc i + 1 ≡ suc (i + 1) = omega arith in
    let later : unsigned_abs (gain (cells_of (drop (suc i + 1) (cell ∷ cells)))) ≡ unsigned_abs (gain (cells_of (drop (i + 1) cells))) =
    ap (λ n. unsigned_abs (gain (cells_of (drop n (cell ∷ cells))))) next in
    omega (arith, later, sum_by-cons (λ (c : ℕ × ℤ). unsigned_abs c.1) (dense_pair cell) (cells_of cells), rest-within cells i d (omega arith))

pub gain-drop-within : (cells : List Dense) (i : ℕ) → unsigned_abs (gain (cells_of (drop i cells))) ≤ absolute_of (cells_of cells)
gain-drop-within cells zero = gain-within (cells_of cells)
gain-drop-within [] (suc i) = omega arith
gain-drop-within (cell ∷ cells) (suc i) =
    omega (arith, sum_by-cons (λ (c : ℕ × ℤ). unsigned_abs c.1) (dense_pair cell) (cells_of cells), gain-drop-within cells i)

-- the gain of the cells from a place on with the cell before it
pub gain-room : (cells : List Dense) (place : ℕ) (d : Dense) → 0 < place → place ≤ length cells
    → unsigned_abs (gain (cells_of (drop place cells))) + unsigned_abs (get_or cells (place - 1) d).value ≤ absolute_of (cells_of cells)
gain-room cells place d some within =
    let one : place - 1 + 1 ≡ place = omega arith in
    let rest : unsigned_abs (gain (cells_of (drop (place - 1 + 1) cells))) ≡ unsigned_abs (gain (cells_of (drop place cells))) =
    ap (λ m. unsigned_abs (gain (cells_of (drop m cells)))) one in
    omega (arith, rest, rest-within cells (place - 1) d (omega arith))

pub gain-more : (cells : List Dense) (place : ℕ) (d : Dense) → 0 < place → place ≤ length cells
    → gain (cells_of (drop (place - 1) cells)) ≡ positive_part (get_or cells (place - 1) d).value +ℤ gain (cells_of (drop place cells))
gain-more cells place d some within =
    let one : place - 1 + 1 ≡ place = omega arith in
    ap (λ cs. gain (cells_of cs)) (drop_more cells (place - 1) d (omega arith))
    ∙ ap (λ m. positive_part (get_or cells (place - 1) d).value +ℤ gain (cells_of (drop m cells))) one

-- the gain with the value before it, as it is summed
pub gain-step : (cells : List Dense) (place : ℕ) (d : Dense) → 0 < place → place ≤ length cells → (value sum : ℤ) {r : ℤ}
    → sum ≡ gain (cells_of (drop place cells)) → value ≡ (get_or cells (place - 1) d).value
    → absolute_of (cells_of cells) < 2 ^ 127 → r ≡ positive_part value +ℤ sum → to_z w128 (of_z w128 r) ≡ gain (cells_of (drop (place - 1) cells))
gain-step cells place d some within value sum {r = r} is worth fits e =
    let all : r ≡ gain (cells_of (drop (place - 1) cells)) = e ∙ (λ j. positive_part (worth j) +ℤ is j) ∙ sym (gain-more cells place d some within) in
    let size : unsigned_abs (gain (cells_of (drop (place - 1) cells))) ≤ absolute_of (cells_of cells) = gain-drop-within cells (place - 1) in
    ap (λ z. to_z w128 (of_z w128 z)) all ∙ same-fit (gain (cells_of (drop (place - 1) cells))) (omega arith)

pub gain-end : (cells : List Dense) → gain (cells_of (drop (length cells) cells)) ≡ pos 0
gain-end [] = refl
gain-end (cell ∷ cells) = gain-end cells

-- the most that a row gives, as it is summed
pub most-is : (row : RowOf) (sum r : ℤ) → sum ≡ gain row.cells → size_of row < 2 ^ 127
    → r ≡ positive_part (to_z w128 (of_z w128 (to_z w128 (of_z w128 row.before) +ℤ sum))) → to_z w128 (of_z w128 r) ≡ most row
most-is row sum r is fits e =
    let within = gain-within row.cells in
    let worth : to_z w128 (of_z w128 (to_z w128 (of_z w128 row.before) +ℤ sum)) ≡ row.before +ℤ gain row.cells = omega (arith, ints) in
    let share : r ≡ most row = e ∙ ap positive_part worth in
    omega (arith, ints, share, most-within row)

-- ---- one turn of the loop over a row's cells, from the last backwards

-- a row that is told to tallies, and how far
pub record Turn (row : Row) (n place : ℕ) : Type 0 where
  pub ascending : Ascend (ranks_of (row_of row))
  pub below : AllByRecursion (λ rank. rank < n) (ranks_of (row_of row))
  pub some : 0 < place
  pub within : place ≤ length row.cells.now

pub Turn-at : (row : Row) (n place : ℕ) → Ascend (ranks_of (row_of row)) → AllByRecursion (λ rank. rank < n) (ranks_of (row_of row))
    → 0 < place → place ≤ length row.cells.now → Turn row n place
Turn-at row n place up below some within = record { ascending = up; below = below; some = some; within = within }

-- the cell before a place
abbrev pub cell_before : Row → ℕ → Dense → Dense
cell_before row place d = get_or row.cells.now (place - 1) d

module _ {row : Row} {n place : ℕ} (turn : Turn row n place) (d : Dense) where
  one : place - 1 + 1 ≡ place
  one = let some = turn.some in omega arith

  inside : place - 1 < length row.cells.now
  inside = let some = turn.some in let within = turn.within in omega arith

  pub turn-rank : (cell_before row place d).rank < n
  turn-rank =
      let at = each-get (λ rank. rank < n) (items_in (cells_of row.cells.now)) (place - 1) 0 turn.below (omega (arith, inside, length-ranks row.cells.now)) in
      subst (λ rank. rank < n) (get_or-ranks row.cells.now (place - 1) d inside) at

  pub turn-value : unsigned_abs row.before + unsigned_abs (cell_before row place d).value ≤ size_of (row_of row)
  turn-value = omega (arith, rest-within row.cells.now (place - 1) d inside)

  pub turn-earned : unsigned_abs (row.before +ℤ (cell_before row place d).value) + unsigned_abs (gain (cells_of (drop place row.cells.now))) ≤ size_of
      (row_of row)
  turn-earned =
      let rest : unsigned_abs (gain (cells_of (drop (place - 1 + 1) row.cells.now))) ≡ unsigned_abs (gain (cells_of (drop place row.cells.now))) =
      ap (λ m. unsigned_abs (gain (cells_of (drop m row.cells.now)))) one in
      omega (arith, ints, rest, rest-within row.cells.now (place - 1) d inside)

  module _ (share : ℕ → Tally) (first now : List Tally) (before : Adds (told_by share (drop place row.cells.now)) first now) where
    before' : Adds (told_by share (drop (place - 1 + 1) row.cells.now)) first now
    before' = subst (λ m. Adds (told_by share (drop m row.cells.now)) first now) (sym one) before

    pub turn-fresh : tally_at now (cell_before row place d).rank ≡ tally_at first (cell_before row place d).rank
    turn-fresh = adds-fresh share row.cells.now (place - 1) d first now turn.ascending inside before'

    pub turn-fits : (given : Tally) → HasRoom (tally_at first (cell_before row place d).rank) (row_of row)
        → unsigned_abs given.utility ≤ size_of (row_of row) → given.count ≤ row.count → unsigned_abs given.bound ≤ size_of (row_of row)
        → Fits (tally_at now (cell_before row place d).rank) given
    turn-fits given room u n b = subst (λ t. Fits t given) (sym turn-fresh) (record {
      utility = let r = room.utility in omega (arith, r, u);
      count = let r = room.count in omega (arith, r, n);
      bound = let r = room.bound in omega (arith, r, b);
    })

    pub turn-adds : (then : List Tally) (given : Tally) → given ≡ share (cell_before row place d).rank
        → Adds (λ other. share_if (eqb other (cell_before row place d).rank) given) now then
        → Adds (told_by share (drop (place - 1) row.cells.now)) first then
    turn-adds then given is added = adds-more share row.cells.now (place - 1) d first now then given turn.ascending inside before' is added

  pub turn-place : IsPlace (cell_before row place d).rank (cells_of row.cells.now) (cell_before row place d).value (cells_of (drop place row.cells.now))
  turn-place =
      subst (λ m. IsPlace (cell_before row place d).rank (cells_of row.cells.now) (cell_before row place d).value (cells_of (drop m row.cells.now))) one
      (IsPlace-cells row.cells.now (place - 1) d turn.ascending inside)

  -- what the row tells of the cell's rank
  pub turn-share : (bound : ℤ) → bound ≡ most (row_of row) → tally_with (row.before +ℤ (cell_before row place d).value) row.count bound
      ≡ row_share (row_of row) (cell_before row place d).rank
  turn-share bound is = λ j. tally_with (row.before +ℤ sym turn-place.worth j) row.count (is j)

  pub turn-tail : tally_with (pos 0) 0 (most_with (row.before +ℤ (cell_before row place d).value) (cells_of (drop place row.cells.now)))
      ≡ tail_share (row_of row) (cell_before row place d).rank
  turn-tail = λ j. tally_with (pos 0) 0 (most_with (row.before +ℤ sym turn-place.worth j) (sym turn-place.tail j))

  -- what the prefix earned with the cell, as it is summed
  pub turn-sum : (earned : ℤ) → size_of (row_of row) < 2 ^ 127
      → earned ≡ to_z w128 (of_z w128 row.before) +ℤ to_z w128 (of_z w128 (cell_before row place d).value)
      → to_z w128 (of_z w128 earned) ≡ row.before +ℤ (cell_before row place d).value
  turn-sum earned size is =
      let before : to_z w128 (of_z w128 row.before) ≡ row.before = same-fit row.before (omega (arith, turn-value)) in
      let value = same-fit (cell_before row place d).value (omega (arith, turn-value)) in
      ap (λ z. to_z w128 (of_z w128 z)) (is ∙ (λ j. before j +ℤ value j))
      ∙ same-fit (row.before +ℤ (cell_before row place d).value) (omega (arith, turn-earned))

  -- the cells after a place, as they are sliced
  pub turn-rest : take (length row.cells.now - (place - 1 + 1)) (drop (place - 1 + 1) row.cells.now) ≡ drop place row.cells.now
  turn-rest = take_rest row.cells.now (place - 1 + 1) ∙ ap (λ n. drop n row.cells.now) one

  pub turn-given : (earned : ℤ) (given : Tally) → size_of (row_of row) < 2 ^ 127
      → earned ≡ to_z w128 (of_z w128 row.before) +ℤ to_z w128 (of_z w128 (cell_before row place d).value)
      → given ≡ tally_with (pos 0) 0 (most_with (to_z w128 (of_z w128 earned))
      (cells_of (take (length row.cells.now - (place - 1 + 1)) (drop (place - 1 + 1) row.cells.now))))
      → given ≡ tail_share (row_of row) (cell_before row place d).rank
  turn-given earned given size is told =
      told ∙ (λ j. tally_with (pos 0) 0 (most_with (turn-sum earned size is j) (cells_of (turn-rest j)))) ∙ turn-tail

-- ---- row by row

told-push : (rows : List RowOf) (row : RowOf) (z : ℕ) → told (rows ++ row ∷ []) z ≡ plus (told rows z) (share_if (has z row.cells) (row_share row z))
told-push rows row z =
    tally-equal (told (rows ++ row ∷ []) z) (plus (told rows z) (share_if (has z row.cells) (row_share row z)))
    (omega (arith, ints, over-append rows (row ∷ []) (z ∷ []), earned (has z row.cells)))
    (omega (arith, count_over-append rows (row ∷ []) (z ∷ []), held (has z row.cells)))
    (most-push rows ∙ ap (λ v. most_over rows z +ℤ v) (bound (has z row.cells)))
  where
    earned : (b : Bool) → cond (b && true) (row.before +ℤ (value_of z row.cells +ℤ pos 0)) (pos 0) ≡ (share_if b (row_share row z)).utility
    earned true = omega (arith, ints)
    earned false = refl

    held : (b : Bool) → cond (b && true) row.count 0 ≡ (share_if b (row_share row z)).count
    held true = refl
    held false = refl

    bound : (b : Bool) → cond b (most row) (pos 0) ≡ (share_if b (row_share row z)).bound
    bound true = refl
    bound false = refl

    most-push : (rows : List RowOf) → most_over (rows ++ row ∷ []) z ≡ most_over rows z +ℤ cond (has z row.cells) (most row) (pos 0)
    most-push [] = omega (arith, ints)
    most-push (r ∷ rs) = omega (arith, ints, most-push rs)

tail_told-push : (rows : List RowOf) (row : RowOf) (z : ℕ) → tail_told (rows ++ row ∷ []) z
    ≡ plus (tail_told rows z) (share_if (has z row.cells) (tail_share row z))
tail_told-push rows row z =
    tally-equal (tail_told (rows ++ row ∷ []) z) (plus (tail_told rows z) (share_if (has z row.cells) (tail_share row z)))
    (none (has z row.cells))
    (zero_of (has z row.cells))
    (tail-push rows ∙ ap (λ v. tail_over rows z +ℤ v) (bound (has z row.cells)))
  where
    none : (b : Bool) → pos 0 ≡ pos 0 +ℤ (share_if b (tail_share row z)).utility
    none true = refl
    none false = refl

    zero_of : (b : Bool) → 0 ≡ 0 + (share_if b (tail_share row z)).count
    zero_of true = refl
    zero_of false = refl

    bound : (b : Bool) → cond b (tail_most row z) (pos 0) ≡ (share_if b (tail_share row z)).bound
    bound true = refl
    bound false = refl

    tail-push : (rows : List RowOf) → tail_over (rows ++ row ∷ []) z ≡ tail_over rows z +ℤ cond (has z row.cells) (tail_most row z) (pos 0)
    tail-push [] = omega (arith, ints)
    tail-push (r ∷ rs) = omega (arith, ints, tail-push rs)

pub told-more : (rows : List Row) (i : ℕ) (d : Row) (z : ℕ) → i < length rows
    → told (rows_of (take (i + 1) rows)) z ≡ plus (told (rows_of (take i rows)) z)
    (share_if (has z (row_of (get_or rows i d)).cells) (row_share (row_of (get_or rows i d)) z))
told-more rows i d z within = ap (λ rs. told rs z) (rows_of-more rows i d within) ∙ told-push (rows_of (take i rows)) (row_of (get_or rows i d)) z

pub tail_told-more : (rows : List Row) (i : ℕ) (d : Row) (z : ℕ) → i < length rows
    → tail_told (rows_of (take (i + 1) rows)) z ≡ plus (tail_told (rows_of (take i rows)) z)
    (share_if (has z (row_of (get_or rows i d)).cells) (tail_share (row_of (get_or rows i d)) z))
tail_told-more rows i d z within = ap (λ rs. tail_told rs z) (rows_of-more rows i d within)
    ∙ tail_told-push (rows_of (take i rows)) (row_of (get_or rows i d)) z

-- ---- room for the next row

cond-within : (b : Bool) (x : ℤ) (n : ℕ) → unsigned_abs x ≤ n → unsigned_abs (cond b x (pos 0)) ≤ n
cond-within true x n h = h
cond-within false x n h = omega arith

told-within : (rows : List RowOf) (z : ℕ) → unsigned_abs (told rows z).utility ≤ sum_by size_of rows
told-within [] z = omega arith
told-within (row ∷ rows) z =
    let one : unsigned_abs (cond (has z row.cells && true) (row.before +ℤ (value_of z row.cells +ℤ pos 0)) (pos 0)) ≤ size_of row =
    cond-within (has z row.cells && true) (row.before +ℤ (value_of z row.cells +ℤ pos 0)) (size_of row) (omega (arith, ints, value-size row z)) in
    omega (arith, ints, one, sum_by-cons size_of row rows, told-within rows z)

told-count : (rows : List RowOf) (z : ℕ) → (told rows z).count ≤ sum_by count_of rows
told-count [] z = omega arith
told-count (row ∷ rows) z = omega (arith, by (has z row.cells), sum_by-cons count_of row rows, told-count rows z)
  where
    by : (b : Bool) → cond (b && true) row.count 0 ≤ count_of row
    by true = omega arith
    by false = omega arith

most_over-within : (rows : List RowOf) (z : ℕ) → unsigned_abs (most_over rows z) ≤ sum_by size_of rows
most_over-within [] z = omega arith
most_over-within (row ∷ rows) z =
    omega (arith, ints, cond-within (has z row.cells) (most row) (size_of row) (most-within row), sum_by-cons size_of row rows, most_over-within rows z)

tail_over-within : (rows : List RowOf) (z : ℕ) → unsigned_abs (tail_over rows z) ≤ sum_by size_of rows
tail_over-within [] z = omega arith
tail_over-within (row ∷ rows) z = omega (
  arith,
  ints,
  cond-within (has z row.cells) (tail_most row z) (size_of row) (tail_most-within row z),
  sum_by-cons size_of row rows,
  tail_over-within rows z,
)

pub told-room : (rows : List Row) (i : ℕ) (d : Row) (z : ℕ) (tally : Tally) → AreRows (rows_of rows) → i < length rows
    → tally ≡ told (rows_of (take i rows)) z → HasRoom tally (row_of (get_or rows i d))
told-room rows i d z tally rules within is = subst (λ t. HasRoom t (row_of (get_or rows i d))) (sym is) (record {
  utility = omega (arith, told-within (rows_of (take i rows)) z, sum_by-more size_of rows i d within, rules.sizes);
  count = omega (arith, told-count (rows_of (take i rows)) z, sum_by-more count_of rows i d within, rules.counts);
  bound = omega (arith, most_over-within (rows_of (take i rows)) z, sum_by-more size_of rows i d within, rules.sizes);
})

pub tail-room : (rows : List Row) (i : ℕ) (d : Row) (z : ℕ) (tally : Tally) → AreRows (rows_of rows) → i < length rows
    → tally ≡ tail_told (rows_of (take i rows)) z → HasRoom tally (row_of (get_or rows i d))
tail-room rows i d z tally rules within is = subst (λ t. HasRoom t (row_of (get_or rows i d))) (sym is) (record {
  utility = omega (arith, sum_by-more size_of rows i d within, rules.sizes);
  count = omega (arith, sum_by-more count_of rows i d within, rules.counts);
  bound = omega (arith, tail_over-within (rows_of (take i rows)) z, sum_by-more size_of rows i d within, rules.sizes);
})

-- ---- ranks that are met

-- a rank is noted once something is told of it
pub noted-add : (tallies then : List Tally) (met : List ℕ) (rank : ℕ) (share : Tally) → AreNoted tallies met → Contains met rank → length then ≡ length tallies
    → Adds (λ other. share_if (eqb other rank) share) tallies then → AreNoted then met
noted-add tallies then met rank share noted here len added = record {
  below = subst (λ n. AllByRecursion (λ r. r < n) met) (sym len) noted.below;
  each = λ other. elim (cases_eq other rank) [
    | inl e ↦ inl (subst (Contains met) (sym e) here)
    | inr ne ↦
        let no : eqb other rank ≡ false = ne_eqb other rank ne in
        let same : tally_at then other ≡ tally_at tallies other = added other ∙ ap (λ b. plus (tally_at tallies other) (share_if b share)) no
        ∙ plus-none (tally_at tallies other) in
        elim (noted.each other) [ inl m ↦ inl m | inr none ↦ inr (same ∙ none) ]
  ];
}
