-- Places of ranks in rows, and the rows that they give.
use Rattle.std.proofs.Common.{◌≡◌, ℕ, zero, suc, ◌+◌, ◌-◌, ◌<◌, ◌≤◌, Bool, true, false, cond, eqb, nat_lt, ◌≢◌, ◌&&◌, ℤ, ◌+ℤ◌, List, [], ◌∷◌, ◌++◌, length}
use Rattle.std.proofs.Common.{get_or, set, take, drop, map, refl, sym, ap, ◌∙◌, subst, inl, inr, arith, append-nil, append_assoc}
use Rattle.std.specs.declared.vec.Vec.{Vec}
use Rattle.std.specs.declared.alloc.Global.{Global}
use Rattle.std.specs.List.{AllByRecursion}
use Rattle.std.proofs.lemmas.Bool.{ne_eqb, eq-eqb, eqb-true, cases_eq, or_cases, le-ltb}
use Rattle.std.proofs.lemmas.List.{take_more, take_rest, drop_more, map-append, map-set, length-map, get_or-map, get_or-set_same, get_or-set_other}
use Rattle.std.proofs.lemmas.Grind.{flat_map-append}
use Rattle.hu_kind.specs.Order.{Ascend}
use Rattle.hu_kind.specs.Record.{has, value_of, items_in}
use Rattle.hu_totals.specs.declared.ranked.Dense.{Dense}
use Rattle.hu_totals.specs.View.{dense_pair, cells_of, lists_in}
use Rattle.hu_totals.specs.Cells.{after}
use Rattle.hu_totals.proofs.lemmas.AfterLemmas.{IsPlace, IsPlace-at}
use Rattle.hu_totals.proofs.lemmas.RecordCells.{has-below}
use Rattle.hu_rows.specs.declared.rows.Row.{Row}
use Rattle.hu_rows.specs.declared.places.Place.{Place}
use Rattle.hu_rows.specs.Rows.{RowOf, ranks_of}
use Rattle.hu_rows.specs.Handed.{handed, handed_if, handed_row, row_if_some, row_after, row_at, no_row, no_cell, places_at, IsWithin, ArePlaces}
use Rattle.hu_rows.specs.Places.{places_from, places_in}
use Rattle.hu_rows.specs.View.{row_of, rows_of, row_with}
use Rattle.hu_rows.proofs.AddedCells.{drop-cells_of}

-- ---- a row projected at a place

pub row_after-is : (row : Row) (i : ℕ) (d : Dense) → i < length row.cells.now
    → row_with (row.before +ℤ (get_or row.cells.now i d).value) row.count (take (length row.cells.now - (i + 1)) (drop (i + 1) row.cells.now))
    ≡ row_after (row_of row) i
row_after-is row i d within =
    let cells = row.cells.now in
    let value : (get_or cells i d).value ≡ (get_or (cells_of cells) i no_cell).1 =
    ap (λ (c : ℕ × ℤ). c.1) (sym (get_or-map dense_pair cells i d no_cell within)) in
    let tail : cells_of (take (length cells - (i + 1)) (drop (i + 1) cells)) ≡ drop (i + 1) (cells_of cells) = ap cells_of (take_rest cells (i + 1))
    ∙ drop-cells_of cells (i + 1) in
    λ j. record { before = row.before +ℤ value j; count = row.count; cells = tail j }

-- ---- lists of places

pub places_at-push : (lists : List (Vec Place Global)) (rank : ℕ) (old new : Vec Place Global) (more : List Place) → rank < length (lists_in lists)
    → old ≡ get_or lists rank old → new.items ≡ old.items ++ more
    → (other : ℕ) → places_at (lists_in (set lists rank new)) other ≡ places_at (lists_in lists) other ++ cond (eqb other rank) more []
places_at-push lists rank old new more within is grown other =
    ap (λ ls. places_at ls other) (map-set (λ (list : Vec Place Global). list.items) lists rank new) ∙ elim (cases_eq other rank) [
      | inl e ↦
          let here : eqb other rank ≡ true = eq-eqb other rank e in
          let short : rank < length lists = omega (arith, length-map lists (λ (list : Vec Place Global). list.items)) in
          let read : get_or (lists_in lists) rank [] ≡ old.items = get_or-map (λ (list : Vec Place Global). list.items) lists rank old [] short
          ∙ ap (λ (list : Vec Place Global). list.items) (sym is) in
          rw here (
          ap (λ r. get_or (set (lists_in lists) rank new.items) r []) e
          ∙ get_or-set_same (lists_in lists) rank new.items [] within
          ∙ grown
          ∙ ap (λ ps. ps ++ more) (sym read ∙ ap (λ r. get_or (lists_in lists) r []) (sym e))
          )
      | inr ne ↦
          let no : eqb other rank ≡ false = ne_eqb other rank ne in
          rw no (get_or-set_other (lists_in lists) rank other new.items [] ne ∙ sym (append-nil (places_at (lists_in lists) other)))
    ]

pub places_at-taken : (lists : List (Vec Place Global)) (rank : ℕ) (new : Vec Place Global) → rank < length (lists_in lists) → new.items ≡ []
    → (other : ℕ) → places_at (lists_in (set lists rank new)) other ≡ cond (eqb other rank) [] (places_at (lists_in lists) other)
places_at-taken lists rank new within none other =
    ap (λ ls. places_at ls other) (map-set (λ (list : Vec Place Global). list.items) lists rank new) ∙ elim (cases_eq other rank) [
      | inl e ↦
          let here : eqb other rank ≡ true = eq-eqb other rank e in
          rw here (ap (λ r. get_or (set (lists_in lists) rank new.items) r []) e ∙ get_or-set_same (lists_in lists) rank new.items [] within ∙ none)
      | inr ne ↦
          let no : eqb other rank ≡ false = ne_eqb other rank ne in
          rw no (get_or-set_other (lists_in lists) rank other new.items [] ne)
    ]

-- ---- the places of a row's cells, one after another

-- one place more
pub places_from-more : (p : ℕ → Bool) (row i : ℕ) (cells : List Dense) (d : Dense) → i + 1 < length cells → (z : ℕ)
    → places_from p row i (cells_of (drop i cells)) z
    ≡ cond (p (get_or cells i d).rank && eqb z (get_or cells i d).rank) ((record { row = row; cell = i }) ∷ []) [] ++ places_from p row (i + 1)
    (cells_of (drop (i + 1) cells)) z
places_from-more p row i cells d within z =
    let one = drop_more cells i d (omega arith) in
    let two = drop_more cells (i + 1) d within in
    let split : cells_of (drop i cells) ≡ dense_pair (get_or cells i d) ∷ dense_pair (get_or cells (i + 1) d) ∷ cells_of (drop (i + 1 + 1) cells) =
    ap cells_of one ∙ ap (λ cs. dense_pair (get_or cells i d) ∷ cells_of cs) two in
    ap (λ cs. places_from p row i cs z) split
    ∙ ap (λ cs. cond (p (get_or cells i d).rank && eqb z (get_or cells i d).rank) ((record { row = row; cell = i }) ∷ []) [] ++ places_from p row
    (i + 1) cs z) (sym (ap cells_of two))

pub places_from-end : (p : ℕ → Bool) (row i j : ℕ) (cells : List Dense) → length cells ≤ i + 1 → (z : ℕ) → places_from p row j (cells_of (drop i cells)) z ≡ []
places_from-end p row zero j [] end z = refl
places_from-end p row zero j (c ∷ []) end z = refl
places_from-end p row zero j (c ∷ e ∷ cells) end z = absurd (omega arith)
places_from-end p row (suc i) j [] end z = refl
places_from-end p row (suc i) j (c ∷ cells) end z = places_from-end p row i j cells (omega arith) z

-- one turn of the loop over a row's cells
pub hand-more : (p : ℕ → Bool) (row next : ℕ) (cells : List Dense) (d : Dense) (z : ℕ) (first now then : List Place) (is_open : Bool) → 0 < next
    → next < length cells
    → now ++ places_from p row (next - 1) (cells_of (drop (next - 1) cells)) z ≡ first → is_open ≡ p (get_or cells (next - 1) d).rank
    → then ≡ now ++ cond (is_open && eqb z (get_or cells (next - 1) d).rank) ((record { row = row; cell = next - 1 }) ∷ []) []
    → then ++ places_from p row (next + 1 - 1) (cells_of (drop (next + 1 - 1) cells)) z ≡ first
hand-more p row next cells d z first now then is_open some within before is pushed =
    let i = next - 1 in
    let up : next + 1 - 1 ≡ next - 1 + 1 = omega arith in
    let rest = places_from p row (next - 1 + 1) (cells_of (drop (next - 1 + 1) cells)) z in
    let one = cond (p (get_or cells (next - 1) d).rank && eqb z (get_or cells (next - 1) d).rank) ((record { row = row; cell = next - 1 }) ∷ []) [] in
    (λ j. pushed j ++ places_from p row (up j) (cells_of (drop (up j) cells)) z)
    ∙ (λ j. (now ++ cond (is j && eqb z (get_or cells (next - 1) d).rank) ((record { row = row; cell = next - 1 }) ∷ []) []) ++ rest)
    ∙ append_assoc now one rest
    ∙ ap (λ ps. now ++ ps) (sym (places_from-more p row (next - 1) cells d (omega arith) z))
    ∙ before

pub hand-end : (p : ℕ → Bool) (row next : ℕ) (cells : List Dense) (z : ℕ) (first now : List Place) → 0 < next → length cells ≤ next
    → now ++ places_from p row (next - 1) (cells_of (drop (next - 1) cells)) z ≡ first → now ≡ first
hand-end p row next cells z first now some end before =
    sym (append-nil now) ∙ ap (λ ps. now ++ ps) (sym (places_from-end p row (next - 1) (next - 1) cells (omega arith) z)) ∙ before

-- ---- what the places of a row give

-- the cell at a place, and those after it
head-at : (all : List (ℕ × ℤ)) (i : ℕ) (c : ℕ × ℤ) (cells : List (ℕ × ℤ)) → drop i all ≡ c ∷ cells
    → (get_or all i no_cell ≡ c) × (i < length all) × (drop (i + 1) all ≡ cells)
head-at [] zero c cells e = cc
head-at [] (suc i) c cells e = cc
head-at (a ∷ all) zero c cells e = ((cc), (omega arith), (cc))
head-at (a ∷ all) (suc i) c cells e =
    let r = head-at all i c cells e in
    let next : suc i + 1 ≡ suc (i + 1) = omega arith in
    let w = r.1 in
    (r.0, (omega arith), ap (λ n. drop n (a ∷ all)) next ∙ r.2)

above-all : (z low : ℕ) (cells : List (ℕ × ℤ)) → AllByRecursion (λ y. low < y) (items_in cells) → has z cells ≡ true → low < z
above-all z low [] above h = cc
above-all z low (cell ∷ cells) above h = elim (or_cases (eqb z cell.0) (has z cells) h) [
  | inl e ↦ let same = eqb-true z cell.0 e in let first = above.0 in omega arith
  | inr later ↦ above-all z low cells above.1 later
]

either : {A : Type 0} (b : Bool) (x : A) → cond b x x ≡ x
either true x = refl
either false x = refl

module _ (p : ℕ → Bool) (rows : List RowOf) (r z : ℕ) where
  -- what a rank is handed of some cells of the row
  handed_of : List (ℕ × ℤ) → List RowOf
  handed_of cells = cond (has z cells) (row_if_some ((get_or rows r no_row).before +ℤ value_of z cells) (get_or rows r no_row).count (after z cells)) []

  one-cell : (c : ℕ × ℤ) → handed_of (c ∷ []) ≡ []
  unfolding handed_of
  one-cell c = elim (cases_eq z c.0) [
    | inl e ↦
        let here : eqb z c.0 ≡ true = eq-eqb z c.0 e in
        let not_after : nat_lt z c.0 ≡ false = le-ltb z c.0 (omega arith) in
        rw (here, not_after) refl
    | inr ne ↦ let no : eqb z c.0 ≡ false = ne_eqb z c.0 ne in rw no refl
  ]

  -- a rank at the front
  handed-here : (c d : ℕ × ℤ) (cells : List (ℕ × ℤ)) → Ascend (items_in (c ∷ d ∷ cells)) → z ≡ c.0
      → handed_of (c ∷ d ∷ cells) ≡ (record { before = (get_or rows r no_row).before +ℤ c.1; count = (get_or rows r no_row).count; cells = d ∷ cells }) ∷ []
  unfolding handed_of
  handed-here c d cells up e =
      let place = IsPlace-at (c ∷ d ∷ cells) 0 no_cell up (omega arith) in
      let place' : IsPlace z (c ∷ d ∷ cells) c.1 (d ∷ cells) = subst (λ n. IsPlace n (c ∷ d ∷ cells) c.1 (d ∷ cells)) (sym e) place in
      λ j. cond (place'.found j) (row_if_some ((get_or rows r no_row).before +ℤ place'.worth j) (get_or rows r no_row).count (place'.tail j)) []

  -- a rank elsewhere
  handed-there : (c : ℕ × ℤ) (cells : List (ℕ × ℤ)) → Ascend (items_in (c ∷ cells)) → z ≢ c.0 → handed_of (c ∷ cells) ≡ handed_of cells
  unfolding handed_of
  handed-there c cells up ne =
      let no : eqb z c.0 ≡ false = ne_eqb z c.0 ne in
      rw no (by (has z cells) refl)
    where
      by : (b : Bool) → has z cells ≡ b
          → cond b (row_if_some ((get_or rows r no_row).before +ℤ value_of z cells) (get_or rows r no_row).count
          (cond (nat_lt z c.0) (c ∷ after z cells) (after z cells))) []
          ≡ cond b (row_if_some ((get_or rows r no_row).before +ℤ value_of z cells) (get_or rows r no_row).count (after z cells)) []
      by true h =
          let low : c.0 < z = above-all z c.0 cells up.0 h in
          let not_after : nat_lt z c.0 ≡ false = le-ltb z c.0 (omega arith) in
          rw not_after refl
      by false h = refl

  handed-none : (cells : List (ℕ × ℤ)) → has z cells ≡ false → handed_of cells ≡ []
  unfolding handed_of
  handed-none cells h = rw h refl

  give-from : (i : ℕ) (cells : List (ℕ × ℤ)) → drop i (get_or rows r no_row).cells ≡ cells → Ascend (items_in cells)
      → map (row_at rows) (places_from p r i cells z) ≡ cond (p z) (handed_of cells) []
  unfolding handed_of
  give-from i [] is up = sym (either (p z) [])
  give-from i (c ∷ []) is up = sym (ap (λ rs. cond (p z) rs []) (one-cell c) ∙ either (p z) [])
  give-from i (c ∷ d ∷ cells) is up =
      let at = head-at (get_or rows r no_row).cells i c (d ∷ cells) is in
      let rest = give-from (i + 1) (d ∷ cells) at.2 up.1 in
      elim (cases_eq z c.0) [
        | inl e ↦
            let here : eqb z c.0 ≡ true = eq-eqb z c.0 e in
            let gone : has z (d ∷ cells) ≡ false = ap (λ n. has n (d ∷ cells)) e ∙ has-below c.0 (d ∷ cells) up.0 in
            let none : map (row_at rows) (places_from p r (i + 1) (d ∷ cells) z) ≡ [] = rest ∙ ap (λ rs. cond (p z) rs []) (handed-none (d ∷ cells) gone)
            ∙ either (p z) [] in
            let first : row_at rows (record { row = r; cell = i })
            ≡ record { before = (get_or rows r no_row).before +ℤ c.1; count = (get_or rows r no_row).count; cells = d ∷ cells } =
            λ j. record { before = (get_or rows r no_row).before +ℤ (at.0 j).1; count = (get_or rows r no_row).count; cells = at.2 j } in
            ap (λ b. map (row_at rows) (cond (p c.0 && b) ((record { row = r; cell = i }) ∷ []) [] ++ places_from p r (i + 1) (d ∷ cells) z)) here
            ∙ opened (p c.0) (record { row = r; cell = i }) (places_from p r (i + 1) (d ∷ cells) z) none
            ∙ (λ j. cond (p (sym e j)) (first j ∷ []) [])
            ∙ ap (λ rs. cond (p z) rs []) (sym (handed-here c d cells up e))
        | inr ne ↦
            let no : eqb z c.0 ≡ false = ne_eqb z c.0 ne in
            ap (λ b. map (row_at rows) (cond (p c.0 && b) ((record { row = r; cell = i }) ∷ []) [] ++ places_from p r (i + 1) (d ∷ cells) z)) no
            ∙ closed (p c.0) (record { row = r; cell = i }) (places_from p r (i + 1) (d ∷ cells) z)
            ∙ rest
            ∙ ap (λ rs. cond (p z) rs []) (sym (handed-there c (d ∷ cells) up ne))
      ]
    where
      opened : (b : Bool) (place : Place) (later : List Place) → map (row_at rows) later ≡ []
          → map (row_at rows) (cond (b && true) (place ∷ []) [] ++ later) ≡ cond b (row_at rows place ∷ []) []
      opened true place later none = ap (λ rs. row_at rows place ∷ rs) none
      opened false place later none = none

      closed : (b : Bool) (place : Place) (later : List Place) → map (row_at rows) (cond (b && false) (place ∷ []) [] ++ later) ≡ map (row_at rows) later
      closed true place later = refl
      closed false place later = refl

  within-from : (i : ℕ) (cells : List (ℕ × ℤ)) → r < length rows → drop i (get_or rows r no_row).cells ≡ cells
      → AllByRecursion (IsWithin rows) (places_from p r i cells z)
  within-from i [] inside is = tt
  within-from i (c ∷ []) inside is = tt
  within-from i (c ∷ d ∷ cells) inside is =
      let at = head-at (get_or rows r no_row).cells i c (d ∷ cells) is in
      by (p c.0 && eqb z c.0) (record { row = inside; cell = at.1 }) (places_from p r (i + 1) (d ∷ cells) z) (within-from (i + 1) (d ∷ cells) inside at.2)
    where
      by : (b : Bool) → IsWithin rows (record { row = r; cell = i }) → (later : List Place) → AllByRecursion (IsWithin rows) later
          → AllByRecursion (IsWithin rows) (cond b ((record { row = r; cell = i }) ∷ []) [] ++ later)
      by true h later rest = (h, rest)
      by false h later rest = rest

  -- the places of a rank in a row give what it is handed of it
  pub ArePlaces-in : r < length rows → Ascend (ranks_of (get_or rows r no_row))
      → ArePlaces rows (cond (p z) (handed_row z (get_or rows r no_row)) []) (places_in p r (get_or rows r no_row).cells z)
  unfolding handed_of
  ArePlaces-in inside up = record {
    within = within-from 0 (get_or rows r no_row).cells inside refl;
    give = give-from 0 (get_or rows r no_row).cells refl up;
  }

-- ---- row after row

pub ArePlaces-append : (rows a b : List RowOf) (xs ys : List Place) → ArePlaces rows a xs → ArePlaces rows b ys → ArePlaces rows (a ++ b) (xs ++ ys)
ArePlaces-append rows a b xs ys first second = record {
  within = joined xs first.within;
  give = map-append (row_at rows) xs ys ∙ (λ j. first.give j ++ second.give j);
}
  where
    joined : (xs : List Place) → AllByRecursion (IsWithin rows) xs → AllByRecursion (IsWithin rows) (xs ++ ys)
    joined [] all = second.within
    joined (x ∷ xs) all = (all.0, joined xs all.1)

get_or-rows_of : (rows : List Row) (i : ℕ) (d : Row) → i < length rows → get_or (rows_of rows) i no_row ≡ row_of (get_or rows i d)
get_or-rows_of rows i d within = get_or-map row_of rows i d no_row within

pub handed_if-more : (b : Bool) (z : ℕ) (rows : List Row) (i : ℕ) (d : Row) → i < length rows
    → handed_if b z (rows_of (take i rows)) ++ cond b (handed_row z (get_or (rows_of rows) i no_row)) [] ≡ handed_if b z (rows_of (take (i + 1) rows))
handed_if-more false z rows i d within = refl
handed_if-more true z rows i d within =
    (λ j. handed z (rows_of (take i rows)) ++ handed_row z (get_or-rows_of rows i d within j))
    ∙ ap (λ rs. handed z (rows_of (take i rows)) ++ rs) (sym (append-nil (handed_row z (row_of (get_or rows i d)))))
    ∙ sym (flat_map-append (handed_row z) (rows_of (take i rows)) (row_of (get_or rows i d) ∷ []))
    ∙ ap (handed z) (sym (map-append row_of (take i rows) (get_or rows i d ∷ [])))
    ∙ ap (λ rs. handed z (rows_of rs)) (sym (take_more rows i d within))

-- one row more is handed out
pub ArePlaces-more : (p : ℕ → Bool) (rows : List Row) (i : ℕ) (d : Row) (z : ℕ) (old new : List Place) → i < length rows
    → Ascend (ranks_of (row_of (get_or rows i d)))
    → ArePlaces (rows_of rows) (handed_if (p z) z (rows_of (take i rows))) old → new ≡ old ++ places_in p i (cells_of (get_or rows i d).cells.now) z
    → ArePlaces (rows_of rows) (handed_if (p z) z (rows_of (take (i + 1) rows))) new
ArePlaces-more p rows i d z old new within up before is =
    let at = get_or-rows_of rows i d within in
    let one = ArePlaces-in p (rows_of rows) i z (omega (arith, length-map rows row_of)) (subst (λ (r : RowOf). Ascend (ranks_of r)) (sym at) up) in
    let is' : new ≡ old ++ places_in p i (get_or (rows_of rows) i no_row).cells z = is ∙ ap (λ (r : RowOf). old ++ places_in p i r.cells z) (sym at) in
    subst (λ rs. ArePlaces (rows_of rows) rs new) (handed_if-more (p z) z rows i d within)
    (subst (ArePlaces (rows_of rows) (handed_if (p z) z (rows_of (take i rows)) ++ cond (p z) (handed_row z (get_or (rows_of rows) i no_row)) [])) (sym is')
    (ArePlaces-append (rows_of rows) (handed_if (p z) z (rows_of (take i rows))) (cond (p z) (handed_row z (get_or (rows_of rows) i no_row)) []) old
    (places_in p i (get_or (rows_of rows) i no_row).cells z) before one))

pub ArePlaces-none : (rows : List RowOf) (b : Bool) (z : ℕ) (places : List Place) → places ≡ [] → ArePlaces rows (handed_if b z []) places
ArePlaces-none rows true z places none = subst (ArePlaces rows []) (sym none) (record { within = tt; give = refl })
ArePlaces-none rows false z places none = subst (ArePlaces rows []) (sym none) (record { within = tt; give = refl })
