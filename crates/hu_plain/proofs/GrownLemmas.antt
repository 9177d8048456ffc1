-- What items make of rows, by item.
use Rattle.std.proofs.Common.{◌≡◌, ◌∙◌, ℕ, suc, ◌<◌, ◌+◌, ℤ, ◌+ℤ◌, Bool, true, false, eqb, List, [], ◌∷◌, ◌++◌, map}
use Rattle.std.proofs.Common.{filter, length, get_or, drop, refl, sym, ap, subst, arith, nat_cmp, inl}
use Rattle.std.specs.List.{AllByRecursion}
use Rattle.std.specs.List.Sorted.{IsStableByKey}
use Rattle.std.proofs.lemmas.Bool.{eq-eqb, eqb-true}
use Rattle.std.proofs.lemmas.Bool.Decides.{nat_tests}
use Rattle.std.proofs.lemmas.List.{map-append, append_assoc}
use Rattle.std.proofs.lemmas.List.Elements.{filter-append}
use Rattle.std.proofs.Math.Seq.{drop-cons}
use Rattle.hu_kind.specs.declared.item.Cell.{Cell}
use Rattle.hu_kind.specs.declared.item.Item.{Item}
use Rattle.hu_kind.specs.Cell.{pairs_of}
use Rattle.hu_kind.specs.Record.{items_in}
use Rattle.hu_kind.specs.Order.{Ascend}
use Rattle.hu_kind.proofs.lemmas.Members.{Member, Member-map, Member-from_map, Member-filter, Member-from_filter, Member-from_contains, Contains-from_member}
use Rattle.hu_collect.specs.Laws.{SameMembers}
use Rattle.hu_plain.specs.declared.grown.Grown.{Grown}
use Rattle.hu_plain.specs.declared.row.Row.{Row}
use Rattle.hu_plain.specs.Row.{Cells, RowOf, grown_row, grown_rows, IsRising}
use Rattle.hu_plain.specs.View.{row_of, rows_of, numbers_of}
use Rattle.hu_plain.specs.Grown.{grown_cells, grown_from, all_grown, item_at, made_of, pair_with, AreGrown, AreItems}
use Rattle.hu_plain.proofs.Cut.{AllAbove}
use Rattle.hu_plain.proofs.Parts.{filter-stable}
use Rattle.hu_plain.proofs.RowLemmas.{item-of_number, number-of_item}

-- of pairs (item, row) the rows of an item
abbrev pub rows_by : ℕ → List (ℕ × RowOf) → List RowOf
rows_by item pairs = map (λ pair. pair.1) (filter (λ pair. eqb item pair.0) pairs)

-- an item that stands before all cells makes no row of them
grown_cells-none : (item : ℕ) (sum : ℤ) (cells : Cells) → AllAbove item (items_in cells) → rows_by item (grown_cells sum cells) ≡ []
grown_cells-none item sum [] above = refl
grown_cells-none item sum (cell ∷ cells) above =
    let first = above.0 in
    let no : eqb item cell.0 ≡ false = grind (arith, nat_tests) in
    rw no (grown_cells-none item sum cells above.1)

-- what an item makes of a row
grown_cells-with : (item : ℕ) (sum : ℤ) (cells : Cells) → Ascend (items_in cells) → rows_by item (grown_cells sum cells) ≡ grown_row item sum cells
grown_cells-with item sum [] up = refl
grown_cells-with item sum (cell ∷ cells) up = by (eqb item cell.0) refl (grown_cells-with item sum cells up.1)
  where
    by : (b : Bool) → eqb item cell.0 ≡ b → rows_by item (grown_cells sum cells) ≡ grown_row item sum cells
        → rows_by item (grown_cells sum (cell ∷ cells)) ≡ grown_row item sum (cell ∷ cells)
    by true is rest =
        let above = subst (λ i. AllAbove i (items_in cells)) (sym (eqb-true item cell.0 is)) up.0 in
        rw is (ap (λ rows. (sum +ℤ cell.1, cells) ∷ rows) (grown_cells-none item sum cells above))
    by false is rest = rw is rest

-- what an item makes of all rows
rows_by-append : (item : ℕ) (first second : List (ℕ × RowOf)) → rows_by item (first ++ second) ≡ rows_by item first ++ rows_by item second
rows_by-append item first second =
    let at : ℕ × RowOf → Bool = λ pair. eqb item pair.0 in
    let row : ℕ × RowOf → RowOf = λ pair. pair.1 in
    ap (map row) (filter-append at first second) ∙ map-append row (filter at first) (filter at second)

all_grown-with : (item : ℕ) (rows : List RowOf) → AllByRecursion IsRising rows → rows_by item (all_grown rows) ≡ grown_rows item rows
all_grown-with item [] up = refl
all_grown-with item (row ∷ rows) up =
    rows_by-append item (grown_cells row.0 row.1) (all_grown rows)
    ∙ (λ j. grown_cells-with item row.0 row.1 up.0 j ++ all_grown-with item rows up.1 j)

-- rows by a pair's item are those by their own
rows-by_item : (item : ℕ) (grown : List Grown) → made_of item grown ≡ rows_by item (map pair_with grown)
rows-by_item item [] = refl
rows-by_item item (one ∷ grown) = by (eqb item one.item.0) refl (rows-by_item item grown)
  where
    by : (b : Bool) → eqb item one.item.0 ≡ b → made_of item grown ≡ rows_by item (map pair_with grown)
        → made_of item (one ∷ grown) ≡ rows_by item (map pair_with (one ∷ grown))
    by true is rest = rw is (ap (λ l. row_of one.row ∷ l) rest)
    by false is rest = rw is rest

-- sorted grown rows of an item are those that it makes
pub each-sorted : (rows : List RowOf) (grown sorted : List Grown) → AllByRecursion IsRising rows → map pair_with grown ≡ all_grown rows
    → IsStableByKey item_at nat_cmp grown sorted → (item : ℕ) → made_of item sorted ≡ grown_rows item rows
each-sorted rows grown sorted up are stable item =
    ap (map (λ (one : Grown). row_of one.row)) (filter-stable item_at grown sorted stable item)
    ∙ rows-by_item item grown
    ∙ ap (rows_by item) are
    ∙ all_grown-with item rows up

-- the rows that were found of an item are those that it makes
pub found-grown : (rows : List RowOf) (all seen : List Grown) (grown found : List Row) (item : ℕ) → AreGrown rows all → seen ≡ all
    → rows_of grown ≡ made_of item seen → found ≡ grown → rows_of found ≡ grown_rows item rows
found-grown rows all seen grown found item are same made is = ap rows_of is ∙ made ∙ ap (made_of item) same ∙ are.each item

-- one more grown row: what is done and what is left stays the same together
pub pushed : (before after : List Grown) (one : Grown) (left next whole : List (ℕ × RowOf)) → after ≡ before ++ one ∷ []
    → pair_with one ∷ next ≡ left
    → map pair_with before ++ left ≡ whole → map pair_with after ++ next ≡ whole
pushed before after one left next whole is step kept =
    ap (λ l. map pair_with l ++ next) is
    ∙ ap (λ l. l ++ next) (map-append pair_with before (one ∷ []))
    ∙ append_assoc (map pair_with before) (pair_with one ∷ []) next
    ∙ ap (λ l. map pair_with before ++ l) step
    ∙ kept

-- the row that the cell at a place makes, and what those after it make
pub at_place : (row : Row) (got : ℤ) (rest : List Cell) (i : ℕ) (d : Cell) → i < length row.tail.now
    → got ≡ row.earned +ℤ (get_or row.tail.now i d).value → rest ≡ drop (suc i) row.tail.now
    → ◌≡◌ {A = List (ℕ × RowOf)} (((get_or row.tail.now i d).item.0, (got, pairs_of rest)) ∷ grown_from row (i + 1)) (grown_from row i)
at_place row got rest i d within value left =
    let cells = row.tail.now in
    let more : i + 1 ≡ suc i = omega arith in
    (λ j. ((get_or cells i d).item.0, (value j, pairs_of (left j))) ∷ grown_from row (more j))
    ∙ sym (ap (λ l. grown_cells row.earned (pairs_of l)) (drop-cons cells i d within))

-- the items of grown rows are just those by which some row grows
pub items-grown : (rows : List RowOf) (grown : List Grown) (items : List Item) → AreGrown rows grown → SameMembers (map item_at grown) (numbers_of items)
    → AreItems rows items
items-grown rows grown items are same item = (
  λ c.
      let m = Member-from_contains item.0 (map item_at grown) ((same item.0).1 (number-of_item item items c)) in
      subst (λ rs. 0 < length rs) (are.each item.0) (some m),
  λ h.
      let m = found (subst (λ rs. 0 < length rs) (sym (are.each item.0)) h) in
      item-of_number item items ((same item.0).0 (Contains-from_member item.0 (map item_at grown) m)),
)
  where
    long : (xs : List Grown) (one : Grown) → Member one xs → 0 < length (map (λ (x : Grown). row_of x.row) xs)
    long [] one m = absurd m
    long (x ∷ xs) one m = omega arith

    some : Member item.0 (map item_at grown) → 0 < length (made_of item.0 grown)
    some m =
        let from = Member-from_map item_at item.0 grown m in
        long (filter (λ one. eqb item.0 one.item.0) grown) from.0
        (Member-filter (λ one. eqb item.0 one.item.0) from.0 grown from.1 (eq-eqb item.0 from.0.item.0 (sym from.2)))

    first : (xs : List Grown) → 0 < length (map (λ (x : Grown). row_of x.row) xs) → (one : Grown) × Member one xs
    first [] h = absurd (omega arith)
    first (x ∷ xs) h = (x, inl refl)

    found : 0 < length (made_of item.0 grown) → Member item.0 (map item_at grown)
    found h =
        let one = first (filter (λ one. eqb item.0 one.item.0) grown) h in
        let kept = Member-from_filter (λ one. eqb item.0 one.item.0) one.0 grown one.1 in
        subst (λ n. Member n (map item_at grown)) (sym (eqb-true item.0 one.0.item.0 kept.1)) (Member-map item_at one.0 grown kept.0)
