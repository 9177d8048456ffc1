-- The marks of an item among those that are gathered are the places of the grown pattern.
use Rattle.std.proofs.Common.{◌≡◌, Some, ℕ, zero, suc, ◌+◌, ◌<◌, Bool, true, false, cond, eqb, ℤ, pos, ◌+ℤ◌, ◌-ℤ◌, option_to_list, List, [], ◌∷◌, ◌++◌, map}
use Rattle.std.proofs.Common.{drop, refl, sym, ap, ◌∙◌, subst, arith}
use Rattle.std.specs.List.{flat_map, AllByRecursion}
use Rattle.std.proofs.lemmas.Int.{ints}
use Rattle.std.proofs.lemmas.Bool.{eqb-true, ne_eqb}
use Rattle.std.proofs.lemmas.List.{map-append}
use Rattle.std.proofs.lemmas.List.Elements.{filter-append}
use Rattle.hu_kind.specs.Order.{Ascend}
use Rattle.hu_kind.specs.Record.{has, items_in, total}
use Rattle.hu_kind.proofs.lemmas.Occurring.{at_member, has-member}
use Rattle.hu_kind.specs.Sequence.{IsSequence}
use Rattle.hu_kind.proofs.lemmas.Each.{each-drop}
use Rattle.hu_chain.specs.declared.chain.Growth.{Growth}
use Rattle.hu_chain.specs.declared.chain.Growth.TheVariants.{IntoLast, AfterLast}
use Rattle.hu_chain.specs.declared.place.Place.{Place}
use Rattle.hu_chain.specs.Grown.{grown, CanGrow}
use Rattle.hu_chain.specs.Pattern.{last_item}
use Rattle.hu_chain.specs.Place.{cell_of, chain_of, element_at, totals}
use Rattle.hu_chain.specs.Search.{best_past, found, found_at, followed_places, joined_places, left_past, walked, IsPlaceOf, IsPlain}
use Rattle.hu_chain.proofs.lemmas.Bounds.{plain-rules}
use Rattle.hu_chain.proofs.lemmas.Cells.{Ascend-drop}
use Rattle.hu_chain.proofs.lemmas.Gathered.{chain_of-grown}
use Rattle.hu_chain.proofs.lemmas.Growing.{chain_of-rules, chain_of-start}
use Rattle.hu_chain.proofs.lemmas.Patterns.{Ends-can_grow}
use Rattle.hu_span.specs.declared.mark.Mark.{Mark}
use Rattle.hu_span.specs.Gather.{beside_marks, cells_after, later_marks, row_marks, tail_marks, walk_marks}
use Rattle.hu_span.specs.Growing.{Records}
use Rattle.hu_span.specs.Mark.{is_of, mark_at, marks_from, marks_with}

module _ (item row : ℕ) where
  -- the marks of the item
  abbrev marks_at : List Place → List Mark
  marks_at places = map (mark_at row item) places

  -- ---- in an element

  tail-none : (e c : ℕ) (best ahead : ℤ) (cells : List (ℕ × ℤ)) → AllByRecursion (λ x. item < x) (items_in cells)
      → marks_with item (tail_marks row e c best ahead cells) ≡ []
  tail-none e c best ahead [] above = refl
  tail-none e c best ahead (cell ∷ cells) above =
      let first : item < cell.0 = above.0 in
      let other : eqb item cell.0 ≡ false = ne_eqb item cell.0 (λ same. absurd (omega (arith, first, same))) in
      rw other (tail-none e (suc c) (best) (ahead -ℤ cell.1) cells above.1)

  pub tail-found : (e c : ℕ) (best ahead later : ℤ) (cells : List (ℕ × ℤ)) → Ascend (items_in cells) → ahead ≡ total cells +ℤ later
      → marks_with item (tail_marks row e c best ahead cells) ≡ marks_at (option_to_list (found e c item best later cells))
  tail-found e c best ahead later [] up is = refl
  tail-found e c best ahead later (cell ∷ cells) up is = by (eqb item cell.0) refl (tail-found e (suc c) best (ahead -ℤ cell.1) later cells up.1 left)
    where
      left : (ahead -ℤ cell.1) ≡ total cells +ℤ later
      left = omega (arith, ints, is)

      place : ℤ → Place
      place rest = record { element = e; cell = c; best = best +ℤ cell.1; rest = rest }

      by : (b : Bool) → eqb item cell.0 ≡ b
          → marks_with item (tail_marks row e (suc c) best (ahead -ℤ cell.1) cells) ≡ marks_at (option_to_list (found e (suc c) item best later cells))
          → cond b (mark_at row cell.0 (record { element = e; cell = c; best = best +ℤ cell.1; rest = ahead -ℤ cell.1 })
          ∷ marks_with item (tail_marks row e (suc c) best (ahead -ℤ cell.1) cells))
          (marks_with item (tail_marks row e (suc c) best (ahead -ℤ cell.1) cells))
          ≡ marks_at (option_to_list (cond b (Some (record { element = e; cell = c; best = best +ℤ cell.1; rest = total cells +ℤ later }))
          (found e (suc c) item best later cells)))
      by true same rest =
          let here : item ≡ cell.0 = eqb-true item cell.0 same in
          let none = tail-none e (suc c) best (ahead -ℤ cell.1) cells (subst (λ i. AllByRecursion (λ x. i < x) (items_in cells)) (sym here) up.0) in
          (λ j. mark_at row (sym here j) (place (left j)) ∷ none j)
      by false other rest = rest

  -- what stands up to a smaller item is passed over
  found-skip : (e c last : ℕ) (best later : ℤ) (cells : List (ℕ × ℤ)) → Ascend (items_in cells) → has last cells ≡ true → last < item
      → found e c item best later cells ≡ found e (c + suc (cell_of last cells)) item best later (drop (suc (cell_of last cells)) cells)
  found-skip e c last best later [] up h below = cc
  found-skip e c last best later (cell ∷ cells) up h below = by (eqb last cell.0) refl (found-skip e (suc c) last best later cells up.1)
    where
      by : (b : Bool) → eqb last cell.0 ≡ b
          → (has last cells ≡ true → last < item
          → found e (suc c) item best later cells ≡ found e (suc c + suc (cell_of last cells)) item best later (drop (suc (cell_of last cells)) cells))
          → found e c item best later (cell ∷ cells)
          ≡ found e (c + suc (cell_of last (cell ∷ cells))) item best later (drop (suc (cell_of last (cell ∷ cells))) (cell ∷ cells))
      by true same ih =
          let here : last ≡ cell.0 = eqb-true last cell.0 same in
          let other : eqb item cell.0 ≡ false = ne_eqb item cell.0 (λ x. absurd (omega (arith, here, below, x))) in
          let next : suc c ≡ c + 1 = omega arith in
          simp (same, other) (ap (λ n. found e n item best later cells) next)
      by false same ih =
          let more : has last cells ≡ true = simp same at h in
          let before : cell.0 < last = at_member (λ x. cell.0 < x) last (items_in cells) up.0 (has-member last cells more) in
          let other : eqb item cell.0 ≡ false = ne_eqb item cell.0 (λ x. absurd (omega (arith, before, below, x))) in
          let next : suc c + suc (cell_of last cells) ≡ c + suc (suc (cell_of last cells)) = omega arith in
          simp (same, other) (ih more below ∙ ap (λ n. found e n item best later (drop (suc (cell_of last cells)) cells)) next)

  module _ (elements : List (List (ℕ × ℤ))) (last : ℕ) (plain : AllByRecursion IsPlain elements) where
    plain-at : (es : List (List (ℕ × ℤ))) (e : ℕ) → AllByRecursion IsPlain es → Ascend (items_in (element_at es e))
    plain-at [] e all = tt
    plain-at (cells ∷ es) zero all = let first = all.0 in first.ascending
    plain-at (cells ∷ es) (suc e) all = plain-at es e all.1

    -- ---- beside places

    beside-found : (place : Place) → IsPlaceOf elements last place → last < item
        → marks_with item (beside_marks elements row place) ≡ marks_at (option_to_list (found_at elements item place.element place.best))
    beside-found place is below =
        let e = place.element in
        let cells = element_at elements e in
        let up = plain-at elements e plain in
        let later = totals (drop (suc e) elements) in
        let skip = found-skip e 0 last place.best later cells up is.has below in
        let none : 0 + suc (cell_of last cells) ≡ suc (cell_of last cells) = omega arith in
        let seen : found e 0 item place.best later cells ≡ found e (suc place.cell) item place.best later (drop (suc place.cell) cells) =
        skip ∙ ap (λ n. found e n item place.best later (drop (suc (cell_of last cells)) cells)) none ∙ ap
        (λ k. found e (suc k) item place.best later (drop (suc k) cells)) (sym is.cell) in
        tail-found e (suc place.cell) place.best place.rest later (cells_after elements place) (Ascend-drop (suc place.cell) cells up) is.rest
        ∙ ap (λ f. marks_at (option_to_list f)) (sym seen)

    joined-found : (places : List Place) → AllByRecursion (IsPlaceOf elements last) places → last < item
        → marks_with item (flat_map (beside_marks elements row) places) ≡ marks_at (joined_places elements item places)
    joined-found [] is below = refl
    joined-found (place ∷ places) is below =
        let f = option_to_list (found_at elements item place.element place.best) in
        filter-append (is_of item) (beside_marks elements row place) (flat_map (beside_marks elements row) places)
        ∙ (λ j. beside-found place is.0 below j ++ joined-found places is.1 below j)
        ∙ sym (map-append (mark_at row item) f (joined_places elements item places))

    -- ---- in later elements

    walk-found : (e : ℕ) (best ahead : ℤ) (places : List Place) (later : List (List (ℕ × ℤ))) → AllByRecursion IsPlain later → ahead ≡ totals later
        → marks_with item (walk_marks row e best ahead places later) ≡ marks_at (walked item e best places later)
    walk-found e best ahead places [] all is = refl
    walk-found e best ahead places (cells ∷ later) all is =
        let first = all.0 in
        let left : (ahead -ℤ total cells) ≡ totals later = omega (arith, ints, is) in
        let best' = best_past e best places in
        let places' = left_past e places in
        let f = option_to_list (found e 0 item best (totals later) cells) in
        filter-append (is_of item) (tail_marks row e 0 best ahead cells) (walk_marks row (suc e) best' (ahead -ℤ total cells) places' later)
        ∙ (λ j. tail-found e 0 best ahead (totals later) cells first.ascending is j ++ walk-found (suc e) best'
        (ahead -ℤ total cells) places' later all.1 left j)
        ∙ sym (map-append (mark_at row item) f (walked item (suc e) best' places' later))

    followed-found : (places : List Place) → AllByRecursion (IsPlaceOf elements last) places
        → marks_with item (later_marks elements row places) ≡ marks_at (followed_places elements item places)
    followed-found [] is = refl
    followed-found (place ∷ places) is =
        let first = is.0 in
        let rest = first.rest in
        let left : (place.rest -ℤ total (cells_after elements place)) ≡ totals (drop (suc place.element) elements) = omega (arith, ints, rest) in
        walk-found (suc place.element) place.best (place.rest -ℤ total (cells_after elements place)) places (drop (suc place.element) elements)
        (each-drop IsPlain (suc place.element) elements plain) left

-- ---- in all records

-- the marks by a kind of growth in records, of which the first has a number
abbrev pub grown_from : Growth → List (List ℕ) → ℕ → Records → List Mark
grown_from growth pattern row [] = []
grown_from growth pattern row (r ∷ rs) = row_marks growth r row (chain_of pattern r) ++ grown_from growth pattern (suc row) rs

row-found : (growth : Growth) (pattern : List (List ℕ)) (item row : ℕ) (r : List (List (ℕ × ℤ))) → IsSequence r → CanGrow growth pattern item
    → marks_with item (row_marks growth r row (chain_of pattern r)) ≡ map (mark_at row item) (chain_of (grown growth pattern item) r)
row-found IntoLast pattern item row r rules can =
    let is = chain_of-rules pattern r (Ends-can_grow IntoLast pattern item can) in
    joined-found item row r (last_item pattern) (plain-rules r rules) (chain_of pattern r) is can.below
    ∙ ap (map (mark_at row item)) (sym (chain_of-grown IntoLast pattern item r can))
row-found AfterLast pattern item row r rules can =
    let is = chain_of-rules pattern r can in
    followed-found item row r (last_item pattern) (plain-rules r rules) (chain_of pattern r) is
    ∙ ap (map (mark_at row item)) (sym (chain_of-grown AfterLast pattern item r can))

pub grown-found : (growth : Growth) (pattern : List (List ℕ)) (item row : ℕ) (rs : Records) → AllByRecursion IsSequence rs → CanGrow growth pattern item
    → marks_with item (grown_from growth pattern row rs) ≡ marks_from (grown growth pattern item) item row rs
grown-found growth pattern item row [] rules can = refl
grown-found growth pattern item row (r ∷ rs) rules can =
    filter-append (is_of item) (row_marks growth r row (chain_of pattern r)) (grown_from growth pattern (suc row) rs)
    ∙ (λ j. row-found growth pattern item row r rules.0 can j ++ grown-found growth pattern item (suc row) rs rules.1 can j)

-- the marks of all cells of records
abbrev pub first_from : ℕ → Records → List Mark
first_from row [] = []
first_from row (r ∷ rs) = walk_marks row 0 (pos 0) (totals r) [] r ++ first_from (suc row) rs

pub first-found : (item row : ℕ) (rs : Records) → AllByRecursion IsSequence rs → marks_with item (first_from row rs) ≡ marks_from
    ((item ∷ []) ∷ []) item row rs
first-found item row [] rules = refl
first-found item row (r ∷ rs) rules =
    filter-append (is_of item) (walk_marks row 0 (pos 0) (totals r) [] r) (first_from (suc row) rs)
    ∙ (λ j. here j ++ first-found item (suc row) rs rules.1 j)
  where
    here : marks_with item (walk_marks row 0 (pos 0) (totals r) [] r) ≡ map (mark_at row item) (chain_of ((item ∷ []) ∷ []) r)
    here = walk-found item row r 0 (plain-rules r rules.0) 0 (pos 0) (totals r) [] r (plain-rules r rules.0) refl ∙ ap (map (mark_at row item))
        (sym (chain_of-start item r))
