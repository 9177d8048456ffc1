-- What is met on a walk over a trail: the marks by which a pattern grows, and the cells behind each.
use Rattle.std.proofs.Common.{◌≡◌, ℕ, zero, suc, ◌+◌, ◌<◌, ◌≤◌, Bool, true, false, cond, eqb, ltb, ℤ, pos, ◌+ℤ◌, ◌-ℤ◌, List, [], ◌∷◌, ◌++◌, Option, None, Some}
use Rattle.std.proofs.Common.{option_map, option_to_list, filter, length, drop, reverse, refl, sym, ap, ◌∙◌, subst, arith, append_assoc, append-nil}
use Rattle.std.specs.Int.{int_max}
use Rattle.std.specs.List.{AllByRecursion}
use Rattle.std.proofs.lemmas.Int.{ints}
use Rattle.std.proofs.lemmas.Bool.{eq-eqb, eqb-false, eqb-true, lt-ltb, ltb-true, ne_eqb}
use Rattle.std.proofs.lemmas.List.{drop-map, reverse-append}
use Rattle.std.proofs.lemmas.List.Elements.{filter-append}
use Rattle.hu_kind.specs.Record.{total}
use Rattle.hu_kind.proofs.lemmas.Each.{each-append, each-weaker}
use Rattle.hu_chain.specs.declared.place.Place.{Place}
use Rattle.hu_chain.specs.Pattern.{last_item}
use Rattle.hu_chain.specs.Place.{best_at, cell_of, element_at, places_from, rest_at, totals}
use Rattle.hu_chain.specs.Search.{best_past, left_past}
use Rattle.hu_span.specs.declared.mark.Mark.{Mark}
use Rattle.hu_span.specs.declared.trail.TrailCell.{TrailCell}
use Rattle.hu_span.specs.Gather.{cells_after, beside_marks, later_marks, tail_marks, walk_marks}
use Rattle.hu_span.specs.Kept.{counted, takes, weighed, weighed_in}
use Rattle.hu_span.specs.Mark.{mark_at}
use Rattle.hu_span.specs.Trail.{behind_element, best_before, cells_from, cells_past, in_element, is_held, left_before, mark_of, numbered, trail_beside}
use Rattle.hu_span.specs.Trail.{trail_later, trail_marks, values_in}
use Rattle.hu_span.proofs.MarkLemmas.{each-filter}
use Rattle.hu_span.proofs.WeighedLemmas.{weigh, weighed-after, weighed-element}

drop-one : {A : Type 0} (n : ℕ) (xs : List A) → drop 1 (drop n xs) ≡ drop (suc n) xs
drop-one zero xs = refl
drop-one (suc n) [] = refl
drop-one (suc n) (x ∷ xs) = drop-one n xs

element_at-drop : (n : ℕ) (elements : List (List (ℕ × ℤ))) → element_at (drop n elements) 0 ≡ element_at elements n
element_at-drop zero elements = refl
element_at-drop (suc n) [] = refl
element_at-drop (suc n) (cells ∷ elements) = element_at-drop n elements

-- places stand in elements that ascend, from one on
abbrev pub AreFrom : ℕ → List Place → Type 0
AreFrom e [] = Unit {0}
AreFrom e (place ∷ places) = (e ≤ place.element) × AreFrom (suc place.element) places

-- the places of a pattern do
pub chain-from : (pattern : List (List ℕ)) (elements : List (List (ℕ × ℤ))) (e : ℕ) (left : List (List (ℕ × ℤ))) → AreFrom e
    (places_from pattern elements e left)
chain-from pattern elements e [] = tt
chain-from pattern elements e (cells ∷ left) = by (best_at pattern elements e) (chain-from pattern elements (suc e) left)
  where
    later : (places : List Place) → AreFrom (suc e) places → AreFrom e places
    later [] are = tt
    later (place ∷ places) are = (omega (arith, are.0), are.1)

    by : (o : Option ℤ) → AreFrom (suc e) (places_from pattern elements (suc e) left)
        → AreFrom e (option_to_list (option_map (λ u. record {
          element = e;
          cell = cell_of (last_item pattern) (element_at elements e);
          best = u;
          rest = rest_at elements e (cell_of (last_item pattern) (element_at elements e));
        }) o) ++ places_from pattern elements (suc e) left)
    by None rest = later (places_from pattern elements (suc e) left) rest
    by (Some u) rest = (omega arith, rest)

-- ---- where no place stands before an element

from-best : (e : ℕ) (best : ℤ) (places : List Place) → AreFrom e places → best_before e best places ≡ best
from-best e best [] are = refl
from-best e best (place ∷ places) are = by (ltb place.element e) refl
  where
    by : (b : Bool) → ltb place.element e ≡ b → cond b (best_before e (int_max best place.best) places) best ≡ best
    by true is = let low = ltb-true place.element e is in absurd (omega (arith, are.0, low))
    by false is = refl

from-left : (e : ℕ) (places : List Place) → AreFrom e places → left_before e places ≡ places
from-left e [] are = refl
from-left e (place ∷ places) are = by (ltb place.element e) refl
  where
    by : (b : Bool) → ltb place.element e ≡ b → cond b (left_before e places) (place ∷ places) ≡ place ∷ places
    by true is = let low = ltb-true place.element e is in absurd (omega (arith, are.0, low))
    by false is = refl

-- ---- past an element

past-from : (e : ℕ) (places : List Place) → AreFrom e places → AreFrom (suc e) (left_past e places)
past-from e [] are = tt
past-from e (place ∷ places) are = by (eqb e place.element) refl
  where
    by : (b : Bool) → eqb e place.element ≡ b → AreFrom (suc e) (cond b places (place ∷ places))
    by true is = let same : e ≡ place.element = eqb-true e place.element is in subst (λ k. AreFrom (suc k) places) (sym same) are.1
    by false is = let other = eqb-false e place.element is in (omega (arith, are.0, other), are.1)

past-best : (e d : ℕ) (best : ℤ) (places : List Place) → e < d → best_before d best places ≡ best_before d (best_past e best places) (left_past e places)
past-best e d best [] below = refl
past-best e d best (place ∷ places) below = by (eqb e place.element) refl
  where
    by : (b : Bool) → eqb e place.element ≡ b
        → best_before d best (place ∷ places)
        ≡ best_before d (cond b (int_max best place.best) best) (cond b places (place ∷ places))
    by true is =
        let same : e ≡ place.element = eqb-true e place.element is in
        let low = lt-ltb place.element d (omega (arith, same, below)) in
        simp low
    by false is = refl

past-left : (e d : ℕ) (places : List Place) → e < d → left_before d places ≡ left_before d (left_past e places)
past-left e d [] below = refl
past-left e d (place ∷ places) below = by (eqb e place.element) refl
  where
    by : (b : Bool) → eqb e place.element ≡ b
        → left_before d (place ∷ places) ≡ left_before d (cond b places (place ∷ places))
    by true is =
        let same : e ≡ place.element = eqb-true e place.element is in
        let low = lt-ltb place.element d (omega (arith, same, below)) in
        simp low
    by false is = refl

-- ---- the cells of elements

-- cells are of an element, or all behind it
abbrev pub AreIn : ℕ → List TrailCell → Type 0
AreIn e cells = AllByRecursion (λ (cell : TrailCell). cell.element ≡ e) cells

abbrev pub AreAbove : ℕ → List TrailCell → Type 0
AreAbove e cells = AllByRecursion (λ (cell : TrailCell). e < cell.element) cells

numbered-in : (e c : ℕ) (cells : List (ℕ × ℤ)) → AreIn e (numbered e c cells)
numbered-in e c [] = tt
numbered-in e c (cell ∷ cells) = (refl, numbered-in e (suc c) cells)

from-above : (e d : ℕ) (later : List (List (ℕ × ℤ))) → e < d → AreAbove e (cells_from d later)
from-above e d [] below = tt
from-above e d (cells ∷ later) below =
    each-append (λ (cell : TrailCell). e < cell.element) (numbered d 0 cells) (cells_from (suc d) later)
    (each-weaker (λ (cell : TrailCell). cell.element ≡ d) (λ (cell : TrailCell). e < cell.element) (numbered d 0 cells) (λ cell is. omega (arith, is, below))
    (numbered-in d 0 cells)) (from-above e (suc d) later (omega (arith, below)))

pub front-own : (e : ℕ) (front more : List TrailCell) → AreIn e front → AreAbove e more → in_element e (front ++ more) ≡ front
front-own e [] [] is above = refl
front-own e [] (cell ∷ more) is above = let other = ne_eqb cell.element e (λ same. absurd (omega (arith, same, above.0))) in simp other
front-own e (cell ∷ front) more is above = let same = eq-eqb cell.element e is.0 in simp same (ap (λ cs. cell ∷ cs) (front-own e front more is.1 above))

pub behind-front : (e : ℕ) (front more : List TrailCell) → AreIn e front → AreAbove e more → behind_element e (front ++ more) ≡ more
behind-front e [] [] is above = refl
behind-front e [] (cell ∷ more) is above = let other = ne_eqb cell.element e (λ same. absurd (omega (arith, same, above.0))) in simp other
behind-front e (cell ∷ front) more is above = let same = eq-eqb cell.element e is.0 in simp same (behind-front e front more is.1 above)

pub element-parts : (e : ℕ) (cells : List TrailCell) → in_element e cells ++ behind_element e cells ≡ cells
element-parts e [] = refl
element-parts e (cell ∷ cells) = by (eqb cell.element e) (element-parts e cells)
  where
    by : (b : Bool) → in_element e cells ++ behind_element e cells ≡ cells
        → cond b (cell ∷ in_element e cells) [] ++ cond b (behind_element e cells) (cell ∷ cells) ≡ cell ∷ cells
    by true rest = ap (λ cs. cell ∷ cs) rest
    by false rest = refl

pub values-append : (xs ys : List TrailCell) → values_in (xs ++ ys) ≡ values_in xs +ℤ values_in ys
values-append [] ys = omega (arith, ints)
values-append (x ∷ xs) ys = let rest = values-append xs ys in omega (arith, ints, rest)

-- ---- the cells of a record the other way round

numbered-end : (e c : ℕ) (cells : List (ℕ × ℤ)) (cell : ℕ × ℤ)
    → numbered e c (cells ++ cell ∷ []) ≡ numbered e c cells ++ record { item = record { 0 = cell.0 }; element = e; cell = c + length cells; value = cell.1 }
    ∷ []
numbered-end e c [] cell = let n : c ≡ c + 0 = omega arith in ap (λ k. record { item = record { 0 = cell.0 }; element = e; cell = k; value = cell.1 } ∷ []) n
numbered-end e c (first ∷ cells) cell =
    let n : suc c + length cells ≡ c + suc (length cells) = omega arith in
    ap (λ xs. record { item = record { 0 = first.0 }; element = e; cell = c; value = first.1 } ∷ xs) (numbered-end e (suc c) cells cell
    ∙ ap (λ k. numbered e (suc c) cells ++ record { item = record { 0 = cell.0 }; element = e; cell = k; value = cell.1 } ∷ []) n)

pub numbered-back : (e : ℕ) (cells : List (ℕ × ℤ)) (cell : ℕ × ℤ) → reverse (numbered e 0 (cells ++ cell ∷ []))
    ≡ record { item = record { 0 = cell.0 }; element = e; cell = length cells; value = cell.1 } ∷ reverse (numbered e 0 cells)
numbered-back e cells cell =
    let n : 0 + length cells ≡ length cells = omega arith in
    let last : ℕ → TrailCell = λ k. record { item = record { 0 = cell.0 }; element = e; cell = k; value = cell.1 } in
    ap reverse (numbered-end e 0 cells cell) ∙ reverse-append (numbered e 0 cells) (last (0 + length cells) ∷ [])
    ∙ ap (λ k. last k ∷ reverse (numbered e 0 cells)) n

from-end : (e : ℕ) (elements : List (List (ℕ × ℤ))) (cells : List (ℕ × ℤ)) → cells_from e (elements ++ cells ∷ []) ≡ cells_from e elements ++ numbered
    (e + length elements) 0 cells
from-end e [] cells = let n : e ≡ e + 0 = omega arith in append-nil (numbered e 0 cells) ∙ ap (λ k. numbered k 0 cells) n
from-end e (first ∷ elements) cells =
    let n : suc e + length elements ≡ e + suc (length elements) = omega arith in
    ap (λ xs. numbered e 0 first ++ xs) (from-end (suc e) elements cells ∙ ap (λ k. cells_from (suc e) elements ++ numbered k 0 cells) n)
    ∙ sym (append_assoc (numbered e 0 first) (cells_from (suc e) elements) (numbered (e + suc (length elements)) 0 cells))

pub from-back : (elements : List (List (ℕ × ℤ))) (cells : List (ℕ × ℤ)) → reverse (cells_from 0 (elements ++ cells ∷ []))
    ≡ reverse (numbered (length elements) 0 cells) ++ reverse (cells_from 0 elements)
from-back elements cells =
    let n : 0 + length elements ≡ length elements = omega arith in
    ap reverse (from-end 0 elements cells ∙ ap (λ k. cells_from 0 elements ++ numbered k 0 cells) n)
    ∙ reverse-append (cells_from 0 elements) (numbered (length elements) 0 cells)

module _ (keep : ℕ → Bool) where
  abbrev held : List TrailCell → List TrailCell
  held cells = filter (is_held keep) cells

  pub held-in : (e c : ℕ) (cells : List (ℕ × ℤ)) → AreIn e (held (numbered e c cells))
  held-in e c cells = each-filter (λ (cell : TrailCell). cell.element ≡ e) (is_held keep) (numbered e c cells) (numbered-in e c cells)

  pub held-above : (e d : ℕ) (later : List (List (ℕ × ℤ))) → e < d → AreAbove e (held (cells_from d later))
  held-above e d later below = each-filter (λ (cell : TrailCell). e < cell.element) (is_held keep) (cells_from d later) (from-above e d later below)

  -- ---- their values

  values-tail : (e c : ℕ) (cells : List (ℕ × ℤ)) → values_in (held (numbered e c cells)) ≡ total (weighed keep cells)
  values-tail e c [] = refl
  values-tail e c (cell ∷ cells) = by (keep cell.0) (values-tail e (suc c) cells)
    where
      x : TrailCell
      x = record { item = record { 0 = cell.0 }; element = e; cell = c; value = cell.1 }

      rest : List TrailCell
      rest = held (numbered e (suc c) cells)

      by : (b : Bool) → values_in rest ≡ total (weighed keep cells) → values_in (cond b (x ∷ rest) rest) ≡ counted b cell.1 +ℤ total (weighed keep cells)
      by true is = omega (arith, ints, is)
      by false is = omega (arith, ints, is)

  values-later : (e : ℕ) (later : List (List (ℕ × ℤ))) → values_in (held (cells_from e later)) ≡ totals (weighed_in keep later)
  values-later e [] = refl
  values-later e (cells ∷ later) =
      let here = values-tail e 0 cells in
      let rest = values-later (suc e) later in
      let split = ap values_in (filter-append (is_held keep) (numbered e 0 cells) (cells_from (suc e) later)) in
      let parts = values-append (held (numbered e 0 cells)) (held (cells_from (suc e) later)) in
      omega (arith, ints, here, rest, split, parts)

  -- those behind a cell are its rest
  pub values-past : (elements : List (List (ℕ × ℤ))) (e c : ℕ) → values_in (held (cells_past elements e c)) ≡ rest_at (weighed_in keep elements) e c
  values-past elements e c =
      let own = drop (suc c) (element_at elements e) in
      let others = drop (suc e) elements in
      let here = values-tail e (suc c) own ∙ ap total (sym (drop-map (weigh keep) (suc c) (element_at elements e)) ∙ ap (drop (suc c)) (sym
      (weighed-element keep elements e))) in
      let rest = values-later (suc e) others ∙ ap totals (sym (drop-map (weighed keep) (suc e) elements)) in
      let split = ap values_in (filter-append (is_held keep) (numbered e (suc c) own) (cells_from (suc e) others)) in
      let parts = values-append (held (numbered e (suc c) own)) (held (cells_from (suc e) others)) in
      omega (arith, ints, here, rest, split, parts)

  -- ---- the marks of an element, and of those behind it

  tail-walked : (row e c : ℕ) (best ahead : ℤ) (places : List Place) (cells : List (ℕ × ℤ)) (more : List TrailCell)
      → best_before e best places ≡ best → left_before e places ≡ places
      → filter (takes keep) (tail_marks row e c best ahead (weighed keep cells)) ++ trail_marks row best (ahead -ℤ total (weighed keep cells)) places more
      ≡ trail_marks row best ahead places (held (numbered e c cells) ++ more)
  tail-walked row e c best ahead places [] more b l = let none : (ahead -ℤ pos 0) ≡ ahead = omega (arith, ints) in ap
      (λ a. trail_marks row best a places more) none
  tail-walked row e c best ahead places (cell ∷ cells) more b l =
      by (keep cell.0) (tail-walked row e (suc c) best (ahead -ℤ counted (keep cell.0) cell.1) places cells more b l)
    where
      x : TrailCell
      x = record { item = record { 0 = cell.0 }; element = e; cell = c; value = cell.1 }

      rest : List TrailCell
      rest = held (numbered e (suc c) cells)

      after : Bool → List Mark
      after k = filter (takes keep) (tail_marks row e (suc c) best (ahead -ℤ counted k cell.1) (weighed keep cells))

      mark : Bool → Mark
      mark k = mark_at row cell.0 (record { element = e; cell = c; best = best +ℤ counted k cell.1; rest = ahead -ℤ counted k cell.1 })

      by : (k : Bool)
          → after k ++ trail_marks row best ((ahead -ℤ counted k cell.1) -ℤ total (weighed keep cells)) places more
          ≡ trail_marks row best (ahead -ℤ counted k cell.1) places (rest ++ more)
          → cond k (mark k ∷ after k) (after k) ++ trail_marks row best (ahead -ℤ (counted k cell.1 +ℤ total (weighed keep cells))) places more
          ≡ trail_marks row best ahead places (cond k (x ∷ rest) rest ++ more)
      by true ih =
          let t = total (weighed keep cells) in
          let less : (ahead -ℤ (cell.1 +ℤ t)) ≡ ((ahead -ℤ cell.1) -ℤ t) = omega (arith, ints) in
          ap (λ a. mark true ∷ (after true ++ trail_marks row best a places more)) less
          ∙ ap (λ ms. mark true ∷ ms) ih
          ∙ (λ j. mark_of row (sym b j) ahead x ∷ trail_marks row (sym b j) (ahead -ℤ cell.1) (sym l j) (rest ++ more))
      by false ih =
          let t = total (weighed keep cells) in
          let less : (ahead -ℤ (pos 0 +ℤ t)) ≡ ((ahead -ℤ pos 0) -ℤ t) = omega (arith, ints) in
          let none : (ahead -ℤ pos 0) ≡ ahead = omega (arith, ints) in
          ap (λ a. after false ++ trail_marks row best a places more) less ∙ ih ∙ ap (λ a. trail_marks row best a places (rest ++ more)) none

  -- past an element
  marks-past : (row e : ℕ) (best ahead : ℤ) (places : List Place) (cells : List TrailCell) → AreAbove e cells
      → trail_marks row best ahead places cells ≡ trail_marks row (best_past e best places) ahead (left_past e places) cells
  marks-past row e best ahead places [] above = refl
  marks-past row e best ahead places (cell ∷ cells) above =
      let b = past-best e cell.element best places above.0 in
      let l = past-left e cell.element places above.0 in
      (λ j. mark_of row (b j) ahead cell ∷ trail_marks row (b j) (ahead -ℤ cell.value) (l j) cells)

  pub walk-trail : (row e : ℕ) (best ahead : ℤ) (places : List Place) (later : List (List (ℕ × ℤ))) → AreFrom e places
      → filter (takes keep) (walk_marks row e best ahead places (weighed_in keep later)) ≡ trail_marks row best ahead places (held (cells_from e later))
  walk-trail row e best ahead places [] from = refl
  walk-trail row e best ahead places (cells ∷ later) from =
      let w = weighed keep cells in
      let best' = best_past e best places in
      let left' = left_past e places in
      let ahead' = ahead -ℤ total w in
      let more = held (cells_from (suc e) later) in
      let first = tail_marks row e 0 best ahead w in
      filter-append (takes keep) first (walk_marks row (suc e) best' ahead' left' (weighed_in keep later))
      ∙ ap (λ ms. filter (takes keep) first ++ ms) (walk-trail row (suc e) best' ahead' left' later (past-from e places from)
      ∙ sym (marks-past row e best ahead' places more (held-above e (suc e) later (omega arith))))
      ∙ tail-walked row e 0 best ahead places cells more (from-best e best places from) (from-left e places from)
      ∙ ap (trail_marks row best ahead places) (sym (filter-append (is_held keep) (numbered e 0 cells) (cells_from (suc e) later)))

  -- ---- behind a place

  module _ (elements : List (List (ℕ × ℤ))) (row : ℕ) (place : Place) where
    abbrev own : List TrailCell
    own = held (numbered place.element (suc place.cell) (drop (suc place.cell) (element_at elements place.element)))

    abbrev others : List TrailCell
    others = held (cells_from (suc place.element) (drop (suc place.element) elements))

    abbrev pub past : List TrailCell
    past = held (cells_past elements place.element place.cell)

    past-parts : past ≡ own ++ others
    past-parts = filter-append (is_held keep) (numbered place.element (suc place.cell) (drop (suc place.cell) (element_at elements place.element)))
        (cells_from (suc place.element) (drop (suc place.element) elements))

    own-in : AreIn place.element own
    own-in = held-in place.element (suc place.cell) (drop (suc place.cell) (element_at elements place.element))

    others-above : AreAbove place.element others
    others-above = held-above place.element (suc place.element) (drop (suc place.element) elements) (omega arith)

    past-own : in_element place.element past ≡ own
    past-own = ap (in_element place.element) past-parts ∙ front-own place.element own others own-in others-above

    past-others : behind_element place.element past ≡ others
    past-others = ap (behind_element place.element) past-parts ∙ behind-front place.element own others own-in others-above

    pub beside-trail : trail_beside row place past ≡ filter (takes keep) (beside_marks (weighed_in keep elements) row place)
    beside-trail =
        let cells = drop (suc place.cell) (element_at elements place.element) in
        ap (trail_marks row place.best place.rest []) (past-own ∙ sym (append-nil own))
        ∙ sym (tail-walked row place.element (suc place.cell) place.best place.rest [] cells [] refl refl)
        ∙ append-nil (filter (takes keep) (tail_marks row place.element (suc place.cell) place.best place.rest (weighed keep cells)))
        ∙ ap (λ cs. filter (takes keep) (tail_marks row place.element (suc place.cell) place.best place.rest cs)) (sym (weighed-after keep elements place))

    pub later-trail : (places : List Place) → AreFrom (suc place.element) places
        → trail_later row (place ∷ places) past ≡ filter (takes keep) (later_marks (weighed_in keep elements) row (place ∷ places))
    later-trail places from =
        let cells = drop (suc place.cell) (element_at elements place.element) in
        let sum = ap values_in past-own ∙ values-tail place.element (suc place.cell) cells ∙ ap total (sym (weighed-after keep elements place)) in
        let ahead = place.rest -ℤ total (cells_after (weighed_in keep elements) place) in
        (λ j. trail_marks row place.best (place.rest -ℤ sum j) places (past-others j))
        ∙ sym (walk-trail row (suc place.element) place.best ahead places (drop (suc place.element) elements) from)
        ∙ ap (λ es. filter (takes keep) (walk_marks row (suc place.element) place.best ahead places es))
        (sym (drop-map (weighed keep) (suc place.element) elements))

  -- ---- what follows each cell

  -- behind each of cells stand those of its record behind it
  abbrev pub AreFollowed : List (List (ℕ × ℤ)) → List TrailCell → Type 0
  AreFollowed elements [] = Unit {0}
  AreFollowed elements (cell ∷ cells) = (cells ≡ held (cells_past elements cell.element cell.cell)) × AreFollowed elements cells

  pub followed-behind : (elements : List (List (ℕ × ℤ))) (front more : List TrailCell) → AreFollowed elements (front ++ more) → AreFollowed elements more
  followed-behind elements [] more are = are
  followed-behind elements (cell ∷ front) more are = followed-behind elements front more are.1

  module _ (elements : List (List (ℕ × ℤ))) where
    followed-cells : (e c : ℕ) (cells : List (ℕ × ℤ)) (later : List (List (ℕ × ℤ))) → cells ≡ drop c (element_at elements e) → later ≡ drop (suc e) elements
        → AreFollowed elements (held (cells_from (suc e) later))
        → AreFollowed elements (held (numbered e c cells ++ cells_from (suc e) later))
    followed-cells e c [] later at left are = are
    followed-cells e c (cell ∷ cells) later at left are =
        let next : cells ≡ drop (suc c) (element_at elements e) = ap (drop 1) at ∙ drop-one c (element_at elements e) in
        let rest = followed-cells e (suc c) cells later next left are in
        by (keep cell.0) (λ j. held (numbered e (suc c) (next j) ++ cells_from (suc e) (left j))) rest
      where
        x : TrailCell
        x = record { item = record { 0 = cell.0 }; element = e; cell = c; value = cell.1 }

        by : (b : Bool) → held (numbered e (suc c) cells ++ cells_from (suc e) later) ≡ held (cells_past elements e c)
            → AreFollowed elements (held (numbered e (suc c) cells ++ cells_from (suc e) later))
            → AreFollowed elements (cond b (x ∷ held (numbered e (suc c) cells ++ cells_from (suc e) later))
            (held (numbered e (suc c) cells ++ cells_from (suc e) later)))
        by true is rest = (is, rest)
        by false is rest = rest

    followed-later : (e : ℕ) (later : List (List (ℕ × ℤ))) → later ≡ drop (suc e) elements → AreFollowed elements (held (cells_from (suc e) later))
    followed-later e [] left = tt
    followed-later e (cells ∷ later) left =
        let next : later ≡ drop (suc (suc e)) elements = ap (drop 1) left ∙ drop-one (suc e) elements in
        let here : cells ≡ element_at elements (suc e) = ap (λ es. element_at es 0) left ∙ element_at-drop (suc e) elements in
        followed-cells (suc e) 0 cells later here next (followed-later (suc e) later next)

    pub followed-past : (e c : ℕ) → AreFollowed elements (held (cells_past elements e c))
    followed-past e c =
        followed-cells e (suc c) (drop (suc c) (element_at elements e)) (drop (suc e) elements) refl refl
        (followed-later e (drop (suc e) elements) refl)

  pub followed-all : (elements : List (List (ℕ × ℤ))) → AreFollowed elements (held (cells_from 0 elements))
  followed-all [] = tt
  followed-all (cells ∷ later) = followed-cells (cells ∷ later) 0 0 cells later refl refl (followed-later (cells ∷ later) 0 later refl)
