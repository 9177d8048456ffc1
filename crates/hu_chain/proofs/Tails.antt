-- What a search among the cells of an element comes upon, and the rules of the cells after a place.
use Rattle.std.proofs.Common.{◌≡◌, ℕ, zero, suc, ◌<◌, ◌≤◌, ◌+◌, Bool, true, false, cond, eqb, ℤ, pos, ◌-◌, ◌+ℤ◌, ◌-ℤ◌, ◌≤ℤ◌, unsigned_abs, None, Some, is_some}
use Rattle.std.proofs.Common.{List, [], ◌∷◌, length, get_or, drop, take, refl, sym, ap, ◌∙◌, subst, arith, add-one, sum_by, length-drop}
use Rattle.std.specs.Prelude.{IfSome}
use Rattle.std.specs.List.{AllByRecursion}
use Rattle.std.proofs.lemmas.Int.{ints}
use Rattle.std.proofs.lemmas.Bool.{eqb-true, ne_eqb}
use Rattle.std.proofs.lemmas.List.{length-map, take_all}
use Rattle.std.proofs.lemmas.List.Sums.{sum_by-cons}
use Rattle.hu_kind.specs.declared.item.Cell.{Cell}
use Rattle.hu_kind.specs.Cell.{pairs_of, pair_of}
use Rattle.hu_kind.specs.Record.{absolute_of, has, items_in, total, value_of, IsItemset}
use Rattle.hu_kind.specs.Order.{Ascend}
use Rattle.hu_kind.specs.Sequence.{IsSequence}
use Rattle.hu_kind.proofs.lemmas.Occurring.{at_member, has-member}
use Rattle.hu_kind.proofs.lemmas.Each.{each-take, each-drop}
use Rattle.hu_chain.specs.declared.place.Place.{Place}
use Rattle.hu_chain.specs.declared.place.Tail.{Tail}
use Rattle.hu_chain.specs.Place.{cell_of, element_at, totals}
use Rattle.hu_chain.specs.Bound.{IsFit}
use Rattle.hu_chain.specs.Search.{cell_in, found, found_at, IsPlain, IsPlaceOf, IsTail, IsTailOf}
use Rattle.hu_chain.proofs.lemmas.Cells.{all-above, pairs-take, total-above, total-parts, total-next, cell_of-within, Ascend-drop, Ascend-itemset, IsAbove}
use Rattle.hu_chain.proofs.Finding.{found-whole, place_of_item}

value_of-at : (item : ℕ) (cells : List Cell) (d : Cell) → has item (pairs_of cells) ≡ true
    → value_of item (pairs_of cells) ≡ (get_or cells (cell_of item (pairs_of cells)) d).value
value_of-at item [] d h = cc
value_of-at item (cell ∷ cells) d h = by (value_of-at item cells d) (eqb item cell.item.0) refl
  where
    by : (has item (pairs_of cells) ≡ true → value_of item (pairs_of cells)
        ≡ (get_or cells (cell_of item (pairs_of cells)) d).value) → (b : Bool) → eqb item cell.item.0 ≡ b
        → value_of item (pairs_of (cell ∷ cells)) ≡ (get_or (cell ∷ cells) (cell_of item (pairs_of (cell ∷ cells))) d).value
    by ih true e = simp e refl
    by ih false e = simp e (ih (simp e at h))

-- a cell in which the item stands
cell_in-some : (item k : ℕ) (cells : List (ℕ × ℤ)) → Some k ≡ cell_in item cells → (has item cells ≡ true) × (cell_of item cells ≡ k)
cell_in-some item k cells e = by (has item cells) refl e
  where
    by : (b : Bool) → has item cells ≡ b → Some k ≡ cond b (Some (cell_of item cells)) None → (has item cells ≡ true) × (cell_of item cells ≡ k)
    by true h s = (h, cc)
    by false h s = cc

cell_in-missing : (item : ℕ) (cells : List (ℕ × ℤ)) → None ≡ cell_in item cells → has item cells ≡ false
cell_in-missing item cells e = by (has item cells) refl e
  where
    by : (b : Bool) → has item cells ≡ b → None ≡ cond b (Some (cell_of item cells)) None → has item cells ≡ false
    by true h s = cc
    by false h s = h

pub found-missing : (element c item : ℕ) (best later : ℤ) (cells : List (ℕ × ℤ)) → None ≡ cell_in item cells → found element c item best later cells ≡ None
found-missing element c item best later cells e =
    found-whole element c item best later cells ∙ ap (λ b. cond b (Some (place_of_item element c item best later cells)) None) (cell_in-missing item cells e)

-- the sums at a cell that was found
pub record IsFound (tail : Tail) (item k : ℕ) (cell : Cell) : Type 0 where
  pub has : has item (pairs_of tail.cells.now) ≡ true
  pub cell_is : cell_of item (pairs_of tail.cells.now) ≡ k
  pub within : k < length tail.cells.now
  pub value : value_of item (pairs_of tail.cells.now) ≡ (get_or tail.cells.now k cell).value
  pub low : pos 0 ≤ℤ (get_or tail.cells.now k cell).value
  pub front : (get_or tail.cells.now k cell).value ≤ℤ total (pairs_of (take (k + 1) tail.cells.now))
  pub parts : total (pairs_of (take (k + 1) tail.cells.now)) +ℤ total (drop (suc k) (pairs_of tail.cells.now)) ≡ total (pairs_of tail.cells.now)
  pub rest : pos 0 ≤ℤ total (drop (suc k) (pairs_of tail.cells.now))
  pub none_below : AllByRecursion IsAbove (pairs_of (take (k + 1) tail.cells.now))

value-low : (cells : List Cell) (k : ℕ) (d : Cell) → AllByRecursion IsAbove (pairs_of cells) → k < length cells → pos 0 ≤ℤ (get_or cells k d).value
value-low [] k d above within = absurd (omega arith)
value-low (cell ∷ cells) zero d above within = above.0
value-low (cell ∷ cells) (suc k) d above within = value-low cells k d above.1 (omega arith)

front-low : (cells : List Cell) (k : ℕ) → AllByRecursion IsAbove (pairs_of cells) → pos 0 ≤ℤ total (pairs_of (take k cells))
front-low cells k above = rw (pairs-take k cells) (total-above (take k (pairs_of cells)) (each-take IsAbove k (pairs_of cells) above))

pub IsFound-from : (tail : Tail) (item k : ℕ) (cell : Cell) → IsTail tail → Some k ≡ cell_in item (pairs_of tail.cells.now) → IsFound tail item k cell
IsFound-from tail item k cell is e =
    let cells = tail.cells.now in
    let some = cell_in-some item k (pairs_of cells) e in
    let above = is.plain.none_below in
    let same : length (pairs_of cells) ≡ length cells = length-map cells pair_of in
    let inside = cell_of-within item (pairs_of cells) some.0 in
    let here : cell_of item (pairs_of cells) ≡ k = some.1 in
    let within : k < length cells = omega arith in
    let next = total-next cells k cell within in
    let before = front-low cells k above in
    let parts = total-parts (suc k) (pairs_of cells) in
    let fronts = ap total (pairs-take (suc k) cells) in
    record {
      has = some.0;
      cell_is = here;
      within = within;
      value = value_of-at item cells cell some.0 ∙ ap (λ i. (get_or cells i cell).value) here;
      low = value-low cells k cell above within;
      front = rw add-one (omega (arith, ints));
      parts = rw add-one (omega (arith, ints));
      rest = total-above (drop (suc k) (pairs_of cells)) (each-drop IsAbove (suc k) (pairs_of cells) above);
      none_below = rw (add-one, pairs-take (suc k) cells) (each-take IsAbove (suc k) (pairs_of cells) above);
    }

-- the place that a search finds
pub found-some : (tail : Tail) (item k : ℕ) (cell : Cell) (place : Place) → IsFound tail item k cell → place.element
    ≡ tail.element → place.cell ≡ tail.first + k
    → place.best ≡ tail.best +ℤ (get_or tail.cells.now k cell).value → place.rest ≡ tail.ahead -ℤ total (pairs_of (take (k + 1) tail.cells.now))
    → Some place ≡ found tail.element tail.first item tail.best (tail.ahead -ℤ total (pairs_of tail.cells.now)) (pairs_of tail.cells.now)
found-some tail item k cell place is element number best rest =
    let cells = pairs_of tail.cells.now in
    let later = tail.ahead -ℤ total cells in
    let there = place_of_item tail.element tail.first item tail.best later cells in
    let number' : place.cell ≡ tail.first + cell_of item cells = omega (arith, is.cell_is) in
    let best' : place.best ≡ tail.best +ℤ value_of item cells = omega (arith, ints, is.value) in
    let dropped = ap (λ i. total (drop (suc i) cells)) is.cell_is in
    let parts = is.parts in
    let rest' : place.rest ≡ total (drop (suc (cell_of item cells)) cells) +ℤ later = omega (arith, ints) in
    let same : place ≡ there = made place there element number' best' rest' in
    ap (λ p. Some p) same ∙ sym (ap (λ b. cond b (Some there) None) is.has) ∙ sym (found-whole tail.element tail.first item tail.best later cells)
  where
    made : (p q : Place) → p.element ≡ q.element → p.cell ≡ q.cell → p.best ≡ q.best → p.rest ≡ q.rest → p ≡ q
    made p q a b c d =
        let at : ℕ → ℕ → ℤ → ℤ → Place = λ e n u r. record { element = e; cell = n; best = u; rest = r } in
        ap (λ e. at e p.cell p.best p.rest) a ∙ ap (λ n. at q.element n p.best p.rest) b
        ∙ ap (λ u. at q.element q.cell u p.rest) c ∙ ap (λ r. at q.element q.cell q.best r) d

-- what a search finds is fit
pub found-fit : (tail : Tail) (item k : ℕ) (cell : Cell) → IsTail tail → IsFound tail item k cell
    → IfSome (found tail.element tail.first item tail.best (tail.ahead -ℤ total (pairs_of tail.cells.now)) (pairs_of tail.cells.now)) IsFit
found-fit tail item k cell rules is =
    let place : Place = record {
      element = tail.element;
      cell = tail.first + k;
      best = tail.best +ℤ (get_or tail.cells.now k cell).value;
      rest = tail.ahead -ℤ total (pairs_of (take (k + 1) tail.cells.now));
    } in
    let low = is.low in
    let front = is.front in
    let parts = is.parts in
    let left = is.rest in
    let above = rules.best in
    let holds = rules.holds in
    let fits = rules.fits in
    let fit : IsFit place = record { best = omega (arith, ints); rest = omega (arith, ints); reach = omega (arith, ints) } in
    subst (λ p. IfSome p IsFit) (found-some tail item k cell place is refl refl refl refl) fit

-- ---- the elements of a sequence

pub element_at-any : (elements : List (List (ℕ × ℤ))) (e : ℕ) (d : List (ℕ × ℤ)) → e < length elements → element_at elements e ≡ get_or elements e d
element_at-any [] e d within = absurd (omega arith)
element_at-any (cells ∷ elements) zero d within = refl
element_at-any (cells ∷ elements) (suc e) d within = element_at-any elements e d (omega arith)

-- what is left of cells from a place on is all of them from there on
pub cells-left : (cells : List Cell) (k : ℕ) → take (length cells - k) (drop k cells) ≡ drop k cells
cells-left cells k = rw (← length-drop k cells) (take_all (length (drop k cells)) (drop k cells) (omega arith))

pub element-above : (elements : List (List (ℕ × ℤ))) (e : ℕ) → AllByRecursion (AllByRecursion IsAbove) elements → AllByRecursion IsAbove (element_at elements e)
element-above [] e above = tt
element-above (cells ∷ elements) zero above = above.0
element-above (cells ∷ elements) (suc e) above = element-above elements e above.1

element-few : (elements : List (List (ℕ × ℤ))) (e : ℕ) → length (element_at elements e) ≤ sum_by length elements
element-few [] e = omega arith
element-few (cells ∷ elements) zero = omega (arith, sum_by-cons (λ (cs : List (ℕ × ℤ)). length cs) cells elements)
element-few (cells ∷ elements) (suc e) = omega (arith, sum_by-cons (λ (cs : List (ℕ × ℤ)). length cs) cells elements, element-few elements e)

pub element-length : (elements : List (List (ℕ × ℤ))) (e : ℕ) → IsSequence elements → length (element_at elements e) ≤ 4096
element-length elements e is = omega (arith, element-few elements e, is.few)

pub IsPlain-element : (elements : List (List (ℕ × ℤ))) (e : ℕ) → IsSequence elements → IsItemset (element_at elements e) → IsPlain (element_at elements e)
IsPlain-element elements e is itemset =
    record {
      ascending = Ascend-itemset (element_at elements e) itemset;
      none_below =
          element-above elements e (all-above elements is.none_below);
    }

totals-above : (elements : List (List (ℕ × ℤ))) → AllByRecursion (AllByRecursion IsAbove) elements → pos 0 ≤ℤ totals elements
totals-above [] above = omega (arith, ints)
totals-above (cells ∷ elements) above = let here = total-above cells above.0 in let ih = totals-above elements above.1 in omega (arith, ints)

pub totals-left : (elements : List (List (ℕ × ℤ))) (e : ℕ) → IsSequence elements → pos 0 ≤ℤ totals (drop e elements)
totals-left elements e is = totals-above (drop e elements) (each-drop (AllByRecursion IsAbove) e elements (all-above elements is.none_below))

-- the sum of all values is that of the absolute values
total-absolute : (cells : List (ℕ × ℤ)) → AllByRecursion IsAbove cells → total cells ≡ pos (absolute_of cells)
total-absolute [] above = refl
total-absolute (cell ∷ cells) above =
    let here = above.0 in
    let ih = total-absolute cells above.1 in
    let sum = sum_by-cons (λ (c : ℕ × ℤ). unsigned_abs c.1) cell cells in
    omega (arith, ints)

totals-sum : (elements : List (List (ℕ × ℤ))) → AllByRecursion (AllByRecursion IsAbove) elements → totals elements ≡ pos (sum_by absolute_of elements)
totals-sum [] above = refl
totals-sum (cells ∷ elements) above =
    let here = total-absolute cells above.0 in
    let ih = totals-sum elements above.1 in
    let sum = sum_by-cons absolute_of cells elements in
    omega (arith, ints)

pub totals-absolute : (elements : List (List (ℕ × ℤ))) → IsSequence elements → totals elements ≡ pos (sum_by absolute_of elements)
totals-absolute elements is = totals-sum elements (all-above elements is.none_below)

-- an element that has an item is one of the sequence
pub element-within : (elements : List (List (ℕ × ℤ))) (e item : ℕ) → has item (element_at elements e) ≡ true → e < length elements
element-within [] e item h = cc
element-within (cells ∷ elements) zero item h = omega arith
element-within (cells ∷ elements) (suc e) item h = let ih = element-within elements e item h in omega arith

pub place-within : (elements : List (List (ℕ × ℤ))) (last : ℕ) (place : Place) → IsPlaceOf elements last place
    → (place.element < length elements) × (place.cell < length (element_at elements place.element))
place-within elements last place is =
    (element-within elements place.element last is.has, omega (arith, is.cell, cell_of-within last (element_at elements place.element) is.has))

-- the rules of the cells after a place
pub IsTail-after : (elements : List (List (ℕ × ℤ))) (last : ℕ) (place : Place) (tail : Tail) → IsSequence elements → IsFit place → IsPlaceOf elements last place
    → IsPlain (element_at elements place.element) → IsTailOf elements place tail → IsTail tail
IsTail-after elements last place tail sequence fit is plain of =
    let cells = element_at elements place.element in
    let within = (place-within elements last place is).1 in
    let most = element-length elements place.element sequence in
    let later = totals-left elements (suc place.element) sequence in
    let same : length (pairs_of tail.cells.now) ≡ length tail.cells.now = length-map tail.cells.now pair_of in
    let left = ap length of.cells in
    let size = length-drop (suc place.cell) cells in
    let sum = ap total of.cells in
    let rest = is.rest in
    let best = of.best in
    let ahead = of.ahead in
    record {
      plain = subst IsPlain (sym of.cells)
          (record {
            ascending = Ascend-drop (suc place.cell) cells plain.ascending;
            none_below =
                each-drop IsAbove (suc place.cell) cells plain.none_below;
          });
      few = omega (arith, of.first);
      best = omega (arith, ints, fit.best);
      holds = omega (arith, ints);
      fits = omega (arith, ints, fit.reach);
    }

-- ---- a search after a place

past-last : (last item : ℕ) (cell : ℕ × ℤ) (cells : List (ℕ × ℤ)) → Ascend (items_in (cell ∷ cells)) → has last cells
    ≡ true → last < item → eqb item cell.0 ≡ false
past-last last item cell cells up h below =
    let after : cell.0 < last = at_member (λ x. cell.0 < x) last (items_in cells) up.0 (has-member last cells h) in
    ne_eqb item cell.0 (λ e. absurd (omega arith))

-- an item above another one is found after that one's cell
pub found-skip : (e c last item : ℕ) (best later : ℤ) (cells : List (ℕ × ℤ)) → Ascend (items_in cells) → has last cells ≡ true → last < item
    → found e c item best later cells ≡ found e (c + suc (cell_of last cells)) item best later (drop (suc (cell_of last cells)) cells)
found-skip e c last item best later [] up h below = cc
found-skip e c last item best later (cell ∷ cells) up h below =
    by (λ more. found-skip e (suc c) last item best later cells up.1 more below) (eqb last cell.0) refl
  where
    by : (has last cells ≡ true → found e (suc c) item best later cells
        ≡ found e (suc c + suc (cell_of last cells)) item best later (drop (suc (cell_of last cells)) cells))
        → (b : Bool) → eqb last cell.0 ≡ b
        → found e c item best later (cell ∷ cells) ≡ found e (c + suc (cell_of last (cell ∷ cells))) item best later
        (drop (suc (cell_of last (cell ∷ cells))) (cell ∷ cells))
    by ih true same =
        let here : last ≡ cell.0 = eqb-true last cell.0 same in
        let other : eqb item cell.0 ≡ false = ne_eqb item cell.0 (λ x. absurd (omega arith)) in
        let next : suc c ≡ c + 1 = omega arith in
        simp (same, other) (ap (λ n. found e n item best later cells) next)
    by ih false same =
        let more : has last cells ≡ true = simp same at h in
        let other = past-last last item cell cells up more below in
        let next : suc c + suc (cell_of last cells) ≡ c + suc (suc (cell_of last cells)) = omega arith in
        simp (same, other) (ih more ∙ ap (λ n. found e n item best later (drop (suc (cell_of last cells)) cells)) next)

-- what a search among the cells after a place finds is found in the element
pub found-after : (elements : List (List (ℕ × ℤ))) (last item : ℕ) (place : Place) (tail : Tail) → IsPlaceOf elements last place → last < item
    → IsPlain (element_at elements place.element) → IsTailOf elements place tail
    → found tail.element tail.first item tail.best (tail.ahead -ℤ total (pairs_of tail.cells.now))
    (pairs_of tail.cells.now) ≡ found_at elements item place.element place.best
found-after elements last item place tail is below plain of =
    let cells = element_at elements place.element in
    let later = totals (drop (suc place.element) elements) in
    let k = suc place.cell in
    let whole = found-skip place.element 0 last item place.best later cells plain.ascending is.has below in
    let number : 0 + suc (cell_of last cells) ≡ k = omega (arith, is.cell) in
    let dropped : drop (suc (cell_of last cells)) cells ≡ drop k cells = ap (λ i. drop (suc i) cells) (sym is.cell) in
    let sum = ap total of.cells in
    let ahead = of.ahead in
    let rest = is.rest in
    let after : tail.ahead -ℤ total (pairs_of tail.cells.now) ≡ later = omega (arith, ints) in
    ap (λ n. found n tail.first item tail.best (tail.ahead -ℤ total (pairs_of tail.cells.now)) (pairs_of tail.cells.now)) of.element
    ∙ ap (λ n. found place.element n item tail.best (tail.ahead -ℤ total (pairs_of tail.cells.now)) (pairs_of tail.cells.now)) of.first
    ∙ ap (λ u. found place.element k item u (tail.ahead -ℤ total (pairs_of tail.cells.now)) (pairs_of tail.cells.now)) of.best
    ∙ ap (λ l. found place.element k item place.best l (pairs_of tail.cells.now)) after
    ∙ ap (found place.element k item place.best later) of.cells
    ∙ sym (whole ∙ ap (λ n. found place.element n item place.best later (drop (suc (cell_of last cells)) cells)) number
    ∙ ap (found place.element k item place.best later) dropped)

has-skip : (last item : ℕ) (cells : List (ℕ × ℤ)) → Ascend (items_in cells) → has last cells ≡ true → last < item
    → has item cells ≡ has item (drop (suc (cell_of last cells)) cells)
has-skip last item [] up h below = refl
has-skip last item (cell ∷ cells) up h below = by (λ more. has-skip last item cells up.1 more below) (eqb last cell.0) refl
  where
    by : (has last cells ≡ true → has item cells ≡ has item (drop (suc (cell_of last cells)) cells)) → (b : Bool) → eqb last cell.0 ≡ b
        → has item (cell ∷ cells) ≡ has item (drop (suc (cell_of last (cell ∷ cells))) (cell ∷ cells))
    by ih true same =
        let here : last ≡ cell.0 = eqb-true last cell.0 same in
        let other : eqb item cell.0 ≡ false = ne_eqb item cell.0 (λ x. absurd (omega arith)) in
        simp (same, other) refl
    by ih false same =
        let more : has last cells ≡ true = simp same at h in
        let other = past-last last item cell cells up more below in
        simp (same, other) (ih more)

-- an item that is above a place's stands in the element just where it stands after the place
pub has-after : (elements : List (List (ℕ × ℤ))) (last item : ℕ) (place : Place) → IsPlaceOf elements last place
    → last < item → IsPlain (element_at elements place.element)
    → has item (drop (suc place.cell) (element_at elements place.element)) ≡ has item (element_at elements place.element)
has-after elements last item place is below plain =
    let cells = element_at elements place.element in
    ap (λ k. has item (drop (suc k) cells)) is.cell ∙ sym (has-skip last item cells plain.ascending is.has below)

pub is_some-cell_in : (item : ℕ) (cells : List (ℕ × ℤ)) → is_some (cell_in item cells) ≡ has item cells
is_some-cell_in item cells = by (has item cells)
  where
    by : (b : Bool) → is_some (cond b (Some (cell_of item cells)) None) ≡ b
    by true = refl
    by false = refl
