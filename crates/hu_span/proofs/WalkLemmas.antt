-- The rules of tails and walks, and of the marks that they give.
use Rattle.std.proofs.Common.{◌≡◌, ℕ, zero, suc, ◌<◌, ◌≤◌, ◌^◌, Bool, true, false, cond, eqb, ℤ, pos, ◌+ℤ◌, ◌-ℤ◌, ◌≤ℤ◌, ◌<ℤ◌, List, [], ◌∷◌, ◌++◌, filter}
use Rattle.std.proofs.Common.{length, length-drop, take, drop, refl, sym, ap, ◌∙◌, subst, arith, sum_by}
use Rattle.std.specs.Int.{int_max}
use Rattle.std.specs.List.{AllByRecursion}
use Rattle.std.proofs.lemmas.Bool.{eqb-true}
use Rattle.std.proofs.lemmas.Int.{ints, clamps}
use Rattle.std.proofs.lemmas.List.{length-map, map-append}
use Rattle.std.proofs.lemmas.List.Sums.{sum_by-cons}
use Rattle.hu_kind.specs.Record.{total}
use Rattle.hu_kind.proofs.lemmas.Each.{each-append, each-take, each-drop}
use Rattle.hu_kind.specs.Sequence.{IsSequence}
use Rattle.hu_chain.specs.declared.place.Place.{Place}
use Rattle.hu_chain.specs.Bound.{IsFit}
use Rattle.hu_chain.specs.Place.{element_at, totals}
use Rattle.hu_chain.specs.Search.{best_past, left_past, IsLeft, IsPlain, IsPlaceOf}
use Rattle.hu_chain.proofs.lemmas.Bounds.{plain-rules, totals-above}
use Rattle.hu_chain.proofs.lemmas.Cells.{total-above, total-parts, IsAbove}
use Rattle.hu_chain.proofs.lemmas.Gathered.{place-at, totals-all}
use Rattle.hu_span.specs.declared.mark.Mark.{Mark}
use Rattle.hu_span.specs.Gather.{beside_marks, cells_after, later_marks, tail_marks, walk_marks, IsInside, StaysFit}
use Rattle.hu_span.specs.Kept.{weighed, weighed_in}
use Rattle.hu_span.specs.Mark.{places_of, record_at}
use Rattle.hu_span.proofs.WeighedLemmas.{weigh, weighed-element, weighed-inside}

-- ---- the marks of a tail

fit-tail : (row e c : ℕ) (best ahead : ℤ) (cells : List (ℕ × ℤ)) → AllByRecursion IsAbove cells → pos 0 ≤ℤ best → total cells ≤ℤ ahead
    → (best +ℤ ahead) <ℤ pos (2 ^ 127)
    → AllByRecursion IsFit (places_of (tail_marks row e c best ahead cells))
fit-tail row e c best ahead [] above low holds fits = tt
fit-tail row e c best ahead (cell ∷ cells) above low holds fits =
    let here = above.0 in
    let rest = total-above cells above.1 in (
      record { best = omega (arith, ints); rest = omega (arith, ints); reach = omega (arith, ints) },
      fit-tail row e (suc c) best (ahead -ℤ cell.1) cells above.1 low (omega (arith, ints)) (omega (arith, ints)),
    )

pub stays-fit : (old new more : List Mark) → new ≡ old ++ more → AllByRecursion IsFit (places_of more) → StaysFit old new
stays-fit old new more is fit before =
    subst (λ ms. AllByRecursion IsFit (places_of ms)) (sym is)
    (subst (AllByRecursion IsFit) (sym (map-append (λ (mark : Mark). mark.place) old more)) (each-append IsFit (places_of old) (places_of more) before fit))

pub fit-taken : (p : Mark → Bool) (marks : List Mark) → AllByRecursion IsFit (places_of marks) → AllByRecursion IsFit (places_of (filter p marks))
fit-taken p [] fit = tt
fit-taken p (mark ∷ marks) fit = by (p mark) (fit-taken p marks fit.1)
  where
    by : (b : Bool) → AllByRecursion IsFit (places_of (filter p marks)) → AllByRecursion IsFit (places_of (cond b (mark ∷ filter p marks) (filter p marks)))
    by true rest = (fit.0, rest)
    by false rest = rest

-- ---- the elements of a sequence

pub drop-at : (elements : List (List (ℕ × ℤ))) (e : ℕ) → e < length elements → drop e elements ≡ element_at elements e ∷ drop (suc e) elements
drop-at [] e within = absurd (omega arith)
drop-at (cells ∷ elements) zero within = refl
drop-at (cells ∷ elements) (suc e) within = drop-at elements e (omega arith)

pub drop-past : {A : Type 0} (xs : List A) (n : ℕ) → length xs ≤ n → drop n xs ≡ []
drop-past [] zero past = refl
drop-past [] (suc n) past = refl
drop-past (x ∷ xs) zero past = absurd (omega arith)
drop-past (x ∷ xs) (suc n) past = drop-past xs n (omega arith)

-- the rules of a record among others
pub rule-at : (rs : List (List (List (ℕ × ℤ)))) (k : ℕ) → AllByRecursion IsSequence rs → k < length rs → IsSequence (record_at rs k)
rule-at [] k all within = absurd (omega arith)
rule-at (r ∷ rs) zero all within = all.0
rule-at (r ∷ rs) (suc k) all within = rule-at rs k all.1 (omega arith)

above-at : (elements : List (List (ℕ × ℤ))) (e : ℕ) → AllByRecursion IsPlain elements → AllByRecursion IsAbove (element_at elements e)
above-at [] e plain = tt
above-at (cells ∷ elements) zero plain = let first = plain.0 in first.none_below
above-at (cells ∷ elements) (suc e) plain = above-at elements e plain.1

few-at : (elements : List (List (ℕ × ℤ))) (e : ℕ) → length (element_at elements e) ≤ sum_by length elements
few-at [] e = omega arith
few-at (cells ∷ elements) zero = omega (arith, sum_by-cons (λ (cs : List (ℕ × ℤ)). length cs) cells elements)
few-at (cells ∷ elements) (suc e) = omega (arith, sum_by-cons (λ (cs : List (ℕ × ℤ)). length cs) cells elements, few-at elements e)

later-all : (elements : List (List (ℕ × ℤ))) → AllByRecursion IsPlain elements → (e : ℕ) → totals (drop e elements) ≤ℤ totals elements
later-all [] plain zero = omega (arith, ints)
later-all [] plain (suc e) = omega (arith, ints)
later-all (cells ∷ elements) plain zero = omega (arith, ints)
later-all (cells ∷ elements) plain (suc e) =
    let first = plain.0 in
    let here = total-above cells first.none_below in
    let rest = later-all elements plain.1 e in
    omega (arith, ints)

-- ---- the marks beside a place

module _ (elements : List (List (ℕ × ℤ))) (rules : IsSequence elements) where
  plain : AllByRecursion IsPlain elements
  plain = plain-rules elements rules

  few : (e : ℕ) → length (element_at elements e) ≤ 4096
  few e = omega (arith, few-at elements e, rules.few)

  pub after-above : (place : Place) → AllByRecursion IsAbove (cells_after elements place)
  after-above place = each-drop IsAbove (suc place.cell) (element_at elements place.element) (above-at elements place.element plain)

  pub element_above : (e : ℕ) → AllByRecursion IsAbove (element_at elements e)
  element_above e = above-at elements e plain

  pub later-within : (e : ℕ) → totals (drop e elements) ≤ℤ totals elements
  later-within e = later-all elements plain e

  pub totals-fit : totals elements <ℤ pos (2 ^ 127)
  totals-fit = let all = totals-all elements rules in let fits = rules.sum_fits in omega (arith, ints, all, fits)

  pub low-later : (e : ℕ) → pos 0 ≤ℤ totals (drop e elements)
  low-later e = totals-above (drop e elements) (each-drop IsPlain e elements plain)

  -- what is left after a place fits
  pub rest-fits : (place : Place) → IsInside elements place → (total (cells_after elements place) +ℤ totals (drop (suc place.element) elements)) <ℤ pos
      (2 ^ 127)
  rest-fits place is =
      let cells = element_at elements place.element in
      let parts = total-parts (suc place.cell) cells in
      let front = total-above (take (suc place.cell) cells) (each-take IsAbove (suc place.cell) cells (element_above place.element)) in
      let split = ap totals (drop-at elements place.element is.element) in
      let most = later-within place.element in
      let fits = totals-fit in
      omega (arith, ints, parts, front, split, most, fits)

  -- ---- one more element of a walk

  left-past : (e : ℕ) (places : List Place) → AllByRecursion (IsLeft elements) places → AllByRecursion (IsLeft elements) (left_past e places)
  left-past e [] left = tt
  left-past e (place ∷ places) left = by (eqb e place.element)
    where
      by : (b : Bool) → AllByRecursion (IsLeft elements) (cond b places (place ∷ places))
      by true = left.1
      by false = left

  -- the best utility past an element
  record IsBestPast (e : ℕ) (best : ℤ) : Type 0 where
    pub low : pos 0 ≤ℤ best
    pub fits : (best +ℤ totals (drop (suc e) elements)) <ℤ pos (2 ^ 127)

  best-past : (e : ℕ) (best : ℤ) (places : List Place) → IsBestPast e best → AllByRecursion (IsLeft elements) places → IsBestPast e (best_past e best places)
  best-past e best [] is left = is
  best-past e best (place ∷ places) is left = by (eqb e place.element) refl
    where
      by : (b : Bool) → eqb e place.element ≡ b → IsBestPast e (cond b (int_max best place.best) best)
      by false other = is
      by true same =
          let here = left.0 in
          let fit = here.fit in
          let reach = fit.reach in
          let rest : totals (drop (suc e) elements) ≤ℤ place.rest = subst (λ n. totals (drop (suc n) elements) ≤ℤ place.rest)
          (sym (eqb-true e place.element same)) here.rest in
          let low = is.low in
          let fits = is.fits in
          record { low = omega (arith, ints, clamps); fits = omega (arith, ints, clamps) }

  -- the marks of a walk fit
  pub walk-fit : (row e : ℕ) (best ahead : ℤ) (places : List Place) (later : List (List (ℕ × ℤ))) → later ≡ drop e elements → ahead ≡ totals later
      → pos 0 ≤ℤ best → (best +ℤ ahead) <ℤ pos (2 ^ 127) → AllByRecursion (IsLeft elements) places
      → AllByRecursion IsFit (places_of (walk_marks row e best ahead places later))
  walk-fit row e best ahead places [] at is low fits left = tt
  walk-fit row e best ahead places (cells ∷ later) at is low fits left =
      let size = ap length at in
      let within : e < length elements = omega (arith, size, length-drop e elements) in
      let next = at ∙ drop-at elements e within in
      let cell : cells ≡ element_at elements e = ap (λ es. element_at es 0) next in
      let rest : later ≡ drop (suc e) elements = ap (drop 1) next in
      let above : AllByRecursion IsAbove cells = subst (AllByRecursion IsAbove) (sym cell) (element_above e) in
      let here = total-above cells above in
      let sum = ap totals rest in
      let more = low-later (suc e) in
      let started : IsBestPast e best = record { low = low; fits = omega (arith, ints, is, sum, here, fits) } in
      let past = best-past e best places started left in
      let low' = past.low in
      let fits' = past.fits in
      let first = tail_marks row e 0 best ahead cells in
      let others = walk_marks row (suc e) (best_past e best places) (ahead -ℤ total cells) (left_past e places) later in
      let fit = fit-tail row e 0 best ahead cells above low (omega (arith, ints, is, sum, more)) fits in
      stays-fit first (first ++ others) others refl
      (walk-fit row (suc e) (best_past e best places) (ahead -ℤ total cells) (left_past e places) later rest (omega (arith, ints, is)) low'
      (omega (arith, ints, is, sum, fits')) (left-past e places left)) fit

  -- and those beside a place
  pub beside-fit : (last row : ℕ) (place : Place) → IsPlaceOf elements last place → IsFit place
      → AllByRecursion IsFit (places_of (beside_marks elements row place))
  beside-fit last row place is fit =
      let rest = is.rest in
      let later = low-later (suc place.element) in
      fit-tail row place.element (suc place.cell) place.best place.rest (cells_after elements place) (after-above place) fit.best
      (omega (arith, ints, rest, later)) fit.reach

-- ---- the marks of a row

-- what is left after places
left-of : (elements : List (List (ℕ × ℤ))) (last : ℕ) (places : List Place) → IsSequence elements → AllByRecursion (IsPlaceOf elements last) places
    → AllByRecursion IsFit places → AllByRecursion (IsLeft elements) places
left-of elements last [] rules are fits = tt
left-of elements last (place ∷ places) rules are fits =
    let first = are.0 in
    let rest = first.rest in
    let here = total-above (cells_after elements place) (after-above elements rules place) in
    (record { fit = fits.0; rest = omega (arith, ints, rest, here) }, left-of elements last places rules are.1 fits.1)

-- the marks in the elements after the first of places fit
pub later-fit : (elements : List (List (ℕ × ℤ))) (last row : ℕ) (places : List Place) → IsSequence elements → AllByRecursion (IsPlaceOf elements last) places
    → AllByRecursion IsFit places → AllByRecursion IsFit (places_of (later_marks elements row places))
later-fit elements last row [] rules are fits = tt
later-fit elements last row (place ∷ places) rules are fits =
    let first = are.0 in
    let rest = first.rest in
    let fit = fits.0 in
    let high = fit.reach in
    let here = total-above (cells_after elements place) (after-above elements rules place) in
    walk-fit elements rules row (suc place.element) place.best (place.rest -ℤ total (cells_after elements place)) places
    (drop (suc place.element) elements) refl (omega (arith, ints, rest)) fit.best (omega (arith, ints, high, here))
    (left-of elements last places rules are.1 fits.1)

-- ---- where fewer items count

pub inside-of : (keep : ℕ → Bool) (elements : List (List (ℕ × ℤ))) (last : ℕ) (place : Place) → IsPlaceOf (weighed_in keep elements) last place
    → IsInside elements place
inside-of keep elements last place is =
    let at = place-at (weighed_in keep elements) last place is in
    weighed-inside keep elements place (record { element = at.0; cell = at.1 })

pub inside-weighed : (keep : ℕ → Bool) (elements : List (List (ℕ × ℤ))) (place : Place) → IsInside elements place → IsInside (weighed_in keep elements) place
inside-weighed keep elements place is =
    let size = length-map elements (weighed keep) in
    let here = ap length (weighed-element keep elements place.element) in
    let cells = length-map (element_at elements place.element) (weigh keep) in
    record { element = omega (arith, size, is.element); cell = omega (arith, here, cells, is.cell) }
