-- One turn of a loop that makes or tests places, and what holds of a walk at each element.
use Rattle.std.proofs.Common.{◌≡◌, ℕ, ℤ, pos, ◌+ℤ◌, ◌-ℤ◌, ◌≤ℤ◌, ◌<ℤ◌, suc, ◌<◌, ◌≤◌, ◌+◌, ◌^◌, Bool, true, false, ◌||◌, eqb, Option, None, Some, option_to_list}
use Rattle.std.proofs.Common.{List, [], ◌∷◌, ◌++◌, length, get_or, drop, refl, sym, ap, ◌∙◌, subst, arith, add-one, append_assoc, drop-cons, IfSome}
use Rattle.std.specs.List.{list_any, AllByRecursion}
use Rattle.std.proofs.lemmas.Int.{ints, clamps}
use Rattle.std.proofs.lemmas.Bool.{eqb-true, or_left}
use Rattle.std.proofs.lemmas.List.{length-map}
use Rattle.hu_kind.specs.Cell.{pairs_of, pair_of}
use Rattle.hu_kind.specs.Sequence.{IsSequence}
use Rattle.hu_kind.specs.Record.{total}
use Rattle.hu_kind.proofs.lemmas.Each.{each-append, each-drop}
use Rattle.hu_chain.specs.declared.place.Place.{Place}
use Rattle.hu_chain.specs.declared.place.Tail.{Tail}
use Rattle.hu_chain.specs.declared.walk.Walk.{Walk}
use Rattle.hu_chain.specs.Place.{element_at, totals}
use Rattle.hu_chain.specs.Bound.{IsFit}
use Rattle.hu_chain.specs.Search.{best_past, found, found_at, joined_places, left_past, walked, IsLeft, IsPlaceOf, IsPlain, IsTail, IsTailOf, IsWalk}
use Rattle.hu_chain.proofs.lemmas.Cells.{all-above, total-above, IsAbove}
use Rattle.hu_chain.proofs.Tails.{element-above, totals-left}

pub fit-more : (o : Option Place) (places : List Place) → AllByRecursion IsFit places → IfSome o IsFit → AllByRecursion IsFit (places ++ option_to_list o)
fit-more None places all fit = each-append IsFit places [] all tt
fit-more (Some place) places all fit = each-append IsFit places (place ∷ []) all (fit, tt)

-- the places that are made, with those that the rest makes
pub append-next : {A : Type 0} (made next part rest whole : List A) → made ++ (part ++ rest) ≡ whole → next ≡ made ++ part → next ++ rest ≡ whole
append-next made next part rest whole so_far more = ap (λ xs. xs ++ rest) more ∙ append_assoc made part rest ∙ so_far

pub joined-next : (elements : List (List (ℕ × ℤ))) (item : ℕ) (places : List Place) (k : ℕ) (d : Place) (made next whole : List Place) → k < length places
    → made ++ joined_places elements item (drop k places) ≡ whole → next
    ≡ made ++ option_to_list (found_at elements item (get_or places k d).element (get_or places k d).best)
    → next ++ joined_places elements item (drop (k + 1) places) ≡ whole
joined-next elements item places k d made next whole within so_far more =
    let here = option_to_list (found_at elements item (get_or places k d).element (get_or places k d).best) in
    rw add-one
    (append-next made next here (joined_places elements item (drop (suc k) places)) whole
    (ap (λ ps. made ++ joined_places elements item ps) (sym (drop-cons places k d within)) ∙ so_far)
    more)

-- ---- walks

totals-next : (elements : List (List (ℕ × ℤ))) (e : ℕ) → e < length elements → totals (drop e elements)
    ≡ total (element_at elements e) +ℤ totals (drop (suc e) elements)
totals-next elements e within = ap totals (drop-cons elements e [] within)

-- the whole of an element, as a walk comes to it
pub record IsWhole (elements : List (List (ℕ × ℤ))) (e : ℕ) (walk : Walk) (tail : Tail) : Type 0 where
  pub element : tail.element ≡ e
  pub first : tail.first ≡ 0
  pub cells : pairs_of tail.cells.now ≡ element_at elements e
  pub best : tail.best ≡ walk.best
  pub ahead : tail.ahead ≡ walk.ahead

pub IsTail-whole : (elements : List (List (ℕ × ℤ))) (e : ℕ) (walk : Walk) (tail : Tail) → IsSequence elements
    → e < length elements → IsPlain (element_at elements e) → length (element_at elements e) ≤ 4096
    → IsWalk elements e walk → IsWhole elements e walk tail → IsTail tail
IsTail-whole elements e walk tail sequence within plain few is whole =
    let later = totals-left elements (suc e) sequence in
    let next = totals-next elements e within in
    let same : length (pairs_of tail.cells.now) ≡ length tail.cells.now = length-map tail.cells.now pair_of in
    let size = ap length whole.cells in
    let sum = ap total whole.cells in
    let best = whole.best in
    let ahead = whole.ahead in
    let known = is.ahead in
    record {
      plain = subst IsPlain (sym whole.cells) plain;
      few = omega (arith, whole.first);
      best = omega (arith, ints, is.best);
      holds = omega (arith, ints);
      fits = omega (arith, ints, is.fits);
    }

pub whole-holds : (elements : List (List (ℕ × ℤ))) (e : ℕ) (walk : Walk) → IsSequence elements → e < length elements
    → IsWalk elements e walk → total (element_at elements e) ≤ℤ walk.ahead
whole-holds elements e walk sequence within is =
    let later = totals-left elements (suc e) sequence in
    let next = totals-next elements e within in
    let known = is.ahead in
    omega (arith, ints)

pub found-whole_element : (elements : List (List (ℕ × ℤ))) (e item : ℕ) (walk : Walk) (tail : Tail)
    → e < length elements → IsWalk elements e walk → IsWhole elements e walk tail
    → found tail.element tail.first item tail.best (tail.ahead -ℤ total (pairs_of tail.cells.now))
    (pairs_of tail.cells.now) ≡ found_at elements item e walk.best
found-whole_element elements e item walk tail within is whole =
    let later = totals (drop (suc e) elements) in
    let next = totals-next elements e within in
    let sum = ap total whole.cells in
    let ahead = whole.ahead in
    let known = is.ahead in
    let after : tail.ahead -ℤ total (pairs_of tail.cells.now) ≡ later = omega (arith, ints) in
    ap (λ n. found n tail.first item tail.best (tail.ahead -ℤ total (pairs_of tail.cells.now)) (pairs_of tail.cells.now)) whole.element
    ∙ ap (λ n. found e n item tail.best (tail.ahead -ℤ total (pairs_of tail.cells.now)) (pairs_of tail.cells.now)) whole.first
    ∙ ap (λ u. found e 0 item u (tail.ahead -ℤ total (pairs_of tail.cells.now)) (pairs_of tail.cells.now)) whole.best
    ∙ ap (λ l. found e 0 item walk.best l (pairs_of tail.cells.now)) after
    ∙ ap (found e 0 item walk.best later) whole.cells

-- the best utility after an element is at least 0, and fits with what is ahead
best_past-rules : (elements : List (List (ℕ × ℤ))) (e : ℕ) (best ahead : ℤ) (places : List Place)
    → AllByRecursion (IsLeft elements) places → pos 0 ≤ℤ best → (best +ℤ ahead) <ℤ pos (2 ^ 127) → ahead
    ≡ totals (drop (suc e) elements)
    → (pos 0 ≤ℤ best_past e best places) × ((best_past e best places +ℤ ahead) <ℤ pos (2 ^ 127)) × AllByRecursion (IsLeft elements) (left_past e places)
best_past-rules elements e best ahead [] left low fits known = (low, fits, tt)
best_past-rules elements e best ahead (place ∷ places) left low fits known = by (eqb e place.element) refl
  where
    by : (b : Bool) → eqb e place.element ≡ b
        → (pos 0 ≤ℤ best_past e best (place ∷ places)) × ((best_past e best (place ∷ places) +ℤ ahead) <ℤ pos (2 ^ 127))
        × AllByRecursion (IsLeft elements) (left_past e (place ∷ places))
    by true same =
        let here = left.0 in
        let fit = here.fit in
        let rest = here.rest in
        let high = fit.reach in
        let at : totals (drop (suc e) elements) ≡ totals (drop (suc place.element) elements) =
        ap (λ n. totals (drop (suc n) elements)) (eqb-true e place.element same) in
        simp same (omega (arith, ints, clamps), omega (arith, ints, clamps), left.1)
    by false same = simp same (low, fits, left)

pub IsWalk-past : (elements : List (List (ℕ × ℤ))) (e : ℕ) (walk past : Walk) → IsSequence elements
    → e < length elements → IsPlain (element_at elements e) → IsWalk elements e walk
    → past.best ≡ best_past e walk.best walk.left.now → past.left.now ≡ left_past e walk.left.now → past.ahead
    ≡ walk.ahead -ℤ total (element_at elements e) → IsWalk elements (e + 1) past
IsWalk-past elements e walk past sequence within plain is best left ahead =
    let next = totals-next elements e within in
    let above = total-above (element_at elements e) plain.none_below in
    let known = is.ahead in
    let high = is.fits in
    let later : past.ahead ≡ totals (drop (suc e) elements) = omega (arith, ints) in
    let fits : (walk.best +ℤ past.ahead) <ℤ pos (2 ^ 127) = omega (arith, ints) in
    let rules = best_past-rules elements e walk.best past.ahead walk.left.now is.left is.best fits later in
    let low = rules.0 in
    let most = rules.1 in
    record {
      ahead = rw add-one later;
      best = omega (arith, ints);
      fits = omega (arith, ints);
      left = subst (AllByRecursion (IsLeft elements)) (sym left) rules.2;
    }

IsLeft-all : (elements : List (List (ℕ × ℤ))) (last : ℕ) (places : List Place) → IsSequence elements
    → AllByRecursion IsFit places → AllByRecursion (IsPlaceOf elements last) places
    → AllByRecursion (IsLeft elements) places
IsLeft-all elements last [] sequence fit is = tt
IsLeft-all elements last (place ∷ places) sequence fit is =
    let here = is.0 in
    let rest = here.rest in
    let cells = element_at elements place.element in
    let above =
    total-above (drop (suc place.cell) cells) (each-drop IsAbove (suc place.cell) cells
    (element-above elements place.element (all-above elements sequence.none_below))) in
    (record { fit = fit.0; rest = omega (arith, ints) }, IsLeft-all elements last places sequence fit.1 is.1)

-- the walk after the first place
pub IsWalk-first : (elements : List (List (ℕ × ℤ))) (last : ℕ) (first : Place) (left : List Place) (walk : Walk)
    (tail : Tail) → IsSequence elements → AllByRecursion IsFit (first ∷ left)
    → AllByRecursion (IsPlaceOf elements last) (first ∷ left) → IsTailOf elements first tail → walk.best ≡ first.best
    → walk.ahead ≡ tail.ahead -ℤ total (pairs_of tail.cells.now) → walk.left.now ≡ left
    → IsWalk elements (first.element + 1) walk
IsWalk-first elements last first left walk tail sequence fit is of best ahead left' =
    let here = is.0 in
    let rest = here.rest in
    let sum = ap total of.cells in
    let ahead' = of.ahead in
    let known : walk.ahead ≡ totals (drop (suc first.element) elements) = omega (arith, ints) in
    let all = IsLeft-all elements last (first ∷ left) sequence fit is in
    let holds = all.0 in
    let high = holds.rest in
    let first_fit = fit.0 in
    let low = first_fit.best in
    let most = first_fit.reach in
    record {
      ahead = rw add-one known;
      best = omega (arith, ints);
      fits = omega (arith, ints);
      left = subst (AllByRecursion (IsLeft elements)) (sym left') all.1;
    }

pub walked-next : (elements : List (List (ℕ × ℤ))) (item e : ℕ) (best : ℤ) (places made next whole : List Place) (past : Walk) → e < length elements
    → made ++ walked item e best places (drop e elements) ≡ whole → next ≡ made ++ option_to_list (found_at elements item e best)
    → past.best ≡ best_past e best places → past.left.now ≡ left_past e places
    → next ++ walked item (e + 1) past.best past.left.now (drop (e + 1) elements) ≡ whole
walked-next elements item e best places made next whole past within so_far more best' left' =
    let here = option_to_list (found_at elements item e best) in
    let rest = walked item (suc e) (best_past e best places) (left_past e places) (drop (suc e) elements) in
    rw (add-one, best', left')
    (append-next made next here rest whole (ap (λ es. made ++ walked item e best places es) (sym (drop-cons elements e [] within)) ∙ so_far) more)

-- ---- tests

or-rest : (a b : Bool) → a ≡ false → (a || b) ≡ b
or-rest true b e = cc
or-rest false b e = refl

-- a test that an element passes, and one that it doesn't
pub any-here : {A : Type 0} (test : A → Bool) (xs : List A) (k : ℕ) (d : A) (whole : Bool) → k < length xs
    → list_any test (drop k xs) ≡ whole → test (get_or xs k d) ≡ true → true ≡ whole
any-here test xs k d whole within so_far passed =
    sym (or_left (test (get_or xs k d)) (list_any test (drop (suc k) xs)) passed) ∙ ap (list_any test) (sym (drop-cons xs k d within)) ∙ so_far

pub any-next : {A : Type 0} (test : A → Bool) (xs : List A) (k : ℕ) (d : A) (whole : Bool) → k < length xs
    → list_any test (drop k xs) ≡ whole → test (get_or xs k d) ≡ false → list_any test (drop (k + 1) xs) ≡ whole
any-next test xs k d whole within so_far miss =
    rw add-one (sym (or-rest (test (get_or xs k d)) (list_any test (drop (suc k) xs)) miss) ∙ ap (list_any test) (sym (drop-cons xs k d within)) ∙ so_far)
