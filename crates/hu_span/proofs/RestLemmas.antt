-- The places of a pattern where fewer items count: they are the same, with other rests.
use Rattle.std.proofs.Common.{◌≡◌, ℕ, suc, Bool, true, cond, eqb, ℤ, pos, ◌+ℤ◌, ◌≤ℤ◌, Option, None, Some, option_map, option_to_list, List}
use Rattle.std.proofs.Common.{[], ◌∷◌, ◌++◌, map, length, take, refl, sym, ap, ◌∙◌, subst, arith, append_assoc, length-append}
use Rattle.std.specs.List.{AllByRecursion}
use Rattle.std.proofs.lemmas.Int.{ints}
use Rattle.std.proofs.lemmas.List.{length-map, map-append, take-map}
use Rattle.hu_kind.specs.Record.{holds, values_of}
use Rattle.hu_kind.specs.Sequence.{best_utility, IsSequence}
use Rattle.hu_chain.specs.declared.place.Place.{Place}
use Rattle.hu_chain.specs.Bound.{IsFit}
use Rattle.hu_chain.specs.Pattern.{earlier, last_item, last_itemset}
use Rattle.hu_chain.specs.Place.{best_at, cell_of, chain_of, element_at, place_at, places_from, rest_at}
use Rattle.hu_chain.proofs.lemmas.Cells.{total-above}
use Rattle.hu_span.specs.declared.mark.Mark.{Mark}
use Rattle.hu_span.specs.Child.{ArePlaces}
use Rattle.hu_span.specs.Gather.{cells_after}
use Rattle.hu_span.specs.Growing.{IsReached, Records}
use Rattle.hu_span.specs.Kept.{weighed, weighed_in, weighed_of, AreKept}
use Rattle.hu_span.specs.Mark.{mark_at, marks_from, marks_of, places_of, record_at, IsMark}
use Rattle.hu_span.proofs.ChildLemmas.{each-place}
use Rattle.hu_span.proofs.ReachLemmas.{Ends-reached}
use Rattle.hu_span.proofs.WalkLemmas.{after-above, low-later, rule-at}
use Rattle.hu_span.proofs.WeighedLemmas.{rest-less, weighed-best, weighed-element, weighed-holds, weighed-record, weighed-sequence, weighed-values}

-- a place with the rest of other elements
abbrev pub with_rest : List (List (ℕ × ℤ)) → Place → Place
with_rest elements place = record { element = place.element; cell = place.cell; best = place.best; rest = rest_at elements place.element place.cell }

abbrev pub rested_mark : Records → Mark → Mark
rested_mark records mark = record { item = mark.item; row = mark.row; place = with_rest (record_at records mark.row) mark.place }

-- ---- the itemsets of a pattern

kept-last : (keep : ℕ → Bool) (pattern : List (List ℕ)) → AreKept keep pattern → AllByRecursion (λ item. keep item ≡ true) (last_itemset pattern)
kept-last keep [] all = tt
kept-last keep (items ∷ []) all = all.0
kept-last keep (items ∷ next ∷ pattern) all = kept-last keep (next ∷ pattern) all.1

kept-earlier : (keep : ℕ → Bool) (pattern : List (List ℕ)) → AreKept keep pattern → AreKept keep (earlier pattern)
kept-earlier keep [] all = tt
kept-earlier keep (items ∷ []) all = tt
kept-earlier keep (items ∷ next ∷ pattern) all = (all.0, kept-earlier keep (next ∷ pattern) all.1)

-- ---- places

module _ (keep : ℕ → Bool) (pattern : List (List ℕ)) (kept : AreKept keep pattern) where
  cell-weighed : (item : ℕ) (cells : List (ℕ × ℤ)) → cell_of item (weighed keep cells) ≡ cell_of item cells
  cell-weighed item [] = refl
  cell-weighed item (cell ∷ cells) = ap (λ n. cond (eqb item cell.0) 0 (suc n)) (cell-weighed item cells)

  best_at-weighed : (elements : List (List (ℕ × ℤ))) (e : ℕ) → best_at pattern (weighed_in keep elements) e ≡ best_at pattern elements e
  best_at-weighed elements e =
      let last = last_itemset pattern in
      let here = weighed-element keep elements e in
      let cells = element_at elements e in
      let held = ap (holds last) here ∙ weighed-holds keep last cells in
      let earned = ap (values_of last) here ∙ weighed-values keep last cells (kept-last keep pattern kept) in
      let before = ap (best_utility (earlier pattern)) (take-map (weighed keep) e elements)
      ∙ weighed-best keep (earlier pattern) (take e elements) (kept-earlier keep pattern kept) in
      (λ j. cond (held j) (option_map (λ u. u +ℤ earned j) (before j)) None)

  place_at-weighed : (elements : List (List (ℕ × ℤ))) (e : ℕ)
      → place_at pattern (weighed_in keep elements) e ≡ option_map (with_rest (weighed_in keep elements)) (place_at pattern elements e)
  place_at-weighed elements e =
      let w = weighed_in keep elements in
      let at : ℕ → Option ℤ → Option Place = λ c o. option_map (λ u. record { element = e; cell = c; best = u; rest = rest_at w e c }) o in
      let cell = ap (cell_of (last_item pattern)) (weighed-element keep elements e) ∙ cell-weighed (last_item pattern) (element_at elements e) in
      (λ j. at (cell j) (best_at-weighed elements e j)) ∙ step (cell_of (last_item pattern) (element_at elements e)) (best_at pattern elements e)
    where
      step : (c : ℕ) (o : Option ℤ) → option_map (λ u. record { element = e; cell = c; best = u; rest = rest_at (weighed_in keep elements) e c }) o
          ≡ option_map (with_rest (weighed_in keep elements)) (option_map (λ u. record { element = e; cell = c; best = u; rest = rest_at elements e c }) o)
      step c None = refl
      step c (Some u) = refl

  from-weighed : (elements : List (List (ℕ × ℤ))) (e : ℕ) (left : List (List (ℕ × ℤ)))
      → places_from pattern (weighed_in keep elements) e (weighed_in keep left) ≡ map (with_rest (weighed_in keep elements))
      (places_from pattern elements e left)
  from-weighed elements e [] = refl
  from-weighed elements e (cells ∷ left) =
      let w = weighed_in keep elements in
      let here = place_at pattern elements e in
      (λ j. option_to_list (place_at-weighed elements e j) ++ from-weighed elements (suc e) left j)
      ∙ ap (λ ps. ps ++ map (with_rest w) (places_from pattern elements (suc e) left)) (listed here)
      ∙ sym (map-append (with_rest w) (option_to_list here) (places_from pattern elements (suc e) left))
    where
      listed : (o : Option Place) → option_to_list (option_map (with_rest (weighed_in keep elements)) o) ≡ map (with_rest (weighed_in keep elements))
          (option_to_list o)
      listed None = refl
      listed (Some p) = refl

  pub chain-weighed : (elements : List (List (ℕ × ℤ))) → chain_of pattern (weighed_in keep elements) ≡ map (with_rest (weighed_in keep elements))
      (chain_of pattern elements)
  chain-weighed elements = from-weighed elements 0 elements

twice : (w v : List (List (ℕ × ℤ))) (places : List Place) → map (with_rest w) (map (with_rest v) places) ≡ map (with_rest w) places
twice w v [] = refl
twice w v (place ∷ places) = ap (λ ps. with_rest w place ∷ ps) (twice w v places)

module _ (keep fewer : ℕ → Bool) (pattern : List (List ℕ)) (kept : AreKept keep pattern) (still : AreKept fewer pattern) where
  chain-rested : (elements : List (List (ℕ × ℤ))) → map (with_rest (weighed_in fewer elements)) (chain_of pattern (weighed_in keep elements))
      ≡ chain_of pattern (weighed_in fewer elements)
  chain-rested elements =
      let w = weighed_in fewer elements in
      ap (map (with_rest w)) (chain-weighed keep pattern kept elements) ∙ twice w (weighed_in keep elements) (chain_of pattern elements)
      ∙ sym (chain-weighed fewer pattern still elements)

  marks-rested : (item : ℕ) (before rs : Records)
      → map (rested_mark (weighed_of fewer (before ++ rs))) (marks_from pattern item (length before) (weighed_of keep rs))
      ≡ marks_from pattern item (length before) (weighed_of fewer rs)
  marks-rested item before [] = refl
  marks-rested item before (r ∷ rs) =
      let more : Records = before ++ r ∷ [] in
      let all = weighed_of fewer (before ++ r ∷ rs) in
      let n : length more ≡ suc (length before) = omega (arith, length-append before (r ∷ [])) in
      let ih = subst (λ whole. map (rested_mark (weighed_of fewer whole)) (marks_from pattern item (length more) (weighed_of keep rs))
      ≡ marks_from pattern item (length more) (weighed_of fewer rs)) (append_assoc before (r ∷ []) rs) (marks-rested item more rs) in
      let rest = subst (λ k. map (rested_mark all) (marks_from pattern item k (weighed_of keep rs)) ≡ marks_from pattern item k (weighed_of fewer rs)) n ih in
      let row = chain_of pattern (weighed_in keep r) in
      map-append (rested_mark all) (map (mark_at (length before) item) row) (marks_from pattern item (suc (length before)) (weighed_of keep rs))
      ∙ (λ j. (here all (length before) row ∙ ap (λ w. map (mark_at (length before) item) (map (with_rest w) row))
      (weighed-record fewer (before ++ r ∷ rs) (length before) ∙ ap (weighed_in fewer) (at_before before))
      ∙ ap (map (mark_at (length before) item)) (chain-rested r)) j ++ rest j)
    where
      at_before : (bs : Records) → record_at (bs ++ r ∷ rs) (length bs) ≡ r
      at_before [] = refl
      at_before (b ∷ bs) = at_before bs

      here : (all : Records) (k : ℕ) (places : List Place)
          → map (rested_mark all) (map (mark_at k item) places) ≡ map (mark_at k item) (map (with_rest (record_at all k)) places)
      here all k [] = refl
      here all k (place ∷ places) = ap (λ ms. mark_at k item (with_rest (record_at all k) place) ∷ ms) (here all k places)

  rest-low : (elements : List (List (ℕ × ℤ))) (place : Place) → IsSequence elements → pos 0 ≤ℤ rest_at elements place.element place.cell
  rest-low elements place rules =
      let here = total-above (cells_after elements place) (after-above elements rules place) in
      let later = low-later elements rules (suc place.element) in
      omega (arith, ints, here, later)

  mark-fit : (records : Records) → AllByRecursion IsSequence records → ((item : ℕ) → fewer item ≡ true → keep item ≡ true) → (item : ℕ) (mark : Mark)
      → IsMark (weighed_of keep records) item mark → IsFit (with_rest (record_at (weighed_of fewer records) mark.row) mark.place)
  mark-fit records rules less item mark is =
      let size = length-map records (weighed_in keep) in
      let r = record_at records mark.row in
      let rule = rule-at records mark.row rules (omega (arith, size, is.within)) in
      let place = mark.place in
      let old = weighed-record keep records mark.row in
      let new = weighed-record fewer records mark.row in
      let was = is.place.rest ∙ ap (λ es. rest_at es place.element place.cell) old in
      let now = ap (λ es. rest_at es place.element place.cell) new in
      let lower = rest-less fewer keep less r place.element place.cell rule in
      let low = rest-low (weighed_in fewer r) place (weighed-sequence fewer r rule) in
      let best = is.fit.best in
      let high = is.fit.reach in
      record { best = best; rest = omega (arith, ints, now, low); reach = omega (arith, ints, was, now, lower, high) }

  fits-rested : (records : Records) → AllByRecursion IsSequence records → ((item : ℕ) → fewer item ≡ true → keep item ≡ true) → (item : ℕ) (marks : List Mark)
      → AllByRecursion (IsMark (weighed_of keep records) item) marks → AllByRecursion IsFit (places_of (map (rested_mark (weighed_of fewer records)) marks))
  fits-rested records rules less item [] all = tt
  fits-rested records rules less item (mark ∷ marks) all = (mark-fit records rules less item mark all.0, fits-rested records rules less item marks all.1)

  pub places-rested : (records : Records) (marks : List Mark) → AllByRecursion IsSequence records → IsReached pattern
      → ((item : ℕ) → fewer item ≡ true → keep item ≡ true) → ArePlaces (weighed_of keep records) pattern (last_item pattern) marks
      → ArePlaces (weighed_of fewer records) pattern (last_item pattern) (map (rested_mark (weighed_of fewer records)) marks)
  places-rested records marks rules reached less places =
      let new = weighed_of fewer records in
      let item = last_item pattern in
      let is : map (rested_mark new) marks ≡ marks_of new pattern item = ap (map (rested_mark new)) places.is ∙ marks-rested item [] records in
      let fit = subst (λ ms. AllByRecursion IsFit (places_of ms)) is (fits-rested records rules less item marks places.each) in
      record { is = is; each = subst (AllByRecursion (IsMark new item)) (sym is) (each-place new pattern item (Ends-reached pattern reached) refl fit) }
