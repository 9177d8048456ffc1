-- What the places of a pattern tell: its utility, its support and its bound.
use Rattle.std.proofs.Common.{◌≡◌, ℕ, zero, suc, ◌+◌, ◌<◌, ◌≤◌, ◌^◌, ◌&&◌, Bool, true, false, cond, eqb, ltb, ℤ, pos, ◌+ℤ◌, ◌≤ℤ◌, ◌<ℤ◌, Option, None, Some}
use Rattle.std.proofs.Common.{is_some, unwrap_or, List, [], ◌∷◌, ◌++◌, map, length, get_or, to_z, of_z, refl, sym, ap, ◌∙◌, subst, ◌⊎◌, inl, inr, arith}
use Rattle.std.proofs.Common.{sum_by}
use Rattle.std.specs.Int.{int_max, w128}
use Rattle.std.specs.List.{AllByRecursion}
use Rattle.std.proofs.lemmas.Int.{ints, clamps}
use Rattle.std.proofs.lemmas.Bool.{eq-eqb, eqb-true, ltb-true, ne_eqb, lt-ltb}
use Rattle.std.proofs.lemmas.List.{map-append}
use Rattle.std.proofs.lemmas.List.Sums.{sum_by-cons}
use Rattle.hu_kind.specs.Record.{absolute_of}
use Rattle.hu_kind.specs.Sequence.{better, best_utility, sequence_support, sequence_utility, IsSequence}
use Rattle.hu_kind.proofs.lemmas.Each.{each-left, each-right}
use Rattle.hu_chain.specs.declared.place.Place.{Place}
use Rattle.hu_chain.specs.Bound.{best_of, extension_bound, greatest, reach, IsAtMost, IsFit}
use Rattle.hu_chain.specs.Grown.{IsGrownFrom}
use Rattle.hu_chain.specs.Pattern.{Ends}
use Rattle.hu_chain.specs.Place.{chain_of}
use Rattle.hu_chain.proofs.lemmas.Bounds.{extension-holds, extension-range, extension-within}
use Rattle.hu_chain.proofs.lemmas.Gathered.{best_of-chain}
use Rattle.hu_span.proofs.NumberLemmas.{kept-z}
use Rattle.hu_span.specs.declared.mark.Mark.{Mark}
use Rattle.hu_span.specs.declared.tally.Tally.{Tally}
use Rattle.hu_span.specs.Growing.{Records}
use Rattle.hu_span.specs.Mark.{mark_at, marks_from, places_of}
use Rattle.hu_span.specs.Tally.{bests_of, count_of, next_row, none_told, reaches_of, same_row, told, told_from, told_with, IsTally}

-- ---- no sum falls

pub IsTally-none : IsTally none_told
IsTally-none = record { best = omega (arith, ints); bests = omega (arith, ints); reach = omega (arith, ints); reaches = omega (arith, ints) }

-- a tally with a mark more is one, and it reaches as far
record IsMore (t more : Tally) : Type 0 where
  pub tally : IsTally more
  pub reaches : reaches_of t ≤ℤ reaches_of more

IsMore-with : (t : Tally) (mark : Mark) → IsTally t → IsFit mark.place → IsMore t (told_with t mark)
IsMore-with t mark is fit = by (ltb 0 t.rows && eqb t.row mark.row)
  where
    by : (b : Bool) → IsMore t (cond b (same_row t mark) (next_row t mark))
    by true =
        let best = is.best in
        let bests = is.bests in
        let high = is.reach in
        let all = is.reaches in
        let here = fit.best in
        let rest = fit.rest in
        record {
          tally = record { best = omega (arith, ints, clamps); bests = bests; reach = omega (arith, ints, clamps); reaches = all };
          reaches = omega (arith, ints, clamps);
        }
    by false =
        let best = is.best in
        let bests = is.bests in
        let high = is.reach in
        let all = is.reaches in
        let here = fit.best in
        let rest = fit.rest in
        record {
          tally = record { best = here; bests = omega (arith, ints); reach = omega (arith, ints); reaches = omega (arith, ints) };
          reaches = omega (arith, ints);
        }

pub IsTally-with : (t : Tally) (mark : Mark) → IsTally t → IsFit mark.place → IsTally (told_with t mark)
IsTally-with t mark is fit = let more = IsMore-with t mark is fit in more.tally

pub reaches-most : (t : Tally) (marks : List Mark) → IsTally t → AllByRecursion IsFit (places_of marks) → reaches_of t ≤ℤ reaches_of (told_from t marks)
reaches-most t [] is fit = omega (arith, ints)
reaches-most t (mark ∷ marks) is fit =
    let more = IsMore-with t mark is fit.0 in
    let here = more.reaches in
    let rest = reaches-most (told_with t mark) marks more.tally fit.1 in
    omega (arith, ints, here, rest)

-- ---- in a row

max-better : (a b : ℤ) (o : Option ℤ) → better (Some (int_max a b)) o ≡ better (Some a) (better (Some b) o)
max-better a b None = refl
max-better a b (Some c) = let same : int_max (int_max a b) c ≡ int_max a (int_max b c) = omega (arith, ints, clamps) in ap (λ n. Some n) same

-- further marks of the last row
record IsRow (t more : Tally) (places : List Place) : Type 0 where
  pub row : more.row ≡ t.row
  pub rows : more.rows ≡ t.rows
  pub best : Some more.best ≡ better (Some t.best) (best_of places)
  pub bests : more.bests ≡ t.bests
  pub reach : Some more.reach ≡ better (Some t.reach) (greatest reach places)
  pub reaches : more.reaches ≡ t.reaches

told-row : (item row : ℕ) (t : Tally) (places : List Place) → t.row ≡ row → 0 < t.rows → IsRow t (told_from t (map (mark_at row item) places)) places
told-row item row t [] here some = record { row = refl; rows = refl; best = refl; bests = refl; reach = refl; reaches = refl }
told-row item row t (place ∷ places) here some =
    let mark = mark_at row item place in
    let yes : ltb 0 t.rows ≡ true = lt-ltb 0 t.rows some in
    let same : eqb t.row row ≡ true = eq-eqb t.row row here in
    let is : told_with t mark ≡ same_row t mark = simp (yes, same) in
    let ih = told-row item row (same_row t mark) places here some in
    let joined : IsRow t (told_from (same_row t mark) (map (mark_at row item) places)) (place ∷ places) = record {
      row = ih.row;
      rows = ih.rows;
      best = ih.best ∙ max-better t.best place.best (best_of places);
      bests = ih.bests;
      reach = ih.reach ∙ max-better t.reach (reach place) (greatest reach places);
      reaches = ih.reaches;
    } in
    subst (λ (s : Tally). IsRow t (told_from s (map (mark_at row item) places)) (place ∷ places)) (sym is) joined

pub told_from-append : (t : Tally) (xs ys : List Mark) → told_from t (xs ++ ys) ≡ told_from (told_from t xs) ys
told_from-append t [] ys = refl
told_from-append t (x ∷ xs) ys = told_from-append (told_with t x) xs ys

-- ---- in all records

-- no mark was in a row
abbrev IsFresh : Tally → ℕ → Type 0
IsFresh t row = (t.rows ≡ 0) ⊎ (t.row < row)

-- the bounds of the records together
abbrev pub bounds : List (List ℕ) → Records → ℤ
bounds pattern [] = pos 0
bounds pattern (r ∷ rs) = extension_bound (chain_of pattern r) +ℤ bounds pattern rs

-- what the places in records add to a tally
pub record IsSum (t more : Tally) (pattern : List (List ℕ)) (rs : Records) : Type 0 where
  pub rows : more.rows ≡ t.rows + sequence_support rs pattern
  pub bests : bests_of more ≡ bests_of t +ℤ sequence_utility rs pattern
  pub reaches : reaches_of more ≡ reaches_of t +ℤ bounds pattern rs

fresh-with : (t : Tally) (item row : ℕ) (place : Place) → IsFresh t row → told_with t (mark_at row item place) ≡ next_row t (mark_at row item place)
fresh-with t item row place (inl none) = let low : ltb 0 t.rows ≡ false = ap (ltb 0) none in simp low
fresh-with t item row place (inr before) = let other : eqb t.row row ≡ false = ne_eqb t.row row (λ e. absurd (omega (arith, e, before))) in by
    (ltb 0 t.rows) other
  where
    by : (b : Bool) → eqb t.row row ≡ false
        → cond (b && eqb t.row row) (same_row t (mark_at row item place)) (next_row t (mark_at row item place)) ≡ next_row t (mark_at row item place)
    by true other = simp other
    by false other = refl

pub support-cons : (r : List (List (ℕ × ℤ))) (rs : Records) (pattern : List (List ℕ))
    → sequence_support (r ∷ rs) pattern ≡ count_of (best_utility pattern r) + sequence_support rs pattern
support-cons r rs pattern = sum_by-cons (λ (s : List (List (ℕ × ℤ))). one (is_some (best_utility pattern s))) r rs ∙ ap (λ n. n + sequence_support rs pattern)
    (same (best_utility pattern r))
  where
    one : Bool → ℕ
    one b = cond b 1 0

    same : (o : Option ℤ) → one (is_some o) ≡ count_of o
    same None = refl
    same (Some u) = refl

told-sum : (pattern : List (List ℕ)) (item row : ℕ) (t : Tally) (rs : Records) → Ends pattern → IsFresh t row
    → IsSum t (told_from t (marks_from pattern item row rs)) pattern rs
told-sum pattern item row t [] ends fresh = record { rows = omega arith; bests = omega (arith, ints); reaches = omega (arith, ints) }
told-sum pattern item row t (r ∷ rs) ends fresh = by (λ s. told-sum pattern item (suc row) s rs ends) (chain_of pattern r) refl
  where
    next : Tally → List Place → Tally
    next s places = told_from s (map (mark_at row item) places ++ marks_from pattern item (suc row) rs)

    support : sequence_support (r ∷ rs) pattern ≡ count_of (best_utility pattern r) + sequence_support rs pattern
    support = support-cons r rs pattern

    later : IsFresh t row → IsFresh t (suc row)
    later (inl none) = inl none
    later (inr before) = inr (omega (arith, before))

    by : ((s : Tally) → IsFresh s (suc row) → IsSum s (told_from s (marks_from pattern item (suc row) rs)) pattern rs) → (places : List Place)
        → chain_of pattern r ≡ places
        → IsSum t (next t (chain_of pattern r)) pattern (r ∷ rs)
    by ih [] is =
        let none : best_utility pattern r ≡ None = sym (best_of-chain pattern r ends) ∙ ap best_of is in
        let rest = ih t (later fresh) in
        let here : count_of (best_utility pattern r) ≡ 0 = ap count_of none in
        let earned : unwrap_or (best_utility pattern r) (pos 0) ≡ pos 0 = ap (λ o. unwrap_or o (pos 0)) none in
        let bound : extension_bound (chain_of pattern r) ≡ pos 0 = ap extension_bound is in
        let rows = rest.rows in
        let bests = rest.bests in
        let reaches = rest.reaches in
        let whole : IsSum t (next t []) pattern (r ∷ rs) = record {
          rows = omega (arith, support, here, rows);
          bests = omega
              (arith, ints, earned, bests);
          reaches = omega (arith, ints, bound, reaches);
        } in
        subst (λ ps. IsSum t (next t ps) pattern (r ∷ rs)) (sym is) whole
    by ih (place ∷ places) is =
        let mark = mark_at row item place in
        let first = next_row t mark in
        let row_end = told_from first (map (mark_at row item) places) in
        let inside = told-row item row first places refl (omega arith) in
        let rest = ih row_end (inr (let same = inside.row in omega (arith, same))) in
        let best : best_utility pattern r ≡ Some row_end.best = sym (best_of-chain pattern r ends) ∙ ap best_of is ∙ sym inside.best in
        let high : greatest reach (chain_of pattern r) ≡ Some row_end.reach = ap (greatest reach) is ∙ sym inside.reach in
        let here : count_of (best_utility pattern r) ≡ 1 = ap count_of best in
        let earned : unwrap_or (best_utility pattern r) (pos 0) ≡ row_end.best = ap (λ o. unwrap_or o (pos 0)) best in
        let bound : extension_bound (chain_of pattern r) ≡ row_end.reach = ap (λ o. unwrap_or o (pos 0)) high in
        let rows = rest.rows in
        let bests = rest.bests in
        let reaches = rest.reaches in
        let n = inside.rows in
        let u = inside.bests in
        let v = inside.reaches in
        let end : told_from row_end (marks_from pattern item (suc row) rs) ≡ next t (place ∷ places) =
        sym (told_from-append first (map (mark_at row item) places) (marks_from pattern item (suc row) rs))
        ∙ ap (λ (s : Tally). told_from s (map (mark_at row item) places ++ marks_from pattern item (suc row) rs)) (sym (fresh-with t item row place fresh)) in
        let whole : IsSum t (told_from row_end (marks_from pattern item (suc row) rs)) pattern (r ∷ rs) = record {
          rows = omega (arith, support, here, rows, n);
          bests = omega (arith, ints, earned, bests, u);
          reaches = omega (arith, ints, bound, reaches, v);
        } in
        subst (λ ps. IsSum t (next t ps) pattern (r ∷ rs)) (sym is) (subst (λ (s : Tally). IsSum t s pattern (r ∷ rs)) end whole)

-- what all places of a pattern tell
pub told-all : (pattern : List (List ℕ)) (item : ℕ) (rs : Records) → Ends pattern → IsSum none_told (told (marks_from pattern item 0 rs)) pattern rs
told-all pattern item rs ends = told-sum pattern item 0 none_told rs ends (inl refl)

-- ---- the bounds hold, and fit

fit-first : (pattern : List (List ℕ)) (item row : ℕ) (r : List (List (ℕ × ℤ))) (rs : Records)
    → AllByRecursion IsFit (places_of (marks_from pattern item row (r ∷ rs)))
    → AllByRecursion IsFit (chain_of pattern r) × AllByRecursion IsFit (places_of (marks_from pattern item (suc row) rs))
fit-first pattern item row r rs fit =
    let split = map-append (λ (mark : Mark). mark.place) (map (mark_at row item) (chain_of pattern r)) (marks_from pattern item (suc row) rs) in
    let both = subst (AllByRecursion IsFit) split fit in
    let same = back (chain_of pattern r) in (
      subst (AllByRecursion IsFit) same (each-left IsFit (places_of (map (mark_at row item) (chain_of pattern r)))
          (places_of (marks_from pattern item (suc row) rs)) both),
      each-right IsFit (places_of (map (mark_at row item) (chain_of pattern r))) (places_of (marks_from pattern item (suc row) rs)) both,
    )
  where
    back : (places : List Place) → places_of (map (mark_at row item) places) ≡ places
    back [] = refl
    back (place ∷ places) = ap (λ ps. place ∷ ps) (back places)

pub bounds-hold : (pattern other : List (List ℕ)) (item row : ℕ) (rs : Records) → AllByRecursion IsSequence rs → Ends pattern → IsGrownFrom pattern other
    → AllByRecursion IsFit (places_of (marks_from pattern item row rs)) → sequence_utility rs other ≤ℤ bounds pattern rs
bounds-hold pattern other item row [] rules ends from fit = omega (arith, ints)
bounds-hold pattern other item row (r ∷ rs) rules ends from fit =
    let both = fit-first pattern item row r rs fit in
    let range = extension-range (chain_of pattern r) both.0 in
    let low = range.0 in
    let here = at_most (best_utility other r) (extension_bound (chain_of pattern r)) (extension-holds pattern other r rules.0 ends from) low in
    let rest = bounds-hold pattern other item (suc row) rs rules.1 ends from both.1 in
    omega (arith, ints, here, rest)
  where
    at_most : (o : Option ℤ) (bound : ℤ) → IsAtMost o bound → pos 0 ≤ℤ bound → unwrap_or o (pos 0) ≤ℤ bound
    at_most None bound is low = low
    at_most (Some u) bound is low = is

pub bounds-fit : (first : ℕ) (pattern : List (List ℕ)) (rs : Records) → AllByRecursion IsSequence rs → IsGrownFrom ((first ∷ []) ∷ []) pattern
    → bounds pattern rs ≤ℤ pos (sum_by (λ elements. sum_by absolute_of elements) rs)
bounds-fit first pattern [] rules from = omega (arith, ints)
bounds-fit first pattern (r ∷ rs) rules from =
    let here = extension-within first pattern r rules.0 from in
    let rest = bounds-fit first pattern rs rules.1 from in
    let sum = sum_by-cons (λ (elements : List (List (ℕ × ℤ))). sum_by absolute_of elements) r rs in
    omega (arith, ints, here, rest, sum)

-- ---- one mark

pub told-same : (t : Tally) (mark : Mark) → 0 < t.rows → t.row ≡ mark.row → same_row t mark ≡ told_with t mark
told-same t mark some same =
    let yes : ltb 0 t.rows ≡ true = lt-ltb 0 t.rows some in
    let here : eqb t.row mark.row ≡ true = eq-eqb t.row mark.row same in
    simp (yes, here)

pub told-next : (t : Tally) (mark : Mark) → (0 < t.rows → t.row ≡ mark.row → ⊥) → next_row t mark ≡ told_with t mark
told-next t mark differs = by (ltb 0 t.rows) (eqb t.row mark.row) refl refl
  where
    by : (a b : Bool) → ltb 0 t.rows ≡ a → eqb t.row mark.row ≡ b → next_row t mark ≡ cond (a && b) (same_row t mark) (next_row t mark)
    by true true some same = absurd (differs (ltb-true 0 t.rows some) (eqb-true t.row mark.row same))
    by true false some same = refl
    by false b some same = refl

pub told-push : (t : Tally) (marks : List Mark) (mark : Mark) → told_from t (marks ++ mark ∷ []) ≡ told_with (told_from t marks) mark
told-push t marks mark = told_from-append t marks (mark ∷ [])

-- ---- a tally fits

-- the sums of a tally are kept as numbers
pub record IsKept (t : Tally) : Type 0 where
  pub best : to_z w128 (of_z w128 t.best) ≡ t.best
  pub bests : to_z w128 (of_z w128 t.bests) ≡ t.bests
  pub reach : to_z w128 (of_z w128 t.reach) ≡ t.reach
  pub reaches : to_z w128 (of_z w128 t.reaches) ≡ t.reaches

pub IsKept-fits : (t : Tally) → IsTally t → reaches_of t <ℤ pos (2 ^ 127) → IsKept t
IsKept-fits t is high =
    let best = is.best in
    let bests = is.bests in
    let reach = is.reach in
    let reaches = is.reaches in
    record {
      best = kept-z t.best (omega (arith, ints)) (omega (arith, ints));
      bests = kept-z t.bests (omega (arith, ints)) (omega (arith, ints));
      reach = kept-z t.reach (omega (arith, ints)) (omega (arith, ints));
      reaches = kept-z t.reaches (omega (arith, ints)) (omega (arith, ints));
    }

pub fit-at : (marks : List Mark) (i : ℕ) (d : Mark) → AllByRecursion IsFit (places_of marks) → i < length marks → IsFit (get_or marks i d).place
fit-at [] i d fit within = absurd (omega arith)
fit-at (m ∷ ms) zero d fit within = fit.0
fit-at (m ∷ ms) (suc i) d fit within = fit-at ms i d fit.1 (omega arith)

pub rows-with : (t : Tally) (mark : Mark) → (told_with t mark).rows ≤ t.rows + 1
rows-with t mark = by (ltb 0 t.rows && eqb t.row mark.row)
  where
    by : (b : Bool) → (cond b (same_row t mark) (next_row t mark)).rows ≤ t.rows + 1
    by true = omega arith
    by false = omega arith
