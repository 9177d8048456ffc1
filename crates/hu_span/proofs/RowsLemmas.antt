-- What is gathered of all rows: the marks by which a pattern can grow.
use Rattle.std.proofs.Common.{◌≡◌, ℕ, zero, suc, ◌+◌, ◌<◌, ◌≤◌, Bool, true, false, cond, eqb, ℤ, List, [], ◌∷◌, ◌++◌, map, length, append_assoc, append-nil}
use Rattle.std.proofs.Common.{length-append, filter, get_or, pos, ◌-ℤ◌, drop, take, refl, sym, ap, ◌∙◌, subst, arith}
use Rattle.std.specs.List.{flat_map, AllByRecursion}
use Rattle.std.proofs.lemmas.Bool.{eq-eqb, eqb-true, ne_eqb}
use Rattle.std.proofs.lemmas.List.Concat.{flat_map-append}
use Rattle.std.proofs.lemmas.List.Elements.{filter-append}
use Rattle.std.proofs.Math.Seq.{drop-append_seam, take-append_seam}
use Rattle.hu_kind.specs.Order.{Ascend}
use Rattle.hu_kind.specs.Record.{has, items_in}
use Rattle.hu_kind.proofs.lemmas.Each.{each-append, each-weaker}
use Rattle.hu_kind.specs.Sequence.{IsSequence}
use Rattle.hu_chain.specs.declared.chain.Growth.{Growth}
use Rattle.hu_chain.specs.declared.chain.Growth.TheVariants.{IntoLast, AfterLast}
use Rattle.hu_chain.specs.declared.place.Place.{Place}
use Rattle.hu_chain.specs.Bound.{IsFit}
use Rattle.hu_chain.specs.Grown.{grown}
use Rattle.hu_chain.specs.Pattern.{last_item, Ends}
use Rattle.hu_chain.specs.Place.{cell_of, chain_of, element_at, totals}
use Rattle.hu_chain.specs.Search.{IsPlaceOf, IsPlain}
use Rattle.hu_chain.proofs.lemmas.Bounds.{plain-rules}
use Rattle.hu_chain.proofs.lemmas.Growing.{chain_of-rules}
use Rattle.hu_span.specs.declared.mark.Mark.{Mark}
use Rattle.hu_span.specs.declared.rows.Row.{Row}
use Rattle.hu_span.specs.Child.{ArePlaces}
use Rattle.hu_span.specs.Gather.{beside_marks, front_of, later_marks, row_marks, tail_marks, walk_marks, AreGrown, IsGrowth, MayTake}
use Rattle.hu_span.specs.Growing.{IsReached, Records}
use Rattle.hu_span.specs.Kept.{takes}
use Rattle.hu_span.specs.Mark.{mark_at, marks_from, marks_of, marks_with, places_of, record_at, IsMark}
use Rattle.hu_span.specs.Trail.{AreLeft, IsFrontRow}
use Rattle.hu_span.proofs.GatherLemmas.{first-found, first_from, grown-found, grown_from}
use Rattle.hu_span.proofs.TrailLemmas.{chain-from, AreFrom}
use Rattle.hu_span.proofs.MarkLemmas.{each-filter, taken-flat_map, taken-kept, taken-with}
use Rattle.hu_span.proofs.ReachLemmas.{can-reached, may-reached, Ends-reached}

-- ---- beside each place

-- the marks beside the place of a mark
abbrev pub beside : Records → Mark → List Mark
beside records mark = beside_marks (record_at records mark.row) mark.row mark.place

beside-rows : (before rs : Records) (pattern : List (List ℕ)) (item : ℕ)
    → flat_map (beside (before ++ rs)) (marks_from pattern item (length before) rs) ≡ grown_from IntoLast pattern (length before) rs
beside-rows before [] pattern item = refl
beside-rows before (r ∷ rs) pattern item =
    let more : Records = before ++ r ∷ [] in
    let n : length more ≡ suc (length before) = omega (arith, length-append before (r ∷ [])) in
    let ih = subst (λ all. flat_map (beside all) (marks_from pattern item (length more) rs) ≡ grown_from IntoLast pattern (length more) rs)
    (append_assoc before (r ∷ []) rs) (beside-rows more rs pattern item) in
    let rest = subst (λ k. flat_map (beside (before ++ r ∷ rs)) (marks_from pattern item k rs) ≡ grown_from IntoLast pattern k rs) n ih in
    flat_map-append (beside (before ++ r ∷ rs)) (map (mark_at (length before) item) (chain_of pattern r)) (marks_from pattern item (suc (length before)) rs)
    ∙ (λ j. here (chain_of pattern r) j ++ rest j)
  where
    at_before : (bs : Records) → record_at (bs ++ r ∷ rs) (length bs) ≡ r
    at_before [] = refl
    at_before (b ∷ bs) = at_before bs

    here : (places : List Place)
        → flat_map (beside (before ++ r ∷ rs)) (map (mark_at (length before) item) places) ≡ row_marks IntoLast r (length before) places
    here [] = refl
    here (place ∷ places) = λ j. beside_marks (at_before before j) (length before) place ++ here places j

-- and those of kept items
abbrev pub beside_kept : (ℕ → Bool) → Records → Mark → List Mark
beside_kept keep records mark = filter (takes keep) (beside records mark)

pub beside-all : (keep : ℕ → Bool) (records : Records) (pattern : List (List ℕ)) (item : ℕ)
    → flat_map (beside_kept keep records) (marks_of records pattern item) ≡ filter (takes keep) (grown_from IntoLast pattern 0 records)
beside-all keep records pattern item =
    taken-flat_map keep (beside records) (marks_of records pattern item) ∙ ap (filter (takes keep)) (beside-rows [] records pattern item)

-- ---- row by row

-- no mark of later rows stands in front
front-later : (pattern : List (List ℕ)) (item row n : ℕ) (rs : Records) → row < n → front_of row (marks_from pattern item n rs) ≡ 0
front-later pattern item row n [] later = refl
front-later pattern item row n (r ∷ rs) later = by (front-later pattern item row (suc n) rs (omega arith)) (chain_of pattern r)
  where
    by : front_of row (marks_from pattern item (suc n) rs) ≡ 0 → (places : List Place)
        → front_of row (map (mark_at n item) places ++ marks_from pattern item (suc n) rs) ≡ 0
    by ih [] = ih
    by ih (place ∷ places) = let other : eqb n row ≡ false = ne_eqb n row (λ e. absurd (omega (arith, e, later))) in simp other

-- the first row of marks: its record, its places, and what is left
pub record IsFirstRow (pattern : List (List ℕ)) (item row : ℕ) (rs : Records) (first : Mark) (later : List Mark) : Type 0 where
  pub skipped : ℕ
  pub row_is : first.row ≡ row + skipped
  pub places : places_of (first ∷ take (front_of first.row later) later) ≡ chain_of pattern (record_at rs skipped)
  pub left : drop (front_of first.row later) later ≡ marks_from pattern item (suc (row + skipped)) (drop (suc skipped) rs)
  pub grown : grown_from AfterLast pattern row rs ≡ later_marks (record_at rs skipped) (row + skipped) (chain_of pattern (record_at rs skipped))
      ++ grown_from AfterLast pattern (suc (row + skipped)) (drop (suc skipped) rs)

front-split : (pattern : List (List ℕ)) (item row : ℕ) (rs : Records) (places : List Place)
    → let all = map (mark_at row item) places ++ marks_from pattern item (suc row) rs in
    (places_of (take (front_of row all) all) ≡ places) × (drop (front_of row all) all ≡ marks_from pattern item (suc row) rs)
front-split pattern item row rs [] =
    let none = front-later pattern item row (suc row) rs (omega arith) in
    let all = marks_from pattern item (suc row) rs in
    (ap (λ n. places_of (take n all)) none, ap (λ n. drop n all) none)
front-split pattern item row rs (place ∷ places) =
    let yes : eqb row row ≡ true = eq-eqb row row refl in
    let ih = front-split pattern item row rs places in
    simp yes (ap (λ ps. place ∷ ps) ih.0, ih.1)

pub first-row : (pattern : List (List ℕ)) (item row : ℕ) (rs : Records) (first : Mark) (later : List Mark) → first ∷ later ≡ marks_from pattern item row rs
    → IsFirstRow pattern item row rs first later
first-row pattern item row [] first later is = cc
first-row pattern item row (r ∷ rs) first later is = by (first-row pattern item (suc row) rs first later) (chain_of pattern r) refl is
  where
    by : (first ∷ later ≡ marks_from pattern item (suc row) rs → IsFirstRow pattern item (suc row) rs first later) → (places : List Place)
        → chain_of pattern r ≡ places
        → first ∷ later ≡ map (mark_at row item) (chain_of pattern r) ++ marks_from pattern item (suc row) rs → IsFirstRow pattern item row
        (r ∷ rs) first later
    by ih [] none is =
        let next = ih (subst (λ ps. first ∷ later ≡ map (mark_at row item) ps ++ marks_from pattern item (suc row) rs) none is) in
        let k = next.skipped in
        let n : suc row + k ≡ row + suc k = omega arith in
        let empty : row_marks AfterLast r row (chain_of pattern r) ≡ [] = ap (row_marks AfterLast r row) none in
        record {
          skipped = suc k;
          row_is = next.row_is ∙ n;
          places = next.places;
          left = next.left ∙ ap (λ m. marks_from pattern item (suc m) (drop (suc k) rs)) n;
          grown = ap (λ ms. ms ++ grown_from AfterLast pattern (suc row) rs) empty ∙ next.grown
              ∙ ap (λ m. later_marks (record_at rs k) m (chain_of pattern (record_at rs k)) ++ grown_from AfterLast pattern (suc m) (drop (suc k) rs)) n;
        }
    by ih (place ∷ places) some is =
        let here : first ∷ later ≡ mark_at row item place ∷ map (mark_at row item) places ++ marks_from pattern item (suc row) rs =
        subst (λ ps. first ∷ later ≡ map (mark_at row item) ps ++ marks_from pattern item (suc row) rs) some is in
        let all = map (mark_at row item) places ++ marks_from pattern item (suc row) rs in
        let head : first ≡ mark_at row item place = ap (λ ms. first_or ms (mark_at row item place)) here in
        let tail : later ≡ all = ap (λ ms. drop 1 ms) here in
        let split = front-split pattern item row rs places in
        let n : row ≡ row + 0 = omega arith in
        record {
          skipped = 0;
          row_is = ap (λ (m : Mark). m.row) head ∙ n;
          places = (λ j. places_of (head j ∷ take (front_of (head j).row (tail j)) (tail j))) ∙ ap (λ ps. place ∷ ps) split.0 ∙ sym some;
          left = (λ j. drop (front_of (head j).row (tail j)) (tail j)) ∙ split.1 ∙ ap (λ m. marks_from pattern item (suc m) rs) n;
          grown = ap (λ m. later_marks r m (chain_of pattern r) ++ grown_from AfterLast pattern (suc m) rs) n;
        }
      where
        first_or : List Mark → Mark → Mark
        first_or [] d = d
        first_or (m ∷ ms) d = m

-- no marks, nothing grown
pub grown-none : (pattern : List (List ℕ)) (item row : ℕ) (rs : Records) → [] ≡ marks_from pattern item row rs → grown_from AfterLast pattern row rs ≡ []
grown-none pattern item row [] is = refl
grown-none pattern item row (r ∷ rs) is = by (grown-none pattern item (suc row) rs) (chain_of pattern r) refl is
  where
    by : ([] ≡ marks_from pattern item (suc row) rs → grown_from AfterLast pattern (suc row) rs ≡ []) → (places : List Place) → chain_of pattern r ≡ places
        → [] ≡ map (mark_at row item) (chain_of pattern r) ++ marks_from pattern item (suc row) rs
        → row_marks AfterLast r row (chain_of pattern r) ++ grown_from AfterLast pattern (suc row) rs ≡ []
    by ih [] none is =
        let rest = ih (subst (λ ps. [] ≡ map (mark_at row item) ps ++ marks_from pattern item (suc row) rs) none is) in
        ap (λ ps. row_marks AfterLast r row ps ++ grown_from AfterLast pattern (suc row) rs) none ∙ rest
    by ih (place ∷ places) some is = absurd (let bad = subst (λ ps. [] ≡ map (mark_at row item) ps ++ marks_from pattern item (suc row) rs) some is in cc)

-- ---- what grows a pattern

-- a mark of the kind of growth
tail-above : (row e c last : ℕ) (best ahead : ℤ) (cells : List (ℕ × ℤ)) → AllByRecursion (λ x. last < x) (items_in cells)
    → AllByRecursion (λ mark. last < mark.item.0) (tail_marks row e c best ahead cells)
tail-above row e c last best ahead [] above = tt
tail-above row e c last best ahead (cell ∷ cells) above = (above.0, tail-above row e (suc c) last (best) (ahead -ℤ cell.1) cells above.1)

after-last : (last : ℕ) (cells : List (ℕ × ℤ)) → Ascend (items_in cells) → has last cells ≡ true
    → AllByRecursion (λ x. last < x) (items_in (drop (suc (cell_of last cells)) cells))
after-last last [] up h = tt
after-last last (cell ∷ cells) up h = by (eqb last cell.0) refl (after-last last cells up.1)
  where
    by : (b : Bool) → eqb last cell.0 ≡ b → (has last cells ≡ true → AllByRecursion (λ x. last < x) (items_in (drop (suc (cell_of last cells)) cells)))
        → AllByRecursion (λ x. last < x) (items_in (drop (suc (cell_of last (cell ∷ cells))) (cell ∷ cells)))
    by true same ih = let here : last ≡ cell.0 = eqb-true last cell.0 same in simp same (subst (λ n. AllByRecursion (λ x. n < x) (items_in cells))
        (sym here) up.0)
    by false other ih = let more : has last cells ≡ true = simp other at h in simp other (ih more)

into-above : (r : List (List (ℕ × ℤ))) (row last : ℕ) (places : List Place) → AllByRecursion IsPlain r → AllByRecursion (IsPlaceOf r last) places
    → AllByRecursion (λ mark. last < mark.item.0) (row_marks IntoLast r row places)
into-above r row last [] plain is = tt
into-above r row last (place ∷ places) plain is =
    let first = is.0 in
    let cells = element_at r place.element in
    let above = after-last last cells (plain-at r place.element plain) first.has in
    let above' = subst (λ k. AllByRecursion (λ x. last < x) (items_in (drop (suc k) cells))) (sym first.cell) above in
    each-append (λ mark. last < mark.item.0) (beside_marks r row place) (row_marks IntoLast r row places)
    (tail-above row place.element (suc place.cell) last place.best place.rest (drop (suc place.cell) cells) above') (into-above r row last places plain is.1)
  where
    plain-at : (es : List (List (ℕ × ℤ))) (e : ℕ) → AllByRecursion IsPlain es → Ascend (items_in (element_at es e))
    plain-at [] e all = tt
    plain-at (cs ∷ es) zero all = let one = all.0 in one.ascending
    plain-at (cs ∷ es) (suc e) all = plain-at es e all.1

grown-above : (pattern : List (List ℕ)) (row : ℕ) (rs : Records) → AllByRecursion IsSequence rs → Ends pattern
    → AllByRecursion (λ mark. last_item pattern < mark.item.0) (grown_from IntoLast pattern row rs)
grown-above pattern row [] rules ends = tt
grown-above pattern row (r ∷ rs) rules ends =
    each-append (λ mark. last_item pattern < mark.item.0) (row_marks IntoLast r row (chain_of pattern r)) (grown_from IntoLast pattern (suc row) rs)
    (into-above r row (last_item pattern) (chain_of pattern r) (plain-rules r rules.0) (chain_of-rules pattern r ends))
    (grown-above pattern (suc row) rs rules.1 ends)

each-growth : (keep : ℕ → Bool) (growth : Growth) (pattern : List (List ℕ)) (marks : List Mark) → AllByRecursion (λ mark. keep mark.item.0 ≡ true) marks
    → AllByRecursion (λ mark. MayTake growth pattern mark.item.0) marks
    → AllByRecursion IsFit (places_of marks)
    → AllByRecursion (IsGrowth keep growth pattern) marks
each-growth keep growth pattern [] kept may fit = tt
each-growth keep growth pattern (m ∷ ms) kept may fit =
    (record { kept = kept.0; may = may.0; fit = fit.0 }, each-growth keep growth pattern ms kept.1 may.1 fit.1)

each-all : {A : Type 0} (P : A → Type 0) → ((x : A) → P x) → (xs : List A) → AllByRecursion P xs
each-all P all [] = tt
each-all P all (x ∷ xs) = (all x, each-all P all xs)

pub grown-kept : (keep : ℕ → Bool) (growth : Growth) (records : Records) (pattern : List (List ℕ)) (marks : List Mark)
    → AllByRecursion IsSequence records
    → IsReached pattern
    → marks ≡ filter (takes keep) (grown_from growth pattern 0 records) → AllByRecursion IsFit (places_of marks)
    → AreGrown records keep pattern growth marks
grown-kept keep growth records pattern marks rules is whole fit =
    let all = grown_from growth pattern 0 records in
    let M : Mark → Type 0 = λ mark. MayTake growth pattern mark.item.0 in
    let kept = subst (AllByRecursion (λ (mark : Mark). keep mark.item.0 ≡ true)) (sym whole) (taken-kept keep all) in
    let mays = subst (AllByRecursion M) (sym whole) (each-filter M (takes keep) all (may growth)) in
    record {
      each = each-growth keep growth pattern marks kept mays fit;
      places = λ item k m. ap (marks_with item) whole ∙ taken-with keep item all k
          ∙ grown-found growth pattern item 0 records rules (can-reached growth pattern item is m);
    }
  where
    may : (growth : Growth) → AllByRecursion (λ (mark : Mark). MayTake growth pattern mark.item.0) (grown_from growth pattern 0 records)
    may AfterLast = each-all (λ (mark : Mark). MayTake AfterLast pattern mark.item.0)
        (λ mark. may-reached AfterLast pattern mark.item.0 is (Ends-reached pattern is)) (grown_from AfterLast pattern 0 records)
    may IntoLast =
        each-weaker (λ (mark : Mark). last_item pattern < mark.item.0) (λ (mark : Mark). MayTake IntoLast pattern mark.item.0)
        (grown_from IntoLast pattern 0 records)
        (λ mark low. may-reached IntoLast pattern mark.item.0 is (record { ends = Ends-reached pattern is; below = low }))
        (grown-above pattern 0 records rules (Ends-reached pattern is))

pub first-kept : (keep : ℕ → Bool) (records : Records) (marks : List Mark) → AllByRecursion IsSequence records
    → marks ≡ filter (takes keep) (first_from 0 records) → AllByRecursion IsFit (places_of marks)
    → AreGrown records keep [] AfterLast marks
first-kept keep records marks rules whole fit =
    let kept = subst (AllByRecursion (λ (mark : Mark). keep mark.item.0 ≡ true)) (sym whole) (taken-kept keep (first_from 0 records)) in
    record {
      each = each-growth keep AfterLast [] marks kept (each-all (λ (mark : Mark). MayTake AfterLast [] mark.item.0) (λ mark. tt) marks) fit;
      places = λ item k m. ap (marks_with item) whole ∙ taken-with keep item (first_from 0 records) k ∙ first-found item 0 records rules;
    }

-- they are among the marks
pub front-within : (row : ℕ) (marks : List Mark) → front_of row marks ≤ length marks
front-within row [] = omega arith
front-within row (m ∷ ms) = by (eqb m.row row) (front-within row ms)
  where
    by : (b : Bool) → front_of row ms ≤ length ms → cond b (suc (front_of row ms)) 0 ≤ suc (length ms)
    by true rest = omega arith
    by false rest = omega arith

pub record_at-any : (rs : Records) (k : ℕ) (d : List (List (ℕ × ℤ))) → k < length rs → get_or rs k d ≡ record_at rs k
record_at-any [] k d within = absurd (omega arith)
record_at-any (r ∷ rs) zero d within = refl
record_at-any (r ∷ rs) (suc k) d within = record_at-any rs k d (omega arith)

pub no-marks : (marks : List Mark) → length marks ≡ 0 → marks ≡ []
no-marks [] none = refl
no-marks (m ∷ ms) none = absurd (omega (arith, none))

-- the rows that are left, and what was gathered of the others
pub record AreRowsLeft (records : Records) (keep : ℕ → Bool) (pattern : List (List ℕ)) (left grown : List Mark) : Type 0 where
  pub rest : AreLeft records pattern left
  pub so_far : grown ++ filter (takes keep) (grown_from AfterLast pattern rest.row (drop rest.row records)) ≡ filter (takes keep)
      (grown_from AfterLast pattern 0 records)
  pub fit : AllByRecursion IsFit (places_of grown)

-- the marks from a row on stand behind those of the rows before it
pub marks-behind : (pattern : List (List ℕ)) (item n m row : ℕ) (rs : Records) → m ≡ n + row
    → (front : List Mark) × (marks_from pattern item n rs ≡ front ++ marks_from pattern item m (drop row rs))
marks-behind pattern item n m zero rs at = let same : n ≡ m = omega (arith, at) in ([], ap (λ k. marks_from pattern item k rs) same)
marks-behind pattern item n m (suc row) [] at = ([], refl)
marks-behind pattern item n m (suc row) (r ∷ rs) at =
    let rest = marks-behind pattern item (suc n) m row rs (omega (arith, at)) in
    let own = map (mark_at n item) (chain_of pattern r) in
    (own ++ rest.0, ap (λ ms. own ++ ms) rest.1 ∙ sym (append_assoc own rest.0 (marks_from pattern item m (drop row rs))))

drop-drop : {A : Type 0} (n k : ℕ) (xs : List A) → drop (suc k) (drop n xs) ≡ drop (suc (n + k)) xs
drop-drop zero k xs = let same : k ≡ 0 + k = omega arith in ap (λ m. drop (suc m) xs) same
drop-drop (suc n) k [] = refl
drop-drop (suc n) k (x ∷ xs) = let same : suc (n + k) ≡ suc n + k = omega arith in drop-drop n k xs ∙ ap (λ m. drop m xs) same

record_at-drop : (n k : ℕ) (rs : Records) → record_at (drop n rs) k ≡ record_at rs (n + k)
record_at-drop zero k rs = let same : k ≡ 0 + k = omega arith in ap (record_at rs) same
record_at-drop (suc n) k [] = refl
record_at-drop (suc n) k (r ∷ rs) = let same : suc (n + k) ≡ suc n + k = omega arith in record_at-drop n k rs ∙ ap (record_at (r ∷ rs)) same

pub rows-first : (records : Records) (keep : ℕ → Bool) (pattern : List (List ℕ)) (marks grown : List Mark) → ArePlaces records pattern
    (last_item pattern) marks → grown ≡ []
    → AreRowsLeft records keep pattern marks grown
rows-first records keep pattern marks grown is none = record {
  rest = record { row = 0; is = is.is };
  so_far = ap (λ ms. ms ++ filter (takes keep) (grown_from AfterLast pattern 0 records)) none;
  fit = subst (λ ms. AllByRecursion IsFit (places_of ms)) (sym none) tt;
}

pub fit-each : (records : Records) (item : ℕ) (ms : List Mark) → AllByRecursion (IsMark records item) ms → AllByRecursion IsFit (places_of ms)
fit-each records item [] all = tt
fit-each records item (m ∷ ms) all = let first = all.0 in (first.fit, fit-each records item ms all.1)

-- the next row of the marks that are left
module _ (records : Records) (pattern : List (List ℕ)) (row : Row) (left : List Mark) (front : IsFrontRow left row) (rest : AreLeft records pattern left) where
  abbrev first : Mark
  first = row.first.now

  abbrev others : List Mark
  others = row.others.now

  abbrev later : List Mark
  later = others ++ row.left.now

  here : IsFirstRow pattern (last_item pattern) rest.row (drop rest.row records) first later
  here = first-row pattern (last_item pattern) rest.row (drop rest.row records) first later (sym front.parts ∙ rest.is)

  at_row : record_at (drop rest.row records) here.skipped ≡ record_at records first.row
  at_row = record_at-drop rest.row here.skipped records ∙ ap (record_at records) (sym here.row_is)

  places : places_of (first ∷ others) ≡ chain_of pattern (record_at (drop rest.row records) here.skipped)
  places = ap (λ ms. places_of (first ∷ ms)) (sym (ap (λ k. take k later) (sym front.all) ∙ take-append_seam others row.left.now)) ∙ here.places

  pub rows-places : Ends pattern → AllByRecursion (IsPlaceOf (record_at records first.row) (last_item pattern)) (places_of (first ∷ others))
  rows-places ends =
      let all = chain_of-rules pattern (record_at (drop rest.row records) here.skipped) ends in
      let seen = subst (AllByRecursion (IsPlaceOf (record_at (drop rest.row records) here.skipped) (last_item pattern))) (sym places) all in
      subst (λ r. AllByRecursion (IsPlaceOf r (last_item pattern)) (places_of (first ∷ others))) at_row seen

  pub rows-from : AreFrom 0 (places_of (first ∷ others))
  rows-from =
      let elements = record_at (drop rest.row records) here.skipped in
      subst (AreFrom 0) (sym places) (chain-from pattern elements 0 elements)

-- those behind it
pub rows-next : (records : Records) (keep : ℕ → Bool) (pattern : List (List ℕ)) (row : Row) (left grown more : List Mark) → IsFrontRow left row
    → AreRowsLeft records keep pattern left grown
    → more ≡ grown ++ filter (takes keep) (later_marks (record_at records row.first.now.row) row.first.now.row (places_of (row.first.now ∷ row.others.now)))
    → AllByRecursion IsFit (places_of more)
    → AreRowsLeft records keep pattern row.left.now more
rows-next records keep pattern row left grown more front is more_is fit =
    let first = row.first.now in
    let later = row.others.now ++ row.left.now in
    let from = is.rest.row in
    let here' = here records pattern row left front is.rest in
    let k = here'.skipped in
    let next = suc (from + k) in
    let ahead = grown_from AfterLast pattern next (drop next records) in
    let behind = ap (λ n. drop n later) (sym front.all) ∙ drop-append_seam row.others.now row.left.now in
    let past = ap (λ rs. grown_from AfterLast pattern next rs) (drop-drop from k records) in
    let own = later_marks (record_at records first.row) first.row (places_of (first ∷ row.others.now)) in
    let own_is : later_marks (record_at (drop from records) k) (from + k) (chain_of pattern (record_at (drop from records) k)) ≡ own =
    (λ j. later_marks (at_row records pattern row left front is.rest j) (sym here'.row_is j) (sym (places records pattern row left front is.rest) j)) in
    record {
      rest = record { row = next; is = sym behind ∙ here'.left ∙ ap (marks_from pattern (last_item pattern) next) (drop-drop from k records) };
      so_far = ap (λ ms. ms ++ filter (takes keep) ahead) more_is
          ∙ append_assoc grown (filter (takes keep) own) (filter (takes keep) ahead)
          ∙ ap (λ ms. grown ++ ms) (sym (filter-append (takes keep) own ahead))
          ∙ ap (λ ms. grown ++ filter (takes keep) ms) (sym (here'.grown ∙ (λ j. own_is j ++ past j)))
          ∙ is.so_far;
      fit = fit;
    }

pub rows-end : (records : Records) (keep : ℕ → Bool) (pattern : List (List ℕ)) (grown : List Mark) → AreRowsLeft records keep pattern [] grown
    → grown ≡ filter (takes keep) (grown_from AfterLast pattern 0 records)
rows-end records keep pattern grown is =
    let none = grown-none pattern (last_item pattern) is.rest.row (drop is.rest.row records) is.rest.is in
    sym (append-nil grown) ∙ ap (λ ms. grown ++ filter (takes keep) ms) (sym none) ∙ is.so_far

-- ---- the first marks

pub first-next : (records : Records) (row : ℕ) (r : List (List (ℕ × ℤ))) → row < length records → r ≡ get_or records row r
    → first_from row (drop row records) ≡ walk_marks row 0 (pos 0) (totals r) [] r ++ first_from (suc row) (drop (suc row) records)
first-next [] row r within at = absurd (omega arith)
first-next (x ∷ records) row r within at = by x records row r within at row refl
  where
    by : (x : List (List (ℕ × ℤ))) (xs : Records) (k : ℕ) (r : List (List (ℕ × ℤ))) → k < length (x ∷ xs) → r ≡ get_or (x ∷ xs) k r → (n : ℕ) → n ≡ n
        → first_from n (drop k (x ∷ xs)) ≡ walk_marks n 0 (pos 0) (totals r) [] r ++ first_from (suc n) (drop (suc k) (x ∷ xs))
    by x xs zero r within at n e = ap (λ y. walk_marks n 0 (pos 0) (totals y) [] y ++ first_from (suc n) xs) (sym at)
    by x [] (suc k) r within at n e = absurd (omega arith)
    by x (y ∷ xs) (suc k) r within at n e = by y xs k r (omega arith) at n e
