-- The cells behind marks where fewer items count.
use Rattle.std.proofs.Common.{◌≡◌, ℕ, suc, ◌+◌, ◌-◌, ◌<◌, ◌≤◌, ◌^◌, Bool, true, false, cond, ℤ, pos, ◌+ℤ◌, ◌≤ℤ◌, ◌<ℤ◌, List, [], ◌∷◌, ◌++◌, filter, length}
use Rattle.std.proofs.Common.{drop, take, get_or, map, reverse, refl, sym, ap, ◌∙◌, subst, arith, append_assoc, append-nil, length-append, length-drop}
use Rattle.std.specs.List.{AllByRecursion}
use Rattle.std.proofs.lemmas.Int.{ints}
use Rattle.std.proofs.lemmas.List.{drop-append-le, drop-drop, drop-take, length-map, reverse-append, reverse-reverse, map-append, take-append-le, take_all}
use Rattle.std.proofs.lemmas.List.{take_more, take-append-drop}
use Rattle.std.proofs.lemmas.List.Elements.{filter-append}
use Rattle.hu_kind.proofs.lemmas.Each.{each-append, each-left, each-right, each-drop}
use Rattle.hu_kind.specs.Sequence.{IsSequence}
use Rattle.hu_chain.specs.Place.{element_at, rest_at}
use Rattle.hu_chain.specs.Search.{IsPlaceOf}
use Rattle.hu_chain.proofs.lemmas.Cells.{all-above, IsAbove}
use Rattle.hu_span.specs.declared.mark.Mark.{Mark}
use Rattle.hu_span.specs.declared.thin.Run.{Run}
use Rattle.hu_span.specs.declared.trail.Span.{Span}
use Rattle.hu_span.specs.declared.trail.TrailCell.{TrailCell}
use Rattle.hu_span.specs.Growing.{Records}
use Rattle.hu_span.specs.Kept.{counted, weighed_in, weighed_of}
use Rattle.hu_span.specs.Mark.{record_at, IsMark}
use Rattle.hu_span.specs.Thin.{resting, stretch, IsRun}
use Rattle.hu_span.specs.Trail.{cells_from, cells_past, is_held, numbered, values_in, AreSpans, IsSpan}
use Rattle.hu_span.proofs.RestLemmas.{rested_mark}
use Rattle.hu_span.proofs.MarkLemmas.{each-filter}
use Rattle.hu_span.proofs.SpanLemmas.{take-upto}
use Rattle.hu_span.proofs.TrailLemmas.{values-append, values-past}
use Rattle.hu_span.proofs.WalkLemmas.{element_above, inside-of, inside-weighed, rest-fits, rule-at}
use Rattle.hu_span.proofs.WeighedLemmas.{weighed-record, weighed-sequence}

-- values that aren't below 0
abbrev pub AreAbove : List TrailCell → Type 0
AreAbove cells = AllByRecursion (λ (cell : TrailCell). pos 0 ≤ℤ cell.value) cells

pub values-low : (cells : List TrailCell) → AreAbove cells → pos 0 ≤ℤ values_in cells
values-low [] above = omega (arith, ints)
values-low (cell ∷ cells) above = let rest = values-low cells above.1 in omega (arith, ints, rest, above.0)

module _ (keep : ℕ → Bool) where
  abbrev pub held : List TrailCell → List TrailCell
  held cells = filter (is_held keep) cells

  -- one more cell is copied, where it is kept
  pub record IsCopied (cells : List TrailCell) (i : ℕ) (cell : TrailCell) : Type 0 where
    pub next : held (take (i + 1) cells) ≡ held (take i cells) ++ filter (λ _. keep cell.item.0) (cell ∷ [])
    pub low : pos 0 ≤ℤ values_in (held (take i cells))
    pub own : pos 0 ≤ℤ counted (keep cell.item.0) cell.value
    pub sum : values_in (held (take (i + 1) cells)) ≡ values_in (held (take i cells)) +ℤ counted (keep cell.item.0) cell.value
    pub fits : values_in (held (take (i + 1) cells)) <ℤ pos (2 ^ 127)

  held-parts : (i : ℕ) (cells : List TrailCell) → held cells ≡ held (take i cells) ++ held (drop i cells)
  held-parts i cells = ap held (sym (take-append-drop i cells)) ∙ filter-append (is_held keep) (take i cells) (drop i cells)

  front-above : (i : ℕ) (cells : List TrailCell) → AreAbove (held cells) → AreAbove (held (take i cells)) × AreAbove (held (drop i cells))
  front-above i cells above =
      let both = subst AreAbove (held-parts i cells) above in (
        each-left (λ (cell : TrailCell). pos 0 ≤ℤ cell.value) (held (take i cells)) (held (drop i cells)) both,
        each-right (λ (cell : TrailCell). pos 0 ≤ℤ cell.value) (held (take i cells)) (held (drop i cells)) both,
      )

  pub copied : (cells : List TrailCell) (i : ℕ) (d : TrailCell) → i < length cells → AreAbove (held cells) → values_in (held cells) <ℤ pos (2 ^ 127)
      → IsCopied cells i (get_or cells i d)
  copied cells i d within above fits =
      let cell = get_or cells i d in
      let own : List TrailCell = filter (λ _. keep cell.item.0) (cell ∷ []) in
      let next = ap held (take_more cells i d within) ∙ filter-append (is_held keep) (take i cells) (cell ∷ []) in
      let front = front-above (i + 1) cells above in
      let mid = subst AreAbove next front.0 in
      let mine = each-right (λ (cell : TrailCell). pos 0 ≤ℤ cell.value) (held (take i cells)) own mid in
      let before = each-left (λ (cell : TrailCell). pos 0 ≤ℤ cell.value) (held (take i cells)) own mid in
      let whole = ap values_in (held-parts (i + 1) cells) ∙ values-append (held (take (i + 1) cells)) (held (drop (i + 1) cells)) in
      let rest = values-low (held (drop (i + 1) cells)) front.1 in
      let one = single (keep cell.item.0) cell in
      record {
        next = next;
        low = values-low (held (take i cells)) before;
        own = subst (λ v. pos 0 ≤ℤ v) one (values-low own mine);
        sum = ap values_in next ∙ values-append (held (take i cells)) own ∙ ap (λ v. values_in (held (take i cells)) +ℤ v) one;
        fits = omega (arith, ints, whole, rest, fits);
      }
    where
      single : (b : Bool) (cell : TrailCell) → values_in (filter (λ _. b) (cell ∷ [])) ≡ counted b cell.value
      single true cell = omega (arith, ints)
      single false cell = refl

-- ---- stretches

stretch-parts : (trail : List TrailCell) (low mid high : ℕ) → low ≤ mid → mid ≤ high → stretch trail low high ≡ stretch trail low mid ++ stretch trail mid high
stretch-parts trail low mid high first second =
    let whole = drop low trail in
    let n : (mid - low) + (high - mid) ≡ high - low = omega (arith, first, second) in
    let k : low + (mid - low) ≡ mid = omega (arith, first) in
    ap (λ m. take m whole) (sym n) ∙ split (mid - low) (high - mid) whole
    ∙ ap (λ xs. stretch trail low mid ++ take (high - mid) xs) (drop-drop (mid - low) low trail ∙ ap (λ m. drop m trail) k)
  where
    split : (a b : ℕ) (xs : List TrailCell) → take (a + b) xs ≡ take a xs ++ take b (drop a xs)
    split a b xs = sym (take-append-drop a (take (a + b) xs)) ∙ (λ j. front j ++ drop-take a b xs j)
      where
        front : take a (take (a + b) xs) ≡ take a xs
        front = take-upto a (a + b) xs (omega arith)

module _ (keep : ℕ → Bool) (trail : List TrailCell) where
  -- a run with the cells behind it
  pub record IsLonger (run : Run) (upto : ℕ) : Type 0 where
    pub above : AreAbove (held keep (stretch trail run.high upto))
    pub low : pos 0 ≤ℤ values_in (held keep (stretch trail run.low run.high))
    pub parts : held keep (stretch trail run.low upto) ≡ held keep (stretch trail run.low run.high) ++ held keep (stretch trail run.high upto)
    pub sum : values_in (held keep (stretch trail run.low upto))
        ≡ values_in (held keep (stretch trail run.low run.high)) +ℤ values_in (held keep (stretch trail run.high upto))
    pub more : pos 0 ≤ℤ values_in (held keep (stretch trail run.high upto))

  pub longer : (thin : List TrailCell) (run : Run) (upto : ℕ) → IsRun keep trail thin run → run.high ≤ upto
      → AreAbove (held keep (stretch trail run.low upto)) → IsLonger run upto
  longer thin run upto is within above =
      let first = held keep (stretch trail run.low run.high) in
      let second = held keep (stretch trail run.high upto) in
      let parts = ap (held keep) (stretch-parts trail run.low run.high upto is.ordered within)
      ∙ filter-append (is_held keep) (stretch trail run.low run.high) (stretch trail run.high upto) in
      let both = subst AreAbove parts above in
      let front = each-left (λ (cell : TrailCell). pos 0 ≤ℤ cell.value) first second both in
      let back = each-right (λ (cell : TrailCell). pos 0 ≤ℤ cell.value) first second both in
      record {
        above = back;
        low = values-low first front;
        parts = parts;
        sum = ap values_in parts ∙ values-append first second;
        more = values-low second back;
      }

  pub run-longer : (thin new : List TrailCell) (run next : Run) (upto : ℕ) → IsRun keep trail thin run → run.high ≤ upto → upto ≤ length trail
      → AreAbove (held keep (stretch trail run.low upto)) → new ≡ thin ++ held keep (stretch trail run.high upto)
      → next.low ≡ run.low → next.high ≡ upto → next.start ≡ run.start
      → next.sum ≡ run.sum +ℤ values_in (held keep (stretch trail run.high upto)) → IsRun keep trail new next
  run-longer thin new run next upto is within inside above grown low high start sum =
      let long = longer thin run upto is within above in
      let more = held keep (stretch trail run.high upto) in
      let size = ap length grown ∙ length-append thin more in
      let after = (λ j. drop (start j) (grown j)) ∙ drop-append-le run.start thin more is.start in
      let copies = after ∙ ap (λ cs. cs ++ more) is.cells ∙ sym long.parts in
      let summed = ap values_in after ∙ values-append (drop run.start thin) more in
      record {
        ordered = omega (arith, low, high, is.ordered, within);
        within = omega (arith, high, inside);
        start = omega (arith, start, size, is.start);
        cells = copies ∙ (λ j. held keep (stretch trail (sym low j) (sym high j)));
        sum = omega (arith, ints, sum, summed, is.sum);
      }

-- ---- the other way round

filter-reverse : {A : Type 0} (p : A → Bool) (xs : List A) → filter p (reverse xs) ≡ reverse (filter p xs)
filter-reverse p [] = refl
filter-reverse p (x ∷ xs) =
    ap (filter p) (reverse-append (x ∷ []) xs) ∙ filter-append p (reverse xs) (x ∷ []) ∙ ap (λ ys. ys ++ filter p (x ∷ [])) (filter-reverse p xs)
    ∙ by (p x)
  where
    by : (b : Bool) → reverse (filter p xs) ++ cond b (x ∷ []) [] ≡ reverse (cond b (x ∷ filter p xs) (filter p xs))
    by true = sym (reverse-append (x ∷ []) (filter p xs))
    by false = append-nil (reverse (filter p xs))

values-reverse : (cells : List TrailCell) → values_in (reverse cells) ≡ values_in cells
values-reverse [] = refl
values-reverse (cell ∷ cells) =
    let rest = values-reverse cells in
    let split = ap values_in (reverse-append (cell ∷ []) cells) ∙ values-append (reverse cells) (cell ∷ []) in
    omega (arith, ints, rest, split)

above-reverse : (cells : List TrailCell) → AreAbove cells → AreAbove (reverse cells)
above-reverse [] above = tt
above-reverse (cell ∷ cells) above =
    subst AreAbove (sym (reverse-append (cell ∷ []) cells))
    (each-append (λ (x : TrailCell). pos 0 ≤ℤ x.value) (reverse cells) (cell ∷ []) (above-reverse cells above.1) (above.0, tt))

-- those of fewer items
held-less : (keep fewer : ℕ → Bool) → ((item : ℕ) → fewer item ≡ true → keep item ≡ true) → (cells : List TrailCell)
    → held fewer (held keep cells) ≡ held fewer cells
held-less keep fewer less [] = refl
held-less keep fewer less (cell ∷ cells) = by (keep cell.item.0) refl (fewer cell.item.0) refl (held-less keep fewer less cells)
  where
    by : (k : Bool) → keep cell.item.0 ≡ k → (f : Bool) → fewer cell.item.0 ≡ f → held fewer (held keep cells) ≡ held fewer cells
        → held fewer (cond k (cell ∷ held keep cells) (held keep cells)) ≡ cond f (cell ∷ held fewer cells) (held fewer cells)
    by true is f also rest = (λ j. cond (also j) (cell ∷ rest j) (rest j))
    by false is true also rest = let bad : true ≡ false = sym (less cell.item.0 also) ∙ is in cc
    by false is false also rest = rest

-- ---- a mark where fewer items count

numbered-above : (e c : ℕ) (cells : List (ℕ × ℤ)) → AllByRecursion IsAbove cells → AreAbove (numbered e c cells)
numbered-above e c [] above = tt
numbered-above e c (cell ∷ cells) above = (above.0, numbered-above e (suc c) cells above.1)

from-above : (e : ℕ) (later : List (List (ℕ × ℤ))) → AllByRecursion (AllByRecursion IsAbove) later → AreAbove (cells_from e later)
from-above e [] above = tt
from-above e (cells ∷ later) above =
    each-append (λ (cell : TrailCell). pos 0 ≤ℤ cell.value) (numbered e 0 cells) (cells_from (suc e) later) (numbered-above e 0 cells above.0)
    (from-above (suc e) later above.1)

module _ (keep fewer : ℕ → Bool) (records : Records) (trail : List TrailCell) (less : (item : ℕ) → fewer item ≡ true → keep item ≡ true) where
  abbrev row_of : Mark → List (List (ℕ × ℤ))
  row_of mark = record_at records mark.row

  abbrev past_of : Mark → List TrailCell
  past_of mark = held fewer (cells_past (row_of mark) mark.place.element mark.place.cell)

  -- what of a span is copied
  pub record IsThin (mark : Mark) (span : Span) : Type 0 where
    pub cells : held fewer (stretch trail span.low span.high) ≡ reverse (past_of mark)
    pub above : AreAbove (held fewer (stretch trail span.low span.high))
    pub fits : values_in (held fewer (stretch trail span.low span.high)) <ℤ pos (2 ^ 127)
    pub rest : values_in (held fewer (stretch trail span.low span.high))
        ≡ rest_at (record_at (weighed_of fewer records) mark.row) mark.place.element mark.place.cell

  pub thin-span : (last : ℕ) (mark : Mark) (span : Span) → AllByRecursion IsSequence records → IsMark (weighed_of keep records) last mark
      → IsSpan keep records trail mark span → IsThin mark span
  thin-span last mark span rules is at =
      let row = row_of mark in
      let place = mark.place in
      let size = length-map records (weighed_in keep) in
      let rule = rule-at records mark.row rules (omega (arith, size, is.within)) in
      let seen = weighed-record keep records mark.row in
      let inside = inside-of keep row last place (subst (λ r. IsPlaceOf r last place) seen is.place) in
      let past = cells_past row place.element place.cell in
      let own = stretch trail span.low span.high in
      let back : own ≡ reverse (held keep past) = sym (reverse-reverse own) ∙ ap reverse at.cells in
      let cells = ap (held fewer) back ∙ filter-reverse (is_held fewer) (held keep past) ∙ ap reverse (held-less keep fewer less past) in
      let all = all-above row rule.none_below in
      let others = each-drop (AllByRecursion IsAbove) (suc place.element) row all in
      let mine = each-drop IsAbove (suc place.cell) (element_at row place.element) (element_above row rule place.element) in
      let raw = each-append (λ (cell : TrailCell). pos 0 ≤ℤ cell.value) (numbered place.element (suc place.cell) (drop (suc place.cell)
      (element_at row place.element))) (cells_from (suc place.element) (drop (suc place.element) row))
      (numbered-above place.element (suc place.cell) (drop (suc place.cell) (element_at row place.element)) mine)
      (from-above (suc place.element) (drop (suc place.element) row) others) in
      let high = each-filter (λ (cell : TrailCell). pos 0 ≤ℤ cell.value) (is_held fewer) past raw in
      let rest = ap values_in cells ∙ values-reverse (past_of mark) ∙ values-past fewer row place.element place.cell in
      let few = rest-fits (weighed_in fewer row) (weighed-sequence fewer row rule) place (inside-weighed fewer row place inside) in
      record {
        cells = cells;
        above = subst AreAbove (sym cells) (above-reverse (past_of mark) high);
        fits = omega (arith, ints, rest, few);
        rest = rest ∙ ap (λ es. rest_at es place.element place.cell) (sym (weighed-record fewer records mark.row));
      }

-- a span stands in a trail that grew
span-grown : (keep : ℕ → Bool) (records : Records) (trail more : List TrailCell) (mark : Mark) (span : Span) → IsSpan keep records trail mark span
    → IsSpan keep records (trail ++ more) mark span
span-grown keep records trail more mark span is =
    let stands = is.stands in
    let size = length-append trail more in
    let rest = length-drop span.low trail in
    let same = ap (take (span.high - span.low)) (drop-append-le span.low trail more (omega (arith, stands.ordered, stands.within)))
    ∙ take-append-le (span.high - span.low) (drop span.low trail) more (omega (arith, rest, stands.ordered, stands.within)) in
    record {
      stands = record { ordered = stands.ordered; within = omega (arith, size, stands.within) };
      cells = ap reverse same ∙ is.cells;
    }

pub spans-grown : (keep : ℕ → Bool) (records : Records) (trail more : List TrailCell) (marks : List Mark) (spans : List Span)
    → AreSpans keep records trail marks spans → AreSpans keep records (trail ++ more) marks spans
spans-grown keep records trail more [] [] are = tt
spans-grown keep records trail more [] (span ∷ spans) are = absurd are
spans-grown keep records trail more (mark ∷ marks) [] are = absurd are
spans-grown keep records trail more (mark ∷ marks) (span ∷ spans) are =
    (span-grown keep records trail more mark span are.0, spans-grown keep records trail more marks spans are.1)

pub span-at : (keep : ℕ → Bool) (records : Records) (trail : List TrailCell) (before more : List Mark) (mark : Mark) (spans : List Span) (d : Span)
    → AreSpans keep records trail (before ++ mark ∷ more) spans
    → (length before < length spans) × IsSpan keep records trail mark (get_or spans (length before) d)
span-at keep records trail [] more mark [] d are = absurd are
span-at keep records trail [] more mark (span ∷ spans) d are = (omega arith, are.0)
span-at keep records trail (other ∷ before) more mark [] d are = absurd are
span-at keep records trail (other ∷ before) more mark (span ∷ spans) d are =
    let rest = span-at keep records trail before more mark spans d are.1 in
    (omega (arith, rest.0), rest.1)

-- ---- from the last mark back

-- the last of the marks are thinned
pub record AreThin (records : Records) (fewer : ℕ → Bool) (trail : List TrailCell) (marks left : List Mark) (thin : List TrailCell) (run : Run)
    (back : List Mark) (ends : List Span) : Type 0 where
  pub later : List Mark
  pub parts : marks ≡ left ++ later
  pub is : IsRun fewer trail thin run
  pub done : map (rested_mark (weighed_of fewer records)) left ++ reverse back ≡ map (rested_mark (weighed_of fewer records)) marks
  pub spans : AreSpans fewer records thin (reverse back) (reverse ends)

pub thin-none : (records : Records) (fewer : ℕ → Bool) (trail : List TrailCell) (marks : List Mark) (thin : List TrailCell) (run : Run) (back : List Mark)
    (ends : List Span) → thin ≡ [] → IsRun fewer trail [] run → back ≡ [] → ends ≡ [] → AreThin records fewer trail marks marks thin run back ends
thin-none records fewer trail marks thin run back ends empty is none no_ends =
    let f = rested_mark (weighed_of fewer records) in
    record {
      later = [];
      parts = sym (append-nil marks);
      is = subst (λ cs. IsRun fewer trail cs run) (sym empty) is;
      done = ap (λ ms. map f marks ++ reverse ms) none ∙ append-nil (map f marks);
      spans = subst (λ ms. AreSpans fewer records thin (reverse ms) (reverse ends)) (sym none)
          (subst (λ ss. AreSpans fewer records thin [] (reverse ss)) (sym no_ends) tt);
    }

module _ (keep fewer : ℕ → Bool) (records : Records) (trail : List TrailCell) (marks left before : List Mark) (mark : Mark) (thin : List TrailCell) (run : Run)
    (back : List Mark) (ends : List Span) (are : AreThin records fewer trail marks left thin run back ends) (last_is : left ≡ before ++ mark ∷ []) where
  -- the last mark that is left is one of all, and a span tells of it
  pub thin-here : (P : Mark → Type 0) → AllByRecursion P marks → P mark
  thin-here P all =
      let front = each-left P left are.later (subst (AllByRecursion P) are.parts all) in
      (each-right P before (mark ∷ []) (subst (AllByRecursion P) last_is front)).0

  pub thin-at : (spans : List Span) (d : Span) → AreSpans keep records trail marks spans
      → (length before < length spans) × IsSpan keep records trail mark (get_or spans (length before) d)
  thin-at spans d all =
      let split = are.parts ∙ ap (λ ms. ms ++ are.later) last_is ∙ append_assoc before (mark ∷ []) are.later in
      span-at keep records trail before are.later mark spans d (subst (λ ms. AreSpans keep records trail ms spans) split all)

  pub thin-next : (less : (item : ℕ) → fewer item ≡ true → keep item ≡ true) (span own : Span) (one : Mark) (new : List TrailCell) (next : Run)
      (back' : List Mark) (ends' : List Span)
      → IsThin keep fewer records trail less mark span → IsRun fewer trail new next → next.low ≡ span.low → next.high ≡ span.high
      → ((more : List TrailCell) × (new ≡ thin ++ more)) → own.low ≡ next.start → own.high ≡ length new
      → one ≡ resting mark next.sum → back' ≡ back ++ one ∷ [] → ends' ≡ ends ++ own ∷ []
      → AreThin records fewer trail marks before new next back' ends'
  thin-next less span own one new next back' ends' is runs low high grows first last made pushed added =
      let f = rested_mark (weighed_of fewer records) in
      let copies = runs.cells ∙ (λ j. held fewer (stretch trail (low j) (high j))) ∙ is.cells in
      let past = held fewer (cells_past (record_at records mark.row) mark.place.element mark.place.cell) in
      let all : take (own.high - own.low) (drop own.low new) ≡ reverse past =
      (λ j. take (last j - first j) (drop (first j) new)) ∙ take_all (length new - next.start) (drop next.start new)
      (omega (arith, length-drop next.start new)) ∙ copies in
      let here : IsSpan fewer records new (resting mark next.sum) own = record {
        stands = record { ordered = omega (arith, first, last, runs.start); within = omega (arith, last) };
        cells = ap reverse all ∙ reverse-reverse past;
      } in
      let rests = made ∙ ap (resting mark) (runs.sum ∙ ap values_in (runs.cells ∙ (λ j. held fewer (stretch trail (low j) (high j)))) ∙ is.rest) in
      let own' : IsSpan fewer records new one own = subst (λ m. IsSpan fewer records new m own) (sym made) here in
      let old = subst (λ cs. AreSpans fewer records cs (reverse back) (reverse ends)) (sym grows.1)
      (spans-grown fewer records thin grows.0 (reverse back) (reverse ends) are.spans) in
      record {
        later = mark ∷ are.later;
        parts = are.parts ∙ ap (λ ms. ms ++ are.later) last_is ∙ append_assoc before (mark ∷ []) are.later;
        is = runs;
        done = ap (λ ms. map f before ++ reverse ms) pushed ∙ ap (λ ms. map f before ++ ms) (reverse-append back (one ∷ []))
            ∙ ap (λ m. map f before ++ m ∷ reverse back) rests
            ∙ sym (append_assoc (map f before) (f mark ∷ []) (reverse back))
            ∙ ap (λ ms. ms ++ reverse back) (sym (map-append f before (mark ∷ [])) ∙ sym (ap (map f) last_is)) ∙ are.done;
        spans = subst (λ ms. AreSpans fewer records new ms (reverse ends')) (sym (ap reverse pushed ∙ reverse-append back (one ∷ [])))
            (subst (λ ss. AreSpans fewer records new (one ∷ reverse back) ss) (sym (ap reverse added ∙ reverse-append ends (own ∷ []))) (own', old));
      }
