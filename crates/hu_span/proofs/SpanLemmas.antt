-- Where the cells behind marks stand in a trail.
use Rattle.std.proofs.Common.{◌≡◌, ◌⊎◌, inl, inr, ℕ, zero, suc, ◌+◌, ◌-◌, ◌<◌, ◌≤◌, Bool, true, false, cond, eqb, ℤ, ◌-ℤ◌, List, [], ◌∷◌, ◌++◌, length}
use Rattle.std.proofs.Common.{drop, take}
use Rattle.std.proofs.Common.{reverse, refl, sym, ap, ◌∙◌, subst, arith, get_or, append_assoc, append-nil, length-append, length-drop}
use Rattle.std.proofs.lemmas.List.{length-reverse, length-take, reverse-append, reverse-reverse}
use Rattle.hu_chain.specs.declared.place.Place.{Place}
use Rattle.hu_span.specs.declared.mark.Mark.{Mark}
use Rattle.hu_span.specs.declared.child.Branch.{Branch}
use Rattle.hu_span.specs.declared.trail.Held.{Held}
use Rattle.hu_span.specs.declared.trail.Span.{Span}
use Rattle.hu_span.specs.declared.trail.TrailCell.{TrailCell}
use Rattle.hu_span.specs.Branch.{IsPart}
use Rattle.hu_span.specs.Growing.{Records}
use Rattle.hu_span.specs.Links.{keys_of, picked}
use Rattle.hu_span.specs.Mark.{marks_with, record_at}
use Rattle.hu_span.specs.Trail.{behind_element, best_before, cells_at, in_element, left_before, mark_of, trail_beside, trail_later, trail_marks, trail_spans}
use Rattle.hu_span.specs.Trail.{AreSpans, IsSpan, IsWithin}
use Rattle.hu_span.proofs.TrailLemmas.{element-parts, followed-behind, followed-past, AreFollowed}

take-front : {A : Type 0} (xs ys : List A) → take (length xs) (xs ++ ys) ≡ xs
take-front [] ys = refl
take-front (x ∷ xs) ys = ap (λ zs. x ∷ zs) (take-front xs ys)

pub take-upto : {A : Type 0} (n k : ℕ) (xs : List A) → n ≤ k → take n (take k xs) ≡ take n xs
take-upto zero k xs low = refl
take-upto (suc n) zero xs low = absurd (omega arith)
take-upto (suc n) (suc k) [] low = refl
take-upto (suc n) (suc k) (x ∷ xs) low = ap (λ zs. x ∷ zs) (take-upto n k xs (omega arith))

length-upto : {A : Type 0} (n : ℕ) (xs : List A) → length (take n xs) ≤ n
length-upto zero xs = omega arith
length-upto (suc n) [] = omega arith
length-upto (suc n) (x ∷ xs) = let rest = length-upto n xs in omega arith

-- the cells at the end of those at a span stand at a smaller one
pub shorter : (trail : List TrailCell) (span : Span) (front more : List TrailCell) → IsWithin trail span → cells_at trail span ≡ front ++ more
    → IsWithin trail (record { low = span.low; high = span.low + length more })
    × (cells_at trail (record { low = span.low; high = span.low + length more }) ≡ more)
shorter trail span front more stands is =
    let size = span.high - span.low in
    let whole = drop span.low trail in
    let cells = take size whole in
    let back : cells ≡ reverse more ++ reverse front = sym (reverse-reverse cells) ∙ ap reverse is ∙ reverse-append front more in
    let len = ap length back in
    let parts = length-append (reverse more) (reverse front) in
    let same = length-reverse more in
    let upto = length-upto size whole in
    let few : length more ≤ size = omega (arith, len, parts, same, upto) in
    let n : (span.low + length more) - span.low ≡ length (reverse more) = omega (arith, same) in
    let here : take ((span.low + length more) - span.low) whole ≡ reverse more =
    ap (λ k. take k whole) n ∙ sym (take-upto (length (reverse more)) size whole (omega (arith, few, same)))
    ∙ ap (take (length (reverse more))) back ∙ take-front (reverse more) (reverse front) in
    (record { ordered = omega arith; within = omega (arith, stands.ordered, stands.within, few) }, ap reverse here ∙ reverse-reverse more)

module _ (keep : ℕ → Bool) (records : Records) (trail : List TrailCell) where
  -- those behind each of the cells at a span
  pub spans-walked : (row low : ℕ) (span : Span) (front cells more : List TrailCell) (best ahead : ℤ) (places : List Place)
      → IsWithin trail span → span.low ≡ low → cells_at trail span ≡ front ++ (cells ++ more) → AreFollowed keep (record_at records row) (cells ++ more)
      → AreSpans keep records trail (trail_marks row best ahead places cells) (trail_spans low (length more) cells)
  spans-walked row low span front [] more best ahead places stands starts at are = tt
  spans-walked row low span front (cell ∷ cells) more best ahead places stands starts at are =
      let next = at ∙ sym (append_assoc front (cell ∷ []) (cells ++ more)) in
      let shorter' = shorter trail span (front ++ cell ∷ []) (cells ++ more) stands next in
      let own : Span = record { low = span.low; high = span.low + length (cells ++ more) } in
      let own' : Span = record { low = low; high = low + (length cells + length more) } in
      let same : own ≡ own' = (λ j. record { low = starts j; high = starts j + length-append cells more j }) in
      let is : IsSpan keep records trail (mark_at cell (best_before cell.element best places)) own = record {
        stands = shorter'.0;
        cells = shorter'.1 ∙ are.0;
      } in (
        subst (IsSpan keep records trail (mark_at cell (best_before cell.element best places))) same is,
        spans-walked row low span (front ++ cell ∷ []) cells more (best_before cell.element best places) (ahead -ℤ cell.value)
            (left_before cell.element places) stands starts next are.1,
      )
    where
      mark_at : TrailCell → ℤ → Mark
      mark_at cell best = mark_of row best ahead cell

  -- beside a mark, and behind its element
  module _ (mark : Mark) (span : Span) (is : IsSpan keep records trail mark span) where
    abbrev cells : List TrailCell
    cells = cells_at trail span

    abbrev e : ℕ
    e = mark.place.element

    followed : AreFollowed keep (record_at records mark.row) cells
    followed = subst (AreFollowed keep (record_at records mark.row)) (sym is.cells)
        (followed-past keep (record_at records mark.row) mark.place.element mark.place.cell)

    parts : cells ≡ in_element e cells ++ behind_element e cells
    parts = sym (element-parts e cells)

    pub spans-beside : AreSpans keep records trail (trail_beside mark.row mark.place cells)
        (trail_spans span.low (length (behind_element e cells)) (in_element e cells))
    spans-beside =
        spans-walked mark.row span.low span [] (in_element e cells) (behind_element e cells) mark.place.best mark.place.rest [] is.stands refl parts
        (subst (AreFollowed keep (record_at records mark.row)) parts followed)

    pub spans-later : (places : List Place) → AreSpans keep records trail (trail_later mark.row (mark.place ∷ places) cells)
        (trail_spans span.low 0 (behind_element e cells))
    spans-later places =
        let own = in_element e cells in
        let others = behind_element e cells in
        let all = parts ∙ ap (λ cs. own ++ cs) (sym (append-nil others)) in
        let are = followed-behind keep (record_at records mark.row) own (others ++ [])
        (subst (AreFollowed keep (record_at records mark.row)) all followed) in
        spans-walked mark.row span.low span own others [] mark.place.best _ places is.stands refl all are

  pub spans-append : (marks more : List Mark) (spans others : List Span) → AreSpans keep records trail marks spans → AreSpans keep records trail more others
      → AreSpans keep records trail (marks ++ more) (spans ++ others)
  spans-append [] more [] others are also = also
  spans-append [] more (span ∷ spans) others are also = absurd are
  spans-append (mark ∷ marks) more [] others are also = absurd are
  spans-append (mark ∷ marks) more (span ∷ spans) others are also = (are.0, spans-append marks more spans others are.1 also)

  pub spans-length : (marks : List Mark) (spans : List Span) → AreSpans keep records trail marks spans → length spans ≡ length marks
  spans-length [] [] are = refl
  spans-length [] (span ∷ spans) are = absurd are
  spans-length (mark ∷ marks) [] are = absurd are
  spans-length (mark ∷ marks) (span ∷ spans) are = let rest = spans-length marks spans are.1 in omega (arith, rest)

  -- those of an item
  pub spans-with : (item : ℕ) (marks : List Mark) (spans : List Span) → AreSpans keep records trail marks spans
      → AreSpans keep records trail (marks_with item marks) (picked item (keys_of marks) spans)
  spans-with item [] spans are = tt
  spans-with item (mark ∷ marks) [] are = absurd are
  spans-with item (mark ∷ marks) (span ∷ spans) are = by (eqb item mark.item.0) (spans-with item marks spans are.1)
    where
      by : (b : Bool) → AreSpans keep records trail (marks_with item marks) (picked item (keys_of marks) spans)
          → AreSpans keep records trail (cond b (mark ∷ marks_with item marks) (marks_with item marks))
          (cond b (span ∷ picked item (keys_of marks) spans) (picked item (keys_of marks) spans))
      by true rest = (are.0, rest)
      by false rest = rest

-- those of a branch
pub part-spans : (keep : ℕ → Bool) (records : Records) (trail : List TrailCell) (into after : Held) (branch : Branch)
    → AreSpans keep records trail into.marks.items into.spans.items → AreSpans keep records trail after.marks.items after.spans.items
    → IsPart into branch ⊎ IsPart after branch → AreSpans keep records trail branch.held.marks.items branch.held.spans.items
part-spans keep records trail into after branch one two is = elim is [ inl part ↦ of_part into one part | inr part ↦ of_part after two part ]
  where
    of_part : (held : Held) → AreSpans keep records trail held.marks.items held.spans.items → IsPart held branch
        → AreSpans keep records trail branch.held.marks.items branch.held.spans.items
    of_part held are part =
        subst (λ ms. AreSpans keep records trail ms branch.held.spans.items) (sym part.marks)
        (subst (AreSpans keep records trail (marks_with part.item held.marks.items)) (sym part.spans)
        (spans-with keep records trail part.item held.marks.items held.spans.items are))

-- that of a mark, by its place
pub span-get : (keep : ℕ → Bool) (records : Records) (trail : List TrailCell) (marks : List Mark) (spans : List Span) (i : ℕ) (m : Mark) (s : Span)
    → AreSpans keep records trail marks spans → i < length marks
    → (i < length spans) × IsSpan keep records trail (get_or marks i m) (get_or spans i s)
span-get keep records trail [] spans i m s are within = absurd (omega arith)
span-get keep records trail (mark ∷ marks) [] i m s are within = absurd are
span-get keep records trail (mark ∷ marks) (span ∷ spans) zero m s are within = (omega arith, are.0)
span-get keep records trail (mark ∷ marks) (span ∷ spans) (suc i) m s are within =
    let rest = span-get keep records trail marks spans i m s are.1 (omega arith) in
    (omega (arith, rest.0), rest.1)

-- how many cells stand at a span
pub span-size : (trail : List TrailCell) (span : Span) (cells : List TrailCell) → IsWithin trail span → reverse cells ≡ cells_at trail span
    → span.low + length cells ≡ span.high
span-size trail span cells is same =
    let own = take (span.high - span.low) (drop span.low trail) in
    let size = sym (length-reverse cells) ∙ ap length same ∙ length-reverse own ∙ length-take (span.high - span.low) (drop span.low trail) in
    let rest = length-drop span.low trail in
    omega (arith, size, rest, is.ordered, is.within)

-- ---- one more of what is pushed

pub pushed-next : {A : Type 0} (old new whole rest : List A) (x : A) → new ≡ old ++ x ∷ [] → old ++ x ∷ rest ≡ whole → new ++ rest ≡ whole
pushed-next old new whole rest x pushed is = ap (λ ms. ms ++ rest) pushed ∙ append_assoc old (x ∷ []) rest ∙ is

pub last-first : {A : Type 0} (xs before : List A) (x : A) → xs ≡ before ++ x ∷ [] → reverse xs ≡ x ∷ reverse before
last-first xs before x is = ap reverse is ∙ reverse-append before (x ∷ [])
