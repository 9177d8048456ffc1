-- What is told of marks, item by item.
use Rattle.std.proofs.Common.{◌≡◌, ◌≢◌, ℕ, zero, suc, ◌+◌, ◌<◌, ◌≤◌, ◌^◌, ◌&&◌, Bool, true, false, cond, eqb, ltb, ℤ, pos, ◌+ℤ◌, ◌≤ℤ◌, Option, None, Some}
use Rattle.std.proofs.Common.{IfSome, SomeIff, List, [], ◌∷◌, ◌++◌, length, get_or, set, refl, sym, ap, ◌∙◌, subst, ◌⊎◌, inl, inr, arith, length-append}
use Rattle.std.proofs.Common.{append-nil}
use Rattle.std.specs.List.{AllByRecursion}
use Rattle.std.proofs.lemmas.Bool.{eq-eqb, eqb-true, ne_eqb, lt-ltb, ltb-true, cases_eq}
use Rattle.std.proofs.lemmas.Int.{ints}
use Rattle.std.proofs.lemmas.List.{length-map, length-set, map-append, get_or-set_same, get_or-set_other, get_or_append_left}
use Rattle.std.proofs.lemmas.List.Elements.{filter-append}
use Rattle.hu_chain.specs.Bound.{IsFit}
use Rattle.hu_span.specs.declared.links.Links.{Links}
use Rattle.hu_span.specs.declared.mark.Mark.{Mark}
use Rattle.hu_span.specs.declared.tally.Tally.{Tally}
use Rattle.hu_span.specs.declared.tally.Told.{Told}
use Rattle.hu_span.specs.Child.{AreTold}
use Rattle.hu_span.specs.Cut.{at_row, is_last, spread, spread_after}
use Rattle.hu_span.specs.Links.{at, keys_of, AreLinks, IsAbsent, IsNumbered}
use Rattle.hu_span.specs.Mark.{is_of, marks_with, places_of}
use Rattle.hu_span.specs.Tally.{next_row, none_told, reaches_of, same_row, spread_more, told, told_from, told_with, IsTally, IsTold}
use Rattle.hu_span.proofs.LinkLemmas.{at-before, at-end}
use Rattle.hu_span.proofs.TallyLemmas.{reaches-most, rows-with, told-push, told_from-append, IsTally-none, IsTally-with}

-- ---- the sum over rows

-- a tally tells the last row
Agrees : Option ℕ → Tally → Type 0
Agrees last t = ((last ≡ None) × (t.rows ≡ 0)) ⊎ ((last ≡ Some t.row) × (0 < t.rows))

agrees-is : (last : Option ℕ) (t : Tally) (row : ℕ) → Agrees last t → is_last last row ≡ (ltb 0 t.rows && eqb t.row row)
unfolding Agrees
agrees-is last t row (inl none) = ap (λ l. is_last l row) none.0 ∙ sym (ap (λ n. ltb 0 n && eqb t.row row) none.1)
agrees-is last t row (inr some) = ap (λ l. is_last l row) some.0 ∙ ap (λ b. b && eqb t.row row) (sym (lt-ltb 0 t.rows some.1))

agrees-with : (t : Tally) (mark : Mark) → Agrees (Some mark.row) (told_with t mark)
unfolding Agrees
agrees-with t mark = by (ltb 0 t.rows) refl (eqb t.row mark.row) refl
  where
    by : (a : Bool) → ltb 0 t.rows ≡ a → (b : Bool) → eqb t.row mark.row ≡ b
        → ((Some mark.row ≡ None) × ((cond (a && b) (same_row t mark) (next_row t mark)).rows ≡ 0))
        ⊎ ((Some mark.row ≡ Some (cond (a && b) (same_row t mark) (next_row t mark)).row) × (0 < (cond (a && b) (same_row t mark) (next_row t mark)).rows))
    by true some true same = inr (ap (λ n. Some n) (sym (eqb-true t.row mark.row same)), ltb-true 0 t.rows some)
    by true some false same = inr (refl, omega arith)
    by false some b same = inr (refl, omega arith)

spread-after : (reaches : List ℤ) (last : Option ℕ) (t : Tally) (marks : List Mark) (mark : Mark) → Agrees last t
    → spread_after reaches last (marks ++ mark ∷ []) ≡ spread_after reaches last marks +ℤ spread_more reaches (told_from t marks) mark.row
spread-after reaches last t [] mark agrees =
    let same = ap (λ b. cond b (pos 0) (at_row reaches mark.row)) (agrees-is last t mark.row agrees) in
    omega (arith, ints, same)
spread-after reaches last t (x ∷ marks) mark agrees =
    let rest = spread-after reaches (Some x.row) (told_with t x) marks mark (agrees-with t x) in
    omega (arith, ints, rest)

pub spread-push : (reaches : List ℤ) (marks : List Mark) (mark : Mark)
    → spread reaches (marks ++ mark ∷ []) ≡ spread reaches marks +ℤ spread_more reaches (told marks) mark.row
unfolding Agrees
spread-push reaches marks mark = spread-after reaches None none_told marks mark (inl (refl, refl))

pub spread-first : (reaches : List ℤ) (t : Tally) (row : ℕ) → (0 < t.rows → t.row ≡ row → ⊥) → spread_more reaches t row ≡ at_row reaches row
spread-first reaches t row differs = by (ltb 0 t.rows) (eqb t.row row) refl refl
  where
    by : (a b : Bool) → ltb 0 t.rows ≡ a → eqb t.row row ≡ b → cond (a && b) (pos 0) (at_row reaches row) ≡ at_row reaches row
    by true true some same = absurd (differs (ltb-true 0 t.rows some) (eqb-true t.row row same))
    by true false some same = refl
    by false b some same = refl

pub spread-same : (reaches : List ℤ) (t : Tally) (row : ℕ) → 0 < t.rows → t.row ≡ row → spread_more reaches t row ≡ pos 0
spread-same reaches t row some same = (λ j. cond (lt-ltb 0 t.rows some j && eq-eqb t.row row same j) (pos 0) (at_row reaches row))

-- ---- tallies

pub told-rules : (marks : List Mark) → AllByRecursion IsFit (places_of marks) → IsTally (told marks)
told-rules marks fit = by none_told marks IsTally-none fit
  where
    by : (t : Tally) (ms : List Mark) → IsTally t → AllByRecursion IsFit (places_of ms) → IsTally (told_from t ms)
    by t [] is fit = is
    by t (m ∷ ms) is fit = by (told_with t m) ms (IsTally-with t m is fit.0) fit.1

pub told-rows : (marks : List Mark) → (told marks).rows ≤ length marks
told-rows marks = let all = by none_told marks in omega (arith, all)
  where
    by : (t : Tally) (ms : List Mark) → (told_from t ms).rows ≤ t.rows + length ms
    by t [] = omega arith
    by t (m ∷ ms) = let rest = by (told_with t m) ms in let one = rows-with t m in omega (arith, rest, one)

-- the tally of some marks reaches no further than with further ones
pub front-most : (front rest : List Mark) → AllByRecursion IsFit (places_of front) → AllByRecursion IsFit (places_of rest)
    → reaches_of (told front) ≤ℤ reaches_of (told (front ++ rest))
front-most front rest fit more =
    subst (λ (t : Tally). reaches_of (told front) ≤ℤ reaches_of t) (sym (told_from-append none_told front rest))
    (reaches-most (told front) rest (told-rules front fit) more)

-- ---- marks of items

pub with-push : (item : ℕ) (marks : List Mark) (mark : Mark) → item ≡ mark.item.0 → marks_with item (marks ++ mark ∷ []) ≡ marks_with item marks ++ mark ∷ []
with-push item marks mark same =
    filter-append (is_of item) marks (mark ∷ []) ∙ ap (λ b. marks_with item marks ++ cond b (mark ∷ []) []) (eq-eqb item mark.item.0 same)

pub with-other : (item : ℕ) (marks : List Mark) (mark : Mark) → item ≢ mark.item.0 → marks_with item (marks ++ mark ∷ []) ≡ marks_with item marks
with-other item marks mark differs =
    filter-append (is_of item) marks (mark ∷ []) ∙ ap (λ b. marks_with item marks ++ cond b (mark ∷ []) []) (ne_eqb item mark.item.0 differs)
    ∙ append-nil (marks_with item marks)

pub with-absent : (item : ℕ) (marks : List Mark) → IsAbsent (keys_of marks) item → marks_with item marks ≡ []
with-absent item [] absent = refl
with-absent item (mark ∷ marks) absent =
    let other = ne_eqb item mark.item.0 (λ e. absent 0 (omega arith) (sym e)) in
    ap (λ b. cond b (mark ∷ marks_with item marks) (marks_with item marks)) other
    ∙ with-absent item marks (λ place within. absent (suc place) (omega arith))

pub with-some : (item : ℕ) (marks : List Mark) (place : ℕ) → place < length marks → at (keys_of marks) place ≡ item → 0 < length (marks_with item marks)
with-some item [] place within here = absurd (omega (arith, within))
with-some item (mark ∷ marks) zero within here =
    let same = eq-eqb item mark.item.0 (sym here) in
    let n = ap (λ b. length (cond b (mark ∷ marks_with item marks) (marks_with item marks))) same in
    omega (arith, n)
with-some item (mark ∷ marks) (suc place) within here = by (eqb item mark.item.0) (with-some item marks place (omega arith) here)
  where
    by : (b : Bool) → 0 < length (marks_with item marks) → 0 < length (cond b (mark ∷ marks_with item marks) (marks_with item marks))
    by true rest = omega arith
    by false rest = rest

with-few : (item : ℕ) (marks : List Mark) → length (marks_with item marks) ≤ length marks
with-few item [] = omega arith
with-few item (mark ∷ marks) = by (is_of item mark) (with-few item marks)
  where
    by : (b : Bool) → length (marks_with item marks) ≤ length marks
        → length (cond b (mark ∷ marks_with item marks) (marks_with item marks)) ≤ suc (length marks)
    by true rest = omega arith
    by false rest = omega arith

-- ---- one mark more

keys-push : (marks : List Mark) (mark : Mark) → keys_of (marks ++ mark ∷ []) ≡ keys_of marks ++ mark.item.0 ∷ []
keys-push marks mark = map-append (λ (m : Mark). m.item.0) marks (mark ∷ [])

module _ (reaches : List ℤ) (old new : Links) (tells : List Told) (marks : List Mark) (mark : Mark) (is : AreTold reaches old tells marks)
    (links : AreLinks new (keys_of marks ++ mark.item.0 ∷ [])) where
  joined : AreLinks new (keys_of (marks ++ mark ∷ []))
  joined = subst (AreLinks new) (sym (keys-push marks mark)) links

  -- the tally of its item so far
  pub told-known : (number : ℕ) (d : Told) → number < length tells → at old.numbers.items.items number ≡ mark.item.0
      → IsTold reaches (marks_with mark.item.0 marks) (get_or tells number d)
  told-known number d within here = subst (λ item. IsTold reaches (marks_with item marks) (get_or tells number d)) here (is.each number d within)

  pub told-again : (number : ℕ) (one : Told) → number < length tells → new.numbers.items.items ≡ old.numbers.items.items
      → at old.numbers.items.items number ≡ mark.item.0 → IsTold reaches (marks_with mark.item.0 marks ++ mark ∷ []) one
      → AreTold reaches new (set tells number one) (marks ++ mark ∷ [])
  told-again number one within items here told = record {
    linked = joined;
    size = length-set tells number one ∙ is.size ∙ ap length (sym items);
    each = λ n d inside. subst (λ its. IsTold reaches (marks_with (at its n) (marks ++ mark ∷ [])) (get_or (set tells number one) n d)) (sym items)
        (turn n d (omega (arith, inside, length-set tells number one)));
  }
    where
      turn : (n : ℕ) (d : Told) → n < length tells
          → IsTold reaches (marks_with (at old.numbers.items.items n) (marks ++ mark ∷ [])) (get_or (set tells number one) n d)
      turn n d inside = elim (cases_eq n number) [
        | inl e ↦
            let item : at old.numbers.items.items n ≡ mark.item.0 = ap (at old.numbers.items.items) e ∙ here in
            let now : get_or (set tells number one) n d ≡ one = ap (λ k. get_or (set tells number one) k d) e ∙ get_or-set_same tells number one d within in
            let ms = ap (λ i. marks_with i (marks ++ mark ∷ [])) item ∙ with-push mark.item.0 marks mark refl in
            subst (λ xs. IsTold reaches xs (get_or (set tells number one) n d)) (sym ms)
            (subst (IsTold reaches (marks_with mark.item.0 marks ++ mark ∷ [])) (sym now) told)
        | inr ne ↦
            let now = get_or-set_other tells number n one d ne in
            let before = is.linked in
            let once = before.once n number (omega (arith, inside, is.size)) (omega (arith, within, is.size)) in
            let ms = with-other (at old.numbers.items.items n) marks mark (λ same. ne (once (same ∙ sym here))) in
            subst (λ xs. IsTold reaches xs (get_or (set tells number one) n d)) (sym ms)
            (subst (IsTold reaches (marks_with (at old.numbers.items.items n) marks)) (sym now) (is.each n d inside))
      ]

  pub told-new : (one : Told) → new.numbers.items.items ≡ old.numbers.items.items ++ mark.item.0 ∷ [] → IsAbsent old.numbers.items.items mark.item.0
      → IsTold reaches (mark ∷ []) one → AreTold reaches new (tells ++ one ∷ []) (marks ++ mark ∷ [])
  told-new one items absent told = record {
    linked = joined;
    size = omega (arith, length-append tells (one ∷ []), is.size, ap length items, length-append old.numbers.items.items (mark.item.0 ∷ []));
    each = λ n d inside. subst (λ its. IsTold reaches (marks_with (at its n) (marks ++ mark ∷ [])) (get_or (tells ++ one ∷ []) n d)) (sym items)
        (turn n d (omega (arith, inside, length-append tells (one ∷ []))));
  }
    where
      last : (ts : List Told) (d : Told) → get_or (ts ++ one ∷ []) (length ts) d ≡ one
      last [] d = refl
      last (t ∷ ts) d = last ts d

      none : marks_with mark.item.0 marks ≡ []
      none = let before = is.linked in with-absent mark.item.0 marks (before.known mark.item.0 absent)

      turn : (n : ℕ) (d : Told) → n < length tells + 1
          → IsTold reaches (marks_with (at (old.numbers.items.items ++ mark.item.0 ∷ []) n) (marks ++ mark ∷ [])) (get_or (tells ++ one ∷ []) n d)
      turn n d inside = elim (cases_eq n (length tells)) [
        | inl e ↦
            let item : at (old.numbers.items.items ++ mark.item.0 ∷ []) n ≡ mark.item.0 =
            ap (at (old.numbers.items.items ++ mark.item.0 ∷ [])) (e ∙ is.size) ∙ at-end old.numbers.items.items mark.item.0 in
            let now : get_or (tells ++ one ∷ []) n d ≡ one = ap (λ k. get_or (tells ++ one ∷ []) k d) e ∙ last tells d in
            let ms = ap (λ i. marks_with i (marks ++ mark ∷ [])) item ∙ with-push mark.item.0 marks mark refl ∙ ap (λ xs. xs ++ mark ∷ []) none in
            subst (λ xs. IsTold reaches xs (get_or (tells ++ one ∷ []) n d)) (sym ms) (subst (IsTold reaches (mark ∷ [])) (sym now) told)
        | inr ne ↦
            let low : n < length tells = omega (arith, inside, ne) in
            let item = at-before old.numbers.items.items mark.item.0 n (omega (arith, low, is.size)) in
            let now = get_or_append_left tells (one ∷ []) d n low in
            let ms = ap (λ i. marks_with i (marks ++ mark ∷ [])) item ∙ with-other (at old.numbers.items.items n) marks mark
            (λ same. absent n (omega (arith, low, is.size)) same) in
            subst (λ xs. IsTold reaches xs (get_or (tells ++ one ∷ []) n d)) (sym ms)
            (subst (IsTold reaches (marks_with (at old.numbers.items.items n) marks)) (sym now) (is.each n d low))
      ]

-- what is told with a mark more
pub told-more : (reaches : List ℤ) (marks : List Mark) (mark : Mark) (what one : Told) → IsTold reaches marks what → one.tally ≡ told_with what.tally mark
    → IfSome one.spread (λ sum. (before : ℤ) × (what.spread ≡ Some before) × (sum ≡ before +ℤ spread_more reaches what.tally mark.row))
    → IsTold reaches (marks ++ mark ∷ []) one
told-more reaches marks mark what one is tally sum = record {
  tally = tally ∙ ap (λ t. told_with t mark) is.tally ∙ sym (told-push none_told marks mark);
  spread = by one.spread sum;
}
  where
    by : (o : Option ℤ) → IfSome o (λ sum. (before : ℤ) × (what.spread ≡ Some before) × (sum ≡ before +ℤ spread_more reaches what.tally mark.row))
        → IfSome o (λ sum. sum ≡ spread reaches (marks ++ mark ∷ []))
    by None h = tt
    by (Some s) h =
        let before : h.0 ≡ spread reaches marks = subst (λ o. IfSome o (λ sum. sum ≡ spread reaches marks)) h.1 is.spread in
        let more = ap (λ (t : Tally). spread_more reaches t mark.row) is.tally in
        let next = spread-push reaches marks mark in
        omega (arith, ints, before, more, next, h.2)

-- the sum with a row more
pub sum-some : (o spread : Option ℤ) (P : Type 0) (v before more : ℤ) → SomeIff o P v → spread ≡ Some before → v ≡ before +ℤ more
    → IfSome o (λ sum. (b : ℤ) × (spread ≡ Some b) × (sum ≡ b +ℤ more))
sum-some None spread P v before more is same value = tt
sum-some (Some s) spread P v before more is same value = (before, same, is.1 ∙ value)

module _ (reaches : List ℤ) (old new : Links) (tells : List Told) (marks : List Mark) (mark : Mark) (is : AreTold reaches old tells marks)
    (links : (keys : List ℕ) → AreLinks old keys → AreLinks new (keys ++ mark.item.0 ∷ [])) (number : ℕ)
    (numbered : IsNumbered old.numbers.items.items new.numbers.items.items mark.item.0 number) where
  rules : AreLinks new (keys_of marks ++ mark.item.0 ∷ [])
  rules = links (keys_of marks) is.linked

  -- the marks of its item so far
  pub tell-known : number < length tells → (d : Told) → IsTold reaches (marks_with mark.item.0 marks) (get_or tells number d)
  tell-known within d = elim numbered.grows [
    | inl same ↦
        let num = numbered.is in
        told-known reaches old new tells marks mark is rules number d within (ap (λ its. at its number) (sym same.0) ∙ num.here)
    | inr grown ↦ absurd (let n = grown.1 in omega (arith, within, n, is.size))
  ]

  -- their rows are fewer than the marks that are linked
  pub tell-rows : number < length tells → (d : Told) → length new.olders.items < 2 ^ 64 → (get_or tells number d).tally.rows + 1 < 2 ^ 64
  tell-rows within d few =
      let known = tell-known within d in
      let same = ap (λ (t : Tally). t.rows) known.tally in
      let rows = told-rows (marks_with mark.item.0 marks) in
      let own = with-few mark.item.0 marks in
      let linked = rules.linked in
      let size = linked.size in
      let keys = length-append (keys_of marks) (mark.item.0 ∷ []) in
      let all = length-map marks (λ (m : Mark). m.item.0) in
      omega (arith, same, rows, own, size, keys, all, few)

  pub tell-again : number < length tells → (one : Told) → IsTold reaches (marks_with mark.item.0 marks ++ mark ∷ []) one
      → AreTold reaches new (set tells number one) (marks ++ mark ∷ [])
  tell-again within one told = elim numbered.grows [
    | inl same ↦
        let num = numbered.is in
        told-again reaches old new tells marks mark is rules number one within same.0 (ap (λ its. at its number) (sym same.0) ∙ num.here) told
    | inr grown ↦ absurd (let n = grown.1 in omega (arith, within, n, is.size))
  ]

  pub tell-new : length tells ≤ number → (one : Told) → IsTold reaches (mark ∷ []) one → AreTold reaches new (tells ++ one ∷ []) (marks ++ mark ∷ [])
  tell-new past one told = elim numbered.grows [
    | inl same ↦ absurd (let n = same.1 in omega (arith, past, n, is.size))
    | inr grown ↦ told-new reaches old new tells marks mark is rules one grown.0 grown.2 told
  ]
