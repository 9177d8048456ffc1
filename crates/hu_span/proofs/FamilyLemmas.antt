-- The children of a kind of growth, by what is told of marks item by item.
use Rattle.std.proofs.Common.{◌≡◌, ℕ, zero, suc, ◌+◌, ◌-◌, ◌<◌, ◌≤◌, Bool, true, ℤ, List, [], ◌∷◌, ◌++◌, length, get_or, take, drop, append_assoc}
use Rattle.std.proofs.Common.{length-append, refl, sym, ap, ◌∙◌, subst, ◌⊎◌, inl, inr, arith}
use Rattle.std.specs.List.{AllByRecursion}
use Rattle.std.proofs.lemmas.Bool.{cases_eq}
use Rattle.std.proofs.lemmas.Int.{ints}
use Rattle.std.proofs.lemmas.List.{length-map, map-append, get_or-map, get_or_append_left, take-append-le}
use Rattle.std.proofs.lemmas.List.Elements.{Contains-append_left, Contains-push, filter-append}
use Rattle.hu_kind.specs.declared.item.Item.{Item}
use Rattle.hu_kind.specs.Sequence.{sequence_support}
use Rattle.hu_kind.proofs.lemmas.Each.{each-left, each-push, each-right}
use Rattle.hu_kind.proofs.lemmas.Members.{Member-get}
use Rattle.hu_chain.specs.declared.chain.Growth.{Growth}
use Rattle.hu_chain.specs.Bound.{IsFit}
use Rattle.hu_chain.specs.Grown.{grown}
use Rattle.hu_span.specs.declared.child.Child.{Child}
use Rattle.hu_span.specs.declared.links.Links.{Links}
use Rattle.hu_span.specs.declared.mark.Mark.{Mark}
use Rattle.hu_span.specs.declared.step.Step.{Step}
use Rattle.hu_span.specs.declared.tally.Told.{Told}
use Rattle.hu_span.specs.Child.{AreLasting, ArePlaces, AreTold, HasStep, IsChild, IsGathered, IsLast, IsStep, MayTell, MayTellEach}
use Rattle.hu_span.specs.Branch.{HasPlaces}
use Rattle.hu_span.specs.Gather.{MayTake, IsGrowth}
use Rattle.hu_span.specs.Growing.{Records}
use Rattle.hu_span.specs.Links.{at, keys_of, AreLinks, IsAbsent, IsBack}
use Rattle.hu_span.specs.Mark.{is_of, marks_with, places_of}
use Rattle.hu_span.specs.Tally.{reaches_of, told}
use Rattle.hu_span.proofs.ChildLemmas.{marks-gathered, places-gathered, step-fits, step-gathered, step-reaches}
use Rattle.hu_span.proofs.TallyLemmas.{fit-at}
use Rattle.hu_span.proofs.ToldLemmas.{front-most, told-rules, with-absent}

-- what stands past a front, and the front with some of it
get-past : {A : Type 0} (front more rest : List A) (n i : ℕ) (d : A) → n ≡ length front + i → i < length more
    → get_or (front ++ (more ++ rest)) n d ≡ get_or more i d
get-past [] more rest n i d is low = ap (λ k. get_or (more ++ rest) k d) (omega (arith, is)) ∙ get_or_append_left more rest d i low
get-past (x ∷ front) more rest zero i d is low = absurd (omega (arith, is))
get-past (x ∷ front) more rest (suc n) i d is low = get-past front more rest n i d (omega (arith, is)) low

take-past : {A : Type 0} (front more rest : List A) (n i : ℕ) → n ≡ length front + i → i ≤ length more
    → take n (front ++ (more ++ rest)) ≡ front ++ take i more
take-past [] more rest n i is low = ap (λ k. take k (more ++ rest)) (omega (arith, is)) ∙ take-append-le i more rest low
take-past (x ∷ front) more rest zero i is low = absurd (omega (arith, is))
take-past (x ∷ front) more rest (suc n) i is low = ap (λ ys. x ∷ ys) (take-past front more rest n i (omega (arith, is)) low)

split-at : {A : Type 0} (i : ℕ) (xs : List A) → take i xs ++ drop i xs ≡ xs
split-at zero xs = refl
split-at (suc i) [] = refl
split-at (suc i) (x ∷ xs) = ap (λ ys. x ∷ ys) (split-at i xs)

-- a number of an item, or it is absent
pub sought : (items : List ℕ) (item : ℕ) → IsAbsent items item ⊎ ((n : ℕ) × (n < length items) × (at items n ≡ item))
sought [] item = inl (λ place within. absurd (omega (arith, within)))
sought (x ∷ items) item = elim (cases_eq x item) [
  | inl e ↦ inr (0, omega arith, e)
  | inr ne ↦ elim (sought items item) [
    | inr found ↦ inr (suc found.0, let low = found.1 in omega (arith, low), found.2)
    | inl absent ↦ inl (none absent ne)
  ]
]
  where
    none : IsAbsent items item → (x ≡ item → ⊥) → IsAbsent (x ∷ items) item
    none absent ne zero within e = ne e
    none absent ne (suc place) within e = absent place (omega arith) e

pub told-first : (reaches : List ℤ) (links : Links) (tells : List Told) → AreLinks links [] → links.numbers.items.items ≡ [] → tells ≡ []
    → AreTold reaches links tells []
told-first reaches links tells is none no_tells = record {
  linked = is;
  size = ap length no_tells ∙ ap length (sym none);
  each = λ n d within. absurd (let size = ap length no_tells in omega (arith, within, size));
}

module _ (records : Records) (keep : ℕ → Bool) (pattern : List (List ℕ)) (growth : Growth) (marks : List Mark)
    (from : IsGathered records keep pattern growth marks) where
  -- what may be told of a mark after those in front of it
  pub may-tell : (i : ℕ) (d : Mark) → i < length marks → MayTell (get_or marks i d) (take i marks)
  may-tell i d within =
      let mark = get_or marks i d in
      let item = mark.item.0 in
      let step : Step = record { growth = growth; item = mark.item } in
      let all = marks_with item marks in
      let is = step-gathered records keep pattern growth marks from mark (Member-get marks i d within) all refl in
      let front = marks_with item (take i marks) in
      let rest = marks_with item (drop i marks) in
      let split : front ++ rest ≡ all = sym (filter-append (is_of item) (take i marks) (drop i marks)) ∙ ap (marks_with item) (split-at i marks) in
      let fit = step-fits records keep pattern step all is in
      let places = map-append (λ (m : Mark). m.place) front rest in
      let both : AllByRecursion IsFit (places_of front ++ places_of rest) = subst (AllByRecursion IsFit) places (subst (λ ms. AllByRecursion IsFit
      (places_of ms))
      (sym split) fit) in
      let fit_front = each-left IsFit (places_of front) (places_of rest) both in
      let fit_rest = each-right IsFit (places_of front) (places_of rest) both in
      let most = front-most front rest fit_front fit_rest in
      let same = ap (λ ms. reaches_of (told ms)) split in
      let high = step-reaches records keep pattern step all is in
      let grows = from.grown in
      let one = fit-at marks i d (each-fit marks grows.each) within in
      record {
        fit = one;
        tally = told-rules front fit_front;
        fits = omega (arith, ints, most, same, high);
      }
    where
      each-fit : (ms : List Mark) → AllByRecursion (IsGrowth keep growth pattern) ms → AllByRecursion IsFit (places_of ms)
      each-fit [] all = tt
      each-fit (m ∷ ms) all = let first = all.0 in (first.fit, each-fit ms all.1)

  -- and of some of them that stand side by side
  pub may-tell-each : (front more rest : List Mark) → marks ≡ (front ++ more) ++ rest → MayTellEach front more
  may-tell-each front more rest split i d within =
      let n = length front + i in
      let whole = split ∙ append_assoc front more rest in
      let size = ap length split in
      let place : n < length marks = omega (arith, size, length-append (front ++ more) rest, length-append front more, within) in
      let one : get_or marks n d ≡ get_or more i d = ap (λ ms. get_or ms n d) whole ∙ get-past front more rest n i d refl within in
      let before : take n marks ≡ front ++ take i more = ap (take n) whole ∙ take-past front more rest n i refl (omega (arith, within)) in
      subst (λ ms. MayTell (get_or more i d) ms) before (subst (λ m. MayTell m (take n marks)) one (may-tell n d place))

  module _ (reaches : List ℤ) (links : Links) (tells : List Told) (told : AreTold reaches links tells marks) where
    -- the step of a number
    pub step-told : (n : ℕ) (d : Mark) → n < length tells
        → IsStep records keep pattern (record { growth = growth; item = record { 0 = at links.numbers.items.items n } })
        (marks_with (at links.numbers.items.items n) marks)
    step-told n d within =
        let linked = told.linked in
        let number : n < length links.numbers.items.items = omega (arith, within, told.size) in
        let back = linked.lasts n number in
        let some = linked.some n number in
        let size = length-map marks (λ (m : Mark). m.item.0) in
        let place : at links.lasts.items n - 1 < length marks = omega (arith, some, back.within, size) in
        let mark = get_or marks (at links.lasts.items n - 1) d in
        let item : mark.item.0 ≡ at links.numbers.items.items n =
        sym (get_or-map (λ (m : Mark). m.item.0) marks (at links.lasts.items n - 1) d 0 place) ∙ back.here some in
        let is = step-gathered records keep pattern growth marks from mark (Member-get marks (at links.lasts.items n - 1) d place)
        (marks_with mark.item.0 marks) refl in
        let P : Item → Type 0 = λ i. IsStep records keep pattern (record { growth = growth; item = i }) (marks_with i.0 marks) in
        let same : mark.item ≡ record { 0 = at links.numbers.items.items n } = (λ j. record { 0 = item j }) in
        subst P same is

    -- each item by which the pattern grows has one
    pub number-told : (item : ℕ) → keep item ≡ true → MayTake growth pattern item → 0 < sequence_support records (grown growth pattern item)
        → (n : ℕ) × (n < length tells) × (at links.numbers.items.items n ≡ item)
    number-told item kept may held =
        let linked = told.linked in
        elim (sought links.numbers.items.items item) [
          | inr found ↦ (found.0, let low = found.1 in omega (arith, low, told.size), found.2)
          | inl absent ↦
              let none = ap length (with-absent item marks (linked.known item absent)) in
              let some = marks-gathered records keep pattern growth marks from item kept may held in
              absurd (omega (arith, none, some))
        ]

pub has-push : (children : List Child) (child : Child) (growth : Growth) (item : ℕ) → HasStep children growth item
    → HasStep (children ++ child ∷ []) growth item
has-push children child growth item has = (has.0, Contains-append_left children (child ∷ []) has.0 has.1, has.2, has.3)

pub has-here : (children : List Child) (child : Child) (growth : Growth) (item : ℕ) → child.step.growth ≡ growth → child.step.item.0 ≡ item
    → HasStep (children ++ child ∷ []) growth item
has-here children child growth item g i = (child, Contains-push children child, g, i)

pub lasting-push : (growth : Growth) (marks : List Mark) (children : List Child) (child : Child) → AreLasting growth marks children
    → child.step.growth ≡ growth → IsLast marks child → AreLasting growth marks (children ++ child ∷ [])
lasting-push growth marks children child is g last = record {
  growths = each-push (λ (c : Child). c.step.growth ≡ growth) children child is.growths g;
  lasts = each-push (IsLast marks) children child is.lasts last;
}

-- one more child is told
pub last-told : (reaches : List ℤ) (links : Links) (tells : List Told) (marks : List Mark) (child : Child) (n : ℕ) → AreTold reaches links tells marks
    → n < length tells → child.step.item.0 ≡ at links.numbers.items.items n → child.last ≡ at links.lasts.items n → IsLast marks child
last-told reaches links tells marks child n told within item last =
    let linked = told.linked in
    let keys = keys_of marks in
    let size = length-map marks (λ (m : Mark). m.item.0) in
    let back = linked.lasts n (omega (arith, within, told.size)) in
    subst (λ k. IsBack keys k child.last (length marks)) (sym item)
    (subst (λ u. IsBack keys (at links.numbers.items.items n) u (length marks)) (sym last)
    (subst (IsBack keys (at links.numbers.items.items n) (at links.lasts.items n)) size back))

-- the marks of children are their places
pub places-told : (records : Records) (keep : ℕ → Bool) (pattern : List (List ℕ)) (growth : Growth) (marks : List Mark)
    → IsGathered records keep pattern growth marks → (children : List Child) → AllByRecursion (IsChild records keep pattern) children
    → AllByRecursion (λ child. child.step.growth ≡ growth) children → AllByRecursion (HasPlaces records pattern marks) children
places-told records keep pattern growth marks from [] are growths = tt
places-told records keep pattern growth marks from (child ∷ children) are growths =
    let is = are.0 in
    let same = growths.0 in
    let item = child.step.item.0 in
    let may : MayTake growth pattern item = subst (λ g. MayTake g pattern item) same is.may in
    let here = places-gathered records keep pattern growth marks from item is.kept may in (
      subst (λ g. ArePlaces records (grown g pattern item) item (marks_with item marks)) (sym same) here,
      places-told records keep pattern growth marks from children are.1 growths.1,
    )
