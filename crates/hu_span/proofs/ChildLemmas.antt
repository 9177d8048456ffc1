-- Children, by what is told of their marks.
use Rattle.std.proofs.Common.{◌≡◌, ℕ, suc, ◌+◌, ◌<◌, ◌^◌, Bool, true, ℤ, pos, ◌≤ℤ◌, ◌<ℤ◌, Option, None, Some}
use Rattle.std.proofs.Common.{List, [], ◌∷◌, ◌++◌, map, length, refl, sym, ap, ◌∙◌, subst, arith, append_assoc}
use Rattle.std.proofs.Common.{length-append}
use Rattle.std.specs.List.{AllByRecursion}
use Rattle.std.proofs.lemmas.Bool.{eq-eqb}
use Rattle.std.proofs.lemmas.Int.{ints}
use Rattle.std.proofs.lemmas.List.{map-append}
use Rattle.hu_kind.specs.Sequence.{best_utility, better, sequence_support, sequence_utility}
use Rattle.hu_kind.proofs.lemmas.Members.{Member, Contains-from_member, Member-append_left, Member-append_right, Member-filter, Member-from_contains}
use Rattle.hu_kind.proofs.lemmas.Occurring.{at_member}
use Rattle.hu_kind.proofs.lemmas.Each.{each-append, each-left, each-right}
use Rattle.hu_chain.specs.declared.chain.Growth.{Growth}
use Rattle.hu_chain.specs.declared.chain.Growth.TheVariants.{IntoLast, AfterLast}
use Rattle.hu_chain.specs.declared.place.Place.{Place}
use Rattle.hu_chain.specs.Bound.{best_of, IsFit}
use Rattle.hu_chain.specs.Grown.{grown, IsGrownFrom}
use Rattle.hu_chain.specs.Pattern.{last_item, Ends}
use Rattle.hu_chain.specs.Place.{chain_of}
use Rattle.hu_chain.specs.Search.{IsPlaceOf}
use Rattle.hu_chain.proofs.lemmas.Gathered.{best_of-chain}
use Rattle.hu_chain.proofs.lemmas.Growing.{chain_of-rules}
use Rattle.hu_chain.proofs.lemmas.Patterns.{last_item-grown, Ends-grown}
use Rattle.hu_span.specs.declared.child.Child.{Child}
use Rattle.hu_span.specs.declared.mark.Mark.{Mark}
use Rattle.hu_span.specs.declared.step.Step.{Step}
use Rattle.std.proofs.Common.{IfSome}
use Rattle.hu_span.specs.Child.{stepped, AreChildren, AreChildrenBy, ArePlaces, HasStep, IsChild, IsGathered, IsSpread, IsStep}
use Rattle.hu_span.specs.Cut.{spread}
use Rattle.hu_span.specs.Gather.{IsGrowth, MayTake}
use Rattle.hu_span.specs.Growing.{IsReached, Records}
use Rattle.hu_span.specs.Mark.{is_of, mark_at, marks_from, marks_of, marks_with, places_of, record_at, IsMark}
use Rattle.hu_span.specs.Tally.{bests_of, count_of, none_told, reaches_of, told}
use Rattle.hu_span.proofs.MarkLemmas.{each-filter}
use Rattle.hu_span.proofs.ReachLemmas.{grown-reached}
use Rattle.hu_span.proofs.TallyLemmas.{bounds-fit, bounds-hold, support-cons, told-all, IsSum}

-- ---- the marks of a pattern stand at its places

fit-places : (item : ℕ) (before rs : Records) (pattern : List (List ℕ)) → Ends pattern → last_item pattern ≡ item
    → AllByRecursion IsFit (places_of (marks_from pattern item (length before) rs))
    → AllByRecursion (IsMark (before ++ rs) item) (marks_from pattern item (length before) rs)
fit-places item before [] pattern ends last fit = tt
fit-places item before (r ∷ rs) pattern ends last fit =
    let more : Records = before ++ r ∷ [] in
    let n : length more ≡ suc (length before) = omega (arith, length-append before (r ∷ [])) in
    let whole = append_assoc before (r ∷ []) rs in
    let row = map (mark_at (length before) item) (chain_of pattern r) in
    let split = subst (AllByRecursion IsFit) (map-append (λ (mark : Mark). mark.place) row (marks_from pattern item (suc (length before)) rs)) fit in
    let front = each-left IsFit (places_of row) (places_of (marks_from pattern item (suc (length before)) rs)) split in
    let back = each-right IsFit (places_of row) (places_of (marks_from pattern item (suc (length before)) rs)) split in
    let rest = fit-places item more rs pattern ends last (subst (λ k. AllByRecursion IsFit (places_of (marks_from pattern item k rs))) (sym n) back) in
    let rest' : AllByRecursion (IsMark (before ++ r ∷ rs) item) (marks_from pattern item (suc (length before)) rs) =
    subst (λ k. AllByRecursion (IsMark (before ++ r ∷ rs) item) (marks_from pattern item k rs)) n
    (subst (λ all. AllByRecursion (IsMark all item) (marks_from pattern item (length more) rs)) whole rest) in
    each-append (IsMark (before ++ r ∷ rs) item) row (marks_from pattern item (suc (length before)) rs)
    (here (chain_of pattern r) (chain_of-rules pattern r ends) front) rest'
  where
    at_before : (bs : Records) → record_at (bs ++ r ∷ rs) (length bs) ≡ r
    at_before [] = refl
    at_before (b ∷ bs) = at_before bs

    here : (places : List Place) → AllByRecursion (IsPlaceOf r (last_item pattern)) places
        → AllByRecursion IsFit (places_of (map (mark_at (length before) item) places))
        → AllByRecursion (IsMark (before ++ r ∷ rs) item) (map (mark_at (length before) item) places)
    here [] is fits = tt
    here (place ∷ places) is fits = (
      record {
        within = omega (arith, length-append before (r ∷ rs));
        place = subst (λ i. IsPlaceOf (record_at (before ++ r ∷ rs) (length before)) i place) last
            (subst (λ x. IsPlaceOf x (last_item pattern) place) (sym (at_before before)) is.0);
        fit = fits.0;
      },
      here places is.1 fits.1,
    )

pub each-place : (records : Records) (pattern : List (List ℕ)) (item : ℕ) → Ends pattern → last_item pattern ≡ item
    → AllByRecursion IsFit (places_of (marks_of records pattern item))
    → AllByRecursion (IsMark records item) (marks_of records pattern item)
each-place records pattern item ends last fit = fit-places item [] records pattern ends last fit

-- ---- where a pattern has marks

pub marks-occur : (pattern : List (List ℕ)) (item row : ℕ) (rs : Records) → Ends pattern → 0 < length (marks_from pattern item row rs)
    → 0 < sequence_support rs pattern
marks-occur pattern item row [] ends some = absurd (omega arith)
marks-occur pattern item row (r ∷ rs) ends some = by (marks-occur pattern item (suc row) rs ends) (chain_of pattern r) refl
  where
    count : sequence_support (r ∷ rs) pattern ≡ count_of (best_utility pattern r) + sequence_support rs pattern
    count = support-cons r rs pattern

    one : (o : Option ℤ) (place : Place) (places : List Place) → best_of (place ∷ places) ≡ o → count_of o ≡ 1
    one o place places e = ap count_of (sym e) ∙ first (best_of places)
      where
        first : (u : Option ℤ) → count_of (better (Some place.best) u) ≡ 1
        first None = refl
        first (Some u) = refl

    by : (0 < length (marks_from pattern item (suc row) rs) → 0 < sequence_support rs pattern) → (places : List Place) → chain_of pattern r ≡ places
        → 0 < sequence_support (r ∷ rs) pattern
    by ih [] is =
        let rest : 0 < length (marks_from pattern item (suc row) rs) = subst (λ ps. 0 < length
        (map (mark_at row item) ps ++ marks_from pattern item (suc row) rs)) is some in
        omega (arith, count, ih rest)
    by ih (place ∷ places) is = omega (arith, count, one (best_utility pattern r) place places (ap best_of (sym is) ∙ best_of-chain pattern r ends))

pub occurs-marks : (pattern : List (List ℕ)) (item row : ℕ) (rs : Records) → Ends pattern → 0 < sequence_support rs pattern
    → 0 < length (marks_from pattern item row rs)
occurs-marks pattern item row [] ends some = absurd (omega arith)
occurs-marks pattern item row (r ∷ rs) ends some = by (occurs-marks pattern item (suc row) rs ends) (chain_of pattern r) refl
  where
    count : sequence_support (r ∷ rs) pattern ≡ count_of (best_utility pattern r) + sequence_support rs pattern
    count = support-cons r rs pattern

    by : (0 < sequence_support rs pattern → 0 < length (marks_from pattern item (suc row) rs)) → (places : List Place) → chain_of pattern r ≡ places
        → 0 < length (map (mark_at row item) (chain_of pattern r) ++ marks_from pattern item (suc row) rs)
    by ih [] is =
        let none : count_of (best_utility pattern r) ≡ 0 = ap count_of (sym (best_of-chain pattern r ends) ∙ ap best_of is) in
        let rest = ih (omega (arith, count, none, some)) in
        subst (λ ps. 0 < length (map (mark_at row item) ps ++ marks_from pattern item (suc row) rs)) (sym is) rest
    by ih (place ∷ places) is = subst (λ ps. 0 < length (map (mark_at row item) ps ++ marks_from pattern item (suc row) rs)) (sym is) (omega arith)

-- ---- a child

-- what is true of a child, by its parts
record IsWhole (records : Records) (keep : ℕ → Bool) (pattern : List (List ℕ)) (step : Step) (u : ℤ) (n : ℕ) (b : ℤ) : Type 0 where
  pub may : MayTake step.growth pattern step.item.0
  pub kept : keep step.item.0 ≡ true
  pub occurs : 0 < sequence_support records (stepped pattern step)
  pub utility : u ≡ sequence_utility records (stepped pattern step)
  pub support : n ≡ sequence_support records (stepped pattern step)
  pub bound : (other : List (List ℕ)) → IsGrownFrom (stepped pattern step) other → sequence_utility records other ≤ℤ b

module _ (records : Records) (keep : ℕ → Bool) (pattern : List (List ℕ)) (step : Step) (marks : List Mark)
    (from : IsStep records keep pattern step marks) where
  reached : IsReached (stepped pattern step)
  reached = grown-reached step.growth pattern step.item.0 from.begun from.may

  fits : AllByRecursion IsFit (places_of (marks_of records (stepped pattern step) step.item.0))
  fits = subst (λ ms. AllByRecursion IsFit (places_of ms)) from.places.is (fit-each marks from.places.each)
    where
      fit-each : (ms : List Mark) → AllByRecursion (IsMark records step.item.0) ms → AllByRecursion IsFit (places_of ms)
      fit-each [] all = tt
      fit-each (m ∷ ms) all = let first = all.0 in (first.fit, fit-each ms all.1)

  pub step-fits : AllByRecursion IsFit (places_of marks)
  step-fits = subst (λ ms. AllByRecursion IsFit (places_of ms)) (sym from.places.is) fits

  sums : IsSum none_told (told marks) (stepped pattern step) records
  sums = subst (λ ms. IsSum none_told (told ms) (stepped pattern step) records) (sym from.places.is)
      (told-all (stepped pattern step) step.item.0 records (Ends-grown step.growth pattern step.item.0))

  -- its sum over rows
  pub step-spread : (reaches : List ℤ) (child : Child) → child.step ≡ step → IfSome child.spread (λ sum. sum ≡ spread reaches marks)
      → IsSpread reaches records pattern child
  step-spread reaches child step_is some =
      let is : marks ≡ marks_of records (stepped pattern child.step) child.step.item.0 =
      from.places.is ∙ sym (λ j. marks_of records (stepped pattern (step_is j)) (step_is j).item.0) in
      subst (λ ms. IfSome child.spread (λ sum. sum ≡ spread reaches ms)) is some

  pub step-reaches : reaches_of (told marks) <ℤ pos (2 ^ 127)
  step-reaches =
      let sum = sums.reaches in
      let most = bounds-fit reached.0 (stepped pattern step) records from.are.rules reached.1 in
      let fit = from.are.fits in
      omega (arith, ints, sum, most, fit)

  pub step-child : (child : Child) → child.step ≡ step → child.utility ≡ bests_of (told marks) → child.support ≡ (told marks).rows
      → child.bound ≡ reaches_of (told marks) → IsChild records keep pattern child
  step-child child step_is utility support bound =
      let sum = sums in
      let rows = sum.rows in
      let bests = sum.bests in
      let reaches = sum.reaches in
      let may = from.may in
      let some = from.some in
      let ends = Ends-grown step.growth pattern step.item.0 in
      let held = marks-occur (stepped pattern step) step.item.0 0 records ends (subst (λ ms. 0 < length ms) from.places.is some) in
      let P : Step → Type 0 = λ s. IsWhole records keep pattern s child.utility child.support child.bound in
      let whole : P step = record {
        may = may;
        kept = from.kept;
        occurs = held;
        utility = omega (arith, ints, utility, bests);
        support = omega (arith, support, rows);
        bound = λ other grows.
            let high = bounds-hold (stepped pattern step) other step.item.0 0 records from.are.rules ends grows fits in
            omega (arith, ints, high, bound, reaches);
      } in
      let w : P child.step = subst P (sym step_is) whole in
      record { may = w.may; kept = w.kept; occurs = w.occurs; utility = w.utility; support = w.support; bound = w.bound }

  pub step-told : (reaches : List ℤ) (child : Child) → child.step ≡ step → child.utility ≡ bests_of (told marks) → child.support ≡ (told marks).rows
      → child.bound ≡ reaches_of (told marks) → IfSome child.spread (λ sum. sum ≡ spread reaches marks)
      → IsChild records keep pattern child × IsSpread reaches records pattern child
  step-told reaches child step_is utility support bound some = (step-child child step_is utility support bound, step-spread reaches child step_is some)

-- ---- all children of a kind of growth

module _ (records : Records) (keep : ℕ → Bool) (pattern : List (List ℕ)) (growth : Growth) (marks : List Mark)
    (from : IsGathered records keep pattern growth marks) where
  -- the marks of an item are the places of the pattern grown by it
  pub places-gathered : (item : ℕ) → keep item ≡ true → MayTake growth pattern item
      → ArePlaces records (grown growth pattern item) item (marks_with item marks)
  places-gathered item kept may =
      let grows = from.grown in
      let places = grows.places item kept may in
      let fit = subst (λ ms. AllByRecursion IsFit (places_of ms)) places (fit-growth (marks_with item marks)
      (each-filter (IsGrowth keep growth pattern) (is_of item) marks grows.each)) in
      record {
        is = places;
        each = subst (AllByRecursion (IsMark records item)) (sym places)
            (each-place records (grown growth pattern item) item (Ends-grown growth pattern item) (last_item-grown growth pattern item) fit);
      }
    where
      fit-growth : (ms : List Mark) → AllByRecursion (IsGrowth keep growth pattern) ms → AllByRecursion IsFit (places_of ms)
      fit-growth [] all = tt
      fit-growth (m ∷ ms) all = let first = all.0 in (first.fit, fit-growth ms all.1)

  -- the item of one of the marks makes a child
  pub step-gathered : (mark : Mark) → Member mark marks → (run : List Mark) → run ≡ marks_with mark.item.0 marks
      → IsStep records keep pattern (record { growth = growth; item = mark.item }) run
  step-gathered mark m run is =
      let item = mark.item in
      let grows = from.grown in
      let here = at_member (IsGrowth keep growth pattern) mark marks grows.each m in
      let may : MayTake growth pattern item.0 = here.may in
      let kept : keep item.0 ≡ true = here.kept in
      let among = Member-filter (is_of item.0) mark marks m (eq-eqb item.0 mark.item.0 refl) in
      record {
        are = from.are;
        begun = from.begun;
        may = may;
        kept = kept;
        some = subst (λ ms. 0 < length ms) (sym is) (some (marks_with item.0 marks) mark among);
        places = subst (ArePlaces records (grown growth pattern item.0) item.0) (sym is) (places-gathered item.0 kept may);
      }
    where
      some : (ms : List Mark) (mark : Mark) → Member mark ms → 0 < length ms
      some [] mark m = absurd m
      some (x ∷ ms) mark m = omega arith

  -- and there are marks of each item by which the pattern occurs
  pub marks-gathered : (item : ℕ) → keep item ≡ true → MayTake growth pattern item → 0 < sequence_support records (grown growth pattern item)
      → 0 < length (marks_with item marks)
  marks-gathered item kept may held =
      let grows = from.grown in
      let some = occurs-marks (grown growth pattern item) item 0 records (Ends-grown growth pattern item) held in
      subst (λ ms. 0 < length ms) (sym (grows.places item kept may)) some

-- children of both kinds of growth
pub children-both : (records : Records) (keep : ℕ → Bool) (pattern : List (List ℕ)) (first later : List Child)
    → AreChildrenBy records keep pattern IntoLast first
    → AreChildrenBy records keep pattern AfterLast later
    → AreChildren records keep pattern (first ++ later)
children-both records keep pattern first later into after = record {
  each = each-append
      (IsChild records keep pattern) first later into.each after.each;
  all = all;
}
  where
    all : (growth : Growth) (item : ℕ) → keep item ≡ true → MayTake growth pattern item → 0 < sequence_support records (grown growth pattern item)
        → HasStep (first ++ later) growth item
    all IntoLast item kept may held = let has = into.all item kept may held in (
      has.0,
      Contains-from_member has.0 (first ++ later)
          (Member-append_left has.0 first later (Member-from_contains has.0 first has.1)),
      has.2,
      has.3,
    )
    all AfterLast item kept may held = let has = after.all item kept may held in (
      has.0,
      Contains-from_member has.0 (first ++ later)
          (Member-append_right has.0 first later (Member-from_contains has.0 later has.1)),
      has.2,
      has.3,
    )
