-- No pattern earns more that is grown by an item than the rows reach in which the item makes a child.
use Rattle.std.proofs.Common.{◌≡◌, ℕ, suc, ◌<◌, Bool, true, false, cond, eqb, ℤ, pos, ◌≤ℤ◌, ◌<ℤ◌, Option, None, Some, is_some, unwrap_or, List, []}
use Rattle.std.proofs.Common.{◌∷◌, ◌++◌, map, length, refl, sym, ap, ◌∙◌, subst, ◌⊎◌, inl, inr, arith}
use Rattle.std.specs.List.{AllByRecursion}
use Rattle.std.proofs.lemmas.Bool.{ne_eqb, eq-eqb}
use Rattle.std.proofs.lemmas.Int.{ints, clamps}
use Rattle.hu_kind.specs.declared.item.Item.{Item}
use Rattle.hu_kind.specs.Sequence.{better, best_utility, sequence_support, sequence_utility, IsSequence}
use Rattle.hu_kind.proofs.lemmas.Each.{each-append, each-left, each-right}
use Rattle.hu_kind.proofs.lemmas.Members.{Member, Member-from_contains, Member-from_map}
use Rattle.hu_kind.proofs.lemmas.Occurring.{at_member, counted, count-member}
use Rattle.hu_chain.specs.declared.chain.Growth.{Growth}
use Rattle.hu_chain.specs.declared.chain.Growth.TheVariants.{IntoLast, AfterLast}
use Rattle.hu_chain.specs.declared.place.Place.{Place}
use Rattle.hu_chain.specs.Bound.{best_of, extension_bound, greatest, reach, IsAtMost, IsFit}
use Rattle.hu_chain.specs.Grown.{grown, IsGrownFrom, Leads}
use Rattle.hu_chain.specs.Pattern.{last_item, Ends}
use Rattle.hu_chain.specs.Place.{chain_of}
use Rattle.hu_chain.proofs.lemmas.Bounds.{extension-holds, extension-range, grown_from-none}
use Rattle.hu_chain.proofs.lemmas.Gathered.{best_of-chain}
use Rattle.hu_chain.proofs.lemmas.Patterns.{Ends-grown}
use Rattle.hu_span.specs.declared.child.Child.{Child}
use Rattle.hu_span.specs.declared.mark.Mark.{Mark}
use Rattle.hu_span.specs.declared.step.Step.{Step}
use Rattle.std.proofs.Common.{IfSome}
use Rattle.hu_span.specs.Child.{stepped, AreChildren, ArePlaces, IsChild, IsSpread}
use Rattle.hu_span.specs.Cut.{at_row, is_last, spread, spread_after, AreBelow, AreOpen, IsLow}
use Rattle.hu_span.specs.Growing.{AreRecords, IsReached, Records}
use Rattle.hu_span.specs.Kept.{keeps, AreKept}
use Rattle.hu_span.specs.Mark.{mark_at, marks_from, marks_of, IsMark}
use Rattle.hu_span.specs.Step.{pattern_from, pattern_of}
use Rattle.hu_span.proofs.ReachLemmas.{may-reached, Ends-reached}
use Rattle.hu_span.proofs.WithinLemmas.{used-step, IsUsed}

-- ---- the sum over rows

spread-same : (reaches : List ℤ) (item row : ℕ) (places : List Place) (rest : List Mark)
    → spread_after reaches (Some row) (map (mark_at row item) places ++ rest) ≡ spread_after reaches (Some row) rest
spread-same reaches item row [] rest = refl
spread-same reaches item row (place ∷ places) rest =
    let more = map (mark_at row item) places ++ rest in
    let yes : eqb row row ≡ true = eq-eqb row row refl in
    let ih = spread-same reaches item row places rest in
    let none : (cond (eqb row row) (pos 0) (at_row reaches row)) ≡ pos 0 = ap (λ b. cond b (pos 0) (at_row reaches row)) yes in
    omega (arith, ints, ih, none)

-- the last row was another one
abbrev IsPast : Option ℕ → ℕ → Type 0
IsPast None row = Unit {0}
IsPast (Some last) row = last < row

past-next : (last : Option ℕ) (row : ℕ) → IsPast last row → IsPast last (suc row)
past-next None row past = tt
past-next (Some last) row past = omega (arith, past)

past-other : (last : Option ℕ) (row : ℕ) → IsPast last row → is_last last row ≡ false
past-other None row past = refl
past-other (Some last) row past = ne_eqb last row (λ e. absurd (omega (arith, e, past)))

-- where a grown pattern has places another one earns at most what is known of the row, and where it has none nothing
pub record IsRowBelow (reaches : List ℤ) (grown_to other : List (List ℕ)) (row : ℕ) (r : List (List (ℕ × ℤ))) : Type 0 where
  pub some : 0 < length (chain_of grown_to r) → unwrap_or (best_utility other r) (pos 0) ≤ℤ at_row reaches row
  pub none : chain_of grown_to r ≡ [] → best_utility other r ≡ None

abbrev pub AreRowsBelow : List ℤ → List (List ℕ) → List (List ℕ) → ℕ → Records → Type 0
AreRowsBelow reaches grown_to other row [] = Unit {0}
AreRowsBelow reaches grown_to other row (r ∷ rs) = IsRowBelow reaches grown_to other row r × AreRowsBelow reaches grown_to other (suc row) rs

spread-most : (reaches : List ℤ) (q other : List (List ℕ)) (item row : ℕ) (last : Option ℕ) (rs : Records) → IsPast last row
    → AreRowsBelow reaches q other row rs → sequence_utility rs other ≤ℤ spread_after reaches last (marks_from q item row rs)
spread-most reaches q other item row last [] past rows = omega (arith, ints)
spread-most reaches q other item row last (r ∷ rs) past rows =
    by (chain_of q r) refl (spread-most reaches q other item (suc row) last rs (past-next last row past) rows.1)
    (spread-most reaches q other item (suc row) (Some row) rs (omega arith) rows.1)
  where
    by : (places : List Place) → chain_of q r ≡ places
        → sequence_utility rs other ≤ℤ spread_after reaches last (marks_from q item (suc row) rs)
        → sequence_utility rs other ≤ℤ spread_after reaches (Some row) (marks_from q item (suc row) rs)
        → sequence_utility (r ∷ rs) other ≤ℤ spread_after reaches last (map (mark_at row item) (chain_of q r) ++ marks_from q item (suc row) rs)
    by [] is ih next =
        let here = rows.0 in
        let nothing = ap (λ u. unwrap_or u (pos 0)) (here.none is) in
        subst (λ ps. sequence_utility (r ∷ rs) other ≤ℤ spread_after reaches last (map (mark_at row item) ps ++ marks_from q item (suc row) rs)) (sym is)
        (omega (arith, ints, nothing, ih))
    by (place ∷ places) is ih next =
        let here = rows.0 in
        let high = here.some (subst (λ (ps : List Place). 0 < length ps) (sym is) (omega arith)) in
        let same = spread-same reaches item row places (marks_from q item (suc row) rs) in
        let first : cond (is_last last row) (pos 0) (at_row reaches row) ≡ at_row reaches row =
        ap (λ b. cond b (pos 0) (at_row reaches row)) (past-other last row past) in
        subst (λ ps. sequence_utility (r ∷ rs) other ≤ℤ spread_after reaches last (map (mark_at row item) ps ++ marks_from q item (suc row) rs)) (sym is)
        (omega (arith, ints, high, same, first, next))

-- ---- what a place reaches at most

greatest-below : (n : ℤ) (place : Place) (places : List Place) → reach place ≤ℤ n → AllByRecursion (λ p. reach p ≤ℤ n) places
    → extension_bound (place ∷ places) ≤ℤ n
greatest-below n place [] first all = first
greatest-below n place (next ∷ places) first all = by (greatest reach (next ∷ places)) (greatest-below n next places all.0 all.1)
  where
    by : (u : Option ℤ) → unwrap_or u (pos 0) ≤ℤ n → unwrap_or (better (Some (reach place)) u) (pos 0) ≤ℤ n
    by None h = first
    by (Some u) h = omega (arith, ints, clamps, first, h)

row-below : (reaches : List ℤ) (pattern other : List (List ℕ)) (item row : ℕ) (r : List (List (ℕ × ℤ))) → IsSequence r → Ends pattern
    → IsGrownFrom pattern other → (used : IsUsed pattern other item) → AllByRecursion IsFit (chain_of pattern r)
    → AllByRecursion (λ p. reach p ≤ℤ at_row reaches row) (chain_of pattern r) → IsRowBelow reaches (grown used.growth pattern item) other row r
row-below reaches pattern other item row r rules ends from used fit below = record { some = some; none = none }
  where
    q : List (List ℕ)
    q = grown used.growth pattern item

    none : chain_of q r ≡ [] → best_utility other r ≡ None
    none is = by (best_utility other r) refl
      where
        by : (u : Option ℤ) → best_utility other r ≡ u → best_utility other r ≡ None
        by None e = e
        by (Some u) e =
            let held = used.occurs r rules (ap is_some e) in
            let gone : is_some (best_utility q r) ≡ false = ap is_some (sym (best_of-chain q r (Ends-grown used.growth pattern item)) ∙ ap best_of is) in
            let bad : true ≡ false = sym held ∙ gone in
            cc

    at_most : (o : Option ℤ) (bound : ℤ) → IsAtMost o bound → pos 0 ≤ℤ bound → unwrap_or o (pos 0) ≤ℤ bound
    at_most None bound is low = low
    at_most (Some u) bound is low = is

    some : 0 < length (chain_of q r) → unwrap_or (best_utility other r) (pos 0) ≤ℤ at_row reaches row
    some has =
        let range = extension-range (chain_of pattern r) fit in
        let high = at_most (best_utility other r) (extension_bound (chain_of pattern r)) (extension-holds pattern other r rules ends from) range.0 in
        by (chain_of pattern r) refl high
      where
        by : (places : List Place) → chain_of pattern r ≡ places → unwrap_or (best_utility other r) (pos 0) ≤ℤ extension_bound (chain_of pattern r)
            → unwrap_or (best_utility other r) (pos 0) ≤ℤ at_row reaches row
        by (place ∷ places) is high =
            let all = subst (AllByRecursion (λ p. reach p ≤ℤ at_row reaches row)) is below in
            let most = greatest-below (at_row reaches row) place places all.0 all.1 in
            let seen = subst (λ ps. unwrap_or (best_utility other r) (pos 0) ≤ℤ extension_bound ps) is high in
            omega (arith, ints, most, seen)
        by [] is high =
            let nowhere : best_utility pattern r ≡ None = sym (best_of-chain pattern r ends) ∙ ap best_of is in
            let steps : IsGrownFrom pattern q = record { steps = (used.growth, item) ∷ []; leads = (used.can, refl) } in
            let gone = grown_from-none pattern q r rules ends steps nowhere in
            absurd (empty (chain_of q r) has (best_of-chain q r (Ends-grown used.growth pattern item) ∙ gone))
          where
            empty : (ps : List Place) → 0 < length ps → best_of ps ≡ None → ⊥
            empty [] has e = absurd (omega arith)
            empty (p ∷ ps) has e = first (best_of ps) e
              where
                first : (u : Option ℤ) → better (Some p.best) u ≡ None → ⊥
                first None e = cc
                first (Some u) e = cc

-- the places of a row among the marks, and those of the other rows
below-first : (reaches : List ℤ) (item row : ℕ) (places : List Place) → AreBelow reaches (map (mark_at row item) places)
    → AllByRecursion (λ p. reach p ≤ℤ at_row reaches row) places
below-first reaches item row [] all = tt
below-first reaches item row (place ∷ places) all = (all.0, below-first reaches item row places all.1)

fit-first : (item row : ℕ) (places : List Place) → AllByRecursion (λ (mark : Mark). IsFit mark.place) (map (mark_at row item) places)
    → AllByRecursion IsFit places
fit-first item row [] all = tt
fit-first item row (place ∷ places) all = (all.0, fit-first item row places all.1)

rows-below : (reaches : List ℤ) (pattern other : List (List ℕ)) (last item row : ℕ) (rs : Records) → AllByRecursion IsSequence rs → Ends pattern
    → IsGrownFrom pattern other → (used : IsUsed pattern other item) → AllByRecursion (λ mark. IsFit mark.place) (marks_from pattern last row rs)
    → AreBelow reaches (marks_from pattern last row rs) → AreRowsBelow reaches (grown used.growth pattern item) other row rs
rows-below reaches pattern other last item row [] rules ends from used fit below = tt
rows-below reaches pattern other last item row (r ∷ rs) rules ends from used fit below =
    let here = map (mark_at row last) (chain_of pattern r) in
    let rest = marks_from pattern last (suc row) rs in
    let F : Mark → Type 0 = λ mark. IsFit mark.place in
    let B : Mark → Type 0 = λ mark. reach mark.place ≤ℤ at_row reaches mark.row in (
      row-below reaches pattern other item row r rules.0 ends from used (fit-first last row (chain_of pattern r) (each-left F here rest fit))
          (below-first reaches last row (chain_of pattern r) (each-left B here rest below)),
      rows-below reaches pattern other last item (suc row) rs rules.1 ends from used (each-right F here rest fit) (each-right B here rest below),
    )

-- ---- the items of steps

pub grown-kept : (keep : ℕ → Bool) (growth : Growth) (pattern : List (List ℕ)) (item : ℕ) → AreKept keep pattern → keep item ≡ true
    → AreKept keep (grown growth pattern item)
grown-kept keep IntoLast [] item all kept = ((kept, tt), tt)
grown-kept keep IntoLast (items ∷ []) item all kept = (each-append (λ i. keep i ≡ true) items (item ∷ []) all.0 (kept, tt), tt)
grown-kept keep IntoLast (items ∷ next ∷ pattern) item all kept = (all.0, grown-kept keep IntoLast (next ∷ pattern) item all.1 kept)
grown-kept keep AfterLast pattern item all kept =
    each-append (AllByRecursion (λ i. keep i ≡ true)) pattern ((item ∷ []) ∷ []) all ((kept, tt), tt)

-- what is kept of a grown pattern is kept of the pattern, and of the item
pub grown-back : (keep : ℕ → Bool) (growth : Growth) (pattern : List (List ℕ)) (item : ℕ) → AreKept keep (grown growth pattern item)
    → AreKept keep pattern × (keep item ≡ true)
grown-back keep IntoLast [] item all = (tt, all.0.0)
grown-back keep IntoLast (items ∷ []) item all =
    let last = each-right (λ i. keep i ≡ true) items (item ∷ []) all.0 in ((each-left (λ i. keep i ≡ true) items (item ∷ []) all.0, tt), last.0)
grown-back keep IntoLast (items ∷ next ∷ pattern) item all =
    let rest = grown-back keep IntoLast (next ∷ pattern) item all.1 in ((all.0, rest.0), rest.1)
grown-back keep AfterLast pattern item all =
    let P : List ℕ → Type 0 = AllByRecursion (λ i. keep i ≡ true) in
    let last = each-right P pattern ((item ∷ []) ∷ []) all in (each-left P pattern ((item ∷ []) ∷ []) all, last.0.0)

leads-kept : (keep : ℕ → Bool) (steps : List (Growth × ℕ)) (pattern other : List (List ℕ)) → Leads steps pattern other → AreKept keep pattern
    → AllByRecursion (λ step. keep step.1 ≡ true) steps → AreKept keep other
leads-kept keep [] pattern other leads all kept = subst (AreKept keep) leads all
leads-kept keep (step ∷ steps) pattern other leads all kept =
    leads-kept keep steps (grown step.0 pattern step.1) other leads.1 (grown-kept keep step.0 pattern step.1 all kept.0) kept.1

pub leads-back : (keep : ℕ → Bool) (steps : List (Growth × ℕ)) (pattern other : List (List ℕ)) → Leads steps pattern other → AreKept keep other
    → AreKept keep pattern × AllByRecursion (λ step. keep step.1 ≡ true) steps
leads-back keep [] pattern other leads all = (subst (AreKept keep) (sym leads) all, tt)
leads-back keep (step ∷ steps) pattern other leads all =
    let rest = leads-back keep steps (grown step.0 pattern step.1) other leads.1 all in
    let back = grown-back keep step.0 pattern step.1 rest.0 in
    (back.0, (back.1, rest.1))

steps-cases : (keep : ℕ → Bool) (steps : List (Growth × ℕ))
    → AllByRecursion (λ step. keep step.1 ≡ true) steps ⊎ ((step : Growth × ℕ) × Member step steps × (keep step.1 ≡ false))
steps-cases keep [] = inl tt
steps-cases keep (step ∷ steps) = by (keep step.1) refl (steps-cases keep steps)
  where
    by : (b : Bool) → keep step.1 ≡ b → AllByRecursion (λ s. keep s.1 ≡ true) steps ⊎ ((s : Growth × ℕ) × Member s steps × (keep s.1 ≡ false))
        → AllByRecursion (λ s. keep s.1 ≡ true) (step ∷ steps) ⊎ ((s : Growth × ℕ) × Member s (step ∷ steps) × (keep s.1 ≡ false))
    by false e rest = inr (step, inl refl, e)
    by true e (inl all) = inl (e, all)
    by true e (inr found) = inr (found.0, inr found.1, found.2)

from-kept : (keep : ℕ → Bool) (pattern : List (List ℕ)) (steps : List Step) → AreKept keep pattern
    → AllByRecursion (λ step. keep step.item.0 ≡ true) steps → AreKept keep (pattern_from pattern steps)
from-kept keep pattern [] all kept = all
from-kept keep pattern (step ∷ steps) all kept =
    from-kept keep (grown step.growth pattern step.item.0) steps (grown-kept keep step.growth pattern step.item.0 all kept.0) kept.1

pub own-kept : (keep : ℕ → Bool) (steps : List Step) → AllByRecursion (λ step. keep step.item.0 ≡ true) steps → AreKept keep (pattern_of steps)
own-kept keep steps kept = from-kept keep [] steps tt kept

from-back : (keep : ℕ → Bool) (pattern : List (List ℕ)) (steps : List Step) → AreKept keep (pattern_from pattern steps)
    → AreKept keep pattern × AllByRecursion (λ step. keep step.item.0 ≡ true) steps
from-back keep pattern [] all = (all, tt)
from-back keep pattern (step ∷ steps) all =
    let rest = from-back keep (grown step.growth pattern step.item.0) steps all in
    let back = grown-back keep step.growth pattern step.item.0 rest.0 in
    (back.0, (back.1, rest.1))

steps-kept : (keep : ℕ → Bool) (steps : List Step) → AreKept keep (pattern_of steps) → AllByRecursion (λ step. keep step.item.0 ≡ true) steps
steps-kept keep steps all = let back = from-back keep [] steps all in back.1

-- ---- what a node keeps

low-sum : (o : Option ℤ) (floor sum : ℤ) → IsLow o floor → IfSome o (λ s. s ≡ sum) → sum <ℤ floor
low-sum None floor sum low is = absurd low
low-sum (Some s) floor sum low is = omega (arith, ints, low, is)

module _ (records : Records) (keep : ℕ → Bool) (steps : List Step) (marks : List Mark) (children : List Child) (reaches : List ℤ) (floor : ℤ)
    (kept : Bool × List Item) (are : AreRecords records) (reached : IsReached (pattern_of steps))
    (places : ArePlaces records (pattern_of steps) (last_item (pattern_of steps)) marks) (all : AreChildren records keep (pattern_of steps) children)
    (below : AreBelow reaches marks) (spreads : AllByRecursion (IsSpread reaches records (pattern_of steps)) children)
    (open_at : AreOpen steps children floor kept) where
  abbrev pub p : List (List ℕ)
  p = pattern_of steps

  pub narrow-fewer : AreKept keep p → (item : ℕ) → keeps kept item ≡ true → keep item ≡ true
  narrow-fewer own item is = elim (open_at.known item is) [
    | inl step ↦
        let from = Member-from_map (λ (s : Step). s.item.0) item steps (Member-from_contains item (map (λ (s : Step). s.item.0) steps) step) in
        subst (λ n. keep n ≡ true) from.2 (at_member (λ (s : Step). keep s.item.0 ≡ true) from.0 steps (steps-kept keep steps own) from.1)
    | inr child ↦
        let from = Member-from_map (λ (c : Child). c.step.item.0) item children (Member-from_contains item (map (λ
        (c : Child). c.step.item.0) children) child) in
        let is = at_member (IsChild records keep p) from.0 children all.each from.1 in
        subst (λ n. keep n ≡ true) from.2 is.kept
  ]

  pub narrow-own : AreKept (keeps kept) p
  narrow-own = own-kept (keeps kept) steps open_at.own

  fits : AllByRecursion (λ mark. IsFit mark.place) (marks_of records p (last_item p))
  fits = subst (AllByRecursion (λ (mark : Mark). IsFit mark.place)) places.is (each marks places.each)
    where
      each : (ms : List Mark) → AllByRecursion (IsMark records (last_item p)) ms → AllByRecursion (λ (mark : Mark). IsFit mark.place) ms
      each [] a = tt
      each (m ∷ ms) a = let first = a.0 in (first.fit, each ms a.1)

  pub narrow-enough : (other : List (List ℕ)) → IsGrownFrom p other → AreKept keep other → 0 < sequence_support records other
      → floor ≤ℤ sequence_utility records other → AreKept (keeps kept) other
  narrow-enough other from whole occurs high = elim (steps-cases (keeps kept) from.steps) [
    | inl every ↦ leads-kept (keeps kept) from.steps p other from.leads narrow-own every
    | inr found ↦ absurd (dropped found.0 found.1 found.2)
  ]
    where
      dropped : (step : Growth × ℕ) → Member step from.steps → keeps kept step.1 ≡ false → ⊥
      dropped step m none =
          let x = step.1 in
          let used = used-step from.steps p other step from.leads m in
          let q = grown used.growth p x in
          let there = counted (λ r. is_some (best_utility other r)) records occurs in
          let rules = at_member IsSequence there.0 records are.rules there.1 in
          let held = count-member (λ r. is_some (best_utility q r)) there.0 records there.1 (used.occurs there.0 rules there.2) in
          let back = leads-back keep from.steps p other from.leads whole in
          let kept_x = at_member (λ (s : Growth × ℕ). keep s.1 ≡ true) step from.steps back.1 m in
          let has = all.all used.growth x kept_x (may-reached used.growth p x reached used.can) held in
          let child = has.0 in
          let among = Member-from_contains child children has.1 in
          let is = at_member (IsChild records keep p) child children all.each among in
          let step_is : stepped p child.step ≡ q = (λ j. grown (has.2 j) p (has.3 j)) in
          let marks_is : marks_of records (stepped p child.step) child.step.item.0 ≡ marks_of records q x = (λ j. marks_of records (step_is j) (has.3 j)) in
          let known = at_member (IsSpread reaches records p) child children spreads among in
          let most = spread-most reaches q other x 0 None records tt
          (rows-below reaches p other (last_item p) x 0 records are.rules (Ends-reached p reached) from used fits
          (subst (AreBelow reaches) places.is below)) in
          let sum = subst (λ ms. sequence_utility records other ≤ℤ spread reaches ms) (sym marks_is) most in
          elim (at_member (λ (c : Child). (keeps kept c.step.item.0 ≡ true) ⊎ IsLow c.spread floor) child children open_at.reaching among) [
            | inl still ↦ let bad : true ≡ false = sym still ∙ ap (keeps kept) has.3 ∙ none in cc
            | inr low ↦ let less = low-sum child.spread floor (spread reaches (marks_of records (stepped p child.step) child.step.item.0)) low known in omega
                (arith, ints, less, sum, high)
          ]
