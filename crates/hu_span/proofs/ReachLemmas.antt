-- The patterns that a search reaches: their itemsets ascend, they are no longer than the records in which they occur, and
-- they are all patterns of the records.
use Rattle.std.proofs.Common.{◌≡◌, Bool, ℕ, ◌<◌, ◌≤◌, ℤ, is_some, List, [], ◌∷◌, length, refl, sym, ap, ◌∙◌, true, false, Option, None, Some, subst, inl, inr}
use Rattle.std.proofs.Common.{arith, length-append, Contains, ◌↔◌}
use Rattle.std.specs.List.{AllByRecursion}
use Rattle.hu_kind.specs.declared.entry.Entry.{Entry}
use Rattle.hu_kind.specs.Order.{Ascend}
use Rattle.hu_kind.specs.Record.{items_in, IsItemset}
use Rattle.hu_kind.specs.Sequence.{best_utility, sequence_entry, sequence_patterns, sequence_support, IsSequence}
use Rattle.hu_kind.proofs.lemmas.Each.{each-append, each-weaker}
use Rattle.hu_kind.proofs.lemmas.Members.{Member, Contains-from_member, Member-from_contains}
use Rattle.hu_kind.proofs.lemmas.Occurring.{at_member, counted, count-member}
use Rattle.hu_kind.proofs.lemmas.Subsequences.{occurs-sub, pattern_entry-from, pattern_entry-member, size-sub, AreRising, IsSomeAscending}
use Rattle.hu_kind.proofs.lemmas.Ascending.{Ascend-last}
use Rattle.hu_chain.specs.declared.chain.Growth.{Growth}
use Rattle.hu_chain.specs.declared.chain.Growth.TheVariants.{IntoLast, AfterLast}
use Rattle.hu_chain.specs.Pattern.{into, last_from, Ends, EndsBelow}
use Rattle.hu_chain.specs.Grown.{grown, CanGrow, IsGrownFrom, Leads}
use Rattle.hu_chain.proofs.lemmas.Bounds.{grown_from-none, Ends-grown_from}
use Rattle.hu_chain.proofs.lemmas.Cells.{Ascend-itemset}
use Rattle.hu_chain.proofs.lemmas.Patterns.{Ends-after}
use Rattle.hu_chain.proofs.lemmas.Reached.{grown_from-itself, grown_from-next, reached}
use Rattle.hu_span.specs.declared.step.Step.{Step}
use Rattle.hu_span.specs.Gather.{MayTake}
use Rattle.hu_span.specs.Growing.{AreRecords, GrowsOn, IsBegun, IsReached, Records}
use Rattle.hu_span.specs.Step.{pattern_of}
use Rattle.hu_span.proofs.StepLemmas.{size-pattern_of}
use Rattle.hu_span.proofs.WeighedLemmas.{all-kept}

-- ---- itemsets ascend

below-last : (other item : ℕ) (items : List ℕ) → Ascend items → last_from other items < item → AllByRecursion (λ z. z < item) items
below-last other item [] up below = tt
below-last other item (x ∷ []) up below = (below, tt)
below-last other item (x ∷ y ∷ items) up below = let rest = below-last x item (y ∷ items) up.1 below in (omega (arith, up.0.0, rest.0), rest)

into-ascending : (pattern : List (List ℕ)) (item : ℕ) → EndsBelow pattern item → AllByRecursion IsSomeAscending pattern
    → AllByRecursion IsSomeAscending (into pattern item)
into-ascending [] item below all = ((omega arith, (tt, tt)), tt)
into-ascending (items ∷ []) item below all =
    let up = all.0.1 in
    ((omega (arith, length-append items (item ∷ [])), Ascend-last items item up (below-last 0 item items up below.below)), tt)
into-ascending (items ∷ next ∷ pattern) item below all =
    let ends = below.ends in
    (all.0, into-ascending (next ∷ pattern) item (record { ends = record { some = ends.some }; below = below.below }) all.1)

grown-ascending : (growth : Growth) (pattern : List (List ℕ)) (item : ℕ) → CanGrow growth pattern item → AllByRecursion IsSomeAscending pattern
    → AllByRecursion IsSomeAscending (grown growth pattern item)
grown-ascending IntoLast pattern item can all = into-ascending pattern item can all
grown-ascending AfterLast pattern item can all = each-append IsSomeAscending pattern ((item ∷ []) ∷ []) all ((omega arith, (tt, tt)), tt)

leads-ascending : (steps : List (Growth × ℕ)) (pattern other : List (List ℕ)) → Leads steps pattern other → AllByRecursion IsSomeAscending pattern
    → AllByRecursion IsSomeAscending other
leads-ascending [] pattern other leads all = subst (AllByRecursion IsSomeAscending) leads all
leads-ascending (step ∷ steps) pattern other leads all =
    leads-ascending steps (grown step.0 pattern step.1) other leads.1 (grown-ascending step.0 pattern step.1 leads.0 all)

from-ascending : (item : ℕ) (pattern : List (List ℕ)) → IsGrownFrom ((item ∷ []) ∷ []) pattern → AllByRecursion IsSomeAscending pattern
from-ascending item pattern from = leads-ascending from.steps ((item ∷ []) ∷ []) pattern from.leads ((omega arith, (tt, tt)), tt)

-- ---- patterns that are reached

pub Ends-reached : (pattern : List (List ℕ)) → IsReached pattern → Ends pattern
Ends-reached pattern is = Ends-grown_from ((is.0 ∷ []) ∷ []) pattern (Ends-after [] is.0) is.1

-- such a pattern may take the growths that it can take
pub can-reached : (growth : Growth) (pattern : List (List ℕ)) (item : ℕ) → IsReached pattern → MayTake growth pattern item → CanGrow growth pattern item
can-reached growth [] item is may = let ends = Ends-reached [] is in absurd (omega (arith, ends.some))
can-reached growth (items ∷ pattern) item is may = may

pub may-reached : (growth : Growth) (pattern : List (List ℕ)) (item : ℕ) → IsReached pattern → CanGrow growth pattern item → MayTake growth pattern item
may-reached growth [] item is can = let ends = Ends-reached [] is in absurd (omega (arith, ends.some))
may-reached growth (items ∷ pattern) item is can = can

-- what it grows to is reached
pub grown-reached : (growth : Growth) (pattern : List (List ℕ)) (item : ℕ) → IsBegun pattern → MayTake growth pattern item
    → IsReached (grown growth pattern item)
grown-reached IntoLast [] item begun may = absurd may
grown-reached AfterLast [] item begun may = (item, grown_from-itself ((item ∷ []) ∷ []))
grown-reached growth (items ∷ pattern) item (inl none) may = cc
grown-reached growth (items ∷ pattern) item (inr is) may = (is.0, grown_from-next growth ((is.0 ∷ []) ∷ []) (items ∷ pattern) item is.1 may)

-- ---- sizes and patterns

ascending-rules : (elements : List (List (ℕ × ℤ))) → IsSequence elements → AreRising elements
ascending-rules elements rules = each-weaker IsItemset (λ cells. Ascend (items_in cells)) elements Ascend-itemset rules.itemsets

module _ (records : Records) (are : AreRecords records) where
  -- no pattern that occurs has more steps than a record has cells
  pub steps-few : (steps : List Step) → IsReached (pattern_of steps) → 0 < sequence_support records (pattern_of steps) → length steps ≤ 4096
  steps-few steps is occurs =
      let pattern = pattern_of steps in
      let found = counted (λ r. is_some (best_utility pattern r)) records occurs in
      let rules = at_member IsSequence found.0 records are.rules found.1 in
      let sub = occurs-sub found.0 pattern (ascending-rules found.0 rules) (from-ascending is.0 pattern is.1) found.2 in
      omega (arith, size-sub found.0 pattern sub, rules.few, size-pattern_of steps)

  -- where a pattern occurs, what it grows from does
  pub support-before : (first other : List (List ℕ)) → Ends first → IsGrownFrom first other → 0 < sequence_support records other
      → 0 < sequence_support records first
  support-before first other ends from occurs =
      let found = counted (λ r. is_some (best_utility other r)) records occurs in
      by found.0 found.1 found.2 (best_utility first found.0) refl
    where
      by : (r : List (List (ℕ × ℤ))) → Member r records → is_some (best_utility other r) ≡ true → (u : Option ℤ) → best_utility first r ≡ u
          → 0 < sequence_support records first
      by r m there (Some x) e = count-member (λ s. is_some (best_utility first s)) r records m (ap is_some e)
      by r m there None e =
          let gone : is_some (best_utility other r) ≡ false = ap is_some (grown_from-none first other r
          (at_member IsSequence r records are.rules m) ends from e) in
          let bad : true ≡ false = sym there ∙ gone in
          cc

  all-ascending : AllByRecursion AreRising records
  all-ascending = each-weaker IsSequence AreRising records ascending-rules are.rules

  grows-pattern : (keep : ℕ → Bool) → (e : Entry) → GrowsOn records keep [] e → Contains (sequence_patterns records) e
  grows-pattern keep e on =
      let g = on.grows in
      let from : IsReached g.other = joined on.growth on.item on.may g.other g.from in
      let ends = Ends-reached g.other from in
      Contains-from_member e (sequence_patterns records)
      (pattern_entry-member records all-ascending e (record {
        pattern = g.other;
        some = some g.other ends;
        itemsets =
            from-ascending from.0 g.other from.1;
        occurs = g.occurs;
        is = g.is;
      }))
    where
      joined : (growth : Growth) (item : ℕ) → MayTake growth [] item → (other : List (List ℕ)) → IsGrownFrom (grown growth [] item) other → IsReached other
      joined IntoLast item may other from = absurd may
      joined AfterLast item may other from = (item, from)

      some : (p : List (List ℕ)) → Ends p → 0 < length p
      some [] ends = absurd (omega (arith, ends.some))
      some (x ∷ p) ends = omega arith

  pattern-grows : (keep : ℕ → Bool) → ((item : ℕ) → keep item ≡ true) → (e : Entry) → Contains (sequence_patterns records) e
      → GrowsOn records keep [] e
  pattern-grows keep every e c =
      let p = pattern_entry-from records all-ascending e (Member-from_contains e (sequence_patterns records) c) in
      by p.pattern p.some p.itemsets p.occurs p.is
    where
      by : (pattern : List (List ℕ)) → 0 < length pattern → AllByRecursion IsSomeAscending pattern → 0 < sequence_support records pattern
          → e ≡ sequence_entry records pattern
          → GrowsOn records keep [] e
      by [] some all occurs is = absurd (omega arith)
      by ([] ∷ rest) some all occurs is = absurd (omega (arith, all.0.0))
      by ((i ∷ more) ∷ rest) some all occurs is = record {
        growth = AfterLast;
        item = i;
        may = tt;
        grows = record {
          other = (i ∷ more) ∷ rest;
          from = reached i more rest all.0.1 all.1;
          kept = all-kept keep every
              ((i ∷ more) ∷ rest);
          occurs = occurs;
          is = is;
        };
      }

  -- what grows from the empty pattern are all patterns
  pub all-patterns : (keep : ℕ → Bool) → ((item : ℕ) → keep item ≡ true) → (e : Entry) → GrowsOn records keep [] e ↔ Contains (sequence_patterns records) e
  all-patterns keep every e = (grows-pattern keep e, pattern-grows keep every e)
