use Rattle.std.proofs.Common.{◌≡◌, ◌++◌, ℕ, Bool, true, drop, take, filter}
use Rattle.std.specs.List.{AllByRecursion}
use Rattle.hu_kind.specs.Sequence.{IsSequence}
use Rattle.hu_chain.specs.Bound.{IsFit}
use Rattle.hu_span.specs.Kept.{takes, weighed_of}
use Rattle.hu_span.specs.Mark.{places_of}
use Rattle.hu_span.specs.Trail.{AreSpans}
use Rattle.hu_span.proofs.GatherLemmas.{first_from}
use Rattle.hu_span.proofs.gather.first_grown.Given as goal

abbrev pub invariant-records : goal.invariant-records
invariant-records l = record {
  so_far : (keep : ℕ → Bool) → ((item : ℕ) → keep item ≡ true)
      → l.after.marks.items ++ filter (takes keep) (first_from l.row (drop l.row (weighed_of keep l.records)))
      ≡ filter (takes keep) (first_from 0 (weighed_of keep l.records));
  fit : AllByRecursion IsFit (places_of l.after.marks.items);
  spans : (keep : ℕ → Bool) → ((item : ℕ) → keep item ≡ true) → AreSpans keep l.records l.trail.items l.after.marks.items l.after.spans.items;
  rules : AllByRecursion IsSequence (take l.row l.records);
}
