-- What is known where a search begins.
use Rattle.std.proofs.Common.{◌≡◌, ◌<◌, ◌^◌, ℕ, Bool, true, List, [], sym, ap, subst, sum_by}
use Rattle.std.specs.List.{AllByRecursion}
use Rattle.hu_kind.specs.Record.{absolute_of}
use Rattle.hu_kind.specs.Sequence.{IsSequence}
use Rattle.hu_chain.specs.declared.chain.Growth.TheVariants.{AfterLast}
use Rattle.hu_span.specs.declared.gather.Grown.{Grown}
use Rattle.hu_span.specs.declared.step.Step.{Step}
use Rattle.hu_span.specs.Child.{AreGathered}
use Rattle.hu_span.specs.Gather.{AreGrown}
use Rattle.hu_span.specs.Growing.{AreRecords, Records}
use Rattle.hu_span.specs.Kept.{weighed_of, AreKept}
use Rattle.hu_span.specs.Step.{pattern_of}
use Rattle.hu_span.proofs.SearchLemmas.{first-gathered}
use Rattle.hu_span.proofs.WeighedLemmas.{all-kept, weighed-records}

-- no step is taken, and by what the empty pattern grows is gathered
pub record IsRoot (records seen : Records) (keep : ℕ → Bool) (steps : List Step) (grown : Grown) : Type 0 where
  pub are : AreRecords records
  pub weighed : AreRecords (weighed_of keep seen)
  pub none : pattern_of steps ≡ []
  pub empty : AreGathered (weighed_of keep seen) keep [] grown
  pub gathered : AreGathered (weighed_of keep seen) keep (pattern_of steps) grown
  pub own : AreKept keep (pattern_of steps)

pub root : {records seen : Records} (keep : ℕ → Bool) {steps : List Step} (grown : Grown) → seen ≡ records
    → ((item : ℕ) → keep item ≡ true) → sum_by (λ elements. sum_by absolute_of elements) records < 2 ^ 127
    → AllByRecursion IsSequence seen → steps ≡ [] → grown.into.marks.items ≡ []
    → AreGrown (weighed_of keep seen) keep [] AfterLast grown.after.marks.items → IsRoot records seen keep steps grown
root {records} {seen} keep {steps} grown same every fits rules none into after =
    let are : AreRecords records = record { rules = subst (AllByRecursion IsSequence) same rules; fits = fits } in
    let weighed = weighed-records keep seen (subst AreRecords (sym same) are) in
    let empty = ap pattern_of none in
    let gathered = first-gathered (weighed_of keep seen) keep grown weighed into after in
    record {
      are = are;
      weighed = weighed;
      none = empty;
      empty = gathered;
      gathered = subst (λ p. AreGathered (weighed_of keep seen) keep p grown) (sym empty) gathered;
      own = all-kept keep every (pattern_of steps);
    }
