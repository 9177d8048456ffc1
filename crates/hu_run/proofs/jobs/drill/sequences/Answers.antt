use Rattle.std.proofs.Common.{◌≡◌, pos, Some, ap, sym, subst, arith, ◌∙◌}
use Rattle.std.proofs.lemmas.Int.{ints}
use Rattle.std.proofs.lemmas.List.{append-nil}
use Rattle.hu_base.specs.Base.{records_in, records_of}
use Rattle.hu_kind.specs.Answer.{sequence_answer}
use Rattle.hu_drill.specs.Summary.{AreEarned}
use Rattle.hu_run.proofs.EarnedLemmas.{sequences-earned}
use Rattle.hu_run.proofs.jobs.drill.sequences.Goals as goal

pub of-requires : goal.of-requires
of-requires c =
    let base = c.in_ok-base.base in
    let all : records_in c.in_ok-batches.batches.items ≡ records_of base = ap records_in c.in_ok-batches.ensures.items ∙ append-nil (records_of base) in
    let is = c.deref.ensures.value ∙ c.in_ok-entries.ensures ∙ ap (λ r. sequence_answer r (pos 1) (Some 20)) all in
    subst AreEarned (sym is)
    (sequences-earned (records_of base) 20 (pos 1) c.in_ok-base.ensures.rules (omega (arith, c.in_ok-base.ensures.fit)) (omega arith) (omega (arith, ints)))
