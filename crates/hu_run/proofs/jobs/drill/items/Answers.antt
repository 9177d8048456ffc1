use Rattle.std.proofs.Common.{pos, sym, subst, arith, ◌∙◌}
use Rattle.std.proofs.lemmas.Int.{ints}
use Rattle.hu_base.specs.Base.{records_in}
use Rattle.hu_drill.specs.Summary.{AreEarned}
use Rattle.hu_run.proofs.EarnedLemmas.{items-earned}
use Rattle.hu_run.proofs.jobs.drill.items.Goals as goal

pub of-requires : goal.of-requires
of-requires c =
    subst AreEarned (sym (c.deref.ensures.value ∙ c.in_ok-entries.ensures))
    (items-earned (records_in c.in_ok-batches.batches.items) 100 (pos 1) c.in_ok-batches.ensures.fit (omega arith) (omega (arith, ints)))
