use Rattle.hu_collect.specs.Rule.{rule_of}
use Rattle.hu_kept.specs.Limited.{content_in, rule_in}
use Rattle.hu_kept.specs.Entries.{entries_from}
use Rattle.hu_kept.proofs.RenewalLemmas.{Offers}
use Rattle.hu_kept.proofs.renewal.with_untouched.Given as goal

abbrev pub invariant-loop-key : goal.invariant-loop-key
invariant-loop-key l =
    Offers (rule_of l.fn.aim.least l.fn.aim.top) l.batch (entries_from l.old.entries) (rule_in l.collect)
    (content_in l.collect) (entries_from l.key-iterator)
