use Rattle.std.proofs.Common.{◌∙◌, sym}
use Rattle.hu_kept.proofs.ChangeLemmas.{changes-entries}
use Rattle.hu_kept.proofs.changes.Changes.between.Goals as goal

pub returns : goal.returns
returns c =
    (λ j. record { added = c.more_keys.ensures j; changed = c.other_values.ensures j; dropped = c.more_keys-2.ensures j })
    ∙ sym (changes-entries c.args.old.now.entries c.args.new.now.entries)
