use Rattle.std.proofs.Common.{rules, ◌≡◌, ◌∙◌, ◌∷◌, ◌++◌, ap, sym}
use Rattle.hu_kept.specs.Entries.{entries_from}
use Rattle.hu_kept.proofs.HeldLemmas.{put-new}
use Rattle.hu_kept.proofs.held.by_key.Goals as goal

pub loop-entry-preserved : goal.loop-entry-preserved
loop-entry-preserved c =
    let rest = c.next.new.self.rest.items in
    let step : c.loop-entry.entry-iterator.rest.items ≡ c.in-Some.entry ∷ rest = search rules in
    let whole = sym (ap (λ es. entries_from c.loop-entry.held.entries ++ es) step) ∙ c.loop-entry.invariant in
    put-new c.loop-entry.held.entries c.insert.new.self.entries c.in-Some.entry rest c.args.entries.items c.requires
    whole c.of-one.result c.of-one.ensures c.in_ok-insert.ensures.entries
