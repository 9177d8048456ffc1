use Rattle.hu_io.proofs.LookupLemmas.{Adds-pairs}
use Rattle.hu_io.proofs.contents.Contents.add.Goals as goal

pub returns-clause-ok : goal.returns-clause-ok
returns-clause-ok c =
    rw (← c.self.view_is, ← c.in_ok-name.ensures.ok, ← c.in_ok-bytes.ensures.items)
    (Adds-pairs (λ v. v.items) _ c.self.inside.by_name c.insert.new.self _ c.in_ok-insert.ensures.updates)
