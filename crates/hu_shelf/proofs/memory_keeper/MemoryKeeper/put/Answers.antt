use Rattle.hu_shelf.proofs.KeeperLemmas.{texts-set}
use Rattle.hu_shelf.proofs.memory_keeper.MemoryKeeper.put.Goals as goal

pub returns-clause-texts : goal.returns-clause-texts
returns-clause-texts c =
    rw (← c.self.view_is, ← c.in_ok-name.ensures.ok, ← c.in_ok-text.ensures.items)
    (texts-set _ c.self.inside.texts c.insert.new.self _ c.in_ok-insert.ensures.updates)
