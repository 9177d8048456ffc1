use Rattle.hu_shelf.proofs.KeeperLemmas.{Replaces-counted}
use Rattle.hu_shelf.proofs.disk_keeper.DiskKeeperKeeper.replace.Goals as goal

pub returns-clause-replaces : goal.returns-clause-replaces
returns-clause-replaces g c =
    rw (← c.self.view_is) (Replaces-counted c.counted.result c.self.inside.faults c.counted.new.faults c.args.name.now c.args.text.now
    (rw c.counted.ensures.same c.counted.ensures.counts))

pub returns-clause-counts : goal.returns-clause-counts
returns-clause-counts g c = rw (← c.self.view_is) (rw c.counted.ensures.same c.counted.ensures.counts)
