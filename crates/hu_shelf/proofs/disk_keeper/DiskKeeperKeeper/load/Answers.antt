use Rattle.hu_shelf.proofs.KeeperLemmas.{Loads-counted}
use Rattle.hu_shelf.proofs.disk_keeper.DiskKeeperKeeper.load.Goals as goal

pub returns-clause-loads : goal.returns-clause-loads
returns-clause-loads g c =
    rw (← c.self.view_is) (Loads-counted c.counted.result c.self.inside.faults c.counted.new.faults c.args.name.now c.args.at c.read.new.into
    (rw c.counted.ensures.same c.counted.ensures.counts))

pub returns-clause-counts : goal.returns-clause-counts
returns-clause-counts g c = rw (← c.self.view_is) (rw c.counted.ensures.same c.counted.ensures.counts)
