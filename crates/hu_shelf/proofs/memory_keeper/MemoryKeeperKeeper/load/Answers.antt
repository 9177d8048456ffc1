use Rattle.std.proofs.Common.{sym, ◌∙◌}
use Rattle.hu_shelf.proofs.KeeperLemmas.{Fails-planned}
use Rattle.hu_shelf.proofs.memory_keeper.MemoryKeeperKeeper.load.Goals as goal

pub returns-then-next_fails-clause-loads : goal.returns-then-next_fails-clause-loads
returns-then-next_fails-clause-loads c =
    Fails-planned c.args.self.now c.next_fails.new.self c.args.name.now
    (sym c.next_fails.ensures.fails ∙ c.if-next_fails.true) c.next_fails.ensures.after c.next_fails.ensures.later
