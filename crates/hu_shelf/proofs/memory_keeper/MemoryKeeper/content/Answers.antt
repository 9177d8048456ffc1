use Rattle.std.proofs.Common.{ap, sym, ◌∙◌}
use Rattle.hu_shelf.proofs.KeeperLemmas.{items_in, text-pairs}
use Rattle.hu_shelf.proofs.memory_keeper.MemoryKeeper.content.Goals as goal

pub returns-in-Some : goal.returns-in-Some
returns-in-Some c =
    rw (← c.self.view_is, c.as_slice.ensures.value) (ap items_in c.in-Some.ensures.value ∙ sym (text-pairs c.self.inside.texts c.args.name.now))

pub returns-in-None : goal.returns-in-None
returns-in-None c =
    rw (← c.self.view_is) (ap items_in c.in-None.ensures.value ∙ sym (text-pairs c.self.inside.texts c.args.name.now))
