use Rattle.std.proofs.Common.{None}
use Rattle.hu_collect.proofs.Bodies.{same_state, kept-ranking}
use Rattle.hu_collect.proofs.all.AllCollect.floor.Goals as goal

pub returns-clause-in_order : goal.returns-clause-in_order
returns-clause-in_order c = rw (← c.self.view_is) (same_state c.self.inside.start None (kept-ranking c.self.inside.start c.self.inside.offered.items))
