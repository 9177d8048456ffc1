use Rattle.std.proofs.Common.{◌<ℤ◌, ◌≤ℤ◌, None, sym, rules}
use Rattle.hu_kind.specs.Order.{entry_cmp, ranking}
use Rattle.hu_collect.proofs.Bodies.{made-pushed, made-low, kept-ranking, same_state}
use Rattle.hu_collect.proofs.all.AllCollect.offer.Goals as goal

pub returns-in_ok-push : goal.returns-in_ok-push
returns-in_ok-push c =
    let least : c.self.inside.start ≤ℤ c.args.entry.utility = search rules in
    rw (c.in_ok-push.ensures.items, ← c.self.view_is)
    (same_state c.self.inside.start None (sym (made-pushed c.self.inside.start c.self.inside.offered.items c.args.entry least)))

pub returns-else-entry-self : goal.returns-else-entry-self
returns-else-entry-self c =
    let low : c.args.entry.utility <ℤ c.self.inside.start = search rules in
    let kept = kept-ranking c.self.inside.start c.self.inside.offered.items in
    rw (← c.self.view_is)
    (same_state c.self.inside.start None (sym (made-low c.self.inside.start None (ranking entry_cmp c.self.inside.offered.items) c.args.entry kept low)))
