use Rattle.std.proofs.Common.{◌≡◌, ◌≤◌, length, rules}
use Rattle.hu_collect.specs.Rule.{last_utility}
use Rattle.hu_collect.proofs.Bodies.{last_utility-at_end}
use Rattle.hu_collect.proofs.lemmas.Floor.{floor_by-full}
use Rattle.hu_collect.proofs.top.floor_over.Goals as goal

pub returns-in-Some : goal.returns-in-Some
returns-in-Some c =
    let last : last_utility c.args.start c.args.entries.now.keys ≡ c.in-Some.last.now.utility =
    last_utility-at_end c.args.start c.args.entries.now.keys c.in-Some.last.now c.in-Some.ensures.last in
    let full : c.args.limit ≤ length c.args.entries.now.keys = search rules in
    rw (floor_by-full c.args.limit c.args.start c.args.entries.now.keys full, last) (search rules)
