use Rattle.hu_base.specs.Base.{records_of}
use Rattle.hu_mine.proofs.SearchLemmas.{mined-ranked}
use Rattle.hu_mine.proofs.search.search.Goals as goal

pub returns-in_ok-gate-in-Lists : goal.returns-in_ok-gate-in-Lists
returns-in_ok-gate-in-Lists g c =
    mined-ranked c.mine.result (g.C.Collect.state c.args.collect.now) (g.C.Collect.state c.mine.new.collect) (records_of c.args.base) c.args.ranked.now
    c.floor-floor.ensures.in_order c.requires.patterns c.requires.floor c.mine.ensures

pub returns-in-Project : goal.returns-in-Project
returns-in-Project g c =
    mined-ranked c.mine-in-Project.result (g.C.Collect.state c.args.collect.now)
    (g.C.Collect.state c.mine-in-Project.new.collect) (records_of c.args.base) c.args.ranked.now
    c.floor-floor.ensures.in_order c.requires.patterns c.requires.floor c.mine-in-Project.ensures
