use Rattle.std.proofs.Common.{subst, sym}
use Rattle.hu_base.specs.Base.{records_of}
use Rattle.hu_closed.specs.Found.{Finds}
use Rattle.hu_closed.proofs.HolderRecords.{ArePlaced-sets, AreSets-seen, Finds-sets}
use Rattle.hu_closed.proofs.sets.RecordSets.found.Goals as goal

pub at_places-requires : goal.at_places-requires
at_places-requires c =
    let lists = c.deref.result.now in
    let holders = c.self.inside.holders in
    let are =
    AreSets-seen (records_of c.self.inside.seen.value) c.args.self.now c.self.inside.lists.items lists holders
    c.self.invariant c.self.view_is c.deref.ensures.value in
    let rare = c.rarest.ensures in
    ArePlaced-sets c.args.self.now lists holders c.rarest.result.now rare.0 are rare.2

pub returns : goal.returns
returns c =
    let lists = c.deref.result.now in
    let holders = c.self.inside.holders in
    let are =
    AreSets-seen (records_of c.self.inside.seen.value) c.args.self.now c.self.inside.lists.items lists holders
    c.self.invariant c.self.view_is c.deref.ensures.value in
    subst (Finds c.args.self.now c.args.numbers.now) (sym c.at_places.ensures)
    (Finds-sets c.args.self.now lists holders c.rarest.result.now c.args.numbers.now are c.rarest.ensures)
