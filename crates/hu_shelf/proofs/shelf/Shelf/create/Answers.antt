use Rattle.std.proofs.Common.{◌<◌, ◌^◌, unsigned_abs, arith, ◌≡◌, false}
use Rattle.std.proofs.lemmas.Int.{ints}
use Rattle.std.proofs.lemmas.Bool.Decides.{nat_tests}
use Rattle.hu_shelf.proofs.FindLemmas.{found_there}
use Rattle.hu_shelf.proofs.ShelfLemmas.{IsStore-fresh}
use Rattle.hu_shelf.proofs.lemmas.StoreLemmas.{still_same}
use Rattle.hu_shelf.proofs.shelf.Shelf.create.Goals as goal

pub returns-clause-store : goal.returns-clause-store
returns-clause-store g c =
    let small : unsigned_abs c.args.least < 2 ^ 127 = omega (arith, ints, c.ranges.least.sfits) in
    IsStore-fresh c.args.least c.args.top c.args.closed small c.requires.least c.requires.some c.requires.few

pub returns-then-not-branch-clause-err : goal.returns-then-not-branch-clause-err
returns-then-not-branch-clause-err g c =
    let state = g.K.Keeper.state c.args.keeper.now in
    let some : c.in_ok-is_empty.field-0 ≡ false = grind (arith, nat_tests) in
    record {
      cause = found_there state c.args.name.now c.in_ok-is_empty.field-0 c.in_ok-is_empty.ensures.told some;
      stays = still_same state (g.K.Keeper.state c.is_empty.new.keeper) c.in_ok-is_empty.ensures.same;
    }
