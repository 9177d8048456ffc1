use Rattle.std.proofs.Common.{◌<◌, length, arith}
use Rattle.std.proofs.lemmas.Bool.Decides.{nat_tests}
use Rattle.hu_shelf.proofs.FindLemmas.{found_none, found_text, found_told, long_damaged, read_text}
use Rattle.hu_shelf.proofs.lemmas.StoreLemmas.{still_same}
use Rattle.hu_shelf.proofs.shelf.Shelf.find.Goals as goal

pub returns-in_default-clause-err : goal.returns-in_default-clause-err
returns-in_default-clause-err g c =
    let state = g.K.Keeper.state c.args.keeper.now in
    record {
      cause = long_damaged state c.args.name.now c.in_ok-text.field-0 c.in_ok-text.ensures.told c.in_default.is;
      stays = still_same state (g.K.Keeper.state c.read.new.keeper) c.in_ok-text.ensures.same;
    }

pub returns-clause-told : goal.returns-clause-told
returns-clause-told g c =
    let state = g.K.Keeper.state c.args.keeper.now in
    let told = read_text state c.args.name.now c.in_ok-text.field-0 c.in-Some.text c.in_ok-text.ensures.told c.in-Some.is in
    found_told state c.args.name.now c.in-Some.text.items c.read-2.result told c.read-2.ensures.ok

pub returns-clause-text : goal.returns-clause-text
returns-clause-text g c =
    let state = g.K.Keeper.state c.args.keeper.now in
    let told = read_text state c.args.name.now c.in_ok-text.field-0 c.in-Some.text c.in_ok-text.ensures.told c.in-Some.is in
    found_text state c.args.name.now c.in-Some.text.items c.read-2.result told c.read-2.ensures.ok

pub returns-clause-err : goal.returns-clause-err
returns-clause-err g c =
    let state = g.K.Keeper.state c.args.keeper.now in
    let told = read_text state c.args.name.now c.in_ok-text.field-0 c.in-Some.text c.in_ok-text.ensures.told c.in-Some.is in
    let some : 0 < length c.in-Some.text.items = grind (arith, nat_tests) in
    found_none state (g.K.Keeper.state c.read.new.keeper) c.args.name.now c.in-Some.text.items c.read-2.result told some
    c.in_ok-text.ensures.same c.read-2.ensures.err
