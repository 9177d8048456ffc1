use Rattle.std.proofs.Common.{◌≡◌, length, arith}
use Rattle.hu_shelf.proofs.ContentLemmas.{read_piece}
use Rattle.hu_shelf.proofs.content.read_by.Goals as goal

pub pieces-preserved : goal.pieces-preserved
pieces-preserved g c =
    let here : c.len-in-pieces.result ≡ length c.pieces.text.items = omega arith in
    read_piece (g.K.Keeper.state c.args.keeper.now) (g.K.Keeper.state c.pieces.keeper) (g.K.Keeper.state c.load.new.self) c.args.name.now
    c.pieces.text.items c.load.new.into c.push_piece.new.text.items c.len-in-pieces.result c.in_ok-count.count c.pieces.invariant
    c.in_ok-count.ensures.loads here c.in_ok-count.ensures.bound.0 c.in_ok-push_piece.ensures
