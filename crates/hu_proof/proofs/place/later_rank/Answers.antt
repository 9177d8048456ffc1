use Rattle.std.proofs.Common.{sym}
use Rattle.hu_proof.proofs.Orders.{member-among}
use Rattle.hu_proof.proofs.Ranks.{StandsAt-position, not_among-drop, Member-drop, not_in-drop, after-drop}
use Rattle.hu_proof.proofs.lemmas.OrderMembers.{not_among}
use Rattle.hu_proof.proofs.place.later_rank.Goals as goal

pub returns-in_err-rank-clause-none : goal.returns-in_err-rank-clause-none
returns-in_err-rank-clause-none c =
    rw c.from_residual.ensures (not_among-drop c.args.order.now c.args.item.0 c.args.from (sym c.in_err-rank.ensures))

pub returns-then-rank-from-clause-none : goal.returns-then-rank-from-clause-none
returns-then-rank-from-clause-none c =
    let at = StandsAt-position c.args.order.now c.args.item.0 c.in_ok-rank.rank (sym c.in_ok-rank.ensures) in
    not_among c.args.item.0 _ (not_in-drop c.args.order.now c.args.item.0 c.in_ok-rank.rank c.args.from c.requires at c.if-rank-from.true)

pub returns-else-rank-from-clause-after : goal.returns-else-rank-from-clause-after
returns-else-rank-from-clause-after c =
    let at = StandsAt-position c.args.order.now c.args.item.0 c.in_ok-rank.rank (sym c.in_ok-rank.ensures) in
    after-drop c.args.order.now c.args.item.0 c.in_ok-rank.rank c.args.from c.requires at c.if-rank-from.false

pub returns-else-rank-from-clause-some : goal.returns-else-rank-from-clause-some
returns-else-rank-from-clause-some c =
    let at = StandsAt-position c.args.order.now c.args.item.0 c.in_ok-rank.rank (sym c.in_ok-rank.ensures) in
    member-among c.args.item.0 _ (Member-drop c.args.order.now c.args.item.0 c.in_ok-rank.rank c.args.from at c.if-rank-from.false)
