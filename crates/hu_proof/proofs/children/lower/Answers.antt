use Rattle.std.proofs.Common.{sym, inl, inr}
use Rattle.hu_proof.proofs.Ranks.{StandsAt-position}
use Rattle.hu_proof.proofs.Lowest.{lower-no, lower-none, at-stands, named-none, named-some}
use Rattle.hu_proof.proofs.children.lower.Goals as goal
use Rattle.hu_proof.proofs.children.lower.Goals.{else-from-rank-via-then-from-rank+then-rank-low+else-is_none}
use Rattle.hu_proof.proofs.children.lower.Goals.{else-from-rank-via-then-from-rank+else-rank-low}
use Rattle.hu_proof.proofs.children.lower.Goals.{else-from-rank-via-else-from-rank}

pub returns-in_err-rank-clause-none : goal.returns-in_err-rank-clause-none
returns-in_err-rank-clause-none c =
    rw c.from_residual.ensures (lower-none c.args.order.now c.args.named.now c.args.from c.args.low c.args.item.0 c.requires.within
    (sym c.in_err-rank.ensures))

pub returns-then-is_none-clause-some : goal.returns-then-is_none-clause-some
returns-then-is_none-clause-some c =
    let at = StandsAt-position c.args.order.now c.args.item.0 c.in_ok-rank.rank (sym c.in_ok-rank.ensures) in
    record {
      above = c.if-from-rank.true;
      below = c.if-rank-low.true;
      within = at.within;
      is = at-stands c.args.order.now c.args.item.0 c.in_ok-rank.rank at;
      unnamed = named-none c.args.named.now c.args.item.0 c.rank_of-then-rank-low.result c.rank_of-then-rank-low.ensures c.if-is_none.ensures;
    }

pub returns-else-from-rank-clause-none : goal.returns-else-from-rank-clause-none
returns-else-from-rank-clause-none c =
    let at = StandsAt-position c.args.order.now c.args.item.0 c.in_ok-rank.rank (sym c.in_ok-rank.ensures) in
    let out = lower-no c.args.order.now c.args.named.now c.args.from c.args.low c.args.item.0 c.in_ok-rank.rank c.requires.apart c.requires.within at in
    elim c.else-from-rank.branch [
      | else-from-rank-via-then-from-rank+then-rank-low+else-is_none w ↦
          out (inr (inr (named-some c.args.named.now c.args.item.0 w.rank_of-then-rank-low.result w.rank_of-then-rank-low.ensures w.if-is_none.ensures)))
      | else-from-rank-via-then-from-rank+else-rank-low w ↦ out (inr (inl w.if-rank-low.false))
      | else-from-rank-via-else-from-rank w ↦ out (inl w.if-from-rank.false)
    ]
