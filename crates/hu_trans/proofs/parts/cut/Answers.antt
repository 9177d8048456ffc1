use Rattle.std.proofs.Common.{sym}
use Rattle.hu_trans.proofs.LineLemmas.{parts-first, parts-none}
use Rattle.hu_trans.proofs.parts.cut.Goals as goal

pub returns-in_err-place-clause-none : goal.returns-in_err-place-clause-none
returns-in_err-place-clause-none c =
    rw c.from_residual.ensures (parts-none c.args.text.now (sym c.in_err-place.ensures))

pub returns-clause-found : goal.returns-clause-found
returns-clause-found c = parts-first c.args.text.now c.in_ok-place.place (sym c.in_ok-place.ensures)
