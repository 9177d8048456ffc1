use Rattle.std.proofs.Common.{sym}
use Rattle.hu_proof.proofs.SplitLemmas.{split-first, split-none}
use Rattle.hu_proof.proofs.words.cut.Goals as goal

pub returns-in_err-place-clause-none : goal.returns-in_err-place-clause-none
returns-in_err-place-clause-none c =
    rw c.from_residual.ensures (split-none c.args.byte c.args.text.now (sym c.in_err-place.ensures))

pub returns-clause-found : goal.returns-clause-found
returns-clause-found c = split-first c.args.byte c.args.text.now c.in_ok-place.place (sym c.in_ok-place.ensures)
