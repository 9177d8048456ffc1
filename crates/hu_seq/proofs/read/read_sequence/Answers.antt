use Rattle.std.proofs.Common.{◌∙◌, inl, inr}
use Rattle.std.proofs.lemmas.Result.{err_from_is_err_and}
use Rattle.hu_seq.proofs.ReadingLemmas.{reading-memory}
use Rattle.hu_seq.proofs.FaultLemmas.{reading-bad, reading-ok, reading-err}
use Rattle.hu_seq.proofs.read.read_sequence.Goals as goal

pub returns-in_err-tokens-clause-err : goal.returns-in_err-tokens-clause-err
returns-in_err-tokens-clause-err c =
    let p = err_from_is_err_and c.from_residual.result c.from_residual.ensures.1 in
    rw (p.1, p.2) (elim c.in_err-tokens.ensures.err [
      | inl memory ↦ inl memory
      | inr bad ↦ inr (reading-bad c.args.line.now c.in_err-tokens.field-0.0 bad)
    ])

pub returns-in_err-tokens-clause-always : goal.returns-in_err-tokens-clause-always
returns-in_err-tokens-clause-always c = reading-memory c.args.line.now

pub returns-clause-ok : goal.returns-clause-ok
returns-clause-ok c =
    reading-ok c.args.line.now c.deref.result.now (c.deref.ensures.value ∙ c.in_ok-tokens.ensures.told)
    c.in_ok-tokens.ensures.ok c.sequence.result c.sequence.ensures.value c.sequence.ensures.ok

pub returns-clause-err : goal.returns-clause-err
returns-clause-err c =
    reading-err c.args.line.now c.deref.result.now (c.deref.ensures.value ∙ c.in_ok-tokens.ensures.told)
    c.in_ok-tokens.ensures.ok c.sequence.result c.sequence.ensures.err

pub returns-clause-always : goal.returns-clause-always
returns-clause-always c = reading-memory c.args.line.now
