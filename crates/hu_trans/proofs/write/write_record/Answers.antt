use Rattle.std.proofs.Common.{ap, sym, subst, ◌∙◌, arith}
use Rattle.std.proofs.lemmas.Grind.{common_steps}
use Rattle.hu_trans.specs.Reading.{reading}
use Rattle.hu_trans.specs.Canonical.{IsPlainLine}
use Rattle.hu_trans.proofs.WrittenLemmas.{IsPlainLine-canonical}
use Rattle.hu_trans.proofs.CanonicalLemmas.{reading-canonical}
use Rattle.hu_trans.proofs.write.write_record.Goals as goal

pub returns-clause-value : goal.returns-clause-value
returns-clause-value c = grind (arith, common_steps)

pub returns-clause-again : goal.returns-clause-again
returns-clause-again c =
    ap reading (returns-clause-value c) ∙ reading-canonical c.args.one.now c.cells-cells.ensures.rules

pub returns-clause-plain : goal.returns-clause-plain
returns-clause-plain c = subst IsPlainLine (sym (returns-clause-value c)) (IsPlainLine-canonical c.args.one.now c.cells-cells.ensures.rules)
