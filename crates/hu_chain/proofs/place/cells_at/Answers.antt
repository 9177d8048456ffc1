use Rattle.std.proofs.Common.{◌∙◌, sym, subst}
use Rattle.hu_kind.specs.Record.{IsItemset}
use Rattle.hu_chain.proofs.Tails.{element_at-any, element-length, IsPlain-element}
use Rattle.hu_chain.proofs.place.cells_at.Goals as goal

pub returns-clause-plain : goal.returns-clause-plain
returns-clause-plain c =
    let here = element_at-any c.args.elements.now c.args.number c.index-elements-number.result c.requires.within ∙ sym c.index-elements-number.is in
    IsPlain-element c.args.elements.now c.args.number c.requires.sequence (subst IsItemset (sym here) c.cells.ensures.rules)

pub returns-clause-few : goal.returns-clause-few
returns-clause-few c = element-length c.args.elements.now c.args.number c.requires.sequence
