use Rattle.std.proofs.Common.{[], ◌++◌, codes, decimal, sum_by, ap, ◌∙◌, sym, rules, FitsSigned, flat_map, subst}
use Rattle.std.specs.Fmt.{signed_decimal}
use Rattle.std.specs.Int.{w128}
use Rattle.std.proofs.lemmas.Int.{to_z-of_z}
use Rattle.hu_kind.specs.Record.{absolute_of}
use Rattle.hu_seq.specs.Canonical.{itemset_text, IsPlainLine}
use Rattle.hu_seq.specs.Reading.{reading}
use Rattle.hu_seq.proofs.CanonicalLemmas.{reading-canonical}
use Rattle.hu_seq.proofs.PlainLemmas.{IsPlainLine-canonical}
use Rattle.hu_seq.proofs.WriteLemmas.{written-more, written-all}
use Rattle.hu_seq.proofs.write.write_sequence.Goals as goal

pub loop-element-preserved : goal.loop-element-preserved
loop-element-preserved c =
    let elements = c.elements-element-items.result.now in
    written-more itemset_text elements c.loop-element.element-index c.element-item.result [] _ _ c.loop-element-test.true c.loop-element.invariant
    (c.in_ok-push_element.ensures ∙ ap (λ e. c.loop-element.line.items ++ itemset_text e) c.element-item.is)

pub returns-clause-value : goal.returns-clause-value
returns-clause-value c =
    let elements = c.elements-element-items.result.now in
    let fits : FitsSigned w128 c.absolute.result = search rules in
    let sum = sum_by absolute_of c.args.one.now in
    c.in_ok-push_number.ensures
    ∙ ap (λ z. c.extend_from_slice.new.self.items ++ signed_decimal z) (to_z-of_z w128 c.absolute.result fits ∙ c.absolute.ensures.value)
    ∙ ap (λ front. front ++ decimal sum)
    (written-all itemset_text elements c.loop-element.element-index [] c.loop-element.line.items (codes "-2 SUtility:") c.extend_from_slice.new.self.items
    c.loop-element-test.false c.loop-element.invariant c.in_ok-extend_from_slice.ensures.items)
    ∙ ap (λ es. (flat_map itemset_text es ++ codes "-2 SUtility:") ++ decimal sum) c.elements-element-items.ensures.value

pub returns-clause-plain : goal.returns-clause-plain
returns-clause-plain c = subst IsPlainLine (sym (returns-clause-value c)) (IsPlainLine-canonical c.args.one.now c.elements-element-items.ensures.rules)

pub returns-clause-again : goal.returns-clause-again
returns-clause-again c = ap reading (returns-clause-value c) ∙ reading-canonical c.args.one.now c.elements-element-items.ensures.rules
