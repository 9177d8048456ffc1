use Rattle.std.proofs.Common.{rules, ◌∙◌, ◌++◌, [], ap, sym}
use Rattle.hu_base.specs.Base.{records_of}
use Rattle.hu_kept.proofs.RenewalLemmas.{fresh-entries}
use Rattle.hu_kept.proofs.kept.Kept.new.Goals as goal

pub invariant_of-result : goal.invariant_of-result
invariant_of-result c = record {
  asked = search rules;
  own = search rules;
  front = ([], ap (λ front. front ++ []) c.none.ensures ∙ sym (ap records_of c.after.ensures));
  answer = fresh-entries _ c.new.result.entries c.after.result c.new.ensures.empty c.after.ensures;
}
