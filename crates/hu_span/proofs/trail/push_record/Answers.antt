use Rattle.std.proofs.Common.{◌∙◌, ◌++◌, ◌∷◌, [], append_assoc, length, reverse, sum_by, sym, ap, arith}
use Rattle.std.proofs.lemmas.List.{length-append, length-map}
use Rattle.std.proofs.lemmas.List.Sums.{sum_by_push}
use Rattle.hu_kind.specs.Cell.{pair_of}
use Rattle.hu_chain.proofs.lemmas.Bounds.{elements-few}
use Rattle.hu_span.specs.Trail.{cells_from, numbered}
use Rattle.hu_span.proofs.TrailLemmas.{from-back}
use Rattle.hu_span.proofs.trail.push_record.Goals as goal

pub overflow_cast-before : goal.overflow_cast-before
overflow_cast-before c =
    let size = ap length c.in-Some.ensures.cases.0 ∙ length-append c.in-Some.before.now (c.in-Some.element.now ∷ []) in
    omega (arith, size, c.elements.invariant.few, elements-few c.args.elements.now c.requires)

pub push_element-requires : goal.push_element-requires
push_element-requires c =
    let sum = ap (sum_by length) c.in-Some.ensures.cases.0 ∙ sum_by_push length c.in-Some.before.now c.in-Some.element.now in
    let size = length-map c.cells.result.now pair_of in
    let same = ap length c.cells.ensures.value in
    omega (arith, sum, size, same, c.elements.invariant.cells)

pub elements-preserved : goal.elements-preserved
elements-preserved c =
    let element = c.in-Some.element.now in
    let before = c.in-Some.before.now in
    let is = c.in-Some.ensures.cases.0 in
    let size = ap length is ∙ length-append before (element ∷ []) in
    let sum = ap (sum_by length) is ∙ sum_by_push length before element in
    let old = c.elements.trail.items in
    let own = reverse (numbered (length before) 0 element) in
    let others = reverse (cells_from 0 before) in
    record {
      few = omega (arith, c.elements.invariant.few, size);
      cells = omega (arith, c.elements.invariant.cells, sum);
      so_far = (λ j. (c.in_ok-push_element.ensures ∙ ap (λ cs. old ++ reverse (numbered (length before) 0 cs)) c.cells.ensures.value) j ++ others)
          ∙ append_assoc old own others
          ∙ ap (λ xs. old ++ xs) (sym (from-back before element))
          ∙ ap (λ es. old ++ reverse (cells_from 0 es)) (sym is)
          ∙ c.elements.invariant.so_far;
    }
