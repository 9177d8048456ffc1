use Rattle.std.proofs.Common.{◌∙◌, ◌++◌, ◌∷◌, [], length, reverse, rules, SFits, sym, ap, arith}
use Rattle.std.specs.Int.{w128}
use Rattle.std.proofs.lemmas.Int.{to_z-of_z}
use Rattle.std.proofs.lemmas.List.{length-append, length-map, map-append}
use Rattle.hu_kind.specs.Cell.{pair_of, pairs_of}
use Rattle.hu_span.specs.Trail.{numbered}
use Rattle.hu_span.proofs.SpanLemmas.{pushed-next}
use Rattle.hu_span.proofs.TrailLemmas.{numbered-back}
use Rattle.hu_span.proofs.trail.push_element.Goals as goal

pub cells-preserved : goal.cells-preserved
cells-preserved c =
    let cell = c.in-Some.cell.now in
    let before = c.in-Some.before.now in
    let is = c.in-Some.ensures.cases.0 in
    let fits : SFits w128 cell.value = search rules in
    let size = ap length is ∙ length-append before (cell ∷ []) in
    let pairs = ap pairs_of is ∙ map-append pair_of before (cell ∷ []) in
    let n = length-map before pair_of in
    let next = ap (λ ps. reverse (numbered c.args.element 0 ps)) pairs ∙ numbered-back c.args.element (pairs_of before) (pair_of cell)
    ∙ ap (λ k. record { item = cell.item; element = c.args.element; cell = k; value = cell.value } ∷ reverse
    (numbered c.args.element 0 (pairs_of before))) n in
    record {
      few = omega (arith, c.cells.invariant.few, size);
      so_far = pushed-next c.cells.trail.items c.push.new.self.items _ (reverse (numbered c.args.element 0 (pairs_of before))) _
          (c.in_ok-push.ensures.items ∙ ap (λ v. c.cells.trail.items
          ++ record { item = cell.item; element = c.args.element; cell = length before; value = v } ∷ []) (to_z-of_z w128 cell.value fits))
          (ap (λ xs. c.cells.trail.items ++ xs) (sym next) ∙ c.cells.invariant.so_far);
    }
