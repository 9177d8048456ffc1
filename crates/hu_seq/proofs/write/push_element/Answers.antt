use Rattle.std.proofs.Common.{◌++◌, pos, codes, flat_map, ap, ◌∙◌, sym}
use Rattle.std.proofs.lemmas.List.Folds.{flat_map-map}
use Rattle.hu_kind.specs.declared.item.Cell.{Cell}
use Rattle.hu_kind.specs.Cell.{pair_of}
use Rattle.hu_seq.specs.Canonical.{cell_text}
use Rattle.hu_seq.proofs.WriteLemmas.{written-more, written-all}
use Rattle.hu_seq.proofs.write.push_element.Goals as goal

pub loop-cell-preserved : goal.loop-cell-preserved
loop-cell-preserved c =
    let none : Cell = record { item = record { 0 = 0 }; value = pos 0 } in
    written-more (λ cell. cell_text (pair_of cell) ++ codes " ") c.cells-cell-items.result.now c.loop-cell.cell-index none _ _ _ c.loop-cell-test.true
    c.loop-cell.invariant c.in_ok-push_cell.ensures

pub returns : goal.returns
returns c =
    let cells = c.cells-cell-items.result.now in
    written-all (λ cell. cell_text (pair_of cell) ++ codes " ") cells c.loop-cell.cell-index c.args.line.now.items _ (codes "-1 ") _ c.loop-cell-test.false
    c.loop-cell.invariant c.in_ok-extend_from_slice.ensures.items
    ∙ ap (λ text. c.args.line.now.items ++ (text ++ codes "-1 "))
    (sym (flat_map-map (λ pair. cell_text pair ++ codes " ") pair_of cells)
    ∙ ap (flat_map (λ pair. cell_text pair ++ codes " ")) c.cells-cell-items.ensures.value)
