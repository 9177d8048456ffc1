use Rattle.std.proofs.Common.{◌≤◌, ap, sym, ◌∙◌}
use Rattle.std.specs.Option.{option_map}
use Rattle.hu_kind.specs.Cell.{pair_of, pairs_of}
use Rattle.hu_seq.proofs.ItemsetLemmas.{cells-push, cells-skip}
use Rattle.std.proofs.lemmas.List.Elements.{All-push}
use Rattle.hu_seq.proofs.itemset.read_cells.Goals as goal
use Rattle.hu_seq.proofs.itemset.read_cells.Goals.{in-Some+in_ok-push, in_default}

pub loop-token-preserved : goal.loop-token-preserved
loop-token-preserved c =
    elim c.match-cell.branch [
      | in-Some+in_ok-push w ↦
          let items = ap (λ v. v.items) w.cells-is ∙ w.in_ok-push.ensures.items in
          record {
            value =
                ap pairs_of items
                ∙ cells-push c.loop-token.cells.items c.args.itemset.now c.loop-token.token-index _ w.in-Some.cell
                c.loop-token-test.true (sym (ap (option_map pair_of) w.in-Some.is) ∙ c.cell.ensures.value)
                c.loop-token.invariant.value;
            in_range =
                rw items
                (All-push (λ cell. cell.item.0 ≤ 2147483647) c.loop-token.cells.items w.in-Some.cell
                c.loop-token.invariant.in_range w.in-Some.ensures.in_range);
          }
      | in_default w ↦
          let items = ap (λ v. v.items) w.cells-is in
          record {
            value =
                ap pairs_of items
                ∙ cells-skip c.loop-token.cells.items c.args.itemset.now c.loop-token.token-index _
                c.loop-token-test.true (sym (ap (option_map pair_of) w.in_default.is) ∙ c.cell.ensures.value)
                c.loop-token.invariant.value;
            in_range = rw items c.loop-token.invariant.in_range;
          }
    ]
