use Rattle.std.proofs.Common.{◌≡◌, ◌≤◌, ◌∷◌, ◌++◌, length, zip, FitsSigned, refl, sym, ap, ◌∙◌, arith, rules}
use Rattle.std.specs.Int.{w128}
use Rattle.std.specs.Iterator.Adapters.{zip_first, zip_second}
use Rattle.std.specs.Slice.Iter.{iter_rest}
use Rattle.std.proofs.lemmas.Int.{to_z-of_z}
use Rattle.std.proofs.lemmas.List.Elements.{All-tail}
use Rattle.std.proofs.lemmas.Slice.Zip.{Zip-more}
use Rattle.hu_kind.specs.Cell.{pairs_of}
use Rattle.hu_trans.proofs.CellLemmas.{pairs_of-push}
use Rattle.hu_trans.proofs.judge.cells_of.Goals as goal

pub loop-item-preserved : goal.loop-item-preserved
loop-item-preserved c =
    let more = Zip-more c.loop-item.item-iterator c.next.new.self c.next.result (c.in-Some.item, c.in-Some.value) c.in-Some.is c.next.ensures.steps in
    let fits : FitsSigned w128 c.in-Some.value.now = search rules in
    let same_value = to_z-of_z w128 c.in-Some.value.now fits in
    let rest = zip (iter_rest (zip_first c.next.new.self)) (iter_rest (zip_second c.next.new.self)) in
    let left : zip (iter_rest (zip_first c.loop-item.item-iterator)) (iter_rest (zip_second c.loop-item.item-iterator))
    ≡ (c.in-Some.item.now, c.in-Some.value.now) ∷ rest = rw (more.0, more.1) refl in
    let push = c.in_ok-push.ensures.items in
    record {
      ready = (tt, tt);
      finite = tt;
      in_range = All-tail (λ item. item ≤ 2147483647) _ _ (rw more.0 at c.loop-item.invariant.in_range);
      same = omega (arith, ap length more.0, ap length more.1);
      so_far =
          ap (λ cells. pairs_of cells ++ rest) push
          ∙ pairs_of-push c.loop-item.cells.items _ rest
          ∙ ap (λ value. pairs_of c.loop-item.cells.items ++ (c.in-Some.item.now, value) ∷ rest) same_value
          ∙ ap (λ pairs. pairs_of c.loop-item.cells.items ++ pairs) (sym left)
          ∙ c.loop-item.invariant.so_far;
    }
