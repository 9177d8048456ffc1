use Rattle.std.proofs.Common.{◌∙◌, ap, rules}
use Rattle.std.proofs.lemmas.Fn.{always_returns_same}
use Rattle.std.proofs.lemmas.List.{take_all}
use Rattle.std.proofs.lemmas.List.Sorted.{IsNonDecreasingBy-from_sort_by_key}
use Rattle.hu_plain.specs.Grown.{all_grown, item_at}
use Rattle.hu_plain.specs.View.{rows_of}
use Rattle.hu_plain.proofs.RowLemmas.{weight-below}
use Rattle.hu_plain.proofs.GrownLemmas.{each-sorted}
use Rattle.hu_plain.proofs.grown.all_grown.Goals as goal

pub push_grown-requires : goal.push_grown-requires
push_grown-requires c = weight-below c.args.rows.now c.loop-row.row-index _ _ c.requires.sum_fits c.loop-row-test.true

pub returns : goal.returns
returns c =
    let rows = c.args.rows.now in
    let all = take_all c.loop-row.row-index rows c.loop-row-test.false in
    let stable = c.in_ok-sort_by_key.ensures.stable item_at (always_returns_same _ _ _ (λ a r f' called. search rules)) in
    record {
      rising = IsNonDecreasingBy-from_sort_by_key item_at _ c.in_ok-sort_by_key.ensures.sorted (λ a r f' called. search rules);
      each = each-sorted (rows_of rows) c.loop-row.grown.items c.sort_by_key.new.self.items c.requires.ascending
          (c.loop-row.invariant ∙ ap (λ rs. all_grown (rows_of rs)) all) stable;
    }
