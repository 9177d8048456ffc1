use Rattle.std.proofs.Common.{◌≡◌, ◌+◌, ◌++◌, drop, sym, subst, [], ◌∷◌, arith, rules, slice_index_or}
use Rattle.hu_rows.specs.Rows.{size_of, count_of}
use Rattle.hu_rows.specs.Merging.{merged}
use Rattle.hu_rows.specs.View.{row_of, rows_of}
use Rattle.hu_rows.proofs.RunLemmas.{run-within, run-end, run-step}
use Rattle.hu_rows.proofs.PastEnd.{past_row}
use Rattle.hu_rows.proofs.merge.merge_sorted.Goals as goal

pub merge_run-requires-clause-sizes : goal.merge_run-requires-clause-sizes
merge_run-requires-clause-sizes c =
    omega (arith, run-within size_of c.args.rows.now c.loop-start.start c.same_at_front-same.result past_row c.loop-start-test.true, c.requires.sizes)

pub merge_run-requires-clause-counts : goal.merge_run-requires-clause-counts
merge_run-requires-clause-counts c =
    omega (arith, run-within count_of c.args.rows.now c.loop-start.start c.same_at_front-same.result past_row c.loop-start-test.true, c.requires.counts)

pub loop-start-preserved : goal.loop-start-preserved
loop-start-preserved c =
    let rows = c.args.rows.now in
    let start = c.loop-start.start in
    let same = c.same_at_front-same.result in
    let one = c.in_ok-merge_run.field-0 in
    let done = c.loop-start.merged.items in
    let pushed : c.push.new.self.items ≡ done ++ one ∷ [] = search rules in
    let first = row_of (slice_index_or rows start past_row) in
    record {
      within = omega (arith, run-end first rows start c.loop-start-test.true, c.same_at_front-same.ensures);
      value = subst (λ items. rows_of items ++ merged (rows_of (drop (start + (1 + same)) rows)) ≡ merged (rows_of rows)) (sym pushed)
          (run-step rows start same past_row done one c.loop-start-test.true c.same_at_front-same.ensures c.in_ok-merge_run.ensures
          c.loop-start.invariant.value);
    }
