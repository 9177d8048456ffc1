use Rattle.std.proofs.Common.{◌≡◌, ◌<◌, ◌≤◌, ◌+◌, ◌^◌, length, pos, unsigned_abs, ap, ◌∙◌, inr, arith, rules, to_z, of_z}
use Rattle.std.proofs.lemmas.Result.{err_from_is_err_and}
use Rattle.std.specs.Int.{w128}
use Rattle.std.proofs.lemmas.Int.{to_z-of_z}
use Rattle.hu_base.specs.Base.{records_of}
use Rattle.hu_shelf.specs.declared.fault.ShelfFault.TheVariants.{SumTooLarge}
use Rattle.hu_shelf.specs.Shelf.{absolute_sum}
use Rattle.hu_shelf.proofs.ShelfLemmas.{IsAppended, add_fault-large, appended_by, appended_none, appended_shelf, appended_too_long}
use Rattle.hu_shelf.proofs.shelf.Shelf.append.Goals as goal

pub returns-then-len-gt-MOST_BYTES-clause-err : goal.returns-then-len-gt-MOST_BYTES-clause-err
returns-then-len-gt-MOST_BYTES-clause-err c =
    let kept = c.self.inside.kept in
    let bytes = c.push_records.new.text.items in
    let before : to_z w128 (of_z w128 c.self.inside.sum) ≡ c.self.inside.sum = to_z-of_z w128 c.self.inside.sum (search rules) in
    let is : IsAppended kept (records_of c.args.batch) bytes =
    appended_by kept (records_of c.args.batch) c.records.result.now (to_z w128 (of_z w128 c.self.inside.sum)) c.self.inside.text.items bytes
    (before ∙ c.self.invariant.sum) c.self.invariant.text c.in_ok-sum.ensures.fits c.records.ensures c.in_ok-push_records.ensures.text
    c.in_ok-push_records.ensures.written in
    let long : 268435456 < length bytes = omega arith in
    inr (rw (← c.self.view_is) (appended_too_long kept (records_of c.args.batch) bytes is long))

pub invariant_of-shelf : goal.invariant_of-shelf
invariant_of-shelf c =
    let kept = c.self.inside.kept in
    let bytes = c.push_records.new.text.items in
    let before : to_z w128 (of_z w128 c.self.inside.sum) ≡ c.self.inside.sum = to_z-of_z w128 c.self.inside.sum (search rules) in
    let is : IsAppended kept (records_of c.args.batch) bytes =
    appended_by kept (records_of c.args.batch) c.records.result.now (to_z w128 (of_z w128 c.self.inside.sum)) c.self.inside.text.items bytes
    (before ∙ c.self.invariant.sum) c.self.invariant.text c.in_ok-sum.ensures.fits c.records.ensures c.in_ok-push_records.ensures.text
    c.in_ok-push_records.ensures.written in
    let short : length bytes ≤ 268435456 = omega arith in
    let after : to_z w128 (of_z w128 c.in_ok-sum.sum) ≡ c.in_ok-sum.sum = to_z-of_z w128 c.in_ok-sum.sum (search rules) in
    let total : c.in_ok-sum.sum ≡ pos (absolute_sum kept.records + absolute_sum (records_of c.args.batch)) =
    c.in_ok-sum.ensures.sum ∙ ap (λ z. pos (unsigned_abs z + absolute_sum (records_of c.args.batch))) (before ∙ c.self.invariant.sum) in
    appended_shelf kept c.append.new.self (records_of c.args.batch) bytes (to_z w128 (of_z w128 c.in_ok-sum.sum)) c.self.inside.closed
    c.self.invariant.store is short c.in-Ok.ensures.ok (after ∙ total) c.self.invariant.closed

pub returns-clause-changes : goal.returns-clause-changes
returns-clause-changes c = rw (← c.self.view_is) c.in-Ok.ensures.changes

pub returns-clause-fits : goal.returns-clause-fits
returns-clause-fits c =
    let kept = c.self.inside.kept in
    let bytes = c.push_records.new.text.items in
    let before : to_z w128 (of_z w128 c.self.inside.sum) ≡ c.self.inside.sum = to_z-of_z w128 c.self.inside.sum (search rules) in
    let is : IsAppended kept (records_of c.args.batch) bytes =
    appended_by kept (records_of c.args.batch) c.records.result.now (to_z w128 (of_z w128 c.self.inside.sum)) c.self.inside.text.items bytes
    (before ∙ c.self.invariant.sum) c.self.invariant.text c.in_ok-sum.ensures.fits c.records.ensures c.in_ok-push_records.ensures.text
    c.in_ok-push_records.ensures.written in
    let short : length bytes ≤ 268435456 = omega arith in
    rw (← c.self.view_is) (appended_none kept (records_of c.args.batch) bytes is short)

pub returns-in_err-sum-clause-err : goal.returns-in_err-sum-clause-err
returns-in_err-sum-clause-err c =
    let kept = c.self.inside.kept in
    let before : to_z w128 (of_z w128 c.self.inside.sum) ≡ c.self.inside.sum = to_z-of_z w128 c.self.inside.sum (search rules) in
    let batch = records_of c.args.batch in
    let sum = before ∙ c.self.invariant.sum in
    let large : 2 ^ 127 ≤ absolute_sum kept.records + absolute_sum batch = rw sum at c.in_err-sum.ensures.large in
    let fault = c.in_err-sum.ensures.fault ∙ ap (λ z. SumTooLarge z (pos (absolute_sum batch))) sum in
    let p = err_from_is_err_and c.from_residual.result c.from_residual.ensures.1 in
    rw (p.1, p.2, fault) (inr (rw (← c.self.view_is) (add_fault-large kept batch large)))
