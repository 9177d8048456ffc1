use Rattle.std.proofs.Common.{◌≡◌, ◌∙◌, ap, arith, sum_by, take, drop}
use Rattle.std.proofs.lemmas.Int.{ints}
use Rattle.std.proofs.lemmas.List.Sums.{sum_by-take-drop}
use Rattle.hu_base.proofs.base.Base.split_off.Goals as goal

pub absolute_sum-sum-requires : goal.absolute_sum-sum-requires
absolute_sum-sum-requires g c =
    let absolute = g.R.Absolute.absolute in
    let records = c.self.inside.records.items in
    let parts = sum_by-take-drop absolute records c.args.count in
    let rest : sum_by absolute c.deref.result.now ≡ sum_by absolute (drop c.args.count records) =
    ap (sum_by absolute) (c.deref.ensures.value ∙ c.in_ok-records.ensures.tail) in
    omega (arith, ints, parts, rest, c.self.invariant.1, c.self.ranges)

pub invariant_of-self-2 : goal.invariant_of-self-2
invariant_of-self-2 g c =
    let absolute = g.R.Absolute.absolute in
    let records = c.self.inside.records.items in
    let parts = sum_by-take-drop absolute records c.args.count in
    let rest : sum_by absolute c.deref.result.now ≡ sum_by absolute (drop c.args.count records) =
    ap (sum_by absolute) (c.deref.ensures.value ∙ c.in_ok-records.ensures.tail) in
    let front : sum_by absolute c.split_off.new.self.items ≡ sum_by absolute (take c.args.count records) =
    ap (sum_by absolute) c.in_ok-records.ensures.items in
    (c.self.invariant.0, omega (arith, ints, parts, rest, front, c.self.invariant.1, c.self.ranges, c.absolute_sum-sum.ensures))
