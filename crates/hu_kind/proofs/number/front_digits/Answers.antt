use Rattle.std.proofs.Common.{◌+◌, arith, sym}
use Rattle.hu_kind.proofs.lemmas.Numerals.{next_digit, front-small}
use Rattle.hu_kind.proofs.number.front_digits.Goals as goal

pub overflow_mul-value : goal.overflow_mul-value
overflow_mul-value c =
    let small = front-small c.args.text.now c.loop-count.count 18 c.loop-count.invariant.digits c.loop-count.invariant.within c.loop-count.invariant.few in
    let next = next_digit c.args.text.now c.loop-count.count c.if-count-text.true c.loop-count.invariant.digits (sym c.if-is_ascii_digit.ensures.value) in
    let more =
    front-small c.args.text.now (c.loop-count.count + 1) 18 next.digits (omega (arith, c.if-count-text.true))
    (omega (arith, c.loop-count-test.true)) in
    omega (arith, next.value)

pub overflow_sub-text : goal.overflow_sub-text
overflow_sub-text c =
    let next = next_digit c.args.text.now c.loop-count.count c.if-count-text.true c.loop-count.invariant.digits (sym c.if-is_ascii_digit.ensures.value) in
    omega (arith, next.range)

pub overflow_add-value : goal.overflow_add-value
overflow_add-value c =
    let next = next_digit c.args.text.now c.loop-count.count c.if-count-text.true c.loop-count.invariant.digits (sym c.if-is_ascii_digit.ensures.value) in
    let more =
    front-small c.args.text.now (c.loop-count.count + 1) 18 next.digits (omega (arith, c.if-count-text.true))
    (omega (arith, c.loop-count-test.true)) in
    omega (arith, next.value)

pub loop-count-preserved : goal.loop-count-preserved
loop-count-preserved c =
    let next = next_digit c.args.text.now c.loop-count.count c.if-count-text.true c.loop-count.invariant.digits (sym c.if-is_ascii_digit.ensures.value) in
    record {
      within = omega (arith, c.if-count-text.true);
      few = omega (arith, c.loop-count-test.true);
      digits = next.digits;
      value = omega (arith, next.value);
    }
