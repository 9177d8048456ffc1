use Rattle.std.proofs.Common.{◌+◌, sym, ap, ◌∙◌, inr, arith, Err}
use Rattle.std.specs.Str.Parse.{digits_value}
use Rattle.std.proofs.lemmas.Bool.Decides.{nat_tests}
use Rattle.std.proofs.lemmas.List.{take_all}
use Rattle.hu_kind.proofs.lemmas.Numerals.{digit_at, next_digit, digits_from-fault, digits_from-value, digits_value-front}
use Rattle.hu_kind.proofs.number.read_rest.Goals as goal
use Rattle.hu_kind.proofs.number.read_rest.Goals.{then-not-is_ascii_digit-via-then-not-is_ascii_digit}
use Rattle.hu_kind.proofs.number.read_rest.Goals.{then-not-is_ascii_digit-via-else-not-is_ascii_digit+then-is_past}

pub returns-then-not-is_ascii_digit-clause-value : goal.returns-then-not-is_ascii_digit-clause-value
returns-then-not-is_ascii_digit-clause-value c =
    let text = c.args.text.now in
    let i = c.loop-i.i in
    ap Err c.fault_after-then-not-is_ascii_digit.ensures ∙ sym (digits_from-fault c.args.at text (omega (arith, c.requires.within)) (λ none.
    let is = digit_at text i none (omega (arith, c.loop-i-test.true)) in
    let next = next_digit text i (omega (arith, c.loop-i-test.true)) c.loop-i.invariant.digits is in
    elim c.then-not-is_ascii_digit.branch [
      | then-not-is_ascii_digit-via-then-not-is_ascii_digit w ↦ absurd (cc)
      | then-not-is_ascii_digit-via-else-not-is_ascii_digit+then-is_past w ↦
          let value = c.loop-i.invariant.value in
          let front = digits_value-front text (i + 1) in
          let told = next.value in
          let past = w.is_past.ensures in
          let yes = w.if-is_past.true in
          inr (grind (arith, nat_tests))
    ]))

pub loop-i-preserved : goal.loop-i-preserved
loop-i-preserved c =
    let next = next_digit c.args.text.now c.loop-i.i (omega (arith, c.loop-i-test.true)) c.loop-i.invariant.digits (grind (arith, nat_tests)) in
    let past = c.is_past.ensures in
    let no = c.if-is_past.false in
    record {
      digits = next.digits;
      value = omega (arith, next.value);
      small = grind (arith, nat_tests);
    }

pub returns-clause-value : goal.returns-clause-value
returns-clause-value c =
    let text = c.args.text.now in
    let whole = take_all c.loop-i.i text (omega (arith, c.loop-i-test.false)) in
    sym (digits_from-value c.args.at c.loop-i.value text (omega (arith, c.requires.within))
    (rw whole at c.loop-i.invariant.digits) (omega (arith, c.if-text-gt39.false))
    (ap (digits_value 10) (sym whole) ∙ sym c.loop-i.invariant.value) c.loop-i.invariant.small)
