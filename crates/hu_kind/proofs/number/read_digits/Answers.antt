use Rattle.std.proofs.Common.{◌<◌, length, sym, ap, ◌∙◌, arith}
use Rattle.std.specs.Str.Parse.{digits_value}
use Rattle.std.proofs.lemmas.List.{take_all}
use Rattle.std.proofs.lemmas.Bool.Decides.{nat_tests}
use Rattle.hu_kind.proofs.lemmas.Numerals.{digits_from-value, front-small}
use Rattle.hu_kind.proofs.number.read_digits.Goals as goal

pub returns-then-count-text-clause-value : goal.returns-then-count-text-clause-value
returns-then-count-text-clause-value c =
    let text = c.args.text.now in
    let front = c.front_digits-front.ensures in
    let count = c.front_digits-front.result.1 in
    let small = front-small text count 18 front.digits front.within front.few in
    let whole = take_all count text (omega (arith, c.if-count-text.true)) in
    let some : 0 < length text = grind (arith, nat_tests) in
    sym (digits_from-value c.args.at c.from.result text some (rw whole at front.digits) (omega (arith, c.if-count-text.true, front.few))
    (ap (digits_value 10) (sym whole) ∙ sym front.value ∙ sym c.from.ensures) (omega (arith, c.from.ensures, front.value)))
