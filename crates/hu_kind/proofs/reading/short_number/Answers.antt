use Rattle.std.proofs.Common.{pos, subst, sym}
use Rattle.hu_kind.specs.Number.{number}
use Rattle.hu_kind.specs.Reading.{BeginsWith}
use Rattle.hu_kind.proofs.ReadLemmas.{BeginsWith-digits}
use Rattle.hu_kind.proofs.reading.short_number.Goals as goal

pub returns-then-is_end : goal.returns-then-is_end
returns-then-is_end c =
    let front = c.front_digits-value.ensures in
    let text = c.args.text.now in
    let count = c.front_digits-value.result.1 in
    subst (λ n. BeginsWith number text (pos n) count) (sym front.value)
    (BeginsWith-digits text count c.if-count-gt0.true front.few front.within front.digits (c.is_end.ensures c.if-is_end.true))
