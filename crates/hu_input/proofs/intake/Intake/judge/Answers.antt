use Rattle.std.proofs.Common.{◌≡◌, ◌+◌, ◌^◌, Some, Ok, false, sym, ap, ◌∙◌, subst, inl, inr}
use Rattle.std.proofs.lemmas.Bool.{cases_lt}
use Rattle.hu_base.specs.Base.{sum_of}
use Rattle.hu_base.specs.declared.base.AddFault.TheVariants.{NoMemory}
use Rattle.hu_lines.specs.Pieces.{line_of}
use Rattle.hu_lines.specs.Skipped.{is_skipped_line}
use Rattle.hu_input.specs.Intake.{Judges}
use Rattle.hu_input.proofs.InputLemmas.{line_accepted, line_too_large}
use Rattle.hu_input.proofs.intake.Intake.judge.Goals as goal
use Rattle.hu_input.proofs.intake.Intake.judge.Goals.{in-Ok-add, in-Err-SumTooLarge, in-Err-NoMemory}

pub returns-clause-judged : goal.returns-clause-judged
returns-clause-judged g c =
    let reading = g.T.Format.reading in
    let absolute = g.T.Record.Absolute.absolute in
    let inside = c.self.inside in
    let one = c.in-Ok.one in
    let line = line_of inside.lines.bytes in
    let held : is_skipped_line line ≡ false = ap is_skipped_line (sym c.line-line.ensures.value) ∙ sym c.is_skipped.ensures ∙ c.if-is_skipped.false in
    let read : reading line ≡ Ok one = ap reading (sym c.line-line.ensures.value) ∙ sym c.in_ok-one.ensures ∙ c.in-Ok.is in
    let IsJudged = Judges reading absolute inside.lines inside.base c.add.new.self in
    subst (λ v. Judges reading absolute v.lines v.base c.add.new.self c.match-add.result) c.self.view_is
    (elim c.match-add.branch [
      | in-Ok-add w ↦ subst IsJudged (sym w.result-is) (
        Some one,
        line_accepted reading absolute _ line one held read w.in-Ok-add.ensures.within,
        w.in-Ok-add.ensures.ok,
      )
      | in-Err-SumTooLarge w ↦
          subst IsJudged (sym w.result-is)
          (elim (cases_lt (sum_of absolute inside.base + absolute one) (2 ^ 127)) [
            | inl fits ↦ let memory : w.in-Err-SumTooLarge.field-0 ≡ NoMemory = w.in-Err-SumTooLarge.ensures.fits fits in
                let large = w.in-Err-SumTooLarge.field-0-is in
                cc
            | inr large ↦ (line_too_large reading absolute _ line one held read large, c.number-number.ensures.value)
          ])
      | in-Err-NoMemory w ↦ subst IsJudged (sym w.result-is) tt
    ])
