use Rattle.std.proofs.Common.{sym, ◌∙◌, subst}
use Rattle.std.specs.Prelude.{IfErr, OnOk}
use Rattle.hu_input.specs.View.{View}
use Rattle.hu_input.specs.Intake.{IsOpen, Judges, Ends, RefusesLast}
use Rattle.hu_input.proofs.FileLemmas.{ended_ok, ended_err}
use Rattle.hu_input.proofs.intake.Intake.judge_last.Goals as goal

pub returns-then-end-clause-ok : goal.returns-then-end-clause-ok
returns-then-end-clause-ok g c =
    let reading = g.T.Format.reading in
    let absolute = g.T.Record.Absolute.absolute in
    let inside = c.self.inside in
    let v : View g.row.T-Record.Denot = record { lines = inside.lines; base = inside.base } in
    let rest = c.end.ensures.rest.0 c.if-end.true in
    subst (λ u. OnOk c.judge.result (Ends reading absolute u c.judge.new.self)) c.self.view_is
    (ended_ok reading absolute v c.judge.new.self c.judge.result (subst (λ u. IsOpen u.lines) (sym c.self.view_is) c.requires) rest.0 rest.1
    (c.judge.ensures.lines ∙ c.end.ensures.ended)
    (subst (λ t. Judges reading absolute t v.base c.judge.new.self.base c.judge.result) c.end.ensures.ended c.judge.ensures.judged))

pub returns-then-end-clause-err : goal.returns-then-end-clause-err
returns-then-end-clause-err g c =
    let reading = g.T.Format.reading in
    let absolute = g.T.Record.Absolute.absolute in
    let inside = c.self.inside in
    let v : View g.row.T-Record.Denot = record { lines = inside.lines; base = inside.base } in
    let rest = c.end.ensures.rest.0 c.if-end.true in
    subst (λ u. IfErr c.judge.result (RefusesLast reading absolute u)) c.self.view_is
    (ended_err reading absolute v c.judge.new.self.base c.judge.result (subst (λ u. IsOpen u.lines) (sym c.self.view_is) c.requires) rest.0 rest.1
    (subst (λ t. Judges reading absolute t v.base c.judge.new.self.base c.judge.result) c.end.ensures.ended c.judge.ensures.judged))
