use Rattle.std.proofs.Common.{◌≡◌, ◌∙◌, true, refl, sym, subst}
use Rattle.std.specs.Prelude.{IfErr}
use Rattle.hu_lines.specs.Pieces.{first_piece, has_line_feed}
use Rattle.hu_input.specs.View.{View}
use Rattle.hu_input.specs.Intake.{Refuses, Took, IsOpen}
use Rattle.hu_input.proofs.FrontLemmas.{IsFed, front_limited, front_goes_on, front_joined, front_stopped}
use Rattle.hu_input.proofs.InputLemmas.{err_is}
use Rattle.hu_input.proofs.intake.Intake.take_front.Given.{Over}
use Rattle.hu_input.proofs.intake.Intake.take_front.Goals.{In_ok-fed, Then-fed}
use Rattle.hu_input.proofs.intake.Intake.take_front.Goals as goal

pub returns-in_err-fed-clause-err : goal.returns-in_err-fed-clause-err
returns-in_err-fed-clause-err g c =
    let reading = g.T.Format.reading in
    let absolute = g.T.Record.Absolute.absolute in
    let inside = c.self.inside in
    let v : View g.row.T-Record.Denot = record { lines = inside.lines; base = inside.base } in
    let piece = c.args.piece.now in
    subst (λ u. IfErr c.from_residual.result (Refuses reading absolute u piece)) c.self.view_is
    (subst (λ r. IfErr r (Refuses reading absolute v piece)) (sym (err_is _ _ c.from_residual.ensures.1))
    (front_limited reading absolute v piece c.in_err-fed.field-0.0
    (subst (λ u. IsOpen u.lines) (sym c.self.view_is) c.requires.open) c.requires.some
    (sym c.in_err-fed.ensures.refusal)))

-- what was taken of the piece is held
fed_at : (g : Over) (c : In_ok-fed g) → IsFed c.self.inside.lines c.feed.new.self c.args.piece.now c.in_ok-fed.fed.taken
fed_at g c =
    let e = c.in_ok-fed.ensures in
    record {
      is = e.ok;
      opened = record { not_ended = e.going; accepted = e.accepted; held = e.held };
      taken = e.taken;
      front = e.front;
      within = e.within;
      some = e.some;
    }

-- the line has ended
ended_at : (g : Over) (c : Then-fed g) → has_line_feed (first_piece c.args.piece.now) ≡ true
ended_at g c = sym c.in_ok-fed.ensures.whole ∙ c.if-fed.true

pub returns-in_err-judge-clause-err : goal.returns-in_err-judge-clause-err
returns-in_err-judge-clause-err g c =
    let reading = g.T.Format.reading in
    let absolute = g.T.Record.Absolute.absolute in
    let v : View g.row.T-Record.Denot = record { lines = c.self.inside.lines; base = c.self.inside.base } in
    let piece = c.args.piece.now in
    let fed = fed_at g (goal.at.returns-in_err-judge-clause-err g c).In_ok-fed in
    let ended = ended_at g (goal.at.returns-in_err-judge-clause-err g c).Then-fed in
    subst (λ u. IfErr c.from_residual-in_err-judge.result (Refuses reading absolute u piece)) c.self.view_is
    (subst (λ r. IfErr r (Refuses reading absolute v piece)) (sym (err_is _ _ c.from_residual-in_err-judge.ensures.1))
    (front_stopped reading absolute v c.feed.new.self c.judge.new.self.base c.in_ok-fed.fed.taken piece
    c.in_err-judge.field-0.0 fed ended c.in_err-judge.ensures.judged))

pub returns-in_ok-judge-clause-ok : goal.returns-in_ok-judge-clause-ok
returns-in_ok-judge-clause-ok g c =
    let reading = g.T.Format.reading in
    let absolute = g.T.Record.Absolute.absolute in
    let v : View g.row.T-Record.Denot = record { lines = c.self.inside.lines; base = c.self.inside.base } in
    let piece = c.args.piece.now in
    let fed = fed_at g (goal.at.returns-in_ok-judge-clause-ok g c).In_ok-fed in
    let ended = ended_at g (goal.at.returns-in_ok-judge-clause-ok g c).Then-fed in
    subst (λ u. Took reading absolute u c.judge.new.self piece c.in_ok-fed.fed.taken) c.self.view_is
    (front_joined reading absolute v c.judge.new.self c.feed.new.self c.in_ok-fed.fed.taken piece fed ended
    c.in_ok-judge.ensures.lines c.in_ok-judge.ensures.judged)

pub returns-else-fed-clause-ok : goal.returns-else-fed-clause-ok
returns-else-fed-clause-ok g c =
    let reading = g.T.Format.reading in
    let absolute = g.T.Record.Absolute.absolute in
    let v : View g.row.T-Record.Denot = record { lines = c.self.inside.lines; base = c.self.inside.base } in
    let w : View g.row.T-Record.Denot = record { lines = c.feed.new.self; base = c.self.inside.base } in
    let piece = c.args.piece.now in
    let fed = fed_at g (goal.at.returns-else-fed-clause-ok g c).In_ok-fed in
    subst (λ u. Took reading absolute u w piece c.in_ok-fed.fed.taken) c.self.view_is
    (front_goes_on reading absolute v w c.in_ok-fed.fed.taken piece fed (sym c.in_ok-fed.ensures.whole ∙ c.if-fed.false) refl)
