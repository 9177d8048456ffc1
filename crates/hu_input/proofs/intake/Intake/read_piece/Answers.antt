use Rattle.std.proofs.Common.{rules, arith, subst, take}
use Rattle.std.proofs.lemmas.List.{length-take-le}
use Rattle.hu_input.specs.Intake.{Took}
use Rattle.hu_input.proofs.FileLemmas.{piece_read, piece_stopped}
use Rattle.hu_input.proofs.intake.Intake.read_piece.Goals as goal

pub returns-in-Ok-take : goal.returns-in-Ok-take
returns-in-Ok-take g c =
    let reading = g.T.Format.reading in
    let absolute = g.T.Record.Absolute.absolute in
    let v = c.args.self.now in
    let n = c.in-Ok.count in
    let into = c.get.new.into in
    piece_read reading absolute v c.take.new.self (g.F.Files.state c.args.files.now) (g.F.Files.state c.get.new.self) c.args.name.now c.args.at n into
    c.in-Ok.ensures.gets c.in-Ok.ensures.bound.0 (search (rules, arith))
    (subst (Took reading absolute v c.take.new.self (take n into)) (length-take-le n into c.in-Ok.ensures.bound.0) c.in-Ok-take.ensures.ok)

pub returns-in-Err-take : goal.returns-in-Err-take
returns-in-Err-take g c =
    piece_stopped g.T.Format.reading g.T.Record.Absolute.absolute c.args.self.now (g.F.Files.state c.args.files.now)
    (g.F.Files.state c.get.new.self) c.args.name.now c.args.at c.in-Ok.count
    c.get.new.into c.in-Err-take.stop c.in_file.result c.in-Ok.ensures.gets c.in-Ok.ensures.bound.0 c.in-Err-take.ensures.err c.in_file.ensures
