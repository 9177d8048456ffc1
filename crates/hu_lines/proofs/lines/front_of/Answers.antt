use Rattle.std.proofs.Common.{Some, None, sym, ap, length, ◌∙◌}
use Rattle.std.proofs.Math.Seq.{take-length}
use Rattle.hu_lines.proofs.lemmas.PieceLemmas.{front_found}
use Rattle.hu_lines.proofs.lines.front_of.Goals as goal

pub returns-in-Some-clause-taken : goal.returns-in-Some-clause-taken
returns-in-Some-clause-taken c = (front_found c.args.piece.now (Some c.in-Some.place) c.in-Some.ensures).1

pub returns-in-Some-clause-front : goal.returns-in-Some-clause-front
returns-in-Some-clause-front c = (front_found c.args.piece.now (Some c.in-Some.place) c.in-Some.ensures).0

pub returns-in-Some-clause-whole : goal.returns-in-Some-clause-whole
returns-in-Some-clause-whole c = sym (front_found c.args.piece.now (Some c.in-Some.place) c.in-Some.ensures).2

pub returns-in-None-clause-taken : goal.returns-in-None-clause-taken
returns-in-None-clause-taken c = ap length (sym (front_found c.args.piece.now None c.in-None.ensures).0)

pub returns-in-None-clause-front : goal.returns-in-None-clause-front
returns-in-None-clause-front c = take-length c.args.piece.now ∙ sym (front_found c.args.piece.now None c.in-None.ensures).0

pub returns-in-None-clause-whole : goal.returns-in-None-clause-whole
returns-in-None-clause-whole c = sym (front_found c.args.piece.now None c.in-None.ensures).1
