use Rattle.std.proofs.Common.{◌∙◌, ◌++◌, ◌∷◌, [], ◌≤◌, length, sym, ap, subst, arith, take}
use Rattle.std.specs.Prelude.{unsigned_abs}
use Rattle.std.specs.Int.{w128}
use Rattle.std.specs.String.{string_bytes}
use Rattle.std.proofs.lemmas.Int.{to_z-of_z}
use Rattle.std.proofs.lemmas.List.{take_all, length-map}
use Rattle.hu_base.specs.Base.{carried_of}
use Rattle.hu_input.specs.Names.{texts_of}
use Rattle.hu_input.specs.Intake.{TookFile, StopsAt, RefusesFile}
use Rattle.hu_input.specs.Reading.{ReadsFiles}
use Rattle.hu_input.proofs.InputLemmas.{err_is}
use Rattle.hu_input.proofs.NamesLemmas.{AreRead, IsAt, text_at, read_more, read_all, read_stopped}
use Rattle.hu_input.proofs.input.read_files.Goals as goal

pub loop-name-preserved : goal.loop-name-preserved
loop-name-preserved g c =
    let reading = g.T.Format.reading in
    let absolute = g.T.Record.Absolute.absolute in
    let names = c.args.names.now in
    let texts = texts_of names in
    let i = c.loop-name.name-index in
    let name = c.as_str.result.now in
    let kept = c.loop-name.invariant in
    let files = g.F.Files.state c.args.files.now in
    let sum = carried_of c.in_ok-intake.intake.base in
    let new = g.F.Files.state c.read_file.new.files in
    let v = c.loop-name.intake in
    let w = c.read_file.new.self in
    let base = c.in_ok-read_file.field-0 in
    let bases = c.loop-name.bases.items in
    let at : IsAt texts i name = text_at names i c.name-item.result name c.loop-name-test.true c.name-item.is c.as_str.ensures.value in
    let took : TookFile reading absolute v w files new name base =
    subst (λ old. TookFile reading absolute v w old new name base) kept.same c.in_ok-read_file.ensures in
    record {
      fresh = took.fresh;
      room = kept.room;
      same = took.same;
      read = subst (λ done. AreRead reading absolute sum files done w c.push.new.self.items) (sym at.cut)
          (subst (λ items. AreRead reading absolute sum files (take i texts ++ name ∷ []) w items) (sym c.in_ok-push.ensures.items)
          (read_more reading absolute sum files (take i texts) v w bases new name base kept.read took));
    }

pub returns-in_err-read_file : goal.returns-in_err-read_file
returns-in_err-read_file g c =
    let reading = g.T.Format.reading in
    let absolute = g.T.Record.Absolute.absolute in
    let names = c.args.names.now in
    let texts = texts_of names in
    let i = c.loop-name.name-index in
    let name = c.as_str.result.now in
    let kept = c.loop-name.invariant in
    let files = g.F.Files.state c.args.files.now in
    let new = g.F.Files.state c.read_file.new.files in
    let v = c.loop-name.intake in
    let stop = c.in_err-read_file.field-0.0 in
    let at : IsAt texts i name = text_at names i c.name-item.result name c.loop-name-test.true c.name-item.is c.as_str.ensures.value in
    let stops : StopsAt files new name (RefusesFile reading absolute v) stop =
    subst (λ old. StopsAt old new name (RefusesFile reading absolute v) stop) kept.same
    c.in_err-read_file.ensures in
    let read =
    subst (λ sum. AreRead reading absolute sum files (take i texts) v c.loop-name.bases.items)
    (c.in_ok-intake.ensures.sum ∙ ap unsigned_abs (to_z-of_z w128 c.args.carried c.ranges.carried)) kept.read in
    subst (ReadsFiles reading absolute c.args.carried files new texts) (sym (err_is _ _ c.from_residual-in_err-read_file.ensures.1))
    (read_stopped reading absolute c.args.carried files new texts i name v c.loop-name.bases.items stop at read stops)

pub returns : goal.returns
returns g c =
    let reading = g.T.Format.reading in
    let absolute = g.T.Record.Absolute.absolute in
    let names = c.args.names.now in
    let texts = texts_of names in
    let i = c.loop-name.name-index in
    let kept = c.loop-name.invariant in
    let files = g.F.Files.state c.args.files.now in
    let v = c.loop-name.intake in
    let bases = c.loop-name.bases.items in
    let over : length texts ≤ i = omega (arith, length-map names string_bytes) in
    let read =
    subst (λ sum. AreRead reading absolute sum files (take i texts) v bases)
    (c.in_ok-intake.ensures.sum ∙ ap unsigned_abs (to_z-of_z w128 c.args.carried c.ranges.carried)) kept.read in
    read_all reading absolute (unsigned_abs c.args.carried) files (g.F.Files.state c.loop-name.files) texts v bases
    (subst (λ done. AreRead reading absolute (unsigned_abs c.args.carried) files done v bases) (take_all i texts over) read) kept.same
