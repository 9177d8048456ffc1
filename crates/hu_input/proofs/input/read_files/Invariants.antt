use Rattle.std.proofs.Common.{◌≡◌, ◌<◌, take, vec_len}
use Rattle.hu_base.specs.Base.{carried_of}
use Rattle.hu_input.specs.Names.{texts_of}
use Rattle.hu_input.specs.Intake.{IsFresh}
use Rattle.hu_input.proofs.NamesLemmas.{AreRead}
use Rattle.hu_input.proofs.input.read_files.Given as goal

abbrev pub invariant-loop-name : goal.invariant-loop-name
invariant-loop-name g l = record {
  fresh : IsFresh l.intake;
  room : 0 < vec_len l.buffer;
  same : g.F.Files.state l.files ≡ g.F.Files.state l.initial.files;
  read : AreRead g.T.Format.reading g.T.Record.Absolute.absolute (carried_of l.initial.intake.base) (g.F.Files.state l.initial.files)
      (take l.name-index (texts_of l.names)) l.intake l.bases.items;
}
