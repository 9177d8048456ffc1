use Rattle.std.proofs.Common.{◌≡◌, ◌+◌, ◌-◌, length}
use Rattle.hu_lines.specs.declared.limits.TheConstants.{LARGEST_INPUT}
use Rattle.hu_base.specs.Base.{carried_of}
use Rattle.hu_input.specs.Intake.{IsOpen, bytes_in}
use Rattle.hu_input.proofs.WholeLemmas.{IfThere, ReadSoFar}
use Rattle.hu_input.proofs.intake.Intake.read_file.Given as goal

abbrev pub invariant-loop-count : goal.invariant-loop-count
invariant-loop-count g l = record {
  opened : IsOpen l.self.lines;
  carried : carried_of l.self.base ≡ carried_of l.initial.self.base;
  room : length l.buffer ≡ length l.initial.buffer;
  count : bytes_in l.self.lines ≡ bytes_in l.initial.self.lines + l.at;
  same : g.F.Files.state l.files ≡ g.F.Files.state l.initial.files;
  so_far : IfThere (g.F.Files.state l.initial.files) l.name (ReadSoFar g.T.Format.reading g.T.Record.Absolute.absolute l.initial.self l.self l.at);
}

abbrev pub decreases-loop-count : goal.decreases-loop-count
decreases-loop-count g l = LARGEST_INPUT - bytes_in l.self.lines
