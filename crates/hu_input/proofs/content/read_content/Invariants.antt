use Rattle.std.proofs.Common.{◌≡◌, ◌-◌, ◌<◌, length}
use Rattle.std.specs.Prelude.{take}
use Rattle.hu_input.proofs.WholeLemmas.{IfThere}
use Rattle.hu_input.proofs.content.read_content.Given as goal

abbrev pub invariant-loop-content : goal.invariant-loop-content
invariant-loop-content g l = record {
  room : 0 < length l.buffer.items;
  same : g.F.Files.state l.files ≡ g.F.Files.state l.initial.files;
  so_far : IfThere (g.F.Files.state l.initial.files) l.name (λ content. l.content.items ≡ take (length l.content.items) content);
}

abbrev pub decreases-loop-content : goal.decreases-loop-content
decreases-loop-content g l = l.most - length l.content.items
