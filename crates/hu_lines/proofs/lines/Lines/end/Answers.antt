use Rattle.std.proofs.Common.{◌≡◌, true, false, refl}
use Rattle.hu_lines.proofs.lemmas.PieceLemmas.{pieces_of_one}
use Rattle.hu_lines.proofs.lines.Lines.end.Goals as goal
use Rattle.hu_lines.proofs.lines.Lines.end.Goals.{then-not-self, else-not-self}

pub returns-clause-left : goal.returns-clause-left
returns-clause-left c =
    let inside = c.self.inside in
    rw (← c.self.view_is)
    (elim c.if-not-self.branch [
      | then-not-self w ↦
          let going : inside.whole ≡ false = w.if-not-self.true in
          rw (going, w.result-is, w.is_empty.ensures, inside.bytes.ok.0) (pieces_of_one inside.bytes.items c.self.invariant.held.one)
      | else-not-self w ↦ let ended : inside.whole ≡ true = w.if-not-self.false in rw (ended, w.result-is, ended) refl
    ])
