use Rattle.std.proofs.Common.{◌≡◌, ◌++◌, List, ℕ, length}
use Rattle.hu_report.specs.Page.{Forwards}
use Rattle.hu_drill.proofs.summary.push_text.Given as goal

-- a front of the text went out or waits, and the rest is left
abbrev pub invariant-loop-left : goal.invariant-loop-left
invariant-loop-left g l = record {
  front : List ℕ;
  whole : front ++ l.left ≡ l.text;
  sent : Forwards (g.S.Sink.state l.initial.sink) (g.S.Sink.state l.sink) l.initial.page l.page front;
}

-- each turn takes a byte at least
abbrev pub decreases-loop-left : goal.decreases-loop-left
decreases-loop-left g l = length l.left
