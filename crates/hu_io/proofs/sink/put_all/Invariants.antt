use Rattle.std.proofs.Common.{◌-◌, ◌≤◌, length, take}
use Rattle.hu_io.specs.State.{Appended}
use Rattle.hu_io.proofs.sink.put_all.Given as goal

-- the bytes sent so far were appended, and nothing failed
abbrev pub invariant-loop-sent : goal.invariant-loop-sent
invariant-loop-sent g l =
    (l.sent ≤ length l.bytes) × Appended (g.S.Sink.state l.initial.sink) (g.S.Sink.state l.sink) (take l.sent l.bytes)

abbrev pub decreases-loop-sent : goal.decreases-loop-sent
decreases-loop-sent g l = length l.bytes - l.sent
