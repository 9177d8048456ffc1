use Rattle.std.proofs.Common.{◌≡◌, ◌++◌, map}
use Rattle.hu_plain.specs.Grown.{grown_from, pair_with}
use Rattle.hu_plain.proofs.grown.push_grown.Given as goal

-- what the cells so far make, and what those that are left make, is what all make
abbrev pub invariant-loop-place : goal.invariant-loop-place
invariant-loop-place l =
    map pair_with l.grown.items ++ grown_from l.row l.place ≡ map pair_with l.initial.grown.items ++ grown_from l.row 0
