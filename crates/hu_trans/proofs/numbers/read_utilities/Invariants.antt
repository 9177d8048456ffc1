use Rattle.std.proofs.Common.{◌≡◌, ◌+◌, ◌≤◌, ◌++◌, length}
use Rattle.hu_kind.specs.Number.{signed_number}
use Rattle.hu_kind.specs.Token.{tokens}
use Rattle.hu_trans.specs.Line.{numbers}
use Rattle.hu_trans.proofs.NumbersLemmas.{bad_from}
use Rattle.hu_trans.proofs.numbers.read_utilities.Given as goal

abbrev pub invariant-loop-said : goal.invariant-loop-said
invariant-loop-said l = record {
  so_far : l.utilities.items ++ numbers signed_number (tokens l.rest) ≡ numbers signed_number (tokens l.part);
  place : bad_from signed_number 0 (tokens l.part) ≡ bad_from signed_number l.at (tokens l.rest);
  count : length l.utilities.items ≡ l.at;
  few : l.at + length l.rest ≤ 1048576;
}

abbrev pub decreases-loop-said : goal.decreases-loop-said
decreases-loop-said l = length l.rest
