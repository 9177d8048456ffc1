use Rattle.std.proofs.Common.{◌≡◌, ◌+◌, ◌≤◌, ◌++◌, length, map, unsigned_abs}
use Rattle.hu_kind.specs.Number.{number}
use Rattle.hu_kind.specs.Token.{tokens}
use Rattle.hu_trans.specs.Line.{numbers}
use Rattle.hu_trans.proofs.NumbersLemmas.{bad_from}
use Rattle.hu_trans.proofs.numbers.read_items.Given as goal

abbrev pub invariant-loop-said : goal.invariant-loop-said
invariant-loop-said l = record {
  so_far : l.items.items ++ map unsigned_abs (numbers number (tokens l.rest)) ≡ map unsigned_abs (numbers number (tokens l.part));
  place : bad_from number 0 (tokens l.part) ≡ bad_from number l.at (tokens l.rest);
  count : length l.items.items ≡ l.at;
  few : l.at + length l.rest ≤ 1048576;
}

abbrev pub decreases-loop-said : goal.decreases-loop-said
decreases-loop-said l = length l.rest
