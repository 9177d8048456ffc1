use Rattle.std.proofs.Common.{◌≡◌, ◌+◌, ◌≤◌, ◌++◌, length, vec_len, filter_map}
use Rattle.std.specs.List.{position_from}
use Rattle.hu_kind.specs.Token.{tokens}
use Rattle.hu_seq.specs.Token.{token_of, is_unknown}
use Rattle.hu_seq.specs.Reading.{known}
use Rattle.hu_seq.proofs.read.read_tokens.Given as goal

abbrev pub invariant-loop-text : goal.invariant-loop-text
invariant-loop-text l = record {
  rest : known l.line ≡ l.told.items ++ filter_map token_of l.text-iterator;
  place : position_from is_unknown 0 (tokens l.line) ≡ position_from is_unknown (vec_len l.told) l.text-iterator;
  few : vec_len l.told + length l.text-iterator ≤ length l.line;
}
