-- The prefixes that a certificate opens, and their entries.
use Rattle.std.specs.Prelude.{ℕ, ℤ, pos, None, List, map, drop, filter_map}
use Rattle.std.specs.Option.{option_map}
use Rattle.std.specs.Ordering.{nat_cmp}
use Rattle.hu_kind.specs.declared.entry.Entry.{Entry}
use Rattle.hu_kind.specs.Answer.{answer}
use Rattle.hu_kind.specs.Database.{utility, support}
use Rattle.hu_kind.specs.Order.{ranking}
use Rattle.hu_proof.specs.Text.{pieces, said_of}

-- the prefixes of the lines among these pieces of a text
abbrev pub prefixes_in : List (List ℕ) → List (List ℕ)
prefixes_in lines = filter_map (λ line. option_map (λ said. said.prefix) (said_of line)) lines

-- the prefixes that a text opens: those of its lines from the third on
abbrev pub opened : List ℕ → List (List ℕ)
opened text = prefixes_in (drop 2 (pieces text))

-- the entry of a prefix: its items ascending, its utility and its support
abbrev pub prefix_entry : List (List (ℕ × ℤ)) → List ℕ → Entry
prefix_entry records prefix =
    record {
      key = map pos (ranking nat_cmp prefix);
      utility = utility records prefix;
      support =
          support records prefix;
    }

-- those of the prefixes of lines that reach the minimum, each once and in the one order
abbrev pub answer_of_lines : List (List (ℕ × ℤ)) → ℤ → List (List ℕ) → List Entry
answer_of_lines records least lines = answer least None (map (prefix_entry records) (prefixes_in lines))

-- those of the opened prefixes
abbrev pub opened_answer : List (List (ℕ × ℤ)) → ℤ → List ℕ → List Entry
opened_answer records least text = answer_of_lines records least (drop 2 (pieces text))
