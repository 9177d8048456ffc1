-- Which patterns a batch touches: those that one of its records holds. The others earn by it nothing, so an append searches
-- the touched ones alone, and puts them beside the old entries that it doesn't touch.
use Rattle.std.specs.Prelude.{ℕ, ℤ, nat_lt, Bool, not, ◌&&◌, Option, None, Some, List}
use Rattle.std.specs.List.{filter}
use Rattle.hu_kind.specs.declared.entry.Entry.{Entry}
use Rattle.hu_collect.specs.Rule.{Rule}
use Rattle.hu_collect.specs.State.{State}
use Rattle.hu_closed.specs.Keys.{key_support}

-- whether a record of a batch holds a key
abbrev pub is_touched : List (List (ℕ × ℤ)) → List ℤ → Bool
is_touched batch key = nat_lt 0 (key_support batch key)

-- an inner rule that wants touched keys alone
abbrev pub touched_rule : Rule → List (List (ℕ × ℤ)) → Rule
touched_rule inner batch = record {
  start = inner.start;
  limit = inner.limit;
  wants = λ key. inner.wants key && is_touched batch key;
  table = inner.table;
}

-- the state of a collector of touched keys around an inner one
abbrev pub touched_state : State → List (List (ℕ × ℤ)) → State
touched_state inner batch = record { rule = touched_rule inner.rule batch; content = inner.content }

-- the touched entries of a list
abbrev pub touched : List (List (ℕ × ℤ)) → List Entry → List Entry
touched batch entries = filter (λ e. is_touched batch e.key) entries

-- the others
abbrev pub untouched : List (List (ℕ × ℤ)) → List Entry → List Entry
untouched batch entries = filter (λ e. not (is_touched batch e.key)) entries

-- the inner collector of a collector of touched patterns
abbrev pub inner_of : {C : Type 0} → C × List (List (ℕ × ℤ)) → C
inner_of c = c.0

-- the records of its batch
abbrev pub batch_in : {C : Type 0} → C × List (List (ℕ × ℤ)) → List (List (ℕ × ℤ))
batch_in c = c.1

-- a rule that wants the keys alone that a batch touches, where there is a batch
abbrev pub within : Option (List (List (ℕ × ℤ))) → Rule → Rule
within None inner = inner
within (Some batch) inner = touched_rule inner batch
