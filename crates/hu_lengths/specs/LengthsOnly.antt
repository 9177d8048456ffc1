-- A collector of keys of some lengths is seen as the inner collector, the least and the greatest length.
use Rattle.std.specs.Prelude.{◌≡◌, ℕ, ◌&&◌, List, [], ◌∷◌}
use Rattle.hu_kind.specs.declared.entry.Entry.{Entry}
use Rattle.hu_collect.specs.Rule.{Rule}
use Rattle.hu_collect.specs.State.{State, offered}
use Rattle.hu_lengths.specs.Lengths.{has_length, of_lengths}

-- the inner collector
abbrev pub inner_of : {C : Type 0} → C × ℕ × ℕ → C
inner_of c = c.0

-- the least length
abbrev pub short_of : {C : Type 0} → C × ℕ × ℕ → ℕ
short_of c = c.1

-- the greatest length
abbrev pub long_of : {C : Type 0} → C × ℕ × ℕ → ℕ
long_of c = c.2

-- an inner rule that wants keys of these lengths alone
abbrev pub sized_rule : ℕ → ℕ → Rule → Rule
sized_rule short long inner = record {
  start = inner.start;
  limit = inner.limit;
  wants = λ key. inner.wants key && has_length short long key;
  table = inner.table;
}

-- the state of a collector of keys of these lengths around an inner one
abbrev pub sized_state : ℕ → ℕ → State → State
sized_state short long inner = record { rule = sized_rule short long inner.rule; content = inner.content }

-- that of such a collector, by that of the inner one
abbrev pub sized_in : {C : Type 0} → (C → State) → C × ℕ × ℕ → State
sized_in state c = sized_state (short_of c) (long_of c) (state (inner_of c))

-- an entry leaves a state as it is
abbrev pub Leaves : State → Entry → Type 0
Leaves state entry = offered state (entry ∷ []) ≡ state

-- offered any patterns, it is around what the inner one is that was offered those of these lengths
abbrev pub MakesSized : ℕ → ℕ → State → Type 0
MakesSized short long inner = (patterns : List Entry) →
    offered (sized_state short long inner) patterns
    ≡ sized_state short long (offered inner (of_lengths short long patterns))
