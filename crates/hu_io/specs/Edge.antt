-- What calls of the system come to.
use Rattle.std.specs.Prelude.{◌≡◌, ℕ, ◌+◌, ◌-◌, ◌^◌, ◌≤◌, min, [], None, Result, Ok, Err, IsErr, MatchResult}
use Rattle.hu_io.specs.Count.{one_more}
use Rattle.hu_io.specs.State.{SinkState, FilesState}

-- the system tells neither bytes nor contents, and has no plan; one count serves all names
abbrev pub system_sink : ℕ → SinkState
system_sink faults = record { bytes = None; faults = faults; plan = [] }

abbrev pub system_files : ℕ → FilesState
system_files faults = record { contents = None; faults = λ _. faults; plan = [] }

-- a number of bytes is answered as it is, and an error by an error and one more fault
abbrev pub Answers : {E F : Type 0} → Result ℕ E → Result ℕ F → ℕ → ℕ → Type 0
Answers given result old new =
    MatchResult given (λ n. (result ≡ Ok n) × (new ≡ old))
    (λ _. IsErr result × (new ≡ one_more old) × (old ≤ new))

-- the place after a read from this place, at most the greatest `u64`
abbrev pub next_place : {E : Type 0} → ℕ → Result ℕ E → ℕ
next_place at (Ok n) = min (at + n) (2 ^ 64 - 1)
next_place at (Err _) = at
