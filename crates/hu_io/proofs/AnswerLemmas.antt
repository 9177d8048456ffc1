-- Calls that answer as the system did.
use Rattle.std.proofs.Common.{ℕ, ◌<◌, ◌≤◌, List, length, Result, Ok, Err, arith, refl, subst, sym, ap}
use Rattle.std.specs.Prelude.{IfOk}
use Rattle.hu_io.specs.Count.{Counts}
use Rattle.hu_io.specs.State.{Puts, Gets}
use Rattle.hu_io.specs.Edge.{Answers, system_files, system_sink}

-- a write that took some of a piece
pub Puts-answered : {E F : Type 0} (given : Result ℕ E) (result : Result ℕ F) (old new : ℕ) (piece : List ℕ) → Answers given result old new
    → IfOk given (λ n. n ≤ length piece) → IfOk given (λ n. 0 < length piece → 0 < n) → Puts (system_sink old) (system_sink new) piece result
Puts-answered (Ok n) result old new piece answered within some =
    subst (Puts (system_sink old) (system_sink new) piece) (sym answered.0)
    (record { within = within; some = some; front = record { bytes = tt; faults = answered.1; plan = refl } })
Puts-answered (Err _) (Ok n) old new piece answered within some = absurd (cc)
Puts-answered (Err _) (Err _) old new piece answered within some =
    record { bytes = tt; rose = omega (arith, answered.1); later = answered.2; plan = refl }

-- a read
pub Gets-answered : {E F : Type 0} (given : Result ℕ E) (result : Result ℕ F) (old new : ℕ) (name : List ℕ) (at : ℕ)
    (into : List ℕ) → Answers given result old new
    → Gets (system_files old) (system_files new) name at into result
Gets-answered (Ok n) result old new name at into answered =
    subst (Gets (system_files old) (system_files new) name at into) (sym answered.0) (record { told = tt; same = ap system_files answered.1 })
Gets-answered (Err _) (Ok n) old new name at into answered = absurd (cc)
Gets-answered (Err _) (Err _) old new name at into answered =
    record { rose = omega (arith, answered.1); later = λ _. answered.2; contents = refl; plan = refl }

-- its count
pub Counts-answered : {E F : Type 0} (given : Result ℕ E) (result : Result ℕ F) (old new : ℕ) → Answers given result old new → Counts result old new
Counts-answered (Ok n) (Ok m) old new answered = answered.1
Counts-answered (Ok n) (Err f) old new answered = absurd (cc)
Counts-answered (Err e) (Ok m) old new answered = cc
Counts-answered (Err e) (Err f) old new answered = (answered.1, answered.2)
