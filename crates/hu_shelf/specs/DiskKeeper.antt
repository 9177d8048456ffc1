-- A keeper of files of the system.
use Rattle.std.specs.Prelude.{ℕ, [], None}
use Rattle.hu_shelf.specs.Keeper.{KeeperState}

-- no text is told, one count serves all names, and there is no plan
abbrev pub system_keeper : ℕ → KeeperState
system_keeper faults = record { texts = None; faults = λ _. faults; plan = [] }
