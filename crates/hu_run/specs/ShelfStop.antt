-- Why a run of a store's words stops short: the status, and the line that tells of it.
use Rattle.std.specs.Prelude.{ℕ, List, [], ◌∷◌, codes}
use Rattle.hu_input.specs.Reason.{joined}
use Rattle.hu_run.specs.declared.shelf.fault.StoreFault.{StoreFault}
use Rattle.hu_run.specs.declared.shelf.fault.StoreFault.TheVariants.{Absent, Present, Damaged, TooLarge}
use Rattle.hu_run.specs.declared.shelf.stop.ShelfStop.{ShelfStop}
use Rattle.hu_run.specs.declared.shelf.stop.ShelfStop.TheVariants.{Job, Declined, StoreFailed}
use Rattle.hu_run.specs.Stop.{stop_line, stop_status}

-- the reason of a store that doesn't allow what is asked
abbrev pub store_fault_text : StoreFault → List ℕ
store_fault_text Absent = codes "no store"
store_fault_text Present = codes "store is there"
store_fault_text Damaged = codes "damaged store"
store_fault_text TooLarge = codes "store too large"

-- the line that tells of it
abbrev pub declined_line : List ℕ → StoreFault → List ℕ
declined_line name fault = joined (codes "hupm: " ∷ name ∷ codes ": " ∷ store_fault_text fault ∷ codes "\n" ∷ [])

-- the line that tells of a keeper that failed
abbrev pub store_failed_line : List ℕ → List ℕ
store_failed_line name = joined (codes "hupm: store failed: " ∷ name ∷ codes "\n" ∷ [])

-- the line that tells of a stop
abbrev pub shelf_stop_line : ShelfStop → List ℕ
shelf_stop_line (Job stop) = stop_line stop
shelf_stop_line (Declined name fault) = declined_line name.now fault
shelf_stop_line (StoreFailed name) = store_failed_line name.now

-- the status of a stop
abbrev pub shelf_stop_status : ShelfStop → ℕ
shelf_stop_status (Job stop) = stop_status stop
shelf_stop_status (Declined name fault) = 7
shelf_stop_status (StoreFailed name) = 8
