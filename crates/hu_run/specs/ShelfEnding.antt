-- What the words of a store come to, by what stands under its name and by what the file gives.
use Rattle.std.specs.Prelude.{ℕ, ℤ, nat_lt, Bool, true, false, Option, None, Some, Result, Ok, Err, List, [], ◌∷◌, ◌++◌}
use Rattle.std.specs.Prelude.{length, codes, decimal, if◌then◌else◌}
use Rattle.hu_kind.specs.declared.task.Task.{Task}
use Rattle.hu_kind.specs.declared.task.Task.TheVariants.{Items, Closed}
use Rattle.hu_kind.specs.Record.{absolute_of}
use Rattle.hu_report.specs.Text.{answer_text}
use Rattle.hu_kept.specs.declared.changes.Changes.{Changes}
use Rattle.hu_kept.specs.Changes.{changes}
use Rattle.hu_kept.specs.Kept.{Keeping, answer_of, with_batch}
use Rattle.hu_input.specs.Formats.{transaction_reading}
use Rattle.hu_input.specs.Input.{Refusal, Unread, refused_line, missing_file, input_from}
use Rattle.hu_shelf.specs.Shelf.{absolute_sum}
use Rattle.hu_shelf.specs.Store.{store_of, store_text}
use Rattle.hu_run.specs.declared.shelf.fault.StoreFault.{StoreFault}
use Rattle.hu_run.specs.declared.shelf.fault.StoreFault.TheVariants.{Absent, Present, Damaged, TooLarge}
use Rattle.hu_run.specs.ShelfJob.{Shelving, make, add, show, file_names}

-- the store then and what is written, why the store doesn't allow it, the first line that is refused with the name
-- of its file, or the file that isn't there
pub data ShelfEnding : Type 0 where
  leaves : Keeping → List ℕ → ShelfEnding
  declines : StoreFault → ShelfEnding
  refuses : List ℕ → Refusal → ShelfEnding
  lacks : List ℕ → ShelfEnding

-- what a file gives after the absolute sum of a store
abbrev pub Given : Type 0
Given = ℕ → Result (List (List (ℕ × ℤ))) Unread

-- what the files give that words name
abbrev pub given_by : (List ℕ → Option (List ℕ)) → Shelving → Given
given_by contents asked sum = input_from transaction_reading absolute_of contents 0 sum (file_names asked)

-- the line that tells how an answer changed
abbrev pub added_text : ℕ → List ℕ
added_text n = codes "added " ++ decimal n

abbrev pub changed_text : ℕ → List ℕ
changed_text n = codes " changed " ++ decimal n

abbrev pub dropped_text : ℕ → List ℕ
dropped_text n = (codes " dropped " ++ decimal n) ++ codes "\n"

abbrev pub changes_line : Changes → List ℕ
changes_line c = added_text c.added ++ changed_text c.changed ++ dropped_text c.dropped

-- the task of a store
abbrev pub task_of : Bool → Task
task_of true = Closed
task_of false = Items

-- the ending of adding what a file gives to a store
abbrev pub adding : Keeping → Result (List (List (ℕ × ℤ))) Unread → ShelfEnding
adding s (Err (refused_line name refusal)) = refuses name refusal
adding s (Err (missing_file name)) = lacks name
adding s (Ok records) = grown (with_batch s records)
  where
    grown : Keeping → ShelfEnding
    grown t =
        if nat_lt 268435456 (length (store_text t)) then declines TooLarge
        else leaves t (changes_line (changes (answer_of s) (answer_of t)))

-- the ending of making a store where this text stands
abbrev pub making : Keeping → List ℕ → ShelfEnding
making s [] = leaves s []
making s (byte ∷ bytes) = declines Present

-- the ending of what is asked of a store that has to be there
abbrev pub on_store : List ℕ → (Keeping → ShelfEnding) → ShelfEnding
on_store [] made = declines Absent
on_store (byte ∷ bytes) made = found (store_of (byte ∷ bytes))
  where
    found : Option Keeping → ShelfEnding
    found (Some s) = made s
    found None = declines Damaged

-- the ending of what is asked of a store, by the text under its name and what the file gives
abbrev pub shelf_ending : Shelving → List ℕ → Given → ShelfEnding
shelf_ending (make name store) text given = making store text
shelf_ending (add name file) text given = on_store text (λ s. adding s (given (absolute_sum s.records)))
shelf_ending (show name) text given =
    on_store text (λ s. leaves s (answer_text (task_of s.closed) (answer_of s)))

-- the status of a run that comes to an ending
abbrev pub status_of : ShelfEnding → ℕ
status_of (leaves store written) = 0
status_of (refuses name refusal) = 1
status_of (lacks name) = 3
status_of (declines fault) = 7
