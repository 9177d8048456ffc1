-- What a run promises of words that begin with `shelf`, of its files and streams, and of the keeper of stores.
use Rattle.std.specs.Prelude.{◌≡◌, ◌≢◌, ◌↔◌, ◌⊎◌, ℕ, ◌≤◌, None, List, codes, IsOkAnd, IsErr, IfErr, IfOk, IfSome, ⊤}
use Rattle.std.specs.List.{Contains}
use Rattle.hu_io.specs.Count.{Rose}
use Rattle.hu_io.specs.State.{FilesState, Appended, Broke}
use Rattle.hu_shelf.specs.Keeper.{KeeperState, Told, keeping_text}
use Rattle.hu_shelf.specs.Shelf.{find_fault}
use Rattle.hu_shelf.specs.Store.{IsStore, store_text}
use Rattle.hu_run.specs.Run.{Streams, Spares, Tells}
use Rattle.hu_run.specs.Stop.{told_line, word_text, refusal_line, read_failed_line}
use Rattle.hu_run.specs.ShelfJob.{Shelving, make, add, show, shelf_job, store_name, file_names}
use Rattle.hu_run.specs.ShelfEnding.{
  ShelfEnding,
  leaves,
  declines,
  refuses,
  lacks,
  Given,
  given_by,
  shelf_ending,
  status_of,
}
use Rattle.hu_run.specs.ShelfStop.{declined_line, store_failed_line}

-- what is asked comes to an ending of which this is so, by the text under the name and what the file gives: these are what the
-- keeper and the files tell, where they tell it
pub record Finds (keeper : KeeperState) (files : FilesState) (asked : Shelving)
    (fact : ShelfEnding → Type 0) : Type 0 where
  pub text : List ℕ
  pub given : Given
  pub there : Told keeper (store_name asked) (λ told. told ≡ text)
  pub read : IfSome files.contents (λ told. given ≡ given_by told asked)
  pub is : fact (shelf_ending asked text given)

-- where the keeper and the files tell all, what is asked comes to an ending of which this is so
abbrev pub WhereTold : KeeperState → FilesState → Shelving → (ShelfEnding → Type 0) → Type 0
WhereTold keeper files asked fact =
    Told keeper (store_name asked) (λ text.
    IfSome files.contents (λ told. fact (shelf_ending asked text (given_by told asked))))

-- the keeper after a text was left under the name; to show a store leaves all as it is
abbrev pub kept_after : Shelving → List ℕ → KeeperState → KeeperState
kept_after (make name store) text keeper = keeping_text name text keeper
kept_after (add name file) text keeper = keeping_text name text keeper
kept_after (show name) text keeper = keeper

-- the ending leaves a store, whose text the keeper has then and tells it, and this is so of what is written
abbrev pub HasLeft : KeeperState → KeeperState → Shelving → (List ℕ → Type 0) → ShelfEnding → Type 0
HasLeft keeper after asked Wrote (leaves store written) =
    IsStore store × (after ≡ kept_after asked (store_text store) keeper) × Wrote written
HasLeft keeper after asked Wrote ending = ⊥

-- the ending is a line of the file that is refused, which was told
abbrev pub TellsRefused : Streams → Shelving → ShelfEnding → Type 0
TellsRefused s asked (refuses name refusal) =
    Contains (file_names asked) name × Tells s (refusal_line name refusal.number refusal.reason)
TellsRefused s asked ending = ⊥

-- the ending is that the store doesn't allow it, which was told
abbrev pub TellsDeclined : Streams → Shelving → ShelfEnding → Type 0
TellsDeclined s asked (declines fault) = Tells s (declined_line (store_name asked) fault)
TellsDeclined s asked ending = ⊥

-- the file was told, whose count rose, and the store is there
pub record TellsUnread (s : Streams) (keeper : KeeperState) (asked : Shelving) : Type 0 where
  pub name : List ℕ
  pub named : Contains (file_names asked) name
  pub rose : Rose (s.files.faults name) (s.files_after.faults name)
  pub there : Told keeper (store_name asked) (λ text. find_fault text ≡ None)
  pub told : Tells s (read_failed_line name)

-- the store was told, whose count rose
pub record TellsFailed (s : Streams) (keeper after : KeeperState) (asked : Shelving) : Type 0 where
  pub rose : Rose (keeper.faults (store_name asked)) (after.faults (store_name asked))
  pub told : Tells s (store_failed_line (store_name asked))

-- the ending is a file that isn't there
abbrev pub Lacking : ShelfEnding → Type 0
Lacking (lacks name) = ⊤
Lacking ending = ⊥

-- the count of the store didn't rise
abbrev pub KeeperUnharmed : KeeperState → KeeperState → Shelving → Type 0
KeeperUnharmed keeper after asked =
    ¬ Rose (keeper.faults (store_name asked)) (after.faults (store_name asked))

-- no count rose: of the store, of the file, or of `out`
pub record Unharmed (s : Streams) (keeper after : KeeperState) (asked : Shelving) : Type 0 where
  pub store : KeeperUnharmed keeper after asked
  pub file : (name : List ℕ) → Contains (file_names asked) name
      → ¬ Rose (s.files.faults name) (s.files_after.faults name)
  pub out : ¬ Rose s.out.faults s.out_after.faults

-- what a run of words that begin with `shelf` promises of its status
pub record RunsShelf (s : Streams) (keeper after : KeeperState) (status : ℕ) : Type 0 where
  pub within : status ≤ 8
  pub not_denied : status ≢ 6
  -- done: the store is left, and the whole answer was appended
  pub done : status ≡ 0 → IsOkAnd (shelf_job s.words)
      (λ asked. Finds keeper s.files asked (HasLeft keeper after asked (Appended s.out s.out_after)))
  -- a refused line of the file: it is the first one, and the one that is told
  pub refused : status ≡ 1 → IsOkAnd (shelf_job s.words)
      (λ asked. Finds keeper s.files asked (TellsRefused s asked))
  -- refused words: exactly where nothing is asked by them
  pub no_job : (status ≡ 2) ↔ IsErr (shelf_job s.words)
  pub no_job_told : IfErr (shelf_job s.words) (λ fault. Tells s (told_line (word_text fault)))
  -- a failed read of the file
  pub unread : status ≡ 3 → IsOkAnd (shelf_job s.words) (TellsUnread s keeper)
  -- a failed write: the store is left, and a proper front of the answer was appended
  pub broken : status ≡ 4 → IsOkAnd (shelf_job s.words)
      (λ asked. Finds keeper s.files asked (HasLeft keeper after asked (Broke s.out s.out_after)))
  pub broken_rose : status ≡ 4 → Rose s.out.faults s.out_after.faults
  pub broken_told : status ≡ 4 → Tells s (told_line (codes "write failed"))
  pub memory_told : status ≡ 5 → Tells s (told_line (codes "out of memory"))
  -- the store doesn't allow it
  pub declined : status ≡ 7 → IsOkAnd (shelf_job s.words)
      (λ asked. Finds keeper s.files asked (TellsDeclined s asked))
  -- the keeper failed
  pub failed : status ≡ 8 → IsOkAnd (shelf_job s.words) (TellsFailed s keeper after)
  -- where no count rose the status is that of the ending, or want of memory; a missing file raises its own count
  pub complete : IfOk (shelf_job s.words) (λ asked. Unharmed s keeper after asked
      → Finds keeper s.files asked (λ e. (status ≡ status_of e) ⊎ (status ≡ 5)))
  pub lacking : IfOk (shelf_job s.words) (λ asked. KeeperUnharmed keeper after asked
      → WhereTold keeper s.files asked (λ e. Lacking e → (status ≡ 3) ⊎ (status ≡ 5)))
  -- no text changes but where the run is done, or only its writing failed
  pub texts_same : status ≢ 0 → status ≢ 4 → after.texts ≡ keeper.texts
  pub keeper_later : (name : List ℕ) → keeper.faults name ≤ after.faults name
  pub keeper_plan : after.plan ≡ keeper.plan
  pub spares : Spares s status
