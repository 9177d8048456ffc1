-- A store after runs that add files to it, one after the other.
use Rattle.std.specs.Prelude.{◌≡◌, ℕ, ℤ, Option, Some, Ok, List, [], ◌∷◌, flat_map}
use Rattle.hu_kept.specs.Kept.{Keeping, with_batch}
use Rattle.hu_shelf.specs.Keeper.{KeeperState}
use Rattle.hu_shelf.specs.Shelf.{absolute_sum}
use Rattle.hu_shelf.specs.Store.{IsStore, store_text}
use Rattle.hu_run.specs.Run.{Streams}
use Rattle.hu_run.specs.ShelfJob.{add, shelf_job}
use Rattle.hu_run.specs.ShelfEnding.{given_by}
use Rattle.hu_run.specs.ShelfRun.{RunsShelf}

-- a keeper that tells its texts has this store under a name
pub record HasStore (name : List ℕ) (store : Keeping) (keeper : KeeperState) : Type 0 where
  pub lawful : IsStore store
  pub texts : List ℕ → List ℕ
  pub told : keeper.texts ≡ Some texts
  pub text : texts name ≡ store_text store

-- a run was done that adds to a store the records of a file, which are these
pub record AddsFile (name : List ℕ) (store : Keeping) (old new : KeeperState)
    (batch : List (List (ℕ × ℤ))) : Type 0 where
  pub streams : Streams
  pub file : List ℕ
  pub contents : List ℕ → Option (List ℕ)
  pub asked : shelf_job streams.words ≡ Ok (add name file)
  pub told : streams.files.contents ≡ Some contents
  pub read : given_by contents (add name file) (absolute_sum store.records) ≡ Ok batch
  pub done : RunsShelf streams old new 0

-- runs added these batches, one after the other, and between them the keeper held its texts
abbrev pub AddsFiles : List ℕ → Keeping → KeeperState → List (List (List (ℕ × ℤ))) → KeeperState → Type 0
AddsFiles name store old [] new = new.texts ≡ old.texts
AddsFiles name store old (batch ∷ batches) new =
    (after : KeeperState) × AddsFile name store old after batch × (next : KeeperState)
    × (next.texts ≡ after.texts) × AddsFiles name (with_batch store batch) next batches new

-- the store has then the records of all batches after those that it had
abbrev pub StoresGrow : Type 0
StoresGrow =
    (name : List ℕ) (store : Keeping) (old new : KeeperState) (batches : List (List (List (ℕ × ℤ))))
    → HasStore name store old → AddsFiles name store old batches new
    → HasStore name (with_batch store (flat_map (λ batch. batch) batches)) new
