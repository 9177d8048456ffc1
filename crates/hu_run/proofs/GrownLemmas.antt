-- A store after runs that add files to it.
use Rattle.std.proofs.Common.{◌≡◌, ◌∙◌, ℕ, ℤ, Bool, true, false, nat_lt, List, [], ◌∷◌, ◌++◌, length, Option, Some, Ok, MatchOption, ap, sym, subst, refl}
use Rattle.std.proofs.Common.{append_assoc, flat_map, cond}
use Rattle.std.specs.Prelude.{IfSome, IsOkAnd, ⊤}
use Rattle.std.specs.Option.{option_map}
use Rattle.std.proofs.lemmas.List.{append-nil}
use Rattle.std.proofs.lemmas.Slice.Eq.{bytes_eq-Decides}
use Rattle.hu_io.specs.State.{Appended}
use Rattle.hu_kept.specs.Kept.{Keeping, with_batch}
use Rattle.hu_shelf.specs.Keeper.{KeeperState, with_text}
use Rattle.hu_shelf.specs.Shelf.{absolute_sum}
use Rattle.hu_shelf.specs.Store.{IsStore, store_of, store_text}
use Rattle.hu_shelf.proofs.lemmas.StoreLemmas.{store_of-text}
use Rattle.hu_run.specs.ShelfJob.{add}
use Rattle.hu_run.specs.ShelfEnding.{adding, shelf_ending, given_by}
use Rattle.hu_run.specs.ShelfRun.{Finds, HasLeft}
use Rattle.hu_run.specs.ShelfLaws.{AddsFile, HasStore, StoresGrow}
use Rattle.hu_run.proofs.ShelfLemmas.{on_store-found, adding-by}

-- what a keeper tells
there_is : {A : Type 0} (o : Option A) (x : A) (P : A → Type 0) → o ≡ Some x → MatchOption o ⊤ P → P x
there_is o x P is there = subst (λ q. MatchOption q ⊤ P) is there

-- the store that a run leaves
left_store : (old new : KeeperState) (name file : List ℕ) (store : Keeping) (batch : List (List (ℕ × ℤ))) (W : List ℕ → Type 0)
    → HasLeft old new (add name file) W (adding store (Ok batch))
    → IsStore (with_batch store batch) × (new.texts ≡ option_map (with_text name (store_text (with_batch store batch))) old.texts)
left_store old new name file store batch W has = by (nat_lt 268435456 (length (store_text (with_batch store batch)))) refl
  where
    by : (b : Bool) → nat_lt 268435456 (length (store_text (with_batch store batch))) ≡ b
        → IsStore (with_batch store batch) × (new.texts ≡ option_map (with_text name (store_text (with_batch store batch))) old.texts)
    by true test = absurd (subst (HasLeft old new (add name file) W) (adding-by store batch true test) has)
    by false test =
        let left = subst (HasLeft old new (add name file) W) (adding-by store batch false test) has in
        (left.0, ap (λ k. k.texts) left.1)

grows : (name : List ℕ) (store : Keeping) (old new : KeeperState) (batch : List (List (ℕ × ℤ))) → HasStore name store old
    → AddsFile name store old new batch → HasStore name (with_batch store batch) new
grows name store old new batch has adds =
    let W = Appended adds.streams.out adds.streams.out_after in
    let asked = add name adds.file in
    let found : Finds old adds.streams.files asked (HasLeft old new asked W) =
    subst (λ j. IsOkAnd j (λ a. Finds old adds.streams.files a (HasLeft old new a W))) adds.asked (adds.done.done refl) in
    let text : has.texts name ≡ found.text = there_is old.texts has.texts (λ t. t name ≡ found.text) has.told found.there in
    let given : found.given ≡ given_by adds.contents asked =
    subst (λ c. IfSome c (λ told. found.given ≡ given_by told asked)) adds.told found.read in
    let is : store_of found.text ≡ Some store = ap store_of (sym text ∙ has.text) ∙ store_of-text store has.lawful in
    let comes : shelf_ending asked found.text found.given ≡ adding store (Ok batch) =
    on_store-found found.text _ store is ∙ ap (λ g. adding store (g (absolute_sum store.records))) given ∙ ap (adding store) adds.read in
    let left = left_store old new name adds.file store batch W (subst (HasLeft old new asked W) comes found.is) in
    let grown = store_text (with_batch store batch) in
    record {
      lawful = left.0;
      texts = with_text name grown has.texts;
      told = left.1 ∙ ap (option_map (with_text name grown)) has.told;
      text = ap (λ b. cond b grown (has.texts name)) ((bytes_eq-Decides name name).1 refl);
    }

still : (name : List ℕ) (store : Keeping) (old new : KeeperState) → new.texts ≡ old.texts → HasStore name store old → HasStore name store new
still name store old new same has = record { lawful = has.lawful; texts = has.texts; told = same ∙ has.told; text = has.text }

with_none : (store : Keeping) → with_batch store [] ≡ store
with_none store = ap (λ records. record store { records = records }) (append-nil store.records)

with_two : (store : Keeping) (first second : List (List (ℕ × ℤ))) → with_batch (with_batch store first) second ≡ with_batch store (first ++ second)
with_two store first second = ap (λ records. record store { records = records }) (append_assoc store.records first second)

pub stores_grow : StoresGrow
stores_grow name store old new [] has same = subst (λ s. HasStore name s new) (sym (with_none store)) (still name store old new same has)
stores_grow name store old new (batch ∷ batches) has adds =
    let one = grows name store old adds.0 batch has adds.1 in
    let next = still name (with_batch store batch) adds.0 adds.2 adds.3 one in
    subst (λ s. HasStore name s new) (with_two store batch (flat_map (λ b. b) batches))
    (stores_grow name (with_batch store batch) adds.2 new batches next adds.4)
