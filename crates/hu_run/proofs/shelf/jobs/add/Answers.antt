use Rattle.std.proofs.Common.{◌≡◌, ◌∙◌, ℕ, List, [], ◌∷◌, Some, ap, subst, to_z, of_z}
use Rattle.std.specs.Int.{w128}
use Rattle.std.proofs.lemmas.Int.{to_z-of_z}
use Rattle.std.proofs.lemmas.Result.{err_from_is_err_and}
use Rattle.hu_io.specs.State.{Appended, Broke}
use Rattle.hu_input.specs.Names.{texts_of}
use Rattle.hu_base.specs.Base.{records_of}
use Rattle.hu_kept.specs.Kept.{with_batch}
use Rattle.hu_shelf.specs.Keeper.{keeping_text}
use Rattle.hu_shelf.specs.Shelf.{absolute_sum, add_fault}
use Rattle.hu_shelf.specs.Store.{store_text}
use Rattle.hu_run.specs.ShelfJob.{add}
use Rattle.hu_run.specs.ShelfEnding.{changes_line}
use Rattle.hu_run.specs.ShelfAttempt.{scene, StopsCall, HasRead, Leaves, shelf_fault}
use Rattle.hu_run.proofs.ShelfLemmas.{added, read_after, unadded, unfound, unread_after, unread_batch}
use Rattle.hu_run.proofs.shelf.jobs.add.Given.{Over}
use Rattle.hu_run.proofs.shelf.jobs.add.Goals.{In_ok-batch, After-write_changes}
use Rattle.hu_run.proofs.shelf.jobs.add.Goals as goal

pub returns-in_err-shelf-clause-ends : goal.returns-in_err-shelf-clause-ends
returns-in_err-shelf-clause-ends g c = λ file is.
    let p = err_from_is_err_and c.from_residual.result c.from_residual.ensures.1 in
    rw (p.1, p.2) (unfound c.args.name.now file (g.F.Files.state c.args.files.now) (g.O.Sink.state c.args.out.now)
    (g.K.Keeper.state c.args.keeper.now) (g.K.Keeper.state c.find.new.keeper) c.in_err-shelf.field-0.0 c.in_err-shelf.ensures.err)

pub returns-in_err-batch-clause-ends : goal.returns-in_err-batch-clause-ends
returns-in_err-batch-clause-ends g c = λ file is.
    let s = c.in_ok-shelf.shelf in
    let sum = to_z-of_z w128 c.sum.result (record { sfits = c.sum.type_inv }) ∙ c.sum.ensures.value in
    let stop = c.in_err-batch.field-0.0 in
    let stops = unread_after (to_z w128 (of_z w128 c.sum.result)) (absolute_sum s.records) _ file _ _ stop sum is c.in_err-batch.ensures.err in
    let p = err_from_is_err_and c.from_residual-in_err-batch.result c.from_residual-in_err-batch.ensures.1 in
    rw (p.1, p.2) (unread_batch c.args.name.now file s c.in_ok-shelf.ensures.store _ _ _ c.in_ok-shelf.ensures.told
    (g.O.Sink.state c.args.out.now) (g.K.Keeper.state c.find.new.keeper) stop stops c.in_ok-shelf.ensures.same)

-- the records that the file gave after the sum of the store
read_at : (g : Over) (c : In_ok-batch g) (file : List ℕ) → texts_of c.args.names.now ≡ file ∷ []
    → HasRead (absolute_sum c.in_ok-shelf.shelf.records) (g.F.Files.state c.args.files.now) (g.F.Files.state c.read_batch.new.files) (file ∷ [])
    (records_of c.in_ok-batch.batch)
read_at g c file is =
    let sum = to_z-of_z w128 c.sum.result (record { sfits = c.sum.type_inv }) ∙ c.sum.ensures.value in
    read_after (to_z w128 (of_z w128 c.sum.result)) _ _ file _ _ _ sum is c.in_ok-batch.ensures.ok

-- the store is left with its records added, whatever was written of how its answer changed
added_at : (g : Over) (c : After-write_changes g) (file : List ℕ) (W : List ℕ → Type 0)
    → HasRead (absolute_sum c.in_ok-shelf.shelf.records) (g.F.Files.state c.args.files.now) (g.F.Files.state c.read_batch.new.files) (file ∷ [])
    (records_of c.in_ok-batch.batch) → W (changes_line c.in_ok-changes.changes)
    → Leaves (add c.args.name.now file) (scene (g.F.Files.state c.args.files.now) (g.F.Files.state c.read_batch.new.files) (g.O.Sink.state c.args.out.now)
    (g.O.Sink.state c.write_changes.new.sink) (g.K.Keeper.state c.args.keeper.now) (g.K.Keeper.state c.grow.new.keeper)) W
added_at g c file W has wrote =
    let s = c.in_ok-shelf.shelf in
    let records = records_of c.in_ok-batch.batch in
    let put = c.in_ok-changes.ensures.put ∙ ap (keeping_text c.args.name.now (store_text (with_batch s records))) c.in_ok-shelf.ensures.same in
    added c.args.name.now file s c.in_ok-shelf.ensures.store _ _ _ c.in_ok-shelf.ensures.told records _ _ _ W has c.in_ok-changes.ensures.fits
    c.in_ok-changes.ensures.store put (subst (λ told. W (changes_line told)) c.in_ok-changes.ensures.changes wrote)

pub returns-in_err-changes-clause-ends : goal.returns-in_err-changes-clause-ends
returns-in_err-changes-clause-ends g c = λ file is.
    let s = c.in_ok-shelf.shelf in
    let records = records_of c.in_ok-batch.batch in
    let name = c.args.name.now in
    let after = g.K.Keeper.state c.grow.new.keeper in
    let stop = c.in_err-changes.field-0.0 in
    let stops = subst (λ k. StopsCall k after name (λ f. add_fault s records ≡ Some (shelf_fault f)) stop) c.in_ok-shelf.ensures.same
    c.in_err-changes.ensures.err in
    let p = err_from_is_err_and c.from_residual-in_err-changes.result c.from_residual-in_err-changes.ensures.1 in
    rw (p.1, p.2) (unadded name file s c.in_ok-shelf.ensures.store _ _ _ c.in_ok-shelf.ensures.told records (g.O.Sink.state c.args.out.now) after stop
    (read_at g (goal.at.returns-in_err-changes-clause-ends g c).In_ok-batch file is) stops)

pub returns-in_err-write_changes-clause-ends : goal.returns-in_err-write_changes-clause-ends
returns-in_err-write_changes-clause-ends g c = λ file is.
    let at = goal.at.returns-in_err-write_changes-clause-ends g c in
    let p = err_from_is_err_and c.from_residual-in_err-write_changes.result c.from_residual-in_err-write_changes.ensures.1 in
    rw (p.1, p.2) (added_at g at.After-write_changes file (Broke (g.O.Sink.state c.args.out.now) (g.O.Sink.state c.write_changes.new.sink))
    (read_at g at.In_ok-batch file is) c.in_err-write_changes.ensures)

pub returns-clause-ends : goal.returns-clause-ends
returns-clause-ends g c = λ file is.
    let at = goal.at.returns-clause-ends g c in
    added_at g at.After-write_changes file (Appended (g.O.Sink.state c.args.out.now) (g.O.Sink.state c.write_changes.new.sink))
    (read_at g at.In_ok-batch file is) c.in_ok-write_changes.ensures
