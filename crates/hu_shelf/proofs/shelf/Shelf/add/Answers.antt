use Rattle.std.proofs.Common.{◌≡◌, ℕ, List, Err, Some, ap, ◌∙◌}
use Rattle.std.proofs.lemmas.Result.{err_from_is_err_and}
use Rattle.hu_base.specs.Base.{records_of}
use Rattle.hu_shelf.specs.declared.fault.ShelfFault.{ShelfFault}
use Rattle.hu_shelf.specs.declared.keeper.KeepFault.{KeepFault}
use Rattle.hu_shelf.specs.declared.keeper.KeepFault.TheVariants.{Failed, NoMemory as OutOfMemory}
use Rattle.hu_shelf.specs.Keeper.{KeeperState, Replaces, keeping_text}
use Rattle.hu_shelf.specs.Shelf.{Refuses, add_fault, fault_of}
use Rattle.hu_shelf.specs.Store.{store_text}
use Rattle.hu_shelf.proofs.shelf.Shelf.add.Goals as goal

pub returns-clause-put : goal.returns-clause-put
returns-clause-put g c =
    c.in_ok-replace.ensures
    ∙ ap (λ text. keeping_text c.args.name.now text (g.K.Keeper.state c.args.keeper.now))
    (c.deref.ensures.value ∙ c.shelf.invariant.text ∙ ap store_text (c.shelf.view_is ∙ c.in_ok-shelf.ensures.shelf))

-- a refused replacement is the fault of the keeper
refused : (old new : KeeperState) (name text : List ℕ) (IsSuch : ShelfFault → Type 0) (fault : KeepFault)
    → Replaces old new name text (Err fault) → Refuses old new name IsSuch (fault_of fault)
refused old new name text IsSuch Failed fails = record { cause = fails.rose; stays = fails.stays }
refused old new name text IsSuch OutOfMemory stays = record { cause = tt; stays = stays }

pub returns-in_err-replace-clause-err : goal.returns-in_err-replace-clause-err
returns-in_err-replace-clause-err g c =
    let p = err_from_is_err_and c.from_residual-in_err-replace.result c.from_residual-in_err-replace.ensures.1 in
    rw (p.1, p.2)
    (refused (g.K.Keeper.state c.args.keeper.now) (g.K.Keeper.state c.replace.new.self) c.args.name.now c.deref.result.now
    (λ fault. add_fault c.args.self (records_of c.args.batch) ≡ Some fault) c.in_err-replace.field-0.0 c.in_err-replace.ensures)
