-- Why calls on a store are refused, and what a shelf's fields keep.
use Rattle.std.specs.Prelude.{
  ◌≡◌,
  ℕ,
  ◌+◌,
  ◌^◌,
  ⊤,
  nat_lt,
  nat_le,
  ℤ,
  pos,
  ◌≤◌,
  Bool,
  true,
  false,
  Option,
  None,
  Some,
  is_some,
  List,
  [],
  ◌∷◌,
  ◌++◌,
  length,
  if◌then◌else◌,
}
use Rattle.std.specs.List.{sum_by}
use Rattle.hu_io.specs.Count.{Rose}
use Rattle.hu_kind.specs.Record.{absolute_of}
use Rattle.hu_base.specs.Base.{carried_of, records_of, sum_of}
use Rattle.hu_kept.specs.Kept.{Keeping, with_batch}
use Rattle.hu_shelf.specs.declared.fault.ShelfFault.{ShelfFault}
use Rattle.hu_shelf.specs.declared.fault.ShelfFault.TheVariants.{
  Absent,
  Present,
  Damaged,
  SumTooLarge,
  TooLarge,
  KeeperFailed,
  NoMemory,
}
use Rattle.hu_shelf.specs.declared.keeper.KeepFault.{KeepFault}
use Rattle.hu_shelf.specs.declared.keeper.KeepFault.TheVariants.{Failed, NoMemory as OutOfMemory}
use Rattle.hu_shelf.specs.Keeper.{KeeperState, Stays, Told}
use Rattle.hu_shelf.specs.Store.{IsStore, store_of, store_text}

-- the sum of the absolute values of all utilities
abbrev pub absolute_sum : List (List (ℕ × ℤ)) → ℕ
absolute_sum records = sum_by absolute_of records

-- why no store is made where this text stands
abbrev pub create_fault : List ℕ → Option ShelfFault
create_fault [] = None
create_fault (byte ∷ bytes) = Some Present

-- why this text gives no store
abbrev pub find_fault : List ℕ → Option ShelfFault
find_fault [] = Some Absent
find_fault (byte ∷ bytes) = if is_some (store_of (byte ∷ bytes)) then None else Some Damaged

-- why records are not added to a store
abbrev pub add_fault : Keeping → List (List (ℕ × ℤ)) → Option ShelfFault
add_fault s batch =
    if nat_le (2 ^ 127) (absolute_sum s.records + absolute_sum batch) then Some
    (SumTooLarge (pos (absolute_sum s.records)) (pos (absolute_sum batch)))
    else if nat_lt 268435456 (length (store_text (with_batch s batch))) then Some TooLarge
    else None

-- a keeper's fault as a shelf's
abbrev pub fault_of : KeepFault → ShelfFault
fault_of Failed = KeeperFailed
fault_of OutOfMemory = NoMemory

-- a call is refused for a fault of the keeper, whose count of the name rose, for want of memory, or for such a fault
abbrev pub IsCause : KeeperState → KeeperState → List ℕ → (ShelfFault → Type 0) → ShelfFault → Type 0
IsCause old new name IsSuch KeeperFailed = Rose (old.faults name) (new.faults name)
IsCause old new name IsSuch NoMemory = ⊤
IsCause old new name IsSuch Absent = IsSuch Absent
IsCause old new name IsSuch Present = IsSuch Present
IsCause old new name IsSuch Damaged = IsSuch Damaged
IsCause old new name IsSuch (SumTooLarge before added) = IsSuch (SumTooLarge before added)
IsCause old new name IsSuch TooLarge = IsSuch TooLarge

-- it is refused, and no text changed
pub record Refuses (old new : KeeperState) (name : List ℕ) (IsSuch : ShelfFault → Type 0)
    (fault : ShelfFault) : Type 0 where
  pub cause : IsCause old new name IsSuch fault
  pub stays : Stays old new

-- a text has this fault, which is that of the name where the texts are told
abbrev pub IsFaultOf : KeeperState → List ℕ → (List ℕ → Option ShelfFault) → ShelfFault → Type 0
IsFaultOf state name told fault =
    (text : List ℕ) × Told state name (λ there. there ≡ text) × (told text ≡ Some fault)

-- the rules of a shelf's fields: its text is that of the store, and its sum and its task are the store's
pub record IsShelf (s : Keeping) (bytes : List ℕ) (absolute : ℤ) (only : Bool) : Type 0 where
  pub store : IsStore s
  pub text : bytes ≡ store_text s
  pub sum : absolute ≡ pos (absolute_sum s.records)
  pub closed : only ≡ s.closed

-- records were added to a base, or the sums would pass 2^127 - 1
abbrev pub Adds : Bool → ℕ × List (List (ℕ × ℤ)) → ℕ × List (List (ℕ × ℤ)) → List (List (ℕ × ℤ)) → Type 0
Adds true old new records = new ≡ (carried_of old, records_of old ++ records)
Adds false old new records = 2 ^ 127 ≤ sum_of absolute_of old + absolute_sum records
