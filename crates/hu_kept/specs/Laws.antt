-- What a batch of further records leaves as it was.
use Rattle.std.specs.Prelude.{◌≡◌, ℕ, ◌<◌, ℤ, ◌≤ℤ◌, true, false, ◌⊎◌, None, List, ◌++◌}
use Rattle.std.specs.List.{All, Contains}
use Rattle.hu_kind.specs.declared.entry.Entry.{Entry}
use Rattle.hu_kind.specs.Record.{any_negative}
use Rattle.hu_kind.specs.Database.{utility, support}
use Rattle.hu_kind.specs.Itemsets.{is_closed}
use Rattle.hu_kept.specs.Kept.{Keeping, answer_of, with_batch}
use Rattle.hu_kept.specs.Touched.{is_touched}

-- no record holds a value below 0
abbrev pub NoneBelow : List (List (ℕ × ℤ)) → Type 0
NoneBelow batch = All (λ cells. any_negative cells ≡ false) batch

-- a set in no record of a batch keeps its utility and its support
abbrev pub KeepsUntouched : Type 0
KeepsUntouched = (records batch : List (List (ℕ × ℤ))) (items : List ℕ) → support batch items ≡ 0
    → (utility (records ++ batch) items ≡ utility records items)
    × (support (records ++ batch) items ≡ support records items)

-- and where a record holds it, it is closed where it was
abbrev pub KeepsClosedness : Type 0
KeepsClosedness = (records batch : List (List (ℕ × ℤ))) (items : List ℕ) → support batch items ≡ 0
    → 0 < support records items
    → is_closed (records ++ batch) items ≡ is_closed records items

-- a set that a record holds stays closed
abbrev pub StaysClosed : Type 0
StaysClosed = (records batch : List (List (ℕ × ℤ))) (items : List ℕ) → 0 < support records items
    → is_closed records items ≡ true → is_closed (records ++ batch) items ≡ true

-- a set loses nothing by a batch without values below 0
abbrev pub NeverLoses : Type 0
NeverLoses = (records batch : List (List (ℕ × ℤ))) (items : List ℕ) → NoneBelow batch
    → utility records items ≤ℤ utility (records ++ batch) items

-- an untouched entry of the answer with a batch was in the answer before, where there is no limit or no value below 0 in the
-- batch: an untouched pattern outside the first k stays outside
abbrev pub StaysOutside : Type 0
StaysOutside = (kept : Keeping) (batch : List (List (ℕ × ℤ))) → (kept.top ≡ None) ⊎ NoneBelow batch
    → (entry : Entry) → is_touched batch entry.key ≡ false
    → Contains (answer_of (with_batch kept batch)) entry → Contains (answer_of kept) entry
