-- The entries of an answer in a map from their keys, which keeps their order.
use Rattle.std.specs.Prelude.{
  ◌≡◌,
  ℕ,
  ◌≤◌,
  ◌==◌,
  ℤ,
  pos,
  ◌≤ℤ◌,
  Bool,
  false,
  not,
  ◌&&◌,
  Option,
  None,
  Some,
  ◌⊎◌,
  List,
  ◌++◌,
  map,
  IfSome,
}
use Rattle.std.specs.List.{count_by}
use Rattle.std.specs.Map.{lookup}
use Rattle.std.specs.Option.{is_some}
use Rattle.std.specs.Ordering.{int_eq}
use lib.Pointwise.{pointwise}
use Rattle.hu_kind.specs.declared.entry.Entry.{Entry}
use Rattle.hu_base.specs.Base.{carried_of, records_of}
use Rattle.hu_kept.specs.Holders.{IsFront}
use Rattle.hu_kept.specs.Kept.{Keeping, answer_of}
use Rattle.hu_kept.specs.Laws.{NoneBelow}
use Rattle.hu_kept.specs.declared.aim.Aim.{Aim}
use Rattle.hu_kept.specs.declared.held.Held.{Held}

-- an entry of a map as an entry of an answer
abbrev pub entry_from : List ℤ × Held → Entry
entry_from held = record { key = held.0; utility = held.1.utility; support = held.1.support }

-- what an entry tells of its key
abbrev pub held_of : Entry → Held
held_of entry = record { utility = entry.utility; support = entry.support }

-- the entries of a map
abbrev pub entries_from : List (List ℤ × Held) → List Entry
entries_from entries = map entry_from entries

-- records with what is asked for
abbrev pub keeping : Aim → List (List (ℕ × ℤ)) → Keeping
keeping aim records = record { records = records; least = aim.least; top = aim.top; closed = aim.closed }

-- what may be asked for: a least utility of at least 1, and a limit of at least 1
pub record IsAim (aim : Aim) : Type 0 where
  pub least : pos 1 ≤ℤ aim.least
  pub some : IfSome aim.top (λ k. 1 ≤ k)

-- the rules of a kept answer: nothing is counted that isn't there, the first of its records are noted, and its entries are the
-- answer of its records
pub record IsKeeping (aim : Aim) (base : ℕ × List (List (ℕ × ℤ))) (noted : List (List (ℕ × ℤ)))
    (entries : List (List ℤ × Held)) : Type 0 where
  pub asked : IsAim aim
  pub own : carried_of base ≡ 0
  pub front : IsFront noted (records_of base)
  pub answer : entries_from entries ≡ answer_of (keeping aim (records_of base))

-- a batch whose records are the last ones, and old entries that are the answer of those before: without a limit or without a
-- value below 0 in the batch it is enough to search what the batch touches
pub record Continues (aim : Aim) (records : List (List (ℕ × ℤ))) (old : List Entry)
    (batch : List (List (ℕ × ℤ))) : Type 0 where
  pub before : List (List (ℕ × ℤ))
  pub joined : before ++ batch ≡ records
  pub answer : old ≡ answer_of (keeping aim before)
  pub either : (aim.top ≡ None) ⊎ NoneBelow batch

-- how many entries of a map have keys that another has not
abbrev pub more_in : List (List ℤ × Held) → List (List ℤ × Held) → ℕ
more_in other entries = count_by (λ e. not (is_some (lookup (pointwise int_eq e.0) other))) entries

-- whether there is something held, and it tells another utility or support
abbrev pub differs : Option Held → Held → Bool
differs None held = false
differs (Some one) held = not (int_eq one.utility held.utility && one.support == held.support)

-- how many entries of a map have keys that another has with another utility or support
abbrev pub others_in : List (List ℤ × Held) → List (List ℤ × Held) → ℕ
others_in other entries = count_by (λ e. differs (lookup (pointwise int_eq e.0) other) e.1) entries
