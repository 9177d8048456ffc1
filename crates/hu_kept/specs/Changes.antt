-- How two answers differ. Entries are told apart by their keys.
use Rattle.std.specs.Prelude.{
  ◌==◌,
  ℕ,
  ℤ,
  Bool,
  false,
  not,
  ◌&&◌,
  Option,
  None,
  Some,
  List,
  [],
  ◌∷◌,
  if◌then◌else◌,
}
use Rattle.std.specs.List.{count_by}
use Rattle.std.specs.Option.{is_some}
use Rattle.std.specs.Ordering.{int_eq}
use lib.Pointwise.{pointwise}
use Rattle.hu_kind.specs.declared.entry.Entry.{Entry}
use Rattle.hu_kept.specs.declared.changes.Changes.{Changes}

-- the entry of a key in an answer, where there is one
abbrev pub entry_at : List ℤ → List Entry → Option Entry
entry_at key [] = None
entry_at key (entry ∷ entries) = if pointwise int_eq key entry.key then Some entry else entry_at key entries

-- whether there is an entry, and it tells another utility or support
abbrev pub tells_other : Option Entry → Entry → Bool
tells_other None entry = false
tells_other (Some other) entry = not (int_eq other.utility entry.utility && other.support == entry.support)

-- how many entries of an answer have keys that another has not
abbrev pub more_keys : List Entry → List Entry → ℕ
more_keys other entries = count_by (λ e. not (is_some (entry_at e.key other))) entries

-- how many entries of an answer have keys that another has with another utility or support
abbrev pub other_values : List Entry → List Entry → ℕ
other_values other entries = count_by (λ e. tells_other (entry_at e.key other) e) entries

-- what an answer has more than an older one, what in both differs, and what it has no more
abbrev pub changes : List Entry → List Entry → Changes
changes old new =
    record {
      added = more_keys old new;
      changed = other_values old new;
      dropped =
          more_keys new old;
    }
