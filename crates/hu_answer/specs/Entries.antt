-- When an entry is that of an itemset, or of a sequence, in the words of its reader: without a list of all of them and without a ranking.
use Rattle.std.specs.Prelude.{◌≡◌, ℕ, ◌<◌, ℤ, pos, ◌≤ℤ◌, List, map, length}
use Rattle.std.specs.List.{AllByRecursion}
use Rattle.hu_kind.specs.declared.entry.Entry.{Entry}
use Rattle.hu_kind.specs.Database.{utility, support}
use Rattle.hu_kind.specs.Order.{Ascend}
use Rattle.hu_kind.specs.Sequence.{sequence_key, sequence_utility, sequence_support}

-- an entry is that of a set: its key is the set, its utility the set's utility, its support the set's support
pub record IsEntryOf (records : List (List (ℕ × ℤ))) (items : List ℕ) (entry : Entry) : Type 0 where
  pub key : entry.key ≡ map pos items
  pub earned : entry.utility ≡ utility records items
  pub held_by : entry.support ≡ support records items

-- a set is found: it has an item, its items ascend, some record holds it, and it earns at least the minimum
pub record IsFoundSet (records : List (List (ℕ × ℤ))) (least : ℤ) (items : List ℕ) : Type 0 where
  pub some : 0 < length items
  pub ascending : Ascend items
  pub held : 0 < support records items
  pub earns : least ≤ℤ utility records items

-- an entry is that of a sequence: its key is the sequence, its utility and its support are the sequence's
pub record IsSequenceEntryOf (records : List (List (List (ℕ × ℤ)))) (pattern : List (List ℕ))
    (entry : Entry) : Type 0 where
  pub key : entry.key ≡ sequence_key pattern
  pub earned : entry.utility ≡ sequence_utility records pattern
  pub held_by : entry.support ≡ sequence_support records pattern

-- a sequence is found: it has an itemset, each has an item and ascends, it occurs in some record, and it earns at least the minimum
pub record IsFoundSequence (records : List (List (List (ℕ × ℤ)))) (least : ℤ)
    (pattern : List (List ℕ)) : Type 0 where
  pub some : 0 < length pattern
  pub filled : AllByRecursion (λ items. 0 < length items) pattern
  pub ascending : AllByRecursion Ascend pattern
  pub held : 0 < sequence_support records pattern
  pub earns : least ≤ℤ sequence_utility records pattern
