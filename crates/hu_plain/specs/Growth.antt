-- What a search for sequences makes of a prefix: a prefix grows by further items in its last itemset and further itemsets
-- after it. The key of a prefix stays open: its last itemset has no -1 yet.
use Rattle.std.specs.Prelude.{◌≡◌, refl, ℕ, ◌+◌, ◌<◌, ◌⊎◌, ℤ, pos, ◌+ℤ◌, None, is_some, unwrap_or, List, [], ◌∷◌, ◌++◌, map, length}
use Rattle.std.specs.List.{count_by, AllByRecursion}
use Rattle.hu_kind.specs.declared.entry.Entry.{Entry}
use Rattle.hu_kind.specs.Sequence.{closed, sequence_key}
use Rattle.hu_kind.specs.Worked.{later_is_greatest, sequence_entry_of}
use Rattle.hu_kind.specs.Order.{Ascend}
use Rattle.hu_plain.specs.declared.places.Step.{Step}
use Rattle.hu_plain.specs.declared.places.Step.TheVariants.{Into, After}
use Rattle.hu_plain.specs.Place.{Places, after, first_places, grown_best}

-- the utility of a grown prefix
abbrev pub grown_utility : List Places → List ℕ → List (List ℕ) → ℤ
grown_utility [] items rest = pos 0
grown_utility (places ∷ rows) items rest =
    unwrap_or (grown_best items rest places) (pos 0) +ℤ grown_utility rows items rest

-- in how many records a grown prefix occurs
abbrev pub grown_support : List Places → List ℕ → List (List ℕ) → ℕ
grown_support rows items rest = count_by (λ places. is_some (grown_best items rest places)) rows

-- the key of a prefix with a step more, its last itemset open
abbrev pub stepped_key : List ℤ → Step → List ℤ
stepped_key prefix (Into item) = prefix ++ pos item.0 ∷ []
stepped_key prefix (After item) = closed prefix ++ pos item.0 ∷ []

-- the entry of a prefix with further items in its last itemset and further itemsets after it
abbrev pub growth_entry : List ℤ → List Places → List ℕ → List (List ℕ) → Entry
growth_entry prefix rows items rest = record {
  key = closed (prefix ++ map pos items) ++ sequence_key rest;
  utility = grown_utility rows items rest;
  support = grown_support rows items rest;
}

-- the entry of the prefix itself
abbrev pub prefix_entry : List ℤ → List Places → Entry
prefix_entry prefix rows =
    record { key = closed prefix; utility = grown_utility rows [] []; support = length rows }

-- an itemset of a pattern: some items, ascending
abbrev pub IsSet : List ℕ → Type 0
IsSet items = (0 < length items) × Ascend items

-- an entry is that of a sequence that grows a prefix and occurs
pub record Grows (prefix : List ℤ) (rows : List Places) (entry : Entry) : Type 0 where
  pub items : List ℕ
  pub rest : List (List ℕ)
  pub some : 0 < length items + length rest
  pub ascending : Ascend items
  pub itemsets : AllByRecursion IsSet rest
  pub occurs : 0 < grown_support rows items rest
  pub is : growth_entry prefix rows items rest ≡ entry

-- an entry is that of a prefix itself, or of a sequence that grows it
abbrev pub IsGrowth : List ℤ → List Places → Entry → Type 0
IsGrowth prefix rows entry = (prefix_entry prefix rows ≡ entry) ⊎ Grows prefix rows entry

-- `1 -1` grows by `2 -1` in the record `1[2] -1 1[5] -1 2[3] -1`
pub grown_by_2 : growth_entry (pos 1 ∷ []) (after 1 None (first_places later_is_greatest) ∷ []) []
    ((2 ∷ []) ∷ [])
    ≡ sequence_entry_of ((1 ∷ []) ∷ (2 ∷ []) ∷ []) 8 1
grown_by_2 = refl
