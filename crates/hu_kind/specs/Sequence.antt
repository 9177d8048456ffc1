-- A sequence record is a list of elements, each a list of pairs (item, value) with the items ascending; a sequence
-- is a list of itemsets. Its utility in a record is the greatest over all its occurrences. After USpan (Yin, Zheng and Cao, 2012).
use Rattle.std.specs.Prelude.{
  ◌≡◌,
  ℕ,
  ◌^◌,
  ◌<◌,
  ◌≤◌,
  ℤ,
  pos,
  negsuc,
  ◌+ℤ◌,
  false,
  Option,
  None,
  Some,
  is_some,
  nat_lt,
  List,
  [],
  ◌∷◌,
  ◌++◌,
  map,
  length,
  if◌then◌else◌,
}
use Rattle.std.specs.Int.{int_max}
use Rattle.std.specs.Option.{option_map, unwrap_or}
use Rattle.std.specs.List.{filter, flat_map, count_by, list_any, sum_by, AllByRecursion}
use Rattle.hu_kind.specs.declared.entry.Entry.{Entry}
use Rattle.hu_kind.specs.Record.{items_in, holds, values_of, any_negative, absolute_of, IsItemset}
use Rattle.hu_kind.specs.Itemsets.{sublists}

-- the greater of two utilities; none is less than every number
abbrev pub better : Option ℤ → Option ℤ → Option ℤ
better None b = b
better (Some x) None = Some x
better (Some x) (Some y) = Some (int_max x y)

-- the best utility of a sequence in a record: its first itemset in the first element, where it lies there,
-- and the rest after it; or all of it after the first element
abbrev pub best_utility : List (List ℕ) → List (List (ℕ × ℤ)) → Option ℤ
best_utility [] elements = Some (pos 0)
best_utility (p ∷ ps) [] = None
best_utility (p ∷ ps) (e ∷ es) = better
    (if holds p e then option_map (λ u. values_of p e +ℤ u) (best_utility ps es) else None)
    (best_utility (p ∷ ps) es)

-- the utility of a sequence in a database: its best utility in each record in which it occurs
abbrev pub sequence_utility : List (List (List (ℕ × ℤ))) → List (List ℕ) → ℤ
sequence_utility [] pattern = pos 0
sequence_utility (r ∷ rs) pattern = unwrap_or (best_utility pattern r) (pos 0) +ℤ sequence_utility rs pattern

-- in how many records a sequence occurs
abbrev pub sequence_support : List (List (List (ℕ × ℤ))) → List (List ℕ) → ℕ
sequence_support records pattern = count_by (λ r. is_some (best_utility pattern r)) records

-- a sequence with a set of items as its first itemset, where the set isn't empty
abbrev pub led_by : List ℕ → List (List ℕ) → List (List ℕ)
led_by [] pattern = pattern
led_by (i ∷ is) pattern = (i ∷ is) ∷ pattern

-- all subsequences of a record: at each element a sublist of its items; empty ones vanish
abbrev pub subsequences : List (List (ℕ × ℤ)) → List (List (List ℕ))
subsequences [] = [] ∷ []
subsequences (e ∷ es) = flat_map (λ s. map (led_by s) (subsequences es)) (sublists (items_in e))

-- the key of a sequence: its itemsets in order, each followed by -1
abbrev pub sequence_key : List (List ℕ) → List ℤ
sequence_key pattern = flat_map (λ items. map pos items ++ negsuc 0 ∷ []) pattern

-- a key whose last itemset is ended, if there is one
abbrev pub closed : List ℤ → List ℤ
closed [] = []
closed (n ∷ ns) = n ∷ ns ++ negsuc 0 ∷ []

-- the entry of a sequence: its key, its utility and its support
abbrev pub sequence_entry : List (List (List (ℕ × ℤ))) → List (List ℕ) → Entry
sequence_entry records pattern =
    record {
      key = sequence_key pattern;
      utility = sequence_utility records pattern;
      support =
          sequence_support records pattern;
    }

-- the entries of all non-empty sequences that occur
abbrev pub sequence_patterns : List (List (List (ℕ × ℤ))) → List Entry
sequence_patterns records =
    flat_map
    (λ r. map (sequence_entry records) (filter (λ p. nat_lt 0 (length p)) (subsequences r))) records

-- the rules of a sequence record: there is an element, each is an itemset, the cells are at most 4,096 together,
-- no value is below 0, and the values sum to at most 2 ^ 127 - 1
pub record IsSequence (elements : List (List (ℕ × ℤ))) : Type 0 where
  pub itemsets : AllByRecursion IsItemset elements
  pub some : 0 < length elements
  pub few : sum_by length elements ≤ 4096
  pub none_below : list_any any_negative elements ≡ false
  pub sum_fits : sum_by absolute_of elements < 2 ^ 127
