-- All itemsets of a database, the closed ones among them, and the entry of each.
use Rattle.std.specs.Prelude.{
  ℕ,
  ℤ,
  pos,
  ◌==◌,
  nat_lt,
  Bool,
  not,
  ◌&&◌,
  ◌||◌,
  List,
  [],
  ◌∷◌,
  ◌++◌,
  map,
  length,
}
use Rattle.std.specs.List.{filter, list_all, list_any}
use Rattle.hu_kind.specs.declared.entry.Entry.{Entry}
use Rattle.hu_kind.specs.Record.{has, holds}
use Rattle.hu_kind.specs.Database.{utility, support, items_of}

-- all sublists of a list: those of its tail, and each of them with the head in front
abbrev pub sublists : {A : Type 0} → List A → List (List A)
sublists [] = [] ∷ []
sublists (x ∷ xs) = sublists xs ++ map (λ s. x ∷ s) (sublists xs)

-- whether an item stands in every record that holds a set
abbrev pub goes_with : List (List (ℕ × ℤ)) → List ℕ → ℕ → Bool
goes_with records items item = list_all (λ r. not (holds items r) || has item r) records

-- whether a set is closed: no occurring item outside it stands in every record that holds it
abbrev pub is_closed : List (List (ℕ × ℤ)) → List ℕ → Bool
is_closed records items =
    list_all (λ i. list_any (λ j. i == j) items || not (goes_with records items i))
    (items_of records)

-- the non-empty sets of items that some record holds
abbrev pub occurring_sets : List (List (ℕ × ℤ)) → List (List ℕ)
occurring_sets records =
    filter (λ s. nat_lt 0 (length s) && nat_lt 0 (support records s)) (sublists (items_of records))

-- the entry of a set: its items ascending, its utility and its support
abbrev pub item_entry : List (List (ℕ × ℤ)) → List ℕ → Entry
item_entry records items =
    record { key = map pos items; utility = utility records items; support = support records items }

-- the entries of all itemsets
abbrev pub item_patterns : List (List (ℕ × ℤ)) → List Entry
item_patterns records = map (item_entry records) (occurring_sets records)

-- the entries of the closed itemsets
abbrev pub closed_patterns : List (List (ℕ × ℤ)) → List Entry
closed_patterns records = map (item_entry records) (filter (is_closed records) (occurring_sets records))
