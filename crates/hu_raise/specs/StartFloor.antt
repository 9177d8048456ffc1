-- The floor with which a search for the first k patterns may start: the k-th greatest utility of a single item.
use Rattle.std.specs.Prelude.{
  ◌≡◌,
  ℕ,
  ◌-◌,
  ℤ,
  pos,
  ◌≤ℤ◌,
  int_le,
  Some,
  List,
  [],
  ◌∷◌,
  map,
  slice_index_or,
  if◌then◌else◌,
}
use Rattle.std.specs.List.{filter}
use Rattle.hu_kind.specs.Answer.{item_answer}
use Rattle.hu_totals.specs.declared.totals.ItemTotal.{ItemTotal}
use Rattle.hu_totals.specs.Totals.{item_totals}

-- a number put in before the first that isn't greater
abbrev pub put : ℤ → List ℤ → List ℤ
put x [] = x ∷ []
put x (y ∷ ys) = if int_le y x then x ∷ y ∷ ys else y ∷ put x ys

-- numbers, the greatest first
abbrev pub descending : List ℤ → List ℤ
descending [] = []
descending (x ∷ xs) = put x (descending xs)

-- the item utilities of at least 1
abbrev pub earned : List (ℕ × ItemTotal) → List ℤ
earned totals = filter (λ utility. int_le (pos 1) utility) (map (λ entry. entry.1.utility) totals)

-- the k-th greatest item utility where k items have a utility of at least 1, else 1
abbrev pub start_of : ℕ → List (ℕ × ItemTotal) → ℤ
start_of k totals = slice_index_or (descending (earned totals)) (k - 1) (pos 1)

-- in every database of these totals the first k itemsets are the same with this floor as with any from 1 to it
abbrev pub KeepsAnswers : ℕ → List (ℕ × ItemTotal) → ℤ → Type 0
KeepsAnswers k totals floor = (records : List (List (ℕ × ℤ))) → totals ≡ item_totals records
    → (least : ℤ) → pos 1 ≤ℤ least → least ≤ℤ floor
    → item_answer records floor (Some k) ≡ item_answer records least (Some k)
