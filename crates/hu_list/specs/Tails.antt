-- Tails: what a set of ranks leaves of the records that hold it. A search walks on in them to find the sets that grow it. After
-- HUI-Miner (Liu and Qu, 2012), whose lists say the same, and d2HUP (Liu, Wang and Fung, 2012), which walks on in the records.
use Rattle.std.specs.Prelude.{
  ℕ,
  ◌+◌,
  nat_lt,
  ℤ,
  pos,
  ◌+ℤ◌,
  unsigned_abs,
  Bool,
  List,
  [],
  ◌∷◌,
  length,
  if◌then◌else◌,
}
use Rattle.std.specs.List.{flat_map}
use Rattle.hu_kind.specs.Record.{has, holds, value_of, values_of, positive_part, absolute_of}
use Rattle.hu_totals.specs.Cells.{after, kept_gain}

-- what a set earns in a record that holds it, and the record's cells after the set's last rank
pub record TailOf : Type 0 where
  pub own : ℤ
  pub cells : List (ℕ × ℤ)

-- a record as a tail of the empty set
abbrev pub tail_from : List (ℕ × ℤ) → TailOf
tail_from cells = record { own = pos 0; cells = cells }

-- what the set earns with further ranks at its tails that hold these
abbrev pub earned : List TailOf → List ℕ → ℤ
earned [] more = pos 0
earned (tail ∷ tails) more =
    (if holds more tail.cells then tail.own +ℤ values_of more tail.cells else pos 0)
    +ℤ earned tails more

-- how many tails hold further ranks
abbrev pub held : List TailOf → List ℕ → ℕ
held [] more = 0
held (tail ∷ tails) more = (if holds more tail.cells then 1 else 0) + held tails more

-- the tail that a tail leaves to the set with a rank more, where it holds the rank
abbrev pub grown_at : ℕ → TailOf → List TailOf
grown_at z tail =
    if has z tail.cells then record {
      own = tail.own +ℤ value_of z tail.cells;
      cells =
          after z tail.cells;
    } ∷ [] else []

-- the tails of the set with a rank more
abbrev pub grown : ℕ → List TailOf → List TailOf
grown z tails = flat_map (grown_at z) tails

-- whether cells are left at a tail
abbrev pub has_cells : TailOf → Bool
has_cells tail = nat_lt 0 (length tail.cells)

-- the most that the set with kept ranks earns at a tail
abbrev pub share : List ℕ → TailOf → ℤ
share keep tail = positive_part (tail.own +ℤ kept_gain keep tail.cells)

-- the sum of the shares of the tails that hold a rank
abbrev pub gain_with : List ℕ → List TailOf → ℕ → ℤ
gain_with keep [] z = pos 0
gain_with keep (tail ∷ tails) z =
    (if has z tail.cells then share keep tail else pos 0) +ℤ gain_with keep tails z

-- the absolute values of a tail
abbrev pub size_of : TailOf → ℕ
size_of tail = unsigned_abs tail.own + absolute_of tail.cells
