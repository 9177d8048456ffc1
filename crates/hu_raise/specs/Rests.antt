-- What is left of records from a rank on. A record is handed from rank to rank: it waits in the list of its next one.
use Rattle.std.specs.Prelude.{
  ◌≡◌,
  ℕ,
  ◌<◌,
  ℤ,
  pos,
  ◌≤ℤ◌,
  ◌+ℤ◌,
  List,
  [],
  ◌∷◌,
  ◌++◌,
  drop,
  fold,
  length,
  map,
  slice_index_or,
  slice_set,
  if◌then◌else◌,
  refl,
}
use Rattle.std.specs.List.{AllByRecursion}
use Rattle.hu_kind.specs.Order.{Ascend}
use Rattle.hu_kind.specs.Record.{gain, items_in}
use Rattle.hu_totals.specs.Cells.{among}

-- the ranks of a record from one on, and what the whole record gains
pub record RestOf : Type 0 where
  pub ranks : List ℕ
  pub gain : ℤ

-- a whole record as a rest
abbrev pub rest_from : List (ℕ × ℤ) → RestOf
rest_from cells = record { ranks = items_in cells; gain = gain cells }

-- what is left after the first rank
abbrev pub after_first : RestOf → RestOf
after_first rest = record { ranks = drop 1 rest.ranks; gain = rest.gain }

-- the list of a rank
abbrev pub list_at : List (List RestOf) → ℕ → List RestOf
list_at lists rank = slice_index_or lists rank []

-- lists with a rest more in that of the first of some ranks, where there is one
abbrev pub handed_to : List ℕ → List (List RestOf) → RestOf → List (List RestOf)
handed_to [] lists rest = lists
handed_to (rank ∷ later) lists rest = slice_set lists rank (list_at lists rank ++ rest ∷ [])

-- lists with a rest more in that of its first rank, where it has one
abbrev pub handed : List (List RestOf) → RestOf → List (List RestOf)
handed lists rest = handed_to rest.ranks lists rest

-- what the rests gain in which a rank stands after the first
abbrev pub later_gain : List RestOf → ℕ → ℤ
later_gain [] rank = pos 0
later_gain (rest ∷ rests) rank =
    (if among rank (drop 1 rest.ranks) then rest.gain else pos 0) +ℤ later_gain rests rank

-- a rest over ranks below a number: there is one, they ascend, and the gain isn't below 0
pub record IsRest (n : ℕ) (rest : RestOf) : Type 0 where
  pub some : 0 < length rest.ranks
  pub ascending : Ascend rest.ranks
  pub in_range : AllByRecursion (λ rank. rank < n) rest.ranks
  pub least : pos 0 ≤ℤ rest.gain

-- two records that begin with rank 0 wait there; the one that goes on is handed to rank 2
abbrev pub two_rests : List RestOf
two_rests = map rest_from (((0, pos 4) ∷ (2, pos 3) ∷ []) ∷ ((0, pos 9) ∷ []) ∷ [])

pub waiting_at_0 : fold handed ([] ∷ [] ∷ [] ∷ []) two_rests ≡ two_rests ∷ [] ∷ [] ∷ []
waiting_at_0 = refl

pub handed_to_2 : fold handed ([] ∷ [] ∷ [] ∷ []) (map after_first two_rests)
    ≡ [] ∷ [] ∷ (record { ranks = 2 ∷ []; gain = pos 7 } ∷ []) ∷ []
handed_to_2 = refl

pub gained_with_2 : later_gain two_rests 2 ≡ pos 7
gained_with_2 = refl
