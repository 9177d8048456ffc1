-- Worked rows: the totals and the ranks of base A, by computation.
use Rattle.std.specs.Prelude.{◌≡◌, ℕ, pos, [], ◌∷◌, refl}
use Rattle.hu_kind.specs.Worked.{base_a}
use Rattle.hu_totals.specs.declared.totals.ItemTotal.{ItemTotal}
use Rattle.hu_totals.specs.Totals.{item_totals}
use Rattle.hu_totals.specs.declared.weights.RankOrder.TheVariants.{Gain, Value}
use Rattle.hu_totals.specs.Ranked.{ordered_items, ranked_items}

-- an item with its utility, its positive values, its support and its transaction-weighted utility
abbrev pub total_row : ℕ → ℕ → ℕ → ℕ → ℕ → ℕ × ItemTotal
total_row item earned above records gained = (
  item,
  record {
    utility = pos earned;
    positive = pos above;
    support = records;
    twu =
        pos gained;
  },
)

-- the totals of base A, in first-seen order
pub totals_of_base_a : item_totals base_a ≡
    total_row 1 20 20 3 65
    ∷ total_row 2 22 22 3 61
    ∷ total_row 3 13 13 5 96
    ∷ total_row 4 14 14 3 58
    ∷ total_row 5 15 15 4 88
    ∷ total_row 6 5 5 1 30
    ∷ total_row 7 7 7 2 38
    ∷ []
totals_of_base_a = refl

-- with the floor 30 every item has a rank
pub ranks_at_30 : ranked_items (pos 30) base_a ≡ 6 ∷ 7 ∷ 4 ∷ 2 ∷ 1 ∷ 5 ∷ 3 ∷ []
ranks_at_30 = refl

-- with the floor 31 item 6 has none
pub ranks_at_31 : ranked_items (pos 31) base_a ≡ 7 ∷ 4 ∷ 2 ∷ 1 ∷ 5 ∷ 3 ∷ []
ranks_at_31 = refl

-- by the size of their mean values the items 6, 4, 2 and 1 stand first, of 4 to 7, then 7, 5 and 3, of 2 and 3
pub by_value_at_30 : ordered_items Value (pos 30) base_a ≡ 6 ∷ 4 ∷ 2 ∷ 1 ∷ 7 ∷ 5 ∷ 3 ∷ []
unfolding lib.Count.count_leading_zeros
by_value_at_30 = refl

-- the order by gain is that of ranks without more said
pub by_gain_at_31 : ordered_items Gain (pos 31) base_a ≡ ranked_items (pos 31) base_a
by_gain_at_31 = refl
