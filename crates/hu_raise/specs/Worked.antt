-- Worked rows: the pairs and the start floors of base A, by computation.
use Rattle.std.specs.Prelude.{◌≡◌, pos, true, false, [], ◌∷◌, refl}
use Rattle.hu_kind.specs.Worked.{base_a}
use Rattle.hu_totals.specs.Totals.{item_totals}
use Rattle.hu_totals.specs.Ranked.{Ranking, ranked}
use Rattle.hu_collect.specs.Pairs.{pair_twu}
use Rattle.hu_raise.specs.Partners.{PairTable, pair_table, joins}
use Rattle.hu_raise.specs.StartFloor.{start_of}

-- base A over the ranks of floor 30: the items 6, 7, 4, 2, 1, 5 and 3
abbrev pub base_a_at_30 : Ranking
base_a_at_30 = ranked (pos 30) base_a

-- the items 2 and 1 are the ranks 3 and 4, 6 and 7 the ranks 0 and 1
pub gain_of_1_and_2 : pair_twu base_a_at_30.records 3 4 ≡ pos 30
gain_of_1_and_2 = refl

pub gain_of_6_and_7 : pair_twu base_a_at_30.records 0 1 ≡ pos 0
gain_of_6_and_7 = refl

pub gain_of_2_and_7 : pair_twu base_a_at_30.records 1 3 ≡ pos 11
gain_of_2_and_7 = refl

-- the later ranks that each rank may join with floor 30
abbrev pub pairs_at_30 : PairTable
pairs_at_30 = pair_table base_a_at_30.records (pos 30) 7

pub partners_at_30 : pairs_at_30.partners ≡
    (2 ∷ 3 ∷ 4 ∷ 5 ∷ 6 ∷ [])
    ∷ (5 ∷ 6 ∷ [])
    ∷ (3 ∷ 4 ∷ 5 ∷ 6 ∷ [])
    ∷ (4 ∷ 5 ∷ 6 ∷ [])
    ∷ (5 ∷ 6 ∷ [])
    ∷ (6 ∷ [])
    ∷ []
    ∷ []
partners_at_30 = refl

pub joined_at_30 : joins pairs_at_30 3 4 ≡ true
joined_at_30 = refl

pub refused_at_30 : joins pairs_at_30 0 1 ≡ false
refused_at_30 = refl

pub refused_at_31 : joins (pair_table base_a_at_30.records (pos 31) 7) 3 4 ≡ false
refused_at_31 = refl

-- the utilities of base A are 20, 22, 13, 14, 15, 5 and 7
pub start_of_3 : start_of 3 (item_totals base_a) ≡ pos 15
start_of_3 = refl

pub start_of_7 : start_of 7 (item_totals base_a) ≡ pos 5
start_of_7 = refl

pub start_of_8 : start_of 8 (item_totals base_a) ≡ pos 1
start_of_8 = refl
