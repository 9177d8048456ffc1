-- Pairs of ranks in records over ranks, which are lists of pairs (rank, value). After FHM (Fournier-Viger, Wu, Zida and Tseng, 2014).
use Rattle.std.specs.Prelude.{◌≡◌, ℕ, ℤ, pos, List, [], ◌∷◌, refl}
use Rattle.hu_kind.specs.Database.{twu}

-- what the records that hold both ranks gain: no set that holds both earns more
abbrev pub pair_twu : List (List (ℕ × ℤ)) → ℕ → ℕ → ℤ
pair_twu records a b = twu records (a ∷ b ∷ [])

-- only the first of two records holds both ranks
pub one_of_two : pair_twu (((0, pos 4) ∷ (2, pos 3) ∷ []) ∷ ((0, pos 9) ∷ (1, pos 1) ∷ []) ∷ []) 0 2 ≡ pos 7
one_of_two = refl
