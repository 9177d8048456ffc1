-- What a set that holds a pair earns in the records that hold the pair.
use Rattle.std.proofs.Common.{◌≡◌, ℕ, Bool, true, false, cond, ℤ, pos, ◌≤ℤ◌, List, [], ◌∷◌}
use Rattle.std.proofs.Common.{refl, arith}
use Rattle.std.proofs.lemmas.Int.{ints}
use Rattle.hu_kind.specs.Order.{Ascend}
use Rattle.hu_kind.specs.Record.{has, holds, values_of, utility_in, gain}
use Rattle.hu_kind.specs.Database.{utility}
use Rattle.hu_kind.proofs.lemmas.Earned.{gain-least, values_of-gain, has-held}
use Rattle.hu_kind.proofs.lemmas.Members.{Member, Member-from_contains}
use Rattle.hu_collect.specs.Pairs.{pair_twu}
use Rattle.hu_raise.specs.Laws.{BoundsSets}

utility_in-pair : (a b : ℕ) (set : List ℕ) (cells : List (ℕ × ℤ)) → Ascend set → Member a set → Member b set
    → utility_in set cells ≤ℤ cond (holds (a ∷ b ∷ []) cells) (gain cells) (pos 0)
utility_in-pair a b set cells up m n = by (holds set cells) refl
  where
    least : (h : Bool) → pos 0 ≤ℤ cond h (gain cells) (pos 0)
    least true = gain-least cells
    least false = omega (arith, ints)

    by : (h : Bool) → holds set cells ≡ h → cond h (values_of set cells) (pos 0) ≤ℤ cond (holds (a ∷ b ∷ []) cells) (gain cells) (pos 0)
    by true h =
        let one : has a cells ≡ true = has-held a set cells h m in
        let two : has b cells ≡ true = has-held b set cells h n in
        rw (one, two) (values_of-gain cells set up)
    by false h = least (holds (a ∷ b ∷ []) cells)

utility-pair : (records : List (List (ℕ × ℤ))) (a b : ℕ) (set : List ℕ) → Ascend set → Member a set → Member b set → utility records set ≤ℤ pair_twu records a b
utility-pair [] a b set up m n = omega (arith, ints)
utility-pair (r ∷ rs) a b set up m n =
    let ih = utility-pair rs a b set up m n in
    let one = utility_in-pair a b set r up m n in
    omega (arith, ints)

-- a set earns no more than the records that hold two of its ranks gain
pub bounds_sets : BoundsSets
bounds_sets records a b set up c d = utility-pair records a b set up (Member-from_contains a set c) (Member-from_contains b set d)
