-- What the records of a pair gain.
use Rattle.std.proofs.Common.{◌≡◌, ℕ, ◌+◌, ◌-◌, ◌<◌, ◌≤◌, ◌^◌, Bool, true, false, cond, nat_lt, ℤ, pos, ◌≤ℤ◌, ◌<ℤ◌, int_le}
use Rattle.std.proofs.Common.{List, [], ◌∷◌, length, refl, sym, ap, ◌∙◌, arith, sum_by}
use Rattle.std.specs.List.{range_with_len}
use Rattle.std.proofs.lemmas.Bool.{lt-ltb, ltb-true}
use Rattle.std.proofs.lemmas.Int.{ints}
use Rattle.std.proofs.lemmas.List.Sums.{sum_by-cons}
use Rattle.hu_kind.specs.Record.{holds, gain, absolute_of}
use Rattle.hu_kind.proofs.lemmas.Members.{Member, Member-from_filter}
use Rattle.hu_kind.proofs.lemmas.Earned.{gain-within}
use Rattle.hu_collect.specs.Pairs.{pair_twu}
use Rattle.hu_raise.specs.Partners.{partners}
use Rattle.hu_raise.specs.Sums.{sum_at, ranks_reaching}
use Rattle.hu_raise.proofs.NumberLists.{ascending_same, filter-range_ascends, Member-filter_range, Member-from_range}

gained-within : (b : Bool) (cells : List (ℕ × ℤ)) → cond b (gain cells) (pos 0) ≤ℤ pos (absolute_of cells)
gained-within true cells = let one = gain-within cells in omega (arith, ints)
gained-within false cells = omega (arith, ints)

pair_twu-absolute : (records : List (List (ℕ × ℤ))) (a b : ℕ) → pair_twu records a b ≤ℤ pos (sum_by absolute_of records)
pair_twu-absolute [] a b = omega (arith, ints)
pair_twu-absolute (r ∷ rs) a b =
    let ih = pair_twu-absolute rs a b in
    let one = gained-within (holds (a ∷ b ∷ []) r) r in
    omega (arith, ints, sum_by-cons absolute_of r rs)

-- what they gain stays within the sum of absolute values
pub pair_twu-fits : (records : List (List (ℕ × ℤ))) (a b : ℕ) → sum_by absolute_of records < 2 ^ 127 → pair_twu records a b <ℤ pos (2 ^ 127)
pair_twu-fits records a b fits = let all = pair_twu-absolute records a b in omega (arith, ints)

-- the ranks whose sum reaches the floor are those that may join
pub reaching-partners : (records : List (List (ℕ × ℤ))) (floor : ℤ) (rank : ℕ) (sums : List ℤ) → pos 1 ≤ℤ floor
    → ((later : ℕ) → sum_at sums later ≡ cond (nat_lt rank later) (pair_twu records rank later) (pos 0))
    → ranks_reaching floor sums ≡ partners records floor (length sums) rank
reaching-partners records floor rank sums least is =
    ascending_same (ranks_reaching floor sums) (partners records floor n rank) (filter-range_ascends (λ later. int_le floor (sum_at sums later)) 0 n)
    (filter-range_ascends (λ later. int_le floor (pair_twu records rank later)) (rank + 1) (n - (rank + 1))) to back
  where
    n : ℕ
    n = length sums

    later_of : (later : ℕ) → floor ≤ℤ sum_at sums later → (rank < later) × (sum_at sums later ≡ pair_twu records rank later)
    later_of later high = by (nat_lt rank later) refl (is later)
      where
        by : (b : Bool) → nat_lt rank later ≡ b → sum_at sums later ≡ cond b (pair_twu records rank later) (pos 0)
            → (rank < later) × (sum_at sums later ≡ pair_twu records rank later)
        by true h e = (ltb-true rank later h, e)
        by false h e = absurd (omega (arith, ints))

    to : (x : ℕ) → Member x (ranks_reaching floor sums) → Member x (partners records floor n rank)
    to x m =
        let from = Member-from_filter (λ later. int_le floor (sum_at sums later)) x (range_with_len 0 n) m in
        let range = Member-from_range 0 n x from.0 in
        let high : floor ≤ℤ sum_at sums x = grind (arith, ints) in
        let at = later_of x high in
        let above : rank < x = at.0 in
        let below : x < 0 + n = range.1 in
        Member-filter_range (λ later. int_le floor (pair_twu records rank later)) (rank + 1) (n - (rank + 1)) x
        (omega arith) (omega arith) (ap (int_le floor) (sym at.1) ∙ from.1)

    back : (x : ℕ) → Member x (partners records floor n rank) → Member x (ranks_reaching floor sums)
    back x m =
        let from = Member-from_filter (λ later. int_le floor (pair_twu records rank later)) x (range_with_len (rank + 1) (n - (rank + 1))) m in
        let range = Member-from_range (rank + 1) (n - (rank + 1)) x from.0 in
        let above : rank + 1 ≤ x = range.0 in
        let below : x < (rank + 1) + (n - (rank + 1)) = range.1 in
        let same : sum_at sums x ≡ pair_twu records rank x = is x ∙ ap {B = ℤ} (λ b. cond b (pair_twu records rank x) (pos 0)) (lt-ltb rank x (omega arith)) in
        Member-filter_range (λ later. int_le floor (sum_at sums later)) 0 n x (omega arith) (omega arith) (ap (int_le floor) same ∙ from.1)
