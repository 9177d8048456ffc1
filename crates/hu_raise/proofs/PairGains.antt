-- What the rests of a pair of ranks gain.
use Rattle.std.proofs.Common.{◌≡◌, ◌≢◌, ℕ, zero, suc, ◌<◌, Bool, true, false, cond, eqb, ◌&&◌, ◌||◌, ℤ, pos, ◌+ℤ◌, List, [], ◌∷◌, ◌++◌, map}
use Rattle.std.proofs.Common.{length, set, fold, refl, sym, ap, ◌∙◌, subst, arith}
use Rattle.std.specs.List.{AllByRecursion}
use Rattle.std.proofs.lemmas.Int.{ints}
use Rattle.hu_kind.specs.Record.{has, gain, items_in}
use Rattle.hu_collect.specs.Pairs.{pair_twu}
use Rattle.hu_totals.specs.Cells.{among}
use Rattle.hu_raise.specs.Rests.{RestOf, rest_from, list_at, handed_to, handed}
use Rattle.hu_raise.proofs.RestLemmas.{length-handed_to}

-- what a rest gains where it has both ranks, what rests do, and what lists of them do

abbrev pub both : ℕ → ℕ → RestOf → ℤ
both a b rest = cond (among a rest.ranks && among b rest.ranks) rest.gain (pos 0)

abbrev pub pair_gain : List RestOf → ℕ → ℕ → ℤ
pair_gain [] a b = pos 0
pair_gain (rest ∷ rests) a b = both a b rest +ℤ pair_gain rests a b

abbrev pub gain_over : List (List RestOf) → ℕ → ℕ → ℤ
gain_over [] a b = pos 0
gain_over (rests ∷ lists) a b = pair_gain rests a b +ℤ gain_over lists a b

pair_gain-push : (rests : List RestOf) (rest : RestOf) (a b : ℕ) → pair_gain (rests ++ rest ∷ []) a b ≡ pair_gain rests a b +ℤ both a b rest
pair_gain-push [] rest a b = omega (arith, ints)
pair_gain-push (r ∷ rs) rest a b = let ih = pair_gain-push rs rest a b in omega (arith, ints)

-- with another list for a rank
pub gain_over-set : (lists : List (List RestOf)) (rank : ℕ) (rests : List RestOf) (a b : ℕ) → rank < length lists
    → gain_over (set lists rank rests) a b +ℤ pair_gain (list_at lists rank) a b ≡ gain_over lists a b +ℤ pair_gain rests a b
gain_over-set [] rank rests a b within = absurd (omega arith)
gain_over-set (l ∷ ls) zero rests a b within = omega (arith, ints)
gain_over-set (l ∷ ls) (suc rank) rests a b within = let ih = gain_over-set ls rank rests a b (omega arith) in omega (arith, ints)

pub gain_over-none : (lists : List (List RestOf)) (a b : ℕ) → ((rank : ℕ) → pair_gain (list_at lists rank) a b ≡ pos 0) → gain_over lists a b ≡ pos 0
gain_over-none [] a b none = refl
gain_over-none (l ∷ ls) a b none =
    let here : pair_gain l a b ≡ pos 0 = none 0 in
    let ih = gain_over-none ls a b (λ rank. none (suc rank)) in
    omega (arith, ints)

-- where the other lists gain nothing
pub gain_over-one : (lists : List (List RestOf)) (rank a b : ℕ) → ((other : ℕ) → other ≢ rank → pair_gain (list_at lists other) a b ≡ pos 0)
    → gain_over lists a b ≡ pair_gain (list_at lists rank) a b
gain_over-one [] rank a b none = refl
gain_over-one (l ∷ ls) zero a b none =
    let ih = gain_over-none ls a b (λ rank. none (suc rank) (λ e. absurd (omega arith))) in
    omega (arith, ints)
gain_over-one (l ∷ ls) (suc rank) a b none =
    let here : pair_gain l a b ≡ pos 0 = none 0 (λ e. absurd (omega arith)) in
    let ih = gain_over-one ls rank a b (λ other apart. none (suc other) (λ e. apart (omega arith))) in
    omega (arith, ints)

-- ---- rests more

-- its ranks are below a number
abbrev pub InRange : ℕ → RestOf → Type 0
InRange n rest = AllByRecursion (λ rank. rank < n) rest.ranks

gain_over-handed_to : (ranks : List ℕ) (gained : ℤ) (lists : List (List RestOf)) (a b : ℕ) → AllByRecursion (λ rank. rank < length lists) ranks
    → gain_over (handed_to ranks lists (record { ranks = ranks; gain = gained })) a b
    ≡ gain_over lists a b +ℤ both a b (record { ranks = ranks; gain = gained })
gain_over-handed_to [] gained lists a b within = omega (arith, ints)
gain_over-handed_to (x ∷ xs) gained lists a b within =
    let rest : RestOf = record { ranks = x ∷ xs; gain = gained } in
    let put = gain_over-set lists x (list_at lists x ++ rest ∷ []) a b within.0 in
    let grown = pair_gain-push (list_at lists x) rest a b in
    omega (arith, ints)

pub gain_over-fold : (rests : List RestOf) (lists : List (List RestOf)) (n a b : ℕ) → length lists ≡ n → AllByRecursion (InRange n) rests
    → gain_over (fold handed lists rests) a b ≡ gain_over lists a b +ℤ pair_gain rests a b
gain_over-fold [] lists n a b long within = omega (arith, ints)
gain_over-fold (r ∷ rs) lists n a b long within =
    let here = gain_over-handed_to r.ranks r.gain lists a b (subst (λ m. InRange m r) (sym long) within.0) in
    let ih = gain_over-fold rs (handed lists r) n a b (length-handed_to r.ranks lists r ∙ long) within.1 in
    omega (arith, ints)

-- ---- whole records

among-items : (rank : ℕ) (cells : List (ℕ × ℤ)) → among rank (items_in cells) ≡ has rank cells
among-items rank [] = refl
among-items rank (cell ∷ cells) = ap (λ t. eqb rank cell.0 || t) (among-items rank cells)

pub pair_gain-records : (a b : ℕ) (records : List (List (ℕ × ℤ))) → pair_gain (map rest_from records) a b ≡ pair_twu records a b
pair_gain-records a b [] = refl
pair_gain-records a b (r ∷ rs) =
    (λ j. cond (among-items a r j && among-items b r j) (gain r) (pos 0) +ℤ pair_gain-records a b rs j)
    ∙ ap (λ t. cond (has a r && t) (gain r) (pos 0) +ℤ pair_twu rs a b) (and_true (has b r))
  where
    and_true : (t : Bool) → t ≡ (t && true)
    and_true true = refl
    and_true false = refl
