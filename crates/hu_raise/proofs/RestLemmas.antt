-- Lists with rests more, and what rests gain with their later ranks.
use Rattle.std.proofs.Common.{◌≡◌, ℕ, zero, suc, ◌+◌, ◌<◌, Bool, true, false, cond, ℤ, pos, ◌+ℤ◌, ◌≤ℤ◌, List, [], ◌∷◌, ◌++◌, map, drop, take}
use Rattle.std.proofs.Common.{length, get_or, set, fold, refl, ap, ◌∙◌, arith}
use Rattle.std.specs.List.{AllByRecursion}
use Rattle.std.proofs.lemmas.Int.{ints}
use Rattle.std.proofs.lemmas.List.{length-set, map-append, take_more}
use Rattle.std.proofs.lemmas.List.Sums.{fold-append}
use Rattle.hu_totals.specs.Cells.{among}
use Rattle.hu_raise.specs.Rests.{RestOf, list_at, handed_to, handed, later_gain, IsRest}
use Rattle.hu_raise.specs.Sums.{gain_at}

-- ---- rests more

pub length-handed_to : (ranks : List ℕ) (lists : List (List RestOf)) (rest : RestOf) → length (handed_to ranks lists rest) ≡ length lists
length-handed_to [] lists rest = refl
length-handed_to (x ∷ xs) lists rest = length-set lists x (list_at lists x ++ rest ∷ [])

pub length-fold : (rests : List RestOf) (lists : List (List RestOf)) → length (fold handed lists rests) ≡ length lists
length-fold [] lists = refl
length-fold (r ∷ rs) lists = length-fold rs (handed lists r) ∙ length-handed_to r.ranks lists r

-- the first of some ranks takes it
pub handed_to-first : (ranks : List ℕ) (lists : List (List RestOf)) (rest : RestOf) → 0 < length ranks
    → handed_to ranks lists rest ≡ set lists (get_or ranks 0 0) (list_at lists (get_or ranks 0 0) ++ rest ∷ [])
handed_to-first [] lists rest some = absurd (omega arith)
handed_to-first (x ∷ xs) lists rest some = refl

-- a loop that hands rests
pub fold-more : {X : Type 0} (f : X → RestOf) (xs : List X) (i : ℕ) (d : X) (rest : RestOf) (lists : List (List RestOf))
    → i < length xs → f (get_or xs i d) ≡ rest
    → fold handed lists (map f (take (i + 1) xs)) ≡ handed (fold handed lists (map f (take i xs))) rest
fold-more f xs i d rest lists within is =
    ap (λ ys. fold handed lists (map f ys)) (take_more xs i d within)
    ∙ ap (fold handed lists) (map-append f (take i xs) (get_or xs i d ∷ []))
    ∙ fold-append handed lists (map f (take i xs)) (f (get_or xs i d) ∷ [])
    ∙ ap (handed (fold handed lists (map f (take i xs)))) is

-- ---- what the later ranks gain

later_gain-push : (rests : List RestOf) (rest : RestOf) (rank : ℕ) → later_gain (rests ++ rest ∷ []) rank
    ≡ later_gain rests rank +ℤ gain_at (drop 1 rest.ranks) rest.gain rank
later_gain-push [] rest rank = omega (arith, ints)
later_gain-push (r ∷ rs) rest rank = let ih = later_gain-push rs rest rank in omega (arith, ints)

pub later_gain-more : (rests : List RestOf) (i : ℕ) (d rest : RestOf) (rank : ℕ) → i < length rests → get_or rests i d ≡ rest
    → later_gain (take (i + 1) rests) rank ≡ later_gain (take i rests) rank +ℤ gain_at (drop 1 rest.ranks) rest.gain rank
later_gain-more rests i d rest rank within is =
    ap (λ rs. later_gain rs rank) (take_more rests i d within ∙ ap (λ r. take i rests ++ r ∷ []) is) ∙ later_gain-push (take i rests) rest rank

gain_at-least : (ranks : List ℕ) (gained : ℤ) (rank : ℕ) → pos 0 ≤ℤ gained → pos 0 ≤ℤ gain_at ranks gained rank
gain_at-least ranks gained rank least = by (among rank ranks)
  where
    by : (t : Bool) → pos 0 ≤ℤ cond t gained (pos 0)
    by true = least
    by false = omega (arith, ints)

later_gain-least : (n : ℕ) (rests : List RestOf) (rank : ℕ) → AllByRecursion (IsRest n) rests → pos 0 ≤ℤ later_gain rests rank
later_gain-least n [] rank all = omega (arith, ints)
later_gain-least n (r ∷ rs) rank all =
    let ih = later_gain-least n rs rank all.1 in
    let here = gain_at-least (drop 1 r.ranks) r.gain rank all.0.least in
    omega (arith, ints)

-- what the first of them gain is no more than what all do
pub later_gain-take : (n : ℕ) (rests : List RestOf) (i rank : ℕ) → AllByRecursion (IsRest n) rests
    → later_gain (take i rests) rank ≤ℤ later_gain rests rank
later_gain-take n [] zero rank all = omega (arith, ints)
later_gain-take n [] (suc i) rank all = omega (arith, ints)
later_gain-take n (r ∷ rs) zero rank all = later_gain-least n (r ∷ rs) rank all
later_gain-take n (r ∷ rs) (suc i) rank all = let ih = later_gain-take n rs i rank all.1 in omega (arith, ints)
