-- Rests wait in the list of their first rank, and are handed on at its turn.
use Rattle.std.proofs.Common.{◌≡◌, ◌≢◌, ℕ, zero, suc, ◌+◌, ◌<◌, ◌≤◌, ◌^◌, Bool, true, false, cond, eqb, nat_lt, ◌&&◌, ℤ, pos}
use Rattle.std.proofs.Common.{◌+ℤ◌, ◌≤ℤ◌, ◌<ℤ◌, List, [], ◌∷◌, ◌++◌, map, drop, length, set, fold, replicate, refl, sym, ap, ◌∙◌}
use Rattle.std.proofs.Common.{subst, inl, inr, arith, sum_by}
use Rattle.std.specs.List.{AllByRecursion}
use Rattle.std.proofs.lemmas.Bool.{cases_eq, cases_lt, lt-ltb, le-ltb, ne_eqb, eq-eqb}
use Rattle.std.proofs.lemmas.Int.{ints}
use Rattle.std.proofs.lemmas.List.{get_or-set_same, get_or-set_other, length-set, length-replicate}
use Rattle.hu_kind.specs.Order.{Ascend}
use Rattle.hu_kind.specs.Record.{items_in, absolute_of}
use Rattle.hu_kind.proofs.lemmas.Each.{each-push, each-weaker}
use Rattle.hu_kind.proofs.lemmas.Earned.{gain-least}
use Rattle.hu_collect.specs.Pairs.{pair_twu}
use Rattle.hu_totals.specs.Cells.{among}
use Rattle.hu_raise.specs.OverRanks.{IsOverRanks, AreOverRanks}
use Rattle.hu_raise.specs.Rests.{RestOf, rest_from, after_first, list_at, handed_to, handed, later_gain, IsRest}
use Rattle.hu_raise.proofs.PairGains.{both, pair_gain, gain_over, InRange, gain_over-set, gain_over-none, gain_over-one, gain_over-fold, pair_gain-records}
use Rattle.hu_raise.proofs.PairLemmas.{pair_twu-fits}
use Rattle.hu_raise.proofs.RankLists.{among-below}

-- ---- where rests wait

-- a rest that begins with a rank
pub record WaitsAt (n rank : ℕ) (rest : RestOf) : Type 0 where
  pub is : IsRest n rest
  pub head : rest.ranks ≡ rank ∷ drop 1 rest.ranks

-- lists at the turn of a rank: each rest begins with the rank of its list, and those before are empty
pub record Waits (n turn : ℕ) (lists : List (List RestOf)) : Type 0 where
  pub long : length lists ≡ n
  pub each : (rank : ℕ) → AllByRecursion (WaitsAt n rank) (list_at lists rank)
  pub passed : (rank : ℕ) → rank < turn → list_at lists rank ≡ []

-- a rest that may be handed on then
record GoesOn (n turn : ℕ) (rest : RestOf) : Type 0 where
  pub ascending : Ascend rest.ranks
  pub in_range : InRange n rest
  pub later : AllByRecursion (λ rank. turn ≤ rank) rest.ranks
  pub least : pos 0 ≤ℤ rest.gain

Waits-handed_to : (n turn : ℕ) (ranks : List ℕ) (gained : ℤ) (lists : List (List RestOf)) → Waits n turn lists
    → GoesOn n turn (record { ranks = ranks; gain = gained }) → Waits n turn (handed_to ranks lists (record { ranks = ranks; gain = gained }))
Waits-handed_to n turn [] gained lists waits goes = waits
Waits-handed_to n turn (x ∷ xs) gained lists waits goes = record { long = length-set lists x more ∙ waits.long; each = each; passed = passed }
  where
    rest : RestOf
    rest = record { ranks = x ∷ xs; gain = gained }

    more : List RestOf
    more = list_at lists x ++ record { ranks = x ∷ xs; gain = gained } ∷ []

    waits_at : WaitsAt n x (record { ranks = x ∷ xs; gain = gained })
    waits_at = record { is = record { some = omega arith; ascending = goes.ascending; in_range = goes.in_range; least = goes.least }; head = refl }

    each : (rank : ℕ) → AllByRecursion (WaitsAt n rank) (list_at (set lists x more) rank)
    each rank = elim (cases_eq rank x) [
      | inl e ↦
          subst (λ r. AllByRecursion (WaitsAt n r) (list_at (set lists x more) r)) (sym e)
          (subst (AllByRecursion (WaitsAt n x)) (sym (get_or-set_same lists x more [] (omega (arith, goes.in_range.0, waits.long))))
          (each-push (WaitsAt n x) (list_at lists x) (record { ranks = x ∷ xs; gain = gained }) (waits.each x) waits_at))
      | inr apart ↦ subst (AllByRecursion (WaitsAt n rank)) (sym (get_or-set_other lists x rank more [] apart)) (waits.each rank)
    ]

    passed : (rank : ℕ) → rank < turn → list_at (set lists x more) rank ≡ []
    passed rank before = get_or-set_other lists x rank more [] (λ e. absurd (omega (arith, goes.later.0))) ∙ waits.passed rank before

Waits-fold : (n turn : ℕ) (rests : List RestOf) (lists : List (List RestOf)) → Waits n turn lists → AllByRecursion (GoesOn n turn) rests
    → Waits n turn (fold handed lists rests)
Waits-fold n turn [] lists waits all = waits
Waits-fold n turn (r ∷ rs) lists waits all = Waits-fold n turn rs (handed lists r) (Waits-handed_to n turn r.ranks r.gain lists waits all.0) all.1

in_range-each : (n turn : ℕ) (rests : List RestOf) → AllByRecursion (GoesOn n turn) rests → AllByRecursion (InRange n) rests
in_range-each n turn rests all = each-weaker (GoesOn n turn) (InRange n) rests (λ rest goes. goes.in_range) all

-- ---- the rests of the rank whose turn it is

among-cons : (a x : ℕ) (xs : List ℕ) → a ≢ x → among a (x ∷ xs) ≡ among a xs
among-cons a x xs apart = let other : eqb a x ≡ false = ne_eqb a x apart in rw other refl

module _ (n turn : ℕ) (rest : RestOf) (at : WaitsAt n turn rest) where
  abbrev later : List ℕ
  later = drop 1 rest.ranks

  ascends : Ascend (turn ∷ later)
  ascends = subst Ascend at.head at.is.ascending

  among-later : (a : ℕ) → a ≢ turn → among a rest.ranks ≡ among a later
  among-later a apart = ap (among a) at.head ∙ among-cons a turn later apart

  among-turn : among turn rest.ranks ≡ true
  among-turn = ap (among turn) at.head ∙ (let here : eqb turn turn ≡ true = eq-eqb turn turn refl in rw here refl)

  both-earlier : (a b : ℕ) → a < turn → both a b rest ≡ pos 0
  both-earlier a b before =
      let out : among a rest.ranks ≡ false = among-later a (λ e. absurd (omega arith))
      ∙ among-below a later (each-weaker (λ r. turn < r) (λ r. a < r) later (λ r above. omega arith) ascends.0) in
      ap {B = ℤ} (λ t. cond (t && among b rest.ranks) rest.gain (pos 0)) out

  both-after : (a b : ℕ) → turn < a → turn < b → both a b (after_first rest) ≡ both a b rest
  both-after a b above above' =
      (λ j. cond (sym (among-later a (λ e. absurd (omega arith))) j && sym (among-later b (λ e. absurd (omega arith))) j) rest.gain (pos 0))

  later-both : (b : ℕ) → cond (among b later) rest.gain (pos 0) ≡ cond (nat_lt turn b) (both turn b rest) (pos 0)
  later-both b = elim (cases_lt turn b) [
    | inl above ↦
        let yes : nat_lt turn b ≡ true = lt-ltb turn b above in
        let same : both turn b rest ≡ cond (among b later) rest.gain (pos 0) =
        (λ j. cond (among-turn j && among-later b (λ e. absurd (omega arith)) j) rest.gain (pos 0)) in
        sym (ap {B = ℤ} (λ t. cond t (both turn b rest) (pos 0)) yes ∙ same)
    | inr low ↦
        let no : nat_lt turn b ≡ false = le-ltb turn b low in
        let out : among b later ≡ false = among-below b later (each-weaker (λ r. turn < r) (λ r. b < r) later (λ r above. omega arith) ascends.0) in
        ap {B = ℤ} (λ t. cond t rest.gain (pos 0)) out ∙ sym (ap {B = ℤ} (λ t. cond t (both turn b rest) (pos 0)) no)
  ]

  GoesOn-after : GoesOn n (turn + 1) (after_first rest)
  GoesOn-after =
      let within : AllByRecursion (λ rank. rank < n) (turn ∷ later) = subst (AllByRecursion (λ rank. rank < n)) at.head at.is.in_range in
      let above = each-weaker (λ r. turn < r) (λ r. turn + 1 ≤ r) later (λ r low. omega arith) ascends.0 in
      record { ascending = ascends.1; in_range = within.1; later = above; least = at.is.least }

pair_gain-earlier : (n rank a b : ℕ) (rests : List RestOf) → AllByRecursion (WaitsAt n rank) rests → a < rank → pair_gain rests a b ≡ pos 0
pair_gain-earlier n rank a b [] all before = refl
pair_gain-earlier n rank a b (r ∷ rs) all before =
    let here = both-earlier n rank r all.0 a b before in
    let ih = pair_gain-earlier n rank a b rs all.1 before in
    omega (arith, ints)

pair_gain-after : (n turn a b : ℕ) (rests : List RestOf) → AllByRecursion (WaitsAt n turn) rests → turn < a → turn < b
    → pair_gain (map after_first rests) a b ≡ pair_gain rests a b
pair_gain-after n turn a b [] all above above' = refl
pair_gain-after n turn a b (r ∷ rs) all above above' =
    (λ j. both-after n turn r all.0 a b above above' j +ℤ pair_gain-after n turn a b rs all.1 above above' j)

later_gain-pair : (n turn b : ℕ) (rests : List RestOf) → AllByRecursion (WaitsAt n turn) rests
    → later_gain rests b ≡ cond (nat_lt turn b) (pair_gain rests turn b) (pos 0)
later_gain-pair n turn b [] all = none (nat_lt turn b)
  where
    none : (t : Bool) → pos 0 ≡ cond t (pos 0) (pos 0)
    none true = refl
    none false = refl
later_gain-pair n turn b (r ∷ rs) all =
    (λ j. later-both n turn r all.0 b j +ℤ later_gain-pair n turn b rs all.1 j) ∙ sum (nat_lt turn b)
  where
    sum : (t : Bool) → cond t (both turn b r) (pos 0) +ℤ cond t (pair_gain rs turn b) (pos 0) ≡ cond t (pair_gain (r ∷ rs) turn b) (pos 0)
    sum true = refl
    sum false = omega (arith, ints)

GoesOn-each : (n turn : ℕ) (rests : List RestOf) → AllByRecursion (WaitsAt n turn) rests → AllByRecursion (GoesOn n (turn + 1)) (map after_first rests)
GoesOn-each n turn [] all = tt
GoesOn-each n turn (r ∷ rs) all = (GoesOn-after n turn r all.0, GoesOn-each n turn rs all.1)

-- ---- whole records

GoesOn-records : (n : ℕ) (records : List (List (ℕ × ℤ))) → AllByRecursion (IsOverRanks n) records → AllByRecursion (GoesOn n 0) (map rest_from records)
GoesOn-records n [] all = tt
GoesOn-records n (r ∷ rs) all =
    let later = each-weaker (λ x. x < n) (λ x. 0 ≤ x) (items_in r) (λ x below. omega arith) all.0.in_range in (
      record { ascending = all.0.ascending; in_range = all.0.in_range; later = later; least = gain-least r },
      GoesOn-records n rs all.1,
    )

list_at-empty : (n rank : ℕ) → list_at (replicate n []) rank ≡ []
list_at-empty zero rank = refl
list_at-empty (suc n) zero = refl
list_at-empty (suc n) (suc rank) = list_at-empty n rank

Waits-empty : (n : ℕ) → Waits n 0 (replicate n [])
Waits-empty n = record {
  long = length-replicate n [];
  each = λ rank. subst (AllByRecursion (WaitsAt n rank)) (sym (list_at-empty n rank)) tt;
  passed = λ rank before. absurd (omega arith);
}

-- ---- the turns

-- lists at the turn of a rank: what they gain with the ranks from there on is what the records gain
pub record AreWaiting (n turn : ℕ) (records : List (List (ℕ × ℤ))) (lists : List (List RestOf)) : Type 0 where
  pub waits : Waits n turn lists
  pub gains : (a b : ℕ) → turn ≤ a → a < b → gain_over lists a b ≡ pair_twu records a b

pub AreWaiting-first : (n : ℕ) (records : List (List (ℕ × ℤ))) → AreOverRanks n records
    → AreWaiting n 0 records (fold handed (replicate n []) (map rest_from records))
AreWaiting-first n records over =
    let all = GoesOn-records n records over.each in
    record {
      waits = Waits-fold n 0 (map rest_from records) (replicate n []) (Waits-empty n) all;
      gains = λ a b low before.
          let put = gain_over-fold (map rest_from records) (replicate n []) n a b (length-replicate n []) (in_range-each n 0 (map rest_from records) all) in
          let none = gain_over-none (replicate n []) a b (λ rank. ap (λ rests. pair_gain rests a b) (list_at-empty n rank)) in
          let same = pair_gain-records a b records in
          omega (arith, ints);
    }

module _ (n turn : ℕ) (records : List (List (ℕ × ℤ))) (lists : List (List RestOf)) (are : AreWaiting n turn records lists) where
  abbrev rests : List RestOf
  rests = list_at lists turn

  pub IsRest-turn : AllByRecursion (IsRest n) rests
  IsRest-turn = each-weaker (WaitsAt n turn) (IsRest n) rests (λ r at. at.is) (are.waits.each turn)

  -- the rank's rests alone have it
  pair_gain-turn : (b : ℕ) → turn < b → pair_gain rests turn b ≡ pair_twu records turn b
  pair_gain-turn b above = sym (gain_over-one lists turn turn b others) ∙ are.gains turn b (omega arith) above
    where
      others : (other : ℕ) → other ≢ turn → pair_gain (list_at lists other) turn b ≡ pos 0
      others other apart = elim (cases_lt turn other) [
        | inl later ↦ pair_gain-earlier n other turn b (list_at lists other) (are.waits.each other) later
        | inr before ↦ ap (λ rs. pair_gain rs turn b) (are.waits.passed other (omega (arith, apart)))
      ]

  pub later_gain-turn : (b : ℕ) → later_gain rests b ≡ cond (nat_lt turn b) (pair_twu records turn b) (pos 0)
  later_gain-turn b = later_gain-pair n turn b rests (are.waits.each turn) ∙ elim (cases_lt turn b) [
    | inl above ↦ ap {B = ℤ} (λ s. cond (nat_lt turn b) s (pos 0)) (pair_gain-turn b above)
    | inr low ↦
        let no : nat_lt turn b ≡ false = le-ltb turn b low in
        ap {B = ℤ} (λ t. cond t (pair_gain rests turn b) (pos 0)) no ∙ sym (ap {B = ℤ} (λ t. cond t (pair_twu records turn b) (pos 0)) no)
  ]

  pub later_gain-fits : sum_by absolute_of records < 2 ^ 127 → (b : ℕ) → later_gain rests b <ℤ pos (2 ^ 127)
  later_gain-fits fits b = subst (λ s. s <ℤ pos (2 ^ 127)) (sym (later_gain-turn b)) (by (nat_lt turn b))
    where
      by : (t : Bool) → cond t (pair_twu records turn b) (pos 0) <ℤ pos (2 ^ 127)
      by true = pair_twu-fits records turn b fits
      by false = omega (arith, ints)

  -- with its list handed on it is the next rank's turn
  pub AreWaiting-next : turn < n → AreWaiting n (turn + 1) records (fold handed (set lists turn []) (map after_first rests))
  AreWaiting-next within =
      let all = GoesOn-each n turn rests (are.waits.each turn) in
      let long : length (set lists turn []) ≡ n = length-set lists turn [] ∙ are.waits.long in
      record {
        waits = Waits-fold n (turn + 1) (map after_first rests) (set lists turn []) (record { long = long; each = each; passed = passed }) all;
        gains = λ a b low before.
            let put = gain_over-fold (map after_first rests) (set lists turn []) n a b long (in_range-each n (turn + 1) (map after_first rests) all) in
            let taken = gain_over-set lists turn [] a b (omega (arith, are.waits.long)) in
            let same = pair_gain-after n turn a b rests (are.waits.each turn) (omega arith) (omega arith) in
            let old = are.gains a b (omega arith) before in
            omega (arith, ints);
      }
    where
      each : (rank : ℕ) → AllByRecursion (WaitsAt n rank) (list_at (set lists turn []) rank)
      each rank = elim (cases_eq rank turn) [
        | inl e ↦
            subst (λ r. AllByRecursion (WaitsAt n r) (list_at (set lists turn []) r)) (sym e)
            (subst (AllByRecursion (WaitsAt n turn)) (sym (get_or-set_same lists turn [] [] (omega (arith, within, are.waits.long)))) tt)
        | inr apart ↦ subst (AllByRecursion (WaitsAt n rank)) (sym (get_or-set_other lists turn rank [] [] apart)) (are.waits.each rank)
      ]

      passed : (rank : ℕ) → rank < turn + 1 → list_at (set lists turn []) rank ≡ []
      passed rank before = elim (cases_eq rank turn) [
        | inl e ↦ ap (list_at (set lists turn [])) e ∙ get_or-set_same lists turn [] [] (omega (arith, within, are.waits.long))
        | inr apart ↦ get_or-set_other lists turn rank [] [] apart ∙ are.waits.passed rank (omega (arith, apart))
      ]
