-- The table of the pairs that may join.
use Rattle.std.proofs.Common.{◌≡◌, ℕ, suc, ◌+◌, ◌-◌, ◌<◌, ◌≤◌, Bool, true, false, cond, eqb, ◌==◌, ◌&&◌, ◌||◌, ℤ, pos}
use Rattle.std.proofs.Common.{◌≤ℤ◌, ◌<ℤ◌, int_le, List, [], ◌∷◌, length, get_or, refl, sym, ap, ◌∙◌, subst, inl, inr}
use Rattle.std.proofs.Common.{arith}
use Rattle.std.specs.List.{All, AllByRecursion, AllAdjacentBelow, list_any, range_with_len}
use Rattle.std.specs.List.Sorted.{IsStrictlyIncreasing}
use Rattle.std.proofs.lemmas.Bool.{cases_lt, eq-eqb, eqb-true, ne_eqb, or_cases}
use Rattle.std.proofs.lemmas.Int.{ints, by_lt_z}
use Rattle.std.proofs.lemmas.List.{get_or_past}
use Rattle.std.proofs.lemmas.List.FromFn.{length-map-range_with_len, get_or-map-range_with_len}
use Rattle.hu_kind.specs.Record.{has, holds, gain, items_in}
use Rattle.hu_kind.proofs.lemmas.Members.{Member, Member-from_filter}
use Rattle.hu_kind.proofs.lemmas.Ascending.{Ascend-adjacent}
use Rattle.hu_collect.specs.Pairs.{pair_twu}
use Rattle.hu_totals.specs.Ranked.{Ranking, IsRanking}
use Rattle.hu_raise.specs.Partners.{partners, pair_table, RefusesJustLow}
use Rattle.hu_raise.specs.OverRanks.{IsOverRanks, AreOverRanks}
use Rattle.hu_raise.proofs.NumberLists.{filter-range_ascends, Member-filter_range}

-- ---- ranked records are over ranks

each-rank : (n : ℕ) (cells : List (ℕ × ℤ)) → All (λ cell. cell.0 < n) cells → AllByRecursion (λ rank. rank < n) (items_in cells)
each-rank n [] all = tt
each-rank n (cell ∷ cells) all = (all 0 cell (omega arith), each-rank n cells (λ k d within. all (suc k) d (omega arith)))

each-record : (n : ℕ) (records : List (List (ℕ × ℤ))) → All
    (λ cells. AllAdjacentBelow (λ a b. a.0 < b.0) cells (length cells)) records
    → All (λ cells. All (λ cell. cell.0 < n) cells) records
    → AllByRecursion (IsOverRanks n) records
each-record n [] up all = tt
each-record n (r ∷ rs) up all =
    let ascending : AllAdjacentBelow (λ a b. a.0 < b.0) r (length r) = up 0 [] (omega arith) in
    let in_range : All (λ cell. cell.0 < n) r = all 0 [] (omega arith) in (
      record { ascending = Ascend-adjacent r ascending; in_range = each-rank n r in_range },
      each-record n rs (λ k d within. up (suc k) d (omega arith)) (λ k d within. all (suc k) d (omega arith)),
    )

pub AreOverRanks-ranking : (r : Ranking) → IsRanking r → AreOverRanks (length r.items) r.records
AreOverRanks-ranking r is = record { each = each-record (length r.items) r.records is.ascending is.in_range; sum_fits = is.sum_fits }

-- ---- a rank past the end

has-past : (n rank : ℕ) (cells : List (ℕ × ℤ)) → AllByRecursion (λ r. r < n) (items_in cells) → n ≤ rank → has rank cells ≡ false
has-past n rank [] all past = refl
has-past n rank (cell ∷ cells) all past =
    let other : eqb rank cell.0 ≡ false = ne_eqb rank cell.0 (λ e. absurd (omega (arith, all.0))) in
    rw other (has-past n rank cells all.1 past)

-- no record holds a pair with it
pair-past : (n a b : ℕ) (records : List (List (ℕ × ℤ))) → AllByRecursion (IsOverRanks n) records → a < b → n ≤ b → pair_twu records a b ≡ pos 0
pair-past n a b [] all before past = refl
pair-past n a b (r ∷ rs) all before past =
    let out = has-past n b r all.0.in_range past in
    let none : cond (holds (a ∷ b ∷ []) r) (gain r) (pos 0) ≡ pos 0 = by (has a r) (has b r) out in
    let ih = pair-past n a b rs all.1 before past in
    omega (arith, ints)
  where
    by : (h k : Bool) → k ≡ false → cond (h && (k && true)) (gain r) (pos 0) ≡ pos 0
    by true k e = rw e refl
    by false k e = refl

-- ---- which pairs join

joined-member : (b : ℕ) (xs : List ℕ) → Member b xs → list_any (λ x. x == b) xs ≡ true
joined-member b [] m = absurd m
joined-member b (x ∷ xs) (inl e) = rw (eq-eqb x b e) refl
joined-member b (x ∷ xs) (inr m) = by (eqb x b) (list_any (λ y. y == b) xs) (joined-member b xs m)
  where
    by : (t h : Bool) → h ≡ true → (t || h) ≡ true
    by true h e = refl
    by false h e = e

member-joined : (b : ℕ) (xs : List ℕ) → list_any (λ x. x == b) xs ≡ true → Member b xs
member-joined b [] h = cc
member-joined b (x ∷ xs) h = elim (or_cases (eqb x b) (list_any (λ y. y == b) xs) h) [
  | inl e ↦ inl (eqb-true x b e)
  | inr r ↦ inr (member-joined b xs r)
]

module _ (records : List (List (ℕ × ℤ))) (floor : ℤ) (n : ℕ) (over : AreOverRanks n records) (least : pos 1 ≤ℤ floor) where
  low-joins : (a b : ℕ) → a < b → list_any (λ x. x == b) (partners records floor n a) ≡ false → pair_twu records a b <ℤ floor
  low-joins a b before refused = by_lt_z (pair_twu records a b) floor (λ low. low) (λ high. absurd (elim (cases_lt b n) [
    | inl below ↦
        let passes : int_le floor (pair_twu records a b) ≡ true = grind (arith, ints) in
        let m = Member-filter_range (λ later. int_le floor (pair_twu records a later)) (a + 1) (n - (a + 1)) b (omega arith) (omega arith) passes in
        let never : true ≡ false = sym (joined-member b (partners records floor n a) m) ∙ refused in
        cc
    | inr past ↦ let none = pair-past n a b records over.each before past in omega (arith, ints)
  ]))

  joins-low : (a b : ℕ) → pair_twu records a b <ℤ floor → list_any (λ x. x == b) (partners records floor n a) ≡ false
  joins-low a b low = by (list_any (λ x. x == b) (partners records floor n a)) refl
    where
      by : (t : Bool) → list_any (λ x. x == b) (partners records floor n a) ≡ t → t ≡ false
      by false h = refl
      by true h =
          let m = member-joined b (partners records floor n a) h in
          let from = Member-from_filter (λ later. int_le floor (pair_twu records a later)) b (range_with_len (a + 1) (n - (a + 1))) m in
          let high : floor ≤ℤ pair_twu records a b = grind (arith, ints) in
          absurd (omega (arith, ints))

  row : (a : ℕ) → a < n → get_or (pair_table records floor n).partners a [] ≡ partners records floor n a
  row a below = get_or-map-range_with_len (partners records floor n) 0 n a a [] below (omega arith)

  -- a pair is refused just where its records gain less than the floor
  pub RefusesJustLow-table : RefusesJustLow records (pair_table records floor n)
  RefusesJustLow-table a b before = elim (cases_lt a n) [
    | inl below ↦
        let is = ap (list_any (λ x. x == b)) (row a below) in
        (λ refused. low-joins a b before (sym is ∙ refused), λ low. is ∙ joins-low a b low)
    | inr past ↦
        let none = pair-past n a b records over.each before (omega arith) in
        let long = length-map-range_with_len (partners records floor n) 0 n in
        let empty = get_or_past (pair_table records floor n).partners a [] (omega (arith, long)) in
        (λ refused. omega (arith, ints), λ low. ap (list_any (λ x. x == b)) empty)
  ]

-- each rank's partners ascend
pub ascending-table : (records : List (List (ℕ × ℤ))) (floor : ℤ) (n : ℕ) → All IsStrictlyIncreasing (pair_table records floor n).partners
ascending-table records floor n k d within =
    let below : k < n = omega (arith, length-map-range_with_len (partners records floor n) 0 n) in
    subst IsStrictlyIncreasing (sym (get_or-map-range_with_len (partners records floor n) 0 n k k d below (omega arith)))
    (filter-range_ascends (λ later. int_le floor (pair_twu records k later)) (k + 1) (n - (k + 1)))
