-- What the tails of a set say of its children.
use Rattle.std.proofs.Common.{◌≡◌, ℕ, zero, suc, ◌+◌, ◌<◌, Bool, true, false, cond, eqb, ◌||◌, ◌&&◌, ℤ, pos, ◌≤ℤ◌, ◌<ℤ◌, Option, None, Some, List, [], ◌∷◌}
use Rattle.std.proofs.Common.{◌++◌, length, get_or, take, inl, inr, ◌⊎◌, refl, sym, ap, ◌∙◌, subst, arith, Contains, nat_eq, append-nil, IfSome, MatchOption}
use Rattle.std.proofs.Common.{Result, Ok, Err, IfOk}
use Rattle.std.specs.Prelude.{⊤}
use Rattle.std.specs.List.{AllByRecursion, IsDistinct}
use Rattle.std.proofs.Math.Bool.{or-true}
use Rattle.std.proofs.lemmas.Bool.{eq-eqb, eqb-true, or_cases, false≢true, false_from_ne_true}
use Rattle.std.proofs.lemmas.Int.{ints}
use Rattle.std.proofs.lemmas.List.{take_more}
use Rattle.hu_kind.specs.Order.{Ascend}
use Rattle.hu_kind.specs.Record.{has, items_in}
use Rattle.hu_kind.proofs.lemmas.Members.{Member, Member-append_left, Member-append_right, Member-from_contains, Contains-from_member}
use Rattle.hu_kind.proofs.lemmas.Occurring.{at_member, by_members, has-member}
use Rattle.hu_kind.proofs.lemmas.Each.{each-weaker, each-left, each-right, each-append}
use Rattle.hu_kind.proofs.lemmas.Ascending.{Ascend-right, Ascend-across}
use Rattle.hu_totals.specs.Ranked.{Ranking}
use Rattle.hu_totals.specs.Cells.{among}
use Rattle.hu_totals.proofs.lemmas.KeptLemmas.{among-member}
use Rattle.hu_collect.specs.State.{State, floor_in}
use Rattle.hu_search.specs.declared.child.Child.{Child}
use Rattle.hu_search.specs.Growth.{InTable}
use Rattle.hu_search.specs.Children.{IsChild, AreEnough, ranks_of}
use Rattle.hu_list.specs.declared.sums.Sum.{Sum}
use Rattle.hu_search.specs.Slots.{at}
use Rattle.hu_list.specs.Tails.{TailOf, held, gain_with}
use Rattle.hu_list.specs.Passes.{met_in, gaining, summing, no_sum}
use Rattle.hu_list.specs.View.{IsTail}
use Rattle.hu_list.specs.Level.{IsLeft, IsRefused, IsMost, IsLevel, AreKept, sum_of}
use Rattle.hu_search.proofs.lemmas.Slots.{at-absent, distinct-before, at-place}
use Rattle.hu_list.proofs.GrowthLemmas.{AllUp, gained, gained-out, gain-unheld, earned-gain, summed-support, summed-utility, summed-bound}

-- ---- ranks among others, and members

member-among : (z : ℕ) (xs : List ℕ) → among z xs ≡ true → Member z xs
member-among z [] m = cc
member-among z (x ∷ xs) m = elim (or_cases (eqb z x) (among z xs) m) [
  | inl e ↦ inl (sym (eqb-true z x e))
  | inr later ↦ inr (member-among z xs later)
]

pub contains-among : (z : ℕ) (xs : List ℕ) → Contains xs z → among z xs ≡ true
contains-among z xs c = among-member z xs (Member-from_contains z xs c)

pub among-contains : (z : ℕ) (xs : List ℕ) → among z xs ≡ true → Contains xs z
among-contains z xs m = Contains-from_member z xs (member-among z xs m)

-- ---- a rank of a tail

pub at-has : (P : ℕ → Type 0) (cells : List (ℕ × ℤ)) (z : ℕ) → AllByRecursion P (items_in cells) → has z cells ≡ true → P z
at-has P cells z all h = at_member P z (items_in cells) all (has-member z cells h)

up-to : (set : List ℕ) (cells : List (ℕ × ℤ)) (z : ℕ) → Ascend (set ++ items_in cells) → has z cells ≡ true → Ascend (set ++ z ∷ [])
up-to [] cells z up h = (tt, tt)
up-to (x ∷ set) cells z up h = (
  each-append (λ y. x < y) set (z ∷ []) (each-left (λ y. x < y) set (items_in cells) up.0)
      (at-has (λ y. x < y) cells z (each-right (λ y. x < y) set (items_in cells) up.0) h, tt),
  up-to set cells z up.1 h,
)

-- a rank that a tail holds
record IsHeld (n : ℕ) (set : List ℕ) (z : ℕ) : Type 0 where
  later : Ascend (set ++ z ∷ [])
  within : z < n

held-later : (n : ℕ) (set : List ℕ) (z : ℕ) (tails : List TailOf) → AllByRecursion (IsTail n) tails
    → AllByRecursion (λ tail. Ascend (set ++ items_in tail.cells)) tails → 0 < held tails (z ∷ []) → IsHeld n set z
held-later n set z [] each later some = absurd (omega (arith, some))
held-later n set z (tail ∷ tails) each later some = by (has z tail.cells) refl some (held-later n set z tails each.1 later.1)
  where
    by : (b : Bool) → has z tail.cells ≡ b → 0 < cond (b && true) 1 0 + held tails (z ∷ []) → (0 < held tails (z ∷ []) → IsHeld n set z) → IsHeld n set z
    by true h some rest =
        let first = each.0 in
        record { later = up-to set tail.cells z later.0 h; within = at-has (λ rank. rank < n) tail.cells z first.in_range h }
    by false h some rest = rest (omega (arith, some))

-- ---- a set and its tails

module _ (r : Ranking) (set : List ℕ) (tails : List TailOf) (left : IsLeft r set tails) where
  ups : AllUp tails
  ups = each-weaker (IsTail (length r.items)) (λ tail. Ascend (items_in tail.cells)) tails (λ tail is. is.ascending) left.rules.each

  gain-is : (keep : List ℕ) (z : ℕ) → among z keep ≡ true → met_in (gaining keep) z tails (pos 0) ≡ gain_with keep tails z
  gain-is keep z kept = let g = gained keep z tails (pos 0) ups kept in omega (arith, ints, g)

  pub some-held : (keep : List ℕ) (z : ℕ) → pos 1 ≤ℤ met_in (gaining keep) z tails (pos 0) → 0 < held tails (z ∷ [])
  some-held keep z high = by (among z keep) refl
    where
      some_or_none : (n : ℕ) → (n ≡ 0 → ⊥) → 0 < n
      some_or_none zero h = absurd (h refl)
      some_or_none (suc n) h = omega arith

      by : (b : Bool) → among z keep ≡ b → 0 < held tails (z ∷ [])
      by true kept =
          some_or_none (held tails (z ∷ [])) (λ none. let zero = gain-unheld keep z tails none in let is =
          gain-is keep z kept in absurd (omega (arith, ints, zero, is, high)))
      by false out = let is = gained-out keep z tails (pos 0) ups out in absurd (omega (arith, ints, is, high))

  held-rank : (keep : List ℕ) (z : ℕ) → pos 1 ≤ℤ met_in (gaining keep) z tails (pos 0) → IsHeld (length r.items) set z
  held-rank keep z high = held-later (length r.items) set z tails left.rules.each left.later (some-held keep z high)

  pub rank-later : (keep : List ℕ) (z : ℕ) → pos 1 ≤ℤ met_in (gaining keep) z tails (pos 0) → Ascend (set ++ z ∷ [])
  rank-later keep z high = let is = held-rank keep z high in is.later

  pub rank-within : (keep : List ℕ) (z : ℕ) → pos 1 ≤ℤ met_in (gaining keep) z tails (pos 0) → z < length r.items
  rank-within keep z high = let is = held-rank keep z high in is.within

  -- the ranks that are kept are enough
  pub enough-kept : (s : State) (Right : List (List (ℕ × ℤ)) → Type 0) (gate : ℤ) (last : Option ℕ) (gain : ℕ → ℤ)
      (keep found kept : List ℕ) → AreEnough s r set keep → gate ≤ℤ floor_in s → Right r.records
      → ((last' : ℕ) → last ≡ Some last' → Contains set last')
      → ((z : ℕ) → gain z ≡ met_in (gaining keep) z tails (pos 0))
      → ((z : ℕ) → among z found ≡ false → gain z ≡ pos 0) → pos 1 ≤ℤ floor_in s
      → AreKept Right gate (floor_in s) last gain found kept → AreEnough s r set kept
  enough-kept s Right gate last gain keep found kept enough low right lasts is out least are [] up occurs counts = tt
  enough-kept s Right gate last gain keep found kept enough low right lasts is out least are (m ∷ ms) up occurs counts =
      by_members (Contains kept) (m ∷ ms) (λ z c. among-contains z kept (one z c))
    where
      all : AllByRecursion (Contains keep) (m ∷ ms)
      all = enough (m ∷ ms) up occurs counts

      all' : AllByRecursion (λ rank. among rank keep ≡ true) (m ∷ ms)
      all' = each-weaker (Contains keep) (λ rank. among rank keep ≡ true) (m ∷ ms) (λ rank c. contains-among rank keep c) all

      reaches : (z : ℕ) → Member z (m ∷ ms) → floor_in s ≤ℤ gain z
      reaches z c =
          let earns = earned-gain keep (m ∷ ms) z tails ups (Ascend-right set (m ∷ ms) up) all' (among-member z (m ∷ ms) c) in
          let same = left.utility m ms up in
          let gains = gain-is keep z (at_member (λ rank. among rank keep ≡ true) z (m ∷ ms) all' c) in
          let high = counts.high in
          omega (arith, ints, earns, same, gains, high, is z)

      refused : (z : ℕ) → Member z (m ∷ ms) → IsRefused Right gate last z → ⊥
      refused z c bars = on last refl bars
        where
          on : (l : Option ℕ) → last ≡ l → IsRefused Right gate l z → ⊥
          on None e bars = bars
          on (Some a) e bars =
              let under =
              bars r.records right (set ++ m ∷ ms) up (Contains-from_member a (set ++ m ∷ ms)
              (Member-append_left a set (m ∷ ms) (Member-from_contains a set (lasts a e))))
              (Contains-from_member z (set ++ m ∷ ms) (Member-append_right z set (m ∷ ms) c)) in
              let high = counts.high in
              absurd (omega (arith, ints, under, high, low))

      one : (z : ℕ) → Member z (m ∷ ms) → among z kept ≡ true
      one z c = by (among z found) refl
        where
          by : (b : Bool) → among z found ≡ b → among z kept ≡ true
          by true f = elim (are.whole z f) [
            | inl stays ↦ stays
            | inr (inl under) ↦ let high = reaches z c in absurd (omega (arith, ints, under, high))
            | inr (inr bars) ↦ absurd (refused z c bars)
          ]
          by false f = let none = out z f in let high = reaches z c in absurd (omega (arith, ints, none, high, least))

  -- a child by its sums
  pub child-is : (keep : List ℕ) (child : Child) (sums : Sum) → among child.rank keep ≡ true → sum_of child ≡ met_in (summing keep) child.rank tails no_sum
      → Ascend (set ++ child.rank ∷ []) → InTable r (set ++ child.rank ∷ []) → 0 < held tails (child.rank ∷ []) → IsChild r set child
  child-is keep child sums kept is up within some =
      let z = child.rank in
      let u = ap (λ (s : Sum). s.utility) is in
      let n = ap (λ (s : Sum). s.support) is in
      let u' = summed-utility keep z tails no_sum ups kept in
      let n' = summed-support keep z tails no_sum ups kept in
      let eu = left.utility z [] up in
      let en = left.support z [] up in
      record {
        ascending = up;
        in_table = within;
        occurs = omega (arith, en, some);
        utility = omega (arith, ints, u, u', eu);
        support = omega (arith, n, n', en);
      }

  pub most-is : (keep : List ℕ) (child : Child) → among child.rank keep ≡ true → sum_of child
      ≡ met_in (summing keep) child.rank tails no_sum → IsMost r set keep child
  most-is keep child kept is more up all =
      let b = ap (λ (s : Sum). s.bound) is in
      let same = left.utility child.rank more up in
      let below = summed-bound keep more child.rank tails no_sum ups kept (Ascend-right set (child.rank ∷ more) up)
      (each-weaker (Contains keep) (λ rank. among rank keep ≡ true) more (λ rank c. contains-among rank keep c) all) in
      omega (arith, ints, b, same, below)

-- ---- ranks that are kept, one after another

among-push : (z : ℕ) (xs : List ℕ) (y : ℕ) → among z (xs ++ y ∷ []) ≡ among z xs || eqb z y
among-push z [] y = by (eqb z y)
  where
    by : (b : Bool) → b || false ≡ b
    by true = refl
    by false = refl
among-push z (x ∷ xs) y = ap (λ b. eqb z x || b) (among-push z xs y) ∙ by (eqb z x)
  where
    by : (a : Bool) → a || (among z xs || eqb z y) ≡ (a || among z xs) || eqb z y
    by true = refl
    by false = refl

-- a rank at a place has the value there
pub value-at : (ranks : List ℕ) (gains : List ℤ) (i : ℕ) → IsDistinct nat_eq ranks → i < length ranks → length gains
    ≡ length ranks → at (pos 0) ranks gains (get_or ranks i 0) ≡ get_or gains i (pos 0)
value-at ranks gains i once within len =
    at-place (pos 0) ranks gains (get_or ranks i 0) i
    (record { within = within; here = refl; first = distinct-before ranks i 0 once within })
    (omega (arith, within, len))

-- a rank isn't kept before its turn
pub kept-fresh : (ranks kept : List ℕ) (i : ℕ) → IsDistinct nat_eq ranks → i < length ranks
    → ((z : ℕ) → among z kept ≡ true → among z (take i ranks) ≡ true) → among (get_or ranks i 0) kept ≡ false
kept-fresh ranks kept i once within before =
    false_from_ne_true (among (get_or ranks i 0) kept) (λ m. false≢true (sym (distinct-before ranks i 0 once within) ∙ before (get_or ranks i 0) m))

module _ (ranks kept kept' : List ℕ) (i : ℕ) (stays : Bool) (within : i < length ranks) (is : kept' ≡ kept ++ cond stays (get_or ranks i 0 ∷ []) []) where
  kept-cases : (z : ℕ) → among z kept' ≡ true → (among z kept ≡ true) ⊎ ((stays ≡ true) × (z ≡ get_or ranks i 0))
  kept-cases z m = by stays refl (subst (λ ks. among z ks ≡ true) is m)
    where
      by : (b : Bool) → stays ≡ b → among z (kept ++ cond b (get_or ranks i 0 ∷ []) []) ≡ true
          → (among z kept ≡ true) ⊎ ((stays ≡ true) × (z ≡ get_or ranks i 0))
      by true e m =
          elim (or_cases (among z kept) (eqb z (get_or ranks i 0)) (sym (among-push z kept (get_or ranks i 0)) ∙ m))
          [ inl a ↦ inl a | inr b ↦ inr (e, eqb-true z (get_or ranks i 0) b) ]
      by false e m = inl (subst (λ ks. among z ks ≡ true) (append-nil kept) m)

  kept-before : (z : ℕ) → among z kept ≡ true → among z kept' ≡ true
  kept-before z m = subst (λ ks. among z ks ≡ true) (sym is) (by stays)
    where
      by : (b : Bool) → among z (kept ++ cond b (get_or ranks i 0 ∷ []) []) ≡ true
      by true = among-push z kept (get_or ranks i 0) ∙ ap (λ b. b || eqb z (get_or ranks i 0)) m
      by false = subst (λ ks. among z ks ≡ true) (sym (append-nil kept)) m

  kept-here : stays ≡ true → among (get_or ranks i 0) kept' ≡ true
  kept-here stayed =
      let here : eqb (get_or ranks i 0) (get_or ranks i 0) ≡ true = eq-eqb (get_or ranks i 0) (get_or ranks i 0) refl in
      ap (among (get_or ranks i 0)) (is ∙ ap (λ b. kept ++ cond b (get_or ranks i 0 ∷ []) []) stayed)
      ∙ among-push (get_or ranks i 0) kept (get_or ranks i 0)
      ∙ ap (λ b. among (get_or ranks i 0) kept || b) here
      ∙ or-true (among (get_or ranks i 0) kept)

  taken-more : (z : ℕ) → among z (take (i + 1) ranks) ≡ among z (take i ranks) || eqb z (get_or ranks i 0)
  taken-more z = ap (among z) (take_more ranks i 0 within) ∙ among-push z (take i ranks) (get_or ranks i 0)

  pub before-more : ((z : ℕ) → among z kept ≡ true → among z (take i ranks) ≡ true) → (z : ℕ) → among z kept' ≡ true → among z (take (i + 1) ranks) ≡ true
  before-more before z m = elim (kept-cases z m) [
    | inl earlier ↦ taken-more z ∙ ap (λ b. b || eqb z (get_or ranks i 0)) (before z earlier)
    | inr now ↦ let here : eqb z (get_or ranks i 0) ≡ true = eq-eqb z (get_or ranks i 0) now.1 in taken-more z
        ∙ ap (λ b. among z (take i ranks) || b) here ∙ or-true (among z (take i ranks))
  ]

  pub kept-more : (Right : List (List (ℕ × ℤ)) → Type 0) (gate floor : ℤ) (last : Option ℕ) (gain : ℕ → ℤ)
      → AreKept Right gate floor last gain (take i ranks) kept
      → (stays ≡ true → floor ≤ℤ gain (get_or ranks i 0)) → (stays ≡ false → (gain (get_or ranks i 0) <ℤ floor) ⊎ IsRefused Right gate last (get_or ranks i 0))
      → AreKept Right gate floor last gain (take (i + 1) ranks) kept'
  kept-more Right gate floor last gain are high low = record {
    sound = λ z m. elim (kept-cases z m) [ inl earlier ↦ are.sound z earlier | inr now ↦ subst (λ x. floor ≤ℤ gain x) (sym now.1) (high now.0) ];
    whole = λ z m. elim (or_cases (among z (take i ranks)) (eqb z (get_or ranks i 0)) (sym (taken-more z) ∙ m)) [
      | inl earlier ↦ elim (are.whole z earlier) [ inl stayed ↦ inl (kept-before z stayed) | inr gone ↦ inr gone ]
      | inr here ↦ by stays refl z (eqb-true z (get_or ranks i 0) here)
    ];
  }
    where
      by : (b : Bool) → stays ≡ b → (z : ℕ) → z ≡ get_or ranks i 0 → (among z kept' ≡ true) ⊎ ((gain z <ℤ floor) ⊎ IsRefused Right gate last z)
      by true e z same = inl (subst (λ x. among x kept' ≡ true) (sym same) (kept-here e))
      by false e z same = inr (subst (λ x. (gain x <ℤ floor) ⊎ IsRefused Right gate last x) (sym same) (low e))

-- none are kept before the first
pub kept-none : (Right : List (List (ℕ × ℤ)) → Type 0) (gate floor : ℤ) (last : Option ℕ) (gain : ℕ → ℤ) → AreKept Right gate floor last gain [] []
kept-none Right gate floor last gain = record { sound = λ z m. absurd (false≢true m); whole = λ z m. absurd (false≢true m) }

-- a last rank is below a later one
pub below-last : (set : List ℕ) (last : Option ℕ) (z : ℕ) → IfSome last (Contains set) → Ascend (set ++ z ∷ []) → MatchOption last ⊤ (λ a. a < z)
below-last set None z c up = tt
below-last set (Some a) z c up = at_member (λ x. x < z) a set (Ascend-across set (z ∷ []) up z (inl refl)) (Member-from_contains a set c)

-- ---- the children of a set

pub both_ok : {T E : Type 0} (result : Result T E) (P Q R : T → Type 0) → ((x : T) → P x → Q x → R x) → IfOk result P → IfOk result Q → IfOk result R
both_ok (Ok x) P Q R both p q = both x p q
both_ok (Err e) P Q R both p q = tt

-- what holds of each child whose rank is among those of all
each-child : (P Q : Child → Type 0) (all : List ℕ) (children : List Child) → ((child : Child) → among child.rank all ≡ true → Q child → P child)
    → ((z : ℕ) → among z (ranks_of children) ≡ true → among z all ≡ true) → AllByRecursion Q children → AllByRecursion P children
each-child P Q all [] one inside each = tt
each-child P Q all (child ∷ children) one inside each =
    let here : eqb child.rank child.rank ≡ true = eq-eqb child.rank child.rank refl in (
      one child (inside child.rank (rw here refl)) each.0,
      each-child P Q all children one (λ z m. inside z (ap (λ b. eqb z child.rank || b) m ∙ or-true (eqb z child.rank))) each.1,
    )

pub level-is : (r : Ranking) (set : List ℕ) (tails : List TailOf) (s : State) (Right : List (List (ℕ × ℤ)) → Type 0)
    (gate : ℤ) (last : Option ℕ) (keep found kept : List ℕ) (gains : List ℤ) (sums : List Sum)
    (children : List Child) → IsLeft r set tails → InTable r set → AreEnough s r set keep → gate ≤ℤ floor_in s
    → Right r.records → IfSome last (Contains set) → pos 1 ≤ℤ floor_in s
    → ((z : ℕ) → at (pos 0) found gains z ≡ met_in (gaining keep) z tails (pos 0))
    → AreKept Right gate (floor_in s) last (at (pos 0) found gains) found kept → IsDistinct nat_eq kept
    → ((z : ℕ) → at no_sum kept sums z ≡ met_in (summing kept) z tails no_sum) → ranks_of children ≡ kept
    → AllByRecursion (λ child. sum_of child ≡ at no_sum kept sums child.rank) children → IsLevel s r set children
level-is r set tails s Right gate last keep found kept gains sums children left table enough low right lasts least gained are once summed is each = record {
  right = each-child (IsChild r set) (λ c. sum_of c ≡ at no_sum kept sums c.rank) kept children child inside each;
  enough = subst (AreEnough s r set) (sym is)
      (enough-kept r set tails left s Right gate last (at (pos 0) found gains) keep found kept enough low right
      (λ a e. subst (λ l. IfSome l (Contains set)) e lasts)
      gained (λ z out. at-absent (pos 0) found gains z out) least are);
  most = subst (λ ranks. AllByRecursion (IsMost r set ranks) children) (sym is)
      (each-child (IsMost r set kept) (λ c. sum_of c ≡ at no_sum kept sums c.rank) kept children
      (λ c m q. most-is r set tails left kept c m (q ∙ summed c.rank)) inside each);
  once = subst (IsDistinct nat_eq) (sym is) once;
}
  where
    inside : (z : ℕ) → among z (ranks_of children) ≡ true → among z kept ≡ true
    inside z m = subst (λ ranks. among z ranks ≡ true) is m

    child : (c : Child) → among c.rank kept ≡ true → sum_of c ≡ at no_sum kept sums c.rank → IsChild r set c
    child c m q =
        let reaches = are.sound c.rank m in
        let high : pos 1 ≤ℤ met_in (gaining keep) c.rank tails (pos 0) = omega (arith, ints, reaches, least, gained c.rank) in
        child-is r set tails left kept c (sum_of c) m (q ∙ summed c.rank) (rank-later r set tails left keep c.rank high)
        (each-append (λ rank. rank < length r.items) set (c.rank ∷ []) table (rank-within r set tails left keep c.rank high, tt))
        (some-held r set tails left keep c.rank high)
