-- What tails say of the sets that grow theirs, and the tails of these.
use Rattle.std.proofs.Common.{◌≡◌, ℕ, ◌+◌, ◌<◌, ◌≤◌, Bool, true, false, cond, eqb, ◌&&◌, max, ℤ, pos}
use Rattle.std.proofs.Common.{unsigned_abs, ◌+ℤ◌, List, [], ◌∷◌, ◌++◌, map, length, inl, inr, refl, sym, ap, ◌∙◌, subst}
use Rattle.std.proofs.Common.{arith, sum_by, append_assoc}
use Rattle.std.specs.List.{AllByRecursion}
use Rattle.std.proofs.lemmas.Bool.{ne_eqb, eq-eqb, cases_eq}
use Rattle.std.proofs.lemmas.Int.{ints}
use Rattle.std.proofs.lemmas.List.Sums.{sum_by-cons, sum_by-append}
use Rattle.hu_kind.specs.Order.{Ascend}
use Rattle.hu_kind.specs.Record.{has, holds, value_of, values_of, items_in, absolute_of}
use Rattle.hu_kind.specs.Database.{utility, support}
use Rattle.hu_kind.proofs.lemmas.Ascending.{each-ascending, each-in_range, Ascend-right}
use Rattle.hu_kind.proofs.lemmas.Each.{each-append, each-weaker}
use Rattle.hu_kind.proofs.lemmas.Occurring.{at_member, has-member}
use Rattle.hu_totals.specs.Ranked.{Ranking, IsRanking}
use Rattle.hu_average.specs.declared.totals.RankTotal.{RankTotal}
use Rattle.hu_average.specs.Bound.{greatest, average_bound}
use Rattle.hu_average.specs.Totals.{total_with, no_total, plus, total_of}
use Rattle.hu_average.specs.Tails.{TailOf, tail_from, share_of, sums, total_in, left_from, left_in, grown, size_of, IsTail, IsLeft}
use Rattle.hu_average.proofs.BoundLemmas.{greatest-least, greatest-within}

-- ---- sums of totals

pub total-equal : (a b : RankTotal) → a.utility ≡ b.utility → a.support ≡ b.support → a.bound ≡ b.bound → a ≡ b
total-equal a b u n m = λ j. record { utility = u j; support = n j; bound = m j }

pub plus-none : (a : RankTotal) → plus a no_total ≡ a
plus-none a = total-equal (plus a no_total) a (omega (arith, ints)) (omega arith) (omega (arith, ints))

none-plus : (a : RankTotal) → plus no_total a ≡ a
none-plus a = total-equal (plus no_total a) a (omega (arith, ints)) (omega arith) (omega (arith, ints))

pub plus-assoc : (a b c : RankTotal) → plus (plus a b) c ≡ plus a (plus b c)
plus-assoc a b c =
    total-equal (plus (plus a b) c) (plus a (plus b c)) (omega (arith, ints)) (omega arith) (omega (arith, ints))

pub total_in-append : (tails others : List TailOf) → total_in (tails ++ others) ≡ plus (total_in tails) (total_in others)
total_in-append [] others = sym (none-plus (total_in others))
total_in-append (tail ∷ tails) others =
    ap (plus (total_with tail.own 1 tail.most)) (total_in-append tails others)
    ∙ sym (plus-assoc (total_with tail.own 1 tail.most) (total_in tails) (total_in others))

sums-append : (tails others : List TailOf) (set : List ℕ) → sums (tails ++ others) set ≡ plus (sums tails set) (sums others set)
sums-append [] others set = sym (none-plus (sums others set))
sums-append (tail ∷ tails) others set =
    ap (plus (share_of set tail)) (sums-append tails others set)
    ∙ sym (plus-assoc (share_of set tail) (sums tails set) (sums others set))

-- what tails say of their set
total_in-sums : (tails : List TailOf) → total_in tails ≡ sums tails []
total_in-sums [] = refl
total_in-sums (tail ∷ tails) = λ j. plus (here j) (total_in-sums tails j)
  where
    here : total_with tail.own 1 tail.most ≡ total_with (tail.own +ℤ pos 0) 1 tail.most
    here = total-equal (total_with tail.own 1 tail.most) (total_with (tail.own +ℤ pos 0) 1 tail.most) (omega (arith, ints)) refl refl

-- ---- the records as tails of the empty set

total-cons : (cells : List (ℕ × ℤ)) (records : List (List (ℕ × ℤ))) (set : List ℕ)
    → total_of (cells ∷ records) set ≡ plus (share_of set (tail_from cells)) (total_of records set)
total-cons cells records set =
    total-equal (total_of (cells ∷ records) set) (plus (share_of set (tail_from cells)) (total_of records set)) (earned (holds set cells))
    (sum_by-cons (λ c. cond (holds set c) 1 0) cells records ∙ held (holds set cells)) (most (holds set cells))
  where
    earned : (b : Bool) → (cond b (values_of set cells) (pos 0) +ℤ utility records set)
        ≡ ((cond b (total_with (pos 0 +ℤ values_of set cells) 1 (greatest cells)) no_total).utility +ℤ utility records set)
    earned true = omega (arith, ints)
    earned false = refl

    held : (b : Bool) → (cond b 1 0 + support records set)
        ≡ ((cond b (total_with (pos 0 +ℤ values_of set cells) 1 (greatest cells)) no_total).support + support records set)
    held true = refl
    held false = refl

    most : (b : Bool) → (cond b (greatest cells) (pos 0) +ℤ average_bound records set)
        ≡ ((cond b (total_with (pos 0 +ℤ values_of set cells) 1 (greatest cells)) no_total).bound +ℤ average_bound records set)
    most true = refl
    most false = refl

totals-first : (records : List (List (ℕ × ℤ))) (set : List ℕ) → total_of records set ≡ sums (map tail_from records) set
totals-first [] set = refl
totals-first (cells ∷ records) set =
    total-cons cells records set ∙ ap (plus (share_of set (tail_from cells))) (totals-first records set)

sizes-first : (records : List (List (ℕ × ℤ))) → sum_by size_of (map tail_from records) ≤ sum_by absolute_of records
sizes-first [] = omega arith
sizes-first (cells ∷ records) =
    let least = greatest-least cells in
    let most = greatest-within cells in
    let ih = sizes-first records in
    let tails = sum_by-cons size_of (tail_from cells) (map tail_from records) in
    let all = sum_by-cons absolute_of cells records in
    omega (arith, ints, least, most, ih, tails, all)

each-first : (n : ℕ) (records : List (List (ℕ × ℤ))) → AllByRecursion (λ cells. Ascend (items_in cells)) records
    → AllByRecursion (λ cells. AllByRecursion (λ cell. cell.0 < n) cells) records → AllByRecursion (IsTail n) (map tail_from records)
each-first n [] up low = tt
each-first n (cells ∷ records) up low =
    (record { ascending = up.0; in_range = below cells low.0 }, each-first n records up.1 low.1)
  where
    below : (cells : List (ℕ × ℤ)) → AllByRecursion (λ cell. cell.0 < n) cells → AllByRecursion (λ rank. rank < n) (items_in cells)
    below [] all = tt
    below (cell ∷ cells) all = (all.0, below cells all.1)

pub left-first : (r : Ranking) → IsRanking r → IsLeft r [] (map tail_from r.records)
left-first r rules = record {
  rules = record {
    each = each-first (length r.items) r.records (each-ascending r.records rules.ascending) (each-in_range (length r.items) r.records rules.in_range);
    sizes = let fits = rules.sum_fits in let size = sizes-first r.records in omega (arith, fits, size);
  };
  totals = λ first more up. totals-first r.records (first ∷ more);
}

-- ---- the tails of the set with a rank more

-- ranks after a cell's are not its own
holds-past : (cell : ℕ × ℤ) (cells : List (ℕ × ℤ)) (set : List ℕ) → AllByRecursion (λ y. cell.0 < y) set → holds set (cell ∷ cells) ≡ holds set cells
holds-past cell cells [] above = refl
holds-past cell cells (y ∷ set) above =
    let low = above.0 in
    let other : eqb y cell.0 ≡ false = ne_eqb y cell.0 (λ e. absurd (omega (arith, low, e))) in
    let ih = holds-past cell cells set above.1 in
    rw (other, ih) refl

values_of-past : (cell : ℕ × ℤ) (cells : List (ℕ × ℤ)) (set : List ℕ) → AllByRecursion (λ y. cell.0 < y) set
    → values_of set (cell ∷ cells) ≡ values_of set cells
values_of-past cell cells [] above = refl
values_of-past cell cells (y ∷ set) above =
    let low = above.0 in
    let other : eqb y cell.0 ≡ false = ne_eqb y cell.0 (λ e. absurd (omega (arith, low, e))) in
    let ih = values_of-past cell cells set above.1 in
    rw (other, ih) refl

-- what one tail leaves
share-left : (z : ℕ) (own most : ℤ) (cells : List (ℕ × ℤ)) (set : List ℕ) → Ascend (items_in cells) → AllByRecursion (λ y. z < y) set
    → sums (left_from z own most cells) set ≡ share_of (z ∷ set) (record { own = own; most = most; cells = cells })
share-left z own most [] set up above = refl
share-left z own most (cell ∷ cells) set up above = elim (cases_eq z cell.0) [
  | inl e ↦
      let here : eqb z cell.0 ≡ true = eq-eqb z cell.0 e in
      let above' : AllByRecursion (λ y. cell.0 < y) set = subst (λ x. AllByRecursion (λ y. x < y) set) e above in
      let held = holds-past cell cells set above' in
      let worth = values_of-past cell cells set above' in
      rw (here, held, worth) (same (holds set cells))
  | inr ne ↦ let other : eqb z cell.0 ≡ false = ne_eqb z cell.0 ne in rw other (share-left z own most cells set up.1 above ∙ later (has z cells) refl)
]
  where
    same : (b : Bool) → plus (cond b (total_with (own +ℤ cell.1 +ℤ values_of set cells) 1 most) no_total) no_total
        ≡ cond b (total_with (own +ℤ (cell.1 +ℤ values_of set cells)) 1 most) no_total
    same true = total-equal (plus (total_with (own +ℤ cell.1 +ℤ values_of set cells) 1 most) no_total)
        (total_with (own +ℤ (cell.1 +ℤ values_of set cells)) 1 most) (omega (arith, ints)) refl (omega (arith, ints))
    same false = refl

    later : (b : Bool) → has z cells ≡ b
        → cond (b && holds set cells) (total_with (own +ℤ (value_of z cells +ℤ values_of set cells)) 1 most) no_total
        ≡ cond (b && holds set (cell ∷ cells)) (total_with (own +ℤ (value_of z cells +ℤ values_of set (cell ∷ cells))) 1 most) no_total
    later true h =
        let low : cell.0 < z = at_member (λ y. cell.0 < y) z (items_in cells) up.0 (has-member z cells h) in
        let above' : AllByRecursion (λ y. cell.0 < y) set = each-weaker (λ y. z < y) (λ y. cell.0 < y) set (λ y high. omega (arith, low, high)) above in
        rw (holds-past cell cells set above', values_of-past cell cells set above') refl
    later false h = refl

sums-grown : (n z : ℕ) (tails : List TailOf) (set : List ℕ) → AllByRecursion (IsTail n) tails → AllByRecursion (λ y. z < y) set
    → sums (grown z tails) set ≡ sums tails (z ∷ set)
sums-grown n z [] set each above = refl
sums-grown n z (tail ∷ tails) set each above =
    let first = each.0 in
    sums-append (left_in z tail) (grown z tails) set
    ∙ (λ j. plus (share-left z tail.own tail.most tail.cells set first.ascending above j) (sums-grown n z tails set each.1 above j))

-- the total of a rank
pub total-grown : (n z : ℕ) (tails : List TailOf) → AllByRecursion (IsTail n) tails → total_in (grown z tails) ≡ sums tails (z ∷ [])
total-grown n z tails each = total_in-sums (grown z tails) ∙ sums-grown n z tails [] each tt

each-left : (n z : ℕ) (own most : ℤ) (cells : List (ℕ × ℤ)) → Ascend (items_in cells) → AllByRecursion (λ rank. rank < n) (items_in cells)
    → AllByRecursion (IsTail n) (left_from z own most cells)
each-left n z own most [] up low = tt
each-left n z own most (cell ∷ cells) up low = by (eqb z cell.0) (each-left n z own most cells up.1 low.1)
  where
    by : (b : Bool) → AllByRecursion (IsTail n) (left_from z own most cells)
        → AllByRecursion (IsTail n) (cond b (record { own = own +ℤ cell.1; most = most; cells = cells } ∷ []) (left_from z own most cells))
    by true ih = (record { ascending = up.1; in_range = low.1 }, tt)
    by false ih = ih

each-grown : (n z : ℕ) (tails : List TailOf) → AllByRecursion (IsTail n) tails → AllByRecursion (IsTail n) (grown z tails)
each-grown n z [] each = tt
each-grown n z (tail ∷ tails) each =
    let first = each.0 in
    each-append (IsTail n) (left_in z tail) (grown z tails) (each-left n z tail.own tail.most tail.cells first.ascending first.in_range)
    (each-grown n z tails each.1)

size-left : (z : ℕ) (own most : ℤ) (cells : List (ℕ × ℤ))
    → sum_by size_of (left_from z own most cells) ≤ max (unsigned_abs own + absolute_of cells) (unsigned_abs most)
size-left z own most [] = omega arith
size-left z own most (cell ∷ cells) = by (eqb z cell.0) (size-left z own most cells)
  where
    split : absolute_of (cell ∷ cells) ≡ unsigned_abs cell.1 + absolute_of cells
    split = sum_by-cons (λ (c : ℕ × ℤ). unsigned_abs c.1) cell cells

    by : (b : Bool) → sum_by size_of (left_from z own most cells) ≤ max (unsigned_abs own + absolute_of cells) (unsigned_abs most)
        → sum_by size_of (cond b (record { own = own +ℤ cell.1; most = most; cells = cells } ∷ []) (left_from z own most cells))
        ≤ max (unsigned_abs own + absolute_of (cell ∷ cells)) (unsigned_abs most)
    by true ih = omega (arith, ints, split)
    by false ih = omega (arith, split, ih)

pub sizes-grown : (z : ℕ) (tails : List TailOf) → sum_by size_of (grown z tails) ≤ sum_by size_of tails
sizes-grown z [] = omega arith
sizes-grown z (tail ∷ tails) =
    let both = sum_by-append size_of (left_in z tail) (grown z tails) in
    let split = sum_by-cons size_of tail tails in
    let ih = sizes-grown z tails in
    let first = size-left z tail.own tail.most tail.cells in
    omega (arith, both, split, ih, first)

-- the tails of a set leave those of the set with a rank more
pub left-grown : (r : Ranking) (set : List ℕ) (z : ℕ) (tails : List TailOf) → IsLeft r set tails → IsLeft r (set ++ z ∷ []) (grown z tails)
left-grown r set z tails left = record {
  rules = record {
    each = each-grown (length r.items) z tails left.rules.each;
    sizes = let fits = left.rules.sizes in let size = sizes-grown z tails in omega (arith, fits, size);
  };
  totals = λ first more up.
      let same : (set ++ z ∷ []) ++ first ∷ more ≡ set ++ z ∷ first ∷ more = append_assoc set (z ∷ []) (first ∷ more) in
      let up' : Ascend (set ++ z ∷ first ∷ more) = subst Ascend same up in
      let above = Ascend-right set (z ∷ first ∷ more) up' in
      ap (total_of r.records) same ∙ left.totals z (first ∷ more) up'
      ∙ sym (sums-grown (length r.items) z tails (first ∷ more) left.rules.each above.0);
}
