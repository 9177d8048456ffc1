-- What sets and sequences earn in a record, beside what the record gains and what its absolute values sum to.
use Rattle.std.proofs.Common.{◌≡◌, ℕ, ◌<◌, ◌≤◌, ◌+◌, Bool, true, false, not, cond, eqb, ℤ, pos, negsuc, ◌+ℤ◌, ◌≤ℤ◌, unsigned_abs, Option, None, Some}
use Rattle.std.proofs.Common.{option_map, unwrap_or, List, [], ◌∷◌, map, filter, refl, zero, suc, length, get_or, take, sym, ap, ◌∙◌, subst, inl, inr, arith}
use Rattle.std.proofs.Common.{sum_by}
use Rattle.std.specs.List.{AllByRecursion}
use Rattle.std.proofs.lemmas.Bool.{eq-eqb, ne_eqb, cases_eq, and_parts}
use Rattle.std.proofs.lemmas.Int.{ints, clamps}
use Rattle.std.proofs.lemmas.List.Sums.{sum_by-cons}
use Rattle.hu_kind.specs.declared.entry.Entry.{Entry}
use Rattle.hu_kind.specs.Order.{Ascend}
use Rattle.hu_kind.specs.Record.{has, holds, value_of, values_of, utility_in, positive_part, gain, absolute_of, items_in, IsItemset}
use Rattle.hu_kind.specs.Database.{utility}
use Rattle.hu_kind.specs.Itemsets.{sublists, occurring_sets, item_entry}
use Rattle.hu_kind.specs.Sequence.{better, best_utility, led_by, sequence_utility, sequence_entry, subsequences, IsSequence}
use Rattle.hu_kind.specs.Laws.{ItemsEarnWithin, SequencesEarnWithin}
use Rattle.hu_kind.proofs.lemmas.Ascending.{Ascend-adjacent}
use Rattle.hu_kind.proofs.lemmas.Each.{each-weaker}
use Rattle.hu_kind.proofs.lemmas.Members.{Member, Member-from_contains, Member-from_map, Member-from_flat_map, Member-from_filter}
use Rattle.hu_kind.proofs.lemmas.Occurring.{at_member, Ascend-sublist, Occurs-from_member}

-- ---- positive parts and gains

pub positive_part-upper : (value : ℤ) → (value ≤ℤ positive_part value) × (pos 0 ≤ℤ positive_part value)
positive_part-upper (pos n) = (omega (arith, ints), omega (arith, ints))
positive_part-upper (negsuc n) = (omega (arith, ints), omega (arith, ints))

pub positive_part-within : (value : ℤ) → unsigned_abs (positive_part value) ≤ unsigned_abs value
positive_part-within (pos n) = omega arith
positive_part-within (negsuc n) = omega arith

pub gain-least : (cells : List (ℕ × ℤ)) → pos 0 ≤ℤ gain cells
gain-least [] = omega (arith, ints)
gain-least (cell ∷ cells) = let ih = gain-least cells in let part = (positive_part-upper cell.1).1 in omega (arith, ints)

pub gain-within : (cells : List (ℕ × ℤ)) → unsigned_abs (gain cells) ≤ absolute_of cells
gain-within [] = omega arith
gain-within (cell ∷ cells) =
    let ih = gain-within cells in
    let head = positive_part-within cell.1 in
    omega (arith, ints, sum_by-cons (λ (c : ℕ × ℤ). unsigned_abs c.1) cell cells)

-- what the first cells gain
pub gain-more : (cells : List (ℕ × ℤ)) (i : ℕ) (d : ℕ × ℤ) → i < length cells → gain (take (suc i) cells)
    ≡ gain (take i cells) +ℤ positive_part (get_or cells i d).1
gain-more [] i d within = absurd (omega arith)
gain-more (cell ∷ cells) zero d within = omega (arith, ints)
gain-more (cell ∷ cells) (suc i) d within = let ih = gain-more cells i d (omega arith) in omega (arith, ints)

pub gain-take : (cells : List (ℕ × ℤ)) (i : ℕ) → unsigned_abs (gain (take i cells)) ≤ absolute_of cells
gain-take [] zero = omega arith
gain-take [] (suc i) = omega arith
gain-take (cell ∷ cells) zero = omega arith
gain-take (cell ∷ cells) (suc i) =
    let ih = gain-take cells i in
    let head = positive_part-within cell.1 in
    omega (arith, ints, sum_by-cons (λ (c : ℕ × ℤ). unsigned_abs c.1) cell cells)

-- ---- a set in a record with one more cell: the set without that cell's item in the others

abbrev pub others : ℕ → List ℕ → List ℕ
others x set = filter (λ i. not (eqb i x)) set

pub each-others : (P : ℕ → Type 0) (x : ℕ) (set : List ℕ) → AllByRecursion P set → AllByRecursion P (others x set)
each-others P x [] all = tt
each-others P x (y ∷ ys) all = by (eqb y x) (each-others P x ys all.1)
  where
    by : (b : Bool) → AllByRecursion P (others x ys) → AllByRecursion P (cond (not b) (y ∷ others x ys) (others x ys))
    by true rest = rest
    by false rest = (all.0, rest)

pub Ascend-others : (x : ℕ) (set : List ℕ) → Ascend set → Ascend (others x set)
Ascend-others x [] up = tt
Ascend-others x (y ∷ ys) up = by (eqb y x) (each-others (λ z. y < z) x ys up.0) (Ascend-others x ys up.1)
  where
    by : (b : Bool) → AllByRecursion (λ z. y < z) (others x ys) → Ascend (others x ys) → Ascend (cond (not b) (y ∷ others x ys) (others x ys))
    by true above rest = rest
    by false above rest = (above, rest)

-- where the set has no such item, the cell counts for nothing
pub values_of-past : (cell : ℕ × ℤ) (cells : List (ℕ × ℤ)) (set : List ℕ) → AllByRecursion (λ i. cell.0 < i) set
    → values_of set (cell ∷ cells) ≡ values_of (others cell.0 set) cells
values_of-past cell cells [] above = refl
values_of-past cell cells (i ∷ is) above =
    let other : eqb i cell.0 ≡ false = ne_eqb i cell.0 (λ e. absurd (omega arith)) in
    let ih = values_of-past cell cells is above.1 in
    simp other (ap (λ v. value_of i cells +ℤ v) ih)

-- and else it counts once
pub record CountsCell (cell : ℕ × ℤ) (cells : List (ℕ × ℤ)) (set : List ℕ) : Type 0 where
  pub part : ℤ
  pub upper : part ≤ℤ positive_part cell.1
  pub within : unsigned_abs part ≤ unsigned_abs cell.1
  pub is : values_of set (cell ∷ cells) ≡ part +ℤ values_of (others cell.0 set) cells

pub values_of-cell : (cell : ℕ × ℤ) (cells : List (ℕ × ℤ)) (set : List ℕ) → Ascend set → CountsCell cell cells set
values_of-cell cell cells [] up = record {
  part = pos 0;
  upper = (positive_part-upper cell.1).1;
  within = omega arith;
  is = omega (arith, ints);
}
values_of-cell cell cells (i ∷ is) up = elim (cases_eq i cell.0) [
  | inl e ↦
      let here : eqb i cell.0 ≡ true = eq-eqb i cell.0 e in
      let past = values_of-past cell cells is (subst (λ x. AllByRecursion (λ j. x < j) is) e up.0) in
      record {
        part = cell.1;
        upper = (positive_part-upper cell.1).0;
        within = omega arith;
        is = simp here (ap (λ v. cell.1 +ℤ v) past);
      }
  | inr ne ↦
      let other : eqb i cell.0 ≡ false = ne_eqb i cell.0 ne in
      let ih = values_of-cell cell cells is up.1 in
      record {
        part = ih.part;
        upper = ih.upper;
        within = ih.within;
        is = simp other (omega (arith, ints, ih.is));
      }
]

pub values_of-none : (set : List ℕ) → values_of set [] ≡ pos 0
values_of-none [] = refl
values_of-none (x ∷ xs) = let ih = values_of-none xs in omega (arith, ints)

-- in a record a set earns no more than the record gains
pub values_of-gain : (cells : List (ℕ × ℤ)) (set : List ℕ) → Ascend set → values_of set cells ≤ℤ gain cells
values_of-gain [] set up = let none = values_of-none set in omega (arith, ints)
values_of-gain (cell ∷ cells) set up =
    let step = values_of-cell cell cells set up in
    let ih = values_of-gain cells (others cell.0 set) (Ascend-others cell.0 set up) in
    omega (arith, ints, step.is, step.upper)

-- and what it earns is within the sum of the absolute values
pub values_of-within : (cells : List (ℕ × ℤ)) (set : List ℕ) → Ascend set → unsigned_abs (values_of set cells) ≤ absolute_of cells
values_of-within [] set up = let none = values_of-none set in omega (arith, ints)
values_of-within (cell ∷ cells) set up =
    let step = values_of-cell cell cells set up in
    let ih = values_of-within cells (others cell.0 set) (Ascend-others cell.0 set up) in
    omega (arith, ints, step.is, step.within, sum_by-cons (λ (c : ℕ × ℤ). unsigned_abs c.1) cell cells)

-- a record that holds a set has each of its items
pub has-held : (x : ℕ) (set : List ℕ) (cells : List (ℕ × ℤ)) → holds set cells ≡ true → Member x set → has x cells ≡ true
has-held x [] cells h m = absurd m
has-held x (y ∷ ys) cells h (inl e) = ap (λ i. has i cells) (sym e) ∙ (and_parts (has y cells) (holds ys cells) h).0
has-held x (y ∷ ys) cells h (inr m) = has-held x ys cells (and_parts (has y cells) (holds ys cells) h).1 m

-- ---- a set in a database

utility_in-within : (set : List ℕ) (cells : List (ℕ × ℤ)) → Ascend set → unsigned_abs (utility_in set cells) ≤ absolute_of cells
utility_in-within set cells up = by (holds set cells)
  where
    by : (b : Bool) → unsigned_abs (cond b (values_of set cells) (pos 0)) ≤ absolute_of cells
    by true = values_of-within cells set up
    by false = omega arith

pub utility-within : (records : List (List (ℕ × ℤ))) (set : List ℕ) → Ascend set → unsigned_abs (utility records set) ≤ sum_by absolute_of records
utility-within [] set up = omega arith
utility-within (r ∷ rs) set up =
    let ih = utility-within rs set up in
    let one = utility_in-within set r up in
    omega (arith, ints, sum_by-cons absolute_of r rs)

pub items_earn_within : ItemsEarnWithin
items_earn_within records e c =
    let from = Member-from_map (item_entry records) e (occurring_sets records) (Member-from_contains e _ c) in
    let within = utility-within records from.0 (Occurs-from_member records from.0 from.1).ascending in
    subst (λ (entry : Entry). unsigned_abs entry.utility ≤ sum_by absolute_of records) from.2 within

-- ---- a sequence in a record and in a database

-- a utility, if there is one, is within a sum
abbrev Within : Option ℤ → ℕ → Type 0
Within None sum = Unit {0}
Within (Some u) sum = unsigned_abs u ≤ sum

Within-better : (a b : Option ℤ) (sum : ℕ) → Within a sum → Within b sum → Within (better a b) sum
Within-better None b sum h i = i
Within-better (Some x) None sum h i = h
Within-better (Some x) (Some y) sum h i = omega (arith, ints, clamps)

Within-first : (b : Bool) (a : Option ℤ) (value : ℤ) (here sum : ℕ) → unsigned_abs value ≤ here → Within a sum
    → Within (cond b (option_map (λ u. value +ℤ u) a) None) (here + sum)
Within-first false a value here sum h i = tt
Within-first true None value here sum h i = tt
Within-first true (Some x) value here sum h i = omega (arith, ints)

Within-later : (a : Option ℤ) (here sum : ℕ) → Within a sum → Within a (here + sum)
Within-later None here sum h = tt
Within-later (Some x) here sum h = omega arith

best-within : (pattern : List (List ℕ)) (elements : List (List (ℕ × ℤ))) → AllByRecursion Ascend pattern
    → Within (best_utility pattern elements) (sum_by absolute_of elements)
best-within [] elements up = omega arith
best-within (p ∷ ps) [] up = tt
best-within (p ∷ ps) (e ∷ es) up =
    let sum = sum_by-cons absolute_of e es in
    let first =
    Within-first (holds p e) (best_utility ps es) (values_of p e) (absolute_of e) (sum_by absolute_of es)
    (values_of-within e p up.0) (best-within ps es up.1) in
    let later = Within-later (best_utility (p ∷ ps) es) (absolute_of e) (sum_by absolute_of es) (best-within (p ∷ ps) es up) in
    subst (Within (best_utility (p ∷ ps) (e ∷ es))) (sym sum) (Within-better _ _ (absolute_of e + sum_by absolute_of es) first later)

unwrapped : (a : Option ℤ) (sum : ℕ) → Within a sum → unsigned_abs (unwrap_or a (pos 0)) ≤ sum
unwrapped None sum h = omega arith
unwrapped (Some x) sum h = h

pub sequence_utility-within : (records : List (List (List (ℕ × ℤ)))) (pattern : List (List ℕ)) → AllByRecursion Ascend pattern
    → unsigned_abs (sequence_utility records pattern) ≤ sum_by (sum_by absolute_of) records
sequence_utility-within [] pattern up = omega arith
sequence_utility-within (r ∷ rs) pattern up =
    let ih = sequence_utility-within rs pattern up in
    let one = unwrapped (best_utility pattern r) (sum_by absolute_of r) (best-within pattern r up) in
    omega (arith, ints, sum_by-cons (sum_by absolute_of) r rs)

-- the itemsets of a subsequence ascend
led_by-ascends : (s : List ℕ) (pattern : List (List ℕ)) → Ascend s → AllByRecursion Ascend pattern → AllByRecursion Ascend (led_by s pattern)
led_by-ascends [] pattern up rest = rest
led_by-ascends (i ∷ is) pattern up rest = (up, rest)

pub subsequence-ascends : (elements : List (List (ℕ × ℤ))) (pattern : List (List ℕ))
    → AllByRecursion (λ e. Ascend (items_in e)) elements → Member pattern (subsequences elements)
    → AllByRecursion Ascend pattern
subsequence-ascends [] pattern up (inl e) = subst (AllByRecursion Ascend) e tt
subsequence-ascends [] pattern up (inr m) = absurd m
subsequence-ascends (e ∷ es) pattern up m =
    let first = Member-from_flat_map (λ s. map (led_by s) (subsequences es)) pattern (sublists (items_in e)) m in
    let rest = Member-from_map (led_by first.0) pattern (subsequences es) first.2 in
    subst (AllByRecursion Ascend) rest.2
    (led_by-ascends first.0 rest.0 (Ascend-sublist (items_in e) first.0 up.0 first.1) (subsequence-ascends es rest.0 up.1 rest.1))

pub sequences_earn_within : SequencesEarnWithin
sequences_earn_within records rules e c =
    let from = Member-from_flat_map (λ r. map (sequence_entry records) (filter _ (subsequences r))) e records (Member-from_contains e _ c) in
    let pattern = Member-from_map (sequence_entry records) e _ from.2 in
    let found = Member-from_filter _ pattern.0 (subsequences from.0) pattern.1 in
    let lawful = at_member IsSequence from.0 records rules from.1 in
    let up = each-weaker IsItemset (λ cells. Ascend (items_in cells)) from.0 (λ cells is. Ascend-adjacent cells is.ascending) lawful.itemsets in
    let within = sequence_utility-within records pattern.0 (subsequence-ascends from.0 pattern.0 up found.0) in
    subst (λ (entry : Entry). unsigned_abs entry.utility ≤ sum_by (sum_by absolute_of) records) pattern.2 within
