-- The subsequences of a record are the sequences of ascending itemsets that occur in it.
use Rattle.std.proofs.Common.{◌≡◌, ℕ, ◌<◌, ◌≤◌, ◌+◌, Bool, true, false, cond, nat_lt, ℤ, ◌+ℤ◌, Option, None, is_some, option_map, List, [], ◌∷◌, map, length}
use Rattle.std.proofs.Common.{filter, refl, sym, ◌∙◌, subst, inl, inr, arith, sum_by}
use Rattle.std.specs.List.{AllByRecursion}
use Rattle.std.proofs.lemmas.Bool.{lt-ltb, ltb-true}
use Rattle.std.proofs.lemmas.List.Sums.{sum_by-cons}
use Rattle.std.proofs.lemmas.List.{length-map}
use Rattle.hu_kind.specs.declared.entry.Entry.{Entry}
use Rattle.hu_kind.specs.Record.{holds, items_in, values_of}
use Rattle.hu_kind.specs.Itemsets.{sublists}
use Rattle.hu_kind.specs.Sequence.{best_utility, led_by, subsequences, sequence_entry, sequence_patterns, sequence_support}
use Rattle.hu_kind.specs.Order.{Ascend}
use Rattle.hu_kind.proofs.lemmas.Better.{some_cases, some_left, some_map, some_right}
use Rattle.hu_kind.proofs.lemmas.Each.{each-weaker}
use Rattle.hu_kind.proofs.lemmas.Members.{Member, Member-append_cases, Member-flat_map, Member-from_flat_map, Member-map, Member-from_map, Member-filter}
use Rattle.hu_kind.proofs.lemmas.Members.{Member-from_filter}
use Rattle.hu_kind.proofs.lemmas.Occurring.{Ascend-sublist, Member-sublists, at_member, counted, count-member, holds-members, holds-all}

-- ---- items that cells hold, and sublists of items

-- the sublists of a list have its members, ascend where it does, and are no longer
pub members-sublist : (xs s : List ℕ) → Member s (sublists xs) → AllByRecursion (λ y. Member y xs) s
members-sublist [] s (inl e) = subst (λ t. AllByRecursion (λ y. Member y []) t) e tt
members-sublist [] s (inr m) = absurd m
members-sublist (x ∷ xs) s m = elim (Member-append_cases s (sublists xs) (map (λ r. x ∷ r) (sublists xs)) m) [
  | inl a ↦ later s (members-sublist xs s a)
  | inr b ↦ let from = Member-from_map (λ (r : List ℕ). x ∷ r) s (sublists xs) b in subst (λ t. AllByRecursion (λ y. Member y (x ∷ xs)) t) from.2
      (inl refl, later from.0 (members-sublist xs from.0 from.1))
]
  where
    later : (t : List ℕ) → AllByRecursion (λ y. Member y xs) t → AllByRecursion (λ y. Member y (x ∷ xs)) t
    later t all = each-weaker (λ y. Member y xs) (λ y. Member y (x ∷ xs)) t (λ y n. inr n) all

pub length-sublist : (xs s : List ℕ) → Member s (sublists xs) → length s ≤ length xs
length-sublist [] s (inl e) = subst (λ (t : List ℕ). length t ≤ 0) e (omega arith)
length-sublist [] s (inr m) = absurd m
length-sublist (x ∷ xs) s m = elim (Member-append_cases s (sublists xs) (map (λ r. x ∷ r) (sublists xs)) m) [
  | inl a ↦ omega (arith, length-sublist xs s a)
  | inr b ↦
      let from = Member-from_map (λ (r : List ℕ). x ∷ r) s (sublists xs) b in
      subst (λ (t : List ℕ). length t ≤ length (x ∷ xs)) from.2 (omega (arith, length-sublist xs from.0 from.1))
]

-- ---- the subsequences of a record

-- an itemset of a pattern: some items, ascending
abbrev pub IsSomeAscending : List ℕ → Type 0
IsSomeAscending items = (0 < length items) × Ascend items

-- the itemsets of a record ascend
abbrev pub AreRising : List (List (ℕ × ℤ)) → Type 0
AreRising elements = AllByRecursion (λ cells. Ascend (items_in cells)) elements

led-ascending : (s : List ℕ) (pattern : List (List ℕ)) → Ascend s → AllByRecursion IsSomeAscending pattern → AllByRecursion IsSomeAscending (led_by s pattern)
led-ascending [] pattern up all = all
led-ascending (i ∷ is) pattern up all = ((omega arith, up), all)

-- each subsequence has ascending itemsets
pub sub-ascending : (elements : List (List (ℕ × ℤ))) (pattern : List (List ℕ)) → AreRising elements → Member pattern (subsequences elements)
    → AllByRecursion IsSomeAscending pattern
sub-ascending [] pattern up (inl e) = subst (λ p. AllByRecursion IsSomeAscending p) e tt
sub-ascending [] pattern up (inr m) = absurd m
sub-ascending (e ∷ es) pattern up m =
    let by_set = Member-from_flat_map (λ s. map (led_by s) (subsequences es)) pattern (sublists (items_in e)) m in
    let rest = Member-from_map (led_by by_set.0) pattern (subsequences es) by_set.2 in
    subst (λ p. AllByRecursion IsSomeAscending p) rest.2
    (led-ascending by_set.0 rest.0 (Ascend-sublist (items_in e) by_set.0 up.0 by_set.1) (sub-ascending es rest.0 up.1 rest.1))

-- each subsequence occurs
pub some-here : (b : Bool) (v : ℤ) (u : Option ℤ) → b ≡ true → is_some u ≡ true → is_some (cond b (option_map (λ x. v +ℤ x) u) None) ≡ true
some-here true v u e h = some_map (λ x. v +ℤ x) u ∙ h
some-here false v u e h = cc

pub led-occurs : (s : List ℕ) (pattern : List (List ℕ)) (e : List (ℕ × ℤ)) (es : List (List (ℕ × ℤ))) → holds s e ≡ true → is_some (best_utility pattern es) ≡ true
    → is_some (best_utility (led_by s pattern) (e ∷ es)) ≡ true
led-occurs [] [] e es held some = refl
led-occurs [] (p ∷ ps) e es held some = some_right (cond (holds p e) (option_map (λ u. values_of p e +ℤ u) (best_utility ps es)) None)
    (best_utility (p ∷ ps) es) some
led-occurs (i ∷ is) pattern e es held some =
    some_left (cond (holds (i ∷ is) e) (option_map (λ u. values_of (i ∷ is) e +ℤ u) (best_utility pattern es)) None) (best_utility ((i ∷ is) ∷ pattern) es)
    (some-here (holds (i ∷ is) e) (values_of (i ∷ is) e) (best_utility pattern es) held some)

pub sub-occurs : (elements : List (List (ℕ × ℤ))) (pattern : List (List ℕ)) → Member pattern (subsequences elements)
    → is_some (best_utility pattern elements) ≡ true
sub-occurs [] pattern (inl e) = subst (λ p. is_some (best_utility p []) ≡ true) e refl
sub-occurs [] pattern (inr m) = absurd m
sub-occurs (e ∷ es) pattern m =
    let by_set = Member-from_flat_map (λ s. map (led_by s) (subsequences es)) pattern (sublists (items_in e)) m in
    let rest = Member-from_map (led_by by_set.0) pattern (subsequences es) by_set.2 in
    subst (λ p. is_some (best_utility p (e ∷ es)) ≡ true) rest.2
    (led-occurs by_set.0 rest.0 e es (holds-all by_set.0 e (members-sublist (items_in e) by_set.0 by_set.1)) (sub-occurs es rest.0 rest.1))

-- and what occurs with ascending itemsets is a subsequence
Member-sublists-none : (xs : List ℕ) → Ascend xs → Member [] (sublists xs)
Member-sublists-none xs up = Member-sublists xs [] up tt tt

pub held_and_later : (b : Bool) (v : ℤ) (u : Option ℤ) → is_some (cond b (option_map (λ x. v +ℤ x) u) None) ≡ true → (b ≡ true) × (is_some u ≡ true)
held_and_later true v u h = (refl, sym (some_map (λ x. v +ℤ x) u) ∙ h)
held_and_later false v u h = cc

led-some : (s : List ℕ) (pattern : List (List ℕ)) → 0 < length s → led_by s pattern ≡ s ∷ pattern
led-some [] pattern some = absurd (omega arith)
led-some (i ∷ is) pattern some = refl

pub occurs-sub : (elements : List (List (ℕ × ℤ))) (pattern : List (List ℕ)) → AreRising elements → AllByRecursion IsSomeAscending pattern
    → is_some (best_utility pattern elements) ≡ true → Member pattern (subsequences elements)
occurs-sub [] [] up all some = inl refl
occurs-sub [] (p ∷ ps) up all some = cc
occurs-sub (e ∷ es) [] up all some =
    let whole = λ (s : List ℕ). map (led_by s) (subsequences es) in
    Member-flat_map whole [] [] (sublists (items_in e)) (Member-sublists-none (items_in e) up.0)
    (Member-map (led_by []) [] (subsequences es) (occurs-sub es [] up.1 tt (nothing es)))
  where
    nothing : (ds : List (List (ℕ × ℤ))) → is_some (best_utility [] ds) ≡ true
    nothing ds = refl
occurs-sub (e ∷ es) (p ∷ ps) up all some =
    let whole = λ (s : List ℕ). map (led_by s) (subsequences es) in
    elim (some_cases (cond (holds p e) (option_map (λ u. values_of p e +ℤ u) (best_utility ps es)) None) (best_utility (p ∷ ps) es) some) [
      | inl here ↦
          let both = held_and_later (holds p e) (values_of p e) (best_utility ps es) here in
          let m = Member-map (led_by p) ps (subsequences es) (occurs-sub es ps up.1 all.1 both.1) in
          let m' = subst (λ q. Member q (map (led_by p) (subsequences es))) (led-some p ps all.0.0) m in
          Member-flat_map whole p (p ∷ ps) (sublists (items_in e)) (Member-sublists (items_in e) p up.0 all.0.1 (holds-members p e both.0)) m'
      | inr later ↦
          let m = Member-map (led_by []) (p ∷ ps) (subsequences es) (occurs-sub es (p ∷ ps) up.1 all later) in
          Member-flat_map whole [] (p ∷ ps) (sublists (items_in e)) (Member-sublists-none (items_in e) up.0) m
    ]

-- a subsequence has no more items than the record
size-led : (s : List ℕ) (pattern : List (List ℕ)) → sum_by length (led_by s pattern) ≡ length s + sum_by length pattern
size-led [] pattern = omega arith
size-led (i ∷ is) pattern = sum_by-cons length (i ∷ is) pattern

pub size-sub : (elements : List (List (ℕ × ℤ))) (pattern : List (List ℕ)) → Member pattern (subsequences elements)
    → sum_by length pattern ≤ sum_by length elements
size-sub [] pattern (inl e) = subst (λ (p : List (List ℕ)). sum_by length p ≤ 0) e (omega arith)
size-sub [] pattern (inr m) = absurd m
size-sub (e ∷ es) pattern m =
    let by_set = Member-from_flat_map (λ s. map (led_by s) (subsequences es)) pattern (sublists (items_in e)) m in
    let rest = Member-from_map (led_by by_set.0) pattern (subsequences es) by_set.2 in
    let here = length-sublist (items_in e) by_set.0 by_set.1 in
    let cells = length-map e (λ (cell : ℕ × ℤ). cell.0) in
    let whole = sum_by-cons length e es in
    let led = size-led by_set.0 rest.0 in
    subst (λ (p : List (List ℕ)). sum_by length p ≤ sum_by length (e ∷ es)) rest.2 (omega (arith, here, cells, whole, led, size-sub es rest.0 rest.1))

-- ---- the patterns of records

-- an entry is that of a sequence of ascending itemsets that occurs
pub record IsPatternEntry (records : List (List (List (ℕ × ℤ)))) (entry : Entry) : Type 0 where
  pub pattern : List (List ℕ)
  pub some : 0 < length pattern
  pub itemsets : AllByRecursion IsSomeAscending pattern
  pub occurs : 0 < sequence_support records pattern
  pub is : entry ≡ sequence_entry records pattern

module _ (records : List (List (List (ℕ × ℤ)))) (up : AllByRecursion AreRising records) (entry : Entry) where
  pub pattern_entry-from : Member entry (sequence_patterns records) → IsPatternEntry records entry
  pattern_entry-from m =
      let in_record = Member-from_flat_map (λ r. map (sequence_entry records) (filter (λ p. nat_lt 0 (length p)) (subsequences r))) entry records m in
      let r = in_record.0 in
      let from = Member-from_map (sequence_entry records) entry (filter (λ p. nat_lt 0 (length p)) (subsequences r)) in_record.2 in
      let pattern = from.0 in
      let kept = Member-from_filter (λ p. nat_lt 0 (length p)) pattern (subsequences r) from.1 in
      record {
        pattern = pattern;
        some = ltb-true 0 (length pattern) kept.1;
        itemsets = sub-ascending r pattern (at_member AreRising r records up in_record.1) kept.0;
        occurs = count-member (λ s. is_some (best_utility pattern s)) r records in_record.1 (sub-occurs r pattern kept.0);
        is = sym from.2;
      }

  pub pattern_entry-member : IsPatternEntry records entry → Member entry (sequence_patterns records)
  pattern_entry-member e =
      let pattern = e.pattern in
      let found = counted (λ s. is_some (best_utility pattern s)) records e.occurs in
      let sub = occurs-sub found.0 pattern (at_member AreRising found.0 records up found.1) e.itemsets found.2 in
      let kept = Member-filter (λ p. nat_lt 0 (length p)) pattern (subsequences found.0) sub (lt-ltb 0 (length pattern) e.some) in
      let m = Member-map (sequence_entry records) pattern (filter (λ p. nat_lt 0 (length p)) (subsequences found.0)) kept in
      let m' = Member-flat_map (λ r. map (sequence_entry records) (filter (λ p. nat_lt 0 (length p)) (subsequences r))) found.0
      (sequence_entry records pattern) records found.1 m in
      subst (λ x. Member x (sequence_patterns records)) (sym e.is) m'

pub occurs-later : (pattern : List (List ℕ)) (e : List (ℕ × ℤ)) (es : List (List (ℕ × ℤ))) → is_some (best_utility pattern es) ≡ true
    → is_some (best_utility pattern (e ∷ es)) ≡ true
occurs-later [] e es some = refl
occurs-later (p ∷ ps) e es some = some_right (cond (holds p e) (option_map (λ u. values_of p e +ℤ u) (best_utility ps es)) None)
    (best_utility (p ∷ ps) es) some
