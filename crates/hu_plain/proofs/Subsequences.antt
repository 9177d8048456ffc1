-- The sequences that occur in records are those that grow the empty prefix.
use Rattle.std.proofs.Common.{◌≡◌, ℕ, ◌<◌, ◌+◌, cond, nat_lt, ℤ, pos, ◌+ℤ◌, Option, None, Some, is_some, unwrap_or, option_map, List, [], ◌∷◌, map, length}
use Rattle.std.proofs.Common.{filter, refl, sym, ap, ◌∙◌, subst, arith, Contains}
use Rattle.std.specs.List.{AllByRecursion}
use Rattle.std.proofs.lemmas.Int.{ints}
use Rattle.std.proofs.lemmas.Bool.{lt-ltb, ltb-true}
use Rattle.std.proofs.lemmas.List.Sums.{sum_by-cons}
use Rattle.hu_kind.specs.declared.entry.Entry.{Entry}
use Rattle.hu_kind.specs.Sequence.{better, best_utility, subsequences, sequence_entry, sequence_patterns, sequence_support, sequence_utility}
use Rattle.hu_kind.proofs.lemmas.Members.{Member-from_contains, Contains-from_member, Member-flat_map, Member-from_flat_map, Member-map, Member-from_map}
use Rattle.hu_kind.proofs.lemmas.Members.{Member-filter, Member-from_filter}
use Rattle.hu_kind.proofs.lemmas.Occurring.{at_member, counted, count-member}
use Rattle.hu_kind.proofs.lemmas.Subsequences.{AreRising, sub-ascending, sub-occurs, occurs-sub}
use Rattle.hu_plain.specs.Growth.{grown_support, grown_utility, growth_entry, IsSet, Grows}
use Rattle.hu_plain.specs.Place.{Places, best_from, first_places, grown_best, itemsets_of}
use Rattle.hu_plain.specs.Row.{Cells, RowOf}

pub itemsets-later : (elements : List Cells) → itemsets_of (map (λ cells. ([], cells)) elements) ≡ elements
itemsets-later [] = refl
itemsets-later (e ∷ es) = ap (λ ds. e ∷ ds) (itemsets-later es)

best-first_later : (items : List ℕ) (rest : List (List ℕ)) (elements : List Cells) → grown_best items rest (map (λ cells. ([], cells)) elements) ≡ None
best-first_later items rest [] = refl
best-first_later items rest (e ∷ es) = best-first_later items rest es

best-first : (pattern : List (List ℕ)) (elements : List Cells) → grown_best [] pattern (first_places elements) ≡ best_utility pattern elements
best-first pattern elements =
    let start : RowOf = (pos 0, []) in
    let later : Places = map (λ cells. ([], cells)) elements in
    ap (λ b. better (best_from [] (best_utility pattern (itemsets_of later)) (start ∷ [])) b) (best-first_later [] pattern elements)
    ∙ ap (λ ds. better (best_from [] (best_utility pattern ds) (start ∷ [])) None) (itemsets-later elements)
    ∙ zero_before (best_utility pattern elements)
  where
    zero_before : (u : Option ℤ) → better (better (option_map (λ x. (pos 0 +ℤ pos 0) +ℤ x) u) None) None ≡ u
    zero_before None = refl
    zero_before (Some x) = ap (λ n. Some n) (omega (arith, ints))

best-first_none : (item : ℕ) (items : List ℕ) (rest : List (List ℕ)) (elements : List Cells)
    → grown_best (item ∷ items) rest (first_places elements) ≡ None
best-first_none item items rest elements = best-first_later (item ∷ items) rest elements

utility-first : (records : List (List Cells)) (pattern : List (List ℕ))
    → grown_utility (map first_places records) [] pattern ≡ sequence_utility records pattern
utility-first [] pattern = refl
utility-first (r ∷ records) pattern =
    ap (λ b. unwrap_or b (pos 0) +ℤ grown_utility (map first_places records) [] pattern) (best-first pattern r)
    ∙ ap (λ u. unwrap_or (best_utility pattern r) (pos 0) +ℤ u) (utility-first records pattern)

support-first : (records : List (List Cells)) (pattern : List (List ℕ))
    → grown_support (map first_places records) [] pattern ≡ sequence_support records pattern
support-first [] pattern = refl
support-first (r ∷ records) pattern =
    sum_by-cons (λ s. cond (is_some (grown_best [] pattern s)) 1 0) (first_places r) (map first_places records)
    ∙ ap (λ b. cond (is_some b) 1 0 + grown_support (map first_places records) [] pattern) (best-first pattern r)
    ∙ ap (λ n. cond (is_some (best_utility pattern r)) 1 0 + n) (support-first records pattern)
    ∙ sym (sum_by-cons (λ s. cond (is_some (best_utility pattern s)) 1 0) r records)

support-first_none : (item : ℕ) (items : List ℕ) (rest : List (List ℕ)) (records : List (List Cells))
    → grown_support (map first_places records) (item ∷ items) rest ≡ 0
support-first_none item items rest [] = refl
support-first_none item items rest (r ∷ records) =
    let whole = sum_by-cons (λ s. cond (is_some (grown_best (item ∷ items) rest s)) 1 0) (first_places r) (map first_places records) in
    let here : ◌≡◌ {A = ℕ} (cond (is_some (grown_best (item ∷ items) rest (first_places r))) 1 0) 0 =
    ap (λ b. cond (is_some b) 1 0) (best-first_none item items rest r) in
    omega (arith, support-first_none item items rest records)

entry-first : (records : List (List Cells)) (pattern : List (List ℕ))
    → growth_entry [] (map first_places records) [] pattern ≡ sequence_entry records pattern
entry-first records pattern = let u = utility-first records pattern in let s = support-first records pattern in cc

-- the patterns of records are the entries that grow the empty prefix
module _ (records : List (List Cells)) (up : AllByRecursion AreRising records) where
  pub grows-pattern : (entry : Entry) → Contains (sequence_patterns records) entry → Grows [] (map first_places records) entry
  grows-pattern entry c =
      let m = Member-from_contains entry (sequence_patterns records) c in
      let in_record = Member-from_flat_map (λ r. map (sequence_entry records) (filter (λ p. nat_lt 0 (length p)) (subsequences r))) entry records m in
      let r = in_record.0 in
      let from = Member-from_map (sequence_entry records) entry (filter (λ p. nat_lt 0 (length p)) (subsequences r)) in_record.2 in
      let pattern = from.0 in
      let kept = Member-from_filter (λ p. nat_lt 0 (length p)) pattern (subsequences r) from.1 in
      let some : 0 < length pattern = ltb-true 0 (length pattern) kept.1 in
      let count : 0 < sequence_support records pattern =
      count-member (λ s. is_some (best_utility pattern s)) r records in_record.1 (sub-occurs r pattern kept.0) in
      record {
        items = [];
        rest = pattern;
        some = omega (arith, some);
        ascending = tt;
        itemsets = sub-ascending r pattern (at_member AreRising r records up in_record.1) kept.0;
        occurs = subst (λ n. 0 < n) (sym (support-first records pattern)) count;
        is = entry-first records pattern ∙ from.2;
      }

  pub pattern-grows : (entry : Entry) → Grows [] (map first_places records) entry → Contains (sequence_patterns records) entry
  pattern-grows entry g = by_items g.items g.rest g.some g.itemsets g.occurs g.is
    where
      by_items : (is : List ℕ) (pattern : List (List ℕ)) → 0 < length is + length pattern → AllByRecursion IsSet pattern
          → 0 < grown_support (map first_places records) is pattern → growth_entry [] (map first_places records) is pattern ≡ entry
          → Contains (sequence_patterns records) entry
      by_items (i ∷ is) pattern some all occurs e = absurd (omega (arith, support-first_none i is pattern records))
      by_items [] pattern some all occurs e =
          let count : 0 < sequence_support records pattern = subst (λ n. 0 < n) (support-first records pattern) occurs in
          let found = counted (λ s. is_some (best_utility pattern s)) records count in
          let sub = occurs-sub found.0 pattern (at_member AreRising found.0 records up found.1) all found.2 in
          let kept = Member-filter (λ p. nat_lt 0 (length p)) pattern (subsequences found.0) sub (lt-ltb 0 (length pattern) (omega arith)) in
          let m = Member-map (sequence_entry records) pattern (filter (λ p. nat_lt 0 (length p)) (subsequences found.0)) kept in
          let m' = Member-flat_map (λ r. map (sequence_entry records) (filter (λ p. nat_lt 0 (length p)) (subsequences r)))
          found.0 (sequence_entry records pattern) records found.1 m in
          subst (Contains (sequence_patterns records)) (sym (entry-first records pattern) ∙ e)
          (Contains-from_member (sequence_entry records pattern) (sequence_patterns records) m')
