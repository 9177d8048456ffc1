-- The subsequences of a record are the sequences of ascending itemsets that occur in it.
use Rattle.std.proofs.Common.{◌≡◌, ℕ, ◌<◌, nat_lt, Bool, true, false, cond, ℤ, ◌+ℤ◌, ◌≤ℤ◌, Option, None, Some, is_some, option_map, List, [], ◌∷◌, map, length}
use Rattle.std.proofs.Common.{filter, refl, sym, subst, inl, inr, arith}
use Rattle.std.specs.List.{AllByRecursion, Contains}
use Rattle.std.proofs.lemmas.Bool.{lt-ltb, ltb-true}
use Rattle.hu_kind.specs.declared.entry.Entry.{Entry}
use Rattle.hu_kind.specs.Answer.{sequence_answer}
use Rattle.hu_kind.specs.Order.{Ascend}
use Rattle.hu_kind.specs.Record.{has, holds, values_of, items_in, IsItemset}
use Rattle.hu_kind.specs.Itemsets.{sublists}
use Rattle.hu_kind.specs.Sequence.{best_utility, led_by, sequence_entry, sequence_patterns, subsequences, IsSequence}
use Rattle.hu_kind.proofs.lemmas.Ascending.{Ascend-adjacent}
use Rattle.hu_kind.proofs.lemmas.Each.{each-weaker}
use Rattle.hu_kind.proofs.lemmas.Earned.{subsequence-ascends}
use Rattle.hu_kind.proofs.lemmas.Members.{Member, Contains-from_member, Member-from_contains, Member-map, Member-from_map, Member-flat_map}
use Rattle.hu_kind.proofs.lemmas.Members.{Member-from_flat_map, Member-filter, Member-from_filter}
use Rattle.hu_kind.proofs.lemmas.Occurring.{at_member, by_members, each-sublist, Member-sublists, counted, count-member, holds-members, has-from_member}
use Rattle.hu_kind.proofs.lemmas.EntryOrder.{entry-same}
use Rattle.hu_kind.proofs.lemmas.Tests.{all-by_members}
use Rattle.hu_kind.proofs.lemmas.Better.{some_cases}
use Rattle.hu_kind.proofs.lemmas.Subsequences.{led-occurs}
use Rattle.hu_answer.specs.Entries.{IsSequenceEntryOf, IsFoundSequence}
use Rattle.hu_answer.specs.Laws.{IsSequenceAnswer}
use Rattle.hu_answer.proofs.lemmas.Answers.{Member-answer, Member-from_answer}
use Rattle.hu_answer.proofs.lemmas.Occurrences.{first_utility}

-- ---- a subsequence occurs

sublist-held : (cells : List (ℕ × ℤ)) (s : List ℕ) → Member s (sublists (items_in cells)) → holds s cells ≡ true
sublist-held cells s m =
    let all = each-sublist (λ i. Member i (items_in cells)) (items_in cells) s
    (by_members (λ i. Member i (items_in cells)) (items_in cells) (λ i n. n)) m in
    all-by_members (λ i. has i cells) s (λ i n. has-from_member i cells (at_member (λ j. Member j (items_in cells)) i s all n))

some-first : (b : Bool) (f : ℤ → ℤ) (a : Option ℤ) → b ≡ true → is_some a ≡ true → is_some (cond b (option_map f a) None) ≡ true
some-first true f None e h = absurd (let no : false ≡ true = h in cc)
some-first true f (Some x) e h = refl
some-first false f a e h = absurd (let no : false ≡ true = e in cc)

-- a sequence whose itemsets all have an item
abbrev Filled : List (List ℕ) → Type 0
Filled pattern = AllByRecursion (λ items. 0 < length items) pattern

filled-led : (s : List ℕ) (rest : List (List ℕ)) → Filled rest → Filled (led_by s rest)
filled-led [] rest h = h
filled-led (i ∷ is) rest h = (omega arith, h)

subsequence-occurs : (elements : List (List (ℕ × ℤ))) (pattern : List (List ℕ)) → Member pattern (subsequences elements)
    → Filled pattern × (is_some (best_utility pattern elements) ≡ true)
subsequence-occurs [] pattern (inl e) = subst (λ p. Filled p × (is_some (best_utility p []) ≡ true)) e (tt, refl)
subsequence-occurs [] pattern (inr m) = absurd m
subsequence-occurs (e ∷ es) pattern m =
    let first = Member-from_flat_map (λ s. map (led_by s) (subsequences es)) pattern (sublists (items_in e)) m in
    let rest = Member-from_map (led_by first.0) pattern (subsequences es) first.2 in
    let ih = subsequence-occurs es rest.0 rest.1 in
    subst (λ p. Filled p × (is_some (best_utility p (e ∷ es)) ≡ true)) rest.2
    (filled-led first.0 rest.0 ih.0, led-occurs first.0 rest.0 e es (sublist-held e first.0 first.1) ih.1)

-- ---- and a sequence that occurs is a subsequence

from_first : (b : Bool) (f : ℤ → ℤ) (a : Option ℤ) → is_some (cond b (option_map f a) None) ≡ true → (b ≡ true) × (is_some a ≡ true)
from_first true f None h = absurd (let no : false ≡ true = h in cc)
from_first true f (Some x) h = (refl, refl)
from_first false f a h = absurd (let no : false ≡ true = h in cc)

abbrev Rises : List (List (ℕ × ℤ)) → Type 0
Rises elements = AllByRecursion (λ e. Ascend (items_in e)) elements

subsequence-led : (s : List ℕ) (rest : List (List ℕ)) (e : List (ℕ × ℤ)) (es : List (List (ℕ × ℤ))) → Member s (sublists (items_in e))
    → Member rest (subsequences es)
    → Member (led_by s rest) (subsequences (e ∷ es))
subsequence-led s rest e es m n =
    Member-flat_map (λ r. map (led_by r) (subsequences es)) s (led_by s rest) (sublists (items_in e)) m (Member-map (led_by s) rest (subsequences es) n)

subsequence-later : (pattern : List (List ℕ)) (e : List (ℕ × ℤ)) (es : List (List (ℕ × ℤ))) → Ascend (items_in e) → Member pattern (subsequences es)
    → Member pattern (subsequences (e ∷ es))
subsequence-later pattern e es up n = subsequence-led [] pattern e es (Member-sublists (items_in e) [] up tt tt) n

subsequence-first : (p : List ℕ) (ps : List (List ℕ)) (e : List (ℕ × ℤ)) (es : List (List (ℕ × ℤ))) → 0 < length p → Member p (sublists (items_in e))
    → Member ps (subsequences es) → Member (p ∷ ps) (subsequences (e ∷ es))
subsequence-first [] ps e es some m n = absurd (let no : false ≡ true = lt-ltb 0 0 some in cc)
subsequence-first (i ∷ is) ps e es some m n = subsequence-led (i ∷ is) ps e es m n

occurring-subsequence : (elements : List (List (ℕ × ℤ))) (pattern : List (List ℕ)) → Rises elements → Filled pattern → AllByRecursion Ascend pattern
    → is_some (best_utility pattern elements) ≡ true → Member pattern (subsequences elements)
occurring-subsequence [] [] rise filled up h = inl refl
occurring-subsequence [] (p ∷ ps) rise filled up h = absurd (let no : false ≡ true = h in cc)
occurring-subsequence (e ∷ es) [] rise filled up h = subsequence-later [] e es rise.0 (occurring-subsequence es [] rise.1 tt tt refl)
occurring-subsequence (e ∷ es) (p ∷ ps) rise filled up h = elim (some_cases (first_utility p ps e es) (best_utility (p ∷ ps) es) h) [
  | inl first ↦
      let held = from_first (holds p e) (λ u. values_of p e +ℤ u) (best_utility ps es) first in
      let m = Member-sublists (items_in e) p rise.0 up.0 (holds-members p e held.0) in
      subsequence-first p ps e es filled.0 m (occurring-subsequence es ps rise.1 filled.1 up.1 held.1)
  | inr later ↦ subsequence-later (p ∷ ps) e es rise.0 (occurring-subsequence es (p ∷ ps) rise.1 filled up later)
]

-- ---- the answer over sequences

rises : (elements : List (List (ℕ × ℤ))) → IsSequence elements → Rises elements
rises elements is = each-weaker IsItemset (λ cells. Ascend (items_in cells)) elements (λ cells set. Ascend-adjacent cells set.ascending) is.itemsets

-- the sequences of a record, without the empty one
abbrev pub patterns_of : List (List (ℕ × ℤ)) → List (List (List ℕ))
patterns_of r = filter (λ p. nat_lt 0 (length p)) (subsequences r)

pub is_sequence_answer : IsSequenceAnswer
is_sequence_answer records rules least entry = (there, back)
  where
    there : Contains (sequence_answer records least None) entry →
        (pattern : List (List ℕ)) × IsFoundSequence records least pattern × IsSequenceEntryOf records pattern entry
    there c =
        let found = Member-from_answer least (sequence_patterns records) entry (Member-from_contains entry _ c) in
        let from = Member-from_flat_map (λ r. map (sequence_entry records) (patterns_of r)) entry records found.0 in
        let one = Member-from_map (sequence_entry records) entry (patterns_of from.0) from.2 in
        let part = Member-from_filter (λ (p : List (List ℕ)). nat_lt 0 (length p)) one.0 (subsequences from.0) one.1 in
        let occurs = subsequence-occurs from.0 one.0 part.0 in
        let rise = rises from.0 (at_member IsSequence from.0 records rules from.1) in (
          one.0,
          record {
            some = ltb-true 0 (length one.0) part.1;
            filled = occurs.0;
            ascending = subsequence-ascends from.0 one.0 rise part.0;
            held = count-member (λ r. is_some (best_utility one.0 r)) from.0 records from.1 occurs.1;
            earns = subst (λ (e : Entry). least ≤ℤ e.utility) (sym one.2) found.1;
          },
          subst (IsSequenceEntryOf records one.0) one.2 (record { key = refl; earned = refl; held_by = refl }),
        )

    back : (pattern : List (List ℕ)) × IsFoundSequence records least pattern × IsSequenceEntryOf records pattern entry →
        Contains (sequence_answer records least None) entry
    back s =
        let at = counted (λ r. is_some (best_utility s.0 r)) records s.1.held in
        let rise = rises at.0 (at_member IsSequence at.0 records rules at.1) in
        let part = occurring-subsequence at.0 s.0 rise s.1.filled s.1.ascending at.2 in
        let stands = Member-filter (λ (p : List (List ℕ)). nat_lt 0 (length p)) s.0 (subsequences at.0) part (lt-ltb 0 (length s.0) s.1.some) in
        let m = Member-flat_map (λ r. map (sequence_entry records) (patterns_of r)) at.0 (sequence_entry records s.0) records at.1
        (Member-map (sequence_entry records) s.0 (patterns_of at.0) stands) in
        let same = entry-same (sequence_entry records s.0) entry (sym s.2.key) (sym s.2.earned) (sym s.2.held_by) in
        Contains-from_member entry _
        (subst (λ e. Member e (sequence_answer records least None)) same
        (Member-answer least (sequence_patterns records) (sequence_entry records s.0) m s.1.earns))
