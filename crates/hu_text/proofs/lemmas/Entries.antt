-- The entries of an answer have numbers that are small enough to be read again.
use Rattle.std.proofs.Common.{ℕ, ◌<◌, ◌≤◌, ◌^◌, nat_lt, ℤ, pos, negsuc, Option, None, Some, List, [], ◌∷◌, ◌++◌, length, map, subst, inl, inr}
use Rattle.std.proofs.Common.{arith, filter, flat_map, is_some}
use Rattle.std.specs.List.{AllByRecursion}
use Rattle.std.proofs.lemmas.List.Sums.{count_by-le-length}
use Rattle.hu_kind.specs.declared.entry.Entry.{Entry}
use Rattle.hu_kind.specs.Answer.{answer, found}
use Rattle.hu_kind.specs.Itemsets.{sublists, occurring_sets, item_entry, item_patterns, closed_patterns, is_closed}
use Rattle.hu_kind.specs.Order.{entry_cmp, ranking, cut}
use Rattle.hu_kind.specs.Record.{holds, items_in, IsItemset, IsRecord}
use Rattle.hu_kind.specs.Sequence.{best_utility, led_by, sequence_entry, sequence_key, sequence_patterns, sequence_support, subsequences, IsSequence}
use Rattle.hu_kind.proofs.lemmas.Each.{each-from_all, each-weaker, each-append}
use Rattle.hu_kind.proofs.lemmas.Earned.{utility-within, sequences_earn_within}
use Rattle.hu_kind.proofs.lemmas.Members.{Member, Contains-from_member, Member-from_map, Member-from_flat_map, Member-from_filter, Member-from_take}
use Rattle.hu_kind.proofs.lemmas.Occurring.{at_member, by_members, each-sublist, held-members, Occurs-from_member}
use Rattle.hu_answer.proofs.lemmas.Answers.{Member-from_answer}
use Rattle.hu_text.specs.Records.{AreRecords}
use Rattle.hu_text.specs.Told.{IsReadable, IsSmall}
use Rattle.hu_text.specs.Laws.{ItemAnswerIsReadable, ClosedAnswerIsReadable, SequenceAnswerIsReadable}

-- ---- items are in range

abbrev InRange : ℕ → Type 0
InRange item = item ≤ 2147483647

items-in_range : (cells : List (ℕ × ℤ)) → AllByRecursion (λ cell. cell.0 ≤ 2147483647) cells → AllByRecursion InRange (items_in cells)
items-in_range [] all = tt
items-in_range (c ∷ cs) all = (all.0, items-in_range cs all.1)

itemset-in_range : (cells : List (ℕ × ℤ)) → IsItemset cells → AllByRecursion InRange (items_in cells)
itemset-in_range cells is = items-in_range cells (each-from_all (λ cell. cell.0 ≤ 2147483647) cells is.in_range)

occurring-in_range : (records : List (List (ℕ × ℤ))) (item : ℕ) → AllByRecursion IsRecord records → Member item (flat_map items_in records) → InRange item
occurring-in_range records item rules m =
    let from = Member-from_flat_map items_in item records m in
    let lawful = at_member IsRecord from.0 records rules from.1 in
    at_member InRange item (items_in from.0) (itemset-in_range from.0 lawful.itemset) from.2

small-items : (items : List ℕ) → AllByRecursion InRange items → AllByRecursion IsSmall (map pos items)
small-items [] all = tt
small-items (i ∷ is) all = (omega (arith, all.0), small-items is all.1)

-- ---- what stands in an answer is a pattern

Member-from_cut : {A : Type 0} (x : A) (top : Option ℕ) (xs : List A) → Member x (cut top xs) → Member x xs
Member-from_cut x None xs m = m
Member-from_cut x (Some k) xs m = Member-from_take x k xs m

each-answered : (P : Entry → Type 0) (least : ℤ) (top : Option ℕ) (patterns : List Entry) → ((e : Entry) → Member e patterns → P e)
    → AllByRecursion P (answer least top patterns)
each-answered P least top patterns each =
    by_members P (answer least top patterns)
    (λ e m. each e (Member-from_answer least patterns e (Member-from_cut e top (ranking entry_cmp (found least patterns)) m)).0)

-- ---- itemsets

set-readable : (records : List (List (ℕ × ℤ))) (items : List ℕ) → AreRecords records → length records < 2 ^ 64
    → Member items (occurring_sets records) → IsReadable (item_entry records items)
set-readable records items are few m =
    let occurs = Occurs-from_member records items m in
    let known = held-members records items occurs.held in
    let range = each-weaker (λ item. Member item (flat_map items_in records)) InRange items (λ item. occurring-in_range records item are.lawful) known in
    record {
      key = small-items items range;
      utility = omega (arith, utility-within records items occurs.ascending, are.sum_fits);
      support = omega (arith, count_by-le-length (holds items) records, few);
    }

pub item_answer_is_readable : ItemAnswerIsReadable
item_answer_is_readable records least top are few = each-answered IsReadable least top (item_patterns records) each
  where
    each : (e : Entry) → Member e (item_patterns records) → IsReadable e
    each e m =
        let from = Member-from_map (item_entry records) e (occurring_sets records) m in
        subst IsReadable from.2 (set-readable records from.0 are few from.1)

pub closed_answer_is_readable : ClosedAnswerIsReadable
closed_answer_is_readable records least top are few = each-answered IsReadable least top (closed_patterns records) each
  where
    each : (e : Entry) → Member e (closed_patterns records) → IsReadable e
    each e m =
        let from = Member-from_map (item_entry records) e (filter (is_closed records) (occurring_sets records)) m in
        let set = Member-from_filter (is_closed records) from.0 (occurring_sets records) from.1 in
        subst IsReadable from.2 (set-readable records from.0 are few set.0)

-- ---- sequences

led_by-in_range : (s : List ℕ) (pattern : List (List ℕ)) → AllByRecursion InRange s → AllByRecursion (AllByRecursion InRange) pattern
    → AllByRecursion (AllByRecursion InRange) (led_by s pattern)
led_by-in_range [] pattern range rest = rest
led_by-in_range (i ∷ is) pattern range rest = (range, rest)

subsequence-in_range : (elements : List (List (ℕ × ℤ))) (pattern : List (List ℕ)) → AllByRecursion IsItemset elements → Member pattern (subsequences elements)
    → AllByRecursion (AllByRecursion InRange) pattern
subsequence-in_range [] pattern rules (inl e) = subst (AllByRecursion (AllByRecursion InRange)) e tt
subsequence-in_range [] pattern rules (inr m) = absurd m
subsequence-in_range (e ∷ es) pattern rules m =
    let first = Member-from_flat_map (λ s. map (led_by s) (subsequences es)) pattern (sublists (items_in e)) m in
    let rest = Member-from_map (led_by first.0) pattern (subsequences es) first.2 in
    let range = each-sublist InRange (items_in e) first.0 (itemset-in_range e rules.0) first.1 in
    subst (AllByRecursion (AllByRecursion InRange)) rest.2
    (led_by-in_range first.0 rest.0 range (subsequence-in_range es rest.0 rules.1 rest.1))

small-key : (pattern : List (List ℕ)) → AllByRecursion (AllByRecursion InRange) pattern → AllByRecursion IsSmall (sequence_key pattern)
small-key [] all = tt
small-key (p ∷ ps) all =
    each-append IsSmall (map pos p ++ negsuc 0 ∷ []) (sequence_key ps)
    (each-append IsSmall (map pos p) (negsuc 0 ∷ []) (small-items p all.0) (omega arith, tt))
    (small-key ps all.1)

pub sequence_answer_is_readable : SequenceAnswerIsReadable
sequence_answer_is_readable records least top are few = each-answered IsReadable least top (sequence_patterns records) each
  where
    each : (e : Entry) → Member e (sequence_patterns records) → IsReadable e
    each e m =
        let from = Member-from_flat_map (λ r. map (sequence_entry records) (filter (λ p. nat_lt 0 (length p)) (subsequences r))) e records m in
        let one = Member-from_map (sequence_entry records) e (filter (λ p. nat_lt 0 (length p)) (subsequences from.0)) from.2 in
        let part = Member-from_filter (λ (p : List (List ℕ)). nat_lt 0 (length p)) one.0 (subsequences from.0) one.1 in
        let lawful = at_member IsSequence from.0 records are.lawful from.1 in
        let range = subsequence-in_range from.0 one.0 lawful.itemsets part.0 in
        let earned = sequences_earn_within records are.lawful e (Contains-from_member e (sequence_patterns records) m) in
        let small : sequence_support records one.0 < 2 ^ 127 = omega (arith, count_by-le-length (λ r. is_some (best_utility one.0 r)) records, few) in
        record {
          key = subst (λ (entry : Entry). AllByRecursion IsSmall entry.key) one.2 (small-key one.0 range);
          utility = omega (arith, earned, are.sum_fits);
          support = subst (λ (entry : Entry). entry.support < 2 ^ 127) one.2 small;
        }
