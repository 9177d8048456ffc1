-- What stands in an answer among itemsets of some lengths.
use Rattle.std.proofs.Common.{◌≡◌, ℕ, ◌≤◌, nat_le, Bool, ℤ, pos, None, List, length, ap, ◌∙◌, arith}
use Rattle.std.specs.Prelude.{int_le}
use Rattle.std.specs.List.{Contains}
use Rattle.std.specs.List.Sorted.{IsPermutation}
use Rattle.std.proofs.lemmas.Bool.{and_parts, and_from, le-leb, leb-true}
use Rattle.std.proofs.lemmas.List.{length-map}
use Rattle.std.proofs.lemmas.List.Sorted.{IsPermutation-sym}
use Rattle.hu_kind.specs.declared.entry.Entry.{Entry}
use Rattle.hu_kind.specs.Answer.{found, item_answer}
use Rattle.hu_kind.specs.Itemsets.{item_patterns}
use Rattle.hu_kind.specs.Order.{entry_cmp, cut}
use Rattle.hu_kind.proofs.lemmas.EntryOrder.{entry_order}
use Rattle.hu_kind.proofs.lemmas.Members.{Contains-from_member, Member-from_contains}
use Rattle.hu_kind.proofs.lemmas.RankingLemmas.{ranking-same_members}
use Rattle.hu_answer.specs.Entries.{IsEntryOf, IsFoundSet}
use Rattle.hu_answer.proofs.lemmas.Answers.{is_item_answer}
use Rattle.hu_answer.proofs.lemmas.AnyOrder.{patterns-again}
use Rattle.hu_answer.proofs.lemmas.Picks.{picked, picks-again, ranking_ascends}
use Rattle.hu_answer.proofs.lemmas.Ranked.{Member-ranked, Member-from_ranked}
use Rattle.hu_lengths.specs.Lengths.{has_length, of_lengths, sized_answer}
use Rattle.hu_lengths.specs.Laws.{IsSizedAnswer, SizedAscends, SizedInAnyOrder}

-- whether an entry's key has such a length
abbrev fits : ℕ → ℕ → Entry → Bool
fits short long entry = has_length short long entry.key

-- an entry's key is as long as its set
length-key : (records : List (List (ℕ × ℤ))) (items : List ℕ) (entry : Entry) → IsEntryOf records items entry → length entry.key ≡ length items
length-key records items entry is = ap length is.key ∙ length-map items pos

pub is_sized_answer : IsSizedAnswer
is_sized_answer records least short long entry = (there, back)
  where
    all : List Entry
    all = found least (item_patterns records)

    there : Contains (sized_answer records least None short long) entry
        → (items : List ℕ) × IsFoundSet records least items × (short ≤ length items) × (length items ≤ long) × IsEntryOf records items entry
    there c =
        let pick = (picked entry_cmp entry_order (fits short long) all entry).0 c in
        let stands = Member-ranked entry_cmp entry_order entry all (Member-from_contains entry all pick.0) in
        let s = (is_item_answer records least entry).0 (Contains-from_member entry (item_answer records least None) stands) in
        let lengths = and_parts (nat_le short (length entry.key)) (nat_le (length entry.key) long) pick.1 in
        let low = leb-true short (length entry.key) lengths.0 in
        let high = leb-true (length entry.key) long lengths.1 in
        let same = length-key records s.0 entry s.2 in
        (s.0, s.1, omega (arith, same, low), omega (arith, same, high), s.2)

    back : (items : List ℕ) × IsFoundSet records least items × (short ≤ length items) × (length items ≤ long) × IsEntryOf records items entry
        → Contains (sized_answer records least None short long) entry
    back s =
        let c = (is_item_answer records least entry).1 (s.0, s.1, s.4) in
        let stands = Member-from_ranked entry_cmp entry all (Member-from_contains entry (item_answer records least None) c) in
        let same = length-key records s.0 entry s.4 in
        let low = le-leb short (length entry.key) (omega (arith, same, s.2)) in
        let high = le-leb (length entry.key) long (omega (arith, same, s.3)) in
        (picked entry_cmp entry_order (fits short long) all entry).1 (Contains-from_member entry all stands, and_from _ _ low high)

pub sized_ascends : SizedAscends
sized_ascends records least top short long =
    ranking_ascends entry_cmp entry_order top (of_lengths short long (found least (item_patterns records)))

pub sized_in_any_order : SizedInAnyOrder
sized_in_any_order first second least top short long h =
    ap (cut top)
    (ranking-same_members entry_cmp entry_order (of_lengths short long (found least (item_patterns first)))
    (of_lengths short long (found least (item_patterns second)))
    (λ e. (again first second h e, again second first (IsPermutation-sym first second h) e)))
  where
    reach : Entry → Bool
    reach entry = int_le least entry.utility

    again : (one other : List (List (ℕ × ℤ))) → IsPermutation one other → (e : Entry)
        → Contains (of_lengths short long (found least (item_patterns one))) e → Contains (of_lengths short long (found least (item_patterns other))) e
    again one other moved =
        picks-again (fits short long) (found least (item_patterns one)) (found least (item_patterns other))
        (picks-again reach (item_patterns one) (item_patterns other) (patterns-again one other moved))
