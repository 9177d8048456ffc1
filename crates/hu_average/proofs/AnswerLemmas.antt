-- What stands in an answer by average.
use Rattle.std.proofs.Common.{◌≡◌, ℕ, ℤ, pos, ◌*ℤ◌, ◌≤ℤ◌, None, List, length, ap, ◌∙◌, arith}
use Rattle.std.specs.List.{Contains}
use Rattle.std.specs.List.Sorted.{IsPermutation}
use Rattle.std.proofs.lemmas.Float.{T_from_true}
use Rattle.std.proofs.lemmas.Int.{ints}
use Rattle.std.proofs.lemmas.List.{length-map}
use Rattle.std.proofs.lemmas.List.Sorted.{IsPermutation-sym}
use Rattle.hu_kind.specs.declared.entry.Entry.{Entry}
use Rattle.hu_kind.specs.Itemsets.{item_patterns}
use Rattle.hu_kind.specs.Order.{cut}
use Rattle.hu_kind.proofs.lemmas.RankingLemmas.{ranking-same_members}
use Rattle.hu_answer.specs.Entries.{IsEntryOf, IsFoundSet}
use Rattle.hu_answer.proofs.lemmas.Answers.{is_pattern, true_from_T}
use Rattle.hu_answer.proofs.lemmas.AnyOrder.{patterns-again}
use Rattle.hu_answer.proofs.lemmas.Picks.{picked, picks-again, ranking_ascends}
use Rattle.hu_average.specs.Order.{average_cmp}
use Rattle.hu_average.specs.Answer.{average_answer, reaches, reaching}
use Rattle.hu_average.specs.Laws.{IsAverageAnswer, AveragesAscend, AveragesInAnyOrder}
use Rattle.hu_average.proofs.AverageOrder.{average_order}

pub is_average_answer : IsAverageAnswer
is_average_answer records least entry = (there, back)
  where
    -- a minimum for each number of the key is one for each item of its set
    same-size : (items : List ℕ) → IsEntryOf records items entry → (least *ℤ pos (length entry.key)) ≡ (least *ℤ pos (length items))
    same-size items is = ap (λ n. least *ℤ pos n) (ap length is.key ∙ length-map items pos)

    there : Contains (average_answer records least None) entry
        → (items : List ℕ) × IsFoundSet records (least *ℤ pos (length items)) items × IsEntryOf records items entry
    there c =
        let pick = (picked average_cmp average_order (reaches least) (item_patterns records) entry).0 c in
        let s = (is_pattern records entry).0 pick.0 in
        let high : (least *ℤ pos (length entry.key)) ≤ℤ entry.utility = record { le = T_from_true _ pick.1 } in
        let same = same-size s.0 s.2 in
        let earned = s.2.earned in (
          s.0,
          record { some = s.1.some; ascending = s.1.ascending; held = s.1.held; earns = omega (arith, ints, high, same, earned) },
          s.2,
        )

    back : (items : List ℕ) × IsFoundSet records (least *ℤ pos (length items)) items × IsEntryOf records items entry
        → Contains (average_answer records least None) entry
    back s =
        let earned = s.2.earned in
        let same = same-size s.0 s.2 in
        let earns = s.1.earns in
        let held : IsFoundSet records entry.utility s.0 =
        record { some = s.1.some; ascending = s.1.ascending; held = s.1.held; earns = omega (arith, ints, earned) } in
        let high : (least *ℤ pos (length entry.key)) ≤ℤ entry.utility = omega (arith, ints, earns, same, earned) in
        (picked average_cmp average_order (reaches least) (item_patterns records) entry).1
        ((is_pattern records entry).1 (s.0, held, s.2), true_from_T (reaches least entry) high.le)

pub averages_ascend : AveragesAscend
averages_ascend records least top = ranking_ascends average_cmp average_order top (reaching least (item_patterns records))

pub averages_in_any_order : AveragesInAnyOrder
averages_in_any_order first second least top h =
    ap (cut top)
    (ranking-same_members average_cmp average_order (reaching least (item_patterns first)) (reaching least (item_patterns second))
    (λ e. (again first second h e, again second first (IsPermutation-sym first second h) e)))
  where
    again : (one other : List (List (ℕ × ℤ))) → IsPermutation one other → (e : Entry)
        → Contains (reaching least (item_patterns one)) e → Contains (reaching least (item_patterns other)) e
    again one other moved = picks-again (reaches least) (item_patterns one) (item_patterns other) (patterns-again one other moved)
