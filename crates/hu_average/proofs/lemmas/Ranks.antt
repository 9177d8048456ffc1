-- The answer by average of ranked records.
use Rattle.std.proofs.Common.{◌≡◌, ℕ, true, ℤ, pos, ◌≤ℤ◌, int_le, Option, List, ap, arith}
use Rattle.std.specs.List.{Contains}
use Rattle.std.proofs.lemmas.Int.{ints}
use Rattle.hu_kind.specs.declared.entry.Entry.{Entry}
use Rattle.hu_kind.specs.Answer.{found}
use Rattle.hu_kind.specs.Order.{cut}
use Rattle.hu_kind.specs.Itemsets.{item_patterns}
use Rattle.hu_kind.proofs.lemmas.Members.{Member, Member-filter, Member-from_filter, Member-from_contains, Contains-from_member}
use Rattle.hu_totals.specs.Ranked.{Ranking, unranked}
use Rattle.hu_totals.specs.Laws.{KeepsPatterns}
use Rattle.hu_average.specs.Order.{average_cmp}
use Rattle.hu_average.specs.Answer.{reaches, reaching, average_answer}
use Rattle.hu_average.proofs.AverageOrder.{average_order, ranking-same}
use Rattle.hu_average.proofs.PlainLemmas.{pattern-key, reaches-least}

-- an entry of one database that reaches an average is one of another where the same entries reach the utility
same-reaching : (least : ℤ) (records others : List (List (ℕ × ℤ))) (e : Entry) → pos 1 ≤ℤ least
    → (Contains (found least (item_patterns records)) e → Contains (found least (item_patterns others)) e)
    → Member e (reaching least (item_patterns records)) → Member e (reaching least (item_patterns others))
same-reaching least records others e h same m =
    let test : Entry → _ = λ (entry : Entry). int_le least entry.utility in
    let from = Member-from_filter (reaches least) e (item_patterns records) m in
    let high = reaches-least least e h (pattern-key records e from.0) from.1 in
    let enough : int_le least e.utility ≡ true = grind (arith, ints) in
    let among = Contains-from_member e (found least (item_patterns records)) (Member-filter test e (item_patterns records) from.0 enough) in
    let other = Member-from_filter test e (item_patterns others) (Member-from_contains e (found least (item_patterns others)) (same among)) in
    Member-filter (reaches least) e (item_patterns others) other.0 from.1

-- ranked records that keep the patterns have the answer of their database
pub average-ranked : (records : List (List (ℕ × ℤ))) (r : Ranking) (least : ℤ) (top : Option ℕ) → pos 1 ≤ℤ least → KeepsPatterns records r
    → r.floor ≤ℤ least → average_answer (unranked r) least top ≡ average_answer records least top
average-ranked records r least top h keeps low =
    ap (cut top) (ranking-same average_cmp average_order (reaching least (item_patterns (unranked r))) (reaching least (item_patterns records))
    (λ e. same-reaching least (unranked r) records e h (keeps least low e).0)
    (λ e. same-reaching least records (unranked r) e h (keeps least low e).1))
