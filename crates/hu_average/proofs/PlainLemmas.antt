-- The answer by average out of the itemsets that earn its least average at all.
use Rattle.std.proofs.Common.{◌≡◌, ℕ, zero, suc, ◌<◌, true, ℤ, pos, ◌≤ℤ◌, ◌*ℤ◌, int_le, Option, None, List, [], ◌++◌, length, ap, subst, arith}
use Rattle.std.specs.List.{AllByRecursion, filter}
use Rattle.std.proofs.lemmas.Int.{ints}
use Rattle.std.proofs.lemmas.List.{length-map}
use Rattle.std.proofs.Math.IntN.{*ℤ-zero}
use Rattle.hu_kind.specs.declared.entry.Entry.{Entry}
use Rattle.hu_kind.specs.Order.{entry_cmp, ranking, cut}
use Rattle.hu_kind.specs.Itemsets.{item_entry, occurring_sets, item_patterns}
use Rattle.hu_kind.proofs.lemmas.Members.{Member, Member-from_map, Member-filter, Member-from_filter}
use Rattle.hu_kind.proofs.lemmas.Occurring.{by_members, Occurs-from_member}
use Rattle.hu_collect.specs.Rule.{rule_of, passes}
use Rattle.hu_collect.specs.State.{fresh, offered}
use Rattle.hu_kind.proofs.lemmas.EntryOrder.{entry_order}
use Rattle.hu_answer.proofs.lemmas.Ranked.{Member-ranked, Member-from_ranked}
use Rattle.hu_average.specs.Order.{average_cmp, times-suc}
use Rattle.hu_average.specs.Answer.{reaches, reaching, average_answer}
use Rattle.hu_average.specs.Best.{HasKey}
use Rattle.hu_average.proofs.AverageOrder.{average_order, ranking-same}

-- an itemset's key has a number
pub pattern-key : (records : List (List (ℕ × ℤ))) (e : Entry) → Member e (item_patterns records) → HasKey e
pattern-key records e m =
    let from = Member-from_map (item_entry records) e (occurring_sets records) m in
    let occurs = Occurs-from_member records from.0 from.1 in
    subst HasKey from.2 (let some = occurs.some in omega (arith, length-map from.0 pos, some))

-- what an entry that reaches an average earns is no less
times-least : (least : ℤ) (n : ℕ) → pos 1 ≤ℤ least → pos 0 ≤ℤ (least *ℤ pos n)
times-least least zero h = omega (arith, ints, *ℤ-zero least)
times-least least (suc n) h = let rest = times-least least n h in let next = times-suc least n in omega (arith, ints, rest, next, h)

pub reaches-least : (least : ℤ) (e : Entry) → pos 1 ≤ℤ least → HasKey e → reaches least e ≡ true → least ≤ℤ e.utility
reaches-least least e h key reach = by (length e.key) key reach
  where
    by : (n : ℕ) → 0 < n → int_le (least *ℤ pos n) e.utility ≡ true → least ≤ℤ e.utility
    by zero some k = absurd (omega (arith, some))
    by (suc n) some k =
        let rest = times-least least n h in
        let next = times-suc least n in
        let under : (least *ℤ pos (suc n)) ≤ℤ e.utility = grind (arith, ints) in
        omega (arith, ints, rest, next, under)

-- the content of a collector of all entries from a start that was offered patterns
abbrev pub taken : ℤ → List Entry → List Entry
taken least patterns = (offered (fresh least None) patterns).content

Member-taken : (least : ℤ) (patterns : List Entry) (e : Entry) → Member e patterns → least ≤ℤ e.utility → Member e (taken least patterns)
Member-taken least patterns e m high =
    let pass : passes (rule_of least None) e ≡ true = grind (arith, ints) in
    Member-ranked entry_cmp entry_order e (filter (passes (rule_of least None)) patterns) (Member-filter (passes (rule_of least None)) e patterns m pass)

Member-from_taken : (least : ℤ) (patterns : List Entry) (e : Entry) → Member e (taken least patterns) → Member e patterns
Member-from_taken least patterns e m =
    (Member-from_filter (passes (rule_of least None)) e patterns (Member-from_ranked entry_cmp e (filter (passes (rule_of least None)) patterns) m)).0

pub taken-keys : (least : ℤ) (records : List (List (ℕ × ℤ))) → AllByRecursion HasKey (taken least (item_patterns records))
taken-keys least records = by_members HasKey (taken least (item_patterns records))
    (λ e m. pattern-key records e (Member-from_taken least (item_patterns records) e m))

pub taken-answer : (least : ℤ) (top : Option ℕ) (records : List (List (ℕ × ℤ))) → pos 1 ≤ℤ least
    → cut top (ranking average_cmp ([] ++ reaching least (taken least (item_patterns records)))) ≡ average_answer records least top
taken-answer least top records h =
    let patterns = item_patterns records in
    ap (cut top) (ranking-same average_cmp average_order (reaching least (taken least patterns)) (reaching least patterns)
    (λ e m. let from = Member-from_filter (reaches least) e (taken least patterns) m in
    Member-filter (reaches least) e patterns (Member-from_taken least patterns e from.0) from.1)
    (λ e m. let from = Member-from_filter (reaches least) e patterns m in
    Member-filter (reaches least) e (taken least patterns)
    (Member-taken least patterns e from.0 (reaches-least least e h (pattern-key records e from.0) from.1)) from.1))
