-- What the answers of a drill earn.
use Rattle.std.proofs.Common.{◌≡◌, ℕ, ◌≤◌, ℤ, pos, ◌≤ℤ◌, true, List, [], ◌∷◌, take, subst, arith, Contains}
use Rattle.std.specs.Prelude.{int_le, unsigned_abs, Some}
use Rattle.std.specs.List.{All, AllByRecursion, sum_by, filter}
use Rattle.std.proofs.lemmas.Int.{ints}
use Rattle.std.proofs.lemmas.List.{length-take}
use Rattle.std.proofs.lemmas.List.Elements.{All-take}
use Rattle.std.proofs.lemmas.List.Sums.{sum_by-le}
use Rattle.std.proofs.lemmas.Map.Views.{All-insert_key}
use Rattle.hu_kind.specs.declared.entry.Entry.{Entry}
use Rattle.hu_kind.specs.Order.{entry_cmp, ranking}
use Rattle.hu_kind.specs.Record.{absolute_of}
use Rattle.hu_kind.specs.Itemsets.{item_entry, item_patterns, closed_patterns, occurring_sets, is_closed}
use Rattle.hu_kind.specs.Sequence.{sequence_patterns, IsSequence}
use Rattle.hu_kind.specs.Answer.{found, answer, item_answer, closed_answer, sequence_answer}
use Rattle.hu_kind.proofs.lemmas.Members.{Member, Contains-from_member, Member-from_contains, Member-map, Member-from_map, Member-from_filter}
use Rattle.hu_kind.proofs.lemmas.Occurring.{by_members}
use Rattle.hu_kind.proofs.lemmas.Earned.{items_earn_within, sequences_earn_within}
use Rattle.hu_drill.specs.Summary.{AreEarned}

-- all entries earn at most what a drill's records sum to
abbrev EarnWithin : List Entry → Type 0
EarnWithin patterns = (e : Entry) → Contains patterns e → unsigned_abs e.utility ≤ 819200000

-- an entry earns at least 1, and no more than that
abbrev IsEarned : Entry → Type 0
IsEarned e = (pos 1 ≤ℤ e.utility) × (unsigned_abs e.utility ≤ 819200000)

found-earned : (least : ℤ) (patterns : List Entry) → pos 1 ≤ℤ least → EarnWithin patterns → AllByRecursion IsEarned (found least patterns)
found-earned least patterns some within = by_members IsEarned (found least patterns) (λ e m.
    let at = Member-from_filter (λ (x : Entry). int_le least x.utility) e patterns m in
    let reaches : int_le least e.utility ≡ true = at.1 in
    let earns : pos 1 ≤ℤ e.utility = grind (arith, ints) in
    (earns, within e (Contains-from_member e patterns at.0)))

ranking-earned : (xs : List Entry) → AllByRecursion IsEarned xs → All IsEarned (ranking entry_cmp xs)
ranking-earned [] all = λ k d below. absurd (omega (arith, below))
ranking-earned (x ∷ xs) all = All-insert_key entry_cmp x IsEarned (ranking entry_cmp xs) (ranking-earned xs all.1) all.0

earned : (k : ℕ) (least : ℤ) (patterns : List Entry) → k ≤ 100 → pos 1 ≤ℤ least → EarnWithin patterns → AreEarned (answer least (Some k) patterns)
earned k least patterns few some within =
    let ranked = ranking entry_cmp (found least patterns) in
    let all = All-take IsEarned k ranked (ranking-earned (found least patterns) (found-earned least patterns some within)) in
    record {
      least = λ i d below. (all i d below).0;
      sum_fits = omega (
        arith,
        few,
        length-take k ranked,
        sum_by-le (λ (e : Entry). unsigned_abs e.utility) 819200000 (take k ranked) (λ i d below. (all i d below).1),
      );
    }

-- the first itemsets of records
pub items-earned : (records : List (List (ℕ × ℤ))) (k : ℕ) (least : ℤ)
    → sum_by absolute_of records ≤ 819200000 → k ≤ 100 → pos 1 ≤ℤ least → AreEarned (item_answer records least (Some k))
items-earned records k least fit few some = earned k least (item_patterns records) few some (λ e among.
    let most = items_earn_within records e among in
    omega (arith, fit, most))

-- a closed itemset is an itemset
among-items : (records : List (List (ℕ × ℤ))) (e : Entry) → Member e (closed_patterns records) → Member e (item_patterns records)
among-items records e m =
    let at = Member-from_map (item_entry records) e (filter (is_closed records) (occurring_sets records)) m in
    let set = Member-from_filter (is_closed records) at.0 (occurring_sets records) at.1 in
    subst (λ x. Member x (item_patterns records)) at.2 (Member-map (item_entry records) at.0 (occurring_sets records) set.0)

-- the first closed itemsets of records
pub closed-earned : (records : List (List (ℕ × ℤ))) (k : ℕ) (least : ℤ)
    → sum_by absolute_of records ≤ 819200000 → k ≤ 100 → pos 1 ≤ℤ least → AreEarned (closed_answer records least (Some k))
closed-earned records k least fit few some = earned k least (closed_patterns records) few some (λ e among.
    let pattern = Contains-from_member e (item_patterns records) (among-items records e (Member-from_contains e (closed_patterns records) among)) in
    let most = items_earn_within records e pattern in
    omega (arith, fit, most))

-- the first sequences of records
pub sequences-earned : (records : List (List (List (ℕ × ℤ)))) (k : ℕ) (least : ℤ) → AllByRecursion IsSequence records
    → sum_by (sum_by absolute_of) records ≤ 819200000 → k ≤ 100 → pos 1 ≤ℤ least → AreEarned (sequence_answer records least (Some k))
sequences-earned records k least rules fit few some = earned k least (sequence_patterns records) few some (λ e among.
    let most = sequences_earn_within records rules e among in
    omega (arith, fit, most))
