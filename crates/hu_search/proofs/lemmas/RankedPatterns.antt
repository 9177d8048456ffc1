-- The patterns of ranked records and those of their database make the same of a state.
use Rattle.std.proofs.Common.{◌≡◌, ℕ, ℤ, true, ◌≤ℤ◌, int_le, List, arith, Contains}
use Rattle.std.proofs.lemmas.Int.{ints}
use Rattle.hu_kind.specs.declared.entry.Entry.{Entry}
use Rattle.hu_kind.specs.Itemsets.{item_patterns}
use Rattle.hu_kind.specs.Answer.{found}
use Rattle.hu_kind.proofs.lemmas.Members.{Contains-from_member, Member-filter, Member-from_contains, Member-from_filter}
use Rattle.hu_collect.specs.State.{State, offered, floor_in, IsInOrder}
use Rattle.hu_collect.proofs.lemmas.Searching.{offered-reaching}
use Rattle.hu_totals.specs.Ranked.{Ranking, unranked}
use Rattle.hu_totals.specs.Laws.{KeepsPatterns}

-- an entry that reaches the least utility is found among those of which it is one
found-member : (least : ℤ) (entries : List Entry) (x : Entry) → least ≤ℤ x.utility → Contains entries x → Contains (found least entries) x
found-member least entries x reaches among =
    let enough : int_le least x.utility ≡ true = grind (arith, ints) in
    Contains-from_member x (found least entries) (Member-filter (λ (e : Entry). int_le least e.utility) x entries (Member-from_contains x entries among) enough)

-- what is found is one of the entries
member-found : (least : ℤ) (entries : List Entry) (x : Entry) → Contains (found least entries) x → Contains entries x
member-found least entries x among =
    Contains-from_member x entries (Member-from_filter (λ (e : Entry). int_le least e.utility) x entries (Member-from_contains x (found least entries) among)).0

pub offered-ranked : (s : State) (records : List (List (ℕ × ℤ))) (r : Ranking) → IsInOrder s → KeepsPatterns records r
    → r.floor ≤ℤ floor_in s → offered s (item_patterns (unranked r)) ≡ offered s (item_patterns records)
offered-ranked s records r ordered keeps low =
    offered-reaching s (item_patterns (unranked r)) (item_patterns records) ordered
    (λ x passing reaches.
    let same = keeps (floor_in s) low x in (
      λ among. member-found (floor_in s) (item_patterns records) x (same.0 (found-member (floor_in s) (item_patterns (unranked r)) x reaches among)),
      λ among. member-found (floor_in s) (item_patterns (unranked r)) x (same.1 (found-member (floor_in s) (item_patterns records) x reaches among)),
    ))
