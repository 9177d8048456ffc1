-- The items of ranks in a table.
use Rattle.std.proofs.Common.{ℕ, ◌<◌, List, [], ◌∷◌, map, length, slice_index, sym}
use Rattle.std.specs.List.{AllByRecursion}
use Rattle.hu_kind.specs.Order.{Ascend}
use Rattle.hu_kind.proofs.lemmas.Members.{Member, Member-from_map}
use Rattle.hu_kind.proofs.lemmas.Occurring.{at_member}
use Rattle.hu_totals.specs.Ranked.{Ranking, IsRanking}
use Rattle.hu_totals.proofs.lemmas.SortedLists.{Once}

-- the items of ranks in a table
abbrev pub items_at : List ℕ → List ℕ → List ℕ
items_at table ranks = map (λ rank. slice_index table rank) ranks

-- the items of ascending ranks stand once
pub Once-items_at : (r : Ranking) → IsRanking r → (ranks : List ℕ) → Ascend ranks
    → AllByRecursion (λ rank. rank < length r.items) ranks → Once (items_at r.items ranks)
Once-items_at r rules [] up within = tt
Once-items_at r rules (x ∷ xs) up within = (out, Once-items_at r rules xs up.1 within.1)
  where
    out : Member (slice_index r.items x) (items_at r.items xs) → ⊥
    out m =
        let from = Member-from_map (λ rank. slice_index r.items rank) (slice_index r.items x) xs m in
        let above : x < from.0 = at_member (λ y. x < y) from.0 xs up.0 from.1 in
        let inside : from.0 < length r.items = at_member (λ y. y < length r.items) from.0 xs within.1 from.1 in
        rules.distinct x from.0 above inside (sym from.2)
