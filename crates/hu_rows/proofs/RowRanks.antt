-- The ranks of rows are those of ranked records.
use Rattle.std.proofs.Common.{ℕ, ℤ, ◌<◌, List, [], ◌∷◌, map, length, Contains, All, inl, inr, refl}
use Rattle.std.specs.List.{AllByRecursion}
use Rattle.hu_kind.proofs.lemmas.Each.{each-from_all}
use Rattle.hu_kind.proofs.lemmas.Members.{Member, Member-from_contains, Contains-from_member, Member-flat_map, Member-from_flat_map}
use Rattle.hu_kind.proofs.lemmas.Occurring.{at_member, by_members}
use Rattle.hu_totals.specs.Ranked.{Ranking, IsRanking}
use Rattle.hu_totals.proofs.lemmas.DenseLemmas.{each-rank}
use Rattle.hu_rows.specs.Rows.{RowOf, ranks_of, ranks_in, unmerged}
use Rattle.hu_rows.specs.Tally.{AreBelow}

pub AreBelow-ranks : (n : ℕ) (rows : List RowOf) → ((rank : ℕ) → Contains (ranks_in rows) rank → rank < n) → AreBelow n rows
AreBelow-ranks n rows low =
    by_members (λ row. AllByRecursion (λ rank. rank < n) (ranks_of row)) rows
    (λ row m. by_members (λ rank. rank < n) (ranks_of row)
    (λ rank k. low rank (Contains-from_member rank (ranks_in rows) (Member-flat_map ranks_of row rank rows m k))))

each-record : (n : ℕ) (records : List (List (ℕ × ℤ))) → ((cells : List (ℕ × ℤ)) → Member cells records → AllByRecursion (λ cell. cell.0 < n) cells)
    → AreBelow n (map unmerged records)
each-record n [] all = tt
each-record n (r ∷ rs) all = (each-rank n r (all r (inl refl)), each-record n rs (λ cells m. all cells (inr m)))

pub AreBelow-unmerged : (r : Ranking) → IsRanking r → (rank : ℕ) → Contains (ranks_in (map unmerged r.records)) rank → rank < length r.items
AreBelow-unmerged r rules rank c =
    let n = length r.items in
    let each = each-from_all (λ cells. All (λ cell. cell.0 < n) cells) r.records rules.in_range in
    let below = each-record n r.records
    (λ cells m. each-from_all (λ cell. cell.0 < n) cells (at_member (λ cells. All (λ (cell : ℕ × ℤ). cell.0 < n) cells) cells r.records each m)) in
    let from = Member-from_flat_map ranks_of rank (map unmerged r.records) (Member-from_contains rank (ranks_in (map unmerged r.records)) c) in
    at_member (λ rank. rank < n) rank (ranks_of from.0)
    (at_member (λ row. AllByRecursion (λ rank. rank < n) (ranks_of row)) from.0 (map unmerged r.records) below from.1) from.2
