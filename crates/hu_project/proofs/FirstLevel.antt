-- The first level of a search: all ranked records, and all ranks.
use Rattle.std.proofs.Common.{◌≡◌, ℕ, zero, suc, ◌+◌, ◌<◌, List, [], ◌∷◌, length, arith, Contains, inl, inr}
use Rattle.std.specs.List.{range_with_len}
use Rattle.hu_kind.specs.Database.{utility, support}
use Rattle.hu_kind.proofs.lemmas.Ascending.{Member-range}
use Rattle.hu_kind.proofs.lemmas.Each.{each-weaker}
use Rattle.hu_kind.proofs.lemmas.Members.{Member, Member-from_contains, Contains-from_member}
use Rattle.hu_totals.specs.Ranked.{Ranking, IsRanking}
use Rattle.hu_collect.specs.State.{State}
use Rattle.hu_rows.specs.Rows.{RowOf, AreRows, AreCounted, over, count_over}
use Rattle.hu_rows.specs.Tally.{AreBelow}
use Rattle.hu_rows.proofs.lemmas.Counted.{each-held}
use Rattle.hu_search.proofs.lemmas.UnrankLemmas.{InTable-occurs}
use Rattle.hu_project.specs.Level.{IsLevel}

range-low : (a n k : ℕ) → Member k (range_with_len a n) → k < a + n
range-low a zero k m = absurd m
range-low a (suc n) k (inl e) = omega arith
range-low a (suc n) k (inr m) = let ih = range-low (a + 1) n k m in omega arith

pub IsLevel-first : (s : State) (r : Ranking) (rows : List RowOf) → IsRanking r → ((set : List ℕ) → over rows set ≡ utility r.records set)
    → ((set : List ℕ) → count_over rows set ≡ support r.records set)
    → AreRows rows → AreCounted rows → AreBelow (length r.items) rows → IsLevel s r [] rows
IsLevel-first s r rows ranking earned held rules counted below = record {
  taken = range_with_len 0 (length r.items);
  later = λ rank c. record {
    ascending = (tt, tt);
    in_table =
        (let low = range-low 0 (length r.items) rank (Member-from_contains rank (range_with_len 0 (length r.items)) c) in omega arith, tt);
  };
  exact = λ a more up all. record { earned = earned (a ∷ more); held = held (a ∷ more) };
  met = λ rank some. let low = each-held (λ n. n < length r.items) rank rows below some in all rank low;
  enough = λ more up occurs counts. each-weaker (λ rank. rank < length r.items) (Contains (range_with_len 0 (length r.items))) more (λ rank low. all rank low)
      (InTable-occurs r ranking more occurs);
  rules = rules;
  counted = counted;
  below = below;
}
  where
    all : (rank : ℕ) → rank < length r.items → Contains (range_with_len 0 (length r.items)) rank
    all rank low = Contains-from_member rank (range_with_len 0 (length r.items)) (Member-range 0 (length r.items) rank (omega arith) (omega arith))
