-- The children that are chosen of kept ones, and the places that hand rows to them.
use Rattle.std.proofs.Common.{◌≡◌, ℕ, zero, suc, ◌<◌, Bool, true, false, cond, ℤ, pos, int_le, ◌≤ℤ◌, List, [], ◌∷◌, length, get_or, map, sym, refl}
use Rattle.std.proofs.Common.{ap, ◌∙◌, subst, arith, Contains, inl, inr, ◌⊎◌}
use Rattle.std.specs.List.{AllByRecursion, flat_map}
use Rattle.std.specs.List.Sorted.{IsPermutation}
use Rattle.std.proofs.lemmas.Int.{ints}
use Rattle.std.proofs.lemmas.List.{get_or-map, length-map}
use Rattle.std.proofs.lemmas.List.Sorted.{Contains-permutation, IsPermutation-sym}
use Rattle.hu_kind.proofs.lemmas.Members.{Member, Member-map, Member-from_map, Member-flat_map, Member-from_flat_map, Member-from_contains}
use Rattle.hu_kind.proofs.lemmas.Members.{Contains-from_member}
use Rattle.hu_kind.proofs.lemmas.Occurring.{at_member, by_members}
use Rattle.hu_rows.specs.declared.tally.Tally.{Tally}
use Rattle.hu_rows.specs.declared.places.Place.{Place}
use Rattle.hu_rows.specs.Rows.{RowOf, AreCounted, count_over}
use Rattle.hu_rows.specs.Tally.{AreNoted, tally_at, tail_told}
use Rattle.hu_rows.specs.Handed.{reaches, row_at, handed, handed_if, places_at, ArePlaces}
use Rattle.hu_rows.proofs.lemmas.Counted.{tail-held}
use Rattle.hu_search.specs.declared.child.Child.{Child}
use Rattle.hu_search.specs.Children.{ranks_of}
use Rattle.hu_project.specs.Children.{bounded, open_if}
use Rattle.hu_project.specs.Level.{AreHanded}
use Rattle.hu_project.proofs.LevelLemmas.{reached}

-- tallies of tails are noted where ranks that are held are
pub AreNoted-tails : (rows : List RowOf) (tails : List Tally) (met : List ℕ) → AreCounted rows → AllByRecursion (λ rank. rank < length tails) met
    → ((rank : ℕ) → tally_at tails rank ≡ tail_told rows rank)
    → ((rank : ℕ) → 0 < count_over rows (rank ∷ []) → Contains met rank) → AreNoted tails met
AreNoted-tails rows tails met counted below is held = record {
  below = below;
  each = λ rank. elim (tail-held rank rows counted) [ inl none ↦ inr (is rank ∙ none) | inr some ↦ inl (held rank some) ];
}

module _ (tails : List Tally) (floor : ℤ) (kept chosen : List Child) (same : IsPermutation (flat_map (open_if tails floor) kept) chosen) where
  from-chosen : (child : Child) → Member child chosen → (old : Child) × Member old kept × (old.rank ≡ child.rank) × (reaches tails floor child.rank ≡ true)
  from-chosen child m =
      let here = Member-from_contains child (flat_map (open_if tails floor) kept)
      (Contains-permutation chosen (flat_map (open_if tails floor) kept) child (IsPermutation-sym (flat_map (open_if tails floor) kept) chosen same)
      (Contains-from_member child chosen m)) in
      let from = Member-from_flat_map (open_if tails floor) child kept here in
      by from.0 from.1 (int_le floor (tally_at tails from.0.rank).bound) refl from.2
    where
      by : (old : Child) → Member old kept → (b : Bool) → int_le floor (tally_at tails old.rank).bound ≡ b
          → Member child (cond b (bounded old (tally_at tails old.rank).bound ∷ []) [])
          → (old : Child) × Member old kept × (old.rank ≡ child.rank) × (reaches tails floor child.rank ≡ true)
      by old n true h (inl e) = (old, n, ap (λ (c : Child). c.rank) e, subst (λ (c : Child). reaches tails floor c.rank ≡ true) e h)
      by old n true h (inr none) = absurd none
      by old n false h none = absurd none

  pub below-chosen : (n : ℕ) → AllByRecursion (λ child. child.rank < n) kept → AllByRecursion (λ child. child.rank < n) chosen
  below-chosen n below = by_members (λ (child : Child). child.rank < n) chosen (λ child m.
      let from = from-chosen child m in
      subst (λ k. k < n) from.2 (at_member (λ (c : Child). c.rank < n) from.0 kept below from.1))

  to-chosen : (rank : ℕ) → Contains (ranks_of kept) rank → reaches tails floor rank ≡ true → Contains (ranks_of chosen) rank
  to-chosen rank c high =
      let one = Member-from_map (λ (child : Child). child.rank) rank kept (Member-from_contains rank (ranks_of kept) c) in
      let high' : int_le floor (tally_at tails one.0.rank).bound ≡ true = subst (λ n. reaches tails floor n ≡ true) (sym one.2) high in
      let new = bounded one.0 (tally_at tails one.0.rank).bound in
      let here : open_if tails floor one.0 ≡ new ∷ [] = ap (λ b. cond b (bounded one.0 (tally_at tails one.0.rank).bound ∷ []) []) high' in
      let m = Member-flat_map (open_if tails floor) one.0 new kept one.1 (subst (Member new) (sym here) (inl refl)) in
      let n = Member-from_contains new chosen
      (Contains-permutation (flat_map (open_if tails floor) kept) chosen new same (Contains-from_member new (flat_map (open_if tails floor) kept) m)) in
      subst (Contains (ranks_of chosen)) one.2 (Contains-from_member new.rank (ranks_of chosen) (Member-map (λ (c : Child). c.rank) new chosen n))

  module _ (rows : List RowOf) (counted : AreCounted rows) (told : (rank : ℕ) → tally_at tails rank ≡ tail_told rows rank)
      (lists : List (List Place)) (handed_out : (rank : ℕ) → ArePlaces rows (handed_if (reaches tails floor rank) rank rows) (places_at lists rank)) where
    none-given : (xs : List Place) → map (row_at rows) xs ≡ [] → xs ≡ []
    none-given [] e = refl
    none-given (x ∷ xs) e = cc

    -- only chosen ranks have places
    pub chosen-each : pos 1 ≤ℤ floor → ((rank : ℕ) → 0 < count_over rows (rank ∷ []) → Contains (ranks_of kept) rank) → (rank : ℕ)
        → Contains (ranks_of chosen) rank ⊎ (places_at lists rank ≡ [])
    chosen-each least held rank = by (reaches tails floor rank) refl
      where
        by : (b : Bool) → reaches tails floor rank ≡ b → Contains (ranks_of chosen) rank ⊎ (places_at lists rank ≡ [])
        by true h = elim (tail-held rank rows counted) [
          | inl none ↦
              let zero_bound : (tally_at tails rank).bound ≡ pos 0 = ap (λ (t : Tally). t.bound) (told rank ∙ none) in
              let high = reached floor (tally_at tails rank).bound h in
              absurd (omega (arith, ints, zero_bound, high, least))
          | inr some ↦ inl (to-chosen rank (held rank some) h)
        ]
        by false h = inr (none-given (places_at lists rank) ((handed_out rank).give ∙ ap (λ b. handed_if b rank rows) h))

    pub AreHanded-chosen : (given : List (List Place)) → given ≡ map (λ child. places_at lists child.rank) chosen → AreHanded rows chosen given
    AreHanded-chosen given is = record {
      len = ap length is ∙ length-map chosen (λ (child : Child). places_at lists child.rank);
      each = λ i d within.
          let child = get_or chosen i d in
          let m = member-at chosen i d within in
          let high = (from-chosen child m).3 in
          let at : get_or given i [] ≡ places_at lists child.rank = ap (λ ls. get_or ls i []) is
          ∙ get_or-map (λ (c : Child). places_at lists c.rank) chosen i d [] within in
          subst (ArePlaces rows (handed child.rank rows)) (sym at)
          (subst (λ b. ArePlaces rows (handed_if b child.rank rows) (places_at lists child.rank)) high (handed_out child.rank));
    }
      where
        member-at : (xs : List Child) (i : ℕ) (d : Child) → i < length xs → Member (get_or xs i d) xs
        member-at [] i d within = absurd (omega arith)
        member-at (x ∷ xs) zero d within = inl refl
        member-at (x ∷ xs) (suc i) d within = inr (member-at xs i d (omega arith))
