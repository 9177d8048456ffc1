-- A level of a search over projected rows: its children, and the levels below it.
use Rattle.std.proofs.Common.{◌≡◌, ℕ, ◌<◌, Bool, true, false, cond, nat_lt, ℤ, int_le, ◌≤ℤ◌, T, List, [], ◌∷◌, ◌++◌, length, sym, refl, ap, ◌∙◌, subst, arith}
use Rattle.std.proofs.Common.{append_assoc, Contains, inl, inr, ◌⊎◌}
use Rattle.std.specs.List.{AllByRecursion, filter, flat_map}
use Rattle.std.specs.List.Sorted.{IsPermutation}
use Rattle.std.proofs.lemmas.Bool.{false≢true, ltb-true, lt-ltb}
use Rattle.std.proofs.lemmas.Int.{ints}
use Rattle.std.proofs.lemmas.List.Sorted.{Contains-permutation, IsPermutation-sym}
use Rattle.hu_kind.specs.declared.entry.Entry.{Entry}
use Rattle.hu_kind.specs.Database.{utility, support}
use Rattle.hu_kind.specs.Order.{Ascend}
use Rattle.hu_kind.specs.Record.{items_in}
use Rattle.hu_kind.proofs.lemmas.Ascending.{Ascend-right, Ascend-push}
use Rattle.hu_kind.proofs.lemmas.Each.{each-append, each-right}
use Rattle.hu_kind.proofs.lemmas.Members.{Member, Member-map, Member-from_map, Member-flat_map, Member-from_flat_map, Member-filter, Member-from_filter}
use Rattle.hu_kind.proofs.lemmas.Members.{Member-from_contains, Contains-from_member}
use Rattle.hu_kind.proofs.lemmas.Occurring.{by_members}
use Rattle.hu_totals.specs.Ranked.{Ranking}
use Rattle.hu_collect.specs.State.{State, floor_in}
use Rattle.hu_rows.specs.declared.tally.Tally.{Tally}
use Rattle.hu_rows.specs.Rows.{RowOf, AreRows, count_over}
use Rattle.hu_rows.specs.Tally.{EachRank, tally_at, told, tail_told, most_over, tail_over}
use Rattle.hu_rows.specs.Handed.{reaches, narrowed, handed}
use Rattle.hu_rows.proofs.lemmas.Narrowed.{IsPair, over-narrowed, count-narrowed, each-narrowed, AreRows-narrowed}
use Rattle.hu_rows.proofs.lemmas.Handed.{over-handed, count-handed, each-handed, AreRows-handed}
use Rattle.hu_rows.proofs.lemmas.Bounded.{over-most, over-tail, count-held}
use Rattle.hu_rows.proofs.lemmas.Counted.{AreCounted-narrowed, AreCounted-handed, each-held, count-narrower}
use Rattle.hu_search.specs.declared.child.Child.{Child}
use Rattle.hu_search.specs.Growth.{rank_entry, Grows}
use Rattle.hu_search.specs.Children.{IsChild, AreChildren, ranks_of, Counts, AreEnough, IsBarren, IsBound, AreOpen}
use Rattle.hu_search.proofs.lemmas.Children.{counts-before}
use Rattle.hu_project.specs.Children.{child_with, child_if, bounded, open_if}
use Rattle.hu_project.specs.Level.{IsLater, IsLevel, IsNarrow, AreTold, IsAfter}

-- ---- numbers that reach a floor

pub reach : (floor value : ℤ) → floor ≤ℤ value → int_le floor value ≡ true
reach floor value high = from (int_le floor value) high.le
  where
    from : (b : Bool) → T b → b ≡ true
    from true h = refl
    from false h = elim h [ ]

pub reached : (floor value : ℤ) → int_le floor value ≡ true → floor ≤ℤ value
reached floor value h = record { le = subst T (sym h) tt }

contains-ranks : (child : Child) (children : List Child) → Member child children → Contains (ranks_of children) child.rank
contains-ranks child children m = Contains-from_member child.rank (ranks_of children) (Member-map (λ (c : Child). c.rank) child children m)

firsts : (P Q : ℕ → Type 0) (ranks : List ℕ) → AllByRecursion (λ z. P z × Q z) ranks → AllByRecursion P ranks
firsts P Q [] all = tt
firsts P Q (z ∷ ranks) all = (all.0.0, firsts P Q ranks all.1)

-- one of two facts of each rank
each-first : (P Q : ℕ → Type 0) (rows : List RowOf) → EachRank (λ z. P z × Q z) rows → EachRank P rows
each-first P Q [] all = tt
each-first P Q (row ∷ rows) all = (firsts P Q (items_in row.cells) all.0, each-first P Q rows all.1)

-- ---- the children of a level

module _ {s : State} {r : Ranking} {set : List ℕ} {rows : List RowOf} (level : IsLevel s r set rows) {tallies : List Tally} {met : List ℕ}
    (is : AreTold rows tallies met) where
  from-child : (child : Child) → Member child (flat_map (child_if tallies) met)
      → (0 < count_over rows (child.rank ∷ [])) × (child ≡ child_with child.rank (told rows child.rank))
  from-child child m =
      let from = Member-from_flat_map (child_if tallies) child met m in
      by from.0 (nat_lt 0 (tally_at tallies from.0).count) refl from.2
    where
      by : (rank : ℕ) (b : Bool) → nat_lt 0 (tally_at tallies rank).count ≡ b → Member child (cond b (child_with rank (tally_at tallies rank) ∷ []) [])
          → (0 < count_over rows (child.rank ∷ [])) × (child ≡ child_with child.rank (told rows child.rank))
      by rank true h (inl e) =
          let held : 0 < (tally_at tallies rank).count = ltb-true 0 (tally_at tallies rank).count h in
          let count : (tally_at tallies rank).count ≡ count_over rows (rank ∷ []) = ap (λ (t : Tally). t.count) (is.told rank) in
          let one : child_with rank (told rows rank) ≡ child = ap (child_with rank) (sym (is.told rank)) ∙ e in
          subst (λ (c : Child). (0 < count_over rows (c.rank ∷ [])) × (c ≡ child_with c.rank (told rows c.rank))) one ((omega arith), refl)
      by rank true h (inr none) = absurd none
      by rank false h none = absurd none

  to-child : (rank : ℕ) → 0 < count_over rows (rank ∷ []) → Member (child_with rank (told rows rank)) (flat_map (child_if tallies) met)
  to-child rank held = elim (is.noted.each rank) [
    | inl m ↦
        let count : (tally_at tallies rank).count ≡ count_over rows (rank ∷ []) = ap (λ (t : Tally). t.count) (is.told rank) in
        let yes : nat_lt 0 (tally_at tallies rank).count ≡ true = lt-ltb 0 (tally_at tallies rank).count (omega arith) in
        let one : child_if tallies rank ≡ child_with rank (tally_at tallies rank) ∷ [] =
        ap (λ b. cond b (child_with rank (tally_at tallies rank) ∷ []) []) yes in
        Member-flat_map (child_if tallies) rank (child_with rank (told rows rank)) met (Member-from_contains rank met m)
        (subst (Member (child_with rank (told rows rank))) (sym one) (inl (ap (child_with rank) (is.told rank))))
    | inr none ↦
        let count : count_over rows (rank ∷ []) ≡ 0 = ap (λ (t : Tally). t.count) (sym (is.told rank) ∙ none) in
        absurd (omega arith)
  ]

  pub AreChildren-told : AreChildren r set (flat_map (child_if tallies) met)
  AreChildren-told = by_members (IsChild r set) (flat_map (child_if tallies) met) (λ child m.
      let from = from-child child m in
      let taken = level.met child.rank from.0 in
      let later = level.later child.rank taken in
      let exact = level.exact child.rank [] later.ascending (taken, tt) in
      record {
        ascending = later.ascending;
        in_table = later.in_table;
        occurs = let held = exact.held in let some = from.0 in omega arith;
        utility = ap (λ (c : Child). c.utility) from.1 ∙ exact.earned;
        support = ap (λ (c : Child). c.support) from.1 ∙ exact.held;
      })

  -- a set that counts has ranks that records hold
  held-by : (more : List ℕ) → Ascend (set ++ more) → 0 < support r.records (set ++ more) → AllByRecursion (Contains level.taken) more → (z : ℕ)
      → Member z more → 0 < count_over rows (z ∷ [])
  held-by [] up occurs all z m = absurd m
  held-by (a ∷ more) up occurs all z m =
      let exact = level.exact a more up all in
      count-held rows (a ∷ more) z m (let held = exact.held in omega arith)

  pub enough-children : AreEnough s r set (ranks_of (flat_map (child_if tallies) met))
  enough-children more up occurs counts =
      let all = level.enough more up occurs counts in
      by_members (Contains (ranks_of (flat_map (child_if tallies) met))) more
      (λ z m. contains-ranks (child_with z (told rows z)) (flat_map (child_if tallies) met) (to-child z (held-by more up occurs all z m)))

  -- ---- those whose bound reaches a floor

  module _ (floor : ℤ) where
    reaches-is : (rank : ℕ) → reaches tallies floor rank ≡ int_le floor (most_over rows rank)
    reaches-is rank = ap (λ (t : Tally). int_le floor t.bound) (is.told rank)

    from-kept : (rank : ℕ) → Contains (ranks_of (filter (λ child. int_le floor child.bound) (flat_map (child_if tallies) met))) rank
        → (0 < count_over rows (rank ∷ [])) × (reaches tallies floor rank ≡ true)
    from-kept rank c =
        let one = Member-from_map (λ (child : Child). child.rank) rank (filter (λ child. int_le floor child.bound) (flat_map (child_if tallies) met))
        (Member-from_contains rank (ranks_of (filter (λ child. int_le floor child.bound) (flat_map (child_if tallies) met))) c) in
        let both = Member-from_filter (λ (child : Child). int_le floor child.bound) one.0 (flat_map (child_if tallies) met) one.1 in
        let from = from-child one.0 both.0 in
        let bound : one.0.bound ≡ most_over rows one.0.rank = ap (λ (child : Child). child.bound) from.1 in
        let high : reaches tallies floor one.0.rank ≡ true = reaches-is one.0.rank ∙ ap (int_le floor) (sym bound) ∙ both.1 in
        subst (λ n. (0 < count_over rows (n ∷ [])) × (reaches tallies floor n ≡ true)) one.2 (from.0, high)

    to-kept : (rank : ℕ) → 0 < count_over rows (rank ∷ []) → reaches tallies floor rank ≡ true
        → Contains (ranks_of (filter (λ child. int_le floor child.bound) (flat_map (child_if tallies) met))) rank
    to-kept rank held high =
        contains-ranks (child_with rank (told rows rank)) (filter (λ child. int_le floor child.bound) (flat_map (child_if tallies) met))
        (Member-filter (λ (child : Child). int_le floor child.bound) (child_with rank (told rows rank)) (flat_map (child_if tallies) met) (to-child rank held)
        (sym (reaches-is rank) ∙ high))

    -- whether a child is kept
    pub is-kept : (rank : ℕ) → Contains (ranks_of (flat_map (child_if tallies) met)) rank
        → Contains (ranks_of (filter (λ child. int_le floor child.bound) (flat_map (child_if tallies) met))) rank
        ⊎ (Contains (ranks_of (filter (λ child. int_le floor child.bound) (flat_map (child_if tallies) met))) rank → ⊥)
    is-kept rank c =
        let one = Member-from_map (λ (child : Child). child.rank) rank (flat_map (child_if tallies) met)
        (Member-from_contains rank (ranks_of (flat_map (child_if tallies) met)) c) in
        let held : 0 < count_over rows (rank ∷ []) = subst (λ n. 0 < count_over rows (n ∷ [])) one.2 (from-child one.0 one.1).0 in
        by (reaches tallies floor rank) refl held
      where
        by : (b : Bool) → reaches tallies floor rank ≡ b → 0 < count_over rows (rank ∷ [])
            → Contains (ranks_of (filter (λ child. int_le floor child.bound) (flat_map (child_if tallies) met))) rank
            ⊎ (Contains (ranks_of (filter (λ child. int_le floor child.bound) (flat_map (child_if tallies) met))) rank → ⊥)
        by true h held = inl (to-kept rank held h)
        by false h held = inr (λ k. false≢true (sym h ∙ (from-kept rank k).1))

    module _ {t : State} (after : IsAfter s t) (floor_is : floor ≡ floor_in t) (rules : AreRows rows) where
      pub enough-kept : AreEnough t r set (ranks_of (filter (λ child. int_le floor child.bound) (flat_map (child_if tallies) met)))
      enough-kept [] up occurs counts = tt
      enough-kept (a ∷ more) up occurs counts =
          let all = level.enough (a ∷ more) up occurs (counts-before after.rule after.rises counts) in
          let exact = level.exact a more up all in
          by_members (Contains (ranks_of (filter (λ child. int_le floor child.bound) (flat_map (child_if tallies) met)))) (a ∷ more) (λ z m.
          let bound = over-most rows (a ∷ more) z rules (Ascend-right set (a ∷ more) up) m in
          let earned = exact.earned in
          let high = counts.high in
          to-kept z (held-by (a ∷ more) up occurs all z m) (reaches-is z ∙ reach floor (most_over rows z) (omega (arith, ints, bound, earned, high, floor_is))))

      taken-kept : (more : List ℕ) → AllByRecursion (Contains (ranks_of (filter (λ child. int_le floor child.bound) (flat_map (child_if tallies) met)))) more
          → AllByRecursion (Contains level.taken) more
      taken-kept [] all = tt
      taken-kept (z ∷ more) all = (level.met z (from-kept z all.0).0, taken-kept more all.1)

      reach-kept : (more : List ℕ) → AllByRecursion (Contains (ranks_of (filter (λ child. int_le floor child.bound) (flat_map (child_if tallies) met)))) more
          → AllByRecursion (λ z. reaches tallies floor z ≡ true) more
      reach-kept [] all = tt
      reach-kept (z ∷ more) all = ((from-kept z all.0).1, reach-kept more all.1)

      pub IsNarrow-narrowed : IsNarrow t r set (ranks_of (filter (λ child. int_le floor child.bound) (flat_map (child_if tallies) met)))
          (narrowed (reaches tallies floor) rows)
      IsNarrow-narrowed = record {
        later = λ rank c. level.later rank (level.met rank (from-kept rank c).0);
        exact = λ a b more up all.
            let pair : IsPair (a ∷ b ∷ more) = record { ascending = Ascend-right set (a ∷ b ∷ more) up; two = omega arith } in
            let exact = level.exact a (b ∷ more) up (taken-kept (a ∷ b ∷ more) all) in
            record {
              earned = over-narrowed (reaches tallies floor) (a ∷ b ∷ more) pair (reach-kept (a ∷ b ∷ more) all) rows ∙ exact.earned;
              held = count-narrowed (reaches tallies floor) (a ∷ b ∷ more) pair (reach-kept (a ∷ b ∷ more) all) rows ∙ exact.held;
            };
        met = λ rank held.
            let both = each-held (λ z. (z < length r.items) × (reaches tallies floor z ≡ true)) rank (narrowed (reaches tallies floor) rows)
            (each-narrowed (reaches tallies floor) (λ z. z < length r.items) rows level.below) held in
            to-kept rank (omega (arith, count-narrower (reaches tallies floor) rank rows)) both.1;
        enough = enough-kept;
        rules = AreRows-narrowed (reaches tallies floor) rows rules;
        counted = AreCounted-narrowed (reaches tallies floor) rows level.counted;
        below = each-first (λ z. z < length r.items) (λ z. reaches tallies floor z ≡ true) (narrowed (reaches tallies floor) rows)
            (each-narrowed (reaches tallies floor) (λ z. z < length r.items) rows level.below);
      }

-- ---- what is open of narrowed rows

module _ {s : State} {r : Ranking} {set kept : List ℕ} {rows : List RowOf} (narrow : IsNarrow s r set kept rows) (rules : AreRows rows) where
  -- what grows a rank and counts begins with a kept one, and is within the bound of its tails
  tail-most : (z : ℕ) (entry : Entry) → Grows r (set ++ z ∷ []) entry → Counts s entry → Contains kept z × (entry.utility ≤ℤ tail_over rows z)
  tail-most z entry grows counts = by grows.more grows.some grows.ascending grows.occurs grows.is
    where
      by : (more : List ℕ) → 0 < length more → Ascend ((set ++ z ∷ []) ++ more) → 0 < support r.records ((set ++ z ∷ []) ++ more)
          → entry ≡ rank_entry r ((set ++ z ∷ []) ++ more)
          → Contains kept z × (entry.utility ≤ℤ tail_over rows z)
      by [] some up occurs is = absurd (omega arith)
      by (m ∷ ms) some up occurs is =
          let same : (set ++ z ∷ []) ++ m ∷ ms ≡ set ++ z ∷ m ∷ ms = append_assoc set (z ∷ []) (m ∷ ms) in
          let up' = subst Ascend same up in
          let is' : entry ≡ rank_entry r (set ++ z ∷ m ∷ ms) = is ∙ ap (rank_entry r) same in
          let all = narrow.enough (z ∷ m ∷ ms) up' (subst (λ x. 0 < support r.records x) same occurs) (subst (Counts s) is' counts) in
          let exact = narrow.exact z m ms up' all in
          let earned = exact.earned in
          let worth = ap (λ (e : Entry). e.utility) is' in
          (all.0, omega (arith, ints, over-tail rows z m ms rules (Ascend-right set (z ∷ m ∷ ms) up'), earned, worth))

  module _ (tallies : List Tally) (told_is : (rank : ℕ) → tally_at tallies rank ≡ tail_told rows rank) (floor : ℤ) (floor_is : floor ≡ floor_in s)
      (ranks : List ℕ) (decide : (rank : ℕ) → Contains ranks rank → Contains kept rank ⊎ (Contains kept rank → ⊥))
      (children chosen : List Child) (kept_is : ranks_of children ≡ kept) (same : IsPermutation (flat_map (open_if tallies floor) children) chosen) where
    reaches-tail : (rank : ℕ) → reaches tallies floor rank ≡ int_le floor (tail_over rows rank)
    reaches-tail rank = ap (λ (t : Tally). int_le floor t.bound) (told_is rank)

    -- a child that is open
    pub from-open : (child : Child) → Member child chosen
        → Contains kept child.rank × (child.bound ≡ tail_over rows child.rank) × (reaches tallies floor child.rank ≡ true)
    from-open child m =
        let here = Member-from_contains child (flat_map (open_if tallies floor) children)
        (Contains-permutation chosen (flat_map (open_if tallies floor) children) child
        (IsPermutation-sym (flat_map (open_if tallies floor) children) chosen same) (Contains-from_member child chosen m)) in
        let from = Member-from_flat_map (open_if tallies floor) child children here in
        by from.0 from.1 (int_le floor (tally_at tallies from.0.rank).bound) refl from.2
      where
        by : (child0 : Child) → Member child0 children → (b : Bool) → int_le floor (tally_at tallies child0.rank).bound ≡ b
            → Member child (cond b (bounded child0 (tally_at tallies child0.rank).bound ∷ []) [])
            → Contains kept child.rank × (child.bound ≡ tail_over rows child.rank) × (reaches tallies floor child.rank ≡ true)
        by child0 m0 true h (inl e) =
            subst (λ (c : Child). Contains kept c.rank × (c.bound ≡ tail_over rows c.rank) × (reaches tallies floor c.rank ≡ true)) e
            (subst (λ ns. Contains ns child0.rank) kept_is (contains-ranks child0 children m0), ap (λ (t : Tally). t.bound) (told_is child0.rank), h)
        by child0 m0 true h (inr none) = absurd none
        by child0 m0 false h none = absurd none

    to-open : (rank : ℕ) → Contains kept rank → reaches tallies floor rank ≡ true → Contains (ranks_of chosen) rank
    to-open rank c high =
        let one = Member-from_map (λ (child : Child). child.rank) rank children
        (Member-from_contains rank (ranks_of children) (subst (λ ns. Contains ns rank) (sym kept_is) c)) in
        let high' : int_le floor (tally_at tallies one.0.rank).bound ≡ true = subst (λ n. reaches tallies floor n ≡ true) (sym one.2) high in
        let here : open_if tallies floor one.0 ≡ bounded one.0 (tally_at tallies one.0.rank).bound ∷ [] =
        ap (λ b. cond b (bounded one.0 (tally_at tallies one.0.rank).bound ∷ []) []) high' in
        let new = bounded one.0 (tally_at tallies one.0.rank).bound in
        let m = Member-flat_map (open_if tallies floor) one.0 new children one.1 (subst (Member new) (sym here) (inl refl)) in
        let n = Member-from_contains new chosen (Contains-permutation (flat_map (open_if tallies floor) children) chosen new same
        (Contains-from_member new (flat_map (open_if tallies floor) children) m)) in
        subst (Contains (ranks_of chosen)) one.2 (contains-ranks new chosen n)

    barren-low : (rank : ℕ) → reaches tallies floor rank ≡ false → IsBarren s r (set ++ rank ∷ [])
    barren-low rank low entry grows counts =
        let most = (tail-most rank entry grows counts).1 in
        let high = counts.high in
        let reaching : reaches tallies floor rank ≡ true = reaches-tail rank ∙ reach floor (tail_over rows rank) (omega (arith, ints, most, high, floor_is)) in
        false≢true (sym low ∙ reaching)

    pub AreOpen-chosen : AreOpen s r set ranks chosen
    AreOpen-chosen = record {
      others = λ rank c. elim (decide rank c) [
        | inl k ↦ by rank (reaches tallies floor rank) refl k
        | inr out ↦ inr (λ entry grows counts. out (tail-most rank entry grows counts).0)
      ];
      bounds = by_members (λ (child : Child). IsBound s r (set ++ child.rank ∷ []) child.bound) chosen (λ child m entry grows counts.
          let bound = (from-open child m).1 in
          let most = (tail-most child.rank entry grows counts).1 in
          omega (arith, ints, bound, most));
    }
      where
        by : (rank : ℕ) (b : Bool) → reaches tallies floor rank ≡ b → Contains kept rank → Contains (ranks_of chosen) rank ⊎ IsBarren s r (set ++ rank ∷ [])
        by rank true h k = inl (to-open rank k h)
        by rank false h k = inr (barren-low rank h)

  -- ---- the level of a kept rank

  pub IsLevel-handed : {t : State} (z : ℕ) → Contains kept z → IsAfter s t → IsLevel t r (set ++ z ∷ []) (handed z rows)
  IsLevel-handed {t} z here after = record {
    taken = filter (λ y. nat_lt z y) kept;
    later = λ y c.
        let both = Member-from_filter (λ y. nat_lt z y) y kept (Member-from_contains y (filter (λ y. nat_lt z y) kept) c) in
        let above : z < y = ltb-true z y both.1 in
        let first = narrow.later z here in
        let second = narrow.later y (Contains-from_member y kept both.0) in
        record {
          ascending = subst Ascend (sym (append_assoc set (z ∷ []) (y ∷ []))) (Ascend-push set z y first.ascending above);
          in_table = each-append (λ n. n < length r.items) (set ++ z ∷ []) (y ∷ []) first.in_table
              (each-right (λ n. n < length r.items) set (y ∷ []) second.in_table);
        };
    exact = λ a more up all.
        let same : (set ++ z ∷ []) ++ a ∷ more ≡ set ++ z ∷ a ∷ more = append_assoc set (z ∷ []) (a ∷ more) in
        let up' = subst Ascend same up in
        let above = (Ascend-right set (z ∷ a ∷ more) up').0 in
        let exact = narrow.exact z a more up' (here, kept-all (a ∷ more) all) in
        record {
          earned = over-handed z a more above rows ∙ exact.earned ∙ ap (utility r.records) (sym same);
          held = count-handed z a more above rows ∙ exact.held ∙ ap (support r.records) (sym same);
        };
    met = λ y held.
        let above = (each-held (λ n. (n < length r.items) × (z < n)) y (handed z rows) (each-handed (λ n. n < length r.items) z rows narrow.below) held).1 in
        let both = count-handed z y [] (above, tt) rows in
        let two : 0 < count_over rows (z ∷ y ∷ []) = omega arith in
        Contains-from_member y (filter (λ y. nat_lt z y) kept)
        (Member-filter (λ y. nat_lt z y) y kept (Member-from_contains y kept (narrow.met y (count-held rows (z ∷ y ∷ []) y (inr (inl refl)) two)))
        (lt-ltb z y above));
    enough = λ more up occurs counts.
        let same : (set ++ z ∷ []) ++ more ≡ set ++ z ∷ more = append_assoc set (z ∷ []) more in
        let up' = subst Ascend same up in
        let counts' = counts-before after.rule after.rises counts in
        let all = narrow.enough (z ∷ more) up' (subst (λ x. 0 < support r.records x) same occurs) (subst (λ x. Counts s (rank_entry r x)) same counts') in
        later-all more (Ascend-right set (z ∷ more) up').0 all.1;
    rules = AreRows-handed z rows rules;
    counted = AreCounted-handed z rows narrow.counted;
    below = each-first (λ n. n < length r.items) (λ n. z < n) (handed z rows) (each-handed (λ n. n < length r.items) z rows narrow.below);
  }
    where
      kept-all : (more : List ℕ) → AllByRecursion (Contains (filter (λ y. nat_lt z y) kept)) more → AllByRecursion (Contains kept) more
      kept-all [] all = tt
      kept-all (y ∷ more) all = (
        Contains-from_member y kept (Member-from_filter (λ y. nat_lt z y) y kept (Member-from_contains y (filter (λ y. nat_lt z y) kept) all.0)).0,
        kept-all more all.1,
      )

      later-all : (more : List ℕ) → AllByRecursion (λ y. z < y) more → AllByRecursion (Contains kept) more
          → AllByRecursion (Contains (filter (λ y. nat_lt z y) kept)) more
      later-all [] above all = tt
      later-all (y ∷ more) above all = (
        Contains-from_member y (filter (λ y. nat_lt z y) kept)
            (Member-filter (λ y. nat_lt z y) y kept (Member-from_contains y kept all.0) (lt-ltb z y above.0)),
        later-all more above.1 all.1,
      )

-- ---- fewer than two kept children

short : (xs : List ℕ) (a b : ℕ) → length xs < 2 → Contains xs a → Contains xs b → a < b → ⊥
short [] a b few c d below = Member-from_contains a [] c
short (x ∷ []) a b few c d below = one (Member-from_contains a (x ∷ []) c) (Member-from_contains b (x ∷ []) d)
  where
    one : (x ≡ a) ⊎ ⊥ → (x ≡ b) ⊎ ⊥ → ⊥
    one (inl e) (inl f) = absurd (omega arith)
    one (inl e) (inr none) = none
    one (inr none) m = none
short (x ∷ y ∷ xs) a b few c d below = absurd (omega arith)

module _ {s : State} {r : Ranking} {set : List ℕ} (kept : List ℕ) (later : (rank : ℕ) → Contains kept rank → IsLater r set rank)
    (enough : AreEnough s r set kept) (few : length kept < 2) where
  -- nothing is to be entered
  pub IsNarrow-none : IsNarrow s r set kept []
  IsNarrow-none = record {
    later = later;
    exact = λ a b more up all. absurd (short kept a b few all.0 all.1.0 (Ascend-right set (a ∷ b ∷ more) up).0.0);
    met = λ rank held. absurd (omega arith);
    enough = enough;
    rules = record { ascending = tt; sizes = omega arith; counts = omega arith };
    counted = tt;
    below = tt;
  }

  pub AreOpen-none : (ranks : List ℕ) → AreOpen s r set ranks []
  AreOpen-none ranks = record {
    others = λ rank c. inr (λ entry grows counts. none rank entry counts grows.more grows.some grows.ascending grows.occurs grows.is);
    bounds = tt;
  }
    where
      none : (rank : ℕ) (entry : Entry) → Counts s entry → (more : List ℕ) → 0 < length more → Ascend ((set ++ rank ∷ []) ++ more)
          → 0 < support r.records ((set ++ rank ∷ []) ++ more)
          → entry ≡ rank_entry r ((set ++ rank ∷ []) ++ more) → ⊥
      none rank entry counts [] some up occurs is = absurd (omega arith)
      none rank entry counts (m ∷ ms) some up occurs is =
          let same : (set ++ rank ∷ []) ++ m ∷ ms ≡ set ++ rank ∷ m ∷ ms = append_assoc set (rank ∷ []) (m ∷ ms) in
          let up' = subst Ascend same up in
          let all = enough (rank ∷ m ∷ ms) up' (subst (λ x. 0 < support r.records x) same occurs) (subst (Counts s) (is ∙ ap (rank_entry r) same) counts) in
          short kept rank m few all.0 all.1.0 (Ascend-right set (rank ∷ m ∷ ms) up').0.0
