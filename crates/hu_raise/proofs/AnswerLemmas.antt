-- The first k itemsets by a floor that k single items reach.
use Rattle.std.proofs.Common.{◌≡◌, ◌≢◌, ◌↔◌, ℕ, ◌<◌, ◌≤◌, Bool, true, false, ℤ, unsigned_abs, ◌≤ℤ◌, int_le, Some, List, [], ◌∷◌, ◌++◌, map, filter, length}
use Rattle.std.proofs.Common.{take, refl, sym, ap, ◌∙◌, subst, inl, inr, arith, flat_map, Contains, Ordering, Less, Equal, Greater}
use Rattle.std.specs.Int.Signed.{≤ℤ_refl}
use Rattle.std.specs.Ordering.{eq_by_cmp, is_eq}
use Rattle.std.specs.List.{AllByRecursion, IsDistinct}
use Rattle.std.proofs.lemmas.Int.{ints, clamps}
use Rattle.std.proofs.lemmas.Cmp.{eq_by_cmp_equiv}
use Rattle.std.proofs.lemmas.List.{length-take, length-map}
use Rattle.std.proofs.lemmas.Map.Made.{length-le_from_is_member}
use Rattle.std.proofs.lemmas.Map.Views.{list_any-from_Contains, Contains-from_any}
use Rattle.hu_kind.specs.declared.entry.Entry.{Entry}
use Rattle.hu_kind.specs.Order.{entry_cmp, entry_cmp_total, ranking}
use Rattle.hu_kind.specs.Record.{holds, items_in}
use Rattle.hu_kind.specs.Database.{utility}
use Rattle.hu_kind.specs.Itemsets.{item_entry, item_patterns, occurring_sets}
use Rattle.hu_kind.specs.Answer.{found}
use Rattle.hu_kind.proofs.lemmas.Members.{Member, Contains-from_member, Member-from_contains, Member-map, Member-from_map, Member-filter, Member-from_filter}
use Rattle.hu_kind.proofs.lemmas.Members.{Member-append_right, Member-append_cases, Member-from_flat_map, filter-all}
use Rattle.hu_kind.proofs.lemmas.Occurring.{at_member, by_members, count-member, Member-from_occurs, has-from_member}
use Rattle.hu_kind.proofs.lemmas.EntryOrder.{entry_exact}
use Rattle.hu_kind.proofs.lemmas.Each.{each-take}
use Rattle.hu_totals.specs.Totals.{first_seen}
use Rattle.hu_totals.proofs.lemmas.AddingLemmas.{Once-first_seen, Member-from_first_seen}
use Rattle.hu_totals.proofs.lemmas.SortedLists.{Once, Member-from_ranking, Member-to_ranking}
use Rattle.hu_collect.specs.Rule.{Rule, rule_of, passes, made, last_utility, floor_of}
use Rattle.hu_collect.proofs.lemmas.Floor.{floor_by-full}
use Rattle.hu_collect.proofs.lemmas.Made.{makes_in_turn, makes_by_members, makes_by_reaching, kept-made}
use Rattle.hu_raise.proofs.NumberLists.{Once-filter}

-- ---- single items as entries

abbrev single : List (List (ℕ × ℤ)) → ℕ → Entry
single records item = item_entry records (item ∷ [])

abbrev same_entry : Entry → Entry → Bool
same_entry a b = eq_by_cmp entry_cmp a b

same_entry-is : (a b : Entry) → same_entry a b ≡ true → a ≡ b
same_entry-is a b h = by (entry_cmp a b) refl h
  where
    by : (o : Ordering) → entry_cmp a b ≡ o → is_eq o ≡ true → a ≡ b
    by Less e h = cc
    by Equal e h = entry_exact a b e
    by Greater e h = cc

first_number : List ℤ → ℕ
first_number [] = 0
first_number (x ∷ xs) = unsigned_abs x

single-apart : (records : List (List (ℕ × ℤ))) (x y : ℕ) → x ≢ y → same_entry (single records x) (single records y) ≡ false
unfolding first_number
single-apart records x y other = by (same_entry (single records x) (single records y)) refl
  where
    by : (b : Bool) → same_entry (single records x) (single records y) ≡ b → b ≡ false
    by false e = refl
    by true e = absurd (other (ap (λ (one : Entry). first_number one.key) (same_entry-is (single records x) (single records y) e)))

-- ---- items that reach a floor

abbrev pub reaching : List (List (ℕ × ℤ)) → ℤ → List ℕ → List ℕ
reaching records floor items = filter (λ item. int_le floor (utility records (item ∷ []))) items

distinct-singles : (records : List (List (ℕ × ℤ))) (items : List ℕ) → Once items → IsDistinct same_entry (map (single records) items)
unfolding IsDistinct
distinct-singles records [] o = tt
distinct-singles records (x ∷ xs) o = (apart xs o.0, distinct-singles records xs o.1)
  where
    apart : (ys : List ℕ) → (Member x ys → ⊥) → AllByRecursion (λ e. same_entry (single records x) e ≡ false) (map (single records) ys)
    apart [] out = tt
    apart (y ∷ ys) out = (single-apart records x y (λ e. out (inl (sym e))), apart ys (λ m. out (inr m)))

-- an item that occurs is a pattern
occurs-single : (records : List (List (ℕ × ℤ))) (item : ℕ) → Member item (flat_map items_in records) → Member (item ∷ []) (occurring_sets records)
occurs-single records item m =
    let at = Member-from_flat_map items_in item records m in
    let here : holds (item ∷ []) at.0 ≡ true = rw (has-from_member item at.0 at.2) refl in
    Member-from_occurs records (item ∷ []) (record { some = omega arith; ascending = (tt, tt); held = count-member (holds (item ∷ [])) at.0 records at.1 here })

module _ (records : List (List (ℕ × ℤ))) (floor : ℤ) where
  abbrev pub items : List ℕ
  items = reaching records floor (first_seen (flat_map items_in records))

  abbrev high : List Entry
  high = found floor (item_patterns records)

  singles-high : (e : Entry) → Member e (map (single records) items) → Member e high
  singles-high e m =
      let of_item = Member-from_map (single records) e items m in
      let x = of_item.0 in
      let reached = Member-from_filter (λ item. int_le floor (utility records (item ∷ []))) x (first_seen (flat_map items_in records)) of_item.1 in
      let occurring = occurs-single records x (Member-from_first_seen x (flat_map items_in records) reached.0) in
      subst (λ z. Member z high) of_item.2
      (Member-filter (λ (z : Entry). int_le floor z.utility) (item_entry records (x ∷ [])) (item_patterns records)
      (Member-map (item_entry records) (x ∷ []) (occurring_sets records) occurring) reached.1)

  -- as many patterns reach the floor as single items
  pub many : length items ≤ length (ranking entry_cmp high)
  many =
      let xs = map (single records) items in
      let ys = ranking entry_cmp high in
      let equiv = eq_by_cmp_equiv entry_cmp_total in
      let more =
      length-le_from_is_member equiv xs ys (distinct-singles records items
      (Once-filter (λ item. int_le floor (utility records (item ∷ []))) (first_seen (flat_map items_in records))
      (Once-first_seen (flat_map items_in records))))
      (λ q h.
      let m = singles-high q (Member-from_contains q xs (Contains-from_any same_entry-is q xs h)) in
      list_any-from_Contains equiv q ys (Contains-from_member q ys (Member-to_ranking entry_cmp entry_exact q high m))) in
      omega (arith, length-map items (single records))

last-reaches : (floor : ℤ) (d : ℤ) (xs : List Entry) → 0 < length xs → AllByRecursion (λ x. floor ≤ℤ x.utility) xs → floor ≤ℤ last_utility d xs
last-reaches floor d [] some all = absurd (omega arith)
last-reaches floor d (x ∷ []) some all = all.0
last-reaches floor d (x ∷ y ∷ ys) some all = last-reaches floor x.utility (y ∷ ys) (omega arith) all.1

-- ---- a list and its part that reaches a floor make the same

module _ (k : ℕ) (floor least : ℤ) (patterns : List Entry) (some : 1 ≤ k) (low : least ≤ℤ floor)
    (enough : k ≤ length (ranking entry_cmp (found floor patterns))) where
  rule : Rule
  rule = rule_of least (Some k)

  kept : List Entry
  kept = made rule [] (found floor patterns)

  member-found : (e : Entry) → Member e (found floor patterns) → Member e (found least patterns)
  member-found e m =
      let from = Member-from_filter (λ (z : Entry). int_le floor z.utility) e patterns m in
      let high : floor ≤ℤ e.utility = grind (arith, ints) in
      let reaches : int_le least e.utility ≡ true = grind (arith, ints) in
      Member-filter (λ (z : Entry). int_le least z.utility) e patterns from.0 reaches

  member-high : (e : Entry) → floor ≤ℤ e.utility → Member e (found least patterns) → Member e (found floor patterns)
  member-high e high m =
      let from = Member-from_filter (λ (z : Entry). int_le least z.utility) e patterns m in
      let reaches : int_le floor e.utility ≡ true = grind (arith, ints) in
      Member-filter (λ (z : Entry). int_le floor z.utility) e patterns from.0 reaches

  same_members : (e : Entry) → Contains (found least patterns) e ↔ Contains (found floor patterns ++ found least patterns) e
  same_members e = (
    λ c. Contains-from_member e (found floor patterns ++ found least patterns)
        (Member-append_right e (found floor patterns) (found least patterns)
        (Member-from_contains e (found least patterns) c)),
    λ c. Contains-from_member e (found least patterns) (elim
        (Member-append_cases e (found floor patterns) (found least patterns)
        (Member-from_contains e (found floor patterns ++ found least patterns) c)) [
          | inl m ↦ member-found e m
          | inr m ↦ m
        ]),
  )

  twice_members : (e : Entry) → Contains (found floor patterns ++ found floor patterns) e ↔ Contains (found floor patterns) e
  twice_members e = (
    λ c. Contains-from_member e (found floor patterns) (elim
        (Member-append_cases e (found floor patterns) (found floor patterns)
        (Member-from_contains e (found floor patterns ++ found floor patterns) c)) [
          | inl m ↦ m
          | inr m ↦ m
        ]),
    λ c. Contains-from_member e (found floor patterns ++ found floor patterns)
        (Member-append_right e (found floor patterns) (found floor patterns)
        (Member-from_contains e (found floor patterns) c)),
  )

  each-high : AllByRecursion (λ e. floor ≤ℤ e.utility) (found floor patterns)
  each-high = by_members (λ e. floor ≤ℤ e.utility) (found floor patterns)
      (λ e m. let from = Member-from_filter (λ (z : Entry). int_le floor z.utility) e patterns m in let high : floor ≤ℤ e.utility = grind (arith, ints) in high)

  each-pass : (low' : ℤ) → least ≤ℤ low' → AllByRecursion (λ e. passes rule e ≡ true) (found low' patterns)
  unfolding rule
  each-pass low' below = by_members (λ e. passes rule e ≡ true) (found low' patterns)
      (λ e m. let from = Member-from_filter (λ (z : Entry). int_le low' z.utility) e patterns m in let high : low'
      ≤ℤ e.utility = grind (arith, ints) in let reaches : int_le least e.utility ≡ true =
      grind (arith, ints) in reaches)

  -- what is made of nothing and of patterns that reach a floor is the answer
  made-found : (low' : ℤ) → least ≤ℤ low' → made rule [] (found low' patterns) ≡ take k (ranking entry_cmp (found low' patterns))
  unfolding rule
  made-found low' below = ap (λ es. take k (ranking entry_cmp es)) (filter-all (passes rule) (found low' patterns) (each-pass low' below))

  kept-is : kept ≡ take k (ranking entry_cmp (found floor patterns))
  unfolding kept
  kept-is = made-found floor low

  length-kept : k ≤ length kept
  length-kept = omega (arith, ap length kept-is, length-take k (ranking entry_cmp (found floor patterns)))

  kept-high : AllByRecursion (λ e. floor ≤ℤ e.utility) kept
  kept-high =
      let ranked = by_members (λ e. floor ≤ℤ e.utility) (ranking entry_cmp (found floor patterns))
      (λ e m. at_member (λ e. floor ≤ℤ e.utility) e (found floor patterns) each-high (Member-from_ranking entry_cmp e (found floor patterns) m)) in
      subst (AllByRecursion (λ e. floor ≤ℤ e.utility)) (sym kept-is)
      (each-take (λ e. floor ≤ℤ e.utility) k (ranking entry_cmp (found floor patterns)) ranked)

  -- the floor over the first k that reach a floor is no less
  floor-kept : floor ≤ℤ floor_of rule kept
  unfolding rule
  floor-kept =
      let last = last-reaches floor least kept (omega (arith, length-kept)) kept-high in
      let is = floor_by-full k least kept length-kept in
      omega (arith, ints, clamps, is)

  reached_same : (e : Entry) → passes rule e ≡ true → floor_of rule kept ≤ℤ e.utility → Contains (found least patterns) e ↔ Contains (found floor patterns) e
  reached_same e passed reached =
      let high : floor ≤ℤ e.utility = omega (arith, ints, floor-kept) in (
        λ c. Contains-from_member e (found floor patterns) (member-high e high (Member-from_contains e (found least patterns) c)),
        λ c. Contains-from_member e (found least patterns) (member-found e (Member-from_contains e (found floor patterns) c)),
      )

  -- so the first k are the same
  pub first_same : take k (ranking entry_cmp (found floor patterns)) ≡ take k (ranking entry_cmp (found least patterns))
  unfolding kept
  first_same =
      let high = found floor patterns in
      let all = found least patterns in
      sym kept-is
      ∙ sym (makes_by_members rule [] (high ++ high) high twice_members)
      ∙ sym (makes_in_turn rule [] high high)
      ∙ sym (makes_by_reaching rule kept all high (kept-made rule [] high) reached_same)
      ∙ makes_in_turn rule [] high all
      ∙ sym (makes_by_members rule [] all (high ++ all) same_members)
      ∙ made-found least (≤ℤ_refl least)
