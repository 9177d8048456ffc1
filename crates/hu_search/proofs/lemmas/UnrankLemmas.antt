-- Sets of ranks and the sets of their items.
use Rattle.std.proofs.Common.{◌≡◌, ◌≢◌, ℕ, ◌<◌, ◌≤◌, ◌+◌, Bool, true, false, cond, eqb, ◌&&◌, ◌||◌, ℤ, pos, ◌+ℤ◌, List, [], ◌∷◌, map, length, slice_index, refl}
use Rattle.std.proofs.Common.{sym, ap, ◌∙◌, subst, inl, inr, ◌⊎◌, arith, flat_map, nat_cmp, Ordering, Less, Equal, Greater}
use Rattle.std.specs.List.{AllByRecursion}
use Rattle.std.specs.Ordering.{match_ordering, MatchOrdering}
use Rattle.std.specs.BTreeSet.{insert_key}
use Rattle.std.specs.Cmp.{nat_cmp_is}
use Rattle.std.proofs.lemmas.Bool.{cases_eq, cases_lt, ne_eqb, eq-eqb}
use Rattle.std.proofs.lemmas.Cmp.{ranked, nat_cmp_total}
use Rattle.std.proofs.lemmas.Int.{ints}
use Rattle.std.proofs.lemmas.List.Sums.{sum_by-cons}
use Rattle.std.proofs.lemmas.Map.Lookups.{exact_unsigned}
use Rattle.hu_kind.specs.declared.entry.Entry.{Entry}
use Rattle.hu_kind.specs.Record.{has, holds, value_of, values_of, items_in}
use Rattle.hu_kind.specs.Database.{utility, support}
use Rattle.hu_kind.specs.Itemsets.{occurring_sets, item_entry, item_patterns}
use Rattle.hu_kind.specs.Order.{ranking, Ascend}
use Rattle.hu_kind.proofs.lemmas.Members.{Member, Member-map, Member-from_map, Member-from_flat_map}
use Rattle.hu_kind.proofs.lemmas.Occurring.{at_member, Ascend-ranking, Member-ranking, each-ranking, Occurs, held-members, Occurs-from_member}
use Rattle.hu_kind.proofs.lemmas.Occurring.{Member-from_occurs}
use Rattle.hu_kind.proofs.lemmas.Ascending.{each-in_range}
use Rattle.hu_kind.proofs.lemmas.Each.{each-weaker}
use Rattle.hu_totals.specs.Ranked.{Ranking, IsRanking, unranked, item_at}
use Rattle.hu_totals.proofs.lemmas.SortedLists.{Once, Member-from_ranking, ranking-members}
use Rattle.hu_search.specs.Growth.{rank_entry, Grows, InTable}
use Rattle.hu_search.proofs.lemmas.ItemsAt.{items_at, Once-items_at}

-- ---- putting a list in order changes neither what holds it nor what it earns

module _ (cells : List (ℕ × ℤ)) where
  holds-insert-by : (x y : ℕ) (ys : List ℕ) (o : Ordering) → MatchOrdering o (x < y) (x ≡ y) (y < x)
      → holds (insert_key nat_cmp ys x) cells ≡ (has x cells && holds ys cells)
      → holds (match_ordering o (x ∷ y ∷ ys) (y ∷ ys) (y ∷ insert_key nat_cmp ys x)) cells ≡ (has x cells && (has y cells && holds ys cells))
  holds-insert-by x y ys Less h ih = refl
  holds-insert-by x y ys Equal h ih = twice (has y cells) (holds ys cells) ∙ ap (λ i. has i cells && (has y cells && holds ys cells)) (sym h)
    where
      twice : (a b : Bool) → (a && b) ≡ (a && (a && b))
      twice true b = refl
      twice false b = refl
  holds-insert-by x y ys Greater h ih = ap (λ b. has y cells && b) ih ∙ swap (has y cells) (has x cells) (holds ys cells)
    where
      swap : (a b c : Bool) → (a && (b && c)) ≡ (b && (a && c))
      swap true true c = refl
      swap true false c = refl
      swap false true c = refl
      swap false false c = refl

  holds-insert : (x : ℕ) (xs : List ℕ) → holds (insert_key nat_cmp xs x) cells ≡ (has x cells && holds xs cells)
  holds-insert x [] = refl
  holds-insert x (y ∷ ys) = holds-insert-by x y ys (nat_cmp x y) (ranked x y (nat_cmp x y) refl) (holds-insert x ys)

  holds-ranking : (xs : List ℕ) → holds (ranking nat_cmp xs) cells ≡ holds xs cells
  holds-ranking [] = refl
  holds-ranking (x ∷ xs) = holds-insert x (ranking nat_cmp xs) ∙ ap (λ b. has x cells && b) (holds-ranking xs)

  values_of-insert-by : (x y : ℕ) (ys : List ℕ) (o : Ordering) → MatchOrdering o (x < y) (x ≡ y) (y < x)
      → (Member x (y ∷ ys) → ⊥) → values_of (insert_key nat_cmp ys x) cells ≡ value_of x cells +ℤ values_of ys cells
      → values_of (match_ordering o (x ∷ y ∷ ys) (y ∷ ys) (y ∷ insert_key nat_cmp ys x)) cells ≡ value_of x cells +ℤ values_of (y ∷ ys) cells
  values_of-insert-by x y ys Less h out ih = refl
  values_of-insert-by x y ys Equal h out ih = absurd (out (inl (sym h)))
  values_of-insert-by x y ys Greater h out ih = omega (arith, ints, ih)

  values_of-insert : (x : ℕ) (xs : List ℕ) → (Member x xs → ⊥) → values_of (insert_key nat_cmp xs x) cells ≡ value_of x cells +ℤ values_of xs cells
  values_of-insert x [] out = refl
  values_of-insert x (y ∷ ys) out = values_of-insert-by x y ys (nat_cmp x y) (ranked x y (nat_cmp x y) refl) out (values_of-insert x ys (λ m. out (inr m)))

  values_of-ranking : (xs : List ℕ) → Once xs → values_of (ranking nat_cmp xs) cells ≡ values_of xs cells
  values_of-ranking [] o = refl
  values_of-ranking (x ∷ xs) o =
      values_of-insert x (ranking nat_cmp xs) (λ m. o.0 (Member-from_ranking nat_cmp x xs m)) ∙ ap (λ v. value_of x cells +ℤ v) (values_of-ranking xs o.1)

utility-ranking : (records : List (List (ℕ × ℤ))) (xs : List ℕ) → Once xs → utility records (ranking nat_cmp xs) ≡ utility records xs
utility-ranking [] xs o = refl
utility-ranking (cells ∷ records) xs o = λ j. cond (holds-ranking cells xs j) (values_of-ranking cells xs o j) (pos 0) +ℤ utility-ranking records xs o j

support-ranking : (records : List (List (ℕ × ℤ))) (xs : List ℕ) → support records (ranking nat_cmp xs) ≡ support records xs
support-ranking [] xs = refl
support-ranking (cells ∷ records) xs =
    sum_by-cons (λ c. cond (holds (ranking nat_cmp xs) c) 1 0) cells records
    ∙ (λ j. cond (holds-ranking cells xs j) 1 0 + support-ranking records xs j)
    ∙ sym (sum_by-cons (λ c. cond (holds xs c) 1 0) cells records)

-- ---- items for ranks

module _ (r : Ranking) (rules : IsRanking r) where
  -- cells with items for ranks
  abbrev with_items : List (ℕ × ℤ) → List (ℕ × ℤ)
  with_items cells = map (λ cell. (item_at r.items cell.0, cell.1)) cells

  cases_less : (a b : ℕ) → a ≢ b → (a < b) ⊎ (b < a)
  cases_less a b ne = elim (ltb_cases a b) [ inl l ↦ inl l | inr g ↦ inr (omega (arith, ne, g)) ]
    where
      ltb_cases : (x y : ℕ) → (x < y) ⊎ (y ≤ x)
      ltb_cases x y = cases_lt x y

  same_item : (a b : ℕ) → a < length r.items → b < length r.items → eqb (item_at r.items a) (item_at r.items b) ≡ eqb a b
  same_item a b low high = elim (cases_eq a b) [
    | inl e ↦ eq-eqb (item_at r.items a) (item_at r.items b) (ap (item_at r.items) e) ∙ sym (eq-eqb a b e)
    | inr ne ↦ ne_eqb (item_at r.items a) (item_at r.items b) (apart ne (cases_less a b ne)) ∙ sym (ne_eqb a b ne)
  ]
    where
      apart : a ≢ b → (a < b) ⊎ (b < a) → item_at r.items a ≢ item_at r.items b
      apart ne (inl below) = rules.distinct a b below high
      apart ne (inr above) = λ e. rules.distinct b a above low (sym e)

  has-with_items : (rank : ℕ) (cells : List (ℕ × ℤ)) → rank < length r.items
      → AllByRecursion (λ cell. cell.0 < length r.items) cells → has (item_at r.items rank) (with_items cells)
      ≡ has rank cells
  has-with_items rank [] within all = refl
  has-with_items rank (cell ∷ cells) within all = λ j. same_item rank cell.0 within all.0 j || has-with_items rank cells within all.1 j

  value_of-with_items : (rank : ℕ) (cells : List (ℕ × ℤ)) → rank < length r.items
      → AllByRecursion (λ cell. cell.0 < length r.items) cells → value_of (item_at r.items rank) (with_items cells)
      ≡ value_of rank cells
  value_of-with_items rank [] within all = refl
  value_of-with_items rank (cell ∷ cells) within all = λ j. cond (same_item rank cell.0 within all.0 j) cell.1 (value_of-with_items rank cells within all.1 j)

  holds-with_items : (ranks : List ℕ) (cells : List (ℕ × ℤ)) → InTable r ranks
      → AllByRecursion (λ cell. cell.0 < length r.items) cells → holds (items_at r.items ranks) (with_items cells)
      ≡ holds ranks cells
  holds-with_items [] cells within all = refl
  holds-with_items (x ∷ xs) cells within all = λ j. has-with_items x cells within.0 all j && holds-with_items xs cells within.1 all j

  values_of-with_items : (ranks : List ℕ) (cells : List (ℕ × ℤ)) → InTable r ranks
      → AllByRecursion (λ cell. cell.0 < length r.items) cells → values_of (items_at r.items ranks) (with_items cells)
      ≡ values_of ranks cells
  values_of-with_items [] cells within all = refl
  values_of-with_items (x ∷ xs) cells within all = λ j. value_of-with_items x cells within.0 all j +ℤ values_of-with_items xs cells within.1 all j

  utility-with_items : (ranks : List ℕ) (records : List (List (ℕ × ℤ))) → InTable r ranks
      → AllByRecursion (λ cells. AllByRecursion (λ cell. cell.0 < length r.items) cells) records
      → utility (map (λ cells. map (λ cell. (item_at r.items cell.0, cell.1)) cells) records) (items_at r.items ranks) ≡ utility records ranks
  utility-with_items ranks [] within all = refl
  utility-with_items ranks (cells ∷ records) within all =
      λ j. cond (holds-with_items ranks cells within all.0 j) (values_of-with_items ranks cells within all.0 j) (pos 0)
      +ℤ utility-with_items ranks records within all.1 j

  support-with_items : (ranks : List ℕ) (records : List (List (ℕ × ℤ))) → InTable r ranks
      → AllByRecursion (λ cells. AllByRecursion (λ cell. cell.0 < length r.items) cells) records
      → support (map (λ cells. map (λ cell. (item_at r.items cell.0, cell.1)) cells) records) (items_at r.items ranks) ≡ support records ranks
  support-with_items ranks [] within all = refl
  support-with_items ranks (cells ∷ records) within all =
      sum_by-cons (λ c. cond (holds (items_at r.items ranks) c) 1 0) (with_items cells)
      (map (λ cells. map (λ cell. (item_at r.items cell.0, cell.1)) cells) records)
      ∙ (λ j. cond (holds-with_items ranks cells within all.0 j) 1 0 + support-with_items ranks records within all.1 j)
      ∙ sym (sum_by-cons (λ c. cond (holds ranks c) 1 0) cells records)

  in_range : AllByRecursion (λ cells. AllByRecursion (λ cell. cell.0 < length r.items) cells) r.records
  in_range = each-in_range (length r.items) r.records rules.in_range

  in_cells : (rank : ℕ) (cells : List (ℕ × ℤ)) → AllByRecursion (λ cell. cell.0 < length r.items) cells → Member rank (items_in cells) → rank < length r.items
  in_cells rank [] all m = absurd m
  in_cells rank (cell ∷ cells) all (inl e) = let low = all.0 in omega (arith, e)
  in_cells rank (cell ∷ cells) all (inr m) = in_cells rank cells all.1 m

  -- the ranks of a set that occurs are in the table
  pub InTable-occurs : (ranks : List ℕ) → 0 < support r.records ranks → InTable r ranks
  InTable-occurs ranks some =
      each-weaker (λ rank. Member rank (flat_map items_in r.records)) (λ rank. rank < length r.items) ranks
      (λ rank m.
      let found = Member-from_flat_map items_in rank r.records m in
      in_cells rank found.0 (at_member (λ cells. AllByRecursion (λ cell. cell.0 < length r.items) cells) found.0 r.records in_range found.1) found.2)
      (held-members r.records ranks some)

  -- the items of a set of ranks, ascending
  abbrev pub itemset : List ℕ → List ℕ
  itemset ranks = ranking nat_cmp (items_at r.items ranks)

  utility-itemset : (ranks : List ℕ) → Ascend ranks → InTable r ranks → utility (unranked r) (itemset ranks) ≡ utility r.records ranks
  utility-itemset ranks up within =
      utility-ranking (unranked r) (items_at r.items ranks) (Once-items_at r rules ranks up within)
      ∙ utility-with_items ranks r.records within in_range

  support-itemset : (ranks : List ℕ) → InTable r ranks → support (unranked r) (itemset ranks) ≡ support r.records ranks
  support-itemset ranks within = support-ranking (unranked r) (items_at r.items ranks) ∙ support-with_items ranks r.records within in_range

  rank_entry-items : (ranks : List ℕ) → Ascend ranks → InTable r ranks → rank_entry r ranks ≡ item_entry (unranked r) (itemset ranks)
  rank_entry-items ranks up within =
      λ j. record {
        key = map pos (itemset ranks);
        utility = sym (utility-itemset ranks up within) j;
        support =
            sym (support-itemset ranks within) j;
      }

  -- the entry of a set of ranks that occurs is a pattern
  pub pattern-grows : (entry : Entry) → Grows r [] entry → Member entry (item_patterns (unranked r))
  pattern-grows entry g =
      let within = InTable-occurs g.more g.occurs in
      let held : 0 < support (unranked r) (itemset g.more) = subst (λ n. 0 < n) (sym (support-itemset g.more within)) g.occurs in
      let occurs : Occurs (unranked r) (itemset g.more) = record {
        some = some g.more g.some;
        ascending = Ascend-ranking (items_at r.items g.more);
        held = held;
      } in
      subst (λ e. Member e (item_patterns (unranked r))) (sym (g.is ∙ rank_entry-items g.more g.ascending within))
      (Member-map (item_entry (unranked r)) (itemset g.more) (occurring_sets (unranked r)) (Member-from_occurs (unranked r) (itemset g.more) occurs))
    where
      has_some : (x : ℕ) (xs : List ℕ) → Member x xs → 0 < length xs
      has_some x [] m = absurd m
      has_some x (y ∷ ys) m = omega arith

      some : (ranks : List ℕ) → 0 < length ranks → 0 < length (itemset ranks)
      some [] h = absurd (omega arith)
      some (x ∷ xs) h = has_some (slice_index r.items x) (itemset (x ∷ xs)) (Member-ranking (slice_index r.items x) (items_at r.items (x ∷ xs)) (inl refl))

  -- ---- a set of items has a set of ranks

  Ranked : ℕ → Type 0
  Ranked item = (rank : ℕ) × (rank < length r.items) × (item_at r.items rank ≡ item)

  ranked_cells : (item : ℕ) (cells : List (ℕ × ℤ)) → AllByRecursion (λ cell. cell.0 < length r.items) cells
      → Member item (items_in (with_items cells)) → Ranked item
  unfolding Ranked
  ranked_cells item [] all m = absurd m
  ranked_cells item (cell ∷ cells) all (inl e) = (cell.0, all.0, e)
  ranked_cells item (cell ∷ cells) all (inr m) = ranked_cells item cells all.1 m

  ranked_records : (item : ℕ) (records : List (List (ℕ × ℤ))) → AllByRecursion (λ cells. AllByRecursion (λ cell. cell.0 < length r.items) cells) records
      → Member item (flat_map items_in (map (λ cells. map (λ cell. (item_at r.items cell.0, cell.1)) cells) records)) → Ranked item
  ranked_records item records all m =
      let found = Member-from_flat_map items_in item (map (λ cells. map (λ cell. (item_at r.items cell.0, cell.1)) cells) records) m in
      let cells = Member-from_map (λ (cells : List (ℕ × ℤ)). map (λ cell. (item_at r.items cell.0, cell.1)) cells) found.0 records found.1 in
      ranked_cells item cells.0
      (at_member (λ cs. AllByRecursion (λ cell. cell.0 < length r.items) cs) cells.0 records all cells.1)
      (subst (λ cs. Member item (items_in cs)) (sym cells.2) found.2)

  -- the ranks of a set of items, in its order
  ranks_for : (items : List ℕ) → AllByRecursion Ranked items → (ranks : List ℕ) × InTable r ranks × (items_at r.items ranks ≡ items)
  unfolding Ranked
  ranks_for [] all = ([], tt, refl)
  ranks_for (item ∷ items) all =
      let rest = ranks_for items all.1 in
      (all.0.0 ∷ rest.0, (all.0.1, rest.1), (λ j. all.0.2 j ∷ rest.2 j))

  itemset-ranking : (ranks items : List ℕ) → items_at r.items ranks ≡ items → Ascend items → itemset (ranking nat_cmp ranks) ≡ items
  itemset-ranking ranks items is up =
      ranking-members nat_cmp nat_cmp_total exact_unsigned (items_at r.items (ranking nat_cmp ranks)) items to back ∙ ranking-ascending items up
    where
      to : (z : ℕ) → Member z (items_at r.items (ranking nat_cmp ranks)) → Member z items
      to z m =
          let from = Member-from_map (λ rank. slice_index r.items rank) z (ranking nat_cmp ranks) m in
          subst (Member z) is (subst (λ w. Member w (items_at r.items ranks)) from.2
          (Member-map (λ rank. slice_index r.items rank) from.0 ranks
          (Member-from_ranking nat_cmp from.0 ranks from.1)))

      back : (z : ℕ) → Member z items → Member z (items_at r.items (ranking nat_cmp ranks))
      back z m =
          let from = Member-from_map (λ rank. slice_index r.items rank) z ranks (subst (Member z) (sym is) m) in
          subst (λ w. Member w (items_at r.items (ranking nat_cmp ranks))) from.2
          (Member-map (λ rank. slice_index r.items rank) from.0 (ranking nat_cmp ranks)
          (Member-ranking from.0 ranks from.1))

      insert-least : (x : ℕ) (xs : List ℕ) → AllByRecursion (λ y. x < y) xs → insert_key nat_cmp xs x ≡ x ∷ xs
      insert-least x [] all = refl
      insert-least x (y ∷ ys) all = let less : nat_cmp x y ≡ Less = sym (nat_cmp_is x y Less all.0) in rw less refl

      ranking-ascending : (xs : List ℕ) → Ascend xs → ranking nat_cmp xs ≡ xs
      ranking-ascending [] rise = refl
      ranking-ascending (x ∷ xs) rise = ap (λ s. insert_key nat_cmp s x) (ranking-ascending xs rise.1) ∙ insert-least x xs rise.0

  -- a pattern is the entry of a set of ranks that occurs
  pub grows-pattern : (entry : Entry) → Member entry (item_patterns (unranked r)) → Grows r [] entry
  grows-pattern entry m =
      let from = Member-from_map (item_entry (unranked r)) entry (occurring_sets (unranked r)) m in
      let items = from.0 in
      let occurs = Occurs-from_member (unranked r) items from.1 in
      let ranked_all =
      each-weaker (λ item. Member item (flat_map items_in (unranked r))) Ranked items
      (λ item held. ranked_records item r.records in_range held) (held-members (unranked r) items occurs.held) in
      let found = ranks_for items ranked_all in
      let ranks = ranking nat_cmp found.0 in
      let within : InTable r ranks = each-ranking (λ rank. rank < length r.items) found.0 found.1 in
      let is : itemset ranks ≡ items = itemset-ranking found.0 items found.2 occurs.ascending in
      let up = Ascend-ranking found.0 in
      record {
        more = ranks;
        some = some ranks (subst (λ xs. 0 < length xs) (sym is) occurs.some);
        ascending = up;
        occurs = subst (λ n. 0 < n) (ap (support (unranked r)) (sym is) ∙ support-itemset ranks within) occurs.held;
        is = sym from.2 ∙ ap (item_entry (unranked r)) (sym is) ∙ sym (rank_entry-items ranks up within);
      }
    where
      some : (ranks : List ℕ) → 0 < length (itemset ranks) → 0 < length ranks
      some [] h = absurd (omega arith)
      some (x ∷ xs) h = omega arith
