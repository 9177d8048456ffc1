-- Keys of ranked items, and what grows out of them.
use Rattle.std.proofs.Common.{◌≡◌, ◌∙◌, ℕ, zero, suc, ◌+◌, ◌<◌, ◌≤◌, ℤ, pos, true, false, not, ◌||◌, eqb, Some, List, [], ◌∷◌, ◌++◌, map, length, get_or, take}
use Rattle.std.proofs.Common.{refl, sym, ap, subst, inl, inr, nat_lt, arith, filter, flat_map, int_le, nat_cmp}
use Rattle.std.specs.List.{AllAdjacentBelow, AllByRecursion, list_any}
use Rattle.std.specs.Ordering.{int_eq}
use Rattle.std.proofs.lemmas.Bool.{and_from, and_parts, cases_Bool, cases_order, eqb-false, eqb-true, lt-ltb, false_from_ne_true, not-true, not_from_false}
use Rattle.std.proofs.lemmas.Bool.{not_from_true, or_left, or_right, true≢false}
use Rattle.std.proofs.lemmas.Bool.Decides.{Decides-int_eq}
use Rattle.std.proofs.lemmas.List.{get_or_default}
use Rattle.std.proofs.lemmas.Map.Keys.{apart_from_distinct}
use Rattle.hu_kind.specs.Order.{ranking}
use Rattle.hu_kind.specs.Record.{has, items_in, IsRecord}
use Rattle.hu_kind.specs.Database.{items_of, twu}
use Rattle.hu_kind.proofs.lemmas.Members.{Contains-from_member, Member, Member-append_cases, Member-append_left, Member-append_right, Member-from_contains}
use Rattle.hu_kind.proofs.lemmas.Members.{Member-from_filter, Member-from_flat_map, Member-from_map, Member-map}
use Rattle.hu_kind.proofs.lemmas.Occurring.{Ascend-ranking, Member-ranking, at_member, by_members}
use Rattle.hu_kind.proofs.lemmas.Tests.{all-at_member, all-by_members, any-member, any-from_member}
use Rattle.hu_collect.specs.Ranks.{CanOpen, IsGrown, IsRankSet, key_of}
use Rattle.hu_totals.specs.declared.weights.RankOrder.{RankOrder}
use Rattle.hu_totals.specs.declared.weights.RankOrder.TheVariants.{Gain}
use Rattle.hu_totals.specs.Ranked.{Ranking, by_order, ranked, ranked_by, ordered_items}
use Rattle.hu_totals.proofs.lemmas.SortedLists.{Member-from_ranking, IsDistinct-from_once}
use Rattle.hu_totals.proofs.lemmas.RankingRules.{All-from_each}
use Rattle.hu_totals.proofs.lemmas.WeightLemmas.{Once-ordered_items}
use Rattle.hu_closed.specs.Keys.{closes_below, holds_key, is_among, is_closed_key, is_outside, is_set_key, stands_with, IsSet}
use Rattle.hu_closed.specs.ClosedOnly.{IsRankingOf}
use Rattle.hu_closed.proofs.lemmas.Closedness.{closes, closes-held, is_closed_key-set, same_item, set_key-items}

-- ---- ranked items occur, and items that occur are in their range

pub ranked-occurs : (order : RankOrder) (floor : ℤ) (records : List (List (ℕ × ℤ))) (item : ℕ)
    → Member item (ordered_items order floor records) → Member item (items_of records)
ranked-occurs order floor records item m =
    (Member-from_filter (λ i. int_le floor (twu records (i ∷ []))) item (items_of records)
    (Member-from_ranking (by_order order records) item (filter (λ i. int_le floor (twu records (i ∷ [])))
    (items_of records)) m)).0

pub occurs-in_range : (records : List (List (ℕ × ℤ))) (item : ℕ) → AllByRecursion IsRecord records → Member item (items_of records) → item ≤ 2147483647
occurs-in_range records item all m =
    let found = Member-from_flat_map items_in item records (Member-from_ranking nat_cmp item (flat_map items_in records) m) in
    let cell = Member-from_map (λ (c : ℕ × ℤ). c.0) item found.0 found.2 in
    let is = at_member IsRecord found.0 records all found.1 in
    let place = Contains-from_member cell.0 found.0 cell.1 in
    let bound = is.itemset.in_range place.0 cell.0 place.1 in
    omega (arith, ap (λ (c : ℕ × ℤ). c.0) place.2, cell.2)

-- ---- sets and ranks that are made of one base

pub IsRankingOf-made : (floor : ℤ) (records sets : List (List (ℕ × ℤ))) (ranking : Ranking) → sets ≡ records → ranking
    ≡ ranked floor records → IsRankingOf sets ranking
IsRankingOf-made floor records sets ranking same value = (Gain, floor, value ∙ ap (ranked floor) (sym same))

pub IsRankingOf-ordered : (order : RankOrder) (floor : ℤ) (records sets : List (List (ℕ × ℤ))) (ranking : Ranking)
    → sets ≡ records → ranking ≡ ranked_by order floor records → IsRankingOf sets ranking
IsRankingOf-ordered order floor records sets ranking same value = (order, floor, value ∙ ap (ranked_by order floor) (sym same))

-- ---- the items of ranks

abbrev pub items_at : List ℕ → List ℕ → List ℕ
items_at table ranks = ranking nat_cmp (map (λ rank. get_or table rank 0) ranks)

pub items_at-member : (table ranks : List ℕ) (item : ℕ) → Member item (items_at table ranks) → (rank : ℕ) × Member rank ranks × (get_or table rank 0 ≡ item)
items_at-member table ranks item m =
    Member-from_map (λ rank. get_or table rank 0) item ranks
    (Member-from_ranking nat_cmp item (map (λ rank. get_or table rank 0) ranks) m)

pub member-items_at : (table ranks : List ℕ) (rank : ℕ) → Member rank ranks → Member (get_or table rank 0) (items_at table ranks)
member-items_at table ranks rank m =
    Member-ranking (get_or table rank 0) (map (λ rank. get_or table rank 0) ranks)
    (Member-map (λ rank. get_or table rank 0) rank ranks m)

table-member : (table : List ℕ) (rank : ℕ) → rank < length table → Member (get_or table rank 0) table
table-member table rank within = Member-from_contains (get_or table rank 0) table (rank, within, get_or_default table rank (get_or table rank 0) 0 within)

in_table-member : (table ranks : List ℕ) (rank : ℕ) → IsRankSet table ranks → Member rank ranks → rank < length table
in_table-member table ranks rank is m =
    let place = Contains-from_member rank ranks m in
    subst (λ r. r < length table) place.2 (is.in_table place.0 rank place.1)

member-some : {A : Type 0} (x : A) (xs : List A) → Member x xs → 0 < length xs
member-some x [] m = absurd m
member-some x (y ∷ ys) m = omega arith

pub IsSet-ranks : (order : RankOrder) (floor : ℤ) (records : List (List (ℕ × ℤ))) (before more : List ℕ) (last : ℕ)
    → AllByRecursion IsRecord records → IsRankSet (ordered_items order floor records) (before ++ last ∷ more)
    → IsSet (items_at (ordered_items order floor records) (before ++ last ∷ more))
IsSet-ranks order floor records before more last all is =
    let table = ordered_items order floor records in
    let ranks = before ++ last ∷ more in
    record {
      some = member-some (get_or table last 0) (items_at table ranks)
          (member-items_at table ranks last (Member-append_right last before (last ∷ more) (inl refl)));
      ascending = Ascend-ranking (map (λ rank. get_or table rank 0) ranks);
      in_range = by_members (λ item. item ≤ 2147483647) (items_at table ranks) (λ item m.
          let from = items_at-member table ranks item m in
          let here = table-member table from.0 (in_table-member table ranks from.0 is from.1) in
          occurs-in_range records item all (subst (λ i. Member i (items_of records)) from.2 (ranked-occurs order floor records (get_or table from.0 0) here)));
    }

-- ---- what grows out of a key

distinct : (order : RankOrder) (floor : ℤ) (records : List (List (ℕ × ℤ))) (i j : ℕ)
    → i < length (ordered_items order floor records) → j < length (ordered_items order floor records)
    → get_or (ordered_items order floor records) i 0 ≡ get_or (ordered_items order floor records) j 0 → i ≡ j
distinct order floor records i j in_i in_j same =
    let table = ordered_items order floor records in
    let apart = IsDistinct-from_once table (Once-ordered_items records order floor) in
    elim (cases_order i j) [
      | inl e ↦ e
      | inr (inl before) ↦ absurd (eqb-false (get_or table i 0) (get_or table j 0) (apart_from_distinct eqb table i j 0 apart before in_j) same)
      | inr (inr after) ↦ absurd (eqb-false (get_or table j 0) (get_or table i 0) (apart_from_distinct eqb table j i 0 apart after in_i) (sym same))
    ]

-- ranks after `last` are not below it
later_ranks : (last : ℕ) (more : List ℕ) (rank : ℕ) → AllAdjacentBelow (λ a b. a < b) (last ∷ more)
    (length (last ∷ more)) → Member rank (last ∷ more) → last ≤ rank
later_ranks last [] rank up (inl e) = omega (arith, e)
later_ranks last [] rank up (inr m) = absurd m
later_ranks last (next ∷ more) rank up (inl e) = omega (arith, e)
later_ranks last (next ∷ more) rank up (inr m) =
    let up' : AllAdjacentBelow (λ (a b : ℕ). a < b) (next ∷ more) (length (next ∷ more)) =
    λ k d within. let e : suc k + 1 ≡ suc (k + 1) =
    omega arith in subst (λ j. get_or (next ∷ more) k d < get_or (last ∷ next ∷ more) j d) e
    (up (suc k) d (omega arith)) in
    let rest = later_ranks next more rank up' m in
    let first : last < next = up 0 0 (omega arith) in
    omega arith

tail_ranks : (before ranks : List ℕ) → AllAdjacentBelow (λ a b. a < b) (before ++ ranks) (length (before ++ ranks))
    → AllAdjacentBelow (λ a b. a < b) ranks (length ranks)
tail_ranks [] ranks up = up
tail_ranks (rank ∷ before) ranks up = tail_ranks before ranks (λ k d within.
    let e : suc k + 1 ≡ suc (k + 1) =
    omega arith in subst (λ j. get_or (before ++ ranks) k d < get_or (rank ∷ before ++ ranks) j d) e
    (up (suc k) d (omega arith)))

-- a number of a key is an item of its ranks
key-member : (items : List ℕ) (c : ℕ) → list_any (λ n. int_eq n (pos c)) (map pos items) ≡ true → Member c items
key-member items c h =
    let found = any-member (λ n. int_eq n (pos c)) (map pos items) h in
    let item = Member-from_map pos found.0 items found.1 in
    let same : item.0 ≡ c = eqb-true item.0 c (sym (same_item item.0 c) ∙ ap (λ n. int_eq n (pos c)) item.2 ∙ found.2) in
    subst (λ i. Member i items) same item.1

member-key : (items : List ℕ) (c : ℕ) → Member c items → list_any (λ n. int_eq n (pos c)) (map pos items) ≡ true
member-key items c m = any-from_member (λ n. int_eq n (pos c)) (pos c) (map pos items) (Member-map pos c items m) ((Decides-int_eq (pos c) (pos c)).1 refl)

-- an item of a rank below `last` that is outside the key is outside what grows out of it
outside-grown : (order : RankOrder) (floor : ℤ) (records : List (List (ℕ × ℤ))) (before more : List ℕ) (last rank : ℕ)
    → IsRankSet (ordered_items order floor records) (before ++ last ∷ more) → rank < last
    → rank < length (ordered_items order floor records)
    → is_outside (key_of (ordered_items order floor records) (before ++ last ∷ [])) (get_or (ordered_items order floor records) rank 0) ≡ true
    → is_outside (key_of (ordered_items order floor records) (before ++ last ∷ more)) (get_or (ordered_items order floor records) rank 0) ≡ true
outside-grown order floor records before more last rank is low within out =
    let table = ordered_items order floor records in
    let c = get_or table rank 0 in
    not_from_false (list_any (λ n. int_eq n (pos c)) (key_of table (before ++ last ∷ more)))
    (false_from_ne_true (list_any (λ n. int_eq n (pos c)) (key_of table (before ++ last ∷ more))) (λ inside.
    let from = items_at-member table (before ++ last ∷ more) c (key-member (items_at table (before ++ last ∷ more)) c inside) in
    let same : from.0 ≡ rank = distinct order floor records from.0 rank (in_table-member table (before ++ last ∷ more) from.0 is from.1) within from.2 in
    elim (Member-append_cases from.0 before (last ∷ more) from.1) [
      | inl early ↦
          let here = member-items_at table (before ++ last ∷ []) from.0 (Member-append_left from.0 before (last ∷ []) early) in
          let among = member-key (items_at table (before ++ last ∷ [])) c (subst (λ i. Member i (items_at table (before ++ last ∷ []))) from.2 here) in
          true≢false (sym among ∙ not-true (list_any (λ n. int_eq n (pos c)) (key_of table (before ++ last ∷ []))) out)
      | inr late ↦
          let least = later_ranks last more from.0 (tail_ranks before (last ∷ more) is.ascending) late in
          absurd (omega (arith, same))
    ]))

-- what holds the grown key holds the key
grown-holds : (table before more : List ℕ) (last : ℕ) (r : List (ℕ × ℤ))
    → holds_key (key_of table (before ++ last ∷ more)) r ≡ true → holds_key (key_of table (before ++ last ∷ [])) r
    ≡ true
grown-holds table before more last r h = all-by_members (is_among (items_in r)) (key_of table (before ++ last ∷ [])) (λ n m.
    let item = Member-from_map pos n (items_at table (before ++ last ∷ [])) m in
    let rank = items_at-member table (before ++ last ∷ []) item.0 item.1 in
    let in_grown : Member rank.0 (before ++ last ∷ more) = elim (Member-append_cases rank.0 before (last ∷ []) rank.1) [
      | inl early ↦ Member-append_left rank.0 before (last ∷ more) early
      | inr (inl e) ↦ Member-append_right rank.0 before (last ∷ more) (inl e)
      | inr (inr none) ↦ absurd none
    ] in
    let number =
    Member-map pos item.0 (items_at table (before ++ last ∷ more))
    (subst (λ i. Member i (items_at table (before ++ last ∷ more))) rank.2
    (member-items_at table (before ++ last ∷ more) rank.0 in_grown)) in
    all-at_member (is_among (items_in r)) n (key_of table (before ++ last ∷ more)) h (subst (λ n. Member n (key_of table (before ++ last ∷ more))) item.2 number))

take-member : (table : List ℕ) (last c : ℕ) → Member c (take last table) → (rank : ℕ) × (rank < last) × (rank < length table) × (get_or table rank 0 ≡ c)
take-member table zero c m = absurd m
take-member [] (suc last) c m = absurd m
take-member (x ∷ table) (suc last) c (inl e) = (0, omega arith, omega arith, e)
take-member (x ∷ table) (suc last) c (inr m) = let rest = take-member table last c m in (suc rest.0, omega (arith, rest.1), omega (arith, rest.2), rest.3)

-- where an item of a rank below `last` closes the key, it closes all that grows out of it
shuts-grown : (order : RankOrder) (floor : ℤ) (records : List (List (ℕ × ℤ))) (before more : List ℕ) (last : ℕ)
    → AllByRecursion IsRecord records → IsRankSet (ordered_items order floor records) (before ++ last ∷ more)
    → closes_below records (ordered_items order floor records)
    (key_of (ordered_items order floor records) (before ++ last ∷ [])) last ≡ true
    → is_closed_key records (key_of (ordered_items order floor records) (before ++ last ∷ more)) ≡ false
shuts-grown order floor records before more last all is shut =
    let table = ordered_items order floor records in
    let key = key_of table (before ++ last ∷ []) in
    let grown = key_of table (before ++ last ∷ more) in
    let found = any-member (closes records key) (take last table) shut in
    let both = and_parts (is_outside key found.0) (stands_with records key found.0) found.2 in
    let at = take-member table last found.0 found.1 in
    let out =
    subst (λ c. is_outside grown c ≡ true) at.3
    (outside-grown order floor records before more last at.0 is at.1 at.2
    (subst (λ c. is_outside key c ≡ true) (sym at.3) both.0)) in
    let stands = all-by_members (λ r. not (holds_key grown r) || has found.0 r) records (λ r m. elim (cases_Bool (holds_key grown r)) [
      | inl holds ↦ or_right (not (holds_key grown r)) (has found.0 r)
          (closes-held records key found.0 r found.2 m (grown-holds table before more last r holds))
      | inr lacks ↦ or_left (not (holds_key grown r)) (has found.0 r) (not_from_false (holds_key grown r) lacks)
    ]) in
    let occurring = ranked-occurs order floor records found.0 (subst (λ c. Member c table) at.3 (table-member table at.0 at.2)) in
    let any =
    any-from_member (closes records grown) found.0 (items_of records) occurring
    (and_from (is_outside grown found.0) (stands_with records grown found.0) out stands) in
    is_closed_key-set records grown (set_key-items (items_at table (before ++ last ∷ more)) (IsSet-ranks order floor records before more last all is))
    ∙ not_from_true (list_any (closes records grown) (items_of records)) any

pub shuts : (records : List (List (ℕ × ℤ))) (ranking : Ranking) (key : List ℤ) (last : ℕ) → AllByRecursion IsRecord records → IsRankingOf records ranking
    → closes_below records ranking.items key last ≡ true → (grown : List ℤ) → IsGrown (Some ranking.items) key last grown → is_closed_key records grown ≡ false
shuts records ranking key last all base shut grown g =
    let table = ordered_items base.0 base.1 records in
    let same : ranking.items ≡ table = ap (λ (r : Ranking). r.items) base.2 in
    let is = subst (λ t. IsRankSet t (g.0 ++ last ∷ g.1)) same g.2 in
    let key_is : key ≡ key_of table (g.0 ++ last ∷ []) = g.3 ∙ ap (λ t. key_of t (g.0 ++ last ∷ [])) same in
    let grown_is : grown ≡ key_of table (g.0 ++ last ∷ g.1) = g.4 ∙ ap (λ t. key_of t (g.0 ++ last ∷ g.1)) same in
    ap (is_closed_key records) grown_is
    ∙ shuts-grown base.0 base.1 records g.0 g.1 last all is (sym (λ j. closes_below records (same j) (key_is j) last) ∙ shut)

pub set_key-open : (records : List (List (ℕ × ℤ))) (ranking : Ranking) (key : List ℤ) (last : ℕ)
    → AllByRecursion IsRecord records → IsRankingOf records ranking → CanOpen (Some ranking.items) key last
    → is_set_key key ≡ true
set_key-open records ranking key last all base open' =
    let table = ordered_items base.0 base.1 records in
    let same : ranking.items ≡ table = ap (λ (r : Ranking). r.items) base.2 in
    let is = subst (λ t. IsRankSet t (open'.0 ++ last ∷ [])) same open'.1 in
    ap is_set_key (open'.2 ∙ ap (λ t. key_of t (open'.0 ++ last ∷ [])) same)
    ∙ set_key-items (items_at table (open'.0 ++ last ∷ [])) (IsSet-ranks base.0 base.1 records open'.0 [] last all is)

pub last-within : (table : List ℕ) (key : List ℤ) (last : ℕ) → CanOpen (Some table) key last → last < length table
last-within table key last open' = in_table-member table (open'.0 ++ last ∷ []) last open'.1 (Member-append_right last open'.0 (last ∷ []) (inl refl))

-- ---- keys of few ranks

pair-ranks : (table : List ℕ) (first last : ℕ) → first < last → last < length table → IsRankSet table (first ∷ last ∷ [])
pair-ranks table first last order within = record {
  ascending = λ k d low. let one : k ≡ 0 = omega arith in subst (λ j. get_or (first ∷ last ∷ []) j d < get_or (first ∷ last ∷ []) (j + 1) d) (sym one) order;
  in_table = All-from_each (λ rank. rank < length table) (first ∷ last ∷ []) (omega arith, (within, tt));
}

-- two ranks whose items ascend
pub CanOpen-pair : (table : List ℕ) (first last low high : ℕ) (key : List ℤ) → first < last → last < length table
    → get_or table first 0 ≡ low → get_or table last 0 ≡ high → low < high → key ≡ pos low ∷ pos high ∷ []
    → CanOpen (Some table) key last
CanOpen-pair table first last low high key order within is_low is_high rises is =
    let less : nat_lt low high ≡ true = lt-ltb low high rises in
    let sorted : ranking nat_cmp (low ∷ high ∷ []) ≡ low ∷ high ∷ [] = rw less refl in
    (first ∷ [], pair-ranks table first last order within, is ∙ sym (ap (map pos) ((λ j. ranking nat_cmp (is_low j ∷ is_high j ∷ [])) ∙ sorted)))
