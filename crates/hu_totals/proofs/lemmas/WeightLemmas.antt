-- Items by their weight, and the steps of the loops that gather them.
use Rattle.std.proofs.Common.{◌≡◌, ◌≢◌, ℕ, suc, ◌<◌, ◌≤◌, ◌+◌, ◌^◌, Bool, true, false, cond, eqb, nat_eq, ℤ, pos, int_le, List, [], ◌∷◌, ◌++◌, map, filter}
use Rattle.std.proofs.Common.{length, get_or, take, slice_get, refl, sym, ap, ◌∙◌, subst, inl, inr, arith, flat_map, Ordering, Less, Equal, Greater, nat_cmp}
use Rattle.std.proofs.Common.{append-nil, append_assoc}
use Rattle.std.specs.List.{AllByRecursion, IsDistinct, list_any}
use Rattle.std.specs.List.Sorted.{IsPermutation, IsSorted, IsStrictlySortedBy}
use Rattle.std.specs.Cmp.{IsTotalOrder}
use Rattle.std.specs.Map.{keys_of}
use Rattle.std.specs.Option.{option_to_list}
use Rattle.std.specs.Ordering.{int_cmp, is_lt, match_ordering, ordering_reverse, ordering_then, on}
use Rattle.std.specs.BTreeSet.{insert_key}
use Rattle.std.proofs.lemmas.Bool.{eqb-false, eqb-true, or_cases}
use Rattle.std.proofs.lemmas.Cmp.{then_total, on_total, int_cmp_total, nat_cmp_total, nat_eq_equiv}
use Rattle.std.proofs.lemmas.List.{get_or-map, length-map, map-append, take_more}
use Rattle.std.proofs.lemmas.List.Concat.{flat_map-append}
use Rattle.std.proofs.lemmas.Grind.{fold-append}
use Rattle.std.proofs.lemmas.List.Folds.{list_any-append}
use Rattle.std.proofs.lemmas.List.Sorted.{IsPermutation-map}
use Rattle.std.proofs.lemmas.Map.Keys.{IsDistinct-IsPermutation, apart_from_distinct, sorted_from_all_adjacent}
use Rattle.std.proofs.lemmas.Map.Lookups.{CmpEqualImpliesEq, exact_unsigned, exact_signed}
use Rattle.std.proofs.lemmas.Map.Made.{IsDistinct-keys_filter}
use Rattle.std.proofs.lemmas.Map.Steps.{length-le_from_distinct_below}
use Rattle.std.proofs.lemmas.Option.{slice_get-get_or}
use Rattle.indexmap.specs.IndexSet.{insert_all, insert_key as add_key}
use Rattle.hu_kind.specs.declared.item.Item.{Item}
use Rattle.hu_kind.specs.declared.item.Cell.{Cell}
use Rattle.hu_kind.specs.Cell.{pair_of, pairs_of}
use Rattle.hu_kind.specs.Order.{ranking}
use Rattle.hu_kind.specs.Record.{items_in}
use Rattle.hu_kind.specs.Database.{twu, items_of}
use Rattle.hu_kind.proofs.lemmas.Members.{Member-filter, Member-from_filter}
use Rattle.hu_kind.proofs.lemmas.Occurring.{Member-ranking}
use Rattle.hu_kind.proofs.lemmas.RankingLemmas.{IsExactOrder, ranking-permutation, ranking-sorted}
use Rattle.hu_kind.proofs.lemmas.EntryOrder.{then_equal}
use Rattle.hu_totals.specs.declared.totals.ItemTotal.{ItemTotal}
use Rattle.hu_totals.specs.declared.weights.Weighed.{Weighed}
use Rattle.hu_totals.specs.Totals.{first_seen, total_of, item_totals}
use Rattle.hu_totals.specs.declared.weights.RankOrder.{RankOrder}
use Rattle.hu_totals.specs.Ranked.{by_order, by_twu, ordered_items, smallness_of}
use Rattle.hu_totals.specs.Weights.{Weight, weigh, weight_cmp, weights, by_weight, weight_of, numbers_of, dense_of, dense_cells, same_item}
use Rattle.hu_totals.proofs.lemmas.AddingLemmas.{Once-first_seen, Member-first_seen, Member-from_first_seen}
use Rattle.hu_totals.proofs.lemmas.SortedLists.{Once, IsDistinct-from_once, Once-from_sorted, Member-from_ranking, sorted-ranking, ranking-members}

-- ---- one place more

weights-append : (order : RankOrder) (floor : ℤ) (xs ys : List (ℕ × ItemTotal)) → weights order floor (xs ++ ys)
    ≡ weights order floor xs ++ weights order floor ys
weights-append order floor [] ys = refl
weights-append order floor (x ∷ xs) ys = by (int_le floor x.1.twu) (weights-append order floor xs ys)
  where
    by : (b : Bool) → weights order floor (xs ++ ys) ≡ weights order floor xs ++ weights order floor ys
        → map (weigh order) (cond b (x ∷ filter (λ e. int_le floor e.1.twu) (xs ++ ys)) (filter (λ e. int_le floor e.1.twu) (xs ++ ys)))
        ≡ map (weigh order) (cond b (x ∷ filter (λ e. int_le floor e.1.twu) xs) (filter (λ e. int_le floor e.1.twu) xs)) ++ weights order floor ys
    by true ih = ap (λ ws. weigh order x ∷ ws) ih
    by false ih = ih

pub place_more : {X : Type 0} (xs : List X) (i : ℕ) (d : X) → i < length xs → take (i + 1) xs ≡ take i xs ++ option_to_list (slice_get xs i)
place_more xs i d within = take_more xs i d within ∙ ap (λ one. take i xs ++ option_to_list one) (sym (slice_get-get_or xs i d within))

no_entry : ℕ × ItemTotal
no_entry = (0, record { utility = pos 0; positive = pos 0; support = 0; twu = pos 0 })

pub weights-step : (order : RankOrder) (floor : ℤ) (totals : List (ℕ × ItemTotal)) (i : ℕ) (before after more : List Weight)
    → i < length totals → before ≡ weights order floor (take i totals) → after ≡ before ++ more
    → more ≡ weights order floor (option_to_list (slice_get totals i)) → after ≡ weights order floor (take (i + 1) totals)
weights-step order floor totals i before after more within so_far is one =
    is
    ∙ (λ j. so_far j ++ one j)
    ∙ sym (weights-append order floor (take i totals) (option_to_list (slice_get totals i)))
    ∙ ap (weights order floor) (sym (place_more totals i no_entry within))

pub dense-step : (items : List ℕ) (cells : List Cell) (i : ℕ) (d : Cell) (before after more : List (ℕ × ℤ))
    → i < length cells → before ≡ dense_cells items (pairs_of (take i cells))
    → after ≡ before ++ more → more ≡ dense_of items (pair_of (get_or cells i d)) → after ≡ dense_cells items (pairs_of (take (i + 1) cells))
dense-step items cells i d before after more within so_far is one =
    let last = pair_of (get_or cells i d) in
    is
    ∙ (λ j. so_far j ++ one j)
    ∙ ap (λ dense. dense_cells items (pairs_of (take i cells)) ++ dense) (sym (append-nil (dense_of items last)))
    ∙ sym (flat_map-append (dense_of items) (pairs_of (take i cells)) (last ∷ []))
    ∙ ap (dense_cells items) (sym (map-append pair_of (take i cells) (get_or cells i d ∷ [])) ∙ ap pairs_of (sym (take_more cells i d within)))

-- ---- items put into a set one after another

numbers_apart : (items : List Item) → IsDistinct eqb (numbers_of items) → IsDistinct same_item items
unfolding IsDistinct
numbers_apart [] d = tt
numbers_apart (x ∷ xs) d = (each xs d.0, numbers_apart xs d.1)
  where
    each : (ys : List Item) → AllByRecursion (λ n. eqb x.0 n ≡ false) (numbers_of ys) → AllByRecursion (λ y. same_item x y ≡ false) ys
    each [] all = tt
    each (y ∷ ys) all = (all.0, each ys all.1)

add_all : (done items : List Item) → AllByRecursion (λ item. list_any (same_item item) done ≡ false) items
    → IsDistinct same_item items → insert_all same_item done items ≡ done ++ items
unfolding IsDistinct
add_all done [] fresh d = sym (append-nil done)
add_all done (x ∷ xs) fresh d =
    let first : list_any (same_item x) done ≡ false = fresh.0 in
    let added : add_key same_item done x ≡ done ++ x ∷ [] = rw first refl in
    ap (λ keys. insert_all same_item keys xs) added
    ∙ add_all (done ++ x ∷ []) xs (each xs fresh.1 d.0) d.1
    ∙ append_assoc done (x ∷ []) xs
  where
    each : (ys : List Item) → AllByRecursion (λ item. list_any (same_item item) done ≡ false) ys → AllByRecursion (λ y. same_item x y ≡ false) ys
        → AllByRecursion (λ item. list_any (same_item item) (done ++ x ∷ []) ≡ false) ys
    each [] a b = tt
    each (y ∷ ys) a b =
        let back : same_item y x ≡ false = nat_eq_equiv.symm y.0 x.0 ∙ b.0 in
        let before : list_any (same_item y) done ≡ false = a.0 in
        (list_any-append (same_item y) done (x ∷ []) ∙ simp (before, back), each ys a.1 b.1)

none_fresh : (items : List Item) → AllByRecursion (λ item. list_any (same_item item) [] ≡ false) items
none_fresh [] = tt
none_fresh (x ∷ xs) = (refl, none_fresh xs)

add_all-none : (items : List Item) → IsDistinct eqb (numbers_of items) → insert_all same_item [] items ≡ items
add_all-none items d = add_all [] items (none_fresh items) (numbers_apart items d)

-- one item more
pub add-step : (ws : List Weighed) (i : ℕ) (d : Weighed) (keys keys' : List Item) → i < length ws → keys
    ≡ insert_all same_item [] (map (λ one. one.item) (take i ws))
    → keys' ≡ add_key same_item keys (get_or ws i d).item → keys' ≡ insert_all same_item [] (map (λ one. one.item) (take (i + 1) ws))
add-step ws i d keys keys' within so_far is =
    let item = (get_or ws i d).item in
    is
    ∙ ap (λ ks. add_key same_item ks item) so_far
    ∙ sym (fold-append (add_key same_item) [] (map (λ (one : Weighed). one.item) (take i ws)) (item ∷ []))
    ∙ ap (insert_all same_item []) (sym (map-append (λ (one : Weighed). one.item) (take i ws) (get_or ws i d ∷ []))
    ∙ ap (map (λ (one : Weighed). one.item)) (sym (take_more ws i d within)))

-- ---- weighed items sorted

weight_total : IsTotalOrder weight_cmp
weight_total = then_total (on_total (λ w. w.small) nat_cmp_total) (then_total (on_total (λ w. w.twu) int_cmp_total) (on_total (λ w. w.item) nat_cmp_total))

weights_equal : CmpEqualImpliesEq weight_cmp
weights_equal a b h =
    let first = then_equal (nat_cmp a.small b.small) (ordering_then (int_cmp a.twu b.twu) (nat_cmp a.item b.item)) h in
    let second = then_equal (int_cmp a.twu b.twu) (nat_cmp a.item b.item) first.1 in
    let small = exact_unsigned a.small b.small first.0 in
    let twu = exact_signed a.twu b.twu second.0 in
    let item = exact_unsigned a.item b.item second.1 in
    λ j. record { small = small j; twu = twu j; item = item j }

pub weight_exact : IsExactOrder weight_cmp
weight_exact = record { total = weight_total; exact = weights_equal }

less_from : (a b : Weight) → is_lt (weight_cmp b a) ≡ false → a.item ≢ b.item → weight_cmp a b ≡ Less
less_from a b upto ne = by (weight_cmp a b) refl
  where
    by : (o : Ordering) → weight_cmp a b ≡ o → o ≡ Less
    by Less h = refl
    by Equal h = absurd (ne (ap (λ (w : Weight). w.item) (weight_exact.exact a b h)))
    by Greater h =
        let back : weight_cmp b a ≡ Less = weight_exact.total.antisymm b a ∙ ap ordering_reverse h in
        let lt : is_lt (weight_cmp b a) ≡ true = ap is_lt back in
        let never : true ≡ false = sym lt ∙ upto in
        cc

abbrev no_weight : Weight
no_weight = record { small = 0; twu = pos 0; item = 0 }

-- an item past the end
abbrev pub no_weighed : Weighed
no_weighed = record { smallness = 0; twu = pos 0; item = record { 0 = 0 } }

number_below : (ws : List Weighed) (n q : ℕ) → ((k : ℕ) → k < length ws → (get_or ws k no_weighed).item.0 < n)
    → list_any (eqb q) (map (λ (w : Weight). w.item) (map weight_of ws)) ≡ true → q < n
number_below [] n q below any = cc
number_below (w ∷ ws) n q below any = elim (or_cases (eqb q w.item.0) (list_any (eqb q) (map (λ (w : Weight). w.item) (map weight_of ws))) any) [
  | inl e ↦ let same = eqb-true q w.item.0 e in let first = below 0 (omega arith) in omega arith
  | inr later ↦ number_below ws n q (λ k within. below (suc k) (omega arith)) later
]

keys-weights : (order : RankOrder) (entries : List (ℕ × ItemTotal)) → map (λ (w : Weight). w.item) (map (weigh order) entries) ≡ keys_of entries
keys-weights order [] = refl
keys-weights order (e ∷ es) = ap (λ ks. e.0 ∷ ks) (keys-weights order es)

module _ (order : RankOrder) (floor : ℤ) (totals : List (ℕ × ItemTotal)) (weighed sorted : List Weighed)
    (apart : IsDistinct nat_eq (keys_of totals)) (is : map weight_of weighed ≡ weights order floor totals)
    (moved : IsPermutation weighed sorted) (up : IsSorted (on weight_of weight_cmp) sorted) where
  moved_weights : IsPermutation (map weight_of weighed) (map weight_of sorted)
  moved_weights = IsPermutation-map weight_of weighed sorted moved

  -- no item stands twice
  pub apart_sorted : IsDistinct eqb (map (λ w. w.item) (map weight_of sorted))
  apart_sorted =
      let first = IsDistinct-keys_filter eqb (λ e. int_le floor e.1.twu) totals apart in
      let second = subst (IsDistinct eqb) (sym (keys-weights order (filter (λ e. int_le floor e.1.twu) totals))) first in
      let third = subst (λ ws. IsDistinct eqb (map (λ w. w.item) ws)) (sym is) second in
      IsDistinct-IsPermutation eqb nat_eq_equiv.symm (map (λ w. w.item) (map weight_of weighed)) (map (λ w. w.item) (map weight_of sorted))
      (IsPermutation-map (λ w. w.item) (map weight_of weighed) (map weight_of sorted) moved_weights)
      third

  strictly : IsStrictlySortedBy weight_cmp (map weight_of sorted)
  strictly = sorted_from_all_adjacent weight_exact.total (map weight_of sorted) no_weight (λ k within.
      let ws = map weight_of sorted in
      let len : length ws ≡ length sorted = length-map sorted weight_of in
      let numbers : length (map (λ (w : Weight). w.item) ws) ≡ length ws = length-map ws (λ (w : Weight). w.item) in
      let here : get_or ws k no_weight ≡ weight_of (get_or sorted k no_weighed) = get_or-map weight_of sorted k no_weighed no_weight (omega arith) in
      let next : get_or ws (k + 1) no_weight ≡ weight_of (get_or sorted (k + 1) no_weighed) =
      get_or-map weight_of sorted (k + 1) no_weighed no_weight (omega arith) in
      let upto = up k no_weighed (omega arith) (omega arith) in
      let upto' : is_lt (weight_cmp (get_or ws (k + 1) no_weight) (get_or ws k no_weight)) ≡ false = rw (here, next) upto in
      let differ = eqb-false _ _ (apart_from_distinct eqb (map (λ w. w.item) ws) k (k + 1) 0 apart_sorted (omega arith) (omega arith)) in
      let first = get_or-map (λ (w : Weight). w.item) ws k no_weight 0 (omega arith) in
      let second = get_or-map (λ (w : Weight). w.item) ws (k + 1) no_weight 0 (omega arith) in
      less_from (get_or ws k no_weight) (get_or ws (k + 1) no_weight) upto' (λ e. differ (first ∙ e ∙ sym second)))

  -- they are the items by weight
  pub sorted-by_weight : map (λ w. w.item) (map weight_of sorted) ≡ by_weight order floor totals
  sorted-by_weight = ap (map (λ w. w.item))
      (sym (ranking-sorted weight_cmp (map weight_of sorted) strictly)
      ∙ sym (ranking-permutation weight_cmp weight_exact (map weight_of weighed) (map weight_of sorted) moved_weights)
      ∙ ap (ranking weight_cmp) is)

  numbers-sorted : (ws : List Weighed) → numbers_of (map (λ one. one.item) ws) ≡ map (λ w. w.item) (map weight_of ws)
  numbers-sorted [] = refl
  numbers-sorted (w ∷ ws) = ap (λ ns. w.item.0 ∷ ns) (numbers-sorted ws)

  -- so is the set that they are put into
  pub numbers-by_weight : (keys : List Item) → keys ≡ insert_all same_item [] (map (λ one. one.item) sorted) → numbers_of keys ≡ by_weight order floor totals
  numbers-by_weight keys put =
      let all = add_all-none (map (λ one. one.item) sorted) (subst (IsDistinct eqb) (sym (numbers-sorted sorted)) apart_sorted) in
      ap numbers_of (put ∙ all) ∙ numbers-sorted sorted ∙ sorted-by_weight

  -- and it has at most as many as there are numbers
  pub few-by_weight : (keys : List Item) → keys ≡ insert_all same_item [] (map (λ one. one.item) sorted)
      → ((k : ℕ) → k < length sorted → (get_or sorted k no_weighed).item.0 < 2 ^ 32) → length keys ≤ 2 ^ 32
  few-by_weight keys put below =
      let numbers = map (λ (w : Weight). w.item) (map weight_of sorted) in
      let all = add_all-none (map (λ one. one.item) sorted) (subst (IsDistinct eqb) (sym (numbers-sorted sorted)) apart_sorted) in
      let same : length keys ≡ length numbers = sym (length-map keys (λ item. item.0))
      ∙ ap (λ items. length (numbers_of items)) (put ∙ all) ∙ ap length (numbers-sorted sorted) in
      let few = length-le_from_distinct_below numbers (2 ^ 32) apart_sorted (λ q any. number_below sorted (2 ^ 32) q below any) in
      omega arith

-- ---- the items of a database by weight

filter-map : (p : ℕ × ItemTotal → Bool) (g : ℕ → ℕ × ItemTotal) (xs : List ℕ) → filter p (map g xs) ≡ map g (filter (λ x. p (g x)) xs)
filter-map p g [] = refl
filter-map p g (x ∷ xs) = by (p (g x)) (filter-map p g xs)
  where
    by : (b : Bool) → filter p (map g xs) ≡ map g (filter (λ y. p (g y)) xs)
        → cond b (g x ∷ filter p (map g xs)) (filter p (map g xs))
        ≡ map g (cond b (x ∷ filter (λ y. p (g y)) xs) (filter (λ y. p (g y)) xs))
    by true ih = ap (λ ys. g x ∷ ys) ih
    by false ih = ih

pub by_twu_total : (records : List (List (ℕ × ℤ))) → IsTotalOrder (by_twu records)
by_twu_total records = then_total (on_total (λ item. twu records (item ∷ [])) int_cmp_total) nat_cmp_total

pub by_twu_exact : (records : List (List (ℕ × ℤ))) → CmpEqualImpliesEq (by_twu records)
by_twu_exact records x y h = exact_unsigned x y (by (int_cmp (twu records (x ∷ [])) (twu records (y ∷ []))) h)
  where
    by : (o : Ordering) → ordering_then o (nat_cmp x y) ≡ Equal → nat_cmp x y ≡ Equal
    by Less h' = cc
    by Equal h' = h'
    by Greater h' = cc

pub by_order_total : (order : RankOrder) (records : List (List (ℕ × ℤ))) → IsTotalOrder (by_order order records)
by_order_total order records = then_total (on_total (λ item. smallness_of order (total_of records item)) nat_cmp_total) (by_twu_total records)

pub by_order_exact : (order : RankOrder) (records : List (List (ℕ × ℤ))) → CmpEqualImpliesEq (by_order order records)
by_order_exact order records x y h =
    by_twu_exact records x y (then_equal (nat_cmp (smallness_of order (total_of records x)) (smallness_of order (total_of records y))) (by_twu records x y) h).1

module _ (order : RankOrder) (records : List (List (ℕ × ℤ))) where
  weigh_item : ℕ → Weight
  weigh_item item = record { small = smallness_of order (total_of records item); twu = twu records (item ∷ []); item = item }

  insert-weighed : (item : ℕ) (xs : List ℕ) → insert_key weight_cmp (map weigh_item xs) (weigh_item item)
      ≡ map weigh_item (insert_key (by_order order records) xs item)
  unfolding weigh_item
  insert-weighed item [] = refl
  insert-weighed item (x ∷ xs) = by (by_order order records item x) (insert-weighed item xs)
    where
      by : (o : Ordering) → insert_key weight_cmp (map weigh_item xs) (weigh_item item) ≡ map weigh_item (insert_key (by_order order records) xs item)
          → match_ordering o (weigh_item item ∷ weigh_item x ∷ map weigh_item xs) (weigh_item x ∷ map weigh_item xs)
          (weigh_item x ∷ insert_key weight_cmp (map weigh_item xs) (weigh_item item))
          ≡ map weigh_item (match_ordering o (item ∷ x ∷ xs) (x ∷ xs) (x ∷ insert_key (by_order order records) xs item))
      by Less ih = refl
      by Equal ih = refl
      by Greater ih = ap (λ ws. weigh_item x ∷ ws) ih

  ranking-weighed : (xs : List ℕ) → ranking weight_cmp (map weigh_item xs) ≡ map weigh_item (ranking (by_order order records) xs)
  ranking-weighed [] = refl
  ranking-weighed (x ∷ xs) = ap (λ ws. insert_key weight_cmp ws (weigh_item x)) (ranking-weighed xs) ∙ insert-weighed x (ranking (by_order order records) xs)

  numbers-weighed : (xs : List ℕ) → map (λ (w : Weight). w.item) (map weigh_item xs) ≡ xs
  unfolding weigh_item
  numbers-weighed [] = refl
  numbers-weighed (x ∷ xs) = ap (λ ns. x ∷ ns) (numbers-weighed xs)

  weights-tabled : (xs : List ℕ) → map (weigh order) (map (λ item. (item, total_of records item)) xs) ≡ map weigh_item xs
  unfolding weigh_item
  weights-tabled [] = refl
  weights-tabled (x ∷ xs) = ap (λ ws. weigh_item x ∷ ws) (weights-tabled xs)

  reaches : ℤ → ℕ → Bool
  reaches floor item = int_le floor (twu records (item ∷ []))

  weights-item_totals : (floor : ℤ) → weights order floor (item_totals records)
      ≡ map weigh_item (filter (reaches floor) (first_seen (flat_map items_in records)))
  unfolding reaches
  weights-item_totals floor =
      let seen = first_seen (flat_map items_in records) in
      ap (map (weigh order)) (filter-map (λ e. int_le floor e.1.twu) (λ item. (item, total_of records item)) seen)
      ∙ weights-tabled (filter (λ item. int_le floor (twu records (item ∷ []))) seen)

  -- the items by weight are those that have a rank in the order
  pub by_weight-item_totals : (floor : ℤ) → by_weight order floor (item_totals records) ≡ ordered_items order floor records
  unfolding reaches
  by_weight-item_totals floor =
      let occurring = flat_map items_in records in
      let seen = filter (reaches floor) (first_seen occurring) in
      ap (λ ws. map (λ w. w.item) (ranking weight_cmp ws)) (weights-item_totals floor)
      ∙ ap (map (λ w. w.item)) (ranking-weighed seen)
      ∙ numbers-weighed (ranking (by_order order records) seen)
      ∙ ranking-members (by_order order records) (by_order_total order records) (by_order_exact order records) seen (filter (reaches floor) (items_of records))
      (λ z m. let from = Member-from_filter (reaches floor) z (first_seen occurring) m in
      Member-filter (reaches floor) z (items_of records) (Member-ranking z occurring (Member-from_first_seen z occurring from.0)) from.1)
      (λ z m. let from = Member-from_filter (reaches floor) z (items_of records) m in
      Member-filter (reaches floor) z (first_seen occurring) (Member-first_seen z occurring (Member-from_ranking nat_cmp z occurring from.0)) from.1)

module _ (records : List (List (ℕ × ℤ))) where
  -- no item occurs twice among the totals
  pub apart-item_totals : IsDistinct nat_eq (keys_of (item_totals records))
  apart-item_totals =
      let seen = first_seen (flat_map items_in records) in
      subst (IsDistinct nat_eq) (sym (keys-tabled seen)) (IsDistinct-from_once seen (Once-first_seen (flat_map items_in records)))
    where
      keys-tabled : (xs : List ℕ) → keys_of (map (λ item. (item, total_of records item)) xs) ≡ xs
      keys-tabled [] = refl
      keys-tabled (x ∷ xs) = ap (λ ns. x ∷ ns) (keys-tabled xs)

  -- nor among those that have a rank
  pub Once-ordered_items : (order : RankOrder) (floor : ℤ) → Once (ordered_items order floor records)
  Once-ordered_items order floor =
      let order_of = by_order order records in
      let total = by_order_total order records in
      Once-from_sorted order_of total (ordered_items order floor records)
      (sorted-ranking order_of total (filter (λ item. int_le floor (twu records (item ∷ []))) (items_of records)))
