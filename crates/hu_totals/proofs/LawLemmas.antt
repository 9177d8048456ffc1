-- What the records over ranks keep of a database.
use Rattle.std.proofs.Common.{◌≡◌, ℕ, ◌<◌, ◌+◌, Bool, true, false, cond, eqb, nat_lt, ◌&&◌, ℤ, pos, ◌+ℤ◌, ◌≤ℤ◌, int_le, List, [], ◌∷◌, ◌++◌, map, filter}
use Rattle.std.proofs.Common.{length, refl, sym, ap, ◌∙◌, subst, inl, inr, ◌⊎◌, arith, flat_map, All, Contains, append_assoc}
use Rattle.std.specs.List.{AllByRecursion}
use Rattle.std.proofs.lemmas.Bool.{eq-eqb, ne_eqb, cases_eq, cases_lt, and_from, lt-ltb}
use Rattle.std.proofs.lemmas.Int.{ints}
use Rattle.std.proofs.lemmas.List.{length-append}
use Rattle.std.proofs.lemmas.List.Sums.{sum_by-cons}
use Rattle.hu_kind.specs.declared.entry.Entry.{Entry}
use Rattle.hu_kind.specs.Order.{Ascend}
use Rattle.hu_kind.specs.Record.{has, holds, value_of, values_of, utility_in, gain, items_in}
use Rattle.hu_kind.specs.Database.{utility, support, twu, items_of}
use Rattle.hu_kind.specs.Itemsets.{sublists, occurring_sets, item_entry, item_patterns}
use Rattle.hu_kind.specs.Answer.{found}
use Rattle.hu_kind.proofs.lemmas.Earned.{gain-least, values_of-gain, has-held}
use Rattle.hu_kind.proofs.lemmas.Members.{Member, Member-from_contains, Contains-from_member, Member-append_cases, Member-map, Member-from_map, Member-filter}
use Rattle.hu_kind.proofs.lemmas.Members.{Member-from_filter}
use Rattle.hu_kind.proofs.lemmas.Occurring.{at_member, by_members, Member-ranking, Occurs, held-members, Occurs-from_member, Member-from_occurs, holds-none}
use Rattle.hu_kind.proofs.lemmas.Occurring.{utility-unheld}
use Rattle.hu_kind.proofs.lemmas.Each.{each-from_all}
use Rattle.hu_totals.specs.declared.weights.RankOrder.{RankOrder}
use Rattle.hu_totals.specs.Ranked.{ranked_by, ordered_items, by_order, cells_from, over_ranks, item_at, unranked}
use Rattle.hu_totals.specs.Laws.{KeepsSets, RanksHigh, KeepsPatterns}
use Rattle.hu_totals.proofs.lemmas.SortedLists.{Member-to_ranking}
use Rattle.hu_totals.proofs.lemmas.WeightLemmas.{by_order_exact}
use Rattle.hu_totals.proofs.lemmas.RecordCells.{value_of-absent}
use Rattle.hu_totals.proofs.lemmas.RankingRules.{All-from_each}

-- ---- a record's cells over the ranks of items, with the items again

-- the cells of these items
abbrev kept : List ℕ → List (ℕ × ℤ) → List (ℕ × ℤ)
kept [] cells = []
kept (x ∷ xs) cells = cond (has x cells) ((x, value_of x cells) ∷ []) [] ++ kept xs cells

abbrev with_items : List ℕ → List (ℕ × ℤ) → List (ℕ × ℤ)
with_items items cells = map (λ cell. (item_at items cell.0, cell.1)) cells

item_at-middle : (before : List ℕ) (x : ℕ) (after : List ℕ) → item_at (before ++ x ∷ after) (length before) ≡ x
item_at-middle [] x after = refl
item_at-middle (y ∷ ys) x after = item_at-middle ys x after

with_items-from : (before items : List ℕ) (cells : List (ℕ × ℤ)) → with_items (before ++ items) (cells_from (length before) items cells) ≡ kept items cells
with_items-from before [] cells = refl
with_items-from before (x ∷ xs) cells =
    let all = append_assoc before (x ∷ []) xs in
    let rank : length (before ++ x ∷ []) ≡ length before + 1 = omega (arith, length-append before (x ∷ [])) in
    let ih = with_items-from (before ++ x ∷ []) xs cells in
    let rest : with_items (before ++ x ∷ xs) (cells_from (length before + 1) xs cells) ≡ kept xs cells =
    (λ j. with_items (sym all j) (cells_from (sym rank j) xs cells)) ∙ ih in
    by (has x cells) rest
  where
    by : (b : Bool) → with_items (before ++ x ∷ xs) (cells_from (length before + 1) xs cells) ≡ kept xs cells
        → with_items (before ++ x ∷ xs) (cond b ((length before, value_of x cells) ∷ []) []
        ++ cells_from (length before + 1) xs cells) ≡ cond b ((x, value_of x cells) ∷ []) [] ++ kept xs cells
    by true rest = λ j. (item_at-middle before x xs j, value_of x cells) ∷ rest j
    by false rest = rest

with_items-kept : (items : List ℕ) (cells : List (ℕ × ℤ)) → with_items items (cells_from 0 items cells) ≡ kept items cells
with_items-kept items cells = with_items-from [] items cells

-- ---- a look-up of a ranked item finds there what it finds in the record

has-kept_none : (item : ℕ) (items : List ℕ) (cells : List (ℕ × ℤ)) → has item cells ≡ false → has item (kept items cells) ≡ false
has-kept_none item [] cells out = refl
has-kept_none item (x ∷ xs) cells out = by (has x cells) refl (has-kept_none item xs cells out)
  where
    by : (b : Bool) → has x cells ≡ b → has item (kept xs cells) ≡ false → has item (cond b ((x, value_of x cells) ∷ []) [] ++ kept xs cells) ≡ false
    by false h rest = rest
    by true h rest = elim (cases_eq item x) [
      | inl e ↦ let never : true ≡ false = sym h ∙ ap (λ i. has i cells) (sym e) ∙ out in absurd (cc)
      | inr ne ↦ let other : eqb item x ≡ false = ne_eqb item x ne in rw other rest
    ]

has-kept : (item : ℕ) (items : List ℕ) (cells : List (ℕ × ℤ)) → Member item items
    → (has item (kept items cells) ≡ has item cells) × (value_of item (kept items cells) ≡ value_of item cells)
has-kept item [] cells m = absurd m
has-kept item (x ∷ xs) cells m = by (has x cells) refl (has-kept item xs cells) (cases_eq item x) m
  where
    by : (b : Bool) → has x cells ≡ b → (Member item xs → (has item (kept xs cells) ≡ has item cells) × (value_of item (kept xs cells) ≡ value_of item cells))
        → (item ≡ x) ⊎ (item ≡ x → ⊥) → Member item (x ∷ xs)
        → (has item (cond b ((x, value_of x cells) ∷ []) [] ++ kept xs cells) ≡ has item cells)
        × (value_of item (cond b ((x, value_of x cells) ∷ []) [] ++ kept xs cells) ≡ value_of item cells)
    by true h ih (inl e) m' =
        let here : eqb item x ≡ true = eq-eqb item x e in
        let there : has item cells ≡ true = ap (λ i. has i cells) e ∙ h in
        let value : value_of x cells ≡ value_of item cells = ap (λ i. value_of i cells) (sym e) in
        simp here (sym there, value)
    by false h ih (inl e) m' =
        let out : has item cells ≡ false = ap (λ i. has i cells) e ∙ h in
        let none = has-kept_none item xs cells out in
        (none ∙ sym out, value_of-absent item (kept xs cells) none ∙ sym (value_of-absent item cells out))
    by b h ih (inr ne) (inl e) = absurd (ne (sym e))
    by true h ih (inr ne) (inr n) = let other : eqb item x ≡ false = ne_eqb item x ne in simp other (ih n)
    by false h ih (inr ne) (inr n) = ih n

holds-kept : (set items : List ℕ) (cells : List (ℕ × ℤ)) → AllByRecursion (λ i. Member i items) set
    → (holds set (kept items cells) ≡ holds set cells) × (values_of set (kept items cells) ≡ values_of set cells)
holds-kept [] items cells all = (refl, refl)
holds-kept (x ∷ xs) items cells all =
    let one = has-kept x items cells all.0 in
    let rest = holds-kept xs items cells all.1 in
    ((λ j. one.0 j && rest.0 j), (λ j. one.1 j +ℤ rest.1 j))

nothing : (cells : List (ℕ × ℤ)) → nat_lt 0 (length cells) ≡ false → cells ≡ []
nothing [] h = refl
nothing (c ∷ cs) h = let more : nat_lt 0 (length (c ∷ cs)) ≡ true =
    lt-ltb 0 (length (c ∷ cs)) (omega arith) in let never : true ≡ false = sym more ∙ h in absurd (cc)

module _ (items set : List ℕ) (some : 0 < length set) (all : AllByRecursion (λ i. Member i items) set) where
  -- a record that holds the set holds it over the ranks
  over-holds : (cells : List (ℕ × ℤ)) → holds set (with_items items (cells_from 0 items cells)) ≡ holds set cells
  over-holds cells = ap (holds set) (with_items-kept items cells) ∙ (holds-kept set items cells all).0

  over-utility : (cells : List (ℕ × ℤ)) → utility_in set (with_items items (cells_from 0 items cells)) ≡ utility_in set cells
  over-utility cells =
      let same = holds-kept set items cells all in
      ap (utility_in set) (with_items-kept items cells) ∙ (λ j. cond (same.0 j) (same.1 j) (pos 0))

  -- and a record that is left out doesn't hold it
  left_out : (cells : List (ℕ × ℤ)) → nat_lt 0 (length (cells_from 0 items cells)) ≡ false → holds set cells ≡ false
  left_out cells h = sym (over-holds cells) ∙ ap (λ dense. holds set (with_items items dense)) (nothing (cells_from 0 items cells) h) ∙ holds-none set some

  utility-over : (records : List (List (ℕ × ℤ))) → utility (map (with_items items) (over_ranks items records)) set ≡ utility records set
  utility-over [] = refl
  utility-over (r ∷ rs) = by (nat_lt 0 (length (cells_from 0 items r))) refl (utility-over rs)
    where
      by : (b : Bool) → nat_lt 0 (length (cells_from 0 items r)) ≡ b → utility (map (with_items items) (over_ranks items rs)) set ≡ utility rs set
          → utility (map (with_items items) (cond b (cells_from 0 items r ∷ over_ranks items rs) (over_ranks items rs)))
          set ≡ utility_in set r +ℤ utility rs set
      by true h ih = λ j. over-utility r j +ℤ ih j
      by false h ih =
          let none : utility_in set r ≡ pos 0 = ap (λ b. cond b (values_of set r) (pos 0)) (left_out r h) in
          omega (arith, ints)

  support-over : (records : List (List (ℕ × ℤ))) → support (map (with_items items) (over_ranks items records)) set ≡ support records set
  support-over [] = refl
  support-over (r ∷ rs) = by (nat_lt 0 (length (cells_from 0 items r))) refl (support-over rs)
    where
      by : (b : Bool) → nat_lt 0 (length (cells_from 0 items r)) ≡ b → support (map (with_items items) (over_ranks items rs)) set ≡ support rs set
          → support (map (with_items items) (cond b (cells_from 0 items r ∷ over_ranks items rs) (over_ranks items rs))) set ≡ support (r ∷ rs) set
      by true h ih =
          sum_by-cons (λ c. cond (holds set c) 1 0) (with_items items (cells_from 0 items r)) (map (with_items items) (over_ranks items rs))
          ∙ (λ j. cond (over-holds r j) 1 0 + ih j)
          ∙ sym (sum_by-cons (λ c. cond (holds set c) 1 0) r rs)
      by false h ih =
          let none : ◌≡◌ {A = ℕ} (cond (holds set r) 1 0) 0 = ap (λ b. cond b 1 0) (left_out r h) in
          omega (arith, sum_by-cons (λ c. cond (holds set c) 1 0) r rs)

each-member : (items set : List ℕ) → AllByRecursion (Contains items) set → AllByRecursion (λ i. Member i items) set
each-member items [] all = tt
each-member items (x ∷ xs) all = (Member-from_contains x items all.0, each-member items xs all.1)

-- sets of ranked items keep their utility and their support
pub KeepsSets-ranked : (order : RankOrder) (floor : ℤ) (records : List (List (ℕ × ℤ))) → KeepsSets records (ranked_by order floor records)
KeepsSets-ranked order floor records set some all =
    let items = ordered_items order floor records in
    let members = each-member items set (each-from_all (Contains items) set all) in
    (utility-over items set some members records, support-over items set some members records)

-- ---- a set that earns the floor has ranked items alone

utility_in-gained : (x : ℕ) (set : List ℕ) (cells : List (ℕ × ℤ)) → Ascend set → Member x set
    → utility_in set cells ≤ℤ cond (holds (x ∷ []) cells) (gain cells) (pos 0)
utility_in-gained x set cells up m = by (holds set cells) refl
  where
    least : (b : Bool) → pos 0 ≤ℤ cond b (gain cells) (pos 0)
    least true = gain-least cells
    least false = omega (arith, ints)

    by : (b : Bool) → holds set cells ≡ b → cond b (values_of set cells) (pos 0) ≤ℤ cond (holds (x ∷ []) cells) (gain cells) (pos 0)
    by true h = let one : has x cells ≡ true = has-held x set cells h m in rw one (values_of-gain cells set up)
    by false h = least (holds (x ∷ []) cells)

-- so it earns no more than the weight of each of its items
utility-twu : (records : List (List (ℕ × ℤ))) (x : ℕ) (set : List ℕ) → Ascend set → Member x set → utility records set ≤ℤ twu records (x ∷ [])
utility-twu [] x set up m = omega (arith, ints)
utility-twu (r ∷ rs) x set up m = let ih = utility-twu rs x set up m in let one = utility_in-gained x set r up m in omega (arith, ints)

held : (records : List (List (ℕ × ℤ))) (set : List ℕ) → pos 1 ≤ℤ utility records set → 0 < support records set
held records set earns = elim (cases_lt 0 (support records set)) [
  | inl some ↦ some
  | inr none ↦ let nothing' = utility-unheld records set (omega arith) in absurd (omega (arith, ints))
]

module _ (order : RankOrder) (floor : ℤ) (records : List (List (ℕ × ℤ))) (least : pos 1 ≤ℤ floor) where
  ranked-member : (x : ℕ) (set : List ℕ) → Ascend set → AllByRecursion (λ i. Member i (flat_map items_in records)) set
      → floor ≤ℤ utility records set → Member x set → Member x (ordered_items order floor records)
  ranked-member x set up occurs high m =
      let weight = utility-twu records x set up m in
      let here : Member x (items_of records) =
      Member-ranking x (flat_map items_in records) (at_member
      (λ i. Member i (flat_map items_in records)) x set occurs m) in
      let reaches : int_le floor (twu records (x ∷ [])) ≡ true = grind (arith, ints) in
      Member-to_ranking (by_order order records) (by_order_exact order records) x (filter (λ i. int_le floor (twu records (i ∷ []))) (items_of records))
      (Member-filter (λ i. int_le floor (twu records (i ∷ []))) x (items_of records) here reaches)

  -- a set that earns the floor has ranked items alone
  pub RanksHigh-ranked : RanksHigh records (ranked_by order floor records)
  RanksHigh-ranked [] inside high = λ k d within. absurd (omega arith)
  RanksHigh-ranked (x ∷ xs) inside high =
      let set = x ∷ xs in
      let some = held records set (omega (arith, ints)) in
      let occurring =
      Member-filter (λ s. nat_lt 0 (length s) && nat_lt 0 (support records s)) set (sublists (items_of records))
      (Member-from_contains set (sublists (items_of records)) inside)
      (and_from (nat_lt 0 (length set)) (nat_lt 0 (support records set)) (lt-ltb 0 (length set) (omega arith)) (lt-ltb 0 (support records set) some)) in
      let o = Occurs-from_member records set occurring in
      let items = ordered_items order floor records in
      All-from_each (Contains items) set
      (by_members (Contains items) set (λ y m. Contains-from_member y items (ranked-member y set o.ascending (held-members records set some) high m)))

  -- ---- the patterns that reach the floor are the same

  member-kept : (i : ℕ) (items : List ℕ) (cells : List (ℕ × ℤ)) → Member i (items_in (kept items cells)) → Member i items
  member-kept i [] cells m = m
  member-kept i (x ∷ xs) cells m = by (has x cells) (member-kept i xs cells) m
    where
      by : (b : Bool) → (Member i (items_in (kept xs cells)) → Member i xs)
          → Member i (items_in (cond b ((x, value_of x cells) ∷ []) [] ++ kept xs cells)) → Member i (x ∷ xs)
      by true ih (inl e) = inl e
      by true ih (inr n) = inr (ih n)
      by false ih n = inr (ih n)

  member-over : (i : ℕ) (items : List ℕ) (rs : List (List (ℕ × ℤ)))
      → Member i (flat_map items_in (map (with_items items) (over_ranks items rs))) → Member i items
  member-over i items [] m = absurd m
  member-over i items (r ∷ rs) m = by (nat_lt 0 (length (cells_from 0 items r))) (member-over i items rs) m
    where
      by : (b : Bool) → (Member i (flat_map items_in (map (with_items items) (over_ranks items rs))) → Member i items)
          → Member i (flat_map items_in (map (with_items items) (cond b (cells_from 0 items r ∷ over_ranks items rs) (over_ranks items rs)))) → Member i items
      by true ih m' =
          elim (Member-append_cases i (items_in (with_items items (cells_from 0 items r)))
          (flat_map items_in (map (with_items items) (over_ranks items rs))) m') [
            | inl here ↦ member-kept i items r (subst (λ cells. Member i (items_in cells)) (with_items-kept items r) here)
            | inr there ↦ ih there
          ]
      by false ih m' = ih m'

  same_entry : (set : List ℕ) → 0 < length set → All (Contains (ordered_items order floor records)) set
      → item_entry (unranked (ranked_by order floor records)) set ≡ item_entry records set
  same_entry set some all =
      let same = KeepsSets-ranked order floor records set some all in
      λ j. record { key = map pos set; utility = same.0 j; support = same.1 j }

  pub KeepsPatterns-ranked : KeepsPatterns records (ranked_by order floor records)
  KeepsPatterns-ranked low upto entry = (to, from)
    where
      to : Contains (found low (item_patterns (unranked (ranked_by order floor records)))) entry → Contains (found low (item_patterns records)) entry
      to c =
          let over = unranked (ranked_by order floor records) in
          let items = ordered_items order floor records in
          let kept' =
          Member-from_filter (λ (e : Entry). int_le low e.utility) entry (item_patterns over)
          (Member-from_contains entry (found low (item_patterns over)) c) in
          let of_set = Member-from_map (item_entry over) entry (occurring_sets over) kept'.0 in
          let set = of_set.0 in
          let o = Occurs-from_member over set of_set.1 in
          let inside = held-members over set o.held in
          let all = All-from_each (Contains items) set
          (by_members (Contains items) set (λ i m. Contains-from_member i items
          (member-over i items records (at_member (λ j. Member j (flat_map items_in over)) i set inside m)))) in
          let same = KeepsSets-ranked order floor records set o.some all in
          let o' : Occurs records set = record { some = o.some; ascending = o.ascending; held = subst (λ n. 0 < n) same.1 o.held } in
          let entry' = sym (same_entry set o.some all) ∙ of_set.2 in
          let m = Member-map (item_entry records) set (occurring_sets records) (Member-from_occurs records set o') in
          Contains-from_member entry (found low (item_patterns records))
          (Member-filter (λ (e : Entry). int_le low e.utility) entry (item_patterns records) (subst (λ e. Member e (item_patterns records)) entry' m) kept'.1)

      from : Contains (found low (item_patterns records)) entry → Contains (found low (item_patterns (unranked (ranked_by order floor records)))) entry
      from c =
          let over = unranked (ranked_by order floor records) in
          let kept' =
          Member-from_filter (λ (e : Entry). int_le low e.utility) entry (item_patterns records)
          (Member-from_contains entry (found low (item_patterns records)) c) in
          let of_set = Member-from_map (item_entry records) entry (occurring_sets records) kept'.0 in
          let set = of_set.0 in
          let o = Occurs-from_member records set of_set.1 in
          let earned : utility records set ≡ entry.utility = ap (λ (e : Entry). e.utility) of_set.2 in
          let reaches : low ≤ℤ entry.utility = grind (arith, ints) in
          let sublist = Member-from_filter (λ s. nat_lt 0 (length s) && nat_lt 0 (support records s)) set (sublists (items_of records)) of_set.1 in
          let all = RanksHigh-ranked set (Contains-from_member set (sublists (items_of records)) sublist.0) (omega (arith, ints)) in
          let same = KeepsSets-ranked order floor records set o.some all in
          let o' : Occurs over set = record { some = o.some; ascending = o.ascending; held = subst (λ n. 0 < n) (sym same.1) o.held } in
          let entry' = same_entry set o.some all ∙ of_set.2 in
          let m = Member-map (item_entry over) set (occurring_sets over) (Member-from_occurs over set o') in
          Contains-from_member entry (found low (item_patterns over))
          (Member-filter (λ (e : Entry). int_le low e.utility) entry (item_patterns over) (subst (λ e. Member e (item_patterns over)) entry' m) kept'.1)
