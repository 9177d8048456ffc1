-- What a collector of closed patterns makes of entries, and which keys grow.
use Rattle.std.proofs.Common.{◌≡◌, ◌∙◌, ℕ, ◌≤◌, ℤ, pos, ◌<ℤ◌, int_le, Bool, true, false, cond, ◌&&◌, List, [], ◌∷◌, ◌++◌, map, refl, ap, filter, flat_map}
use Rattle.std.specs.List.{AllByRecursion}
use Rattle.std.proofs.lemmas.Bool.{and_left, and_right}
use Rattle.hu_kind.specs.declared.entry.Entry.{Entry}
use Rattle.hu_kind.specs.Order.{entry_cmp, ranking, cut}
use Rattle.hu_kind.specs.Record.{items_in, IsRecord}
use Rattle.hu_kind.specs.Itemsets.{is_closed, item_entry, occurring_sets}
use Rattle.hu_kind.proofs.lemmas.Members.{Member}
use Rattle.hu_kind.proofs.lemmas.Occurring.{Member-ranking, Occurs-from_member, at_member, by_members, held-members}
use Rattle.hu_collect.specs.Rule.{Rule, passes}
use Rattle.hu_collect.specs.State.{State, offered, floor_in, IsInOrder}
use Rattle.hu_collect.proofs.lemmas.Searching.{state-equal, offered-low}
use Rattle.hu_closed.specs.Keys.{is_closed_key}
use Rattle.hu_closed.specs.ClosedOnly.{closed_rule, closed_state, MakesClosed}
use Rattle.hu_closed.proofs.lemmas.Closedness.{is_closed_key-items}
use Rattle.hu_closed.proofs.lemmas.RankLemmas.{occurs-in_range}

-- ---- entries that change nothing

pub leaves-below : (inner : State) (records : List (List (ℕ × ℤ))) (table : List ℕ) (entry : Entry) → IsInOrder inner → entry.utility <ℤ floor_in inner
    → offered (closed_state inner records table) (entry ∷ []) ≡ closed_state inner records table
leaves-below inner records table entry ordered low =
    offered-low (closed_state inner records table) entry (ap (λ s. closed_state s records table) ordered) low

-- ---- patterns

-- the key of a set that occurs is closed where the set is
occurring-key : (records : List (List (ℕ × ℤ))) (items : List ℕ) → AllByRecursion IsRecord records
    → Member items (occurring_sets records) → is_closed_key records (map pos items) ≡ is_closed records items
occurring-key records items all m =
    let o = Occurs-from_member records items m in
    let held = held-members records items o.held in
    is_closed_key-items records items (record {
      some = o.some;
      ascending = o.ascending;
      in_range = by_members (λ item. item ≤ 2147483647) items (λ item n.
          occurs-in_range records item all (Member-ranking item (flat_map items_in records)
          (at_member (λ i. Member i (flat_map items_in records)) item items held n)));
    })

passes-closed : (w c l : Bool) → c ≡ true → ((w && c) && l) ≡ (w && l)
passes-closed true c l h = ap (λ b. b && l) h
passes-closed false c l h = refl

passes-open : (w c l : Bool) → c ≡ false → ((w && c) && l) ≡ false
passes-open w c l h = and_left (w && c) l (and_right w c h)

patterns-cons : (inner : Rule) (records : List (List (ℕ × ℤ))) (table : List ℕ) (s : List ℕ) (sets : List (List ℕ))
    (b : Bool) → is_closed records s ≡ b → is_closed_key records (map pos s) ≡ is_closed records s
    → filter (passes (closed_rule inner records table)) (map (item_entry records) sets)
    ≡ filter (passes inner) (map (item_entry records) (filter (is_closed records) sets))
    → filter (passes (closed_rule inner records table)) (map (item_entry records) (s ∷ sets))
    ≡ filter (passes inner)
    (map (item_entry records) (cond b (s ∷ filter (is_closed records) sets) (filter (is_closed records) sets)))
patterns-cons inner records table s sets true e key ih =
    let entry = item_entry records s in
    let same = passes-closed (inner.wants entry.key) (is_closed_key records entry.key) (int_le inner.start entry.utility) (key ∙ e) in
    (λ j. cond (same j) (entry ∷ ih j) (ih j))
patterns-cons inner records table s sets false e key ih =
    let entry = item_entry records s in
    let fails = passes-open (inner.wants entry.key) (is_closed_key records entry.key) (int_le inner.start entry.utility) (key ∙ e) in
    (λ j. cond (fails j) (entry ∷ filter (passes (closed_rule inner records table)) (map (item_entry records) sets))
    (filter (passes (closed_rule inner records table)) (map (item_entry records) sets))) ∙ ih

patterns-sets : (inner : Rule) (records : List (List (ℕ × ℤ))) (table : List ℕ) (sets : List (List ℕ))
    → AllByRecursion (λ s. is_closed_key records (map pos s) ≡ is_closed records s) sets
    → filter (passes (closed_rule inner records table)) (map (item_entry records) sets)
    ≡ filter (passes inner) (map (item_entry records) (filter (is_closed records) sets))
patterns-sets inner records table [] each = refl
patterns-sets inner records table (s ∷ sets) each =
    patterns-cons inner records table s sets (is_closed records s) refl each.0
    (patterns-sets inner records table sets each.1)

pub makes-closed : (inner : State) (records : List (List (ℕ × ℤ))) (table : List ℕ) → AllByRecursion IsRecord records → MakesClosed records table inner
makes-closed inner records table all =
    let each = by_members (λ s. is_closed_key records (map pos s) ≡ is_closed records s) (occurring_sets records) (λ s m. occurring-key records s all m) in
    let same = patterns-sets inner.rule records table (occurring_sets records) each in
    state-equal refl (ap (λ entries. cut inner.rule.limit (ranking entry_cmp (inner.content ++ entries))) same)
