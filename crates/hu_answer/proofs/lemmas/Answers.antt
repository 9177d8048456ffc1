-- What stands in an answer.
use Rattle.std.proofs.Common.{◌≡◌, ◌↔◌, ℕ, ℤ, ◌≤ℤ◌, Bool, true, false, None, List, refl, sym, subst, arith}
use Rattle.std.specs.Prelude.{int_le, T}
use Rattle.std.specs.List.{Contains}
use Rattle.std.proofs.lemmas.Float.{T_from_true}
use Rattle.std.proofs.lemmas.Int.{ints}
use Rattle.hu_kind.specs.declared.entry.Entry.{Entry}
use Rattle.hu_kind.specs.Answer.{found, answer, item_answer}
use Rattle.hu_kind.specs.Itemsets.{occurring_sets, item_entry, item_patterns}
use Rattle.hu_kind.specs.Order.{entry_cmp}
use Rattle.hu_kind.proofs.lemmas.Members.{Member, Contains-from_member, Member-from_contains, Member-map, Member-from_map, Member-filter, Member-from_filter}
use Rattle.hu_kind.proofs.lemmas.Occurring.{Occurs, Occurs-from_member, Member-from_occurs}
use Rattle.hu_answer.specs.Entries.{IsEntryOf, IsFoundSet}
use Rattle.hu_answer.specs.Laws.{IsItemAnswer}
use Rattle.hu_kind.proofs.lemmas.EntryOrder.{entry-same, entry_order}
use Rattle.hu_answer.proofs.lemmas.Ranked.{Member-ranked, Member-from_ranked}

pub true_from_T : (b : Bool) → T b → b ≡ true
true_from_T true t = refl
true_from_T false t = absurd t

-- an entry stands in the whole answer exactly where it is a pattern that reaches the minimum
pub Member-from_answer : (least : ℤ) (patterns : List Entry) (e : Entry) → Member e (answer least None patterns) → Member e patterns × (least ≤ℤ e.utility)
Member-from_answer least patterns e m =
    let from = Member-from_filter (λ (x : Entry). int_le least x.utility) e patterns (Member-from_ranked entry_cmp e (found least patterns) m) in
    (from.0, record { le = T_from_true _ from.1 })

pub Member-answer : (least : ℤ) (patterns : List Entry) (e : Entry) → Member e patterns → least ≤ℤ e.utility → Member e (answer least None patterns)
Member-answer least patterns e m reaches =
    Member-ranked entry_cmp entry_order e (found least patterns)
    (Member-filter (λ (x : Entry). int_le least x.utility) e patterns m (true_from_T (int_le least e.utility) reaches.le))

-- the entry of a set is its `item_entry` alone
pub entry-of_set : (records : List (List (ℕ × ℤ))) (items : List ℕ) (e : Entry) → IsEntryOf records items e → item_entry records items ≡ e
entry-of_set records items e is = entry-same (item_entry records items) e (sym is.key) (sym is.earned) (sym is.held_by)

pub set-of_entry : (records : List (List (ℕ × ℤ))) (items : List ℕ) (e : Entry) → item_entry records items ≡ e → IsEntryOf records items e
set-of_entry records items e same = subst (IsEntryOf records items) same (record { key = refl; earned = refl; held_by = refl })

pub is_item_answer : IsItemAnswer
is_item_answer records least entry = (there, back)
  where
    there : Contains (item_answer records least None) entry → (items : List ℕ) × IsFoundSet records least items × IsEntryOf records items entry
    there c =
        let found = Member-from_answer least (item_patterns records) entry (Member-from_contains entry _ c) in
        let from = Member-from_map (item_entry records) entry (occurring_sets records) found.0 in
        let occurs = Occurs-from_member records from.0 from.1 in (
          from.0,
          record {
            some = occurs.some;
            ascending = occurs.ascending;
            held = occurs.held;
            earns = subst (λ (e : Entry). least ≤ℤ e.utility) (sym from.2) found.1;
          },
          set-of_entry records from.0 entry from.2,
        )

    back : (items : List ℕ) × IsFoundSet records least items × IsEntryOf records items entry → Contains (item_answer records least None) entry
    back s =
        let occurs : Occurs records s.0 = record { some = s.1.some; ascending = s.1.ascending; held = s.1.held } in
        let m = Member-map (item_entry records) s.0 (occurring_sets records) (Member-from_occurs records s.0 occurs) in
        let stands = Member-answer least (item_patterns records) (item_entry records s.0) m s.1.earns in
        Contains-from_member entry _ (subst (λ e. Member e (item_answer records least None)) (entry-of_set records s.0 entry s.2) stands)

-- an entry is a pattern exactly where it is that of a set that some record holds
pub is_pattern : (records : List (List (ℕ × ℤ))) (e : Entry)
    → Contains (item_patterns records) e ↔ ((items : List ℕ) × IsFoundSet records e.utility items × IsEntryOf records items e)
is_pattern records e = (there, back)
  where
    there : Contains (item_patterns records) e → (items : List ℕ) × IsFoundSet records e.utility items × IsEntryOf records items e
    there c =
        let stands = Member-answer e.utility (item_patterns records) e (Member-from_contains e _ c) (omega (arith, ints)) in
        (is_item_answer records e.utility e).0 (Contains-from_member e _ stands)

    back : (items : List ℕ) × IsFoundSet records e.utility items × IsEntryOf records items e → Contains (item_patterns records) e
    back s =
        let stands = Member-from_contains e _ ((is_item_answer records e.utility e).1 s) in
        Contains-from_member e _ (Member-from_answer e.utility (item_patterns records) e stands).0
