-- A set is closed, by the items that go with it, exactly where no proper superset has its support.
use Rattle.std.proofs.Common.{◌≡◌, ℕ, ◌<◌, Bool, true, false, not, eqb, ◌&&◌, ◌||◌, ℤ, ◌≤ℤ◌, None, List, ◌∷◌, filter, refl, sym, ap, subst, inl, inr, flat_map}
use Rattle.std.specs.List.{list_all, list_any, Contains}
use Rattle.std.proofs.lemmas.Bool.{and_parts, and_from, eq-eqb, eqb-true}
use Rattle.hu_kind.specs.declared.entry.Entry.{Entry}
use Rattle.hu_kind.specs.Answer.{closed_answer}
use Rattle.hu_kind.specs.Record.{has, holds, items_in}
use Rattle.hu_kind.specs.Database.{support, items_of}
use Rattle.hu_kind.specs.Itemsets.{is_closed, goes_with, occurring_sets, item_entry, closed_patterns}
use Rattle.hu_kind.proofs.lemmas.Members.{Member, Contains-from_member, Member-from_contains, Member-map, Member-from_map, Member-flat_map, Member-filter}
use Rattle.hu_kind.proofs.lemmas.Members.{Member-from_filter}
use Rattle.hu_kind.proofs.lemmas.Occurring.{Occurs, Occurs-from_member, Member-from_occurs, Member-ranking, counted, has-member}
use Rattle.hu_kind.proofs.lemmas.Tests.{all-at_member, all-by_members, any-member, any-from_member}
use Rattle.hu_answer.specs.Supersets.{is_item_of, is_proper_superset, IsClosedSet}
use Rattle.hu_answer.specs.Entries.{IsEntryOf, IsFoundSet}
use Rattle.hu_answer.specs.Laws.{IsClosedAnswer}
use Rattle.hu_answer.proofs.lemmas.Answers.{Member-from_answer, Member-answer, entry-of_set, set-of_entry}
use Rattle.hu_answer.proofs.lemmas.Tests.{count-same, count-by_members}

item-member : (i : ℕ) (items : List ℕ) → is_item_of i items ≡ true → Member i items
item-member i items h = let found = any-member (λ j. eqb i j) items h in subst (λ j. Member j items) (sym (eqb-true i found.0 found.2)) found.1

member-item : (i : ℕ) (items : List ℕ) → Member i items → is_item_of i items ≡ true
member-item i items m = any-from_member (λ j. eqb i j) i items m (eq-eqb i i refl)

-- a record that holds a superset holds the set
holds-superset : (larger items : List ℕ) (cells : List (ℕ × ℤ)) → list_all (λ i. is_item_of i larger) items ≡ true → holds larger cells ≡ true
    → holds items cells ≡ true
holds-superset larger items cells within h =
    all-by_members (λ i. has i cells) items
    (λ i m. all-at_member (λ j. has j cells) i larger h (item-member i larger (all-at_member (λ j. is_item_of j larger) i items within m)))

-- where the superset has the set's support, each of its items goes with the set
goes-with_superset : (records : List (List (ℕ × ℤ))) (larger items : List ℕ) (i : ℕ) → list_all (λ j. is_item_of j larger) items ≡ true
    → support records larger ≡ support records items → Member i larger → goes_with records items i ≡ true
goes-with_superset records larger items i within same m = all-by_members (λ r. not (holds items r) || has i r) records each
  where
    by : (r : List (ℕ × ℤ)) → (holds items r ≡ true → holds larger r ≡ true) → (b : Bool) → holds items r ≡ b → (not b || has i r) ≡ true
    by r up true e = all-at_member (λ j. has j r) i larger (up e) m
    by r up false e = refl

    each : (r : List (ℕ × ℤ)) → Member r records → (not (holds items r) || has i r) ≡ true
    each r n = by r (count-same (holds larger) (holds items) (λ s. holds-superset larger items s within) records same r n) (holds items r) refl

-- an item of a set that some record holds occurs
occurs-item : (records : List (List (ℕ × ℤ))) (larger : List ℕ) (i : ℕ) → 0 < support records larger → Member i larger → Member i (items_of records)
occurs-item records larger i held m =
    let found = counted (holds larger) records held in
    let here = has-member i found.0 (all-at_member (λ j. has j found.0) i larger found.2 m) in
    Member-ranking i (flat_map items_in records) (Member-flat_map items_in found.0 i records found.1 here)

neither : (a b : Bool) → (a || not b) ≡ true → not a ≡ true → b ≡ true → ⊥
neither true b h n y = let no : false ≡ true = n in cc
neither false true h n y = let no : false ≡ true = h in cc
neither false false h n y = let no : false ≡ true = y in cc

pub closed-set : (records : List (List (ℕ × ℤ))) (items : List ℕ) → 0 < support records items → is_closed records items ≡ true → IsClosedSet records items
closed-set records items held closed larger sup same =
    let parts = and_parts (list_all (λ i. is_item_of i larger) items) (list_any (λ i. not (is_item_of i items)) larger) sup in
    let more = any-member (λ i. not (is_item_of i items)) larger parts.1 in
    let goes = goes-with_superset records larger items more.0 parts.0 same more.1 in
    let occurs = occurs-item records larger more.0 (subst (λ n. 0 < n) (sym same) held) more.1 in
    let at = all-at_member (λ i. is_item_of i items || not (goes_with records items i)) more.0 (items_of records) closed occurs in
    neither (is_item_of more.0 items) (goes_with records items more.0) at more.2 goes

-- ---- an item that goes with a set and stands outside it makes a superset of the same support

larger-by : (items : List ℕ) (i : ℕ) → is_item_of i items ≡ false → is_proper_superset (i ∷ items) items ≡ true
larger-by items i out =
    and_from (list_all (λ j. is_item_of j (i ∷ items)) items) (list_any (λ j. not (is_item_of j items)) (i ∷ items))
    (all-by_members (λ j. is_item_of j (i ∷ items)) items (λ j m. member-item j (i ∷ items) (inr m)))
    (any-from_member (λ j. not (is_item_of j items)) i (i ∷ items) (inl refl) (ap not out))

both-or_not : (a b : Bool) → (not b || a) ≡ true → (a && b) ≡ b
both-or_not true b h = refl
both-or_not false true h = h
both-or_not false false h = refl

support-larger : (records : List (List (ℕ × ℤ))) (items : List ℕ) (i : ℕ) → goes_with records items i ≡ true
    → support records (i ∷ items) ≡ support records items
support-larger records items i goes =
    count-by_members (holds (i ∷ items)) (holds items) records
    (λ r m. both-or_not (has i r) (holds items r) (all-at_member (λ s. not (holds items s) || has i s) r records goes m))

pub closed-by_supersets : (records : List (List (ℕ × ℤ))) (items : List ℕ) → IsClosedSet records items → is_closed records items ≡ true
closed-by_supersets records items closed =
    all-by_members (λ i. is_item_of i items || not (goes_with records items i)) (items_of records)
    (λ i m. by i (is_item_of i items) (goes_with records items i) refl refl)
  where
    by : (i : ℕ) (a b : Bool) → is_item_of i items ≡ a → goes_with records items i ≡ b → (a || not b) ≡ true
    by i true b e f = refl
    by i false false e f = refl
    by i false true e f = absurd (closed (i ∷ items) (larger-by items i e) (support-larger records items i f))

pub is_closed_answer : IsClosedAnswer
is_closed_answer records least entry = (there, back)
  where
    there : Contains (closed_answer records least None) entry
        → (items : List ℕ) × IsFoundSet records least items × IsClosedSet records items × IsEntryOf records items entry
    there c =
        let found = Member-from_answer least (closed_patterns records) entry (Member-from_contains entry _ c) in
        let from = Member-from_map (item_entry records) entry (filter (is_closed records) (occurring_sets records)) found.0 in
        let closed = Member-from_filter (is_closed records) from.0 (occurring_sets records) from.1 in
        let occurs = Occurs-from_member records from.0 closed.0 in (
          from.0,
          record {
            some = occurs.some;
            ascending = occurs.ascending;
            held = occurs.held;
            earns = subst (λ (e : Entry). least ≤ℤ e.utility) (sym from.2) found.1;
          },
          closed-set records from.0 occurs.held closed.1,
          set-of_entry records from.0 entry from.2,
        )

    back : (items : List ℕ) × IsFoundSet records least items × IsClosedSet records items × IsEntryOf records items entry
        → Contains (closed_answer records least None) entry
    back s =
        let occurs : Occurs records s.0 = record { some = s.1.some; ascending = s.1.ascending; held = s.1.held } in
        let closed = Member-filter (is_closed records) s.0 (occurring_sets records)
        (Member-from_occurs records s.0 occurs) (closed-by_supersets records s.0 s.2) in
        let m = Member-map (item_entry records) s.0 (filter (is_closed records) (occurring_sets records)) closed in
        let stands = Member-answer least (closed_patterns records) (item_entry records s.0) m s.1.earns in
        Contains-from_member entry _ (subst (λ e. Member e (closed_answer records least None)) (entry-of_set records s.0 entry s.3) stands)
