-- Record sets answer what their records say of a key.
use Rattle.std.specs.Bool.{◌==◌}
use Rattle.std.proofs.Common.{◌≡◌, ◌∙◌, ℕ, zero, suc, ℤ, pos, Bool, true, false, cond, not, ◌&&◌, ◌||◌, eqb, Option, None, Some, option_map, List, [], ◌∷◌, map}
use Rattle.std.proofs.Common.{length, take, refl, sym, ap, subst, arith, count_by, flat_map, Contains, nat_cmp}
use Rattle.std.specs.List.{list_all, list_any}
use Rattle.std.specs.declared.vec.Vec.{Vec}
use Rattle.std.specs.declared.alloc.Global.{Global}
use Rattle.std.proofs.lemmas.Bool.{and_from, and_parts, eq-eqb, eqb-true, lt-ltb, ne_eqb, not-true, not_from_false, or_left, true≢false}
use Rattle.std.proofs.lemmas.Bool.Decides.{nat_tests}
use Rattle.std.proofs.lemmas.List.{length-map}
use Rattle.std.proofs.lemmas.List.Sums.{sum_by-cons}
use Rattle.std.proofs.lemmas.List.Folds.{list_all-map}
use Rattle.hu_kind.specs.declared.item.Item.{Item}
use Rattle.hu_kind.specs.Record.{has, items_in}
use Rattle.hu_kind.specs.Database.{items_of}
use Rattle.hu_kind.proofs.lemmas.Members.{Member, Member-from_contains, Member-from_filter, Member-from_flat_map, Member-from_map, Member-map}
use Rattle.hu_kind.proofs.lemmas.Occurring.{has-member}
use Rattle.hu_kind.proofs.lemmas.Tests.{any-member, any-from_member, same_bool}
use Rattle.hu_totals.specs.Weights.{numbers_of}
use Rattle.hu_totals.proofs.lemmas.SortedLists.{Member-from_ranking}
use Rattle.hu_totals.proofs.lemmas.DenseLemmas.{position-rank_in, rank_in}
use Rattle.hu_closed.specs.Keys.{are_among, closes_below, holds_key, is_among, is_closed_key, is_outside, is_set_key, key_support}
use Rattle.hu_closed.specs.Holders.{AreSets}
use Rattle.hu_closed.specs.Candidates.{has_rank_below, is_below}
use Rattle.hu_closed.specs.Found.{closes_at, Finds, IsHeld}
use Rattle.hu_closed.proofs.HolderRecords.{among-part}
use Rattle.hu_closed.proofs.lemmas.Closedness.{any_closes-one, closes, closes-held, closes-unheld, has-among, is_closed_key-set, occurs}
use Rattle.hu_closed.proofs.ListTests.{all-filter, all-not, all-same, any-same, count-filter, count-map, count-none}

lacking : (records : List (List (ℕ × ℤ))) (key : List ℤ) (found : List (List ℕ)) (f : Finds records key found)
    → (items : List ℕ) → is_among items f.number ≡ false → are_among items key ≡ false
lacking records key found f items out = among-part items key f.number (Member-from_contains f.number key f.part) out

pub support-found : (records : List (List (ℕ × ℤ))) (key : List ℤ) (found : List (List ℕ)) → Finds records key found
    → count_by (λ items. are_among items key) found ≡ key_support records key
support-found records key found f =
    ap (count_by (λ items. are_among items key)) f.is
    ∙ count-filter (λ items. are_among items key) (λ items. is_among items f.number) (lacking records key found f) (map items_in records)
    ∙ count-map (λ items. are_among items key) items_in records

count-all : {X : Type 0} (xs : List X) → count_by (λ x. true) xs ≡ length xs
count-all [] = refl
count-all (x ∷ xs) = omega (arith, sum_by-cons (λ y. cond true 1 0) x xs, count-all xs)

support-all : (records : List (List (ℕ × ℤ))) (vs : List (Vec Item Global)) (holders : List (ℤ × List ℕ))
    → AreSets records vs holders → length vs ≡ key_support records []
support-all records vs holders are =
    sym (length-map vs (λ (v : Vec Item Global). numbers_of v.items)) ∙ ap length are.lists ∙ length-map records items_in ∙ sym (count-all records)

pub support-empty : (records : List (List (ℕ × ℤ))) (vs : List (Vec Item Global)) (holders : List (ℤ × List ℕ)) (key : List ℤ)
    → AreSets records vs holders → true ≡ (length key == 0) → length vs ≡ key_support records key
support-empty records vs holders [] are none = support-all records vs holders are
support-empty records vs holders (n ∷ ns) are none = let many : eqb (suc (length ns)) 0 ≡ false =
    ne_eqb (suc (length ns)) 0 (λ e. absurd (omega arith)) in absurd (true≢false (none ∙ many))

not_not : (b : Bool) → not (not b) ≡ b
not_not true = refl
not_not false = refl

-- a record holds the key where one of those found does
held-found : (records : List (List (ℕ × ℤ))) (key : List ℤ) (found : List (List ℕ)) → Finds records key found
    → not (key_support records key == 0) ≡ list_any (λ items. are_among items key) found
held-found records key found f =
    let test : List ℕ → Bool = λ items. are_among items key in
    ap (λ n. not (n == 0)) (sym (support-found records key found f)) ∙ ap not (count-none test found) ∙ not_not (list_any test found)

pub held-some : (records : List (List (ℕ × ℤ))) (key : List ℤ) (found rest : List (List ℕ)) (items : List ℕ)
    → Finds records key found → IsHeld found key rest items → true ≡ not (key_support records key == 0)
held-some records key found rest items f h =
    let one = any-from_member (λ items. are_among items key) items found (Member-from_contains items found h.part) h.holding.whole in
    sym (held-found records key found f ∙ one)

pub held-none : (records : List (List (ℕ × ℤ))) (key : List ℤ) (found : List (List ℕ)) → Finds records key found
    → list_all (λ items. not (are_among items key)) found ≡ true → false ≡ not (key_support records key == 0)
held-none records key found f none =
    let test : List ℕ → Bool = λ items. are_among items key in
    sym (held-found records key found f ∙ not-true (list_any test found) (sym (all-not test found) ∙ none))

-- what closes the key in the records found closes it
pub closes-found : (records : List (List (ℕ × ℤ))) (key : List ℤ) (found : List (List ℕ)) → Finds records key found
    → (item : ℕ) → closes_at found key item ≡ closes records key item
closes-found records key found f item =
    let test : List ℕ → Bool = λ items. not (are_among items key) || is_among items (pos item) in
    ap (λ b. is_outside key item && b) (
    ap (list_all test) f.is
    ∙ all-filter test (λ items. is_among items f.number) (λ items out. or_left (not (are_among items key))
    (is_among items (pos item)) (not_from_false (are_among items key)
    (lacking records key found f items out))) (map items_in records)
    ∙ list_all-map test items_in records
    ∙ all-same (λ r. test (items_in r)) (λ r. not (holds_key key r) || has item r) (λ r. ap (λ b. not (holds_key key r) || b) (has-among item r)) records
    )

-- as it does in those of them from the first that holds the key on
closes-held_from : (records : List (List (ℕ × ℤ))) (key : List ℤ) (found rest : List (List ℕ)) (items : List ℕ)
    → Finds records key found → IsHeld found key rest items → (item : ℕ) → closes_at rest key item ≡ closes records key item
closes-held_from records key found rest items f h item =
    ap (λ b. is_outside key item && b) (h.stands item) ∙ closes-found records key found f item

-- a record found is one of the records
record_of : (records : List (List (ℕ × ℤ))) (key : List ℤ) (found : List (List ℕ)) → Finds records key found
    → (items : List ℕ) → Contains found items → (r : List (ℕ × ℤ)) × Member r records × (items_in r ≡ items)
record_of records key found f items c =
    let m = subst (Member items) f.is (Member-from_contains items found c) in
    Member-from_map items_in items records (Member-from_filter (λ items. is_among items f.number) items (map items_in records) m).0

pub closed-some : (records : List (List (ℕ × ℤ))) (key : List ℤ) (found rest : List (List ℕ)) (items : List ℕ)
    → Finds records key found → IsHeld found key rest items → is_set_key key ≡ true
    → not (list_any (closes_at rest key) items) ≡ is_closed_key records key
closed-some records key found rest items f h set =
    let r = record_of records key found f items h.part in
    let holds : holds_key key r.0 ≡ true = ap (λ is. are_among is key) r.2 ∙ h.holding.whole in
    ap not (
    any-same (closes_at rest key) (closes records key) (closes-held_from records key found rest items f h) items
    ∙ ap (list_any (closes records key)) (sym r.2)
    ∙ any_closes-one records key r.0 r.1 holds
    )
    ∙ sym (is_closed_key-set records key set)

-- no record holds the key where none of those found does
pub unheld : (records : List (List (ℕ × ℤ))) (key : List ℤ) (found : List (List ℕ)) → Finds records key found
    → list_all (λ items. not (are_among items key)) found ≡ true → list_all (λ r. not (holds_key key r)) records ≡ true
unheld records key found f none =
    let test : List ℕ → Bool = λ items. not (are_among items key) in
    sym (list_all-map test items_in records)
    ∙ sym (all-filter test (λ items. is_among items f.number)
    (λ items out. not_from_false (are_among items key) (lacking records key found f items out))
    (map items_in records))
    ∙ sym (ap (list_all test) f.is)
    ∙ none

-- ---- where no record holds a key

-- the items of the records are those that occur
any-items : (p : ℕ → Bool) (records : List (List (ℕ × ℤ))) → list_any (list_any p) (map items_in records) ≡ list_any p (items_of records)
any-items p records = same_bool (list_any (list_any p) (map items_in records)) (list_any p (items_of records))
    (λ h.
    let items = any-member (list_any p) (map items_in records) h in
    let one = any-member p items.0 items.2 in
    let r = Member-from_map items_in items.0 records items.1 in
    any-from_member p one.0 (items_of records) (occurs records r.0 one.0 r.1 (subst (Member one.0) (sym r.2) one.1)) one.2)
    (λ h.
    let one = any-member p (items_of records) h in
    let r = Member-from_flat_map items_in one.0 records (Member-from_ranking nat_cmp one.0 (flat_map items_in records) one.1) in
    any-from_member (list_any p) (items_in r.0) (map items_in records) (Member-map items_in r.0 records r.1) (any-from_member p one.0 (items_in r.0) r.2 one.2))

-- an item outside it closes it
pub closed-none : (records : List (List (ℕ × ℤ))) (lists : List (List ℕ)) (key : List ℤ) (found : List (List ℕ))
    → lists ≡ map items_in records → Finds records key found → is_set_key key ≡ true
    → list_all (λ items. not (are_among items key)) found ≡ true
    → not (list_any (list_any (is_outside key)) lists) ≡ is_closed_key records key
closed-none records lists key found of f set none =
    let free = unheld records key found f none in
    ap not (
    ap (list_any (list_any (is_outside key))) of
    ∙ any-items (is_outside key) records
    ∙ any-same (is_outside key) (closes records key) (λ item. sym (closes-unheld records key item free)) (items_of records)
    )
    ∙ sym (is_closed_key-set records key set)

-- ---- items of a rank below another

later-below : (r : Option ℕ) (last : ℕ) → is_below (option_map suc r) (suc last) ≡ is_below r last
later-below None last = refl
later-below (Some rank) last = grind (arith, nat_tests)

never-below : (r : Option ℕ) → is_below r 0 ≡ false
never-below None = refl
never-below (Some rank) = grind (arith, nat_tests)

rank-below : (item : ℕ) (table : List ℕ) (last : ℕ) → is_below (rank_in item table) last ≡ list_any (λ other. eqb item other) (take last table)
rank-below item table zero = never-below (rank_in item table)
rank-below item [] (suc last) = refl
rank-below item (x ∷ xs) (suc last) = go (eqb item x) (rank-below item xs last)
  where
    go : (b : Bool) → is_below (rank_in item xs) last ≡ list_any (λ other. eqb item other) (take last xs)
        → is_below (cond b (Some 0) (option_map suc (rank_in item xs))) (suc last) ≡ (b || list_any (λ other. eqb item other) (take last xs))
    go true rest = lt-ltb 0 (suc last) (omega arith)
    go false rest = later-below (rank_in item xs) last ∙ rest

pub has_rank_below-member : (item : ℕ) (table : List ℕ) (last : ℕ) → has_rank_below table last item ≡ list_any (λ other. eqb item other) (take last table)
has_rank_below-member item table last = ap (λ r. is_below r last) (position-rank_in item table) ∙ rank-below item table last

pub below-some : (records : List (List (ℕ × ℤ))) (key : List ℤ) (found rest : List (List ℕ)) (items : List ℕ)
    (table : List ℕ) (last : ℕ) → Finds records key found → IsHeld found key rest items
    → list_any (λ item. has_rank_below table last item && closes_at rest key item) items ≡ closes_below records table key last
below-some records key found rest items table last f h =
    let r = record_of records key found f items h.part in
    let holds : holds_key key r.0 ≡ true = ap (λ is. are_among is key) r.2 ∙ h.holding.whole in
    let found_test : ℕ → Bool = λ item. has_rank_below table last item && closes_at rest key item in
    let test : ℕ → Bool = λ item. has_rank_below table last item && closes records key item in
    any-same found_test test (λ item. ap (λ b. has_rank_below table last item && b) (closes-held_from records key found rest items f h item)) items
    ∙ same_bool (list_any test items) (closes_below records table key last)
    (λ h.
    let one = any-member test items h in
    let both = and_parts (has_rank_below table last one.0) (closes records key one.0) one.2 in
    let other = any-member (λ other. eqb one.0 other) (take last table) (sym (has_rank_below-member one.0 table last) ∙ both.0) in
    any-from_member (closes records key) other.0 (take last table) other.1 (ap (closes records key) (sym (eqb-true one.0 other.0 other.2)) ∙ both.1))
    (λ h.
    let one = any-member (closes records key) (take last table) h in
    let ranked = has_rank_below-member one.0 table last ∙ any-from_member (λ other. eqb one.0 other) one.0 (take last table) one.1 (eq-eqb one.0 one.0 refl) in
    let here = has-member one.0 r.0 (closes-held records key one.0 r.0 one.2 r.1 holds) in
    any-from_member test one.0 items (subst (Member one.0) r.2 here) (and_from (has_rank_below table last one.0) (closes records key one.0) ranked one.2))

pub below-none : (records : List (List (ℕ × ℤ))) (key : List ℤ) (found : List (List ℕ)) (table : List ℕ) (last : ℕ)
    → Finds records key found → list_all (λ items. not (are_among items key)) found ≡ true
    → list_any (is_outside key) (take last table) ≡ closes_below records table key last
below-none records key found table last f none =
    let free = unheld records key found f none in
    any-same (is_outside key) (closes records key) (λ item. sym (closes-unheld records key item free)) (take last table)
