-- What closes a key, by its numbers and by the items of its set.
use Rattle.std.proofs.Common.{◌≡◌, ◌∙◌, ℕ, ◌<◌, ◌≤◌, ℤ, pos, negsuc, ◌<ℤ◌, ◌≤ℤ◌, int_lt, int_le, nat_lt, unsigned_abs, Bool, true, false, not, ◌&&◌, ◌||◌, eqb}
use Rattle.std.proofs.Common.{List, [], ◌∷◌, map, length, refl, sym, ap, inl, inr, arith, flat_map}
use Rattle.std.specs.List.{AllByRecursion, list_all, list_any}
use Rattle.std.specs.Ordering.{int_eq}
use Rattle.std.proofs.lemmas.Int.{ints}
use Rattle.std.proofs.lemmas.Bool.{and_parts, and_from, lt-ltb, or_cases, or_left, not_from_true}
use Rattle.std.proofs.lemmas.Bool.Decides.{Decides-int_eq, Decides-eqb, same_from_decides}
use Rattle.std.proofs.Math.Bool.{and-true}
use Rattle.std.proofs.lemmas.List.{length-map}
use Rattle.std.proofs.lemmas.List.Folds.{list_all-map}
use Rattle.hu_kind.specs.Order.{Ascend}
use Rattle.hu_kind.specs.Record.{has, holds, items_in}
use Rattle.hu_kind.specs.Database.{support, items_of}
use Rattle.hu_kind.specs.Itemsets.{is_closed, goes_with}
use Rattle.hu_kind.proofs.lemmas.Members.{Member, Member-flat_map}
use Rattle.hu_kind.proofs.lemmas.Occurring.{Member-ranking, has-member}
use Rattle.hu_kind.proofs.lemmas.Tests.{all-at_member, all-by_members}
use Rattle.hu_closed.specs.Keys.{ascends_above, holds_key, is_among, is_closed_key, is_outside, is_set_key, key_support, stands_with, IsSet}
use Rattle.hu_closed.proofs.KeyLemmas.{ascends-next}
use Rattle.hu_closed.proofs.ListTests.{all-not, all-same, any-members, count-same}

-- ---- numbers that are not below 0

pub same_item : (i j : ℕ) → int_eq (pos i) (pos j) ≡ eqb i j
same_item i j = same_from_decides (int_eq (pos i) (pos j)) (eqb i j)
    ((λ h. let same = (Decides-int_eq (pos i) (pos j)).0 h in omega (arith, ints, same)), (λ e. (Decides-int_eq (pos i) (pos j)).1 (ap pos e)))
    (Decides-eqb i j)

pub has-among : (item : ℕ) (cells : List (ℕ × ℤ)) → is_among (items_in cells) (pos item) ≡ has item cells
has-among item [] = refl
has-among item (cell ∷ cells) = rw (same_item item cell.0, has-among item cells) refl

pub holds-key : (items : List ℕ) (cells : List (ℕ × ℤ)) → holds_key (map pos items) cells ≡ holds items cells
holds-key items cells = list_all-map (is_among (items_in cells)) pos items
    ∙ all-same (λ item. is_among (items_in cells) (pos item)) (λ item. has item cells)
    (λ item. has-among item cells) items

pub support-key : (records : List (List (ℕ × ℤ))) (items : List ℕ) → key_support records (map pos items) ≡ support records items
support-key records items = count-same (holds_key (map pos items)) (holds items) (holds-key items) records

eqb-sym : (i j : ℕ) → eqb i j ≡ eqb j i
eqb-sym i j = same_from_decides (eqb i j) (eqb j i) (Decides-eqb i j) ((λ h. sym ((Decides-eqb j i).0 h)), (λ e. (Decides-eqb j i).1 (sym e)))

outside-items : (items : List ℕ) (i : ℕ) → list_any (λ n. int_eq n (pos i)) (map pos items) ≡ list_any (λ j. eqb i j) items
outside-items [] i = refl
outside-items (j ∷ items) i = rw (same_item j i ∙ eqb-sym j i, outside-items items i) refl

pub stands-items : (records : List (List (ℕ × ℤ))) (items : List ℕ) (i : ℕ) → stands_with records (map pos items) i ≡ goes_with records items i
stands-items records items i =
    all-same (λ r. not (holds_key (map pos items) r) || has i r) (λ r. not (holds items r) || has i r)
    (λ r. ap (λ b. not b || has i r) (holds-key items r)) records

-- ---- a set is closed where nothing closes its key

-- whether an item closes a key
abbrev pub closes : List (List (ℕ × ℤ)) → List ℤ → ℕ → Bool
closes records key item = is_outside key item && stands_with records key item

or-not : (a b : Bool) → (a || not b) ≡ not (not a && b)
or-not true b = refl
or-not false b = refl

pub is_closed-items : (records : List (List (ℕ × ℤ))) (items : List ℕ) → is_closed records items
    ≡ not (list_any (closes records (map pos items)) (items_of records))
is_closed-items records items =
    all-same (λ i. list_any (λ j. eqb i j) items || not (goes_with records items i)) (λ i. not (closes records (map pos items) i)) (λ i.
    or-not (list_any (λ j. eqb i j) items) (goes_with records items i)
    ∙ sym (λ k. not (not (outside-items items i k) && stands-items records items i k))) (items_of records)
    ∙ all-not (closes records (map pos items)) (items_of records)

-- ---- keys of sets

items_of_key : (below : ℤ) (key : List ℤ) → ascends_above below key ≡ true → negsuc 0 ≤ℤ below → map pos (map unsigned_abs key) ≡ key
items_of_key below [] h low = refl
items_of_key below (n ∷ ns) h low =
    let next = ascends-next below n ns h in
    let above : pos 0 ≤ℤ n = omega (arith, ints, next.0) in
    (λ j. same n above j ∷ items_of_key n ns next.2 (omega (arith, ints, above)) j)
  where
    same : (n : ℤ) → pos 0 ≤ℤ n → pos (unsigned_abs n) ≡ n
    same (pos n) above = refl
    same (negsuc n) above = absurd (omega (arith, ints))

pub key-items : (key : List ℤ) → is_set_key key ≡ true → map pos (map unsigned_abs key) ≡ key
key-items key h = items_of_key (negsuc 0) key (and_parts (nat_lt 0 (length key)) (ascends_above (negsuc 0) key) h).1 (omega (arith, ints))

-- a key of a set is closed where nothing closes it
pub is_closed_key-set : (records : List (List (ℕ × ℤ))) (key : List ℤ) → is_set_key key ≡ true
    → is_closed_key records key ≡ not (list_any (closes records key) (items_of records))
is_closed_key-set records key h =
    ap (λ b. b && is_closed records (map unsigned_abs key)) h
    ∙ is_closed-items records (map unsigned_abs key)
    ∙ ap (λ k. not (list_any (closes records k) (items_of records))) (key-items key h)

ascends-items : (below : ℤ) (items : List ℕ) → AllByRecursion (λ i. below <ℤ pos i) items → Ascend items
    → AllByRecursion (λ i. i ≤ 2147483647) items → ascends_above below (map pos items) ≡ true
ascends-items below [] low up high = refl
ascends-items below (i ∷ items) low up high =
    let first = low.0 in
    let last = high.0 in
    let a : int_lt below (pos i) ≡ true = grind (arith, ints) in
    let b : int_le (pos i) (pos 2147483647) ≡ true = grind (arith, ints) in
    and_from (int_lt below (pos i) && int_le (pos i) (pos 2147483647)) (ascends_above (pos i) (map pos items))
    (and_from (int_lt below (pos i)) (int_le (pos i) (pos 2147483647)) a b)
    (ascends-items (pos i) items (each (λ (j : ℕ). i < j) (λ (j : ℕ). pos i <ℤ pos j) items (λ j below. omega (arith, ints)) up.0) up.1 high.1)
  where
    each : (P Q : ℕ → Type 0) (xs : List ℕ) → ((x : ℕ) → P x → Q x) → AllByRecursion P xs → AllByRecursion Q xs
    each P Q [] f all = tt
    each P Q (x ∷ xs) f all = (f x all.0, each P Q xs f all.1)

above_none : (items : List ℕ) → AllByRecursion (λ i. negsuc 0 <ℤ pos i) items
above_none [] = tt
above_none (i ∷ items) = (omega (arith, ints), above_none items)

pub set_key-items : (items : List ℕ) → IsSet items → is_set_key (map pos items) ≡ true
set_key-items items is =
    let some : nat_lt 0 (length (map pos items)) ≡ true = lt-ltb 0 (length (map pos items)) (omega (arith, is.some, length-map items pos)) in
    and_from (nat_lt 0 (length (map pos items))) (ascends_above (negsuc 0) (map pos items)) some
    (ascends-items (negsuc 0) items (above_none items) is.ascending is.in_range)

pub is_closed_key-items : (records : List (List (ℕ × ℤ))) (items : List ℕ) → IsSet items → is_closed_key records (map pos items) ≡ is_closed records items
is_closed_key-items records items is =
    is_closed_key-set records (map pos items) (set_key-items items is) ∙ sym (is_closed-items records items)

-- ---- where an item that closes a key stands

-- it occurs in each record that holds the key
pub closes-held : (records : List (List (ℕ × ℤ))) (key : List ℤ) (item : ℕ) (r : List (ℕ × ℤ)) → closes records key item
    ≡ true → Member r records → holds_key key r ≡ true → has item r ≡ true
closes-held records key item r h m holds =
    let stands = (and_parts (is_outside key item) (stands_with records key item) h).1 in
    elim (or_cases (not (holds_key key r)) (has item r) (all-at_member (λ r. not (holds_key key r) || has item r) r records stands m)) [
      | inl no_hold ↦ let contrary = not_from_true (holds_key key r) holds in cc
      | inr here ↦ here
    ]

pub occurs : (records : List (List (ℕ × ℤ))) (r : List (ℕ × ℤ)) (item : ℕ) → Member r records → Member item (items_in r) → Member item (items_of records)
occurs records r item m n = Member-ranking item (flat_map items_in records) (Member-flat_map items_in r item records m n)

-- so it is enough to try the items of one of these
pub any_closes-one : (records : List (List (ℕ × ℤ))) (key : List ℤ) (r : List (ℕ × ℤ)) → Member r records
    → holds_key key r ≡ true → list_any (closes records key) (items_in r)
    ≡ list_any (closes records key) (items_of records)
any_closes-one records key r m holds = any-members (closes records key) (items_in r) (items_of records)
    (λ item h n. occurs records r item m n)
    (λ item h n. has-member item r (closes-held records key item r h m holds))

-- where no record holds the key, each item outside it closes it
pub closes-unheld : (records : List (List (ℕ × ℤ))) (key : List ℤ) (item : ℕ)
    → list_all (λ r. not (holds_key key r)) records ≡ true → closes records key item ≡ is_outside key item
closes-unheld records key item none =
    let all =
    all-by_members (λ r. not (holds_key key r) || has item r) records
    (λ r m. or_left (not (holds_key key r)) (has item r) (all-at_member (λ r. not (holds_key key r)) r records none m)) in
    ap (λ b. is_outside key item && b) all ∙ and-true (is_outside key item)
