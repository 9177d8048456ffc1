-- What records say of a key, which is any list of numbers: how many of them hold it, and whether it is that of a closed
-- itemset. After CHARM (Zaki and Hsiao, 2002) and CHUD (Wu, Fournier-Viger, Yu and Tseng, 2011).
use Rattle.std.specs.Prelude.{
  ℕ,
  ◌<◌,
  ◌≤◌,
  ℤ,
  pos,
  negsuc,
  int_lt,
  int_le,
  nat_lt,
  unsigned_abs,
  Bool,
  true,
  not,
  ◌&&◌,
  ◌||◌,
  List,
  [],
  ◌∷◌,
  map,
  take,
  length,
}
use Rattle.std.specs.Ordering.{int_eq}
use Rattle.std.specs.List.{AllByRecursion, count_by, list_all, list_any}
use Rattle.hu_kind.specs.Record.{has, items_in}
use Rattle.hu_kind.specs.Itemsets.{is_closed}
use Rattle.hu_kind.specs.Order.{Ascend}

-- whether a number is one of these items
abbrev pub is_among : List ℕ → ℤ → Bool
is_among items number = list_any (λ item. int_eq number (pos item)) items

-- whether every number of a key is one of these items
abbrev pub are_among : List ℕ → List ℤ → Bool
are_among items key = list_all (is_among items) key

-- whether every number of a key is an item of a record
abbrev pub holds_key : List ℤ → List (ℕ × ℤ) → Bool
holds_key key cells = are_among (items_in cells) key

-- how many records hold a key
abbrev pub key_support : List (List (ℕ × ℤ)) → List ℤ → ℕ
key_support records key = count_by (holds_key key) records

-- whether numbers ascend strictly from above a number on, none above the greatest item
abbrev pub ascends_above : ℤ → List ℤ → Bool
ascends_above below [] = true
ascends_above below (n ∷ ns) = int_lt below n && int_le n (pos 2147483647) && ascends_above n ns

-- whether a key is that of a non-empty itemset: its items ascending
abbrev pub is_set_key : List ℤ → Bool
is_set_key key = nat_lt 0 (length key) && ascends_above (negsuc 0) key

-- whether a key is that of a closed itemset: no occurring item outside it stands in every record that holds it
abbrev pub is_closed_key : List (List (ℕ × ℤ)) → List ℤ → Bool
is_closed_key records key = is_set_key key && is_closed records (map unsigned_abs key)

-- a non-empty itemset
pub record IsSet (items : List ℕ) : Type 0 where
  pub some : 0 < length items
  pub ascending : Ascend items
  pub in_range : AllByRecursion (λ item. item ≤ 2147483647) items

-- whether an item is outside a key
abbrev pub is_outside : List ℤ → ℕ → Bool
is_outside key item = not (list_any (λ n. int_eq n (pos item)) key)

-- whether an item stands in every record that holds a key
abbrev pub stands_with : List (List (ℕ × ℤ)) → List ℤ → ℕ → Bool
stands_with records key item = list_all (λ r. not (holds_key key r) || has item r) records

-- whether an item of a rank below `last`, outside a key, stands in every record that holds the key
abbrev pub closes_below : List (List (ℕ × ℤ)) → List ℕ → List ℤ → ℕ → Bool
closes_below records table key last =
    list_any (λ item. is_outside key item && stands_with records key item) (take last table)
