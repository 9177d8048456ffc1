-- A map or a set by items is read as one by their numbers.
use Rattle.std.proofs.Common.{◌≡◌, ℕ, ◌+◌, Bool, true, false, not, cond, List, [], ◌∷◌, ◌∙◌, map, position, slice_get, None, Some, refl, sym, ap, nat_eq}
use Rattle.std.specs.List.{position_or_len}
use Rattle.std.specs.Map.{keys_of, lookup}
use Rattle.std.specs.Option.{unwrap_or}
use Rattle.std.proofs.lemmas.List.{length-map}
use Rattle.indexmap.specs.IndexMap.{insert_entry, set_value_at}
use Rattle.indexmap.proofs.MapLemmas.{Found-position, insert_entry-first}
use Rattle.hu_kind.specs.declared.item.Item.{Item}
use Rattle.hu_totals.specs.declared.totals.ItemTotal.{ItemTotal}
use Rattle.hu_totals.specs.Totals.{numbered}
use Rattle.hu_totals.specs.Adding.{no_total, pairs_with, total_at, total_in}
use Rattle.hu_totals.specs.Weights.{same_item}

pub lookup-pairs_with : (item : Item) (entries : List (Item × ItemTotal)) → lookup (nat_eq item.0) (pairs_with entries) ≡ lookup (same_item item) entries
lookup-pairs_with item [] = refl
lookup-pairs_with item (e ∷ es) = ap (cond (nat_eq item.0 e.0.0) (Some e.1)) (lookup-pairs_with item es)

insert-pairs_with-cons : (b : Bool) (item : Item) (total : ItemTotal) (e : Item × ItemTotal) (es : List (Item × ItemTotal))
    → pairs_with (insert_entry same_item es item total) ≡ insert_entry nat_eq (pairs_with es) item.0 total
    → pairs_with (cond b ((e.0, total) ∷ es) (e ∷ insert_entry same_item es item total))
    ≡ cond b ((e.0.0, total) ∷ pairs_with es) (numbered e ∷ insert_entry nat_eq (pairs_with es) item.0 total)
insert-pairs_with-cons true item total e es ih = refl
insert-pairs_with-cons false item total e es ih = ap (λ rest. numbered e ∷ rest) ih

pub insert-pairs_with : (item : Item) (total : ItemTotal) (entries : List (Item × ItemTotal))
    → pairs_with (insert_entry same_item entries item total) ≡ insert_entry nat_eq (pairs_with entries) item.0 total
insert-pairs_with item total [] = refl
insert-pairs_with item total (e ∷ es) = insert-pairs_with-cons (nat_eq item.0 e.0.0) item total e es (insert-pairs_with item total es)

-- a new total at the place of an item
pub set-pairs_with : (item : Item) (total : ItemTotal) (entries : List (Item × ItemTotal)) (place : ℕ)
    → position (same_item item) (keys_of entries) ≡ Some place
    → pairs_with (set_value_at entries place total) ≡ insert_entry nat_eq (pairs_with entries) item.0 total
set-pairs_with item total entries place at =
    let first = (Found-position (same_item item) entries place at).first in
    ap pairs_with (sym (insert_entry-first same_item item total entries place first))
    ∙ insert-pairs_with item total entries

-- an item's total stands at its place
pub total_in-at : (item : Item) (entries : List (Item × ItemTotal)) (place : ℕ)
    → slice_get (map (λ e. e.1) entries) place ≡ lookup (same_item item) entries
    → total_in (pairs_with entries) item.0 ≡ total_at entries place
total_in-at item entries place at = ap (λ t. unwrap_or t no_total) (lookup-pairs_with item entries ∙ sym at)

-- an item that doesn't occur has none
pub total_in-none : (item : Item) (entries : List (Item × ItemTotal)) → lookup (same_item item) entries ≡ None
    → total_in (pairs_with entries) item.0 ≡ no_total
total_in-none item entries none = ap (λ t. unwrap_or t no_total) (lookup-pairs_with item entries ∙ none)

place-numbers : (item : Item) (items : List Item) → position_or_len (nat_eq item.0) (map (λ i. i.0) items) ≡ position_or_len (same_item item) items
place-numbers item [] = refl
place-numbers item (i ∷ is) = ap (λ k. cond (not (nat_eq item.0 i.0)) (1 + k) 0) (place-numbers item is)

pub position-numbers : (item : Item) (items : List Item) → position (nat_eq item.0) (map (λ i. i.0) items) ≡ position (same_item item) items
position-numbers item items =
    let place = place-numbers item items in
    let len = length-map items (λ i. i.0) in
    cc
