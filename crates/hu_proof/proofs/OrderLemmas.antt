-- Items by their numbers, in an order.
use Rattle.std.proofs.Common.{◌≡◌, ℕ, zero, suc, ◌+◌, ◌<◌, Bool, false, not, cond, eqb, nat_eq, List, [], ◌∷◌, ◌++◌, length, take, get_or, position, refl, sym}
use Rattle.std.proofs.Common.{ap, subst, arith}
use Rattle.std.specs.List.{position_or_len, list_any}
use Rattle.std.specs.Ordering.{on}
use Rattle.std.proofs.lemmas.Bool.{ne_eqb, or_from}
use Rattle.std.proofs.lemmas.List.{length-map, take_more}
use Rattle.hu_kind.specs.declared.item.Item.{Item}
use Rattle.hu_kind.proofs.lemmas.Members.{Member, Member-map, Member-get}
use Rattle.hu_proof.specs.Places.{Apart}
use Rattle.hu_proof.specs.Words.{numbers_of}

-- ---- a list sorted and without its repetitions is its ranking

-- ---- items as a set, by their numbers

-- whether two items have one number
abbrev pub same_item : Item → Item → Bool
same_item = on (λ item. item.0) nat_eq

place-numbers : (item : Item) (items : List Item) → position_or_len (nat_eq item.0) (numbers_of items) ≡ position_or_len (same_item item) items
place-numbers item [] = refl
place-numbers item (i ∷ is) = ap (λ k. cond (not (nat_eq item.0 i.0)) (1 + k) 0) (place-numbers item is)

pub position-numbers : (item : Item) (items : List Item) → position (nat_eq item.0) (numbers_of items) ≡ position (same_item item) items
position-numbers item items =
    let place = place-numbers item items in
    let len = length-map items (λ i. i.0) in
    cc

fresh-item : (items : List Item) (i : ℕ) (d : Item) → Apart (numbers_of items) → i < length items
    → list_any (same_item (get_or items i d)) (take i items) ≡ false
fresh-item [] i d apart within = absurd (omega arith)
fresh-item (x ∷ xs) zero d apart within = refl
fresh-item (x ∷ xs) (suc i) d apart within =
    let later = fresh-item xs i d apart.1 (omega arith) in
    let member = Member-map (λ (item : Item). item.0) (get_or xs i d) xs (Member-get xs i d (omega arith)) in
    let other : eqb (get_or xs i d).0 x.0 ≡ false = ne_eqb (get_or xs i d).0 x.0 (λ e. apart.0 (subst (λ n. Member n (numbers_of xs)) e member)) in
    or_from (eqb (get_or xs i d).0 x.0) (list_any (same_item (get_or xs i d)) (take i xs)) other later

-- an item that isn't there is put last
pub put-next : (items : List Item) (i : ℕ) (d : Item) (keys : List Item) → Apart (numbers_of items) → i < length items → keys ≡ take i items
    → cond (list_any (same_item (get_or items i d)) keys) keys (keys ++ get_or items i d ∷ []) ≡ take (i + 1) items
put-next items i d keys apart within e = rw (e, fresh-item items i d apart within) (sym (take_more items i d within))
