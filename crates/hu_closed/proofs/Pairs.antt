-- The holders of records as pairs (item, place), and the places of one item.
use Rattle.std.proofs.Common.{◌≡◌, ◌∙◌, ℕ, suc, ◌+◌, ◌<◌, ℤ, pos, Bool, true, false, cond, List, [], ◌∷◌, ◌++◌, map}
use Rattle.std.proofs.Common.{length, get_or, take, refl, sym, ap, arith}
use Rattle.std.specs.Ordering.{int_eq}
use Rattle.std.specs.declared.vec.Vec.{Vec}
use Rattle.std.specs.declared.alloc.Global.{Global}
use Rattle.std.proofs.lemmas.List.{append-nil, append_assoc, length-map, length-take, map-append, take_more}
use Rattle.std.proofs.lemmas.List.Elements.{filter-append}
use Rattle.hu_kind.specs.declared.item.Item.{Item}
use Rattle.hu_totals.specs.Weights.{numbers_of}
use Rattle.hu_closed.specs.Holders.{lists_of, pairs_from, pairs_with, places_with}

-- records after others have the places after theirs
pub pairs_from-append : (place : ℕ) (xs ys : List (List ℕ)) → pairs_from place (xs ++ ys) ≡ pairs_from place xs ++ pairs_from (place + length xs) ys
pairs_from-append place [] ys = let same : place + 0 ≡ place = omega arith in rw same refl
pairs_from-append place (x ∷ xs) ys =
    let same : (place + 1) + length xs ≡ place + suc (length xs) = omega arith in
    ap (λ rest. map (λ item. (item, place)) x ++ rest) (pairs_from-append (place + 1) xs ys)
    ∙ ap (λ n. map (λ item. (item, place)) x ++ (pairs_from (place + 1) xs ++ pairs_from n ys)) same
    ∙ sym (append_assoc (map (λ item. (item, place)) x) (pairs_from (place + 1) xs) (pairs_from (place + suc (length xs)) ys))

-- one more record
pub pairs_from-more : (lists : List (Vec Item Global)) (i : ℕ) (d : Vec Item Global) → i < length lists
    → pairs_from 0 (lists_of (take (i + 1) lists)) ≡ pairs_from 0 (lists_of (take i lists)) ++ map (λ item. (item, i)) (numbers_of (get_or lists i d).items)
pairs_from-more lists i d within =
    let last = numbers_of (get_or lists i d).items in
    let many : 0 + length (lists_of (take i lists)) ≡ i =
    omega (arith, length-map (take i lists) (λ (v : Vec Item Global). numbers_of v.items), length-take i lists) in
    ap (λ vs. pairs_from 0 (lists_of vs)) (take_more lists i d within)
    ∙ ap (pairs_from 0) (map-append (λ (v : Vec Item Global). numbers_of v.items) (take i lists) (get_or lists i d ∷ []))
    ∙ pairs_from-append 0 (lists_of (take i lists)) (last ∷ [])
    ∙ ap (λ n. pairs_from 0 (lists_of (take i lists)) ++ pairs_from n (last ∷ [])) many
    ∙ ap (λ rest. pairs_from 0 (lists_of (take i lists)) ++ rest) (append-nil (map (λ item. (item, i)) last))

-- one more item of a record
pub pairs-more : (pairs : List (ℕ × ℕ)) (items : List Item) (place i : ℕ) (d : Item) → i < length items
    → (pairs ++ map (λ item. (item, place)) (numbers_of (take i items))) ++ ((get_or items i d).0, place) ∷ []
    ≡ pairs ++ map (λ item. (item, place)) (numbers_of (take (i + 1) items))
pairs-more pairs items place i d within =
    let pair : ℕ → ℕ × ℕ = λ item. (item, place) in
    let before = map pair (numbers_of (take i items)) in
    let last = (get_or items i d).0 in
    append_assoc pairs before ((last, place) ∷ [])
    ∙ ap (λ more. pairs ++ more) (sym (
    ap (λ taken. map pair (numbers_of taken)) (take_more items i d within)
    ∙ ap (map pair) (map-append (λ (item : Item). item.0) (take i items) (get_or items i d ∷ []))
    ∙ map-append pair (numbers_of (take i items)) (last ∷ [])
    ))

one-place : (b : Bool) (item place : ℕ) → map (λ (pair : ℕ × ℕ). pair.1) (cond b ((item, place) ∷ []) []) ≡ cond b (place ∷ []) []
one-place true item place = refl
one-place false item place = refl

-- the places of a number, with one pair more
pub places_with-more : (number : ℤ) (pairs : List (ℕ × ℕ)) (item place : ℕ)
    → places_with number (pairs ++ (item, place) ∷ []) ≡ places_with number pairs ++ cond (int_eq number (pos item)) (place ∷ []) []
places_with-more number pairs item place =
    ap (map (λ (pair : ℕ × ℕ). pair.1)) (filter-append (λ (pair : ℕ × ℕ). int_eq number (pos pair.0)) pairs ((item, place) ∷ []))
    ∙ map-append (λ (pair : ℕ × ℕ). pair.1) (pairs_with number pairs) (pairs_with number ((item, place) ∷ []))
    ∙ ap (λ more. places_with number pairs ++ more) (one-place (int_eq number (pos item)) item place)
