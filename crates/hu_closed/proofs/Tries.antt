-- Tests of items in turn.
use Rattle.std.proofs.Common.{◌≡◌, ◌∙◌, ℕ, ◌+◌, ◌<◌, Bool, true, false, ◌||◌, List, [], ◌∷◌, length, get_or, take, refl, ap, arith}
use Rattle.std.specs.List.{list_any}
use Rattle.std.proofs.lemmas.Bool.{or_from}
use Rattle.std.proofs.lemmas.List.{get_or-map, length-map, map-append, take_more}
use Rattle.std.proofs.lemmas.List.Folds.{list_any_at, list_any-append}
use Rattle.hu_kind.specs.declared.item.Item.{Item}
use Rattle.hu_totals.specs.Weights.{numbers_of}

-- an item that passes settles the answer
pub any_number-at : (p : ℕ → Bool) (items : List Item) (i : ℕ) (d : Item) → i < length items → p (get_or items i d).0
    ≡ true → list_any p (numbers_of items) ≡ true
any_number-at p items i d within passes =
    let inside : i < length (numbers_of items) = omega (arith, length-map items (λ (item : Item). item.0)) in
    list_any_at p (numbers_of items) i 0 inside (ap p (get_or-map (λ (item : Item). item.0) items i d 0 within) ∙ passes)

-- one more that doesn't pass changes nothing
pub any_number-more : (p : ℕ → Bool) (items : List Item) (i : ℕ) (d : Item) → i < length items
    → list_any p (numbers_of (take i items)) ≡ false → p (get_or items i d).0 ≡ false
    → list_any p (numbers_of (take (i + 1) items)) ≡ false
any_number-more p items i d within before fails =
    let last = (get_or items i d).0 in
    ap (λ taken. list_any p (numbers_of taken)) (take_more items i d within)
    ∙ ap (list_any p) (map-append (λ (item : Item). item.0) (take i items) (get_or items i d ∷ []))
    ∙ list_any-append p (numbers_of (take i items)) (last ∷ [])
    ∙ or_from (list_any p (numbers_of (take i items))) (p last || false) before (or_from (p last) false fails refl)
