-- Texts that are written number by number.
use Rattle.std.proofs.Common.{◌≡◌, ℕ, ◌+◌, ◌<◌, ℤ, List, [], ◌∷◌, ◌++◌, length, map, take, get_or, refl, sym, ap, ◌∙◌, append_assoc, arith}
use Rattle.std.specs.List.{join_with_byte}
use Rattle.std.proofs.lemmas.List.{length-map, length-take-le, map-append, take_more}
use Rattle.hu_kind.specs.declared.item.Cell.{Cell}
use Rattle.hu_kind.specs.Cell.{pair_of, pairs_of}
use Rattle.hu_trans.specs.Canonical.{gap}

join-push : (xs : List (List ℕ)) (y : List ℕ) → join_with_byte 32 (xs ++ y ∷ []) ≡ join_with_byte 32 xs ++ (gap (length xs) ++ y)
join-push [] y = refl
join-push (x ∷ []) y = refl
join-push (x ∷ x' ∷ xs) y =
    ap (λ more. x ++ (32 ∷ more)) (join-push (x' ∷ xs) y)
    ∙ sym (append_assoc x (32 ∷ join_with_byte 32 (x' ∷ xs)) (32 ∷ y))

joined-more : (f : ℕ × ℤ → List ℕ) (cells : List Cell) (i : ℕ) (d : Cell) → i < length cells
    → join_with_byte 32 (map f (pairs_of (take (i + 1) cells)))
    ≡ join_with_byte 32 (map f (pairs_of (take i cells))) ++ (gap i ++ f (pair_of (get_or cells i d)))
joined-more f cells i d within =
    let next : pairs_of (take (i + 1) cells) ≡ pairs_of (take i cells) ++ pair_of (get_or cells i d) ∷ [] =
    ap pairs_of (take_more cells i d within) ∙ map-append pair_of (take i cells) (get_or cells i d ∷ []) in
    let texts : map f (pairs_of (take (i + 1) cells)) ≡ map f (pairs_of (take i cells)) ++ f (pair_of (get_or cells i d)) ∷ [] =
    ap (map f) next ∙ map-append f (pairs_of (take i cells)) (pair_of (get_or cells i d) ∷ []) in
    let count : length (map f (pairs_of (take i cells))) ≡ i =
    length-map (pairs_of (take i cells)) f ∙ length-map (take i cells) pair_of ∙ length-take-le i cells (omega arith) in
    ap (join_with_byte 32) texts
    ∙ join-push (map f (pairs_of (take i cells))) (f (pair_of (get_or cells i d)))
    ∙ ap (λ k. join_with_byte 32 (map f (pairs_of (take i cells))) ++ (gap k ++ f (pair_of (get_or cells i d)))) count

-- the text after one more number
pub written-more : (f : ℕ × ℤ → List ℕ) (cells : List Cell) (i : ℕ) (d : Cell) (first now after text : List ℕ) → i < length cells
    → now ≡ first ++ join_with_byte 32 (map f (pairs_of (take i cells))) → text ≡ f (pair_of (get_or cells i d)) → after ≡ now ++ (gap i ++ text)
    → after ≡ first ++ join_with_byte 32 (map f (pairs_of (take (i + 1) cells)))
written-more f cells i d first now after text within so_far told next =
    next
    ∙ ap (λ written. written ++ (gap i ++ text)) so_far
    ∙ append_assoc first (join_with_byte 32 (map f (pairs_of (take i cells)))) (gap i ++ text)
    ∙ ap (λ last. first ++ (join_with_byte 32 (map f (pairs_of (take i cells))) ++ (gap i ++ last))) told
    ∙ ap (λ more. first ++ more) (sym (joined-more f cells i d within))
