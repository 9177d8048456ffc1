-- Texts that are written piece by piece.
use Rattle.std.proofs.Common.{◌≡◌, ℕ, ◌+◌, ◌<◌, ◌≤◌, List, [], ◌∷◌, ◌++◌, length, take, get_or, sym, ap, ◌∙◌, append_assoc, flat_map}
use Rattle.std.proofs.lemmas.List.{take_more, take_all, append-nil}
use Rattle.std.proofs.lemmas.Grind.{flat_map-append}

more : {X : Type 0} (f : X → List ℕ) (xs : List X) (i : ℕ) (d : X) → i < length xs → flat_map f (take (i + 1) xs) ≡ flat_map f (take i xs) ++ f (get_or xs i d)
more f xs i d within =
    ap (flat_map f) (take_more xs i d within)
    ∙ flat_map-append f (take i xs) (get_or xs i d ∷ [])
    ∙ ap (λ last. flat_map f (take i xs) ++ last) (append-nil (f (get_or xs i d)))

-- the text after one more piece
pub written-more : {X : Type 0} (f : X → List ℕ) (xs : List X) (i : ℕ) (d : X) (first now after : List ℕ) → i < length xs
    → now ≡ first ++ flat_map f (take i xs) → after ≡ now ++ f (get_or xs i d) → after ≡ first ++ flat_map f (take (i + 1) xs)
written-more f xs i d first now after within so_far next =
    next
    ∙ ap (λ written. written ++ f (get_or xs i d)) so_far
    ∙ append_assoc first (flat_map f (take i xs)) (f (get_or xs i d))
    ∙ ap (λ last. first ++ last) (sym (more f xs i d within))

-- the text of all pieces, and what stands behind it
pub written-all : {X : Type 0} (f : X → List ℕ) (xs : List X) (i : ℕ) (first now last after : List ℕ) → length xs ≤ i
    → now ≡ first ++ flat_map f (take i xs) → after ≡ now ++ last → after ≡ first ++ (flat_map f xs ++ last)
written-all f xs i first now last after past so_far next =
    next
    ∙ ap (λ written. written ++ last) (so_far ∙ ap (λ pieces. first ++ flat_map f pieces) (take_all i xs past))
    ∙ append_assoc first (flat_map f xs) last
