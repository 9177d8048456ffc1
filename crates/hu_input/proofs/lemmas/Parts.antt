-- Texts one after another.
use Rattle.std.proofs.Common.{◌≡◌, ℕ, suc, ◌+◌, ◌<◌, List, ◌∷◌, ◌++◌, length, get_or, take, drop, sym, ap, ◌∙◌, take-append-drop}
use Rattle.std.specs.Prelude.{flat_map}
use Rattle.std.proofs.Math.Numerals.{add-one}
use Rattle.std.proofs.Math.Seq.{drop-cons}
use Rattle.std.proofs.lemmas.List.Concat.{flat_map-append}

-- the texts before a part, its own, and those after it
pub flat_map-split : {X : Type 0} (f : X → List ℕ) (xs : List X) (i : ℕ) (d : X) → i < length xs
    → flat_map f (take i xs) ++ (f (get_or xs i d) ++ flat_map f (drop (i + 1) xs)) ≡ flat_map f xs
flat_map-split f xs i d within =
    ap (λ k. flat_map f (take i xs) ++ (f (get_or xs i d) ++ flat_map f (drop k xs))) (add-one i)
    ∙ sym (flat_map-append f (take i xs) (get_or xs i d ∷ drop (suc i) xs))
    ∙ ap (λ l. flat_map f (take i xs ++ l)) (sym (drop-cons xs i d within))
    ∙ ap (flat_map f) (take-append-drop i xs)
