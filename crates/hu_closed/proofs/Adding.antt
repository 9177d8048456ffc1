-- A place more for an item.
use Rattle.std.proofs.Common.{◌≡◌, ◌∙◌, ℕ, ℤ, pos, Bool, true, false, cond, List, [], ◌∷◌, ◌++◌, refl, sym, ap}
use Rattle.std.specs.Ordering.{int_eq}
use Rattle.std.proofs.lemmas.List.{append-nil}
use Rattle.hu_closed.specs.Holders.{AreHolders}
use Rattle.hu_closed.specs.Places.{places_at, with_place}
use Rattle.hu_closed.proofs.Pairs.{places_with-more}
use Rattle.hu_closed.proofs.lemmas.PlaceLists.{places_at-with_place}

in-turn : (b : Bool) (places : List ℕ) (place : ℕ) → cond b (places ++ place ∷ []) places ≡ places ++ cond b (place ∷ []) []
in-turn true places place = refl
in-turn false places place = sym (append-nil places)

pub AreHolders-more : (old new : List (ℤ × List ℕ)) (pairs : List (ℕ × ℕ)) (item place : ℕ) → AreHolders old pairs
    → new ≡ with_place old (pos item) place → AreHolders new (pairs ++ (item, place) ∷ [])
AreHolders-more old new pairs item place are is z =
    let b = int_eq z (pos item) in
    ap (λ lists. places_at lists z) is
    ∙ places_at-with_place old (pos item) place z
    ∙ in-turn b (places_at old z) place
    ∙ ap (λ places. places ++ cond b (place ∷ []) []) (are z)
    ∙ sym (places_with-more z pairs item place)
