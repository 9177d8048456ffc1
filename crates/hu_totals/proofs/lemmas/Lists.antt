-- Vectors that go along with ranks, seen as lists.
use Rattle.std.proofs.Common.{◌≡◌, ℕ, zero, suc, List, [], ◌∷◌, map, length, get_or, replicate, refl, sym, ap, ◌∙◌}
use Rattle.std.proofs.lemmas.List.{length-map, length-replicate}
use Rattle.std.specs.declared.vec.Vec.{Vec}
use Rattle.std.specs.declared.alloc.Global.{Global}
use Rattle.hu_totals.specs.View.{lists_in}

-- the values of each list may be seen through a map
pub lists-seen : {A B : Type 0} (f : A → B) (lists : List (Vec A Global)) → map (λ list. map f list.items) lists ≡ map (map f) (lists_in lists)
lists-seen f [] = refl
lists-seen f (list ∷ lists) = ap (λ seen. map f list.items ∷ seen) (lists-seen f lists)

map-empty : {A B : Type 0} (f : A → B) (n : ℕ) → map (map f) (replicate n []) ≡ replicate n []
map-empty f zero = refl
map-empty f (suc n) = ap (λ lists. [] ∷ lists) (map-empty f n)

-- empty lists are seen as empty ones
pub empty-seen : {A B : Type 0} (f : A → B) (lists : List (Vec A Global)) (n : ℕ) → lists_in lists ≡ replicate n []
    → map (λ list. map f list.items) lists ≡ replicate n []
empty-seen f lists n none = lists-seen f lists ∙ ap (map (map f)) none ∙ map-empty f n

-- there are so many of them
pub empty-count : {A : Type 0} (lists : List (Vec A Global)) (n : ℕ) → lists_in lists ≡ replicate n [] → length lists ≡ n
empty-count {A} lists n none =
    sym (length-map lists (λ (list : Vec A Global). list.items)) ∙ ap length none ∙ length-replicate {A = List A} n []

-- one of them is empty
pub empty-at : {A : Type 0} (n i : ℕ) → get_or {A = List A} (replicate n []) i [] ≡ []
empty-at zero i = refl
empty-at (suc n) zero = refl
empty-at (suc n) (suc i) = empty-at n i
