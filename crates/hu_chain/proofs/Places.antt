-- The places of a pattern, by the elements before and after each: their order, their greatest utility and their rules.
use Rattle.std.proofs.Common.{◌≡◌, ℕ, suc, ℤ, ◌+ℤ◌, Option, None, Some, option_map, option_to_list, List, [], ◌∷◌, ◌++◌}
use Rattle.std.proofs.Common.{length, take, drop, refl, sym, ap, ◌∙◌, arith, append_assoc, append-nil, length-append}
use Rattle.std.proofs.Common.{IsNone, ◌↔◌}
use Rattle.hu_kind.specs.Record.{total}
use Rattle.hu_kind.specs.Sequence.{better, best_utility}
use Rattle.hu_chain.specs.declared.place.Place.{Place}
use Rattle.hu_chain.specs.Pattern.{earlier, last_item, last_itemset, Ends}
use Rattle.hu_chain.specs.Place.{cell_of, chain_of, element_at, place_at, places_from, totals}
use Rattle.hu_chain.specs.Bound.{best_of}
use Rattle.hu_kind.proofs.lemmas.Better.{better-none, better-assoc}
use Rattle.hu_chain.proofs.Endings.{ended, best_utility-more, best_utility-nowhere}

-- the elements of a sequence before one, it, and those after it
pub element_at-between : (before : List (List (ℕ × ℤ))) (cells : List (ℕ × ℤ)) (later : List (List (ℕ × ℤ)))
    → element_at (before ++ cells ∷ later) (length before) ≡ cells
element_at-between [] cells later = refl
element_at-between (e ∷ before) cells later = element_at-between before cells later

pub take-between : (before : List (List (ℕ × ℤ))) (later : List (List (ℕ × ℤ))) → take (length before) (before ++ later) ≡ before
take-between [] later = refl
take-between (e ∷ before) later = ap (λ es. e ∷ es) (take-between before later)

pub drop-between : (before : List (List (ℕ × ℤ))) (cells : List (ℕ × ℤ)) (later : List (List (ℕ × ℤ)))
    → drop (suc (length before)) (before ++ cells ∷ later) ≡ later
drop-between [] cells later = refl
drop-between (e ∷ before) cells later = drop-between before cells later

pub length-more : (before : List (List (ℕ × ℤ))) (cells : List (ℕ × ℤ)) → length (before ++ cells ∷ []) ≡ suc (length before)
length-more before cells = omega (arith, length-append before (cells ∷ []))

-- the place of a pattern that ends in an element, by its best utility there
abbrev pub place_by : List (List ℕ) → ℕ → List (ℕ × ℤ) → List (List (ℕ × ℤ)) → ℤ → Place
place_by pattern e cells later u = record {
  element = e;
  cell = cell_of (last_item pattern) cells;
  best = u;
  rest = total (drop (suc (cell_of (last_item pattern) cells)) cells) +ℤ totals later;
}

-- the place at which a pattern ends in an element, with the elements before and after it
abbrev pub place_in : List (List ℕ) → List (List (ℕ × ℤ)) → List (ℕ × ℤ) → List (List (ℕ × ℤ)) → Option Place
place_in pattern before cells later = option_map (place_by pattern (length before) cells later) (ended (earlier pattern) (last_itemset pattern) before cells)

-- the places in the elements after others
abbrev pub places_in : List (List ℕ) → List (List (ℕ × ℤ)) → List (List (ℕ × ℤ)) → List Place
places_in pattern before [] = []
places_in pattern before (cells ∷ later) = option_to_list (place_in pattern before cells later) ++ places_in pattern (before ++ cells ∷ []) later

pub place_at-between : (pattern : List (List ℕ)) (before : List (List (ℕ × ℤ))) (cells : List (ℕ × ℤ)) (later : List (List (ℕ × ℤ)))
    → place_at pattern (before ++ cells ∷ later) (length before) ≡ place_in pattern before cells later
place_at-between pattern before cells later =
    let P : List (ℕ × ℤ) → List (List (ℕ × ℤ)) → List (List (ℕ × ℤ)) → Option Place =
    λ cs es ls. option_map (place_by pattern (length before) cs ls) (ended (earlier pattern) (last_itemset pattern) es cs) in
    ap (λ cs. P cs (take (length before) (before ++ cells ∷ later))
    (drop (suc (length before)) (before ++ cells ∷ later))) (element_at-between before cells later)
    ∙ ap (λ es. P cells es (drop (suc (length before)) (before ++ cells ∷ later))) (take-between before (cells ∷ later))
    ∙ ap (λ ls. P cells before ls) (drop-between before cells later)

pub places_from-between : (pattern : List (List ℕ)) (before later : List (List (ℕ × ℤ)))
    → places_from pattern (before ++ later) (length before) later ≡ places_in pattern before later
places_from-between pattern before [] = refl
places_from-between pattern before (cells ∷ later) =
    let more : List (List (ℕ × ℤ)) = before ++ cells ∷ [] in
    let ih = places_from-between pattern more later in
    let moved : places_from pattern (before ++ cells ∷ later) (suc (length before)) later ≡ places_in pattern more later =
    ap (λ es. places_from pattern es (suc (length before)) later) (sym (append_assoc before (cells ∷ []) later))
    ∙ ap (λ e. places_from pattern (more ++ later) e later) (sym (length-more before cells)) ∙ ih in
    ap (λ o. option_to_list o ++ places_from pattern (before ++ cells ∷ later) (suc (length before)) later) (place_at-between pattern before cells later)
    ∙ ap (λ ps. option_to_list (place_in pattern before cells later) ++ ps) moved

pub chain_of-places : (pattern : List (List ℕ)) (elements : List (List (ℕ × ℤ))) → chain_of pattern elements ≡ places_in pattern [] elements
chain_of-places pattern elements = places_from-between pattern [] elements

-- the greatest utility of places
best_of-more : (make : ℤ → Place) (o : Option ℤ) (places : List Place) → ((u : ℤ) → (make u).best ≡ u)
    → best_of (option_to_list (option_map make o) ++ places) ≡ better o (best_of places)
best_of-more make None places same = refl
best_of-more make (Some u) places same = ap (λ v. better (Some v) (best_of places)) (same u)

pub best_of-places_in : (pattern : List (List ℕ)) (before later : List (List (ℕ × ℤ))) → Ends pattern
    → better (best_utility pattern before) (best_of (places_in pattern before later)) ≡ best_utility pattern (before ++ later)
best_of-places_in pattern before [] ends = better-none (best_utility pattern before) ∙ ap (best_utility pattern) (sym (append-nil before))
best_of-places_in pattern before (cells ∷ later) ends =
    let so_far = best_utility pattern before in
    let here = ended (earlier pattern) (last_itemset pattern) before cells in
    let more : List (List (ℕ × ℤ)) = before ++ cells ∷ [] in
    ap (better so_far) (best_of-more (place_by pattern (length before) cells later) here (places_in pattern more later) (λ u. refl))
    ∙ sym (better-assoc so_far here (best_of (places_in pattern more later)))
    ∙ ap (λ o. better o (best_of (places_in pattern more later))) (sym (best_utility-more pattern before cells ends))
    ∙ best_of-places_in pattern more later ends
    ∙ ap (best_utility pattern) (append_assoc before (cells ∷ []) later)

-- the greatest utility at the places of a pattern is its best utility
pub best_of-chain_of : (pattern : List (List ℕ)) (elements : List (List (ℕ × ℤ))) → Ends pattern
    → best_of (chain_of pattern elements) ≡ best_utility pattern elements
best_of-chain_of pattern elements ends =
    ap best_of (chain_of-places pattern elements)
    ∙ ap (λ o. better o (best_of (places_in pattern [] elements))) (sym (best_utility-nowhere pattern ends))
    ∙ best_of-places_in pattern [] elements ends

-- places of no utility are none
some-better : (x : ℤ) (o : Option ℤ) → IsNone (better (Some x) o) → ⊥
some-better x None h = cc
some-better x (Some y) h = cc

pub best_of-none : (places : List Place) → IsNone (best_of places) ↔ (places ≡ [])
best_of-none [] = (λ _. refl, λ _. refl)
best_of-none (place ∷ places) = (λ h. absurd (some-better place.best (best_of places) h), λ e. cc)
