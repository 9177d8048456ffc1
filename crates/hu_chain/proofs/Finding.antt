-- The place of an item in an element: what a search among cells finds is where a grown pattern ends.
use Rattle.std.proofs.Common.{◌≡◌, ℕ, suc, ◌+◌, Bool, true, false, cond, eqb, ◌&&◌, ℤ, pos, ◌+ℤ◌, Option, None, Some}
use Rattle.std.proofs.Common.{option_map, option_to_list, List, [], ◌∷◌, ◌++◌, length, drop, refl, sym, ap, ◌∙◌, arith}
use Rattle.std.proofs.Common.{append_assoc}
use Rattle.std.specs.Option.{option_and_then}
use Rattle.std.proofs.lemmas.Int.{ints}
use Rattle.hu_kind.specs.Record.{has, holds, value_of, values_of, total}
use Rattle.hu_kind.specs.Sequence.{best_utility}
use Rattle.hu_chain.specs.declared.place.Place.{Place}
use Rattle.hu_chain.specs.Pattern.{after, earlier, into, last_itemset}
use Rattle.hu_chain.specs.Place.{cell_of, chain_of, element_at, totals}
use Rattle.hu_chain.specs.Search.{found, found_at, joined_places}
use Rattle.hu_chain.proofs.lemmas.Patterns.{earlier-into, earlier-after, last-into, last-after, last_item-into, last_item-after}
use Rattle.hu_chain.proofs.Endings.{ended}
use Rattle.hu_chain.proofs.Places.{element_at-between, drop-between, place_by, place_in, places_in, chain_of-places}

-- the place of an item among cells that have it
abbrev pub place_of_item : ℕ → ℕ → ℕ → ℤ → ℤ → List (ℕ × ℤ) → Place
place_of_item element c item best later cells = record {
  element = element;
  cell = c + cell_of item cells;
  best = best +ℤ value_of item cells;
  rest = total (drop (suc (cell_of item cells)) cells) +ℤ later;
}

place_of_item-here : (b : Bool) (element c item : ℕ) (best later : ℤ) (cell : ℕ × ℤ) (cells : List (ℕ × ℤ))
    → eqb item cell.0 ≡ b → found element (suc c) item best later cells
    ≡ cond (has item cells) (Some (place_of_item element (suc c) item best later cells)) None
    → cond b (Some (record { element = element; cell = c; best = best +ℤ cell.1; rest = total cells +ℤ later })) (found element (suc c) item best later cells)
    ≡ cond (has item (cell ∷ cells)) (Some (place_of_item element c item best later (cell ∷ cells))) None
place_of_item-here true element c item best later cell cells e ih =
    let place : ℕ → Place = λ n. record { element = element; cell = n; best = best +ℤ cell.1; rest = total cells +ℤ later } in
    let same : c ≡ c + 0 = omega arith in
    simp e (ap (λ n. Some (place n)) same)
place_of_item-here false element c item best later cell cells e ih =
    let place : ℕ → Place =
    λ n. record {
      element = element;
      cell = n;
      best = best +ℤ value_of item cells;
      rest =
          total (drop (suc (cell_of item cells)) cells) +ℤ later;
    } in
    let same : suc c + cell_of item cells ≡ c + suc (cell_of item cells) = omega arith in
    simp e (ih ∙ ap (λ n. cond (has item cells) (Some (place n)) None) same)

-- a search finds the item where cells have it
pub found-whole : (element c item : ℕ) (best later : ℤ) (cells : List (ℕ × ℤ)) → found element c item best later cells
    ≡ cond (has item cells) (Some (place_of_item element c item best later cells)) None
found-whole element c item best later [] = refl
found-whole element c item best later (cell ∷ cells) =
    place_of_item-here (eqb item cell.0) element c item best later cell cells refl
    (found-whole element (suc c) item best later cells)

and-assoc : (a b c : Bool) → (a && (b && c)) ≡ ((a && b) && c)
and-assoc true b c = refl
and-assoc false b c = refl

and-true : (a : Bool) → (a && true) ≡ (true && a)
and-true true = refl
and-true false = refl

pub holds-more : (items : List ℕ) (item : ℕ) (cells : List (ℕ × ℤ)) → holds (items ++ item ∷ []) cells ≡ (holds items cells && has item cells)
holds-more [] item cells = and-true (has item cells)
holds-more (i ∷ items) item cells = ap (λ b. has i cells && b) (holds-more items item cells) ∙ and-assoc (has i cells) (holds items cells) (has item cells)

values_of-more : (items : List ℕ) (item : ℕ) (cells : List (ℕ × ℤ)) → values_of (items ++ item ∷ []) cells ≡ values_of items cells +ℤ value_of item cells
values_of-more [] item cells = omega (arith, ints)
values_of-more (i ∷ items) item cells = let ih = values_of-more items item cells in omega (arith, ints)

-- a pattern with an item in its last itemset ends where the item is found in an element in which the pattern ends
into-cases : (here there : Bool) (o : Option ℤ) (v w : ℤ) (make : ℤ → Place) (more : ℤ → Place) → ((u : ℤ) → (make u).best ≡ u)
    → option_map more (cond (here && there) (option_map (λ u. u +ℤ (v +ℤ w)) o) None)
    ≡ option_and_then (λ place. cond there (Some (more (place.best +ℤ w))) None) (option_map make (cond here (option_map (λ u. u +ℤ v) o) None))
into-cases false there o v w make more same = refl
into-cases true false None v w make more same = refl
into-cases true false (Some u) v w make more same = refl
into-cases true true None v w make more same = refl
into-cases true true (Some u) v w make more same =
    let sum : u +ℤ (v +ℤ w) ≡ (make (u +ℤ v)).best +ℤ w = omega (arith, ints, same (u +ℤ v)) in
    ap (λ n. Some (more n)) sum

-- the place of an item in an element, by the sum that it makes
abbrev item_place : ℕ → ℕ → ℤ → List (ℕ × ℤ) → ℤ → Place
item_place e item later cells u = record {
  element = e;
  cell = cell_of item cells;
  best = u;
  rest = total (drop (suc (cell_of item cells)) cells) +ℤ later;
}

found-item : (e item : ℕ) (best later : ℤ) (cells : List (ℕ × ℤ)) → found e 0 item best later cells
    ≡ cond (has item cells) (Some (item_place e item later cells (best +ℤ value_of item cells))) None
found-item e item best later cells =
    let place : ℕ → Place =
    λ n. record {
      element = e;
      cell = n;
      best = best +ℤ value_of item cells;
      rest =
          total (drop (suc (cell_of item cells)) cells) +ℤ later;
    } in
    let same : 0 + cell_of item cells ≡ cell_of item cells = omega arith in
    found-whole e 0 item best later cells ∙ ap (λ n. cond (has item cells) (Some (place n)) None) same

-- the place of a pattern that ends in an element, by its last item, its earlier itemsets and its last one
abbrev place_by_end : ℕ → List (List ℕ) → List ℕ → List (List (ℕ × ℤ)) → List (ℕ × ℤ) → ℤ → Option Place
place_by_end item first last before cells later = option_map (item_place (length before) item later cells) (ended first last before cells)

pub place_in-into : (pattern : List (List ℕ)) (item : ℕ) (before : List (List (ℕ × ℤ))) (cells : List (ℕ × ℤ)) (later : List (List (ℕ × ℤ)))
    → place_in (into pattern item) before cells later ≡ option_and_then
    (λ place. found (length before) 0 item place.best (totals later) cells) (place_in pattern before cells later)
place_in-into pattern item before cells later =
    let first = earlier pattern in
    let last = last_itemset pattern in
    let o = best_utility first before in
    let make = place_by pattern (length before) cells later in
    let more = item_place (length before) item (totals later) cells in
    let search' : Place → Option Place = λ place. cond (has item cells) (Some (more (place.best +ℤ value_of item cells))) None in
    ap (λ i. place_by_end i (earlier (into pattern item)) (last_itemset (into pattern item)) before cells (totals later)) (last_item-into pattern item)
    ∙ ap (λ f. place_by_end item f (last_itemset (into pattern item)) before cells (totals later)) (earlier-into pattern item)
    ∙ ap (λ l. place_by_end item first l before cells (totals later)) (last-into pattern item)
    ∙ ap (λ b. option_map more (cond b (option_map (λ u. u +ℤ values_of (last ++ item ∷ []) cells) o) None)) (holds-more last item cells)
    ∙ ap (λ v. option_map more (cond (holds last cells && has item cells) (option_map (λ u. u +ℤ v) o) None)) (values_of-more last item cells)
    ∙ into-cases (holds last cells) (has item cells) o (values_of last cells) (value_of item cells) make more (λ u. refl)
    ∙ and_then-same search' (λ place. found (length before) 0 item place.best (totals later) cells)
    (λ place. sym (found-item (length before) item place.best (totals later) cells))
    (place_in pattern before cells later)
  where
    and_then-same : (f g : Place → Option Place) → ((place : Place) → f place ≡ g place) → (o : Option Place) → option_and_then f o ≡ option_and_then g o
    and_then-same f g same None = refl
    and_then-same f g same (Some place) = same place

-- a pattern with an item in a new itemset ends where the item is found after the pattern
after-cases : (there : Bool) (o : Option ℤ) (w : ℤ) (more : ℤ → Place)
    → option_map more (cond (there && true) (option_map (λ u. u +ℤ (w +ℤ pos 0)) o) None) ≡ option_and_then (λ u. cond there (Some (more (u +ℤ w))) None) o
after-cases false None w more = refl
after-cases false (Some u) w more = refl
after-cases true None w more = refl
after-cases true (Some u) w more = let sum : u +ℤ (w +ℤ pos 0) ≡ u +ℤ w = omega (arith, ints) in ap (λ n. Some (more n)) sum

pub place_in-after : (pattern : List (List ℕ)) (item : ℕ) (before : List (List (ℕ × ℤ))) (cells : List (ℕ × ℤ)) (later : List (List (ℕ × ℤ)))
    → place_in (after pattern item) before cells later ≡ option_and_then
    (λ u. found (length before) 0 item u (totals later) cells) (best_utility pattern before)
place_in-after pattern item before cells later =
    let more = item_place (length before) item (totals later) cells in
    ap (λ i. place_by_end i (earlier (after pattern item)) (last_itemset (after pattern item)) before cells (totals later)) (last_item-after pattern item)
    ∙ ap (λ f. place_by_end item f (last_itemset (after pattern item)) before cells (totals later)) (earlier-after pattern item)
    ∙ ap (λ l. place_by_end item pattern l before cells (totals later)) (last-after pattern item)
    ∙ after-cases (has item cells) (best_utility pattern before) (value_of item cells) more
    ∙ and_then-same (λ u. cond (has item cells) (Some (more (u +ℤ value_of item cells))) None)
    (λ u. found (length before) 0 item u (totals later) cells)
    (λ u. sym (found-item (length before) item u (totals later) cells)) (best_utility pattern before)
  where
    and_then-same : (f g : ℤ → Option Place) → ((u : ℤ) → f u ≡ g u) → (o : Option ℤ) → option_and_then f o ≡ option_and_then g o
    and_then-same f g same None = refl
    and_then-same f g same (Some u) = same u

found_at-between : (before : List (List (ℕ × ℤ))) (cells : List (ℕ × ℤ)) (later : List (List (ℕ × ℤ))) (item : ℕ) (best : ℤ)
    → found_at (before ++ cells ∷ later) item (length before) best ≡ found (length before) 0 item best (totals later) cells
found_at-between before cells later item best =
    ap (λ es. found (length before) 0 item best (totals es) (element_at (before ++ cells ∷ later) (length before))) (drop-between before cells later)
    ∙ ap (λ cs. found (length before) 0 item best (totals later) cs) (element_at-between before cells later)

joined-one : (pattern : List (List ℕ)) (item : ℕ) (before : List (List (ℕ × ℤ))) (cells : List (ℕ × ℤ))
    (later : List (List (ℕ × ℤ))) (o : Option ℤ) (places : List Place)
    → let make = place_by pattern (length before) cells later in
    joined_places (before ++ cells ∷ later) item (option_to_list (option_map make o) ++ places)
    ≡ option_to_list (option_and_then (λ place. found (length before) 0 item place.best (totals later) cells)
    (option_map make o)) ++ joined_places (before ++ cells ∷ later) item places
joined-one pattern item before cells later None places = refl
joined-one pattern item before cells later (Some u) places =
    ap (λ f. option_to_list f ++ joined_places (before ++ cells ∷ later) item places) (found_at-between before cells later item u)

pub places_in-into : (pattern : List (List ℕ)) (item : ℕ) (before later : List (List (ℕ × ℤ)))
    → places_in (into pattern item) before later ≡ joined_places (before ++ later) item (places_in pattern before later)
places_in-into pattern item before [] = refl
places_in-into pattern item before (cells ∷ later) =
    let more : List (List (ℕ × ℤ)) = before ++ cells ∷ [] in
    ap (λ o. option_to_list o ++ places_in (into pattern item) more later) (place_in-into pattern item before cells later)
    ∙ ap (λ ps. option_to_list (option_and_then (λ place. found (length before) 0 item place.best (totals later) cells)
    (place_in pattern before cells later)) ++ ps)
    (places_in-into pattern item more later ∙ ap (λ es. joined_places es item (places_in pattern more later)) (append_assoc before (cells ∷ []) later))
    ∙ sym (joined-one pattern item before cells later (ended (earlier pattern) (last_itemset pattern) before cells) (places_in pattern more later))

-- the chain of a pattern with an item put into its last itemset
pub chain_of-into : (pattern : List (List ℕ)) (item : ℕ) (elements : List (List (ℕ × ℤ)))
    → chain_of (into pattern item) elements ≡ joined_places elements item (chain_of pattern elements)
chain_of-into pattern item elements =
    chain_of-places (into pattern item) elements ∙ places_in-into pattern item [] elements
    ∙ ap (joined_places elements item) (sym (chain_of-places pattern elements))
