-- What growths make of the chain of a pattern: the rules of its places, the places of a pattern with an item in a new
-- last itemset, and where a grown pattern occurs.
use Rattle.std.proofs.Common.{◌≡◌, ℕ, suc, ◌<◌, ◌≤◌, Bool, true, false, cond, eqb, ◌||◌, ℤ, pos, ◌+ℤ◌, Option, None, Some, is_some, option_map, option_to_list}
use Rattle.std.proofs.Common.{List, [], ◌∷◌, ◌++◌, length, drop, refl, sym, ap, ◌∙◌, subst, arith, append_assoc}
use Rattle.std.specs.Int.{int_max}
use Rattle.std.specs.List.{list_any, AllByRecursion}
use Rattle.std.specs.Option.{option_and_then}
use Rattle.std.proofs.lemmas.Bool.{and_parts, eq-eqb, ne_eqb}
use Rattle.hu_kind.specs.Record.{has, holds, values_of, total}
use Rattle.hu_kind.specs.Sequence.{better, best_utility}
use Rattle.hu_kind.proofs.lemmas.Each.{each-append, each-get}
use Rattle.hu_chain.specs.declared.chain.Growth.{Growth}
use Rattle.hu_chain.specs.declared.chain.Growth.TheVariants.{IntoLast, AfterLast}
use Rattle.hu_chain.specs.declared.place.Place.{Place}
use Rattle.hu_chain.specs.Pattern.{after, earlier, into, last_from, last_item, last_itemset, Ends, EndsBelow}
use Rattle.hu_chain.specs.Grown.{grown, CanGrow}
use Rattle.hu_chain.specs.Place.{cell_of, chain_of, element_at, totals}
use Rattle.hu_chain.specs.Bound.{best_of}
use Rattle.hu_chain.specs.Search.{best_past, followed_places, follows, found, found_at, joined_places, joins, left_past, occurs, walked, IsPlaceOf, IsPlain}
use Rattle.hu_chain.specs.Search.{MayFollow}
use Rattle.hu_chain.proofs.lemmas.Patterns.{Ends-after, Ends-into}
use Rattle.hu_chain.proofs.Endings.{ended, best_utility-more, best_utility-nowhere}
use Rattle.hu_chain.proofs.Places.{best_of-chain_of, chain_of-places, drop-between, element_at-between, length-more, place_by, place_in, places_in}
use Rattle.hu_chain.proofs.Finding.{chain_of-into, found-whole, place_in-after, place_of_item}
use Rattle.hu_chain.proofs.Tails.{element-within, has-after}

-- ---- the rules of places

pub holds-last : (other : ℕ) (items : List ℕ) (cells : List (ℕ × ℤ)) → 0 < length items → holds items cells ≡ true → has (last_from other items) cells ≡ true
holds-last other [] cells some h = absurd (omega arith)
holds-last other (item ∷ []) cells some h = (and_parts (has item cells) true h).0
holds-last other (item ∷ next ∷ items) cells some h =
    holds-last item (next ∷ items) cells (omega arith) (and_parts (has item cells) (holds (next ∷ items) cells) h).1

place_in-rules : (pattern : List (List ℕ)) (before : List (List (ℕ × ℤ))) (cells : List (ℕ × ℤ)) (later : List (List (ℕ × ℤ))) → Ends pattern
    → AllByRecursion (IsPlaceOf (before ++ cells ∷ later) (last_item pattern)) (option_to_list (place_in pattern before cells later))
place_in-rules pattern before cells later ends = by (holds (last_itemset pattern) cells) refl (best_utility (earlier pattern) before)
  where
    elements : List (List (ℕ × ℤ))
    elements = before ++ cells ∷ later

    by : (b : Bool) → holds (last_itemset pattern) cells ≡ b → (o : Option ℤ)
        → AllByRecursion (IsPlaceOf (before ++ cells ∷ later) (last_item pattern))
        (option_to_list (option_map (place_by pattern (length before) cells later)
        (cond b (option_map (λ u. u +ℤ values_of (last_itemset pattern) cells) o) None)))
    by false h o = tt
    by true h None = tt
    by true h (Some u) =
        let e = length before in
        let last = last_item pattern in
        let same = sym (element_at-between before cells later) in
        let has' = holds-last 0 (last_itemset pattern) cells ends.some h in
        let n = cell_of last cells in (
          record {
            has = subst (λ cs. has last cs ≡ true) same has';
            cell = ap (cell_of last) same;
            rest = ap (λ cs. total (drop (suc n) cs) +ℤ totals later) same
                ∙ ap (λ ls. total (drop (suc n) (element_at (before ++ cells ∷ later) e)) +ℤ totals ls)
                (sym (drop-between before cells later));
          },
          tt,
        )

places_in-rules : (pattern : List (List ℕ)) (before later : List (List (ℕ × ℤ))) → Ends pattern
    → AllByRecursion (IsPlaceOf (before ++ later) (last_item pattern)) (places_in pattern before later)
places_in-rules pattern before [] ends = tt
places_in-rules pattern before (cells ∷ later) ends =
    let more : List (List (ℕ × ℤ)) = before ++ cells ∷ [] in
    let ih =
    subst (λ es. AllByRecursion (IsPlaceOf es (last_item pattern)) (places_in pattern more later))
    (append_assoc before (cells ∷ []) later) (places_in-rules pattern more later ends) in
    each-append (IsPlaceOf (before ++ cells ∷ later) (last_item pattern))
    (option_to_list (place_in pattern before cells later)) (places_in pattern more later)
    (place_in-rules pattern before cells later ends) ih

-- the places of a chain are those of its pattern's last item
pub chain_of-rules : (pattern : List (List ℕ)) (elements : List (List (ℕ × ℤ))) → Ends pattern
    → AllByRecursion (IsPlaceOf elements (last_item pattern)) (chain_of pattern elements)
chain_of-rules pattern elements ends =
    subst (AllByRecursion (IsPlaceOf elements (last_item pattern))) (sym (chain_of-places pattern elements))
    (places_in-rules pattern [] elements ends)

-- the same of places and elements that are a chain and its sequence
pub rules-seen : (pattern : List (List ℕ)) (elements seen : List (List (ℕ × ℤ))) (places : List Place) → Ends pattern
    → places ≡ chain_of pattern elements → seen ≡ elements
    → AllByRecursion (IsPlaceOf seen (last_item pattern)) places
rules-seen pattern elements seen places ends is same =
    let P : List (List (ℕ × ℤ)) → List Place → Type 0 = λ es ps. AllByRecursion (IsPlaceOf es (last_item pattern)) ps in
    subst (λ es. P es places) (sym same) (subst (P elements) (sym is) (chain_of-rules pattern elements ends))

-- ---- an item in a new last itemset

-- places that all stand past an element
abbrev IsPast : ℕ → Place → Type 0
IsPast e place = e ≤ place.element

option-past : (pattern : List (List ℕ)) (e n : ℕ) (cells : List (ℕ × ℤ)) (later : List (List (ℕ × ℤ))) (o : Option ℤ)
    → n ≤ e → AllByRecursion (IsPast n) (option_to_list (option_map (place_by pattern e cells later) o))
option-past pattern e n cells later None up = tt
option-past pattern e n cells later (Some u) up = (up, tt)

places_in-past : (pattern : List (List ℕ)) (n : ℕ) (before later : List (List (ℕ × ℤ))) → n ≤ length before
    → AllByRecursion (IsPast n) (places_in pattern before later)
places_in-past pattern n before [] up = tt
places_in-past pattern n before (cells ∷ later) up =
    let more : List (List (ℕ × ℤ)) = before ++ cells ∷ [] in
    each-append (IsPast n) (option_to_list (place_in pattern before cells later)) (places_in pattern more later)
    (option-past pattern (length before) n cells later (ended (earlier pattern) (last_itemset pattern) before cells) up)
    (places_in-past pattern n more later (omega (arith, length-more before cells)))

best_past-later : (e : ℕ) (best : ℤ) (places : List Place) → AllByRecursion (IsPast (suc e)) places → best_past e best places ≡ best
best_past-later e best [] past = refl
best_past-later e best (place ∷ places) past = let after = past.0 in let other : eqb e place.element ≡ false =
    ne_eqb e place.element (λ s. absurd (omega arith)) in simp other refl

left_past-later : (e : ℕ) (places : List Place) → AllByRecursion (IsPast (suc e)) places → left_past e places ≡ places
left_past-later e [] past = refl
left_past-later e (place ∷ places) past = let after = past.0 in let other : eqb e place.element ≡ false =
    ne_eqb e place.element (λ s. absurd (omega arith)) in simp other refl

best_past-here : (e : ℕ) (best : ℤ) (place : Place) (places : List Place) → e ≡ place.element → best_past e best (place ∷ places) ≡ int_max best place.best
best_past-here e best place places h = let here : eqb e place.element ≡ true = eq-eqb e place.element h in simp here refl

left_past-here : (e : ℕ) (place : Place) (places : List Place) → e ≡ place.element → left_past e (place ∷ places) ≡ places
left_past-here e place places h = let here : eqb e place.element ≡ true = eq-eqb e place.element h in simp here refl

-- one more element of a walk
walked-past : (pattern : List (List ℕ)) (item e : ℕ) (u : ℤ) (cells : List (ℕ × ℤ)) (later : List (List (ℕ × ℤ)))
    (o : Option ℤ) (places grown : List Place) → AllByRecursion (IsPast (suc e)) places
    → ((v : ℤ) → better (Some u) o ≡ Some v → grown ≡ walked item (suc e) v places later)
    → let all = option_to_list (option_map (place_by pattern e cells later) o) ++ places in
    grown ≡ walked item (suc e) (best_past e u all) (left_past e all) later
walked-past pattern item e u cells later None places grown past next =
    next u refl
    ∙ ap (λ v. walked item (suc e) v places later) (sym (best_past-later e u places past))
    ∙ ap (λ ps. walked item (suc e) (best_past e u places) ps later) (sym (left_past-later e places past))
walked-past pattern item e u cells later (Some v) places grown past next =
    let place = place_by pattern e cells later v in
    next (int_max u v) refl
    ∙ ap (λ w. walked item (suc e) w places later) (sym (best_past-here e u place places refl))
    ∙ ap (λ ps. walked item (suc e) (best_past e u (place ∷ places)) ps later) (sym (left_past-here e place places refl))

places_in-walked : (pattern : List (List ℕ)) (item : ℕ) (u : ℤ) (before later : List (List (ℕ × ℤ))) → Ends pattern → best_utility pattern before ≡ Some u
    → places_in (after pattern item) before later ≡ walked item (length before) u (places_in pattern before later) later
places_in-walked pattern item u before [] ends best = refl
places_in-walked pattern item u before (cells ∷ later) ends best =
    let e = length before in
    let more : List (List (ℕ × ℤ)) = before ++ cells ∷ [] in
    let here = ended (earlier pattern) (last_itemset pattern) before cells in
    let places = places_in pattern more later in
    let made = option_to_list (found e 0 item u (totals later) cells) in
    let next : (v : ℤ) → better (Some u) here ≡ Some v → places_in (after pattern item) more later ≡ walked item (suc e) v places later =
    λ v is. places_in-walked pattern item v more later ends (best_utility-more pattern before cells ends ∙ ap (λ o. better o here) best ∙ is)
    ∙ ap (λ n. walked item n v places later) (length-more before cells) in
    ap (λ o. option_to_list o ++ places_in (after pattern item) more later)
    (place_in-after pattern item before cells later ∙ ap (option_and_then (λ w. found e 0 item w (totals later) cells)) best)
    ∙ ap (λ ps. made ++ ps) (walked-past pattern item e u cells later here places
    (places_in (after pattern item) more later) (places_in-past pattern (suc e) more later
    (omega (arith, length-more before cells))) next)

-- before the first place there is nothing
followed-here : (pattern : List (List ℕ)) (item : ℕ) (before : List (List (ℕ × ℤ))) (cells : List (ℕ × ℤ))
    (later : List (List (ℕ × ℤ))) (o : Option ℤ) (places grown : List Place)
    → (o ≡ None → grown ≡ followed_places (before ++ cells ∷ later) item places)
    → ((v : ℤ) → o ≡ Some v → grown ≡ walked item (suc (length before)) v places later)
    → grown ≡ followed_places (before ++ cells ∷ later) item (option_to_list (option_map (place_by pattern (length before) cells later) o) ++ places)
followed-here pattern item before cells later None places grown none some = none refl
followed-here pattern item before cells later (Some v) places grown none some =
    some v refl ∙ ap (walked item (suc (length before)) v places) (sym (drop-between before cells later))

places_in-followed : (pattern : List (List ℕ)) (item : ℕ) (before later : List (List (ℕ × ℤ))) → Ends pattern → best_utility pattern before ≡ None
    → places_in (after pattern item) before later ≡ followed_places (before ++ later) item (places_in pattern before later)
places_in-followed pattern item before [] ends best = refl
places_in-followed pattern item before (cells ∷ later) ends best =
    let e = length before in
    let more : List (List (ℕ × ℤ)) = before ++ cells ∷ [] in
    let here = ended (earlier pattern) (last_itemset pattern) before cells in
    let places = places_in pattern more later in
    let grown = places_in (after pattern item) more later in
    let utility : (o : Option ℤ) → here ≡ o → best_utility pattern more ≡ o =
    λ o is. best_utility-more pattern before cells ends ∙ ap (λ b. better b here) best ∙ is in
    ap (λ o. option_to_list o ++ grown) (place_in-after pattern item before cells later
    ∙ ap (option_and_then (λ w. found e 0 item w (totals later) cells)) best)
    ∙ followed-here pattern item before cells later here places grown
    (λ is. places_in-followed pattern item more later ends (utility None is)
    ∙ ap (λ es. followed_places es item places) (append_assoc before (cells ∷ []) later))
    (λ v is. places_in-walked pattern item v more later ends (utility (Some v) is) ∙ ap (λ n. walked item n v places later) (length-more before cells))

-- the chain of a pattern with an item in a new last itemset
pub chain_of-after : (pattern : List (List ℕ)) (item : ℕ) (elements : List (List (ℕ × ℤ))) → Ends pattern
    → chain_of (after pattern item) elements ≡ followed_places elements item (chain_of pattern elements)
chain_of-after pattern item elements ends =
    chain_of-places (after pattern item) elements
    ∙ places_in-followed pattern item [] elements ends (best_utility-nowhere pattern ends)
    ∙ ap (followed_places elements item) (sym (chain_of-places pattern elements))

-- the chain of one item
places_in-start : (item : ℕ) (before later : List (List (ℕ × ℤ))) → places_in ((item ∷ []) ∷ []) before later ≡ walked item (length before) (pos 0) [] later
places_in-start item before [] = refl
places_in-start item before (cells ∷ later) =
    let more : List (List (ℕ × ℤ)) = before ++ cells ∷ [] in
    ap (λ o. option_to_list o ++ places_in ((item ∷ []) ∷ []) more later) (place_in-after [] item before cells later)
    ∙ ap (λ ps. option_to_list (found (length before) 0 item (pos 0) (totals later) cells) ++ ps)
    (places_in-start item more later ∙ ap (λ n. walked item n (pos 0) [] later) (length-more before cells))

pub chain_of-start : (item : ℕ) (elements : List (List (ℕ × ℤ))) → chain_of ((item ∷ []) ∷ []) elements ≡ walked item 0 (pos 0) [] elements
chain_of-start item elements = chain_of-places ((item ∷ []) ∷ []) elements ∙ places_in-start item [] elements

-- ---- where a grown pattern occurs

some-more : (o : Option Place) (places : List Place) (b : Bool) → is_some o ≡ b
    → is_some (best_of (option_to_list o ++ places)) ≡ (b || is_some (best_of places))
some-more None places b is = ap (λ c. c || is_some (best_of places)) is
some-more (Some place) places b is = some-better place.best (best_of places) ∙ ap (λ c. c || is_some (best_of places)) is
  where
    some-better : (u : ℤ) (o : Option ℤ) → is_some (better (Some u) o) ≡ true
    some-better u None = refl
    some-better u (Some v) = refl

is_some-found : (e c item : ℕ) (best later : ℤ) (cells : List (ℕ × ℤ)) → is_some (found e c item best later cells) ≡ has item cells
is_some-found e c item best later cells = ap is_some (found-whole e c item best later cells) ∙ by (has item cells)
  where
    by : (b : Bool) → is_some (cond b (Some (place_of_item e c item best later cells)) None) ≡ b
    by true = refl
    by false = refl

is_some-joined : (elements : List (List (ℕ × ℤ))) (item : ℕ) (places : List Place)
    → is_some (best_of (joined_places elements item places)) ≡ joins item elements places
is_some-joined elements item [] = refl
is_some-joined elements item (place ∷ places) =
    some-more (found_at elements item place.element place.best) (joined_places elements item places) (has item (element_at elements place.element))
    (is_some-found place.element 0 item place.best (totals (drop (suc place.element) elements)) (element_at elements place.element))
    ∙ ap (λ b. has item (element_at elements place.element) || b) (is_some-joined elements item places)

is_some-walked : (item e : ℕ) (best : ℤ) (places : List Place) (later : List (List (ℕ × ℤ)))
    → is_some (best_of (walked item e best places later)) ≡ list_any (has item) later
is_some-walked item e best places [] = refl
is_some-walked item e best places (cells ∷ later) =
    let next = walked item (suc e) (best_past e best places) (left_past e places) later in
    some-more (found e 0 item best (totals later) cells) next (has item cells) (is_some-found e 0 item best (totals later) cells)
    ∙ ap (λ b. has item cells || b) (is_some-walked item (suc e) (best_past e best places) (left_past e places) later)

is_some-followed : (elements : List (List (ℕ × ℤ))) (item : ℕ) (places : List Place)
    → is_some (best_of (followed_places elements item places)) ≡ follows item elements places
is_some-followed elements item [] = refl
is_some-followed elements item (place ∷ places) = is_some-walked item (suc place.element) place.best places (drop (suc place.element) elements)

-- a pattern with an item put into its last itemset occurs where the item stands in the element of a place
pub occurs-into : (pattern : List (List ℕ)) (item : ℕ) (elements : List (List (ℕ × ℤ)))
    → is_some (best_utility (into pattern item) elements) ≡ joins item elements (chain_of pattern elements)
occurs-into pattern item elements =
    ap is_some (sym (best_of-chain_of (into pattern item) elements (Ends-into pattern item))
    ∙ ap best_of (chain_of-into pattern item elements)) ∙ is_some-joined elements item (chain_of pattern elements)

-- a pattern with an item in a new last itemset occurs where the item stands in an element after the first place
pub occurs-after : (pattern : List (List ℕ)) (item : ℕ) (elements : List (List (ℕ × ℤ))) → Ends pattern
    → is_some (best_utility (after pattern item) elements) ≡ follows item elements (chain_of pattern elements)
occurs-after pattern item elements ends =
    ap is_some (sym (best_of-chain_of (after pattern item) elements (Ends-after pattern item))
    ∙ ap best_of (chain_of-after pattern item elements ends))
    ∙ is_some-followed elements item (chain_of pattern elements)

-- where a grown pattern occurs
pub occurs-grown : (growth : Growth) (pattern : List (List ℕ)) (item : ℕ) (elements : List (List (ℕ × ℤ))) → CanGrow growth pattern item
    → is_some (best_utility (grown growth pattern item) elements) ≡ occurs growth item elements (chain_of pattern elements)
occurs-grown IntoLast pattern item elements can = occurs-into pattern item elements
occurs-grown AfterLast pattern item elements can = occurs-after pattern item elements can

pub may_follow : (growth : Growth) (pattern : List (List ℕ)) (item : ℕ) → CanGrow growth pattern item → MayFollow growth (last_item pattern) item
may_follow IntoLast pattern item can = can.below
may_follow AfterLast pattern item can = tt

-- where the items of a sequence's elements ascend, an item that is put into the last itemset stands after a place
joins-after : (pattern : List (List ℕ)) (item : ℕ) (elements : List (List (ℕ × ℤ))) (places : List Place)
    → EndsBelow pattern item → AllByRecursion IsPlain elements
    → AllByRecursion (IsPlaceOf elements (last_item pattern)) places
    → joins item elements places ≡ list_any (λ place. has item (drop (suc place.cell) (element_at elements place.element))) places
joins-after pattern item elements [] below plain is = refl
joins-after pattern item elements (place ∷ places) below plain is =
    let first = is.0 in
    let here = each-get IsPlain elements place.element [] plain (element-within elements place.element (last_item pattern) first.has) in
    let same = has-after elements (last_item pattern) item place first below.below here in
    ap (λ b. b || joins item elements places) (sym same)
    ∙ ap (λ b. has item (drop (suc place.cell) (element_at elements place.element)) || b) (joins-after pattern item elements places below plain is.1)
