-- What bounds hold of growths: no place of a grown pattern reaches further than the places that it comes of.
use Rattle.std.proofs.Common.{◌≡◌, ℕ, suc, ◌<◌, ◌≤◌, Bool, true, false, cond, eqb, ℤ, pos, ◌+ℤ◌, ◌≤ℤ◌, ◌<ℤ◌, ◌^◌, Option, None, Some, is_some, unwrap_or}
use Rattle.std.proofs.Common.{option_map, option_to_list, List, [], ◌∷◌, ◌++◌, length, drop, refl, sym, ap, ◌∙◌, subst, arith, sum_by}
use Rattle.std.specs.List.{AllByRecursion}
use Rattle.std.specs.Option.{option_and_then}
use Rattle.std.proofs.lemmas.Int.{ints, clamps}
use Rattle.std.proofs.lemmas.Bool.{eqb-true, ne_eqb}
use Rattle.std.proofs.lemmas.List.Sums.{sum_by-cons}
use Rattle.hu_kind.specs.Record.{absolute_of, has, holds, items_in, total, value_of, values_of, IsItemset}
use Rattle.hu_kind.specs.Sequence.{better, best_utility, IsSequence}
use Rattle.hu_kind.specs.Order.{Ascend}
use Rattle.hu_kind.proofs.lemmas.Occurring.{at_member, has-member}
use Rattle.hu_kind.proofs.lemmas.Better.{better-assoc, map-better}
use Rattle.hu_kind.proofs.lemmas.Each.{each-drop}
use Rattle.hu_chain.specs.declared.chain.Growth.{Growth}
use Rattle.hu_chain.specs.declared.chain.Growth.TheVariants.{IntoLast, AfterLast}
use Rattle.hu_chain.specs.declared.place.Place.{Place}
use Rattle.hu_chain.specs.Pattern.{after, earlier, into, last_item, last_itemset, Ends, EndsBelow}
use Rattle.hu_chain.specs.Grown.{grown, CanGrow, Leads, IsGrownFrom}
use Rattle.hu_chain.specs.Place.{cell_of, chain_of, totals}
use Rattle.hu_chain.specs.Bound.{best_of, extension_bound, greatest, reach, reduced_bound, IsAtMost, IsFit}
use Rattle.hu_chain.specs.Search.{found, occurs, IsPlain}
use Rattle.hu_chain.proofs.lemmas.Patterns.{Ends-can_grow, Ends-grown}
use Rattle.hu_chain.proofs.Endings.{ended, best_utility-more, best_utility-nowhere}
use Rattle.hu_chain.proofs.Places.{best_of-chain_of, chain_of-places, place_by, place_in, places_in}
use Rattle.hu_chain.proofs.Finding.{found-whole, place_in-after, place_in-into, place_of_item}
use Rattle.hu_chain.proofs.lemmas.Cells.{all-above, total-above, total-item, Ascend-itemset, IsAbove}
use Rattle.hu_chain.proofs.Tails.{totals-absolute}
use Rattle.hu_chain.proofs.lemmas.Growing.{holds-last, occurs-grown}

-- ---- none is below every utility

abbrev pub IsBelow : Option ℤ → Option ℤ → Type 0
IsBelow None b = Unit {0}
IsBelow (Some x) None = ⊥
IsBelow (Some x) (Some y) = x ≤ℤ y

pub IsBelow-refl : (a : Option ℤ) → IsBelow a a
IsBelow-refl None = tt
IsBelow-refl (Some x) = omega (arith, ints)

pub IsBelow-trans : (a b c : Option ℤ) → IsBelow a b → IsBelow b c → IsBelow a c
IsBelow-trans None b c h i = tt
IsBelow-trans (Some x) None c h i = absurd h
IsBelow-trans (Some x) (Some y) None h i = absurd i
IsBelow-trans (Some x) (Some y) (Some z) h i = omega (arith, ints)

IsBelow-better : (a b c d : Option ℤ) → IsBelow a c → IsBelow b d → IsBelow (better a b) (better c d)
IsBelow-better None None c d h i = tt
IsBelow-better None (Some y) None d h i = i
IsBelow-better None (Some y) (Some z) None h i = absurd i
IsBelow-better None (Some y) (Some z) (Some w) h i = omega (arith, ints, clamps)
IsBelow-better (Some x) b None d h i = absurd h
IsBelow-better (Some x) None (Some z) None h i = h
IsBelow-better (Some x) None (Some z) (Some w) h i = omega (arith, ints, clamps)
IsBelow-better (Some x) (Some y) (Some z) None h i = absurd i
IsBelow-better (Some x) (Some y) (Some z) (Some w) h i = omega (arith, ints, clamps)

pub IsAtMost-below : (a b : Option ℤ) → IsBelow a b → IsAtMost a (unwrap_or b (pos 0))
IsAtMost-below None b h = tt
IsAtMost-below (Some x) None h = absurd h
IsAtMost-below (Some x) (Some y) h = h

-- ---- the greatest of places, one by one

greatest-more : (f : Place → ℤ) (o : Option Place) (places : List Place) → greatest f (option_to_list o ++ places) ≡ better (option_map f o) (greatest f places)
greatest-more f None places = refl
greatest-more f (Some place) places = refl

-- where each place is below what another place reaches
step-below : (f g : Place → ℤ) (o p : Option Place) (os ps : List Place) → IsBelow (option_map f o) (option_map g p) → IsBelow (greatest f os) (greatest g ps)
    → IsBelow (greatest f (option_to_list o ++ os)) (greatest g (option_to_list p ++ ps))
step-below f g o p os ps here later =
    let both = IsBelow-better (option_map f o) (greatest f os) (option_map g p) (greatest g ps) here later in
    let P : Option ℤ → Option ℤ → Type 0 = λ a b. IsBelow a b in
    subst (λ a. P a (greatest g (option_to_list p ++ ps))) (sym (greatest-more f o os))
    (subst (P (better (option_map f o) (greatest f os))) (sym (greatest-more g p ps)) both)

-- ---- the rules of the elements

plain-itemsets : (elements : List (List (ℕ × ℤ))) → AllByRecursion (AllByRecursion IsAbove) elements
    → AllByRecursion IsItemset elements → AllByRecursion IsPlain elements
plain-itemsets [] above is = tt
plain-itemsets (cells ∷ elements) above is = (record { ascending = Ascend-itemset cells is.0; none_below = above.0 }, plain-itemsets elements above.1 is.1)

-- the elements of a sequence that keeps its rules
pub plain-rules : (elements : List (List (ℕ × ℤ))) → IsSequence elements → AllByRecursion IsPlain elements
plain-rules elements rules = plain-itemsets elements (all-above elements rules.none_below) rules.itemsets

-- no itemset is empty, so that there are no more elements than cells
elements-below : (elements : List (List (ℕ × ℤ))) → AllByRecursion IsItemset elements → length elements ≤ sum_by length elements
elements-below [] is = omega arith
elements-below (cells ∷ elements) is =
    let here = is.0.some in
    omega (arith, sum_by-cons (λ (cs : List (ℕ × ℤ)). length cs) cells elements, elements-below elements is.1)

-- how many elements a sequence has at most
pub elements-few : (elements : List (List (ℕ × ℤ))) → IsSequence elements → length elements ≤ 4096
elements-few elements rules = omega (arith, elements-below elements rules.itemsets, rules.few)

-- ---- what a place earns is below what it reaches

rest-above : (cells : List (ℕ × ℤ)) (n : ℕ) (later : List (List (ℕ × ℤ))) → IsPlain cells → pos 0 ≤ℤ totals later
    → pos 0 ≤ℤ (total (drop n cells) +ℤ totals later)
rest-above cells n later is more = let here = total-above (drop n cells) (each-drop IsAbove n cells is.none_below) in omega (arith, ints)

pub totals-above : (later : List (List (ℕ × ℤ))) → AllByRecursion IsPlain later → pos 0 ≤ℤ totals later
totals-above [] is = omega (arith, ints)
totals-above (cells ∷ later) is = let first = is.0 in let here = total-above cells first.none_below in let ih = totals-above later is.1 in omega (arith, ints)

best-reach : (pattern : List (List ℕ)) (e : ℕ) (cells : List (ℕ × ℤ)) (later : List (List (ℕ × ℤ))) (o : Option ℤ) → IsPlain cells → pos 0 ≤ℤ totals later
    → IsBelow (option_map (λ (p : Place). p.best) (option_map (place_by pattern e cells later) o))
    (option_map reach (option_map (place_by pattern e cells later) o))
best-reach pattern e cells later None is more = tt
best-reach pattern e cells later (Some u) is more = let rest = rest-above cells (suc (cell_of (last_item pattern) cells)) later is more in omega (arith, ints)

best-places_in : (pattern : List (List ℕ)) (before later : List (List (ℕ × ℤ))) → AllByRecursion IsPlain later
    → IsBelow (best_of (places_in pattern before later)) (greatest reach (places_in pattern before later))
best-places_in pattern before [] is = tt
best-places_in pattern before (cells ∷ later) is =
    let more : List (List (ℕ × ℤ)) = before ++ cells ∷ [] in
    let here = place_in pattern before cells later in
    let places = places_in pattern more later in
    step-below (λ place. place.best) reach here here places places
    (best-reach pattern (length before) cells later (ended (earlier pattern) (last_itemset pattern) before cells) is.0 (totals-above later is.1))
    (best-places_in pattern more later is.1)

-- ---- an item into the last itemset

-- a later cell with all after it is within what is after an earlier one
total-skip : (last item : ℕ) (cells : List (ℕ × ℤ)) → Ascend (items_in cells) → AllByRecursion IsAbove cells
    → has last cells ≡ true → has item cells ≡ true → last < item
    → (value_of item cells +ℤ total (drop (suc (cell_of item cells)) cells)) ≤ℤ total (drop (suc (cell_of last cells)) cells)
total-skip last item [] up above h i below = cc
total-skip last item (cell ∷ cells) up above h i below = by (λ a b. total-skip last item cells up.1 above.1 a b below) (eqb last cell.0) refl
  where
    by : (has last cells ≡ true → has item cells ≡ true
        → (value_of item cells +ℤ total (drop (suc (cell_of item cells)) cells))
        ≤ℤ total (drop (suc (cell_of last cells)) cells))
        → (b : Bool) → eqb last cell.0 ≡ b
        → (value_of item (cell ∷ cells) +ℤ total (drop (suc (cell_of item (cell ∷ cells))) (cell ∷ cells)))
        ≤ℤ total (drop (suc (cell_of last (cell ∷ cells))) (cell ∷ cells))
    by ih true same =
        let here : last ≡ cell.0 = eqb-true last cell.0 same in
        let other : eqb item cell.0 ≡ false = ne_eqb item cell.0 (λ x. absurd (omega arith)) in
        let more : has item cells ≡ true = simp other at i in
        simp (same, other) (total-item item cells above.1 more).1
    by ih false same =
        let has' : has last cells ≡ true = simp same at h in
        let after : cell.0 < last = at_member (λ x. cell.0 < x) last (items_in cells) up.0 (has-member last cells has') in
        let other : eqb item cell.0 ≡ false = ne_eqb item cell.0 (λ x. absurd (omega arith)) in
        let more : has item cells ≡ true = simp other at i in
        simp (same, other) (ih has' more)

into-reach : (pattern : List (List ℕ)) (item : ℕ) (before : List (List (ℕ × ℤ))) (cells : List (ℕ × ℤ))
    (later : List (List (ℕ × ℤ))) → EndsBelow pattern item → IsPlain cells
    → IsBelow
    (option_map reach (option_and_then (λ place. found (length before) 0 item place.best (totals later) cells)
    (place_in pattern before cells later))) (option_map reach (place_in pattern before cells later))
into-reach pattern item before cells later ends is = by (holds (last_itemset pattern) cells) refl (best_utility (earlier pattern) before)
  where
    e : ℕ
    e = length before

    made : Bool → Option ℤ → Option Place
    made b o = option_map (place_by pattern (length before) cells later) (cond b (option_map (λ u. u +ℤ values_of (last_itemset pattern) cells) o) None)

    at : (u : ℤ) → has (last_item pattern) cells ≡ true → (b : Bool) → has item cells ≡ b
        → IsBelow (option_map reach (cond b (Some (place_of_item (length before) 0 item u (totals later) cells)) None))
        (Some (reach (place_by pattern (length before) cells later u)))
    at u h false i = tt
    at u h true i = let within = total-skip (last_item pattern) item cells is.ascending is.none_below h i ends.below in omega (arith, ints)

    by : (b : Bool) → holds (last_itemset pattern) cells ≡ b → (o : Option ℤ)
        → IsBelow
        (option_map reach (option_and_then (λ place. found (length before) 0 item place.best (totals later) cells)
        (option_map (place_by pattern (length before) cells later)
        (cond b (option_map (λ u. u +ℤ values_of (last_itemset pattern) cells) o) None))))
        (option_map reach (option_map (place_by pattern (length before) cells later)
        (cond b (option_map (λ u. u +ℤ values_of (last_itemset pattern) cells) o) None)))
    by false h o = tt
    by true h None = tt
    by true h (Some u) =
        let v = u +ℤ values_of (last_itemset pattern) cells in
        let some = ends.ends in
        let has' = holds-last 0 (last_itemset pattern) cells some.some h in
        let P : Option Place → Type 0 = λ f. IsBelow (option_map reach f) (Some (reach (place_by pattern (length before) cells later v))) in
        subst P (sym (found-whole (length before) 0 item v (totals later) cells)) (at v has' (has item cells) refl)

into-places_in : (pattern : List (List ℕ)) (item : ℕ) (before later : List (List (ℕ × ℤ))) → EndsBelow pattern item → AllByRecursion IsPlain later
    → IsBelow (greatest reach (places_in (into pattern item) before later)) (greatest reach (places_in pattern before later))
into-places_in pattern item before [] ends is = tt
into-places_in pattern item before (cells ∷ later) ends is =
    let more : List (List (ℕ × ℤ)) = before ++ cells ∷ [] in
    step-below reach reach (place_in (into pattern item) before cells later) (place_in pattern before cells later)
    (places_in (into pattern item) more later) (places_in pattern more later)
    (subst (λ f. IsBelow (option_map reach f) (option_map reach (place_in pattern before cells later)))
    (sym (place_in-into pattern item before cells later)) (into-reach pattern item before cells later ends is.0))
    (into-places_in pattern item more later ends is.1)

-- ---- an item in a new last itemset

-- what a utility reaches with all values of some elements
abbrev with_all : ℤ → Option ℤ → Option ℤ
with_all sum o = option_map (λ u. sum +ℤ u) o

after-found : (e item : ℕ) (u : ℤ) (cells : List (ℕ × ℤ)) (later : List (List (ℕ × ℤ))) → IsPlain cells
    → IsBelow (option_map reach (found e 0 item u (totals later) cells)) (Some ((total cells +ℤ totals later) +ℤ u))
after-found e item u cells later is = subst P (sym (found-whole e 0 item u (totals later) cells)) (at (has item cells) refl)
  where
    P : Option Place → Type 0
    P f = IsBelow (option_map reach f) (Some ((total cells +ℤ totals later) +ℤ u))

    at : (b : Bool) → has item cells ≡ b
        → IsBelow (option_map reach (cond b (Some (place_of_item e 0 item u (totals later) cells)) None))
        (Some ((total cells +ℤ totals later) +ℤ u))
    at false i = tt
    at true i = let within = (total-item item cells is.none_below i).1 in omega (arith, ints)

after-here : (e item : ℕ) (cells : List (ℕ × ℤ)) (later : List (List (ℕ × ℤ))) (o : Option ℤ) → IsPlain cells
    → IsBelow (option_map reach (option_and_then (λ u. found e 0 item u (totals later) cells) o)) (with_all (total cells +ℤ totals later) o)
after-here e item cells later None is = tt
after-here e item cells later (Some u) is = after-found e item u cells later is

with_all-below : (sum more : ℤ) (o : Option ℤ) → sum ≤ℤ more → IsBelow (with_all sum o) (with_all more o)
with_all-below sum more None h = tt
with_all-below sum more (Some u) h = omega (arith, ints)

with_all-reach : (pattern : List (List ℕ)) (e : ℕ) (cells : List (ℕ × ℤ)) (later : List (List (ℕ × ℤ))) (o : Option ℤ) → IsPlain cells
    → IsBelow (with_all (totals later) o) (option_map reach (option_map (place_by pattern e cells later) o))
with_all-reach pattern e cells later None is = tt
with_all-reach pattern e cells later (Some u) is =
    let here =
    total-above (drop (suc (cell_of (last_item pattern) cells)) cells)
    (each-drop IsAbove (suc (cell_of (last_item pattern) cells)) cells is.none_below) in
    omega (arith, ints)

after-places_in : (pattern : List (List ℕ)) (item : ℕ) (before later : List (List (ℕ × ℤ))) → Ends pattern → AllByRecursion IsPlain later
    → IsBelow (greatest reach (places_in (after pattern item) before later))
    (better (with_all (totals later) (best_utility pattern before))
    (greatest reach (places_in pattern before later)))
after-places_in pattern item before [] ends is = tt
after-places_in pattern item before (cells ∷ later) ends is =
    let more : List (List (ℕ × ℤ)) = before ++ cells ∷ [] in
    let so_far = best_utility pattern before in
    let here = ended (earlier pattern) (last_itemset pattern) before cells in
    let make = place_by pattern (length before) cells later in
    let sum = totals later in
    let all = total cells +ℤ totals later in
    let grown' = greatest reach (places_in (after pattern item) more later) in
    let others = greatest reach (places_in pattern more later) in
    let found' = option_map reach (option_and_then (λ u. found (length before) 0 item u sum cells) so_far) in
    let first = is.0 in
    let above = total-above cells first.none_below in
    let wider : sum ≤ℤ all = omega (arith, ints) in
    let split = ap (with_all sum) (best_utility-more pattern before cells ends) ∙ map-better sum so_far here in
    let ih = subst (λ o. IsBelow grown' (better o others)) split (after-places_in pattern item more later ends is.1) in
    let regrouped = subst (IsBelow grown') (better-assoc (with_all sum so_far) (with_all sum here) others) ih in
    let raised =
    IsBelow-better (with_all sum so_far) (better (with_all sum here) others) (with_all all so_far)
    (better (option_map reach (option_map make here)) others)
    (with_all-below sum all so_far wider)
    (IsBelow-better (with_all sum here) others (option_map reach (option_map make here)) others
    (with_all-reach pattern (length before) cells later here first) (IsBelow-refl others)) in
    let whole = better (with_all all so_far) (better (option_map reach (option_map make here)) others) in
    let rest = IsBelow-trans grown' (better (with_all sum so_far) (better (with_all sum here) others)) whole regrouped raised in
    let start = after-here (length before) item cells later so_far first in
    let both =
    below-both found' grown' whole (IsBelow-left found' (with_all all so_far)
    (better (option_map reach (option_map make here)) others) start) rest in
    let P : Option Place → Type 0 = λ f. IsBelow (better (option_map reach f) grown') whole in
    let done = subst P (sym (place_in-after pattern item before cells later)) both in
    subst (λ a. IsBelow a (better (with_all all so_far) (greatest reach (option_to_list (option_map make here) ++ places_in pattern more later))))
    (sym (greatest-more reach (place_in (after pattern item) before cells later) (places_in (after pattern item) more later)))
    (subst (λ b. IsBelow (better (option_map reach (place_in (after pattern item) before cells later)) grown')
    (better (with_all all so_far) b))
    (sym (greatest-more reach (option_map make here) (places_in pattern more later))) done)
  where
    below-both : (a b c : Option ℤ) → IsBelow a c → IsBelow b c → IsBelow (better a b) c
    below-both None b c h i = i
    below-both (Some x) b None h i = absurd h
    below-both (Some x) None (Some z) h i = h
    below-both (Some x) (Some y) (Some z) h i = omega (arith, ints, clamps)

    IsBelow-left : (a c d : Option ℤ) → IsBelow a c → IsBelow a (better c d)
    IsBelow-left None c d h = tt
    IsBelow-left (Some x) None d h = absurd h
    IsBelow-left (Some x) (Some z) None h = h
    IsBelow-left (Some x) (Some z) (Some w) h = omega (arith, ints, clamps)

-- ---- any number of growths

-- one growth lowers what the places reach
pub grown-below : (growth : Growth) (pattern : List (List ℕ)) (item : ℕ) (elements : List (List (ℕ × ℤ))) → IsSequence elements → CanGrow growth pattern item
    → IsBelow (greatest reach (chain_of (grown growth pattern item) elements)) (greatest reach (chain_of pattern elements))
grown-below IntoLast pattern item elements rules can =
    let P : List Place → List Place → Type 0 = λ ps qs. IsBelow (greatest reach ps) (greatest reach qs) in
    let is = into-places_in pattern item [] elements can (plain-rules elements rules) in
    subst (λ ps. P ps (chain_of pattern elements)) (sym (chain_of-places (into pattern item) elements))
    (subst (P (places_in (into pattern item) [] elements)) (sym (chain_of-places pattern elements)) is)
grown-below AfterLast pattern item elements rules can =
    let P : List Place → List Place → Type 0 = λ ps qs. IsBelow (greatest reach ps) (greatest reach qs) in
    let none = best_utility-nowhere pattern can in
    let is =
    subst (λ o. IsBelow (greatest reach (places_in (after pattern item) [] elements))
    (better (with_all (totals elements) o) (greatest reach (places_in pattern [] elements)))) none
    (after-places_in pattern item [] elements can (plain-rules elements rules)) in
    subst (λ ps. P ps (chain_of pattern elements)) (sym (chain_of-places (after pattern item) elements))
    (subst (P (places_in (after pattern item) [] elements)) (sym (chain_of-places pattern elements)) is)

leads-below : (steps : List (Growth × ℕ)) (pattern other : List (List ℕ)) (elements : List (List (ℕ × ℤ))) → IsSequence elements → Leads steps pattern other
    → IsBelow (greatest reach (chain_of other elements)) (greatest reach (chain_of pattern elements))
leads-below [] pattern other elements rules leads =
    subst (λ p. IsBelow (greatest reach (chain_of p elements)) (greatest reach (chain_of pattern elements))) leads
    (IsBelow-refl (greatest reach (chain_of pattern elements)))
leads-below (step ∷ steps) pattern other elements rules leads =
    let next = grown step.0 pattern step.1 in
    IsBelow-trans (greatest reach (chain_of other elements)) (greatest reach (chain_of next elements)) (greatest reach (chain_of pattern elements))
    (leads-below steps next other elements rules leads.1)
    (grown-below step.0 pattern step.1 elements rules leads.0)

leads-end : (steps : List (Growth × ℕ)) (pattern other : List (List ℕ)) → Ends pattern → Leads steps pattern other → Ends other
leads-end [] pattern other ends leads = subst Ends leads ends
leads-end (step ∷ steps) pattern other ends leads = leads-end steps (grown step.0 pattern step.1) other (Ends-grown step.0 pattern step.1) leads.1

-- a grown pattern has a last item
pub Ends-grown_from : (pattern other : List (List ℕ)) → Ends pattern → IsGrownFrom pattern other → Ends other
Ends-grown_from pattern other ends from = leads-end from.steps pattern other ends from.leads

-- a grown pattern earns no more than the places reach
pub grown_from-below : (pattern other : List (List ℕ)) (elements : List (List (ℕ × ℤ))) → IsSequence elements → Ends pattern → IsGrownFrom pattern other
    → IsBelow (best_utility other elements) (greatest reach (chain_of pattern elements))
grown_from-below pattern other elements rules ends from =
    let far = Ends-grown_from pattern other ends from in
    let best =
    subst (λ ps. IsBelow (best_of ps) (greatest reach ps)) (sym (chain_of-places other elements))
    (best-places_in other [] elements (plain-rules elements rules)) in
    subst (λ o. IsBelow o (greatest reach (chain_of pattern elements))) (best_of-chain_of other elements far)
    (IsBelow-trans (best_of (chain_of other elements)) (greatest reach (chain_of other elements))
    (greatest reach (chain_of pattern elements)) best
    (leads-below from.steps pattern other elements rules from.leads))

-- the extension bound holds of every grown pattern
pub extension-holds : (pattern other : List (List ℕ)) (elements : List (List (ℕ × ℤ))) → IsSequence elements → Ends pattern → IsGrownFrom pattern other
    → IsAtMost (best_utility other elements) (extension_bound (chain_of pattern elements))
extension-holds pattern other elements rules ends from =
    IsAtMost-below (best_utility other elements) (greatest reach (chain_of pattern elements))
    (grown_from-below pattern other elements rules ends from)

-- a growth more in front
pub grown-first : (growth : Growth) (pattern other : List (List ℕ)) (item : ℕ) → CanGrow growth pattern item
    → IsGrownFrom (grown growth pattern item) other → IsGrownFrom pattern other
grown-first growth pattern other item can from = record { steps = (growth, item) ∷ from.steps; leads = (can, from.leads) }

none-reached : (places : List Place) → best_of places ≡ None → greatest reach places ≡ None
none-reached [] e = refl
none-reached (place ∷ places) e = absurd (some (best_of places) e)
  where
    some : (o : Option ℤ) → better (Some place.best) o ≡ None → ⊥
    some None h = cc
    some (Some u) h = cc

-- where a pattern doesn't occur, no grown pattern does
pub grown_from-none : (pattern other : List (List ℕ)) (elements : List (List (ℕ × ℤ))) → IsSequence elements
    → Ends pattern → IsGrownFrom pattern other → best_utility pattern elements ≡ None → best_utility other elements
    ≡ None
grown_from-none pattern other elements rules ends from none =
    let gone = none-reached (chain_of pattern elements) (best_of-chain_of pattern elements ends ∙ none) in
    nothing (best_utility other elements) (subst (IsBelow (best_utility other elements)) gone (grown_from-below pattern other elements rules ends from))
  where
    nothing : (o : Option ℤ) → IsBelow o None → o ≡ None
    nothing None h = refl
    nothing (Some u) h = absurd h

-- the reduced bound holds of every pattern that grows from the grown one
pub reduced-holds : (growth : Growth) (pattern other : List (List ℕ)) (item : ℕ) (elements : List (List (ℕ × ℤ)))
    → IsSequence elements → CanGrow growth pattern item → IsGrownFrom (grown growth pattern item) other
    → IsAtMost (best_utility other elements) (reduced_bound (chain_of pattern elements) (grown growth pattern item) elements)
reduced-holds growth pattern other item elements rules can from = by (best_utility (grown growth pattern item) elements) refl
  where
    by : (o : Option ℤ) → best_utility (grown growth pattern item) elements ≡ o
        → IsAtMost (best_utility other elements) (cond (is_some o) (extension_bound (chain_of pattern elements))
        (pos 0))
    by (Some u) e = extension-holds pattern other elements rules (Ends-can_grow growth pattern item can) (grown-first growth pattern other item can from)
    by None e =
        let gone = grown_from-none (grown growth pattern item) other elements rules (Ends-grown growth pattern item) from e in
        subst (λ o. IsAtMost o (pos 0)) (sym gone) tt

-- ---- all bounds are within the sum of a sequence

start-places_in : (item : ℕ) (before later : List (List (ℕ × ℤ))) → AllByRecursion IsPlain later
    → IsBelow (greatest reach (places_in ((item ∷ []) ∷ []) before later)) (Some (totals later))
start-places_in item before [] is = tt
start-places_in item before (cells ∷ later) is =
    let more : List (List (ℕ × ℤ)) = before ++ cells ∷ [] in
    let one : List (List ℕ) = (item ∷ []) ∷ [] in
    let first = is.0 in
    let above = total-above cells first.none_below in
    let here =
    subst (λ f. IsBelow (option_map reach f) (Some ((total cells +ℤ totals later) +ℤ pos 0)))
    (sym (place_in-after [] item before cells later)) (after-found (length before) item
    (pos 0) cells later first) in
    subst (λ a. IsBelow a (Some (total cells +ℤ totals later))) (sym (greatest-more reach (place_in one before cells later) (places_in one more later)))
    (both (option_map reach (place_in one before cells later)) (greatest reach (places_in one more later))
    (totals later) (total cells) above here (start-places_in item more later is.1))
  where
    both : (a b : Option ℤ) (sum here : ℤ) → pos 0 ≤ℤ here → IsBelow a (Some ((here +ℤ sum) +ℤ pos 0))
        → IsBelow b (Some sum) → IsBelow (better a b) (Some (here +ℤ sum))
    both None None sum here up h i = tt
    both None (Some y) sum here up h i = omega (arith, ints)
    both (Some x) None sum here up h i = omega (arith, ints)
    both (Some x) (Some y) sum here up h i = omega (arith, ints, clamps)

pub extension-within : (item : ℕ) (pattern : List (List ℕ)) (elements : List (List (ℕ × ℤ))) → IsSequence elements → IsGrownFrom ((item ∷ []) ∷ []) pattern
    → extension_bound (chain_of pattern elements) ≤ℤ pos (sum_by absolute_of elements)
extension-within item pattern elements rules from =
    let one : List (List ℕ) = (item ∷ []) ∷ [] in
    let plain = plain-rules elements rules in
    let start =
    subst (λ ps. IsBelow (greatest reach ps) (Some (totals elements))) (sym (chain_of-places one elements))
    (start-places_in item [] elements plain) in
    let all =
    IsBelow-trans (greatest reach (chain_of pattern elements)) (greatest reach (chain_of one elements))
    (Some (totals elements)) (leads-below from.steps one pattern elements rules from.leads) start in
    let sum = totals-absolute elements rules in
    let low = totals-above elements plain in
    within (greatest reach (chain_of pattern elements)) (totals elements) (pos (sum_by absolute_of elements)) all sum low
  where
    within : (o : Option ℤ) (sum most : ℤ) → IsBelow o (Some sum) → sum ≡ most → pos 0 ≤ℤ sum → unwrap_or o (pos 0) ≤ℤ most
    within None sum most h e low = omega (arith, ints)
    within (Some x) sum most h e low = omega (arith, ints)

-- an extension bound is at least 0 and fits
pub extension-range : (places : List Place) → AllByRecursion IsFit places → (pos 0 ≤ℤ extension_bound places) × (extension_bound places <ℤ pos (2 ^ 127))
extension-range [] fit = (omega (arith, ints), omega (arith, ints))
extension-range (place ∷ places) fit = by (greatest reach places) (extension-range places fit.1)
  where
    by : (o : Option ℤ) → (pos 0 ≤ℤ unwrap_or o (pos 0)) × (unwrap_or o (pos 0) <ℤ pos (2 ^ 127))
        → (pos 0 ≤ℤ unwrap_or (better (Some (reach place)) o) (pos 0)) × (unwrap_or (better (Some (reach place)) o) (pos 0) <ℤ pos (2 ^ 127))
    by None h = let here = fit.0 in let best = here.best in let rest = here.rest in let high = here.reach in (omega (arith, ints), omega (arith, ints))
    by (Some u) h =
        let here = fit.0 in
        let best = here.best in
        let rest = here.rest in
        let high = here.reach in
        let low = h.0 in
        let most = h.1 in
        (omega (arith, ints, clamps), omega (arith, ints, clamps))

-- the reduced bound by where the grown pattern occurs
pub reduced-seen : (growth : Growth) (pattern : List (List ℕ)) (item : ℕ) (elements : List (List (ℕ × ℤ)))
    (places : List Place) (b : Bool) → CanGrow growth pattern item → places ≡ chain_of pattern elements
    → occurs growth item elements places ≡ b → reduced_bound places (grown growth pattern item) elements ≡ cond b (extension_bound places) (pos 0)
reduced-seen growth pattern item elements places b can is e =
    ap (λ o. cond o (extension_bound places) (pos 0)) (occurs-grown growth pattern item elements can ∙ ap (occurs growth item elements) (sym is) ∙ e)
