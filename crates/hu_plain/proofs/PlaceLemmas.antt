-- Places, by their indices.
use Rattle.std.proofs.Common.{◌≡◌, ℕ, zero, suc, ◌<◌, ◌≤◌, ◌+◌, ◌^◌, true, false, eqb, ℤ, pos, negsuc, ◌+ℤ◌, unsigned_abs, Option, None, Some, unwrap_or}
use Rattle.std.proofs.Common.{IsNone, IfSome, IfNone, ◌↔◌, List, [], ◌∷◌, ◌++◌, map, length, get_or, take, drop, refl, sym, ap, ◌∙◌, subst, inl, inr, arith}
use Rattle.std.proofs.Common.{sum_by, flat_map, Contains, append_assoc, length-append, drop-cons, add-one}
use Rattle.std.specs.Global.{Vec}
use Rattle.std.specs.List.{AllByRecursion}
use Rattle.std.proofs.lemmas.Int.{ints}
use Rattle.std.proofs.lemmas.Bool.{eqb-true, eqb-false, cases_lt}
use Rattle.std.proofs.lemmas.List.{length-map}
use Rattle.std.proofs.lemmas.List.Elements.{Contains-append_left, Contains-append_right}
use Rattle.std.proofs.lemmas.List.Sums.{sum_by-cons}
use Rattle.hu_kind.specs.declared.entry.Entry.{Entry}
use Rattle.hu_kind.specs.declared.item.Item.{Item}
use Rattle.hu_kind.specs.Cell.{pairs_of}
use Rattle.hu_kind.specs.Record.{items_in, absolute_of, IsItemset}
use Rattle.hu_kind.specs.Sequence.{better, sequence_patterns, closed}
use Rattle.hu_kind.specs.Order.{Ascend}
use Rattle.hu_kind.proofs.lemmas.Ascending.{Ascend-adjacent}
use Rattle.hu_kind.proofs.lemmas.Members.{Member-map, Contains-from_member, Member-from_contains}
use Rattle.hu_kind.proofs.lemmas.Subsequences.{AreRising}
use Rattle.hu_collect.specs.Laws.{SameMembers}
use Rattle.hu_plain.specs.declared.places.Step.{Step}
use Rattle.hu_plain.specs.declared.places.Step.TheVariants.{Into, After}
use Rattle.hu_plain.specs.declared.places.Place.{Place}
use Rattle.hu_plain.specs.Row.{Cells, RowOf, grown_rows, weight_of, IsRising, AreRows}
use Rattle.hu_plain.specs.View.{numbers_of, rows_in}
use Rattle.hu_plain.specs.Growth.{grown_utility, prefix_entry, Grows}
use Rattle.hu_plain.specs.Place.{PlaceOf, Places, after, all_stepped, begun, best_of, best_sum, first_places, fresh, grown_best, itemsets_of, reach_of}
use Rattle.hu_plain.specs.Place.{ArePlaces, IsAscending, AreAscending, IsBegun}
use Rattle.hu_plain.specs.PlaceView.{all_places, following, joining, pushed, step_after, step_into, place_of, places_of, HasSteps}
use Rattle.hu_plain.proofs.Reach.{ahead, ahead-upto, reach_with, best-within, next-within, reaches-stepped}
use Rattle.hu_plain.proofs.RowLemmas.{item-of_number}
use Rattle.hu_plain.proofs.SearchLemmas.{entry_with, popped}
use Rattle.hu_plain.proofs.PlaceGrowth.{grown_best-alone}
use Rattle.hu_plain.proofs.Steps.{IsGrown, rising-fresh, ascending-stepped, begun-stepped, taken-following, taken-joining}
use Rattle.hu_plain.proofs.Subsequences.{itemsets-later, grows-pattern, pattern-grows}

-- what holds of each element as it is seen holds of the one at an index
pub each-at : {A B : Type 0} (f : A → B) (P : B → Type 0) (xs : List A) (i : ℕ) (d : A) → AllByRecursion P (map f xs) → i < length xs
    → P (f (get_or xs i d))
each-at f P [] i d all within = absurd (omega arith)
each-at f P (x ∷ xs) zero d all within = all.0
each-at f P (x ∷ xs) (suc i) d all within = each-at f P xs i d all.1 (omega arith)

-- the rows of a place weigh no more than the places reach, and places reach no more than all
weights-within : (n : ℕ) (rows : List RowOf) → sum_by weight_of rows ≤ sum_by (λ row. (unsigned_abs row.0 + absolute_of row.1) + n) rows
weights-within n [] = omega arith
weights-within n (row ∷ rows) = omega (
  arith,
  sum_by-cons weight_of row rows,
  sum_by-cons (λ (r : ℤ × Cells). (unsigned_abs r.0 + absolute_of r.1) + n) row rows,
  weights-within n rows,
)

rows-within : (places : List Place) (i : ℕ) (d : Place) → i < length places
    → sum_by weight_of (rows_in (get_or places i d).end) ≤ reach_of (places_of places)
rows-within [] i d within = absurd (omega arith)
rows-within (place ∷ places) zero d within = let w = weights-within (sum_by absolute_of (itemsets_of (places_of places))) (rows_in place.end) in omega arith
rows-within (place ∷ places) (suc i) d within = let ih = rows-within places i d (omega arith) in omega arith

pub AreRows-at : (places : List Place) (i : ℕ) (d : Place) → AreAscending (places_of places) → reach_of (places_of places) < 2 ^ 127 → i < length places
    → AreRows (rows_in (get_or places i d).end)
AreRows-at places i d up fits within = record {
  ascending = (each-at place_of IsAscending places i d up within).0;
  sum_fits = omega (arith, rows-within places i d within, fits);
}

pub places-within : (rows : List (Vec Place)) (i : ℕ) (d : Vec Place) → i < length rows
    → reach_of (places_of (get_or rows i d).items) ≤ sum_by reach_of (all_places rows)
places-within [] i d within = absurd (omega arith)
places-within (row ∷ rows) zero d within = omega (arith, sum_by-cons reach_of (places_of row.items) (all_places rows))
places-within (row ∷ rows) (suc i) d within =
    omega (arith, sum_by-cons reach_of (places_of row.items) (all_places rows), places-within rows i d (omega arith))

-- one more record, and what the prefix earns in those so far
utility-alone : (places : Places) → unwrap_or (grown_best [] [] places) (pos 0) ≡ unwrap_or (best_of places) (pos 0)
utility-alone places = ap (λ b. unwrap_or b (pos 0)) (grown_best-alone places)

pub utility-more : (rows : List (Vec Place)) (i : ℕ) (d : Vec Place) → i < length rows
    → grown_utility (all_places (take (suc i) rows)) [] []
    ≡ grown_utility (all_places (take i rows)) [] [] +ℤ unwrap_or (best_of (places_of (get_or rows i d).items)) (pos 0)
utility-more [] i d within = absurd (omega arith)
utility-more (row ∷ rows) zero d within = let alone = utility-alone (places_of row.items) in omega (arith, ints)
utility-more (row ∷ rows) (suc i) d within = let ih = utility-more rows i d (omega arith) in omega (arith, ints)

utility-within : (rows : List (Vec Place)) (i : ℕ) → unsigned_abs (grown_utility (all_places (take i rows)) [] []) ≤ sum_by reach_of (all_places rows)
utility-within [] zero = omega arith
utility-within [] (suc i) = omega arith
utility-within (row ∷ rows) zero = omega arith
utility-within (row ∷ rows) (suc i) =
    let ih = utility-within rows i in
    let here = best-within (places_of row.items) in
    let alone = utility-alone (places_of row.items) in
    omega (arith, ints, sum_by-cons reach_of (places_of row.items) (all_places rows))

pub sum-within : (rows : List (Vec Place)) (i : ℕ) (d : Vec Place) → i < length rows
    → unsigned_abs (grown_utility (all_places (take i rows)) [] [] +ℤ unwrap_or (best_of (places_of (get_or rows i d).items)) (pos 0))
    ≤ sum_by reach_of (all_places rows)
sum-within rows i d within = rw (← utility-more rows i d within) (utility-within rows (suc i))

-- a step leads from places to places
pub ArePlaces-stepped : (step : Step) (rows : List Places) → ArePlaces rows → ArePlaces (all_stepped step rows)
ArePlaces-stepped step rows are = record {
  begin = begun-stepped step rows are.ascending;
  ascending = ascending-stepped step rows are.ascending;
  sum_fits = omega (arith, reaches-stepped step rows, are.sum_fits);
}

-- places that have been taken, with those that are still to come
abbrev pub joined : Places → Places → Places
joined [] places = begun places
joined (first ∷ taken) places = (first ∷ taken) ++ places

pub joined-pushed : (taken : Places) (place : PlaceOf) (places : Places) → joined (pushed taken place) places ≡ joined taken (place ∷ places)
joined-pushed [] ([], cells) places = refl
joined-pushed [] (row ∷ rows, cells) places = refl
joined-pushed (first ∷ taken) place places = append_assoc (first ∷ taken) (place ∷ []) places

-- one more place is taken
places-drop : (places : List Place) (k : ℕ) (d : Place) → k < length places
    → places_of (drop k places) ≡ place_of (get_or places k d) ∷ places_of (drop (suc k) places)
places-drop places k d within = ap places_of (drop-cons places k d within)

-- the row of a whole itemset after the best sum before it
pub AreRows-fresh : (places : List Place) (k : ℕ) (d : Place) (best : Option ℤ) → AreAscending (places_of places)
    → reach_of (places_of places) < 2 ^ 127 → k < length places
    → reach_with best (places_of (drop k places)) ≤ reach_of (places_of places)
    → AreRows (fresh best (pairs_of (get_or places k d).cells.now))
AreRows-fresh places k d best up fits within ahead_fits =
    let cells = pairs_of (get_or places k d).cells.now in
    let later = itemsets_of (places_of (drop (suc k) places)) in
    let first = ap (λ ss. ahead unsigned_abs best (sum_by absolute_of (itemsets_of ss))) (places-drop places k d within) in
    let whole = sum_by-cons absolute_of cells later in
    let more = ahead-upto unsigned_abs best (absolute_of cells) (sum_by absolute_of (cells ∷ later)) (omega (arith, whole)) in
    record {
      ascending = rising-fresh best cells (each-at place_of IsAscending places k d up within).1;
      sum_fits = omega (arith, weight best cells, more, first, ahead_fits, fits);
    }
  where
    weight : (b : Option ℤ) (cells : Cells) → sum_by weight_of (fresh b cells) ≤ ahead unsigned_abs b (absolute_of cells)
    weight None cells = omega arith
    weight (Some x) cells = omega arith

pub joined-next : (places : List Place) (k item : ℕ) (d : Place) (best next : Option ℤ) (taken grown whole : Places) → k < length places
    → joined taken (after item best (places_of (drop k places))) ≡ whole
    → grown ≡ pushed taken (grown_rows item (fresh best (pairs_of (get_or places k d).cells.now)), pairs_of (get_or places k d).cells.now)
    → next ≡ better best (best_sum (rows_in (get_or places k d).end))
    → joined grown (after item next (places_of (drop (k + 1) places))) ≡ whole
joined-next places k item d best next taken grown whole within so_far more e =
    let cells = pairs_of (get_or places k d).cells.now in
    let later = after item (better best (best_sum (rows_in (get_or places k d).end))) (places_of (drop (suc k) places)) in
    rw add-one
    (ap (λ b. joined grown (after item b (places_of (drop (suc k) places)))) e
    ∙ ap (λ g. joined g later) more
    ∙ joined-pushed taken (grown_rows item (fresh best cells), cells) later
    ∙ ap (λ ss. joined taken (after item best ss)) (sym (places-drop places k d within))
    ∙ so_far)

pub within-next : (places : List Place) (k : ℕ) (d : Place) (best next : Option ℤ) (bound : ℕ) → k < length places
    → reach_with best (places_of (drop k places)) ≤ bound → next ≡ better best (best_sum (rows_in (get_or places k d).end))
    → reach_with next (places_of (drop (k + 1) places)) ≤ bound
within-next places k d best next bound within so_far e =
    let P : Places → Type 0 = λ ss. reach_with best ss ≤ bound in
    let here = subst P (places-drop places k d within) so_far in
    let step = next-within best (place_of (get_or places k d)) (places_of (drop (suc k) places)) in
    rw (add-one, e) (omega arith)

-- the places of the empty prefix
reach-later : (elements : List Cells) → reach_of (map (λ cells. ([], cells)) elements) ≡ 0
reach-later [] = refl
reach-later (e ∷ es) = let ih = reach-later es in omega arith

reach-first : (elements : List Cells) → reach_of (first_places elements) ≤ sum_by absolute_of elements
reach-first elements =
    let later = reach-later elements in
    let same = ap (λ es. sum_by absolute_of es) (itemsets-later elements) in
    omega arith

reaches-first : (records : List (List Cells)) → sum_by reach_of (map first_places records) ≤ sum_by (sum_by absolute_of) records
reaches-first [] = omega arith
reaches-first (r ∷ records) = omega (
  arith,
  sum_by-cons reach_of (first_places r) (map first_places records),
  sum_by-cons (sum_by absolute_of) r records,
  reach-first r,
  reaches-first records,
)

begun-first : (records : List (List Cells)) → AllByRecursion IsBegun (map first_places records)
begun-first [] = tt
begun-first (r ∷ records) = (tt, begun-first records)

pub ArePlaces-first : (rows : List (Vec Place)) (records : List (List Cells)) → all_places rows ≡ map first_places records
    → AllByRecursion AreAscending (all_places rows) → sum_by (sum_by absolute_of) records < 2 ^ 127 → ArePlaces (all_places rows)
ArePlaces-first rows records is up fits = record {
  begin = subst (λ rs. AllByRecursion IsBegun rs) (sym is) (begun-first records);
  ascending = up;
  sum_fits = omega (arith, ap (sum_by reach_of) is, reaches-first records, fits);
}

later-rising : (elements : List Cells) → AreAscending (map (λ cells. ([], cells)) elements) → AreRising elements
later-rising [] up = tt
later-rising (e ∷ es) up = (up.0.1, later-rising es up.1)

pub records-rising : (records : List (List Cells)) → AllByRecursion AreAscending (map first_places records) → AllByRecursion AreRising records
records-rising [] up = tt
records-rising (r ∷ records) up = (later-rising r up.0.1, records-rising records up.1)

-- one more place whose items ascend, and in which the prefix doesn't end
pub ascending_place : (places : List Place) (place : Place) (cells : Cells) → AreAscending (places_of places) → IsItemset cells
    → pairs_of place.cells.now ≡ cells → place.end ≡ None
    → AreAscending (places_of (places ++ place ∷ []))
ascending_place [] place cells all is same none =
    let rows : rows_in place.end ≡ [] = ap (λ e. rows_in e) none in
    ((subst (λ rs. AllByRecursion IsRising rs) (sym rows) tt, subst (λ cs. Ascend (items_in cs)) (sym same) (Ascend-adjacent cells is.ascending)), tt)
ascending_place (s ∷ places) place cells all is same none = (all.0, ascending_place places place cells all.1 is same none)

-- what `pop` leaves of an ended key
pub popped_closed : (r : Option ℤ) (old new before : List ℤ) → old ≡ closed before → IsNone r ↔ (old ≡ [])
    → IfSome r (λ m. old ≡ new ++ m ∷ [])
    → IfNone r (new ≡ old) → new ≡ before
popped_closed None old new [] e empty last kept = kept ∙ e
popped_closed (Some m) old new [] e empty last kept = absurd (omega (arith, ap length (sym last ∙ e), length-append new (m ∷ [])))
popped_closed r old new (n ∷ ns) e empty last kept = popped r old new (n ∷ ns) (negsuc 0) e empty last

-- the steps of all items that join or follow
pub HasSteps-from : (rows : List Places) (join follow : List Item) (steps : List Step) → AllByRecursion AreAscending rows
    → SameMembers (flat_map joining rows) (numbers_of join) → SameMembers (flat_map following rows) (numbers_of follow)
    → steps ≡ map step_into join ++ map step_after follow → HasSteps rows steps
HasSteps-from rows join follow steps up joins follows is step some = subst (λ ss. Contains ss step) (sym is) (taken step some)
  where
    among : (f : Item → Step) (item : Item) (items : List Item) → Contains (numbers_of items) item.0 → Contains (map f items) (f item)
    among f item items c =
        let m = Member-map f item items (Member-from_contains item items (item-of_number item items c)) in
        Contains-from_member (f item) (map f items) m

    taken : (s : Step) → 0 < length (all_stepped s rows) → Contains (map step_into join ++ map step_after follow) s
    taken (Into item) some =
        let n = (joins item.0).0 (Contains-from_member item.0 (flat_map joining rows) (taken-joining rows up item some)) in
        Contains-append_left (map step_into join) (map step_after follow) (step_into item) (among step_into item join n)
    taken (After item) some =
        let n = (follows item.0).0 (Contains-from_member item.0 (flat_map following rows) (taken-following rows up item some)) in
        Contains-append_right (map step_into join) (map step_after follow) (step_after item) (among step_after item follow n)

-- whether a step is taken in some record
length-places : (grown : Vec (Vec Place)) (rows : List Places) → all_places grown.items ≡ rows → length rows ≡ grown.len
length-places grown rows is =
    let same = sym (ap length is) ∙ length-map grown.items (λ (places : Vec Place). places_of places.items) in
    omega (arith, same, grown.ok)

pub none-stepped : (grown : Vec (Vec Place)) (rows : List Places) → all_places grown.items ≡ rows → eqb grown.len 0 ≡ true → length rows ≡ 0
none-stepped grown rows is none = length-places grown rows is ∙ eqb-true grown.len 0 none

some-stepped : (grown : Vec (Vec Place)) (rows : List Places) → all_places grown.items ≡ rows → eqb grown.len 0 ≡ false → 0 < length rows
some-stepped grown rows is some = elim (cases_lt 0 (length rows)) [
  | inl more ↦ more
  | inr none ↦ absurd (eqb-false grown.len 0 some (omega (arith, none, length-places grown rows is)))
]

pub IsGrown-from : (grown : Vec (Vec Place)) (found : List (Vec Place)) (step : Step) (rows : List Places) → found ≡ grown.items
    → all_places grown.items ≡ all_stepped step rows → eqb grown.len 0 ≡ false → IsGrown step rows (all_places found)
IsGrown-from grown found step rows same is some = record {
  is = ap all_places same ∙ is;
  some = some-stepped grown (all_stepped step rows) is some;
}

-- the entry of the prefix itself
pub own_entry : (prefix key : List ℤ) (rows : List (Vec Place)) (utility : ℤ) → key ≡ closed prefix
    → utility ≡ grown_utility (all_places rows) [] []
    → entry_with key utility (length rows) ≡ prefix_entry prefix (all_places rows)
own_entry prefix key rows utility k u = let count = length-map rows (λ (places : Vec Place). places_of places.items) in cc

-- the sequences that grow the empty prefix in all records are those of the records
pub patterns-first : (prefix : List ℤ) (rows : List Places) (records : List (List Cells)) → prefix ≡ [] → rows ≡ map first_places records
    → AllByRecursion AreAscending rows → (entry : Entry) → Grows prefix rows entry ↔ Contains (sequence_patterns records) entry
patterns-first prefix rows records none first up entry =
    let rising = records-rising records (subst (AllByRecursion AreAscending) first up) in (
      λ g. pattern-grows records rising entry (subst (λ rs. Grows [] rs entry) first (subst (λ p. Grows p rows entry) none g)),
      λ c. subst (λ p. Grows p rows entry) (sym none) (subst (λ rs. Grows [] rs entry) (sym first) (grows-pattern records rising entry c)),
    )
