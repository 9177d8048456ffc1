-- The tails of a set with a rank more: what sets earn over them, and that they keep the rules of tails.
use Rattle.std.proofs.Common.{◌≡◌, ℕ, ◌+◌, ◌<◌, ◌≤◌, Bool, true, false, cond, nat_lt, ◌&&◌, ℤ, pos, ◌+ℤ◌, List, [], ◌∷◌}
use Rattle.std.proofs.Common.{◌++◌, length, get_or, take, filter, nat_eq, refl, sym, ap, ◌∙◌, subst, arith}
use Rattle.std.proofs.Common.{append_assoc, sum_by}
use Rattle.std.specs.List.{AllByRecursion, IsDistinct}
use Rattle.std.proofs.lemmas.List.{length-map}
use Rattle.hu_search.specs.declared.child.Child.{Child}
use Rattle.hu_search.specs.Children.{AreChildren, ranks_of}
use Rattle.hu_search.specs.Slots.{at, IsPlace}
use Rattle.hu_list.specs.Passes.{met_in, growing}
use Rattle.hu_search.proofs.lemmas.Slots.{at-place, place-among, distinct-before}
use Rattle.hu_list.proofs.GrowthLemmas.{grew}
use Rattle.std.proofs.lemmas.Bool.{ltb-true, lt-ltb}
use Rattle.std.proofs.lemmas.Int.{ints}
use Rattle.std.proofs.lemmas.List.Sums.{sum_by-cons, sum_by-append}
use Rattle.hu_kind.specs.Database.{utility, support}
use Rattle.hu_kind.specs.Order.{Ascend}
use Rattle.hu_kind.specs.Record.{has, holds, value_of, values_of, items_in}
use Rattle.hu_totals.specs.Ranked.{Ranking}
use Rattle.hu_kind.proofs.lemmas.Each.{each-weaker, each-left, each-right, each-append}
use Rattle.hu_kind.proofs.lemmas.Ascending.{Ascend-right}
use Rattle.hu_list.specs.Tails.{TailOf, earned, held, grown_at, grown, has_cells, size_of}
use Rattle.hu_list.specs.View.{IsTail}
use Rattle.hu_list.specs.Level.{IsLeft, AreGrown}
use Rattle.hu_totals.specs.Cells.{after, among}
use Rattle.hu_totals.proofs.lemmas.AfterLemmas.{Ascend-after, absolute_of-after, each-after, holds-after, values_of-after}
use Rattle.hu_list.proofs.LeftLemmas.{at-has}

abbrev earned_at : List ℕ → TailOf → ℤ
earned_at set tail = cond (holds set tail.cells) (tail.own +ℤ values_of set tail.cells) (pos 0)

abbrev held_at : List ℕ → TailOf → ℕ
held_at set tail = cond (holds set tail.cells) 1 0

pub earned-append : (tails others : List TailOf) (set : List ℕ) → earned (tails ++ others) set ≡ earned tails set +ℤ earned others set
earned-append [] others set = omega (arith, ints)
earned-append (tail ∷ tails) others set = omega (arith, ints, earned-append tails others set)

pub held-append : (tails others : List TailOf) (set : List ℕ) → held (tails ++ others) set ≡ held tails set + held others set
held-append [] others set = omega arith
held-append (tail ∷ tails) others set = omega (arith, held-append tails others set)

earned-grown_at : (z : ℕ) (tail : TailOf) (set : List ℕ) → AllByRecursion (λ rank. z < rank) set → earned (grown_at z tail) set ≡ earned_at (z ∷ set) tail
earned-grown_at z tail set above = by (has z tail.cells)
  where
    part : (e : Bool) → cond e (tail.own +ℤ value_of z tail.cells +ℤ values_of set tail.cells) (pos 0) +ℤ pos 0
        ≡ cond e (tail.own +ℤ (value_of z tail.cells +ℤ values_of set tail.cells)) (pos 0)
    part true = omega (arith, ints)
    part false = omega (arith, ints)

    by : (b : Bool) → earned (cond b (record { own = tail.own +ℤ value_of z tail.cells; cells = after z tail.cells } ∷ []) []) set
        ≡ cond (b && holds set tail.cells) (tail.own +ℤ (value_of z tail.cells +ℤ values_of set tail.cells)) (pos 0)
    by true = rw (holds-after z set tail.cells above, values_of-after z set tail.cells above) (part (holds set tail.cells))
    by false = refl

pub earned-grown : (z : ℕ) (tails : List TailOf) (set : List ℕ) → AllByRecursion (λ rank. z < rank) set → earned (grown z tails) set ≡ earned tails (z ∷ set)
earned-grown z [] set above = refl
earned-grown z (tail ∷ tails) set above =
    earned-append (grown_at z tail) (grown z tails) set
    ∙ (λ j. earned-grown_at z tail set above j +ℤ earned-grown z tails set above j)

held-grown_at : (z : ℕ) (tail : TailOf) (set : List ℕ) → AllByRecursion (λ rank. z < rank) set → held (grown_at z tail) set ≡ held_at (z ∷ set) tail
held-grown_at z tail set above = by (has z tail.cells)
  where
    part : (e : Bool) → cond e 1 0 + 0 ≡ cond e 1 0
    part e = omega arith

    by : (b : Bool)
        → held (cond b (record { own = tail.own +ℤ value_of z tail.cells; cells = after z tail.cells } ∷ []) []) set
        ≡ cond (b && holds set tail.cells) 1 0
    by true = rw (holds-after z set tail.cells above) (part (holds set tail.cells))
    by false = refl

pub held-grown : (z : ℕ) (tails : List TailOf) (set : List ℕ) → AllByRecursion (λ rank. z < rank) set → held (grown z tails) set ≡ held tails (z ∷ set)
held-grown z [] set above = refl
held-grown z (tail ∷ tails) set above =
    held-append (grown_at z tail) (grown z tails) set
    ∙ (λ j. held-grown_at z tail set above j + held-grown z tails set above j)

-- ---- the rules of tails

sizes-grown : (z : ℕ) (tails : List TailOf) → sum_by size_of (grown z tails) ≤ sum_by size_of tails
sizes-grown z [] = omega arith
sizes-grown z (tail ∷ tails) =
    omega (
      arith,
      sum_by-append size_of (grown_at z tail) (grown z tails),
      sum_by-cons size_of tail tails,
      sizes-grown z tails,
      by (has z tail.cells),
    )
  where
    by : (b : Bool) → sum_by size_of (cond b (record { own = tail.own +ℤ value_of z tail.cells; cells = after z tail.cells } ∷ []) []) ≤ size_of tail
    by true = omega (arith, ints, absolute_of-after z tail.cells)
    by false = omega arith

-- ---- tails at which cells are left

earned-filter : (tails : List TailOf) (first : ℕ) (more : List ℕ) → earned (filter has_cells tails) (first ∷ more) ≡ earned tails (first ∷ more)
earned-filter [] first more = refl
earned-filter (tail ∷ tails) first more = by tail.cells (earned-filter tails first more)
  where
    by : (cells : List (ℕ × ℤ)) → earned (filter has_cells tails) (first ∷ more) ≡ earned tails (first ∷ more)
        → earned (cond (nat_lt 0 (length cells)) ((record { own = tail.own; cells = cells }) ∷ filter has_cells tails) (filter has_cells tails)) (first ∷ more)
        ≡ cond (holds (first ∷ more) cells) (tail.own +ℤ values_of (first ∷ more) cells) (pos 0) +ℤ earned tails (first ∷ more)
    by [] ih = omega (arith, ints, ih)
    by (cell ∷ cells) ih = let some : nat_lt 0 (length (cell ∷ cells)) ≡ true =
        lt-ltb 0 (length (cell ∷ cells)) (omega arith) in rw some
        (ap (λ e. cond (holds (first ∷ more) (cell ∷ cells)) (tail.own +ℤ values_of (first ∷ more) (cell ∷ cells))
        (pos 0) +ℤ e) ih)

held-filter : (tails : List TailOf) (first : ℕ) (more : List ℕ) → held (filter has_cells tails) (first ∷ more) ≡ held tails (first ∷ more)
held-filter [] first more = refl
held-filter (tail ∷ tails) first more = by tail.cells (held-filter tails first more)
  where
    by : (cells : List (ℕ × ℤ)) → held (filter has_cells tails) (first ∷ more) ≡ held tails (first ∷ more)
        → held (cond (nat_lt 0 (length cells)) ((record { own = tail.own; cells = cells }) ∷ filter has_cells tails) (filter has_cells tails)) (first ∷ more)
        ≡ cond (holds (first ∷ more) cells) 1 0 + held tails (first ∷ more)
    by [] ih = omega (arith, ih)
    by (cell ∷ cells) ih = let some : nat_lt 0 (length (cell ∷ cells)) ≡ true =
        lt-ltb 0 (length (cell ∷ cells)) (omega arith) in rw some
        (ap (λ e. cond (holds (first ∷ more) (cell ∷ cells)) 1 0 + e) ih)

sizes-filter : (tails : List TailOf) → sum_by size_of (filter has_cells tails) ≤ sum_by size_of tails
sizes-filter [] = omega arith
sizes-filter (tail ∷ tails) = by (has_cells tail) (sizes-filter tails)
  where
    by : (b : Bool) → sum_by size_of (filter has_cells tails) ≤ sum_by size_of tails
        → sum_by size_of (cond b (tail ∷ filter has_cells tails) (filter has_cells tails))
        ≤ sum_by size_of (tail ∷ tails)
    by true ih = omega (arith, ih, sum_by-cons size_of tail (filter has_cells tails), sum_by-cons size_of tail tails)
    by false ih = omega (arith, ih, sum_by-cons size_of tail tails)

each-filter : (P : TailOf → Type 0) (tails : List TailOf) → AllByRecursion P tails → AllByRecursion P (filter has_cells tails)
each-filter P [] all = tt
each-filter P (tail ∷ tails) all = by (has_cells tail) (each-filter P tails all.1)
  where
    by : (b : Bool) → AllByRecursion P (filter has_cells tails) → AllByRecursion P (cond b (tail ∷ filter has_cells tails) (filter has_cells tails))
    by true ih = (all.0, ih)
    by false ih = ih

each-grown : (P Q : TailOf → Type 0) (z : ℕ) (tails : List TailOf)
    → ((tail : TailOf) → has z tail.cells ≡ true → P tail
    → Q (record { own = tail.own +ℤ value_of z tail.cells; cells = after z tail.cells })) → AllByRecursion P tails
    → AllByRecursion Q (grown z tails)
each-grown P Q z [] one all = tt
each-grown P Q z (tail ∷ tails) one all = each-append Q (grown_at z tail) (grown z tails) (by (has z tail.cells) refl) (each-grown P Q z tails one all.1)
  where
    by : (b : Bool) → has z tail.cells ≡ b → AllByRecursion Q (cond b (record { own = tail.own +ℤ value_of z tail.cells; cells = after z tail.cells } ∷ []) [])
    by true h = (one tail h all.0, tt)
    by false h = tt

-- the cells after a rank are above it
after-above : (z : ℕ) (cells : List (ℕ × ℤ)) → AllByRecursion (λ y. z < y) (items_in (after z cells))
after-above z [] = tt
after-above z (cell ∷ cells) = by (nat_lt z cell.0) refl (after-above z cells)
  where
    by : (b : Bool) → nat_lt z cell.0 ≡ b → AllByRecursion (λ y. z < y) (items_in (after z cells))
        → AllByRecursion (λ y. z < y) (items_in (cond b (cell ∷ after z cells) (after z cells)))
    by true h ih = (ltb-true z cell.0 h, ih)
    by false h ih = ih

later-after : (set : List ℕ) (z : ℕ) (cells : List (ℕ × ℤ)) → has z cells ≡ true → Ascend (set ++ items_in cells) → Ascend (set ++ z ∷ items_in (after z cells))
later-after [] z cells h up = (after-above z cells, Ascend-after z cells up)
later-after (x ∷ set) z cells h up = (
  each-append (λ y. x < y) set (z ∷ items_in (after z cells)) (each-left (λ y. x < y) set (items_in cells) up.0) (
    at-has (λ y. x < y) cells z (each-right (λ y. x < y) set (items_in cells) up.0) h,
    each-after (λ y. x < y) z cells (each-right (λ y. x < y) set (items_in cells) up.0),
  ),
  later-after set z cells h up.1,
)

-- the tails of a set leave those of the set with a rank more
pub left-grown : (r : Ranking) (set : List ℕ) (z : ℕ) (tails : List TailOf) → IsLeft r set tails → IsLeft r (set ++ z ∷ []) (filter has_cells (grown z tails))
left-grown r set z tails left = record {
  rules = record {
    each = each-filter (IsTail (length r.items)) (grown z tails) (each-grown (IsTail (length r.items)) (IsTail (length r.items)) z tails
        (λ tail h is. record {
          ascending = Ascend-after z tail.cells is.ascending;
          in_range =
              each-after (λ rank. rank < length r.items) z tail.cells is.in_range;
        }) left.rules.each);
    sizes = let fits = left.rules.sizes in omega (arith, sizes-filter (grown z tails), sizes-grown z tails, fits);
  };
  later = each-filter (λ tail. Ascend ((set ++ z ∷ []) ++ items_in tail.cells)) (grown z tails)
      (each-grown (λ tail. Ascend (set ++ items_in tail.cells)) (λ tail. Ascend ((set ++ z ∷ []) ++ items_in tail.cells)) z tails
      (λ tail h up. subst Ascend (sym (append_assoc set (z ∷ []) (items_in (after z tail.cells)))) (later-after set z tail.cells h up)) left.later);
  utility = λ first more up.
      let same : (set ++ z ∷ []) ++ first ∷ more ≡ set ++ z ∷ first ∷ more = append_assoc set (z ∷ []) (first ∷ more) in
      let up' : Ascend (set ++ z ∷ first ∷ more) = subst Ascend same up in
      let above = Ascend-right set (z ∷ first ∷ more) up' in
      ap (utility r.records) same ∙ left.utility z (first ∷ more) up'
      ∙ sym (earned-grown z tails (first ∷ more) above.0) ∙ sym (earned-filter (grown z tails) first more);
  support = λ first more up.
      let same : (set ++ z ∷ []) ++ first ∷ more ≡ set ++ z ∷ first ∷ more = append_assoc set (z ∷ []) (first ∷ more) in
      let up' : Ascend (set ++ z ∷ first ∷ more) = subst Ascend same up in
      let above = Ascend-right set (z ∷ first ∷ more) up' in
      ap (support r.records) same ∙ left.support z (first ∷ more) up' ∙ sym (held-grown z tails (first ∷ more) above.0)
      ∙ sym (held-filter (grown z tails) first more);
}

-- lists that a pass leaves at the ranks of children are the tails of their sets
pub are-grown : (r : Ranking) (set : List ℕ) (tails : List TailOf) (chosen : List Child) (ranks : List ℕ)
    (lists : List (List TailOf)) → IsLeft r set tails → ranks ≡ ranks_of chosen
    → IsDistinct nat_eq (ranks_of chosen) → length lists ≡ length ranks
    → ((z : ℕ) → at [] ranks lists z ≡ met_in (growing ranks) z tails []) → AreGrown r set chosen lists
are-grown r set tails chosen ranks lists left is once len all i within =
    let within' : i < length ranks = omega (arith, ap length is, length-map chosen (λ (child : Child). child.rank), within) in
    let z = get_or (ranks_of chosen) i 0 in
    let here : get_or ranks i 0 ≡ z = ap (λ rs. get_or rs i 0) is in
    let place : IsPlace ranks z i = record {
      within = within';
      here = here;
      first = subst (λ rs. among z (take i rs) ≡ false) (sym is) (distinct-before (ranks_of chosen) i 0 once (subst (λ rs. i < length rs) is within'));
    } in
    let listed : get_or lists i [] ≡ filter has_cells (grown z tails) =
    sym (at-place [] ranks lists z i place (omega (arith, len, within'))) ∙ all z
    ∙ grew ranks z tails [] (each-weaker (IsTail (length r.items)) (λ tail. Ascend (items_in tail.cells)) tails
    (λ tail t. t.ascending) left.rules.each) (place-among ranks z i place) in
    subst (IsLeft r (set ++ z ∷ [])) (sym listed) (left-grown r set z tails left)

pub ranks-within : (r : Ranking) (set : List ℕ) (children : List Child) → AreChildren r set children
    → AllByRecursion (λ rank. rank < length r.items) (ranks_of children)
ranks-within r set [] all = tt
ranks-within r set (child ∷ children) all =
    let is = all.0 in
    let table = each-right (λ rank. rank < length r.items) set (child.rank ∷ []) is.in_table in
    (table.0, ranks-within r set children all.1)
