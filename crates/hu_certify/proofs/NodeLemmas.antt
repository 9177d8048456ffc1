-- The spots of a prefix, and what is written of it.
use Rattle.std.proofs.Common.{◌≡◌, ℕ, zero, suc, ◌+◌, ◌<◌, ◌≤◌, Bool, true, false, cond, ◌&&◌, eqb, ℤ, pos, ◌+ℤ◌, int_le, List, [], ◌∷◌, ◌++◌, map, filter}
use Rattle.std.proofs.Common.{length, drop, refl, sym, ap, ◌∙◌, subst, inl, inr, ◌⊎◌, arith, Less, nat_cmp}
use Rattle.std.specs.List.{AllByRecursion}
use Rattle.std.specs.BTreeSet.{insert_key}
use Rattle.std.proofs.lemmas.Bool.{cases_Bool, cases_eq, eq-eqb, ne_eqb}
use Rattle.std.proofs.lemmas.Bool.Decides.{nat_tests}
use Rattle.std.proofs.lemmas.Cmp.{nat_cmp_total}
use Rattle.std.proofs.lemmas.Int.{ints}
use Rattle.std.proofs.lemmas.List.{drop_more, length-drop}
use Rattle.std.proofs.lemmas.Map.Lookups.{exact_unsigned}
use Rattle.hu_kind.specs.Database.{utility}
use Rattle.hu_kind.specs.Order.{ranking, Ascend}
use Rattle.hu_kind.specs.Record.{has, holds, value_of, values_of, gain, positive_part, items_in}
use Rattle.hu_kind.proofs.lemmas.Members.{Member, Member-append_left, Member-append_right, Member-append_cases}
use Rattle.hu_kind.proofs.lemmas.Occurring.{at_member, by_members, holds-append, values_of-append}
use Rattle.hu_proof.specs.Bounds.{is_among, later_gain, cut_bound, stands_with}
use Rattle.hu_proof.proofs.lemmas.OrderMembers.{not_among}
use Rattle.hu_totals.specs.Ranked.{cells_from, item_at}
use Rattle.hu_totals.proofs.lemmas.DenseLemmas.{ranks_from}
use Rattle.hu_totals.proofs.lemmas.RecordCells.{has-below}
use Rattle.hu_totals.proofs.lemmas.SortedLists.{Once, Member-from_ranking, ranking-members}
use Rattle.hu_certify.specs.Spots.{SpotOf, grown, narrowed, earned, most, ranks_in, standing, child_at, children_at, named, spots_at, lines_from, opened_lines}
use Rattle.hu_certify.specs.Text.{children_of, lines_below}

-- the spots of a prefix with these items after it, which have the ranks from one on
abbrev pub spots_with : List (List (ℕ × ℤ)) → List ℕ → ℕ → List ℕ → List SpotOf
spots_with records later from prefix = map (λ r. (cells_from from later r, values_of prefix r)) (filter (holds prefix) records)

-- ---- a record's cells by rank

pub ranks_above : (from : ℕ) (later : List ℕ) (cells : List (ℕ × ℤ)) (rank : ℕ) → rank < from
    → AllByRecursion (λ other. rank < other) (items_in (cells_from from later cells))
ranks_above from later cells rank low = each (cells_from from later cells) (ranks_from from later cells)
  where
    each : (cs : List (ℕ × ℤ)) → AllByRecursion (λ cell. (from ≤ cell.0) × (cell.0 < from + length later)) cs
        → AllByRecursion (λ other. rank < other) (items_in cs)
    each [] all = tt
    each (c ∷ cs) all = (omega (arith, all.0.0), each cs all.1)

-- a later rank isn't that of the first item
grown-skip : (from rank item : ℕ) (later : List ℕ) (cells : List (ℕ × ℤ)) (own : ℤ) → from < rank
    → grown rank (cells_from from (item ∷ later) cells, own) ≡ grown rank (cells_from (from + 1) later cells, own)
grown-skip from rank item later cells own low =
    let other : eqb rank from ≡ false = grind (arith, nat_tests) in
    elim (cases_Bool (has item cells)) [ inl h ↦ simp (h, other) | inr h ↦ simp h ]

-- the first item of those after the prefix
grown-first : (from item : ℕ) (later : List ℕ) (cells : List (ℕ × ℤ)) (own : ℤ)
    → grown from (cells_from from (item ∷ later) cells, own) ≡ cond (has item cells) ((cells_from (from + 1) later cells, own +ℤ value_of item cells) ∷ []) []
grown-first from item later cells own =
    let same : eqb from from ≡ true = eq-eqb from from refl in
    let gone : has from (cells_from (from + 1) later cells) ≡ false = has-below from (cells_from (from + 1) later cells)
    (ranks_above (from + 1) later cells from (omega arith)) in
    elim (cases_Bool (has item cells)) [ inl h ↦ simp (h, same) | inr h ↦ simp (h, gone) ]

-- ---- a prefix with an item more

holds-one : (prefix : List ℕ) (item : ℕ) (r : List (ℕ × ℤ)) → holds (prefix ++ item ∷ []) r ≡ (holds prefix r && has item r)
holds-one prefix item r = holds-append prefix (item ∷ []) r ∙ ap (λ b. holds prefix r && b) (and-true (has item r))
  where
    and-true : (b : Bool) → (b && true) ≡ b
    and-true true = refl
    and-true false = refl

values-one : (prefix : List ℕ) (item : ℕ) (r : List (ℕ × ℤ)) → values_of (prefix ++ item ∷ []) r ≡ values_of prefix r +ℤ value_of item r
values-one prefix item r = let e = values_of-append prefix (item ∷ []) r in omega (arith, ints)

narrowed-skip : (records : List (List (ℕ × ℤ))) (item : ℕ) (later : List ℕ) (from rank : ℕ) (prefix : List ℕ) → from < rank
    → narrowed rank (spots_with records (item ∷ later) from prefix) ≡ narrowed rank (spots_with records later (from + 1) prefix)
narrowed-skip [] item later from rank prefix low = refl
narrowed-skip (r ∷ rs) item later from rank prefix low =
    let ih = narrowed-skip rs item later from rank prefix low in
    let here = grown-skip from rank item later r (values_of prefix r) low in
    elim (cases_Bool (holds prefix r)) [ inl e ↦ simp e (λ j. here j ++ ih j) | inr e ↦ simp e ih ]

pub narrowed-first : (records : List (List (ℕ × ℤ))) (item : ℕ) (later : List ℕ) (from : ℕ) (prefix : List ℕ)
    → narrowed from (spots_with records (item ∷ later) from prefix) ≡ spots_with records later (from + 1) (prefix ++ item ∷ [])
narrowed-first [] item later from prefix = refl
narrowed-first (r ∷ rs) item later from prefix =
    let ih = narrowed-first rs item later from prefix in
    let here = grown-first from item later r (values_of prefix r) in
    let h = holds-one prefix item r in
    elim (cases_Bool (holds prefix r)) [
      | inl e ↦ simp (h, e) (by (has item r) (grown from (cells_from from (item ∷ later) r, values_of prefix r))
          (narrowed from (spots_with rs (item ∷ later) from prefix)) (filter (holds (prefix ++ item ∷ [])) rs) here ih)
      | inr e ↦ simp (h, e) ih
    ]
  where
    by : (b : Bool) (one more : List SpotOf) (held : List (List (ℕ × ℤ)))
        → one ≡ cond b ((cells_from (from + 1) later r, values_of prefix r +ℤ value_of item r) ∷ []) []
        → more ≡ map (λ c. (cells_from (from + 1) later c, values_of (prefix ++ item ∷ []) c)) held
        → one ++ more ≡ map (λ c. (cells_from (from + 1) later c, values_of (prefix ++ item ∷ []) c)) (cond b (r ∷ held) held)
    by true one more held a m = (λ j. a j ++ m j) ∙ ap (λ v.
        (cells_from (from + 1) later r, v) ∷ map (λ c. (cells_from (from + 1) later c, values_of (prefix ++ item ∷ []) c)) held)
        (sym (values-one prefix item r))
    by false one more held a m = λ j. a j ++ m j

-- at any rank
pub narrowed-at : (records : List (List (ℕ × ℤ))) (order : List ℕ) (n from rank : ℕ) (prefix : List ℕ) → rank ≡ from + n → rank < length order
    → narrowed rank (spots_at records order from prefix) ≡ spots_at records order (rank + 1) (prefix ++ item_at order rank ∷ [])
narrowed-at records order zero from rank prefix e within =
    let same : rank ≡ from = omega arith in
    let next = drop_more order from 0 (omega arith) in
    ap (λ k. narrowed k (spots_at records order from prefix)) same
    ∙ ap (λ later. narrowed from (spots_with records later from prefix)) next
    ∙ narrowed-first records (item_at order from) (drop (from + 1) order) from prefix
    ∙ ap (λ k. spots_at records order (k + 1) (prefix ++ item_at order k ∷ [])) (sym same)
narrowed-at records order (suc n) from rank prefix e within =
    let next = drop_more order from 0 (omega arith) in
    ap (λ later. narrowed rank (spots_with records later from prefix)) next
    ∙ narrowed-skip records (item_at order from) (drop (from + 1) order) from rank prefix (omega arith)
    ∙ narrowed-at records order n (from + 1) rank prefix (omega arith) within

-- ---- what the prefix earns and may earn

pub earned-with : (records : List (List (ℕ × ℤ))) (later : List ℕ) (from : ℕ) (prefix : List ℕ)
    → earned (spots_with records later from prefix) ≡ utility records prefix
earned-with [] later from prefix = refl
earned-with (r ∷ rs) later from prefix =
    let ih = earned-with rs later from prefix in
    elim (cases_Bool (holds prefix r)) [ inl e ↦ simp e (ap (λ v. values_of prefix r +ℤ v) ih) | inr e ↦ simp e (omega (arith, ints)) ]

-- what an item adds to what later items gain in a record
later_gain-first : (item : ℕ) (later : List ℕ) (cells : List (ℕ × ℤ)) → (Member item later → ⊥) → Ascend (items_in cells)
    → later_gain (item ∷ later) cells ≡ cond (has item cells) (positive_part (value_of item cells)) (pos 0) +ℤ later_gain later cells
later_gain-first item later [] out up = omega (arith, ints)
later_gain-first item later (cell ∷ cells) out up = elim (cases_eq item cell.0) [
  | inl e ↦
      let here : eqb item cell.0 ≡ true = eq-eqb item cell.0 e in
      let back : eqb cell.0 item ≡ true = eq-eqb cell.0 item (sym e) in
      let gone : is_among cell.0 later ≡ false = not_among cell.0 later (subst (λ y. Member y later → ⊥) e out) in
      let absent : has item cells ≡ false = has-below item cells (subst (λ y. AllByRecursion (λ other. y < other) (items_in cells)) (sym e) up.0) in
      let ih = rw absent at (later_gain-first item later cells out up.1) in
      simp (here, back, gone) (omega (arith, ints))
  | inr ne ↦
      let here : eqb item cell.0 ≡ false = ne_eqb item cell.0 ne in
      let back : eqb cell.0 item ≡ false = ne_eqb cell.0 item (λ e. ne (sym e)) in
      let ih = later_gain-first item later cells out up.1 in
      simp (here, back) (omega (arith, ints))
]

gain-from : (from : ℕ) (later : List ℕ) (cells : List (ℕ × ℤ)) → Once later → Ascend (items_in cells)
    → gain (cells_from from later cells) ≡ later_gain later cells
gain-from from [] cells once up = none cells
  where
    none : (cs : List (ℕ × ℤ)) → pos 0 ≡ later_gain [] cs
    none [] = refl
    none (c ∷ cs) = let ih = none cs in omega (arith, ints)
gain-from from (item ∷ later) cells once up =
    let ih = gain-from (from + 1) later cells once.1 up in
    let first = later_gain-first item later cells once.0 up in
    elim (cases_Bool (has item cells)) [
      | inl h ↦ let first' = rw h at first in simp h (omega (arith, ints))
      | inr h ↦ let first' = rw h at first in simp h (omega (arith, ints))
    ]

pub most-with : (records : List (List (ℕ × ℤ))) (later : List ℕ) (from : ℕ) (prefix : List ℕ) → Once later → AllByRecursion (λ r. Ascend (items_in r)) records
    → most (spots_with records later from prefix) ≡ cut_bound records prefix later
most-with [] later from prefix once up = refl
most-with (r ∷ rs) later from prefix once up =
    let ih = most-with rs later from prefix once up.1 in
    let gained = gain-from from later r once up.0 in
    elim (cases_Bool (holds prefix r)) [
      | inl e ↦ simp (e, gained) (ap (λ v. positive_part (values_of prefix r +ℤ later_gain later r) +ℤ v) ih)
      | inr e ↦ simp e (omega (arith, ints))
    ]

-- ---- the ranks that stand

ranks-with : (records : List (List (ℕ × ℤ))) (later : List ℕ) (from : ℕ) (prefix : List ℕ) (rank : ℕ) → rank < from
    → AllByRecursion (λ other. rank < other) (ranks_in (spots_with records later from prefix))
ranks-with [] later from prefix rank low = tt
ranks-with (r ∷ rs) later from prefix rank low =
    let ih = ranks-with rs later from prefix rank low in
    elim (cases_Bool (holds prefix r)) [
      | inl e ↦ simp e (each-append' (λ other. rank < other) (items_in (cells_from from later r)) (ranks_in (spots_with rs later from prefix))
          (ranks_above from later r rank low) ih)
      | inr e ↦ simp e ih
    ]
  where
    each-append' : (P : ℕ → Type 0) (xs ys : List ℕ) → AllByRecursion P xs → AllByRecursion P ys → AllByRecursion P (xs ++ ys)
    each-append' P [] ys a b = b
    each-append' P (x ∷ xs) ys a b = (a.0, each-append' P xs ys a.1 b)

-- what stands with a first item more
record IsStep (stands : Bool) (from : ℕ) (more less : List ℕ) : Type 0 where
  to : (z : ℕ) → Member z more → (stands ≡ true × (from ≡ z)) ⊎ Member z less
  back : (z : ℕ) → Member z less → Member z more
  first : stands ≡ true → Member from more

ranks-step : (records : List (List (ℕ × ℤ))) (item : ℕ) (later : List ℕ) (from : ℕ) (prefix : List ℕ)
    → IsStep (stands_with records prefix item) from (ranks_in (spots_with records (item ∷ later) from prefix))
    (ranks_in (spots_with records later (from + 1) prefix))
ranks-step [] item later from prefix = record { to = λ z m. absurd m; back = λ z m. m; first = λ e. cc }
ranks-step (r ∷ rs) item later from prefix =
    let ih = ranks-step rs item later from prefix in
    let h = holds-one prefix item r in
    let more = ranks_in (spots_with rs (item ∷ later) from prefix) in
    let less = ranks_in (spots_with rs later (from + 1) prefix) in
    let rest = items_in (cells_from (from + 1) later r) in
    elim (cases_Bool (holds prefix r)) [
      | inl e ↦ elim (cases_Bool (has item r)) [
        | inl k ↦ simp (h, e, k) (with_first more less rest (stands_with rs prefix item) ih)
        | inr k ↦ simp (h, e, k) (without more less rest (stands_with rs prefix item) ih)
      ]
      | inr e ↦ simp (h, e) ih
    ]
  where
    with_first : (more less rest : List ℕ) (b : Bool) → IsStep b from more less → IsStep true from (from ∷ (rest ++ more)) (rest ++ less)
    with_first more less rest b is = record {
      to = λ z m. to' z m;
      back = λ z m. inr (elim (Member-append_cases z rest less m)
          [ inl n ↦ Member-append_left z rest more n | inr n ↦ Member-append_right z rest more (is.back z n) ]);
      first = λ e. inl refl;
    }
      where
        to'' : (z : ℕ) → (Member z rest) ⊎ (Member z more) → (true ≡ true × (from ≡ z)) ⊎ Member z (rest ++ less)
        to'' z (inl n) = inr (Member-append_left z rest less n)
        to'' z (inr n) = elim (is.to z n) [ inl p ↦ inl (refl, p.1) | inr q ↦ inr (Member-append_right z rest less q) ]

        to' : (z : ℕ) → Member z (from ∷ (rest ++ more)) → (true ≡ true × (from ≡ z)) ⊎ Member z (rest ++ less)
        to' z (inl e) = inl (refl, e)
        to' z (inr n) = to'' z (Member-append_cases z rest more n)

    without : (more less rest : List ℕ) (b : Bool) → IsStep b from more less → IsStep b from (rest ++ more) (rest ++ less)
    without more less rest b is = record {
      to = λ z m. to' z (Member-append_cases z rest more m);
      back = λ z m. elim (Member-append_cases z rest less m)
          [ inl n ↦ Member-append_left z rest more n | inr n ↦ Member-append_right z rest more (is.back z n) ];
      first = λ e. Member-append_right from rest more (is.first e);
    }
      where
        to' : (z : ℕ) → (Member z rest) ⊎ (Member z more) → (b ≡ true × (from ≡ z)) ⊎ Member z (rest ++ less)
        to' z (inl n) = inr (Member-append_left z rest less n)
        to' z (inr n) = elim (is.to z n) [ inl p ↦ inl p | inr q ↦ inr (Member-append_right z rest less q) ]

insert-first : (x : ℕ) (ys : List ℕ) → AllByRecursion (λ y. x < y) ys → insert_key nat_cmp ys x ≡ x ∷ ys
insert-first x [] all = refl
insert-first x (y ∷ ys) all = let low : nat_cmp x y ≡ Less = grind (arith, nat_tests) in rw low refl

ranking-step : (b : Bool) (from : ℕ) (more less : List ℕ) → IsStep b from more less → AllByRecursion (λ y. from < y) (ranking nat_cmp less)
    → ranking nat_cmp more ≡ cond b (from ∷ []) [] ++ ranking nat_cmp less
ranking-step true from more less is above =
    ranking-members nat_cmp nat_cmp_total exact_unsigned more (from ∷ less)
    (λ z m. elim (is.to z m) [ inl p ↦ inl p.1 | inr n ↦ inr n ])
    back
    ∙ insert-first from (ranking nat_cmp less) above
  where
    back : (z : ℕ) → Member z (from ∷ less) → Member z more
    back z (inl e) = subst (λ y. Member y more) e (is.first refl)
    back z (inr n) = is.back z n
ranking-step false from more less is above = ranking-members nat_cmp nat_cmp_total exact_unsigned more less to is.back
  where
    to : (z : ℕ) → Member z more → Member z less
    to z m = elim (is.to z m) [ inl p ↦ let f : false ≡ true = p.0 in cc | inr n ↦ n ]

standing-above : (records : List (List (ℕ × ℤ))) (later : List ℕ) (from : ℕ) (prefix : List ℕ) (rank : ℕ) → rank < from
    → AllByRecursion (λ y. rank < y) (standing (spots_with records later from prefix))
standing-above records later from prefix rank low =
    by_members (λ y. rank < y) (standing (spots_with records later from prefix))
    (λ y m. at_member (λ z. rank < z) y (ranks_in (spots_with records later from prefix)) (ranks-with records later from prefix rank low)
    (Member-from_ranking nat_cmp y (ranks_in (spots_with records later from prefix)) m))

standing-step : (records : List (List (ℕ × ℤ))) (item : ℕ) (later : List ℕ) (from : ℕ) (prefix : List ℕ)
    → standing (spots_with records (item ∷ later) from prefix)
    ≡ cond (stands_with records prefix item) (from ∷ []) [] ++ standing (spots_with records later (from + 1) prefix)
standing-step records item later from prefix =
    ranking-step (stands_with records prefix item) from (ranks_in (spots_with records (item ∷ later) from prefix))
    (ranks_in (spots_with records later (from + 1) prefix))
    (ranks-step records item later from prefix) (standing-above records later (from + 1) prefix from (omega arith))

-- ---- the children

map-same : {A B : Type 0} (f g : A → B) (xs : List A) → ((x : A) → Member x xs → f x ≡ g x) → map f xs ≡ map g xs
map-same f g [] same = refl
map-same f g (x ∷ xs) same = λ j. same x (inl refl) j ∷ map-same f g xs (λ y m. same y (inr m)) j

children-step : (records : List (List (ℕ × ℤ))) (item : ℕ) (later : List ℕ) (from : ℕ) (prefix : List ℕ) → Once (item ∷ later)
    → AllByRecursion (λ r. Ascend (items_in r)) records
    → children_at (spots_with records (item ∷ later) from prefix)
    ≡ cond (stands_with records prefix item) ((from, cut_bound records (prefix ++ item ∷ []) later) ∷ []) []
    ++ children_at (spots_with records later (from + 1) prefix)
children-step records item later from prefix once up =
    let spots = spots_with records (item ∷ later) from prefix in
    let less = spots_with records later (from + 1) prefix in
    let bound : most (narrowed from spots) ≡ cut_bound records (prefix ++ item ∷ []) later =
    ap most (narrowed-first records item later from prefix) ∙ most-with records later (from + 1) (prefix ++ item ∷ []) once.1 up in
    let rest : map (child_at spots) (standing less) ≡ map (child_at less) (standing less) =
    map-same (child_at spots) (child_at less) (standing less)
    (λ rank m. ap (λ narrow. (rank, most narrow))
    (narrowed-skip records item later from rank prefix
    (at_member (λ y. from < y) rank (standing less) (standing-above records later (from + 1) prefix from (omega arith)) m))) in
    ap (map (child_at spots)) (standing-step records item later from prefix)
    ∙ by (stands_with records prefix item) bound rest
  where
    by : (b : Bool) → most (narrowed from (spots_with records (item ∷ later) from prefix)) ≡ cut_bound records (prefix ++ item ∷ []) later
        → map (child_at (spots_with records (item ∷ later) from prefix)) (standing (spots_with records later (from + 1) prefix))
        ≡ children_at (spots_with records later (from + 1) prefix)
        → map (child_at (spots_with records (item ∷ later) from prefix)) (cond b (from ∷ []) [] ++ standing (spots_with records later (from + 1) prefix))
        ≡ cond b ((from, cut_bound records (prefix ++ item ∷ []) later) ∷ []) [] ++ children_at (spots_with records later (from + 1) prefix)
    by true bound rest = λ j. (from, bound j) ∷ rest j
    by false bound rest = rest

first_of : (order : List ℕ) (from item : ℕ) (later : List ℕ) → drop from order ≡ item ∷ later → (item_at order from ≡ item) × (drop (from + 1) order ≡ later)
first_of order from item later e =
    let some : from < length order = omega (arith, length-drop from order, ap length e) in
    let next = sym (drop_more order from 0 some) ∙ e in
    (cc, cc)

no_children : (records : List (List (ℕ × ℤ))) (from : ℕ) (prefix : List ℕ) → children_at (spots_with records [] from prefix) ≡ []
no_children records from prefix = ap (λ ranks. map (child_at (spots_with records [] from prefix)) (ranking nat_cmp ranks)) (no_ranks records)
  where
    no_ranks : (rs : List (List (ℕ × ℤ))) → ranks_in (spots_with rs [] from prefix) ≡ []
    no_ranks [] = refl
    no_ranks (r ∷ rs) = elim (cases_Bool (holds prefix r)) [ inl e ↦ simp e (no_ranks rs) | inr e ↦ simp e (no_ranks rs) ]

-- they are those of the definition
pub children-with : (records : List (List (ℕ × ℤ))) (order later : List ℕ) (from : ℕ) (prefix : List ℕ) → drop from order ≡ later → Once later
    → AllByRecursion (λ r. Ascend (items_in r)) records
    → named order (children_at (spots_with records later from prefix)) ≡ children_of records prefix later
children-with records order [] from prefix e once up = rw (no_children records from prefix) refl
children-with records order (item ∷ later) from prefix e once up =
    let heads = first_of order from item later e in
    let ih = children-with records order later (from + 1) prefix heads.1 once.1 up in
    ap (named order) (children-step records item later from prefix once up)
    ∙ by (stands_with records prefix item) (children_at (spots_with records later (from + 1) prefix)) (children_of records prefix later) heads.0 ih
  where
    by : (b : Bool) (less : List (ℕ × ℤ)) (rest : List (ℕ × ℤ)) → item_at order from ≡ item → named order less ≡ rest
        → named order (cond b ((from, cut_bound records (prefix ++ item ∷ []) later) ∷ []) [] ++ less) ≡ cond b
        ((item, cut_bound records (prefix ++ item ∷ []) later) ∷ []) [] ++ rest
    by true less rest is ih = λ j. (is j, cut_bound records (prefix ++ item ∷ []) later) ∷ ih j
    by false less rest is ih = ih

-- and so are the lines of those that are opened
pub lines-with : (records : List (List (ℕ × ℤ))) (least : ℤ) (order later : List ℕ) (from : ℕ) (prefix : List ℕ) → drop from order ≡ later → Once later
    → AllByRecursion (λ r. Ascend (items_in r)) records
    → opened_lines records least order prefix (children_at (spots_with records later from prefix)) ≡ lines_below records least prefix later
lines-with records least order [] from prefix e once up = rw (no_children records from prefix) refl
lines-with records least order (item ∷ later) from prefix e once up =
    let heads = first_of order from item later e in
    let ih = lines-with records least order later (from + 1) prefix heads.1 once.1 up in
    ap (opened_lines records least order prefix) (children-step records item later from prefix once up)
    ∙ by (stands_with records prefix item) (children_at (spots_with records later (from + 1) prefix)) heads.0 heads.1 ih
  where
    by : (b : Bool) (less : List (ℕ × ℤ)) → item_at order from ≡ item → drop (from + 1) order ≡ later
        → opened_lines records least order prefix less ≡ lines_below records least prefix later
        → opened_lines records least order prefix (cond b ((from, cut_bound records (prefix ++ item ∷ []) later) ∷ []) [] ++ less)
        ≡ cond (b && int_le least (cut_bound records (prefix ++ item ∷ []) later)) (lines_from records least (prefix ++ item ∷ []) later) []
        ++ lines_below records least prefix later
    by true less is rest ih =
        λ j. cond (int_le least (cut_bound records (prefix ++ item ∷ []) later)) (lines_from records least (prefix ++ is j ∷ []) (rest j)) [] ++ ih j
    by false less is rest ih = ih
