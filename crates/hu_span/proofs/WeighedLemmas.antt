-- What is left of records where kept items count alone.
use Rattle.std.proofs.Common.{◌≡◌, ℕ, zero, suc, ◌+◌, ◌<◌, ◌≤◌, ◌&&◌, ◌||◌, Bool, true, false, cond, eqb, ℤ, pos, ◌+ℤ◌, ◌≤ℤ◌, int_lt, unsigned_abs, None}
use Rattle.std.proofs.Common.{option_map, unwrap_or, is_some, List, [], ◌∷◌, map, length, get_or, drop, refl, sym, ap, ◌∙◌, arith, sum_by}
use Rattle.std.specs.List.{AllByRecursion, list_any}
use Rattle.std.proofs.lemmas.Bool.{eqb-true}
use Rattle.std.proofs.lemmas.Int.{ints}
use Rattle.std.proofs.lemmas.List.{drop-map, length-map, get_or-map}
use Rattle.std.proofs.lemmas.List.Sums.{sum_by-cons}
use Rattle.hu_kind.specs.Record.{absolute_of, any_negative, has, holds, total, value_of, values_of, IsItemset}
use Rattle.hu_kind.specs.Sequence.{better, best_utility, sequence_support, sequence_utility, IsSequence}
use Rattle.hu_kind.proofs.lemmas.Each.{each-drop}
use Rattle.hu_chain.specs.declared.place.Place.{Place}
use Rattle.hu_chain.specs.Place.{element_at, rest_at, totals}
use Rattle.hu_chain.proofs.lemmas.Cells.{all-above, IsAbove}
use Rattle.hu_span.specs.Gather.{cells_after, IsInside}
use Rattle.hu_span.specs.Growing.{AreRecords, Records}
use Rattle.hu_span.specs.Mark.{record_at}
use Rattle.hu_span.specs.Kept.{counted, weighed, weighed_in, weighed_of, AreKept}

module _ (keep : ℕ → Bool) where
  abbrev pub weigh : ℕ × ℤ → ℕ × ℤ
  weigh cell = (cell.0, counted (keep cell.0) cell.1)

  -- ---- items and values

  pub weighed-has : (item : ℕ) (cells : List (ℕ × ℤ)) → has item (weighed keep cells) ≡ has item cells
  weighed-has item [] = refl
  weighed-has item (cell ∷ cells) = ap (λ b. eqb item cell.0 || b) (weighed-has item cells)

  pub weighed-holds : (items : List ℕ) (cells : List (ℕ × ℤ)) → holds items (weighed keep cells) ≡ holds items cells
  weighed-holds [] cells = refl
  weighed-holds (item ∷ items) cells = λ j. weighed-has item cells j && weighed-holds items cells j

  weighed-value : (item : ℕ) (cells : List (ℕ × ℤ)) → keep item ≡ true → value_of item (weighed keep cells) ≡ value_of item cells
  weighed-value item [] kept = refl
  weighed-value item (cell ∷ cells) kept = by (eqb item cell.0) refl (weighed-value item cells kept)
    where
      by : (b : Bool) → eqb item cell.0 ≡ b → value_of item (weighed keep cells) ≡ value_of item cells
          → cond b (counted (keep cell.0) cell.1) (value_of item (weighed keep cells)) ≡ cond b cell.1 (value_of item cells)
      by true same rest = let here : keep cell.0 ≡ true = ap keep (sym (eqb-true item cell.0 same)) ∙ kept in ap (λ b. counted b cell.1) here
      by false other rest = rest

  pub weighed-values : (items : List ℕ) (cells : List (ℕ × ℤ)) → AllByRecursion (λ item. keep item ≡ true) items
      → values_of items (weighed keep cells) ≡ values_of items cells
  weighed-values [] cells kept = refl
  weighed-values (item ∷ items) cells kept = λ j. weighed-value item cells kept.0 j +ℤ weighed-values items cells kept.1 j

  -- ---- a pattern of kept items earns the same

  pub weighed-best : (pattern : List (List ℕ)) (elements : List (List (ℕ × ℤ))) → AreKept keep pattern
      → best_utility pattern (weighed_in keep elements) ≡ best_utility pattern elements
  weighed-best [] elements kept = refl
  weighed-best (p ∷ ps) [] kept = refl
  weighed-best (p ∷ ps) (e ∷ es) kept = λ j. better
      (cond (weighed-holds p e j) (option_map (λ u. weighed-values p e kept.0 j +ℤ u) (weighed-best ps es kept.1 j)) None)
      (weighed-best (p ∷ ps) es kept j)

  pub weighed-utility : (rs : Records) (pattern : List (List ℕ)) → AreKept keep pattern
      → sequence_utility (weighed_of keep rs) pattern ≡ sequence_utility rs pattern
  weighed-utility [] pattern kept = refl
  weighed-utility (r ∷ rs) pattern kept = λ j. unwrap_or (weighed-best pattern r kept j) (pos 0) +ℤ weighed-utility rs pattern kept j

  pub weighed-support : (rs : Records) (pattern : List (List ℕ)) → AreKept keep pattern
      → sequence_support (weighed_of keep rs) pattern ≡ sequence_support rs pattern
  weighed-support [] pattern kept = refl
  weighed-support (r ∷ rs) pattern kept =
      let f : List (List (ℕ × ℤ)) → ℕ = λ s. cond (is_some (best_utility pattern s)) 1 0 in
      sum_by-cons f (weighed_in keep r) (weighed_of keep rs)
      ∙ (λ j. cond (is_some (weighed-best pattern r kept j)) 1 0 + weighed-support rs pattern kept j)
      ∙ sym (sum_by-cons f r rs)

  -- ---- the rules of a sequence

  weighed-itemset : (cells : List (ℕ × ℤ)) → IsItemset cells → IsItemset (weighed keep cells)
  weighed-itemset cells is =
      let size = length-map cells weigh in
      let item : (k : ℕ) (d : ℕ × ℤ) → k < length cells → (get_or (map weigh cells) k d).0 ≡ (get_or cells k d).0 =
      λ k d within. ap (λ (x : ℕ × ℤ). x.0) (get_or-map weigh cells k d d within) in
      record {
        some = omega (arith, size, is.some);
        ascending = λ k d within.
            let inside : k + 1 < length cells = omega (arith, size, within) in
            let a = item k d (omega arith) in
            let b = item (k + 1) d inside in
            let up = is.ascending k d inside in
            omega (arith, a, b, up);
        in_range = λ k d within.
            let inside : k < length cells = omega (arith, size, within) in
            let a = item k d inside in
            let range = is.in_range k d inside in
            omega (arith, a, range);
      }

  weighed-itemsets : (elements : List (List (ℕ × ℤ))) → AllByRecursion IsItemset elements → AllByRecursion IsItemset (weighed_in keep elements)
  weighed-itemsets [] is = tt
  weighed-itemsets (cells ∷ elements) is = (weighed-itemset cells is.0, weighed-itemsets elements is.1)

  weighed-negative : (cells : List (ℕ × ℤ)) → any_negative cells ≡ false → any_negative (weighed keep cells) ≡ false
  weighed-negative [] none = refl
  weighed-negative (cell ∷ cells) none = by (int_lt cell.1 (pos 0)) refl (any_negative cells) refl none (weighed-negative cells)
    where
      first : (b : Bool) → int_lt cell.1 (pos 0) ≡ false → int_lt (counted b cell.1) (pos 0) ≡ false
      first true e = e
      first false e = refl

      by : (n : Bool) → int_lt cell.1 (pos 0) ≡ n → (m : Bool) → any_negative cells ≡ m → (n || m) ≡ false
          → (any_negative cells ≡ false → any_negative (weighed keep cells) ≡ false)
          → (int_lt (counted (keep cell.0) cell.1) (pos 0) || any_negative (weighed keep cells)) ≡ false
      by true d m e h ih = cc
      by false d m e h ih = (λ j. first (keep cell.0) d j || any_negative (weighed keep cells)) ∙ ih (e ∙ h)

  weighed-negatives : (elements : List (List (ℕ × ℤ))) → list_any any_negative elements ≡ false → list_any any_negative (weighed_in keep elements) ≡ false
  weighed-negatives [] none = refl
  weighed-negatives (cells ∷ elements) none = by (any_negative cells) refl (list_any any_negative elements) refl none (weighed-negatives elements)
    where
      by : (n : Bool) → any_negative cells ≡ n → (m : Bool) → list_any any_negative elements ≡ m → (n || m) ≡ false
          → (list_any any_negative elements ≡ false → list_any any_negative (weighed_in keep elements) ≡ false)
          → (any_negative (weighed keep cells) || list_any any_negative (weighed_in keep elements)) ≡ false
      by true d m e h ih = cc
      by false d m e h ih = (λ j. weighed-negative cells d j || list_any any_negative (weighed_in keep elements)) ∙ ih (e ∙ h)

  weighed-absolute : (cells : List (ℕ × ℤ)) → absolute_of (weighed keep cells) ≤ absolute_of cells
  weighed-absolute [] = omega arith
  weighed-absolute (cell ∷ cells) =
      let f : ℕ × ℤ → ℕ = λ c. unsigned_abs c.1 in
      omega (arith, weighed-absolute cells, first (keep cell.0), sum_by-cons f (weigh cell) (weighed keep cells), sum_by-cons f cell cells)
    where
      first : (b : Bool) → unsigned_abs (counted b cell.1) ≤ unsigned_abs cell.1
      first true = omega arith
      first false = omega arith

  weighed-absolutes : (elements : List (List (ℕ × ℤ))) → sum_by absolute_of (weighed_in keep elements) ≤ sum_by absolute_of elements
  weighed-absolutes [] = omega arith
  weighed-absolutes (cells ∷ elements) =
      omega (
        arith,
        weighed-absolutes elements,
        weighed-absolute cells,
        sum_by-cons absolute_of (weighed keep cells) (weighed_in keep elements),
        sum_by-cons absolute_of cells elements,
      )

  weighed-lengths : (elements : List (List (ℕ × ℤ))) → sum_by length (weighed_in keep elements) ≡ sum_by length elements
  weighed-lengths [] = refl
  weighed-lengths (cells ∷ elements) =
      let f : List (ℕ × ℤ) → ℕ = λ cs. length cs in
      omega (
        arith,
        weighed-lengths elements,
        length-map cells weigh,
        sum_by-cons f (weighed keep cells)
            (weighed_in keep elements),
        sum_by-cons f cells elements,
      )

  pub weighed-sequence : (elements : List (List (ℕ × ℤ))) → IsSequence elements → IsSequence (weighed_in keep elements)
  weighed-sequence elements is = record {
    itemsets = weighed-itemsets elements is.itemsets;
    some = omega (arith, length-map elements (weighed keep), is.some);
    few = omega (arith, weighed-lengths elements, is.few);
    none_below = weighed-negatives elements is.none_below;
    sum_fits = omega (arith, weighed-absolutes elements, is.sum_fits);
  }

  pub weighed-rules : (rs : Records) → AllByRecursion IsSequence rs → AllByRecursion IsSequence (weighed_of keep rs)
  weighed-rules [] rules = tt
  weighed-rules (r ∷ rs) rules = (weighed-sequence r rules.0, weighed-rules rs rules.1)

  weighed-sums : (rs : Records) → sum_by (λ elements. sum_by absolute_of elements) (weighed_of keep rs) ≤ sum_by (λ elements. sum_by absolute_of elements) rs
  weighed-sums [] = omega arith
  weighed-sums (r ∷ rs) =
      let f : List (List (ℕ × ℤ)) → ℕ = λ elements. sum_by absolute_of elements in
      omega (arith, weighed-sums rs, weighed-absolutes r, sum_by-cons f (weighed_in keep r) (weighed_of keep rs), sum_by-cons f r rs)

  pub weighed-records : (rs : Records) → AreRecords rs → AreRecords (weighed_of keep rs)
  weighed-records rs are = record { rules = weighed-rules rs are.rules; fits = omega (arith, weighed-sums rs, are.fits) }

  -- ---- elements and records by their numbers

  pub weighed-element : (elements : List (List (ℕ × ℤ))) (e : ℕ) → element_at (weighed_in keep elements) e ≡ weighed keep (element_at elements e)
  weighed-element [] e = refl
  weighed-element (cells ∷ elements) zero = refl
  weighed-element (cells ∷ elements) (suc e) = weighed-element elements e

  pub weighed-record : (rs : Records) (k : ℕ) → record_at (weighed_of keep rs) k ≡ weighed_in keep (record_at rs k)
  weighed-record [] k = refl
  weighed-record (r ∷ rs) zero = refl
  weighed-record (r ∷ rs) (suc k) = weighed-record rs k

  pub weighed-after : (elements : List (List (ℕ × ℤ))) (place : Place) → cells_after (weighed_in keep elements) place ≡ weighed keep
      (cells_after elements place)
  weighed-after elements place =
      ap (drop (suc place.cell)) (weighed-element elements place.element) ∙ drop-map weigh (suc place.cell) (element_at elements place.element)

  pub weighed-inside : (elements : List (List (ℕ × ℤ))) (place : Place) → IsInside (weighed_in keep elements) place → IsInside elements place
  weighed-inside elements place is =
      let size = length-map elements (weighed keep) in
      let here = ap length (weighed-element elements place.element) in
      let cells = length-map (element_at elements place.element) weigh in
      record { element = omega (arith, size, is.element); cell = omega (arith, here, cells, is.cell) }

-- where all items are kept nothing changes
module _ (keep : ℕ → Bool) (every : (item : ℕ) → keep item ≡ true) where
  all-cells : (cells : List (ℕ × ℤ)) → weighed keep cells ≡ cells
  all-cells [] = refl
  all-cells (cell ∷ cells) = λ j. (cell.0, counted (every cell.0 j) cell.1) ∷ all-cells cells j

  pub all-elements : (elements : List (List (ℕ × ℤ))) → weighed_in keep elements ≡ elements
  all-elements [] = refl
  all-elements (cells ∷ elements) = λ j. all-cells cells j ∷ all-elements elements j

  pub all-records : (rs : Records) → weighed_of keep rs ≡ rs
  all-records [] = refl
  all-records (r ∷ rs) = λ j. all-elements r j ∷ all-records rs j

  all-items : (items : List ℕ) → AllByRecursion (λ item. keep item ≡ true) items
  all-items [] = tt
  all-items (item ∷ items) = (every item, all-items items)

  pub all-kept : (pattern : List (List ℕ)) → AreKept keep pattern
  all-kept [] = tt
  all-kept (items ∷ pattern) = (all-items items, all-kept pattern)

-- ---- totals where fewer items count

module _ (fewer keep : ℕ → Bool) (less : (item : ℕ) → fewer item ≡ true → keep item ≡ true) where
  weighed-less : (cells : List (ℕ × ℤ)) → AllByRecursion IsAbove cells → total (weighed fewer cells) ≤ℤ total (weighed keep cells)
  weighed-less [] above = omega (arith, ints)
  weighed-less (cell ∷ cells) above =
      let here = above.0 in
      let rest = weighed-less cells above.1 in
      let first = by (fewer cell.0) refl (keep cell.0) refl in
      omega (arith, ints, rest, first)
    where
      by : (f : Bool) → fewer cell.0 ≡ f → (k : Bool) → keep cell.0 ≡ k → counted f cell.1 ≤ℤ counted k cell.1
      by true a true b = omega (arith, ints)
      by true a false b = let bad : true ≡ false = sym (less cell.0 a) ∙ b in cc
      by false a true b = omega (arith, ints, above.0)
      by false a false b = omega (arith, ints)

  weighed-less_all : (elements : List (List (ℕ × ℤ))) → AllByRecursion (AllByRecursion IsAbove) elements
      → totals (weighed_in fewer elements) ≤ℤ totals (weighed_in keep elements)
  weighed-less_all [] above = omega (arith, ints)
  weighed-less_all (cells ∷ elements) above = omega (arith, ints, weighed-less cells above.0, weighed-less_all elements above.1)

  pub rest-less : (elements : List (List (ℕ × ℤ))) (e c : ℕ) → IsSequence elements → rest_at (weighed_in fewer elements) e c ≤ℤ rest_at
      (weighed_in keep elements) e c
  rest-less elements e c is =
      let above = all-above elements is.none_below in
      let cells = drop (suc c) (element_at elements e) in
      let later = drop (suc e) elements in
      let a = ap (λ (cs : List (ℕ × ℤ)). total (drop (suc c) cs)) (weighed-element fewer elements e) ∙ ap total (drop-map (weigh fewer) (suc c)
      (element_at elements e)) in
      let b = ap (λ (cs : List (ℕ × ℤ)). total (drop (suc c) cs)) (weighed-element keep elements e) ∙ ap total (drop-map (weigh keep) (suc c)
      (element_at elements e)) in
      let a' = ap totals (drop-map (weighed fewer) (suc e) elements) in
      let b' = ap totals (drop-map (weighed keep) (suc e) elements) in
      let here = weighed-less cells (each-drop IsAbove (suc c) (element_at elements e) (at elements e above)) in
      let rest = weighed-less_all later (each-drop (AllByRecursion IsAbove) (suc e) elements above) in
      omega (arith, ints, a, b, a', b', here, rest)
    where
      at : (es : List (List (ℕ × ℤ))) (k : ℕ) → AllByRecursion (AllByRecursion IsAbove) es → AllByRecursion IsAbove (element_at es k)
      at [] k all = tt
      at (x ∷ es) zero all = all.0
      at (x ∷ es) (suc k) all = at es k all.1
