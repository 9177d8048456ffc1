-- Passes over the cells of tails, from the last one backward, and over tails.
use Rattle.std.proofs.Common.{◌≡◌, ℕ, zero, suc, ◌+◌, ◌^◌, ◌<◌, ◌≤◌, Bool, true, false, cond, eqb, max, ℤ, unsigned_abs, ◌+ℤ◌, List, [], ◌∷◌, ◌++◌, length}
use Rattle.std.proofs.Common.{get_or, map, nat_eq, ◌&&◌, take, drop, inl, inr, refl, sym, ap, ◌∙◌, subst, arith, sum_by, append_assoc, append-nil}
use Rattle.std.specs.List.{AllByRecursion, IsDistinct}
use Rattle.std.specs.declared.vec.Vec.{Vec}
use Rattle.std.specs.declared.alloc.Global.{Global}
use Rattle.std.proofs.lemmas.Bool.{ne_eqb, eq-eqb, cases_eq}
use Rattle.std.proofs.lemmas.Int.{ints}
use Rattle.std.proofs.lemmas.List.{drop_more, take_more, map-append, length-append, length-map}
use Rattle.std.proofs.lemmas.List.Sums.{sum_by-cons}
use Rattle.hu_kind.specs.Order.{Ascend}
use Rattle.hu_kind.specs.Record.{items_in, absolute_of}
use Rattle.hu_totals.specs.declared.ranked.Dense.{Dense}
use Rattle.hu_totals.specs.Cells.{among}
use Rattle.hu_totals.specs.View.{cells_of, lists_in}
use Rattle.hu_totals.proofs.lemmas.DenseLemmas.{value-within, Ascend-rest}
use Rattle.hu_search.specs.Slots.{at, IsPlace}
use Rattle.hu_search.proofs.lemmas.Slots.{added-seen, among-at, at-place, distinct-before}
use Rattle.hu_average.specs.declared.tail.Tail.{Tail}
use Rattle.hu_average.specs.declared.totals.RankTotal.{RankTotal}
use Rattle.hu_average.specs.Totals.{total_with, no_total, plus, Fits}
use Rattle.hu_average.specs.Tails.{TailOf, total_in, left_from, left_in, grown, size_of, tail_of, tails_of, tails_at}
use Rattle.hu_average.proofs.TailLemmas.{plus-none, plus-assoc, total_in-append, sizes-grown}

-- ---- the cells of a tail

left-above : (z : ℕ) (own most : ℤ) (cells : List (ℕ × ℤ)) → AllByRecursion (λ y. z < y) (items_in cells) → left_from z own most cells ≡ []
left-above z own most [] above = refl
left-above z own most (cell ∷ cells) above =
    let low = above.0 in
    let other : eqb z cell.0 ≡ false = ne_eqb z cell.0 (λ e. absurd (omega (arith, low, e))) in
    rw other (left-above z own most cells above.1)

module _ (own most : ℤ) (cells : List Dense) (i : ℕ) (d : Dense) (up : Ascend (items_in (cells_of cells))) (within : i < length cells) where
  abbrev cell : Dense
  cell = get_or cells i d

  -- what the cells after one leave
  abbrev rest : ℕ → List TailOf
  rest z = left_from z own most (cells_of (drop (i + 1) cells))

  -- what the cell leaves
  abbrev pub here : TailOf
  here = record { own = own +ℤ (get_or cells i d).value; most = most; cells = cells_of (drop (i + 1) cells) }

  splits : drop i cells ≡ get_or cells i d ∷ drop (i + 1) cells
  splits = drop_more cells i d within

  pub rest-none : (z : ℕ) → z ≡ cell.rank → rest z ≡ []
  rest-none z e =
      let all = subst (λ (cs : List Dense). Ascend (items_in (cells_of cs))) splits (Ascend-rest cells i up) in
      left-above z own most (cells_of (drop (i + 1) cells)) (subst (λ x. AllByRecursion (λ y. x < y) (items_in (cells_of (drop (i + 1) cells)))) (sym e) all.0)

  -- one cell more, from the last one backward
  pub left-back : (z : ℕ) → left_from z own most (cells_of (drop i cells)) ≡ rest z ++ cond (eqb z cell.rank) (here ∷ []) []
  left-back z = ap (λ cs. left_from z own most (cells_of cs)) splits ∙ elim (cases_eq z cell.rank) [
    | inl e ↦ let same : eqb z cell.rank ≡ true = eq-eqb z cell.rank e in rw (same, rest-none z e) refl
    | inr ne ↦ let other : eqb z cell.rank ≡ false = ne_eqb z cell.rank ne in rw other (sym (append-nil (rest z)))
  ]

  -- the list of a rank
  pub lists-back : (z : ℕ) (old now new : List TailOf) → now ≡ old ++ rest z → new ≡ now ++ cond (eqb z cell.rank) (here ∷ []) []
      → new ≡ old ++ left_from z own most (cells_of (drop i cells))
  lists-back z old now new was is =
      is ∙ ap (λ ts. ts ++ cond (eqb z cell.rank) (here ∷ []) []) was
      ∙ append_assoc old (rest z) (cond (eqb z cell.rank) (here ∷ []) []) ∙ ap (λ ts. old ++ ts) (sym (left-back z))

  -- the total of a rank
  pub totals-back : (z : ℕ) (old now new : RankTotal) → now ≡ plus old (total_in (rest z))
      → new ≡ plus now (cond (eqb z cell.rank) (total_with (own +ℤ cell.value) 1 most) no_total)
      → new ≡ plus old (total_in (left_from z own most (cells_of (drop i cells))))
  totals-back z old now new was is =
      let more = cond (eqb z cell.rank) (total_with (own +ℤ cell.value) 1 most) no_total in
      is ∙ ap (λ t. plus t more) was ∙ plus-assoc old (total_in (rest z)) more
      ∙ ap (λ t. plus old (plus (total_in (rest z)) t)) (one (eqb z cell.rank))
      ∙ ap (plus old) (sym (ap total_in (left-back z) ∙ total_in-append (rest z) (cond (eqb z cell.rank) (here ∷ []) [])))
    where
      one : (b : Bool) → cond b (total_with (own +ℤ cell.value) 1 most) no_total ≡ total_in (cond b (here ∷ []) [])
      one true = sym (plus-none (total_with (own +ℤ cell.value) 1 most))
      one false = refl

  -- the total of the cell's rank is as it was, and has room
  pub fits-back : (z : ℕ) (old now : RankTotal) → z ≡ cell.rank → now ≡ plus old (total_in (rest z))
      → Fits old (max (unsigned_abs own + absolute_of (cells_of cells)) (unsigned_abs most))
      → Fits now (max (unsigned_abs own + unsigned_abs cell.value) (unsigned_abs most))
  fits-back z old now e was fits =
      let same : now ≡ old = was ∙ ap (λ ts. plus old (total_in ts)) (rest-none z e) ∙ plus-none old in
      let size = value-within cells i d within in
      let u = fits.utility in
      let m = fits.bound in
      subst (λ t. Fits t (max (unsigned_abs own + unsigned_abs cell.value) (unsigned_abs most))) (sym same)
      (record { utility = omega (arith, u, size); support = fits.support; bound = omega (arith, m, size) })

-- ---- tails

-- what holds of each tail holds of that at a place
pub tail-at : (P : TailOf → Type 0) (tails : List Tail) (i : ℕ) (d : Tail) → AllByRecursion P (tails_of tails) → i < length tails
    → P (tail_of (get_or tails i d))
tail-at P [] i d all within = absurd (omega arith)
tail-at P (tail ∷ tails) zero d all within = all.0
tail-at P (tail ∷ tails) (suc i) d all within = tail-at P tails i d all.1 (omega (arith, within))

grown-append : (z : ℕ) (tails others : List TailOf) → grown z (tails ++ others) ≡ grown z tails ++ grown z others
grown-append z [] others = refl
grown-append z (tail ∷ tails) others =
    ap (λ ts. left_in z tail ++ ts) (grown-append z tails others) ∙ sym (append_assoc (left_in z tail) (grown z tails) (grown z others))

pub grown-next : (z : ℕ) (tails : List Tail) (i : ℕ) (d : Tail) → i < length tails
    → grown z (tails_of (take (i + 1) tails)) ≡ grown z (tails_of (take i tails)) ++ left_in z (tail_of (get_or tails i d))
grown-next z tails i d within =
    let tail = tail_of (get_or tails i d) in
    ap (λ ts. grown z (tails_of ts)) (take_more tails i d within)
    ∙ ap (grown z) (map-append tail_of (take i tails) (get_or tails i d ∷ []))
    ∙ grown-append z (tails_of (take i tails)) (tail ∷ [])
    ∙ ap (λ ts. grown z (tails_of (take i tails)) ++ ts) (append-nil (left_in z tail))

pub totals-next : (z : ℕ) (tails : List Tail) (i : ℕ) (d : Tail) → i < length tails → (now new : RankTotal)
    → now ≡ total_in (grown z (tails_of (take i tails))) → new ≡ plus now (total_in (left_in z (tail_of (get_or tails i d))))
    → new ≡ total_in (grown z (tails_of (take (i + 1) tails)))
totals-next z tails i d within now new was is =
    let tail = tail_of (get_or tails i d) in
    is ∙ ap (λ t. plus t (total_in (left_in z tail))) was
    ∙ sym (ap total_in (grown-next z tails i d within) ∙ total_in-append (grown z (tails_of (take i tails))) (left_in z tail))

-- a tail beside those before it is within all
sizes-upto : (tails : List Tail) (i : ℕ) (d : Tail) → i < length tails
    → sum_by size_of (tails_of (take i tails)) + size_of (tail_of (get_or tails i d)) ≤ sum_by size_of (tails_of tails)
sizes-upto [] i d within = absurd (omega arith)
sizes-upto (tail ∷ tails) zero d within = omega (arith, sum_by-cons size_of (tail_of tail) (tails_of tails))
sizes-upto (tail ∷ tails) (suc i) d within =
    omega (
      arith,
      sum_by-cons size_of (tail_of tail) (tails_of tails),
      sum_by-cons size_of (tail_of tail) (tails_of (take i tails)),
      sizes-upto tails i d (omega (arith, within)),
    )

pub size-at : (tails : List Tail) (i : ℕ) (d : Tail) → i < length tails → size_of (tail_of (get_or tails i d)) ≤ sum_by size_of (tails_of tails)
size-at tails i d within = let all = sizes-upto tails i d within in omega (arith, all)

-- totals are within the sizes
total-within : (tails : List TailOf)
    → (unsigned_abs (total_in tails).utility ≤ sum_by size_of tails) × (unsigned_abs (total_in tails).bound ≤ sum_by size_of tails)
total-within [] = (omega arith, omega arith)
total-within (tail ∷ tails) =
    let split = sum_by-cons size_of tail tails in
    let ih = total-within tails in
    (omega (arith, ints, split, ih.0), omega (arith, ints, split, ih.1))

support-is : (tails : List TailOf) → (total_in tails).support ≡ length tails
support-is [] = refl
support-is (tail ∷ tails) = let ih = support-is tails in omega (arith, ih)

length-left : (z : ℕ) (own most : ℤ) (cells : List (ℕ × ℤ)) → length (left_from z own most cells) ≤ 1
length-left z own most [] = omega arith
length-left z own most (cell ∷ cells) = by (eqb z cell.0) (length-left z own most cells)
  where
    by : (b : Bool) → length (left_from z own most cells) ≤ 1
        → length (cond b (record { own = own +ℤ cell.1; most = most; cells = cells } ∷ []) (left_from z own most cells)) ≤ 1
    by true ih = omega arith
    by false ih = ih

length-grown : (z : ℕ) (tails : List Tail) (i : ℕ) → length (grown z (tails_of (take i tails))) ≤ i
length-grown z tails zero = omega arith
length-grown z [] (suc i) = omega arith
length-grown z (tail ∷ tails) (suc i) =
    let rest = length-grown z tails i in
    let first = length-left z tail.own tail.most (cells_of tail.cells.now) in
    let both = length-append (left_in z (tail_of tail)) (grown z (tails_of (take i tails))) in
    omega (arith, rest, first, both)

pub total-fits : (z : ℕ) (tails : List Tail) (i : ℕ) (d : Tail) → i < length tails → sum_by size_of (tails_of tails) < 2 ^ 127 → i + 1 < 2 ^ 64
    → Fits (total_in (grown z (tails_of (take i tails)))) (size_of (tail_of (get_or tails i d)))
total-fits z tails i d within fits few =
    let some = tails_of (take i tails) in
    let all = sizes-upto tails i d within in
    let size = sizes-grown z some in
    let total = total-within (grown z some) in
    let held = support-is (grown z some) in
    let count = length-grown z tails i in
    record {
      utility = omega (arith, all, size, fits, total.0);
      support = omega (arith, held, count, few);
      bound = omega (arith, all, size, fits, total.1);
    }

-- ---- lists that go along with ranks

-- the list of a rank that may have a tail more
pub tail-more : (ranks : List ℕ) (olds news : List (Vec Tail Global)) (rank : ℕ) (tail : Tail) → IsDistinct nat_eq ranks
    → length olds ≡ length ranks → length news ≡ length ranks
    → ((z : ℕ) → at [] ranks (lists_in news) z
    ≡ cond (eqb z rank && among rank ranks) (at [] ranks (lists_in olds) z ++ tail ∷ []) (at [] ranks (lists_in olds) z))
    → (i : ℕ) → i < length ranks
    → tails_at news i ≡ tails_at olds i ++ cond (eqb (get_or ranks i 0) rank) (tail_of tail ∷ []) []
tail-more ranks olds news rank tail apart old_len new_len added i within =
    let z = get_or ranks i 0 in
    let place : IsPlace ranks z i = record { within = within; here = refl; first = distinct-before ranks i 0 apart within } in
    let seen : List (Vec Tail Global) → List (List TailOf) = map (λ (list : Vec Tail Global). tails_of list.items) in
    let there : (lists : List (Vec Tail Global)) → length lists ≡ length ranks → at [] ranks (seen lists) z ≡ tails_at lists i =
    λ lists len. at-place [] ranks (seen lists) z i place (omega (arith, within, len, length-map lists (λ (list : Vec Tail Global). tails_of list.items))) in
    sym (there news new_len)
    ∙ added-seen tail_of ranks olds news (eqb z rank && among rank ranks) tail z (added z)
    ∙ ap (λ ts. cond (eqb z rank && among rank ranks) (ts ++ tail_of tail ∷ []) ts) (there olds old_len)
    ∙ by (tails_at olds i)
  where
    by : (ts : List TailOf) → cond (eqb (get_or ranks i 0) rank && among rank ranks) (ts ++ tail_of tail ∷ []) ts
        ≡ ts ++ cond (eqb (get_or ranks i 0) rank) (tail_of tail ∷ []) []
    by ts = elim (cases_eq (get_or ranks i 0) rank) [
      | inl e ↦
          let here : eqb (get_or ranks i 0) rank ≡ true = eq-eqb (get_or ranks i 0) rank e in
          let met : among rank ranks ≡ true = among-at ranks i rank within e in
          rw (here, met) refl
      | inr ne ↦ let other : eqb (get_or ranks i 0) rank ≡ false = ne_eqb (get_or ranks i 0) rank ne in rw other (sym (append-nil ts))
    ]
