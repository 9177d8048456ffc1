-- Ranks compared from the last backwards.
use Rattle.std.proofs.Common.{◌≡◌, ℕ, zero, suc, ◌+◌, ◌-◌, ◌<◌, ◌≤◌, pos, List, [], ◌∷◌, length, get_or, take, reverse, ◌⊎◌, inl, inr, refl, sym, ap, ◌∙◌}
use Rattle.std.proofs.Common.{arith, nat_cmp, Ordering, Less, Equal, Greater}
use Rattle.std.specs.Ordering.{ordering_then}
use Rattle.std.specs.Cmp.Lexicographic.{slice_cmp}
use Rattle.std.proofs.lemmas.List.{take_more, reverse-append}
use Rattle.std.proofs.lemmas.Bool.Decides.{nat_tests}
use Rattle.hu_kind.specs.Record.{items_in}
use Rattle.hu_totals.specs.declared.ranked.Dense.{Dense}
use Rattle.hu_totals.specs.View.{cells_of}

-- the ranks of cells
abbrev pub ranks : List Dense → List ℕ
ranks cells = items_in (cells_of cells)

pub length-ranks : (cells : List Dense) → length (ranks cells) ≡ length cells
length-ranks [] = refl
length-ranks (cell ∷ cells) = ap suc (length-ranks cells)

pub get_or-ranks : (cells : List Dense) (i : ℕ) (d : Dense) → i < length cells → get_or (ranks cells) i 0 ≡ (get_or cells i d).rank
get_or-ranks [] i d within = absurd (omega arith)
get_or-ranks (cell ∷ cells) zero d within = refl
get_or-ranks (cell ∷ cells) (suc i) d within = get_or-ranks cells i d (omega arith)

reverse-more : (xs : List ℕ) (i : ℕ) → i < length xs → reverse (take (i + 1) xs) ≡ get_or xs i 0 ∷ reverse (take i xs)
reverse-more xs i within = ap reverse (take_more xs i 0 within) ∙ reverse-append (take i xs) (get_or xs i 0 ∷ [])

last-first : (cells : List Dense) (i : ℕ) (d : Dense) → 0 < i → i ≤ length cells
    → reverse (take i (ranks cells)) ≡ (get_or cells (i - 1) d).rank ∷ reverse (take (i - 1) (ranks cells))
last-first cells i d some within =
    let e : i - 1 + 1 ≡ i = omega arith in
    ap (λ n. reverse (take n (ranks cells))) (sym e)
    ∙ reverse-more (ranks cells) (i - 1) (omega (arith, length-ranks cells))
    ∙ ap (λ r. r ∷ reverse (take (i - 1) (ranks cells))) (get_or-ranks cells (i - 1) d (omega arith))

pub compare-step : (a b : List Dense) (i j : ℕ) (c d : Dense) → 0 < i → i ≤ length a → 0 < j → j ≤ length b
    → slice_cmp nat_cmp (reverse (take i (ranks a))) (reverse (take j (ranks b)))
    ≡ ordering_then (nat_cmp (get_or a (i - 1) c).rank (get_or b (j - 1) d).rank)
    (slice_cmp nat_cmp (reverse (take (i - 1) (ranks a))) (reverse (take (j - 1) (ranks b))))
compare-step a b i j c d p q r s = λ k. slice_cmp nat_cmp (last-first a i c p q k) (last-first b j d r s k)

-- the ranks of two places are the same
pub compare-same : (o old rest whole : Ordering) → old ≡ ordering_then o rest → Equal ≡ o → old ≡ whole → rest ≡ whole
compare-same Equal old rest whole e tie is = sym e ∙ is
compare-same Less old rest whole e tie is = cc
compare-same Greater old rest whole e tie is = cc

-- the ranks of two places differ
pub compare-other : (o old rest whole : Ordering) → old ≡ ordering_then o rest → (o ≡ Equal → ⊥) → old ≡ whole → o ≡ whole
compare-other Less old rest whole e ne is = sym e ∙ is
compare-other Equal old rest whole e ne is = absurd (ne refl)
compare-other Greater old rest whole e ne is = sym e ∙ is

no_cell : Dense
no_cell = record { rank = 0; value = pos 0 }

-- one of the lists is at its end
pub compare-ends : (a b : List Dense) (i j : ℕ) → i ≤ length a → j ≤ length b → (i ≡ 0) ⊎ (j ≡ 0)
    → slice_cmp nat_cmp (reverse (take i (ranks a))) (reverse (take j (ranks b))) ≡ nat_cmp i j
compare-ends a b zero zero p q e = refl
compare-ends a b zero (suc j) p q e =
    let less : nat_cmp 0 (suc j) ≡ Less = grind (arith, nat_tests) in
    ap (slice_cmp nat_cmp []) (last-first b (suc j) no_cell (omega arith) q) ∙ sym less
compare-ends a b (suc i) zero p q e =
    let greater : nat_cmp (suc i) 0 ≡ Greater = grind (arith, nat_tests) in
    ap (λ r. slice_cmp nat_cmp r []) (last-first a (suc i) no_cell (omega arith) p) ∙ sym greater
compare-ends a b (suc i) (suc j) p q (inl e) = absurd (omega arith)
compare-ends a b (suc i) (suc j) p q (inr e) = absurd (omega arith)
