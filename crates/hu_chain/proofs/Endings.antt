-- The best utility of a pattern by its end: an occurrence ends in the last element, or in an earlier one.
use Rattle.std.proofs.Common.{◌≡◌, ℕ, Bool, true, false, cond, ℤ, pos, ◌+ℤ◌, Option, None, Some, option_map, List, []}
use Rattle.std.proofs.Common.{◌∷◌, ◌++◌, refl, sym, ap, ◌∙◌, subst, arith}
use Rattle.std.specs.Int.{int_max}
use Rattle.std.proofs.lemmas.Int.{ints, clamps}
use Rattle.hu_kind.specs.Record.{holds, values_of}
use Rattle.hu_kind.specs.Sequence.{better, best_utility}
use Rattle.hu_chain.specs.Pattern.{earlier, last_itemset, Ends}
use Rattle.hu_kind.proofs.lemmas.Better.{better-none, better-assoc, better-swap, map-better}
use Rattle.hu_chain.proofs.lemmas.Patterns.{pattern-split}

-- the best utility of some itemsets before an element, and one more in it
abbrev pub ended : List (List ℕ) → List ℕ → List (List (ℕ × ℤ)) → List (ℕ × ℤ) → Option ℤ
ended earlier last before cells = cond (holds last cells) (option_map (λ u. u +ℤ values_of last cells) (best_utility earlier before)) None

-- what the first itemset earns in the first element, before the best of the others
abbrev begun : Bool → ℤ → Option ℤ → Option ℤ
begun here value others = cond here (option_map (λ u. value +ℤ u) others) None

begun-better : (here : Bool) (value : ℤ) (a b : Option ℤ) → begun here value (better a b) ≡ better (begun here value a) (begun here value b)
begun-better true value a b = map-better value a b
begun-better false value a b = refl

-- the first itemset and the last one
begun-ended : (here there : Bool) (value last : ℤ) (o : Option ℤ)
    → begun here value (cond there (option_map (λ u. u +ℤ last) o) None) ≡ cond there (option_map (λ u. u +ℤ last) (begun here value o)) None
begun-ended true true value last None = refl
begun-ended true true value last (Some u) = ap (λ n. Some n) (omega (arith, ints))
begun-ended true false value last o = refl
begun-ended false true value last o = refl
begun-ended false false value last o = refl

ended-better : (there : Bool) (last : ℤ) (a b : Option ℤ)
    → better (cond there (option_map (λ u. u +ℤ last) a) None) (cond there (option_map (λ u. u +ℤ last) b) None)
    ≡ cond there (option_map (λ u. u +ℤ last) (better a b)) None
ended-better false last a b = refl
ended-better true last None b = refl
ended-better true last (Some x) None = refl
ended-better true last (Some x) (Some y) = ap (λ n. Some n) (greater x y)
  where
    greater : (x y : ℤ) → int_max (x +ℤ last) (y +ℤ last) ≡ int_max x y +ℤ last
    greater x y = omega (arith, ints, clamps)

alone-ended : (here : Bool) (value : ℤ) → begun here value (Some (pos 0)) ≡ cond here (option_map (λ u. u +ℤ value) (Some (pos 0))) None
alone-ended true value = ap (λ n. Some n) (omega (arith, ints))
alone-ended false value = refl

nothing-begun : (here : Bool) (value : ℤ) → begun here value None ≡ None
nothing-begun true value = refl
nothing-begun false value = refl

nothing-ended : (here : Bool) (last : ℤ) → None ≡ cond here (option_map (λ u. u +ℤ last) None) None
nothing-ended true last = refl
nothing-ended false last = refl

-- one element more at the end
pub best_utility-end : (first : List (List ℕ)) (last : List ℕ) (before : List (List (ℕ × ℤ))) (cells : List (ℕ × ℤ))
    → best_utility (first ++ last ∷ []) (before ++ cells ∷ []) ≡ better (best_utility (first ++ last ∷ []) before) (ended first last before cells)
best_utility-end [] last [] cells = better-none (begun (holds last cells) (values_of last cells) (Some (pos 0)))
    ∙ alone-ended (holds last cells) (values_of last cells)
best_utility-end [] last (e ∷ before) cells =
    let here = begun (holds last e) (values_of last e) (Some (pos 0)) in
    ap (better here) (best_utility-end [] last before cells) ∙ sym (better-assoc here (best_utility (last ∷ []) before) (ended [] last before cells))
best_utility-end (p ∷ []) last [] cells =
    better-none (begun (holds p cells) (values_of p cells) None) ∙ nothing-begun (holds p cells) (values_of p cells)
    ∙ nothing-ended (holds last cells) (values_of last cells)
best_utility-end (p ∷ q ∷ first) last [] cells =
    better-none (begun (holds p cells) (values_of p cells) None) ∙ nothing-begun (holds p cells) (values_of p cells)
    ∙ nothing-ended (holds last cells) (values_of last cells)
best_utility-end (p ∷ first) last (e ∷ before) cells =
    let h = holds p e in
    let v = values_of p e in
    let there = holds last cells in
    let w = values_of last cells in
    let whole = p ∷ first ++ last ∷ [] in
    let others = best_utility (first ++ last ∷ []) before in
    ap (λ o. better (begun h v o) (best_utility whole (before ++ cells ∷ []))) (best_utility-end first last before cells)
    ∙ ap (better (begun h v (better others (ended first last before cells)))) (best_utility-end (p ∷ first) last before cells)
    ∙ ap (λ o. better o (better (best_utility whole before) (ended (p ∷ first) last before cells))) (begun-better h v others (ended first last before cells))
    ∙ better-swap (begun h v others) (begun h v (ended first last before cells)) (best_utility whole before) (ended (p ∷ first) last before cells)
    ∙ ap
    (better (best_utility whole (e ∷ before)))
    (ap (λ o. better o (ended (p ∷ first) last before cells)) (begun-ended h there v w (best_utility first before))
    ∙ ended-better there w (begun h v (best_utility first before)) (best_utility (p ∷ first) before))

-- the same for a pattern that has a last item
pub best_utility-more : (pattern : List (List ℕ)) (before : List (List (ℕ × ℤ))) (cells : List (ℕ × ℤ)) → Ends pattern
    → best_utility pattern (before ++ cells ∷ []) ≡ better (best_utility pattern before) (ended (earlier pattern) (last_itemset pattern) before cells)
best_utility-more pattern before cells ends =
    let P : List (List ℕ) → Type 0 = λ ps. best_utility ps (before ++ cells ∷ [])
    ≡ better (best_utility ps before) (ended (earlier pattern) (last_itemset pattern) before cells) in
    subst P (sym (pattern-split pattern ends)) (best_utility-end (earlier pattern) (last_itemset pattern) before cells)

-- a pattern doesn't occur in no element
pub best_utility-nowhere : (pattern : List (List ℕ)) → Ends pattern → best_utility pattern [] ≡ None
best_utility-nowhere [] ends = absurd (omega (arith, ends.some))
best_utility-nowhere (p ∷ pattern) ends = refl
