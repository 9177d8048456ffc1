-- The utilities of items, place by place.
use Rattle.std.proofs.Common.{◌≡◌, ℕ, ◌+◌, ◌<◌, Bool, true, false, cond, ℤ, pos, int_le, List, [], ◌∷◌, ◌++◌, take, length, refl, sym, ap, ◌∙◌, option_to_list}
use Rattle.std.specs.List.{slice_get}
use Rattle.hu_totals.specs.declared.totals.ItemTotal.{ItemTotal}
use Rattle.hu_totals.proofs.lemmas.WeightLemmas.{place_more}
use Rattle.hu_raise.specs.StartFloor.{earned}

earned-append : (xs ys : List (ℕ × ItemTotal)) → earned (xs ++ ys) ≡ earned xs ++ earned ys
earned-append [] ys = refl
earned-append (x ∷ xs) ys = by (int_le (pos 1) x.1.utility) (earned-append xs ys)
  where
    by : (b : Bool) → earned (xs ++ ys) ≡ earned xs ++ earned ys
        → cond b (x.1.utility ∷ earned (xs ++ ys)) (earned (xs ++ ys))
        ≡ cond b (x.1.utility ∷ earned xs) (earned xs) ++ earned ys
    by true ih = ap (λ us. x.1.utility ∷ us) ih
    by false ih = ih

no_entry : ℕ × ItemTotal
no_entry = (0, record { utility = pos 0; positive = pos 0; support = 0; twu = pos 0 })

-- the utility of one item more
pub earned-step : (totals : List (ℕ × ItemTotal)) (i : ℕ) (before after more : List ℤ) → i < length totals → before
    ≡ earned (take i totals) → after ≡ before ++ more
    → more ≡ earned (option_to_list (slice_get totals i)) → after ≡ earned (take (i + 1) totals)
earned-step totals i before after more within so_far is one =
    is
    ∙ (λ j. so_far j ++ one j)
    ∙ sym (earned-append (take i totals) (option_to_list (slice_get totals i)))
    ∙ ap earned (sym (place_more totals i no_entry within))
