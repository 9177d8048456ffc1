-- The order of a certificate.
use Rattle.std.proofs.Common.{◌≡◌, ℕ, ℤ, pos, ◌≤ℤ◌, int_le, List, [], ◌∷◌, true, filter}
use Rattle.std.proofs.Common.{refl, ap, ◌∙◌, inl, inr, arith}
use Rattle.std.proofs.lemmas.Bool.{cases_Bool}
use Rattle.std.proofs.lemmas.Int.{ints}
use Rattle.hu_kind.specs.Database.{twu, items_of}
use Rattle.hu_kind.specs.Order.{ranking}
use Rattle.hu_kind.specs.Record.{holds}
use Rattle.hu_kind.proofs.lemmas.Earned.{gain-least}
use Rattle.hu_totals.specs.declared.weights.RankOrder.TheVariants.{Gain}
use Rattle.hu_totals.specs.Ranked.{by_twu}
use Rattle.hu_totals.specs.Totals.{item_totals}
use Rattle.hu_totals.specs.Weights.{by_weight}
use Rattle.hu_totals.proofs.lemmas.SortedLists.{Once, Once-from_sorted, sorted-ranking}
use Rattle.hu_totals.proofs.lemmas.WeightLemmas.{by_weight-item_totals, by_twu_total}
use Rattle.hu_certify.specs.Text.{certificate_order}

twu-least : (records : List (List (ℕ × ℤ))) (item : ℕ) → pos 0 ≤ℤ twu records (item ∷ [])
twu-least [] item = omega (arith, ints)
twu-least (r ∷ rs) item =
    let ih = twu-least rs item in
    let here = gain-least r in
    elim (cases_Bool (holds (item ∷ []) r)) [ inl h ↦ simp h (omega (arith, ints)) | inr h ↦ simp h (omega (arith, ints)) ]

reaches : (z : ℤ) → pos 0 ≤ℤ z → int_le (pos 0) z ≡ true
reaches z least = grind (arith, ints)

all_pass : (records : List (List (ℕ × ℤ))) (xs : List ℕ) → filter (λ item. int_le (pos 0) (twu records (item ∷ []))) xs ≡ xs
all_pass records [] = refl
all_pass records (x ∷ xs) = rw (reaches (twu records (x ∷ [])) (twu-least records x)) (ap (λ ys. x ∷ ys) (all_pass records xs))

-- the items that reach the floor 0 are all
pub by_weight-certificate_order : (records : List (List (ℕ × ℤ)))
    → by_weight Gain (pos 0) (item_totals records) ≡ certificate_order records
by_weight-certificate_order records =
    by_weight-item_totals Gain records (pos 0)
    ∙ ap (ranking (by_twu records)) (all_pass records (items_of records))

pub Once-certificate_order : (records : List (List (ℕ × ℤ))) → Once (certificate_order records)
Once-certificate_order records = Once-from_sorted (by_twu records) (by_twu_total records) (certificate_order records)
    (sorted-ranking (by_twu records) (by_twu_total records) (items_of records))
