-- The k-th greatest utility of a single item.
use Rattle.std.proofs.Common.{◌≡◌, ℕ, ◌-◌, ◌<◌, ◌≤◌, Bool, true, false, cond, ℤ, pos, ◌≤ℤ◌, int_le, Some, List, [], ◌∷◌}
use Rattle.std.proofs.Common.{map, length, refl, ap, ◌∙◌, subst, inl, inr, arith, flat_map}
use Rattle.std.specs.Int.Signed.{≤ℤ_refl}
use Rattle.std.specs.List.{AllByRecursion}
use Rattle.std.proofs.lemmas.Bool.{cases_lt}
use Rattle.std.proofs.lemmas.Int.{ints}
use Rattle.std.proofs.lemmas.List.{get_or_past}
use Rattle.std.proofs.lemmas.List.Sums.{sum_by-cons}
use Rattle.hu_kind.specs.Record.{items_in}
use Rattle.hu_kind.specs.Database.{utility}
use Rattle.hu_kind.specs.Itemsets.{item_patterns}
use Rattle.hu_kind.specs.Answer.{item_answer}
use Rattle.hu_totals.specs.declared.totals.ItemTotal.{ItemTotal}
use Rattle.hu_totals.specs.Totals.{first_seen, item_totals, total_of}
use Rattle.hu_raise.specs.StartFloor.{descending, earned, start_of, KeepsAnswers}
use Rattle.hu_raise.proofs.DescendingLemmas.{reach_count, Descend-descending, descending-each_at, reach-at, reach-descending}
use Rattle.hu_raise.proofs.AnswerLemmas.{reaching, many, first_same}

each-earned : (totals : List (ℕ × ItemTotal)) → AllByRecursion (λ utility. pos 1 ≤ℤ utility) (earned totals)
each-earned [] = tt
each-earned (x ∷ xs) = by (int_le (pos 1) x.1.utility) refl (each-earned xs)
  where
    by : (b : Bool) → int_le (pos 1) x.1.utility ≡ b → AllByRecursion (λ utility. pos 1 ≤ℤ utility) (earned xs)
        → AllByRecursion (λ utility. pos 1 ≤ℤ utility) (cond b (x.1.utility ∷ earned xs) (earned xs))
    by true h ih = let least : pos 1 ≤ℤ x.1.utility = grind (arith, ints) in (least, ih)
    by false h ih = ih

-- it is at least 1
pub start_of-least : (k : ℕ) (totals : List (ℕ × ItemTotal)) → pos 1 ≤ℤ start_of k totals
start_of-least k totals = descending-each_at (λ utility. pos 1 ≤ℤ utility) (earned totals) (k - 1) (pos 1) (≤ℤ_refl (pos 1)) (each-earned totals)

-- no more utilities of at least 1 reach a floor than items do
reach-earned : (records : List (List (ℕ × ℤ))) (floor : ℤ) (items : List ℕ)
    → reach_count floor (earned (map (λ item. (item, total_of records item)) items))
    ≤ length (reaching records floor items)
reach-earned records floor [] = omega arith
reach-earned records floor (x ∷ xs) = by (int_le (pos 1) earns) (int_le floor earns) refl (reach-earned records floor xs)
  where
    earns : ℤ
    earns = utility records (x ∷ [])

    rest : List ℤ
    rest = earned (map (λ item. (item, total_of records item)) xs)

    by : (b r : Bool) → int_le floor earns ≡ r → reach_count floor rest ≤ length (reaching records floor xs)
        → reach_count floor (cond b (earns ∷ rest) rest) ≤ length (cond r (x ∷ reaching records floor xs) (reaching records floor xs))
    by true true h ih = let one : ◌≡◌ {A = ℕ} (cond (int_le floor earns) 1 0) 1 =
        rw h refl in omega (arith, sum_by-cons (λ u. cond (int_le floor u) 1 0) earns rest)
    by true false h ih = let one : ◌≡◌ {A = ℕ} (cond (int_le floor earns) 1 0) 0 =
        rw h refl in omega (arith, sum_by-cons (λ u. cond (int_le floor u) 1 0) earns rest)
    by false true h ih = omega arith
    by false false h ih = ih

module _ (k : ℕ) (records : List (List (ℕ × ℤ))) (some : 1 ≤ k) where
  abbrev floor : ℤ
  floor = start_of k (item_totals records)

  -- where it is one of the utilities, k items reach it
  enough : k - 1 < length (descending (earned (item_totals records))) → k ≤ length (reaching records floor (first_seen (flat_map items_in records)))
  enough within =
      let utilities = earned (item_totals records) in
      omega (
        arith,
        reach-at (descending utilities) (k - 1) (pos 1) within (Descend-descending utilities),
        reach-descending floor utilities,
        reach-earned records floor (first_seen (flat_map items_in records)),
      )

  -- and else it is 1
  alone : length (descending (earned (item_totals records))) ≤ k - 1 → floor ≡ pos 1
  alone past = get_or_past (descending (earned (item_totals records))) (k - 1) (pos 1) past

  answers_same : (least : ℤ) → pos 1 ≤ℤ least → least ≤ℤ floor → item_answer records floor (Some k) ≡ item_answer records least (Some k)
  answers_same least above low = elim (cases_lt (k - 1) (length (descending (earned (item_totals records))))) [
    | inl within ↦ first_same k floor least (item_patterns records) some low (omega (arith, enough within, many records floor))
    | inr past ↦ let one = alone past in let same : floor ≡ least = omega (arith, ints) in ap (λ f. item_answer records f (Some k)) same
  ]

-- the first k itemsets are the same with it as with any floor from 1 to it
pub start_of-alike : (k : ℕ) (totals : List (ℕ × ItemTotal)) → 1 ≤ k → KeepsAnswers k totals (start_of k totals)
start_of-alike k totals some records is least above low =
    let same : start_of k totals ≡ start_of k (item_totals records) = ap (start_of k) is in
    ap (λ f. item_answer records f (Some k)) same ∙ answers_same k records some least above (subst (λ f. least ≤ℤ f) same low)
