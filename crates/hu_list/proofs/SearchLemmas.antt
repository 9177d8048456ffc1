-- What a search over tails does, set by set.
use Rattle.std.proofs.Common.{◌≡◌, ℕ, ◌+◌, ◌<◌, ◌≤◌, Bool, true, false, cond, ℤ, pos, ◌+ℤ◌, ◌≤ℤ◌, List, [], ◌∷◌, ◌++◌, length, map, sum_by, inl, inr, refl, sym}
use Rattle.std.proofs.Common.{ap, ◌∙◌, subst, arith, append_assoc, Contains}
use Rattle.std.specs.List.{AllByRecursion}
use Rattle.std.proofs.lemmas.Int.{ints}
use Rattle.std.proofs.lemmas.List.Sums.{sum_by-cons}
use Rattle.hu_kind.specs.declared.entry.Entry.{Entry}
use Rattle.hu_kind.specs.Database.{utility, support}
use Rattle.hu_kind.specs.Order.{Ascend}
use Rattle.hu_kind.proofs.lemmas.Members.{Member, Member-map, Member-from_map, Member-from_contains, Contains-from_member}
use Rattle.hu_kind.proofs.lemmas.Occurring.{at_member, by_members}
use Rattle.hu_kind.proofs.lemmas.Each.{each-weaker, each-right}
use Rattle.hu_kind.specs.Record.{items_in, holds, values_of, absolute_of}
use Rattle.hu_kind.proofs.lemmas.Ascending.{each-ascending, each-in_range}
use Rattle.hu_search.proofs.lemmas.UnrankLemmas.{InTable-occurs}
use Rattle.hu_search.specs.declared.child.Child.{Child}
use Rattle.hu_search.specs.Growth.{rank_entry}
use Rattle.hu_search.specs.Children.{IsChild, AreChildren, AreEnough, AreOpen, IsBarren, IsBound, Counts, ranks_of}
use Rattle.hu_search.proofs.lemmas.Children.{counts-before}
use Rattle.hu_totals.specs.Ranked.{Ranking, IsRanking}
use Rattle.hu_totals.specs.Cells.{among}
use Rattle.hu_totals.proofs.lemmas.DenseLemmas.{each-rank}
use Rattle.hu_collect.specs.State.{State, floor_in}
use Rattle.hu_list.specs.Tails.{TailOf, tail_from, earned, held, size_of}
use Rattle.hu_list.specs.View.{IsTail}
use Rattle.hu_list.specs.Level.{IsLeft, IsMost, IsLevel, AreChosen}
use Rattle.hu_list.proofs.LeftLemmas.{among-contains}

-- the rank from which on a set may grow
abbrev pub next : List ℕ → ℕ
next [] = 0
next (x ∷ []) = x + 1
next (x ∷ y ∷ xs) = next (y ∷ xs)

pub next-push : (set : List ℕ) (z : ℕ) → next (set ++ z ∷ []) ≡ z + 1
next-push [] z = refl
next-push (x ∷ []) z = refl
next-push (x ∷ y ∷ xs) z = next-push (y ∷ xs) z

pub next-below : (set : List ℕ) (z : ℕ) → Ascend (set ++ z ∷ []) → next set ≤ z
next-below [] z up = omega arith
next-below (x ∷ []) z up = let low = up.0 in let first = low.0 in omega (arith, first)
next-below (x ∷ y ∷ xs) z up = next-below (y ∷ xs) z up.1

-- the last rank of a set is in the table where all are
pub last-in : (set : List ℕ) (z n : ℕ) → AllByRecursion (λ rank. rank < n) (set ++ z ∷ []) → z < n
last-in set z n all = let last = each-right (λ rank. rank < n) set (z ∷ []) all in last.0

-- ranks that are enough for a set are so later on, and for each set with one of its ranks more
pub enough-later : (s t : State) (r : Ranking) (set : List ℕ) (z : ℕ) (ranks : List ℕ) → t.rule ≡ s.rule
    → floor_in s ≤ℤ floor_in t → AreEnough s r set ranks → AreEnough t r (set ++ z ∷ []) ranks
enough-later s t r set z ranks same rises enough more up occurs counts =
    let split : (set ++ z ∷ []) ++ more ≡ set ++ z ∷ more = append_assoc set (z ∷ []) more in
    let all = enough (z ∷ more) (subst Ascend split up) (subst (λ xs. 0 < support r.records xs) split occurs)
    (counts-before same rises (subst (λ xs. Counts t (rank_entry r xs)) split counts)) in
    all.1

-- a child's bound holds where its ranks are enough
pub bound-is : (s : State) (r : Ranking) (set ranks : List ℕ) (child : Child)
    → AreEnough s r (set ++ child.rank ∷ []) ranks → IsMost r set ranks child
    → IsBound s r (set ++ child.rank ∷ []) child.bound
bound-is s r set ranks child enough most entry grows counts =
    let split : (set ++ child.rank ∷ []) ++ grows.more ≡ set ++ child.rank ∷ grows.more = append_assoc set (child.rank ∷ []) grows.more in
    let all = enough grows.more grows.ascending grows.occurs (subst (Counts s) grows.is counts) in
    let under = most grows.more (subst Ascend split grows.ascending) all in
    let same = ap (λ (e : Entry). e.utility) grows.is in
    let same' = ap (utility r.records) split in
    omega (arith, ints, under, same, same')

-- the children that are chosen are those to be entered
pub open-is : {s t : State} (r : Ranking) (set : List ℕ) (children chosen : List Child) → t.rule ≡ s.rule
    → floor_in s ≤ℤ floor_in t → IsLevel s r set children → AreChosen (floor_in t) children chosen
    → AreOpen t r set (ranks_of children) chosen
open-is {s = s} {t = t} r set children chosen same rises level are = record {
  others = λ rank c.
      let found = Member-from_map (λ (child : Child). child.rank) rank children (Member-from_contains rank (ranks_of children) c) in
      elim (are.whole found.0 (Contains-from_member found.0 children found.1)) [
        | inl here ↦ inl (subst (Contains (ranks_of chosen)) found.2
            (Contains-from_member found.0.rank (ranks_of chosen)
            (Member-map (λ (child : Child). child.rank) found.0 chosen (Member-from_contains found.0 chosen here))))
        | inr low ↦ inr (subst (λ z. IsBarren t r (set ++ z ∷ [])) found.2 (λ entry grows counts.
            let under = bound found.0 found.1 entry grows counts in
            let high = counts.high in
            absurd (omega (arith, ints, under, high, low))))
      ];
  bounds = by_members (λ child. IsBound t r (set ++ child.rank ∷ []) child.bound) chosen (λ child m.
      bound child (Member-from_contains child children (at_member (Contains children) child chosen are.from m)));
}
  where
    bound : (child : Child) → Member child children → IsBound t r (set ++ child.rank ∷ []) child.bound
    bound child m = bound-is t r set (ranks_of children) child (enough-later s t r set child.rank (ranks_of children) same rises level.enough)
        (at_member (IsMost r set (ranks_of children)) child children level.most m)

pub chosen-children : (r : Ranking) (set : List ℕ) (floor : ℤ) (children chosen : List Child)
    → AreChildren r set children → AreChosen floor children chosen → AreChildren r set chosen
chosen-children r set floor children chosen right are = by_members (IsChild r set) chosen (λ child m.
    at_member (IsChild r set) child children right (Member-from_contains child children (at_member (Contains children) child chosen are.from m)))

-- ---- sets that lead to nothing

-- nothing grows a set without tails
pub empty-barren : (s : State) (r : Ranking) (set : List ℕ) (tails : List TailOf) → IsLeft r set tails → length tails ≡ 0 → IsBarren s r set
empty-barren s r set [] left none entry grows counts = by grows.more grows.some grows.ascending grows.occurs
  where
    by : (more : List ℕ) → 0 < length more → Ascend (set ++ more) → 0 < support r.records (set ++ more) → ⊥
    by [] some up occurs = absurd (omega (arith, some))
    by (first ∷ more) some up occurs = let same = left.support first more up in absurd (omega (arith, same, occurs))
empty-barren s r set (tail ∷ tails) left none entry grows counts = absurd (omega (arith, none))

-- ---- the records as tails of the empty set, and all ranks

-- all ranks are enough for the empty set
pub enough-first : (s : State) (r : Ranking) (set ranks : List ℕ) → IsRanking r → set ≡ []
    → ((z : ℕ) → z < length r.items → among z ranks ≡ true) → AreEnough s r set ranks
enough-first s r set ranks rules none all = subst (λ set. AreEnough s r set ranks) (sym none) (λ more up occurs counts.
    each-weaker (λ rank. rank < length r.items) (Contains ranks) more (λ rank within. among-contains rank ranks (all rank within))
    (InTable-occurs r rules more occurs))

earned-first : (records : List (List (ℕ × ℤ))) (more : List ℕ) → utility records more ≡ earned (map tail_from records) more
earned-first [] more = refl
earned-first (cells ∷ records) more = (λ j. by (holds more cells) j +ℤ earned-first records more j)
  where
    by : (b : Bool) → cond b (values_of more cells) (pos 0) ≡ cond b (pos 0 +ℤ values_of more cells) (pos 0)
    by true = omega (arith, ints)
    by false = refl

held-first : (records : List (List (ℕ × ℤ))) (more : List ℕ) → support records more ≡ held (map tail_from records) more
held-first [] more = refl
held-first (cells ∷ records) more = sum_by-cons (λ c. cond (holds more c) 1 0) cells records
    ∙ ap (λ n. cond (holds more cells) 1 0 + n) (held-first records more)

sizes-first : (records : List (List (ℕ × ℤ))) → sum_by size_of (map tail_from records) ≡ sum_by absolute_of records
sizes-first [] = refl
sizes-first (cells ∷ records) =
    omega (
      arith,
      sum_by-cons size_of (tail_from cells) (map tail_from records),
      sum_by-cons absolute_of cells records,
      sizes-first records,
    )

each-first : (P : List (ℕ × ℤ) → Type 0) (Q : TailOf → Type 0) (records : List (List (ℕ × ℤ)))
    → ((cells : List (ℕ × ℤ)) → P cells → Q (tail_from cells)) → AllByRecursion P records
    → AllByRecursion Q (map tail_from records)
each-first P Q [] one all = tt
each-first P Q (cells ∷ records) one all = (one cells all.0, each-first P Q records one all.1)

both-each : (P Q : List (ℕ × ℤ) → Type 0) (xs : List (List (ℕ × ℤ))) → AllByRecursion P xs → AllByRecursion Q xs → AllByRecursion (λ x. P x × Q x) xs
both-each P Q [] p q = tt
both-each P Q (x ∷ xs) p q = ((p.0, q.0), both-each P Q xs p.1 q.1)

pub left-first : (r : Ranking) → IsRanking r → IsLeft r [] (map tail_from r.records)
left-first r rules = record {
  rules = record {
    each = each-first (λ cells. Ascend (items_in cells) × AllByRecursion (λ cell. cell.0 < length r.items) cells) (IsTail (length r.items)) r.records
        (λ cells both. record { ascending = both.0; in_range = each-rank (length r.items) cells both.1 })
        (both-each (λ cells. Ascend (items_in cells)) (λ cells. AllByRecursion (λ cell. cell.0 < length r.items) cells) r.records
        (each-ascending r.records rules.ascending) (each-in_range (length r.items) r.records rules.in_range));
    sizes = let fits = rules.sum_fits in omega (arith, sizes-first r.records, fits);
  };
  later = each-first (λ cells. Ascend (items_in cells)) (λ tail. Ascend (items_in tail.cells)) r.records
      (λ cells up. up) (each-ascending r.records rules.ascending);
  utility = λ first more up. earned-first r.records (first ∷ more);
  support = λ first more up. held-first r.records (first ∷ more);
}
