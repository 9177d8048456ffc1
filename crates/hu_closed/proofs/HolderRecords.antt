-- What stands at the places of an item's holders: the records that hold it.
use Rattle.std.proofs.Common.{◌≡◌, ◌∙◌, ℕ, ◌+◌, ◌<◌, ℤ, pos, Bool, true, false, cond, ◌||◌, List, [], ◌∷◌, ◌++◌, map}
use Rattle.std.proofs.Common.{length, get_or, refl, sym, ap, subst, inl, inr, arith, filter, Contains}
use Rattle.std.specs.List.{AllByRecursion}
use Rattle.std.specs.Ordering.{int_eq}
use Rattle.std.specs.declared.vec.Vec.{Vec}
use Rattle.std.specs.declared.alloc.Global.{Global}
use Rattle.std.proofs.lemmas.Int.{ints}
use Rattle.std.proofs.lemmas.Bool.{and_left, and_right}
use Rattle.std.proofs.lemmas.Bool.Decides.{Decides-int_eq}
use Rattle.std.proofs.lemmas.List.{append_assoc, length-append, map-append}
use Rattle.std.proofs.lemmas.List.Elements.{filter-append}
use Rattle.std.proofs.Math.Seq.{get_or-append_seam}
use Rattle.hu_kind.specs.declared.item.Item.{Item}
use Rattle.hu_kind.specs.Order.{Ascend}
use Rattle.hu_kind.specs.Record.{items_in, IsRecord}
use Rattle.hu_kind.proofs.lemmas.Members.{Member, Member-append_cases, Member-from_filter, Member-from_map}
use Rattle.hu_totals.proofs.lemmas.RecordCells.{Ascend-record}
use Rattle.hu_totals.proofs.lemmas.RankingRules.{All-from_each}
use Rattle.hu_closed.specs.Keys.{are_among, is_among}
use Rattle.hu_closed.specs.Holders.{found_at, lists_of, pairs_from, pairs_with, AreLists, ArePlaced, AreSets}
use Rattle.hu_closed.specs.Places.{places_at}
use Rattle.hu_closed.specs.Found.{Finds}
use Rattle.hu_closed.proofs.Numbers.{is_among-above}

-- the holders in one record: one where the number is among its items, else none
pairs-of_record-cases : (g : ℕ → List ℕ) (number : ℤ) (k i : ℕ) (is : List ℕ) (b : Bool) → int_eq number (pos i) ≡ b → AllByRecursion (λ j. i < j) is
    → map (λ pair. g pair.1) (pairs_with number (map (λ j. (j, k)) is)) ≡ cond (is_among is number) (g k ∷ []) []
    → map (λ pair. g pair.1) (cond b ((i, k) ∷ pairs_with number (map (λ j. (j, k)) is))
    (pairs_with number (map (λ j. (j, k)) is))) ≡ cond (b || is_among is number) (g k ∷ []) []
pairs-of_record-cases g number k i is true e up ih =
    let same = (Decides-int_eq number (pos i)).0 e in
    let none = is_among-above i is number up (omega (arith, ints, same)) in
    ap (λ rest. g k ∷ rest) (ih ∙ ap (λ b. cond b (g k ∷ []) []) none)
pairs-of_record-cases g number k i is false e up ih = ih

pub pairs-of_record : (g : ℕ → List ℕ) (number : ℤ) (k : ℕ) (items : List ℕ) → Ascend items
    → map (λ pair. g pair.1) (pairs_with number (map (λ i. (i, k)) items)) ≡ cond (is_among items number) (g k ∷ []) []
pairs-of_record g number k [] up = refl
pairs-of_record g number k (i ∷ is) up = pairs-of_record-cases g number k i is (int_eq number (pos i)) refl up.0 (pairs-of_record g number k is up.1)

one-more : {X : Type 0} (b : Bool) (x : X) (xs : List X) → cond b (x ∷ []) [] ++ xs ≡ cond b (x ∷ xs) xs
one-more true x xs = refl
one-more false x xs = refl

-- over all records
pub lists-of_pairs : (number : ℤ) (before lists : List (List ℕ)) (k : ℕ) → k ≡ length before → AllByRecursion Ascend lists
    → map (λ pair. get_or (before ++ lists) pair.1 []) (pairs_with number (pairs_from k lists)) ≡ filter (λ items. is_among items number) lists
lists-of_pairs number before [] k many up = refl
lists-of_pairs number before (items ∷ lists) k many up =
    let g : ℕ → List ℕ = λ place. get_or (before ++ items ∷ lists) place [] in
    let here : g k ≡ items = ap g many ∙ get_or-append_seam before items lists [] in
    let joined : (before ++ items ∷ []) ++ lists ≡ before ++ items ∷ lists = append_assoc before (items ∷ []) lists in
    let more : k + 1 ≡ length (before ++ items ∷ []) = omega (arith, length-append before (items ∷ [])) in
    let rest = lists-of_pairs number (before ++ items ∷ []) lists (k + 1) more up.1 in
    ap (map (λ pair. g pair.1)) (filter-append (λ (pair : ℕ × ℕ). int_eq number (pos pair.0)) (map (λ i. (i, k)) items) (pairs_from (k + 1) lists))
    ∙ map-append (λ (pair : ℕ × ℕ). g pair.1) (pairs_with number (map (λ i. (i, k)) items)) (pairs_with number (pairs_from (k + 1) lists))
    ∙ (λ j. pairs-of_record g number k items up.0 j ++ subst
    (λ ls. map (λ pair. get_or ls pair.1 []) (pairs_with number (pairs_from (k + 1) lists))
    ≡ filter (λ items. is_among items number) lists) joined rest j)
    ∙ one-more (is_among items number) (g k) (filter (λ items. is_among items number) lists)
    ∙ ap (λ one. cond (is_among items number) (one ∷ filter (λ items. is_among items number) lists) (filter (λ items. is_among items number) lists)) here

found-pairs : (lists : List (List ℕ)) (pairs : List (ℕ × ℕ)) → found_at lists (map (λ pair. pair.1) pairs) ≡ map (λ pair. get_or lists pair.1 []) pairs
found-pairs lists [] = refl
found-pairs lists (pair ∷ pairs) = ap (λ rest. get_or lists pair.1 [] ∷ rest) (found-pairs lists pairs)

ascend-each : (records : List (List (ℕ × ℤ))) → AllByRecursion IsRecord records → AllByRecursion Ascend (map items_in records)
ascend-each [] all = tt
ascend-each (r ∷ records) all = (Ascend-record r all.0, ascend-each records all.1)

-- the lists of record sets ascend
pub AreLists-sets : (records : List (List (ℕ × ℤ))) (vs : List (Vec Item Global)) (holders : List (ℤ × List ℕ))
    → AreSets records vs holders → AreLists (lists_of vs)
AreLists-sets records vs holders are = subst AreLists (sym are.lists) (All-from_each Ascend (map items_in records) (ascend-each records are.rules))

-- at the places of an item's holders stand the records that hold it
pub found-sets : (records : List (List (ℕ × ℤ))) (vs : List (Vec Item Global)) (holders : List (ℤ × List ℕ)) (places : List ℕ)
    (number : ℤ) → AreSets records vs holders → places ≡ places_at holders number
    → found_at (lists_of vs) places ≡ filter (λ items. is_among items number) (map items_in records)
found-sets records vs holders places number are of =
    ap (found_at (lists_of vs)) (of ∙ are.held number)
    ∙ found-pairs (lists_of vs) (pairs_with number (pairs_from 0 (map items_in records)))
    ∙ ap (λ lists. map (λ pair. get_or lists pair.1 []) (pairs_with number (pairs_from 0 (map items_in records)))) are.lists
    ∙ lists-of_pairs number [] (map items_in records) 0 refl (ascend-each records are.rules)

-- the places are those of records
pairs-below : (place : ℕ) (lists : List (List ℕ)) (pair : ℕ × ℕ) → Member pair (pairs_from place lists) → pair.1 < place + length lists
pairs-below place [] pair m = absurd m
pairs-below place (items ∷ lists) pair m = elim (Member-append_cases pair (map (λ i. (i, place)) items) (pairs_from (place + 1) lists) m) [
  | inl a ↦ let from = Member-from_map (λ (i : ℕ). (i, place)) pair items a in let at : place ≡ pair.1 = ap (λ (p : ℕ × ℕ). p.1) from.2 in omega arith
  | inr b ↦ let later = pairs-below (place + 1) lists pair b in omega arith
]

within-members : (n : ℕ) (places : List ℕ) → ((p : ℕ) → Member p places → p < n) → AllByRecursion (λ (p : ℕ). p < n) places
within-members n [] each = tt
within-members n (p ∷ places) each = (each p (inl refl), within-members n places (λ q m. each q (inr m)))

-- what a call has at hand of record sets
pub AreSets-seen : (seen records : List (List (ℕ × ℤ))) (inside vs : List (Vec Item Global)) (holders : List (ℤ × List ℕ))
    → AreSets seen inside holders → seen ≡ records → vs ≡ inside → AreSets records vs holders
AreSets-seen seen records inside vs holders are view v =
    subst (λ r. AreSets r vs holders) view (subst (λ v. AreSets seen v holders) (sym v) are)

-- the holders of a number are placed, and at their places stand the records that hold it
pub ArePlaced-sets : (records : List (List (ℕ × ℤ))) (vs : List (Vec Item Global)) (holders : List (ℤ × List ℕ)) (places : List ℕ)
    (number : ℤ) → AreSets records vs holders → places ≡ places_at holders number
    → ArePlaced (lists_of vs) places
ArePlaced-sets records vs holders places number are of =
    let lists = lists_of vs in
    record {
      ascend = AreLists-sets records vs holders are;
      within = All-from_each (λ (p : ℕ). p < length lists) places (within-members (length lists) places (λ p m.
          let pairs = pairs_from 0 (map items_in records) in
          let of_pair = Member-from_map (λ (pair : ℕ × ℕ). pair.1) p (pairs_with number pairs) (subst (Member p) (of ∙ are.held number) m) in
          let from = Member-from_filter (λ (pair : ℕ × ℕ). int_eq number (pos pair.0)) of_pair.0 pairs of_pair.1 in
          let below = pairs-below 0 (map items_in records) of_pair.0 from.0 in
          let at : of_pair.0.1 ≡ p = of_pair.2 in
          let many : length lists ≡ length (map items_in records) = ap length are.lists in
          omega (arith, many, below, at)));
    }

pub Finds-sets : (records : List (List (ℕ × ℤ))) (vs : List (Vec Item Global)) (holders : List (ℤ × List ℕ)) (places : List ℕ)
    (key : List ℤ) → AreSets records vs holders
    → (number : ℤ) × Contains key number × (places ≡ places_at holders number)
    → Finds records key (found_at (lists_of vs) places)
Finds-sets records vs holders places key are rare = record {
  number = rare.0;
  part = rare.1;
  is = found-sets records vs holders places rare.0 are rare.2;
}

-- a key that is among items has each of its numbers there
pub among-part : (items : List ℕ) (key : List ℤ) (number : ℤ) → Member number key → is_among items number ≡ false → are_among items key ≡ false
among-part items [] number m out = absurd m
among-part items (n ∷ ns) number (inl e) out = and_left (is_among items n) (are_among items ns) (ap (is_among items) e ∙ out)
among-part items (n ∷ ns) number (inr m) out = and_right (is_among items n) (are_among items ns) (among-part items ns number m out)
