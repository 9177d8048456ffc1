-- The children of a set, and which of them lead to nothing.
use Rattle.std.proofs.Common.{◌≡◌, ℕ, zero, suc, ◌<◌, ◌≤◌, ◌+◌, ◌-◌, ℤ, pos, ◌*ℤ◌, List, [], ◌∷◌, ◌++◌, take, drop, length, get_or}
use Rattle.std.proofs.Common.{refl, sym, ap, ◌∙◌, subst, arith, ◌⊎◌, inl, inr, Contains, append_assoc, add-one}
use Rattle.std.specs.List.{AllByRecursion}
use Rattle.std.proofs.lemmas.Int.{ints}
use Rattle.std.proofs.lemmas.List.{drop_more, take_all, length-map, length-append, map-append}
use Rattle.std.proofs.Math.IntN.{*ℤ-one}
use Rattle.hu_kind.specs.declared.entry.Entry.{Entry}
use Rattle.hu_kind.specs.Record.{holds}
use Rattle.hu_kind.specs.Database.{utility, support}
use Rattle.hu_kind.specs.Order.{Ascend}
use Rattle.hu_kind.proofs.lemmas.Ascending.{Ascend-left}
use Rattle.hu_kind.proofs.lemmas.Each.{each-get, each-push}
use Rattle.hu_kind.proofs.lemmas.Members.{Member, Member-append_left, Member-append_right, Member-append_cases, Contains-from_member}
use Rattle.hu_kind.proofs.lemmas.Occurring.{by_members, counted, count-member}
use Rattle.hu_totals.specs.Ranked.{Ranking, IsRanking}
use Rattle.hu_search.specs.Growth.{rank_entry}
use Rattle.hu_search.proofs.lemmas.UnrankLemmas.{InTable-occurs}
use Rattle.hu_lengths.proofs.lemmas.KeyLengths.{length-key_of}
use Rattle.hu_average.specs.declared.children.Child.{Child}
use Rattle.hu_average.specs.declared.totals.RankTotal.{RankTotal}
use Rattle.hu_average.specs.Bound.{BoundsAverage}
use Rattle.hu_average.specs.Best.{BestOf, IsLeftOut, IsAtMost}
use Rattle.hu_average.specs.Tails.{TailOf, IsLeft, AreSums}
use Rattle.hu_average.specs.Children.{IsLater, AreLater, AreTotals, IsChild, AreChildren, ranks_of, IsShut, ArePicked}
use Rattle.hu_average.proofs.BoundLemmas.{holds-part, bounds-average}
use Rattle.hu_average.proofs.TailLemmas.{total-grown}

-- ---- ranks and totals

-- totals over the tails of a set are those of the records
pub totals-left : (r : Ranking) (set ranks : List ℕ) (tails : List TailOf) (totals : List RankTotal) → IsLeft r set tails
    → AreLater r set ranks → AreSums ranks tails totals → AreTotals r set ranks totals
totals-left r set ranks tails totals left later sums = record {
  len = sums.len;
  each = λ i within.
      let z = get_or ranks i 0 in
      let is = each-get (IsLater r set) ranks i 0 later.each within in
      sums.each i within ∙ total-grown (length r.items) z tails left.rules.each ∙ sym (left.totals z [] is.ascending);
}

-- ---- records that hold a set

support-part : (records : List (List (ℕ × ℤ))) (set more : List ℕ) → AllByRecursion (Contains more) set → 0 < support records more → 0 < support records set
support-part records set more all some =
    let found = counted (holds more) records some in
    count-member (holds set) found.0 records found.1 (holds-part set more found.0 all found.2)

-- a set that holds one of a low bound is left out
bounded-out : (b : BestOf) (r : Ranking) → IsRanking r → (part whole : List ℕ) (bound : ℤ) → BoundsAverage r.records part bound
    → ((x : Entry) → IsAtMost (bound, 1) x → IsLeftOut b x) → AllByRecursion (Contains whole) part → Ascend whole → 0 < support r.records whole
    → 0 < length whole
    → IsLeftOut b (rank_entry r whole)
bounded-out b r rules part whole bound law out all up occurs some =
    let key = length-key_of r rules whole up (InTable-occurs r rules whole occurs) in
    let under = law whole all in
    let one = *ℤ-one (utility r.records whole) in
    let same : (bound *ℤ pos (length whole)) ≡ (bound *ℤ pos (length (rank_entry r whole).key)) = ap (λ n. bound *ℤ pos n) (sym key) in
    out (rank_entry r whole) (omega (arith, key, some), omega (arith, ints, under, one, same))

-- so is one that holds a child which leads to nothing
pub shut-out : (b : BestOf) (r : Ranking) → IsRanking r → (set : List ℕ) (child : Child) → IsChild r set child → IsShut b child
    → (whole : List ℕ) → AllByRecursion (Contains whole) (set ++ child.rank ∷ []) → Ascend whole → 0 < support r.records whole → 0 < length whole
    → IsLeftOut b (rank_entry r whole)
shut-out b r rules set child is (inl none) whole all up occurs some =
    let held = support-part r.records (set ++ child.rank ∷ []) whole all occurs in
    let same = ap (λ (t : RankTotal). t.support) is.is in
    absurd (omega (arith, none, held, same))
shut-out b r rules set child is (inr out) whole all up occurs some =
    let part = set ++ child.rank ∷ [] in
    bounded-out b r rules part whole child.total.bound
    (subst (BoundsAverage r.records part) (sym (ap (λ (t : RankTotal). t.bound) is.is)) (bounds-average r.records part)) out all up occurs some

-- ---- ascending ranks

ascend-skip : (xs : List ℕ) (z : ℕ) (ys : List ℕ) → Ascend (xs ++ z ∷ ys) → Ascend (xs ++ ys)
ascend-skip [] z ys up = up.1
ascend-skip (x ∷ xs) z ys up = (skip xs up.0, ascend-skip xs z ys up.1)
  where
    skip : (ws : List ℕ) → AllByRecursion (λ y. x < y) (ws ++ z ∷ ys) → AllByRecursion (λ y. x < y) (ws ++ ys)
    skip [] all = all.1
    skip (w ∷ ws) all = (all.0, skip ws all.1)

pub take-next : (i : ℕ) (xs : List ℕ) (d z : ℕ) → i < length xs → Member z (take (suc i) xs) → Member z (take i xs) ⊎ (get_or xs i d ≡ z)
take-next i [] d z within m = absurd m
take-next zero (x ∷ xs) d z within (inl s) = inr s
take-next zero (x ∷ xs) d z within (inr m) = absurd m
take-next (suc i) (x ∷ xs) d z within (inl s) = inl (inl s)
take-next (suc i) (x ∷ xs) d z within (inr m) = elim (take-next i xs d z (omega (arith, within)) m) [ inl k ↦ inl (inr k) | inr s ↦ inr s ]

pub take-more : (i : ℕ) (xs : List ℕ) (z : ℕ) → Member z (take i xs) → Member z (take (suc i) xs)
take-more zero xs z m = absurd m
take-more (suc i) [] z m = m
take-more (suc i) (x ∷ xs) z (inl s) = inl s
take-more (suc i) (x ∷ xs) z (inr m) = inr (take-more i xs z m)

pub take-here : (i : ℕ) (xs : List ℕ) (d : ℕ) → i < length xs → Member (get_or xs i d) (take (suc i) xs)
take-here i [] d within = absurd (omega arith)
take-here zero (x ∷ xs) d within = inl refl
take-here (suc i) (x ∷ xs) d within = inr (take-here i xs d (omega (arith, within)))

pub some-member : (z : ℕ) (xs : List ℕ) → Member z xs → 0 < length xs
some-member z [] m = absurd m
some-member z (x ∷ xs) m = omega arith

pub child-rank : (children : List Child) (i : ℕ) (d : Child) → i < length children → get_or (ranks_of children) i 0 ≡ (get_or children i d).rank
child-rank [] i d within = absurd (omega arith)
child-rank (child ∷ children) zero d within = refl
child-rank (child ∷ children) (suc i) d within = child-rank children i d (omega (arith, within))

-- ---- picking children

-- no set with a rank that grows a set gets in
abbrev IsClosedBy : BestOf → Ranking → List ℕ → ℕ → Type 0
IsClosedBy b r set z = (more : List ℕ) → Ascend (set ++ more) → 0 < support r.records (set ++ more) → Member z more
    → IsLeftOut b (rank_entry r (set ++ more))

shut-closed : (b : BestOf) (r : Ranking) → IsRanking r → (set : List ℕ) (child : Child) → IsChild r set child → IsShut b child
    → IsClosedBy b r set child.rank
shut-closed b r rules set child is shut more up occurs m =
    let whole = set ++ more in
    shut-out b r rules set child is shut whole
    (by_members (Contains whole) (set ++ child.rank ∷ []) (λ y k. Contains-from_member y whole (inside y k))) up occurs
    (some-member child.rank whole (Member-append_right child.rank set more m))
  where
    inside : (y : ℕ) → Member y (set ++ child.rank ∷ []) → Member y (set ++ more)
    inside y k = elim (Member-append_cases y set (child.rank ∷ []) k) [
      | inl j ↦ Member-append_left y set more j
      | inr j ↦ elim j [ inl s ↦ Member-append_right y set more (subst (λ w. Member w more) s m) | inr none ↦ absurd none ]
    ]

-- of children the first were tried
pub record ArePickedUpto (b : BestOf) (r : Ranking) (set : List ℕ) (children picked : List Child) (i : ℕ) : Type 0 where
  pub each : AllByRecursion (IsChild r set) picked
  pub some : AllByRecursion (λ child. 0 < child.total.support) picked
  pub order : Ascend (ranks_of picked ++ drop i (ranks_of children))
  pub few : length picked + (length children - i) ≤ length children
  pub closed : (z : ℕ) → Member z (take i (ranks_of children)) → Member z (ranks_of picked) ⊎ IsClosedBy b r set z

module _ (b : BestOf) (r : Ranking) (rules : IsRanking r) (set : List ℕ) (children picked : List Child) (right : AreChildren r set children)
    (i : ℕ) (d : Child) (within : i < length children) (was : ArePickedUpto b r set children picked i) where
  abbrev child : Child
  child = get_or children i d

  count : i < length (ranks_of children)
  count = omega (arith, within, length-map children (λ (x : Child). x.rank))

  order : Ascend (ranks_of picked ++ (get_or children i d).rank ∷ drop (i + 1) (ranks_of children))
  order = subst (λ t. Ascend (ranks_of picked ++ t))
      (drop_more (ranks_of children) i 0 count ∙ ap (λ y. y ∷ drop (i + 1) (ranks_of children)) (child-rank children i d within)) was.order

  -- the next one leads to nothing
  pub picked-skip : IsShut b (get_or children i d) → ArePickedUpto b r set children picked (i + 1)
  picked-skip shut = record {
    each = was.each;
    some = was.some;
    order = ascend-skip (ranks_of picked) child.rank (drop (i + 1) (ranks_of children)) order;
    few = let few = was.few in omega (arith, few, within);
    closed = rw add-one (λ z m. elim (take-next i (ranks_of children) 0 z count m) [
      | inl k ↦ was.closed z k
      | inr s ↦ inr (subst (IsClosedBy b r set) (sym (child-rank children i d within) ∙ s)
          (shut-closed b r rules set child (each-get (IsChild r set) children i d right.each within) shut))
    ]);
  }

  -- or it is picked
  pub picked-next : (new : List Child) → new ≡ picked ++ get_or children i d ∷ [] → 0 < (get_or children i d).total.support
      → ArePickedUpto b r set children new (i + 1)
  picked-next new pushed some = subst (λ (cs : List Child). ArePickedUpto b r set children cs (i + 1)) (sym pushed) (record {
    each = each-push (IsChild r set) picked child was.each (each-get (IsChild r set) children i d right.each within);
    some = each-push (λ (c : Child). 0 < c.total.support) picked child was.some some;
    order = subst (λ t. Ascend (t ++ drop (i + 1) (ranks_of children))) (sym ranks)
        (subst Ascend (sym (append_assoc (ranks_of picked) (child.rank ∷ []) (drop (i + 1) (ranks_of children)))) order);
    few = let few = was.few in omega (arith, few, within, length-append picked (child ∷ []));
    closed = rw add-one (λ z m. subst (λ rs. Member z rs ⊎ IsClosedBy b r set z) (sym ranks) (elim (take-next i (ranks_of children) 0 z count m) [
      | inl k ↦ elim (was.closed z k) [ inl n ↦ inl (Member-append_left z (ranks_of picked) (child.rank ∷ []) n) | inr shut ↦ inr shut ]
      | inr s ↦ inl (Member-append_right z (ranks_of picked) (child.rank ∷ []) (inl (sym (child-rank children i d within) ∙ s)))
    ]));
  })
    where
      ranks : ranks_of (picked ++ child ∷ []) ≡ ranks_of picked ++ child.rank ∷ []
      ranks = map-append (λ (c : Child). c.rank) picked (child ∷ [])

pub picked-all : (b : BestOf) (r : Ranking) (set : List ℕ) (children picked : List Child) (n : ℕ) → length children ≤ n
    → ArePickedUpto b r set children picked n → ArePicked b r set (ranks_of children) picked
picked-all b r set children picked n all was = record {
  children = record { each = was.each; ascending = Ascend-left (ranks_of picked) (drop n (ranks_of children)) was.order };
  some = was.some;
  few = let few = was.few in omega (arith, few, length-map children (λ (x : Child). x.rank));
  enough = λ enough more up occurs. elim (enough more up occurs) [
    | inl m ↦ check more up occurs more m (by_members (λ z. Member z more) more (λ z k. k))
    | inr out ↦ inr out
  ];
}
  where
    count : length (ranks_of children) ≤ n
    count = omega (arith, all, length-map children (λ (x : Child). x.rank))

    check : (more : List ℕ) → Ascend (set ++ more) → 0 < support r.records (set ++ more) → (zs : List ℕ)
        → AllByRecursion (λ z. Member z (ranks_of children)) zs → AllByRecursion (λ z. Member z more) zs
        → AllByRecursion (λ z. Member z (ranks_of picked)) zs ⊎ IsLeftOut b (rank_entry r (set ++ more))
    check more up occurs [] done among = inl tt
    check more up occurs (z ∷ zs) done among =
        elim (was.closed z (subst (Member z) (sym (take_all n (ranks_of children) count)) done.0)) [
          | inl m ↦ elim (check more up occurs zs done.1 among.1) [ inl rest ↦ inl (m, rest) | inr out ↦ inr out ]
          | inr shut ↦ inr (shut more up occurs among.0)
        ]
