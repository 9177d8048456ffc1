-- The turns of the loops over children.
use Rattle.std.proofs.Common.{◌≡◌, ℕ, zero, suc, ◌<◌, ◌≤◌, ◌+◌, ◌-◌, ℤ, pos, ◌*ℤ◌, List, [], ◌∷◌, ◌++◌, take, drop, length, get_or}
use Rattle.std.proofs.Common.{refl, sym, ap, ◌∙◌, subst, arith, ◌⊎◌, inl, inr, append_assoc, Contains, add-one}
use Rattle.std.specs.List.{AllByRecursion}
use Rattle.std.specs.declared.vec.Vec.{Vec}
use Rattle.std.specs.declared.alloc.Global.{Global}
use Rattle.std.proofs.lemmas.Int.{ints}
use Rattle.std.proofs.lemmas.List.{length-take, get_or-take, length-map, length-append, get_or-map, map-append, take_more}
use Rattle.hu_kind.specs.declared.entry.Entry.{Entry}
use Rattle.hu_kind.specs.Database.{utility, support}
use Rattle.hu_kind.specs.Order.{Ascend}
use Rattle.hu_kind.proofs.lemmas.Ascending.{Ascend-across, Ascend-push, Ascend-right}
use Rattle.hu_kind.proofs.lemmas.Each.{each-append, each-get, each-take, each-right, each-weaker}
use Rattle.hu_kind.proofs.lemmas.Members.{Member, Member-append_left, Member-append_right}
use Rattle.hu_kind.proofs.lemmas.Members.{Member-map, Member-from_map, Member-from_contains, Contains-from_member}
use Rattle.hu_kind.proofs.lemmas.Occurring.{at_member, by_members}
use Rattle.hu_totals.specs.Ranked.{Ranking, IsRanking}
use Rattle.hu_search.specs.Growth.{rank_entry, Grows}
use Rattle.hu_search.specs.Children.{IsOneOf, IsBelow}
use Rattle.hu_search.proofs.lemmas.UnrankLemmas.{InTable-occurs}
use Rattle.hu_lengths.proofs.lemmas.KeyLengths.{length-key_of}
use Rattle.hu_average.specs.declared.tail.Tail.{Tail}
use Rattle.hu_average.specs.declared.children.Child.{Child}
use Rattle.hu_average.specs.declared.totals.RankTotal.{RankTotal}
use Rattle.hu_average.specs.Best.{BestOf, offered, IsKept, IsLeftOut, IsAtMost, Covers}
use Rattle.hu_average.specs.Tails.{TailOf, IsLeft, grown, tails_of, tails_at}
use Rattle.hu_average.specs.Children.{IsLater, AreLater, IsChild, ranks_of, AreChildren, entries_of, AreEnough, IsShut, ArePicked}
use Rattle.hu_average.proofs.BestLemmas.{offered-then}
use Rattle.hu_average.proofs.CoverLemmas.{left_out-more, covers-left_out, covers-kept, covers-none, covers-list, covers-then, covers-as}
use Rattle.hu_average.proofs.TailLemmas.{left-grown}
use Rattle.hu_average.proofs.SearchLemmas.{shut-out, take-next, take-more, take-here, child-rank}

-- ---- offers

-- the length of the key of a set with a rank more
pub key-length : (r : Ranking) → IsRanking r → (set : List ℕ) (z : ℕ) → IsLater r set z → length (rank_entry r (set ++ z ∷ [])).key ≡ length set + 1
key-length r rules set z is = length-key_of r rules (set ++ z ∷ []) is.ascending is.in_table ∙ length-append set (z ∷ [])

pub entry-at_most : (r : Ranking) → IsRanking r → (set : List ℕ) (z : ℕ) → IsLater r set z → (u : ℤ) (n : ℕ)
    → u ≡ utility r.records (set ++ z ∷ []) → n ≡ length set + 1 → IsAtMost (u, n) (rank_entry r (set ++ z ∷ []))
entry-at_most r rules set z is u n earned count =
    let key = key-length r rules set z is in
    let same : (utility r.records (set ++ z ∷ []) *ℤ pos n) ≡ (u *ℤ pos (length (rank_entry r (set ++ z ∷ [])).key)) =
    (λ j. sym earned j *ℤ pos ((count ∙ sym key) j)) in
    (omega (arith, key), omega (arith, ints, same))

pub offers-next : (r : Ranking) (set : List ℕ) (old mid new : BestOf) (children : List Child) (i : ℕ) (d : Child) → i < length children
    → mid ≡ offered old (entries_of r set (take i children)) → new ≡ offered mid (rank_entry r (set ++ (get_or children i d).rank ∷ []) ∷ [])
    → new ≡ offered old (entries_of r set (take (i + 1) children))
offers-next r set old mid new children i d within was is =
    let entry = rank_entry r (set ++ (get_or children i d).rank ∷ []) in
    is ∙ ap (λ b. offered b (entry ∷ [])) was
    ∙ offered-then old (entries_of r set (take i children)) (entry ∷ [])
    ∙ ap (offered old) (sym (ap (entries_of r set) (take_more children i d within)
    ∙ map-append (λ (c : Child). rank_entry r (set ++ c.rank ∷ [])) (take i children) (get_or children i d ∷ [])))

-- ---- ranks that are enough

-- all ranks are enough for the empty set
pub enough-first : (b : BestOf) (r : Ranking) (set ranks : List ℕ) → IsRanking r → set ≡ [] → ((z : ℕ) → z < length r.items → Member z ranks)
    → AreEnough b r set ranks
enough-first b r set ranks rules none all = subst (λ s. AreEnough b r s ranks) (sym none) (λ more up occurs.
    inl (each-weaker (λ z. z < length r.items) (λ z. Member z ranks) more all (InTable-occurs r rules more occurs)))

-- ranks that are enough stay so
pub enough-more : (old mid : BestOf) (r : Ranking) (set ranks : List ℕ) (entries : List Entry) → IsKept old → mid ≡ offered old entries
    → AreEnough old r set ranks → AreEnough mid r set ranks
enough-more old mid r set ranks entries kept is enough more up occurs = elim (enough more up occurs) [
  | inl among ↦ inl among
  | inr out ↦ inr (subst (λ b. IsLeftOut b (rank_entry r (set ++ more))) (sym is) (left_out-more old entries (rank_entry r (set ++ more)) kept out))
]

-- ---- ascending ranks

-- those after a place are greater, and the greater ones stand after it
drop-above : (i : ℕ) (xs : List ℕ) (d : ℕ) → Ascend xs → i < length xs → AllByRecursion (λ z. get_or xs i d < z) (drop (suc i) xs)
drop-above i [] d up within = absurd (omega arith)
drop-above zero (x ∷ xs) d up within = up.0
drop-above (suc i) (x ∷ xs) d up within = drop-above i xs d up.1 (omega (arith, within))

above-dropped : (i : ℕ) (xs : List ℕ) (d z : ℕ) → Ascend xs → i < length xs → Member z xs → get_or xs i d < z → Member z (drop (suc i) xs)
above-dropped i [] d z up within m above = absurd m
above-dropped zero (x ∷ xs) d z up within (inl s) above = absurd (omega (arith, s, above))
above-dropped zero (x ∷ xs) d z up within (inr m) above = m
above-dropped (suc i) (x ∷ xs) d z up within (inl s) above =
    let low = each-get (λ y. x < y) xs i d up.0 (omega (arith, within)) in absurd (omega (arith, s, above, low))
above-dropped (suc i) (x ∷ xs) d z up within (inr m) above = above-dropped i xs d z up.1 (omega (arith, within)) m above

ascend-drop : (i : ℕ) (xs : List ℕ) → Ascend xs → Ascend (drop i xs)
ascend-drop zero xs up = up
ascend-drop (suc i) [] up = tt
ascend-drop (suc i) (x ∷ xs) up = ascend-drop i xs up.1

pub ascend-take : (i : ℕ) (xs : List ℕ) → Ascend xs → Ascend (take i xs)
ascend-take zero xs up = tt
ascend-take (suc i) [] up = tt
ascend-take (suc i) (x ∷ xs) up = (each-take (λ y. x < y) i xs up.0, ascend-take i xs up.1)

member-dropped : (i : ℕ) (xs : List ℕ) (z : ℕ) → Member z (drop i xs) → Member z xs
member-dropped zero xs z m = m
member-dropped (suc i) [] z m = m
member-dropped (suc i) (x ∷ xs) z m = inr (member-dropped i xs z m)

-- the ranks of children are later ones
pub later-of : (r : Ranking) (set : List ℕ) (children : List Child) → AreChildren r set children → AreLater r set (ranks_of children)
later-of r set children are = record { each = each children are.each; ascending = are.ascending }
  where
    each : (cs : List Child) → AllByRecursion (IsChild r set) cs → AllByRecursion (IsLater r set) (ranks_of cs)
    each [] all = tt
    each (c ∷ cs) all = let first = all.0 in (first.later, each cs all.1)

-- they are in the table
pub later-within : (r : Ranking) (set ranks : List ℕ) → AreLater r set ranks → AllByRecursion (λ rank. rank < length r.items) ranks
later-within r set ranks later = each-weaker (IsLater r set) (λ rank. rank < length r.items) ranks
    (λ z is. (each-right (λ rank. rank < length r.items) set (z ∷ []) is.in_table).0) later.each

-- ---- a search

abbrev pub Upto : Ranking → List ℕ → List ℕ → List ℕ → ℕ → Entry → Type 0
Upto r set ranks entered i e = IsOneOf r set ranks e ⊎ IsBelow r set (take i entered) e

-- all children were offered, and of those that may be entered the first were entered
pub record IsSoFar (old now : BestOf) (r : Ranking) (set : List ℕ) (entered : List Child) (lists : List (Vec Tail Global)) (i : ℕ) : Type 0 where
  pub mid : BestOf
  pub ranks : List ℕ
  pub before : AreEnough old r set ranks
  pub picked : ArePicked mid r set ranks entered
  pub enough : AreEnough mid r set (ranks_of entered)
  pub size : length lists ≡ length entered - 1
  pub grown : (k : ℕ) → k < length lists → IsLeft r (set ++ get_or (ranks_of entered) k 0 ∷ []) (tails_at lists k)
  pub covers : Covers old (Upto r set ranks (ranks_of entered) i) now
  pub stays : (e : Entry) → IsLeftOut mid e → IsLeftOut now e

member-entry : (r : Ranking) (set : List ℕ) (children : List Child) (e : Entry) → AllByRecursion (IsChild r set) children
    → AllByRecursion (λ child. 0 < child.total.support) children
    → Member e (entries_of r set children) → IsOneOf r set (ranks_of children) e
member-entry r set children e each some m =
    let from = Member-from_map (λ (x : Child). rank_entry r (set ++ x.rank ∷ [])) e children m in
    let x = from.0 in
    let is = at_member (IsChild r set) x children each from.1 in
    let held = at_member (λ (c : Child). 0 < c.total.support) x children some from.1 in
    let same = ap (λ (t : RankTotal). t.support) is.is in
    record {
      rank = x.rank;
      among = Contains-from_member x.rank (ranks_of children) (Member-map (λ (y : Child). y.rank) x children from.1);
      ascending = is.later.ascending;
      occurs = omega (arith, held, same);
      is = sym from.2;
    }

entry-member : (r : Ranking) (set : List ℕ) (children : List Child) (e : Entry) → IsOneOf r set (ranks_of children) e
    → Member e (entries_of r set children)
entry-member r set children e one =
    let from = Member-from_map (λ (x : Child). x.rank) one.rank children (Member-from_contains one.rank (ranks_of children) one.among) in
    let same : rank_entry r (set ++ from.0.rank ∷ []) ≡ e = ap (λ z. rank_entry r (set ++ z ∷ [])) from.2 ∙ sym one.is in
    subst (λ x. Member x (entries_of r set children)) same (Member-map (λ (x : Child). rank_entry r (set ++ x.rank ∷ [])) from.0 children from.1)

-- all ranks but the last one
abbrev pub all_but_last : List ℕ → List ℕ
all_but_last ranks = take (length ranks - 1) ranks

-- a rank with a later one stands before the last
member-front : (i : ℕ) (xs : List ℕ) (m k : ℕ) → Ascend xs → length xs ≤ i + 1 → Member m xs → Member k xs → m < k → Member m (take i xs)
member-front i [] m k up all first second low = absurd first
member-front zero (x ∷ y ∷ ys) m k up all first second low = absurd (omega (arith, all))
member-front zero (x ∷ []) m k up all (inl e) (inl f) low = absurd (omega (arith, e, f, low))
member-front zero (x ∷ []) m k up all (inl e) (inr none) low = absurd none
member-front zero (x ∷ []) m k up all (inr none) second low = absurd none
member-front (suc i) (x ∷ xs) m k up all (inl e) second low = inl e
member-front (suc i) (x ∷ xs) m k up all (inr first) (inl f) low =
    let above = at_member (λ y. x < y) m xs up.0 first in absurd (omega (arith, above, f, low))
member-front (suc i) (x ∷ xs) m k up all (inr first) (inr second) low =
    inr (member-front i xs m k up.1 (omega (arith, all)) first second low)

pub so_far-first : (old mid : BestOf) (r : Ranking) (set later front : List ℕ) (tails : List TailOf) (children entered : List Child)
    (lists : List (Vec Tail Global))
    → IsKept old → AreEnough old r set later → ArePicked old r set later children → mid ≡ offered old (entries_of r set children)
    → ArePicked mid r set (ranks_of children) entered → IsLeft r set tails → front ≡ all_but_last (ranks_of entered) → length lists ≡ length front
    → ((k : ℕ) → k < length front → tails_at lists k ≡ grown (get_or front k 0) tails)
    → IsSoFar old mid r set entered lists 0
so_far-first old mid r set later front tails children entered lists kept first are is picked left front_is len lists_are = record {
  mid = mid;
  ranks = ranks_of children;
  before = before;
  picked = picked;
  enough = picked.enough (enough-more old mid r set (ranks_of children) (entries_of r set children) kept is before);
  size = size;
  grown = λ k within.
      let ranks = ranks_of entered in
      let low : k < length ranks - 1 = omega (arith, within, size, count) in
      let here : get_or front k 0 ≡ get_or ranks k 0 = ap (λ rs. get_or rs k 0) front_is ∙ get_or-take (length ranks - 1) ranks k 0 low in
      let list : tails_at lists k ≡ grown (get_or ranks k 0) tails = lists_are k (omega (arith, within, len)) ∙ ap (λ z. grown z tails) here in
      subst (IsLeft r (set ++ get_or ranks k 0 ∷ [])) (sym list) (left-grown r set (get_or ranks k 0) tails left);
  covers = covers-list {P = Upto r set (ranks_of children) (ranks_of entered) 0} old mid (entries_of r set children) is
      (λ e m. inl (member-entry r set children e are.children.each are.some m)) (λ e u. by e u);
  stays = λ e out. out;
}
  where
    count : length (ranks_of entered) ≡ length entered
    count = length-map entered (λ (x : Child). x.rank)

    size : length lists ≡ length entered - 1
    size =
        let some = length-take (length (ranks_of entered) - 1) (ranks_of entered) in
        let same = ap length front_is in
        omega (arith, len, same, some, count)

    before : AreEnough old r set (ranks_of children)
    before = are.enough first

    by : (e : Entry) → Upto r set (ranks_of children) (ranks_of entered) 0 e → Member e (entries_of r set children)
    by e (inl one) = entry-member r set children e one
    by e (inr below) = absurd (Member-from_contains below.rank [] below.among)

module _ {old now : BestOf} {r : Ranking} {set : List ℕ} {entered : List Child} {lists : List (Vec Tail Global)} {i : ℕ}
    (so_far : IsSoFar old now r set entered lists i) where
  pub so_far-kept : IsKept now
  so_far-kept = covers-kept so_far.covers

  abbrev pub left : List ℕ
  left = ranks_of entered

  pub so_far-all : length lists ≤ i → IsKept old → Covers old (Grows r set) now
  so_far-all all kept = covers-as {P = Upto r set so_far.ranks left i} {R = Grows r set} grew back so_far.covers
    where
      count : length left ≤ i + 1
      count = let size = so_far.size in omega (arith, all, size, length-map entered (λ (x : Child). x.rank))

      grew : (e : Entry) → Upto r set so_far.ranks left i e → Grows r set e
      grew e (inl one) = record { more = one.rank ∷ []; some = omega arith; ascending = one.ascending; occurs = one.occurs; is = one.is }
      grew e (inr below) =
          let g = below.grows in
          let same : (set ++ below.rank ∷ []) ++ g.more ≡ set ++ below.rank ∷ g.more = append_assoc set (below.rank ∷ []) g.more in
          record {
            more = below.rank ∷ g.more;
            some = omega arith;
            ascending = subst Ascend same g.ascending;
            occurs = subst (λ s. 0 < support r.records s) same g.occurs;
            is = g.is ∙ ap (rank_entry r) same;
          }

      cases : (e : Entry) (more : List ℕ) → 0 < length more → Ascend (set ++ more) → 0 < support r.records (set ++ more) → e ≡ rank_entry r (set ++ more)
          → AllByRecursion (λ z. Member z so_far.ranks) more → Upto r set so_far.ranks left i e ⊎ IsLeftOut now e
      cases e [] some up occurs is among = absurd (omega (arith, some))
      cases e (m ∷ []) some up occurs is among =
          inl (inl (record { rank = m; among = Contains-from_member m so_far.ranks among.0; ascending = up; occurs = occurs; is = is }))
      cases e (m ∷ k ∷ ks) some up occurs is among =
          let same : set ++ m ∷ k ∷ ks ≡ (set ++ m ∷ []) ++ k ∷ ks = sym (append_assoc set (m ∷ []) (k ∷ ks)) in
          let tail = Ascend-right set (m ∷ k ∷ ks) up in
          let first = tail.0 in
          elim (so_far.enough (m ∷ k ∷ ks) up occurs) [
            | inl inside ↦ inl (inr (record {
              rank = m;
              among = Contains-from_member m (take i left)
                  (member-front i left m k so_far.picked.children.ascending count inside.0 inside.1.0 first.0);
              grows = record {
                more = k ∷ ks;
                some = omega arith;
                ascending = subst Ascend same up;
                occurs = subst (λ s. 0 < support r.records s) same occurs;
                is = is ∙ ap (rank_entry r) same;
              };
            }))
            | inr out ↦ inr (subst (IsLeftOut now) (sym is) (so_far.stays (rank_entry r (set ++ m ∷ k ∷ ks)) out))
          ]

      back : (e : Entry) → Grows r set e → Upto r set so_far.ranks left i e ⊎ IsLeftOut now e
      back e g = elim (so_far.before g.more g.ascending g.occurs) [
        | inl among ↦ cases e g.more g.some g.ascending g.occurs g.is among
        | inr out ↦ inr (covers-left_out kept so_far.covers e (subst (IsLeftOut old) (sym g.is) out))
      ]

  module _ (d : Child) (inside : i < length lists) where
    pub so_far-within : i < length entered
    so_far-within = let size = so_far.size in omega (arith, inside, size)

    abbrev within : i < length entered
    within = so_far-within

    count : i < length left
    count = omega (arith, within, length-map entered (λ (x : Child). x.rank))

    here : get_or left i 0 ≡ (get_or entered i d).rank
    here = child-rank entered i d within

    pub so_far-child : IsChild r set (get_or entered i d)
    so_far-child = each-get (IsChild r set) entered i d so_far.picked.children.each within

    -- the ranks after one are later ones of the set with it
    pub so_far-later : AreLater r (set ++ (get_or entered i d).rank ∷ []) (drop (i + 1) left)
    so_far-later = record {
      each = by_members (IsLater r (set ++ (get_or entered i d).rank ∷ [])) (drop (i + 1) left) one;
      ascending = ascend-drop (i + 1) left so_far.picked.children.ascending;
    }
      where
        a : ℕ
        a = (get_or entered i d).rank

        one : (z : ℕ) → Member z (drop (i + 1) left) → IsLater r (set ++ (get_or entered i d).rank ∷ []) z
        one z m =
            let above = drop-above i left 0 so_far.picked.children.ascending count in
            let low : get_or left i 0 < z = at_member (λ y. get_or left i 0 < y) z (drop (suc i) left) above (rw add-one at m) in
            let is = so_far-child in
            let z_is = at_member (IsLater r set) z left (later-of r set entered so_far.picked.children).each (member-dropped (i + 1) left z m) in
            let same : set ++ a ∷ z ∷ [] ≡ (set ++ a ∷ []) ++ z ∷ [] = sym (append_assoc set (a ∷ []) (z ∷ [])) in
            record {
              ascending = subst Ascend same (Ascend-push set a z is.later.ascending (omega (arith, low, here)));
              in_table = each-append (λ rank. rank < length r.items) (set ++ a ∷ []) (z ∷ []) is.later.in_table
                  (each-right (λ rank. rank < length r.items) set (z ∷ []) z_is.in_table);
            }

    -- and enough for it
    pub so_far-enough : AreEnough now r (set ++ (get_or entered i d).rank ∷ []) (drop (i + 1) left)
    so_far-enough more up occurs =
        let a = (get_or entered i d).rank in
        let same : (set ++ a ∷ []) ++ more ≡ set ++ a ∷ more = append_assoc set (a ∷ []) more in
        elim (so_far.enough (a ∷ more) (subst Ascend same up) (subst (λ s. 0 < support r.records s) same occurs)) [
          | inl among ↦ inl (by_members (λ z. Member z (drop (i + 1) left)) more (λ z m.
              let above : a < z = at_member (λ x. x < z) a (set ++ a ∷ []) (Ascend-across (set ++ a ∷ []) more up z m) (Member-append_right a set (a ∷ [])
              (inl refl)) in
              rw add-one (above-dropped i left 0 z so_far.picked.children.ascending count (at_member (λ y. Member y left) z more among.1 m)
              (omega (arith, above, here)))))
          | inr out ↦ inr (subst (λ s. IsLeftOut now (rank_entry r s)) (sym same) (so_far.stays (rank_entry r (set ++ a ∷ more)) out))
        ]

    pub so_far-left : (list : Vec Tail Global) → list ≡ get_or lists i list
        → IsLeft r (set ++ (get_or entered i d).rank ∷ []) (tails_of list.items)
    so_far-left list is =
        let tails : tails_at lists i ≡ tails_of list.items =
        get_or-map (λ (list : Vec Tail Global). tails_of list.items) lists i list [] inside ∙ ap (λ (l : Vec Tail Global). tails_of l.items) (sym is) in
        subst (λ z. IsLeft r (set ++ z ∷ []) (tails_of list.items)) here
        (subst (IsLeft r (set ++ get_or left i 0 ∷ [])) tails (so_far.grown i inside))

    pub so_far-next : {next : BestOf} → Covers now (Grows r (set ++ (get_or entered i d).rank ∷ [])) next → IsSoFar old next r set entered lists (i + 1)
    so_far-next {next} covers = record {
      mid = so_far.mid;
      ranks = so_far.ranks;
      before = so_far.before;
      picked = so_far.picked;
      enough = so_far.enough;
      size = so_far.size;
      grown = so_far.grown;
      covers = rw add-one (covers-then {P = Upto r set so_far.ranks left i} {Q = Grows r (set ++ get_or left i 0 ∷ [])}
          {R = Upto r set so_far.ranks left (suc i)} more next_one back so_far.covers entry);
      stays = λ e out. covers-left_out so_far-kept entry e (so_far.stays e out);
    }
      where
        entry : Covers now (Grows r (set ++ get_or left i 0 ∷ [])) next
        entry = subst (λ z. Covers now (Grows r (set ++ z ∷ [])) next) (sym here) covers

        more : (e : Entry) → Upto r set so_far.ranks left i e → Upto r set so_far.ranks left (suc i) e
        more e (inl one) = inl one
        more e (inr below) = inr (record {
          rank = below.rank;
          among = Contains-from_member below.rank (take (suc i) left) (take-more i left below.rank (Member-from_contains below.rank
              (take i left) below.among));
          grows = below.grows;
        })

        next_one : (e : Entry) → Grows r (set ++ get_or left i 0 ∷ []) e → Upto r set so_far.ranks left (suc i) e
        next_one e grows = inr (record {
          rank = get_or left i 0;
          among = Contains-from_member (get_or left i 0) (take (suc i) left) (take-here i left 0 count);
          grows = grows;
        })

        back : (e : Entry) → Upto r set so_far.ranks left (suc i) e
            → Upto r set so_far.ranks left i e ⊎ (Grows r (set ++ get_or left i 0 ∷ []) e ⊎ IsLeftOut next e)
        back e (inl one) = inl (inl one)
        back e (inr below) = elim (take-next i left 0 below.rank count (Member-from_contains below.rank (take (suc i) left) below.among)) [
          | inl m ↦ inl (inr (record { rank = below.rank; among = Contains-from_member below.rank (take i left) m; grows = below.grows }))
          | inr s ↦ inr (inl (subst (λ z. Grows r (set ++ z ∷ []) e) (sym s) below.grows))
        ]

-- a child that leads to nothing
pub shut-covers : (b : BestOf) (r : Ranking) → IsRanking r → (set : List ℕ) (child : Child) → IsKept b → IsChild r set child
    → IsShut b child → Covers b (Grows r (set ++ child.rank ∷ [])) b
shut-covers b r rules set child kept is shut = covers-none {P = Grows r (set ++ child.rank ∷ [])} b kept (λ x g. low x g)
  where
    low : (x : Entry) → Grows r (set ++ child.rank ∷ []) x → IsLeftOut b x
    low x g =
        let part = set ++ child.rank ∷ [] in
        let whole = part ++ g.more in
        let some = g.some in
        let all : AllByRecursion (Contains whole) part = by_members (Contains whole) part
        (λ z m. Contains-from_member z whole (Member-append_left z part g.more m)) in
        subst (IsLeftOut b) (sym g.is)
        (shut-out b r rules set child is shut whole all g.ascending g.occurs (omega (arith, some, length-append part g.more)))
