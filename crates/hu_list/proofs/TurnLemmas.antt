-- One turn of a search over tails: a child is entered, or the rest is left.
use Rattle.std.proofs.Common.{◌≡◌, ℕ, ◌+◌, ◌<◌, ◌≤◌, ◌≤ℤ◌, ◌<ℤ◌, ◌⊎◌, List, [], ◌∷◌, ◌++◌, length, get_or, sym, ap, ◌∙◌, subst, arith, nat_eq}
use Rattle.std.specs.List.{AllByRecursion, IsDistinct}
use Rattle.std.specs.declared.vec.Vec.{Vec}
use Rattle.std.specs.declared.alloc.Global.{Global}
use Rattle.std.proofs.lemmas.Int.{ints}
use Rattle.std.proofs.lemmas.List.{get_or-map}
use Rattle.hu_kind.proofs.lemmas.Each.{each-get}
use Rattle.hu_totals.specs.Ranked.{Ranking}
use Rattle.hu_collect.specs.State.{State, floor_in, IsInOrder, Reached, ReachedSome}
use Rattle.hu_collect.proofs.lemmas.Searching.{reached-in_order, reached-rule, reached-floor}
use Rattle.hu_search.specs.declared.child.Child.{Child}
use Rattle.hu_search.specs.Growth.{Grows}
use Rattle.hu_search.specs.Children.{IsChild, AreEnough, AreOpen, IsOneOf, IsUpto, ranks_of}
use Rattle.hu_search.proofs.lemmas.Children.{upto-none, upto-next, upto-some, upto-stopped, upto-all}
use Rattle.hu_list.specs.declared.tail.Tail.{Tail}
use Rattle.hu_list.specs.View.{tails_of, lists_of}
use Rattle.hu_list.specs.Level.{IsLeft, IsLevel, AreChosen, AreGrown}
use Rattle.hu_list.proofs.GrownLemmas.{ranks-within}
use Rattle.hu_list.proofs.SearchLemmas.{enough-later, open-is, chosen-children}

-- all children of a set were offered, and of those that were chosen then the first are entered
pub record IsSoFar (old now : State) (r : Ranking) (set later : List ℕ) (chosen : List Child) (lists : List (Vec Tail Global)) (at : ℕ) : Type 0 where
  -- the state after the offers of all children, and these
  pub mid : State
  pub children : List Child
  pub level : IsLevel old r set children
  pub ranks : later ≡ ranks_of children
  pub offers : Reached old (IsOneOf r set later) mid
  pub are : AreChosen (floor_in mid) children chosen
  pub len : length lists ≡ length chosen
  pub grown : AreGrown r set chosen (lists_of lists)
  pub rises : floor_in mid ≤ℤ floor_in now
  pub upto : Reached old (IsUpto r set later chosen at) now

-- the offers of all children, where a set and its children are known as others
pub offers-as : {old mid : State} (r : Ranking) {set same : List ℕ} {children others : List Child} → same ≡ set → others ≡ children
    → Reached old (IsOneOf r same (ranks_of others)) mid → Reached old (IsOneOf r set (ranks_of children)) mid
offers-as {old} {mid} r {same = same} {children} is are offers =
    subst (λ xs. Reached old (IsOneOf r xs (ranks_of children)) mid) is
    (subst (λ xs. Reached old (IsOneOf r same (ranks_of xs)) mid) are offers)

-- want of memory after these
pub offered-stopped : {old mid : State} (r : Ranking) {set same ranks : List ℕ} → same ≡ set → Reached old (IsOneOf r same ranks) mid
    → ReachedSome old (Grows r set) mid
offered-stopped {old} {mid} r {same = same} {ranks} is offers =
    subst (λ xs. ReachedSome old (Grows r xs) mid) is (upto-stopped r same ranks [] 0 (upto-none r same ranks [] offers))

module _ {old now : State} {r : Ranking} {set later : List ℕ} {chosen : List Child} {lists : List (Vec Tail Global)} {at : ℕ}
    (so_far : IsSoFar old now r set later chosen lists at) (ordered : IsInOrder old) where
  pub so_far-ordered : IsInOrder now
  so_far-ordered = reached-in_order so_far.upto

  pub so_far-rule : now.rule ≡ old.rule
  so_far-rule = reached-rule so_far.upto

  pub so_far-rises : floor_in old ≤ℤ floor_in now
  so_far-rises = reached-floor ordered so_far.upto

  enough : AreEnough old r set later
  enough = subst (AreEnough old r set) (sym so_far.ranks) so_far.level.enough

  pub so_far-once : IsDistinct nat_eq later
  so_far-once = subst (IsDistinct nat_eq) (sym so_far.ranks) so_far.level.once

  pub so_far-within : AllByRecursion (λ rank. rank < length r.items) later
  so_far-within = subst (AllByRecursion (λ rank. rank < length r.items)) (sym so_far.ranks) (ranks-within r set so_far.children so_far.level.right)

  pub so_far-all : (d : Child) → (length chosen ≤ at) ⊎ ((get_or chosen at d).bound <ℤ floor_in now) → Reached old (Grows r set) now
  so_far-all d ends =
      let opened = subst (λ ranks. AreOpen so_far.mid r set ranks chosen) (sym so_far.ranks)
      (open-is {s = old} {t = so_far.mid} r set so_far.children chosen (reached-rule so_far.offers)
      (reached-floor ordered so_far.offers) so_far.level so_far.are) in
      upto-all r set later chosen at d ordered enough so_far.offers opened so_far.are.fall so_far.rises ends so_far.upto

  module _ (within : at < length chosen) (d : Child) where
    pub so_far-child : IsChild r set (get_or chosen at d)
    so_far-child =
        each-get (IsChild r set) chosen at d (chosen-children r set
        (floor_in so_far.mid) so_far.children chosen so_far.level.right so_far.are) within

    pub so_far-enough : AreEnough now r (set ++ (get_or chosen at d).rank ∷ []) later
    so_far-enough = enough-later old now r set (get_or chosen at d).rank later so_far-rule so_far-rises enough

    pub so_far-left : (list : Vec Tail Global) → list ≡ get_or lists at list → IsLeft r (set ++ (get_or chosen at d).rank ∷ []) (tails_of list.items)
    so_far-left list is =
        let rank : get_or (ranks_of chosen) at 0 ≡ (get_or chosen at d).rank = get_or-map (λ (child : Child). child.rank) chosen at d 0 within in
        let long : at < length lists = omega (arith, so_far.len, within) in
        let tails : get_or (lists_of lists) at [] ≡ tails_of list.items =
        get_or-map (λ (list : Vec Tail Global). tails_of list.items) lists at list [] long ∙ ap (λ (l : Vec Tail Global). tails_of l.items) (sym is) in
        subst (λ z. IsLeft r (set ++ z ∷ []) (tails_of list.items)) rank
        (subst (IsLeft r (set ++ get_or (ranks_of chosen) at 0 ∷ [])) tails (so_far.grown at within))

    pub so_far-next : {next : State} → Reached now (Grows r (set ++ (get_or chosen at d).rank ∷ [])) next → IsSoFar old next r set later chosen lists (at + 1)
    so_far-next entered = record {
      mid = so_far.mid;
      children = so_far.children;
      level = so_far.level;
      ranks = so_far.ranks;
      offers = so_far.offers;
      are = so_far.are;
      len = so_far.len;
      grown = so_far.grown;
      rises = let a = so_far.rises in let b = reached-floor so_far-ordered entered in omega (arith, ints, a, b);
      upto = upto-next r set later chosen at d within ordered so_far.upto entered;
    }

    pub so_far-some : {next : State} → ReachedSome now (Grows r (set ++ (get_or chosen at d).rank ∷ [])) next → ReachedSome old (Grows r set) next
    so_far-some some = upto-some r set later chosen at d within so_far.upto some
