use Rattle.std.proofs.Common.{rules, ◌≡◌, ◌<◌, ◌≤◌, ◌+◌, ◌-◌, ◌*◌, ◌≤ℤ◌, pos, [], ◌∷◌, ◌++◌, List, length, nat_eq, to_z, of_z, slice_index_or, inl, inr, refl}
use Rattle.std.proofs.Common.{sym, ap, ◌∙◌, subst, arith}
use Rattle.std.specs.List.{AllByRecursion, IsDistinct}
use Rattle.std.specs.Int.{w128}
use Rattle.std.proofs.lemmas.Bool.{eqb-true}
use Rattle.std.proofs.lemmas.Int.{ints}
use Rattle.std.proofs.lemmas.List.{length-map}
use Rattle.hu_kind.specs.Order.{Ascend}
use Rattle.hu_collect.specs.State.{floor_in, IsInOrder, Reached, ReachedSome}
use Rattle.hu_collect.specs.Ranks.{RestsOn}
use Rattle.hu_collect.proofs.lemmas.Searching.{stopped}
use Rattle.hu_search.specs.declared.child.Child.{Child}
use Rattle.hu_search.specs.Growth.{Grows, InTable}
use Rattle.hu_search.specs.Children.{AreChildren, IsOneOf, AreEnough, IsBarren, ranks_of}
use Rattle.hu_search.proofs.lemmas.Children.{offered-some, upto-none, barren-reached}
use Rattle.hu_list.specs.declared.tail.Tail.{Tail}
use Rattle.hu_list.specs.View.{tails_of, lists_of, tail_of}
use Rattle.hu_list.specs.Board.{HasRoom}
use Rattle.hu_list.specs.Level.{IsLeft, IsLevel, AreChosen, AreGrown}
use Rattle.hu_list.proofs.SearchLemmas.{next, next-push, next-below, last-in, empty-barren, chosen-children}
use Rattle.hu_list.proofs.LengthLemmas.{longest-reached}
use Rattle.hu_list.proofs.TurnLemmas.{offers-as, offered-stopped, so_far-ordered, so_far-rule, so_far-rises, so_far-once, so_far-within, so_far-all}
use Rattle.hu_list.proofs.TurnLemmas.{so_far-child, so_far-enough, so_far-left, so_far-next, so_far-some}
use Rattle.hu_list.proofs.search.+search.Goals.{enter-then-is_empty-via-then-is_empty, enter-then-is_empty-via-else-is_empty+in_ok-opens+then-not-branch}
use Rattle.hu_list.proofs.search.+search.Goals.{search-else-chosen-test, search-then-chosen-test+then-child-floor}
use Rattle.hu_list.proofs.search.+search.Goals as goal

-- ---- enter

pub enter-fill-requires-clause-within : goal.enter-fill-requires-clause-within
enter-fill-requires-clause-within g t c = subst (λ n. AllByRecursion (λ rank. rank < n) c.args.later.now) (sym c.requires.room.kept) c.requires.within

pub enter-returns-then-is_empty-clause-searches : goal.enter-returns-then-is_empty-clause-searches
enter-returns-then-is_empty-clause-searches g t c =
    let s = g.C.Collect.state c.args.collect.now in
    let r = c.args.walk.now.ranked.now in
    let set = c.args.ranks.now.items ++ c.args.child.now.rank ∷ [] in
    elim c.then-is_empty.branch [
      | enter-then-is_empty-via-then-is_empty w ↦
          barren-reached s r set c.requires.ordered (empty-barren s r set (tails_of c.args.tails.now) c.requires.left
          (length-map c.args.tails.now tail_of ∙ eqb-true (length c.args.tails.now) 0 (sym c.is_empty.ensures ∙ w.if-is_empty.true)))
      | enter-then-is_empty-via-else-is_empty+in_ok-opens+then-not-branch w ↦
          barren-reached s r set c.requires.ordered
          (subst (λ ranks. IsBarren s r (ranks ++ c.args.child.now.rank ∷ [])) w.deref.ensures.value (w.in_ok-opens.ensures w.if-not-branch.true))
    ]

pub enter-search-requires : goal.enter-search-requires
enter-search-requires g t c κs within =
    let r = c.args.walk.now.ranked.now in
    let s = g.C.Collect.state c.args.collect.now in
    let n = length r.items in
    let pushed : c.push.new.self.items ≡ c.args.ranks.now.items ++ c.args.child.now.rank ∷ [] = c.in_ok-push.ensures.items in
    let table : InTable r c.push.new.self.items = subst (InTable r) (sym pushed) c.requires.table in
    let left : IsLeft r c.push.new.self.items (tails_of c.args.tails.now) =
    subst (λ set. IsLeft r set (tails_of c.args.tails.now)) (sym pushed) c.requires.left in
    let filled : c.fill.new.self.ranks ≡ c.args.later.now = c.in_ok-fill.ensures.ranks in
    let enough : AreEnough s r c.push.new.self.items c.fill.new.self.ranks =
    subst (λ set. AreEnough s r set c.fill.new.self.ranks) (sym pushed)
    (subst (AreEnough s r (c.args.ranks.now.items ++ c.args.child.now.rank ∷ [])) (sym filled) c.requires.enough) in
    let room : HasRoom record { kept = c.fill.new.self; found = c.args.board.now.found } n =
    record { kept = c.fill.ensures.room ∙ c.requires.room.kept; found = c.requires.room.found } in
    let after : next c.push.new.self.items ≡ c.args.child.now.rank + 1 = ap next pushed ∙ next-push c.args.ranks.now.items c.args.child.now.rank in
    let smaller : 2 * (n - next c.push.new.self.items) < 2 * (n - (c.args.child.now.rank + 1)) + 1 = omega (arith, after) in
    search rules

-- ---- search

pub search-children-requires-clause-enough : goal.search-children-requires-clause-enough
search-children-requires-clause-enough g t c =
    subst (λ set. AreEnough (g.C.Collect.state c.args.collect.now) c.args.walk.now.ranked.now set c.args.board.now.kept.ranks)
    (sym c.deref.ensures.value) c.requires.enough

pub search-returns-in_err-offer_children-clause-searches : goal.search-returns-in_err-offer_children-clause-searches
search-returns-in_err-offer_children-clause-searches g t c =
    let r = c.args.walk.now.ranked.now in
    let old = g.C.Collect.state c.args.collect.now in
    let new = g.C.Collect.state c.offer_children.new.collect in
    let some : ReachedSome old (Grows r c.deref-2.result.now) new =
    offered-some r c.deref-2.result.now (ranks_of c.deref-3.result.now) c.in_err-offer_children.ensures in
    stopped {P = Grows r c.args.ranks.now.items} c.from_residual-in_err-offer_children.result c.from_residual-in_err-offer_children.ensures.0
    (subst (λ set. ReachedSome old (Grows r set) new) c.deref-2.ensures.value some)

pub search-returns-then-are_longest-clause-searches : goal.search-returns-then-are_longest-clause-searches
search-returns-then-are_longest-clause-searches g t c =
    let r = c.args.walk.now.ranked.now in
    let set = c.args.ranks.now.items in
    let old = g.C.Collect.state c.args.collect.now in
    let children = c.in_ok-children.children.items in
    let level : IsLevel old r set children = subst (λ xs. IsLevel old r xs children) c.deref.ensures.value c.in_ok-children.ensures.level in
    let reached : c.args.walk.now.long ≤ length set + 1 =
    subst (λ xs. c.args.walk.now.long ≤ length xs + 1) c.deref-4.ensures.value (c.are_longest.ensures c.if-are_longest.true) in
    longest-reached r set c.args.walk.now.long children c.requires.rules c.requires.ordered c.requires.long reached level
    (offers-as r c.deref-2.ensures.value c.deref-3.ensures.value c.in_ok-offer_children.ensures)

pub search-returns-in_err-later-clause-searches : goal.search-returns-in_err-later-clause-searches
search-returns-in_err-later-clause-searches g t c =
    stopped {P = Grows c.args.walk.now.ranked.now c.args.ranks.now.items} c.from_residual-in_err-later.result c.from_residual-in_err-later.ensures.0
    (offered-stopped c.args.walk.now.ranked.now c.deref-2.ensures.value c.in_ok-offer_children.ensures)

pub search-returns-in_err-chosen-clause-searches : goal.search-returns-in_err-chosen-clause-searches
search-returns-in_err-chosen-clause-searches g t c =
    stopped {P = Grows c.args.walk.now.ranked.now c.args.ranks.now.items} c.from_residual-in_err-chosen.result c.from_residual-in_err-chosen.ensures.0
    (offered-stopped c.args.walk.now.ranked.now c.deref-2.ensures.value c.in_ok-offer_children.ensures)

pub search-grown_by-requires-clause-children : goal.search-grown_by-requires-clause-children
search-grown_by-requires-clause-children g t c =
    let r = c.args.walk.now.ranked.now in
    let right : AreChildren r c.deref.result.now c.in_ok-chosen.chosen.items =
    chosen-children r c.deref.result.now (to_z w128 (of_z w128 c.floor.result)) c.in_ok-children.children.items c.in_ok-chosen.chosen.items
    c.in_ok-children.ensures.level.right c.in_ok-chosen.ensures in
    subst (λ set. AreChildren r set c.deref-7.result.now) (c.deref.ensures.value ∙ sym c.deref-6.ensures.value)
    (subst (AreChildren r c.deref.result.now) (sym c.deref-7.ensures.value) right)

pub search-returns-in_err-lists-clause-searches : goal.search-returns-in_err-lists-clause-searches
search-returns-in_err-lists-clause-searches g t c =
    stopped {P = Grows c.args.walk.now.ranked.now c.args.ranks.now.items} c.from_residual-in_err-lists.result c.from_residual-in_err-lists.ensures.0
    (offered-stopped c.args.walk.now.ranked.now c.deref-2.ensures.value c.in_ok-offer_children.ensures)

pub search-chosen-init : goal.search-chosen-init
search-chosen-init g t c =
    let r = c.args.walk.now.ranked.now in
    let old = g.C.Collect.state c.args.collect.now in
    let mid = g.C.Collect.state c.offer_children.new.collect in
    let set = c.args.ranks.now.items in
    let children = c.in_ok-children.children.items in
    let later = c.in_ok-later.later.items in
    let items = c.deref-child-items.result.now in
    let lists = c.in_ok-lists.lists.items in
    let level : IsLevel old r set children = subst (λ xs. IsLevel old r xs children) c.deref.ensures.value c.in_ok-children.ensures.level in
    let ranks : later ≡ ranks_of children = c.in_ok-later.ensures ∙ ap ranks_of c.deref-5.ensures.value in
    let offers : Reached old (IsOneOf r set later) mid =
    subst (λ zs. Reached old (IsOneOf r set zs) mid) (sym ranks)
    (offers-as r c.deref-2.ensures.value c.deref-3.ensures.value c.in_ok-offer_children.ensures) in
    let floor : to_z w128 (of_z w128 c.floor.result) ≡ floor_in mid = omega (arith, ints, c.floor.type_inv) ∙ c.floor.ensures.value in
    let are : AreChosen (floor_in mid) children items =
    subst (AreChosen (floor_in mid) children) (sym c.deref-child-items.ensures.value)
    (subst (λ f. AreChosen f children c.in_ok-chosen.chosen.items) floor c.in_ok-chosen.ensures) in
    let same : c.deref-7.result.now ≡ items = c.deref-7.ensures.value ∙ sym c.deref-child-items.ensures.value in
    let grown : AreGrown r set items (lists_of lists) =
    subst (λ xs. AreGrown r set xs (lists_of lists)) same
    (subst (λ xs. AreGrown r xs c.deref-7.result.now (lists_of lists)) c.deref-6.ensures.value c.in_ok-lists.ensures.lists) in
    record {
      ranks = refl;
      room = record {
        kept = c.children.ensures.kept_room ∙ c.requires.room.kept;
        found = c.grown_by.ensures.room ∙ c.children.ensures.found_room ∙ c.requires.room.found;
      };
      so_far = record {
        mid = mid;
        children = children;
        level = level;
        ranks = ranks;
        offers = offers;
        are = are;
        len = c.in_ok-lists.ensures.len ∙ ap length same;
        grown = grown;
        rises = omega (arith, ints);
        upto = upto-none r set later items offers;
      };
    }

pub search-enter-requires : goal.search-enter-requires
search-enter-requires g t c κs within =
    let r = c.args.walk.now.ranked.now in
    let s = g.C.Collect.state c.chosen.collect in
    let n = length r.items in
    let none : Child = record { rank = 0; utility = pos 0; support = 0; bound = pos 0 } in
    let rank = (slice_index_or c.deref-child-items.result.now c.chosen.at record { rank = 0; utility = pos 0; support = 0; bound = pos 0 }).rank in
    let same : c.args.ranks.now.items ≡ c.chosen.ranks.items = sym c.chosen.invariant.ranks in
    let so_far = c.chosen.invariant.so_far in
    let child = so_far-child so_far c.requires.ordered c.chosen-test.true none in
    let table : InTable r (c.chosen.ranks.items ++ rank ∷ []) = subst (λ set. InTable r (set ++ rank ∷ [])) same child.in_table in
    let up : Ascend (c.chosen.ranks.items ++ rank ∷ []) = subst (λ set. Ascend (set ++ rank ∷ [])) same child.ascending in
    let list : IsLeft r (c.args.ranks.now.items ++ rank ∷ []) (tails_of c.index.result.now.items) =
    so_far-left so_far c.requires.ordered c.chosen-test.true none c.index.result.now c.index.ensures in
    let left : IsLeft r (c.chosen.ranks.items ++ rank ∷ []) (tails_of c.deref-in-chosen.result.now) =
    subst (λ set. IsLeft r (set ++ rank ∷ []) (tails_of c.deref-in-chosen.result.now)) same
    (subst (λ (list : List Tail). IsLeft r (c.args.ranks.now.items ++ rank ∷ []) (tails_of list)) (sym c.deref-in-chosen.ensures.value) list) in
    let later : c.in_ok-later.later.items ≡ c.deref-in-chosen-2.result.now = sym c.deref-in-chosen-2.ensures.value in
    let enough : AreEnough s r (c.chosen.ranks.items ++ rank ∷ []) c.deref-in-chosen-2.result.now =
    subst (AreEnough s r (c.chosen.ranks.items ++ rank ∷ [])) later
    (subst (λ set. AreEnough s r (set ++ rank ∷ []) c.in_ok-later.later.items) same (so_far-enough so_far c.requires.ordered c.chosen-test.true none)) in
    let once : IsDistinct nat_eq c.deref-in-chosen-2.result.now = subst (IsDistinct nat_eq) later (so_far-once so_far c.requires.ordered) in
    let inside : AllByRecursion (λ z. z < n) c.deref-in-chosen-2.result.now =
    subst (AllByRecursion (λ z. z < n)) later (so_far-within so_far c.requires.ordered) in
    let ordered : IsInOrder s = so_far-ordered so_far c.requires.ordered in
    let before = c.requires.floor in
    let rises : floor_in (g.C.Collect.state c.args.collect.now) ≤ℤ floor_in s = so_far-rises so_far c.requires.ordered in
    let floor : g.G.Gate.floor c.args.walk.now.gate.now ≤ℤ floor_in s = omega (arith, ints, rises, before) in
    let rests : RestsOn s.rule.table r.items = subst (λ rule. RestsOn rule.table r.items) (sym (so_far-rule so_far c.requires.ordered)) c.requires.rests in
    let room : HasRoom c.chosen.board n = c.chosen.invariant.room in
    let low : next c.args.ranks.now.items ≤ rank = next-below c.args.ranks.now.items rank child.ascending in
    let last : rank < n = last-in c.args.ranks.now.items rank n child.in_table in
    let smaller : 2 * (n - (rank + 1)) + 1 < 2 * (n - next c.args.ranks.now.items) = omega (arith, low, last) in
    search rules

pub search-returns-in_err-enter-clause-searches : goal.search-returns-in_err-enter-clause-searches
search-returns-in_err-enter-clause-searches g t c =
    let r = c.args.walk.now.ranked.now in
    let none : Child = record { rank = 0; utility = pos 0; support = 0; bound = pos 0 } in
    let rank = (slice_index_or c.deref-child-items.result.now c.chosen.at none).rank in
    stopped {P = Grows r c.args.ranks.now.items} c.from_residual-in_err-enter.result c.from_residual-in_err-enter.ensures.0
    (so_far-some c.chosen.invariant.so_far c.requires.ordered c.chosen-test.true none
    (subst (λ set. ReachedSome (g.C.Collect.state c.chosen.collect) (Grows r (set ++ rank ∷ [])) (g.C.Collect.state c.enter.new.collect))
    c.chosen.invariant.ranks c.in_err-enter.ensures.searches))

pub search-chosen-preserved : goal.search-chosen-preserved
search-chosen-preserved g t c =
    let r = c.args.walk.now.ranked.now in
    let none : Child = record { rank = 0; utility = pos 0; support = 0; bound = pos 0 } in
    let rank = (slice_index_or c.deref-child-items.result.now c.chosen.at none).rank in
    record {
      ranks = c.in_ok-enter.ensures.ranks ∙ c.chosen.invariant.ranks;
      room = c.enter.ensures.room;
      so_far = so_far-next c.chosen.invariant.so_far c.requires.ordered c.chosen-test.true none
          (subst (λ set. Reached (g.C.Collect.state c.chosen.collect) (Grows r (set ++ rank ∷ [])) (g.C.Collect.state c.enter.new.collect))
          c.chosen.invariant.ranks c.in_ok-enter.ensures.searches);
    }

pub search-returns-clause-searches : goal.search-returns-clause-searches
search-returns-clause-searches g t c =
    let none : Child = record { rank = 0; utility = pos 0; support = 0; bound = pos 0 } in
    so_far-all c.chosen.invariant.so_far c.requires.ordered none (elim c.chosen-test.branch [
      | search-else-chosen-test w ↦ inl (omega (arith, w.chosen-test.false))
      | search-then-chosen-test+then-child-floor w ↦ inr (omega
          (arith, ints, w.floor-in-chosen.ensures.value, w.if-child-floor.true, w.floor-in-chosen.type_inv))
    ])
