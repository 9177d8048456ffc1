use Rattle.std.proofs.Common.{rules, ◌≡◌, ◌<◌, ◌+◌, ◌-◌, ◌*◌, ◌++◌, ℕ, List, [], ◌∷◌, length, drop, get_or, nat_eq, refl, sym, ap, ◌∙◌, subst, arith}
use Rattle.std.specs.List.{AllByRecursion, IsDistinct}
use Rattle.std.specs.declared.vec.Vec.{Vec}
use Rattle.std.specs.declared.alloc.Global.{Global}
use Rattle.std.proofs.lemmas.List.{length-map, length-drop}
use Rattle.hu_kind.proofs.lemmas.Each.{each-take}
use Rattle.hu_search.specs.Growth.{Grows}
use Rattle.hu_search.proofs.lemmas.Slots.{Ascend-distinct}
use Rattle.hu_average.specs.declared.tail.Tail.{Tail}
use Rattle.hu_average.specs.declared.children.Child.{Child}
use Rattle.hu_average.specs.Best.{IsKept, Covers, offered}
use Rattle.hu_average.specs.Tails.{IsLeft, grown, tails_of, tails_at}
use Rattle.hu_average.specs.Children.{IsChild, AreLater, AreEnough, ArePicked, entries_of, ranks_of}
use Rattle.hu_average.proofs.TurnLemmas.{so_far-first, so_far-next, so_far-all, so_far-kept, so_far-enough, so_far-child}
use Rattle.hu_average.proofs.TurnLemmas.{so_far-later, so_far-left, shut-covers, later-of, later-within}
use Rattle.hu_average.proofs.TurnLemmas.{all_but_last, ascend-take, so_far-within}
use Rattle.hu_average.proofs.search.+search.Goals as goal

-- ---- enter

pub enter-returns-then-is_shut-clause-covers : goal.enter-returns-then-is_shut-clause-covers
enter-returns-then-is_shut-clause-covers t c =
    shut-covers c.args.best.now c.args.walk.now.ranked.now c.requires.rules c.args.ranks.now.items c.args.child.now c.requires.kept c.requires.child
    (c.is_shut.ensures.shut c.if-is_shut.true)

pub enter-search-requires : goal.enter-search-requires
enter-search-requires t c =
    let r = c.args.walk.now.ranked.now in
    let b = c.args.best.now in
    let set = c.args.ranks.now.items ++ c.args.child.now.rank ∷ [] in
    let later = c.args.later.now in
    let pushed : c.push.new.self.items ≡ set = c.in_ok-push.ensures.items in
    let left : IsLeft r c.push.new.self.items (tails_of c.args.tails.now) =
    subst (λ s. IsLeft r s (tails_of c.args.tails.now)) (sym pushed) c.requires.left in
    let are : AreLater r c.push.new.self.items later = subst (λ s. AreLater r s later) (sym pushed) c.requires.later in
    let enough : AreEnough b r c.push.new.self.items later = subst (λ s. AreEnough b r s later) (sym pushed) c.requires.enough in
    let smaller : 2 * length later < 2 * length later + 1 = omega arith in
    search rules

-- ---- search

pub search-fill-requires-clause-once : goal.search-fill-requires-clause-once
search-fill-requires-clause-once t c =
    let later = ranks_of c.in_ok-entered.entered.items in
    let front : c.all_but_last.result.now ≡ all_but_last later =
    c.all_but_last.ensures ∙ ap all_but_last (c.deref-7.ensures.value ∙ c.in_ok-left.ensures ∙ ap ranks_of c.deref-6.ensures.value) in
    subst (IsDistinct nat_eq) (sym front)
    (Ascend-distinct (all_but_last later) (ascend-take (length later - 1) later c.in_ok-entered.ensures.children.ascending))

pub search-fill-requires-clause-within : goal.search-fill-requires-clause-within
search-fill-requires-clause-within t c =
    let r = c.args.walk.now.ranked.now in
    let entered = c.in_ok-entered.entered.items in
    let room : length r.items ≡ c.children.new.slots.room = sym (c.children.ensures.room ∙ c.requires.room) in
    let front : all_but_last (ranks_of entered) ≡ c.all_but_last.result.now =
    sym (c.all_but_last.ensures ∙ ap all_but_last (c.deref-7.ensures.value ∙ c.in_ok-left.ensures ∙ ap ranks_of c.deref-6.ensures.value)) in
    subst (λ ranks. AllByRecursion (λ rank. rank < c.children.new.slots.room) ranks) front
    (subst (λ n. AllByRecursion (λ rank. rank < n) (all_but_last (ranks_of entered))) room
    (each-take (λ rank. rank < length r.items) (length (ranks_of entered) - 1) (ranks_of entered)
    (later-within r c.deref-4.result.now (ranks_of entered) (later-of r c.deref-4.result.now entered c.in_ok-entered.ensures.children))))

pub search-lists-init : goal.search-lists-init
search-lists-init t c =
    let r = c.args.walk.now.ranked.now in
    let set = c.args.ranks.now.items in
    let later = c.args.later.now in
    let old = c.args.best.now in
    let mid = c.offer_children.new.best in
    let children = c.in_ok-children.children.items in
    let entered = c.in_ok-entered.entered.items in
    let items = c.deref-list-items.result.now in
    let tails = tails_of c.args.tails.now in
    let front = c.fill.new.self.ranks in
    let first : ArePicked old r set later children =
    subst (λ s. ArePicked old r s later children) c.deref.ensures.value c.in_ok-children.ensures.picked in
    let offers : mid ≡ offered old (entries_of r set children) =
    c.in_ok-offer_children.ensures ∙ (λ j. offered old (entries_of r (c.deref-2.ensures.value j) (c.deref-3.ensures.value j))) in
    let picked : ArePicked mid r set (ranks_of children) entered =
    subst (λ (cs : List Child). ArePicked mid r set (ranks_of cs) entered) c.deref-5.ensures.value
    (subst (λ s. ArePicked mid r s (ranks_of c.deref-5.result.now) entered) c.deref-4.ensures.value c.in_ok-entered.ensures) in
    let is : front ≡ all_but_last (ranks_of entered) =
    c.in_ok-fill.ensures.ranks ∙ c.all_but_last.ensures
    ∙ ap all_but_last (c.deref-7.ensures.value ∙ c.in_ok-left.ensures ∙ ap ranks_of c.deref-6.ensures.value) in
    let are : (k : ℕ) → k < length front → tails_at items k ≡ grown (get_or front k 0) tails =
    subst (λ (ls : List (Vec Tail Global)). (k : ℕ) → k < length front → tails_at ls k ≡ grown (get_or front k 0) tails)
    (sym c.deref-list-items.ensures.value) c.in_ok-lists.ensures.lists in
    record {
      ranks = refl;
      room = c.fill.ensures.room ∙ c.children.ensures.room;
      so_far = so_far-first old mid r set later front tails children entered items c.requires.kept c.requires.enough first offers picked
          c.requires.left is (ap length c.deref-list-items.ensures.value ∙ c.in_ok-lists.ensures.len) are;
    }

pub search-enter-requires : goal.search-enter-requires
search-enter-requires t c =
    let r = c.args.walk.now.ranked.now in
    let set = c.args.ranks.now.items in
    let ranks = c.lists.ranks.items in
    let entered = c.in_ok-entered.entered.items in
    let at = c.lists.at in
    let b = c.lists.best in
    let child = c.index.result.now in
    let inside = c.lists-test.true in
    let same : set ≡ ranks = sym c.lists.invariant.ranks in
    let so_far = c.lists.invariant.so_far in
    let here : get_or entered at child ≡ child = sym c.index.ensures in
    let after : drop (at + 1) (ranks_of entered) ≡ c.after-after.result.now =
    sym (c.after-after.ensures ∙ ap (drop (at + 1)) (c.deref-in-lists.ensures.value ∙ c.in_ok-left.ensures ∙ ap ranks_of c.deref-6.ensures.value)) in
    let is : IsChild r ranks child =
    subst (λ s. IsChild r s child) same (subst (IsChild r set) here (so_far-child so_far child inside)) in
    let left : IsLeft r (ranks ++ child.rank ∷ []) (tails_of c.deref-in-lists-2.result.now) =
    subst (λ (list : List Tail). IsLeft r (ranks ++ child.rank ∷ []) (tails_of list)) (sym c.deref-in-lists-2.ensures.value)
    (subst (λ s. IsLeft r (s ++ child.rank ∷ []) (tails_of c.list-item.result.items)) same
    (subst (λ (x : Child). IsLeft r (set ++ x.rank ∷ []) (tails_of c.list-item.result.items)) here
    (so_far-left so_far child inside c.list-item.result c.list-item.is))) in
    let later : AreLater r (ranks ++ child.rank ∷ []) c.after-after.result.now =
    subst (AreLater r (ranks ++ child.rank ∷ [])) after
    (subst (λ s. AreLater r (s ++ child.rank ∷ []) (drop (at + 1) (ranks_of entered))) same
    (subst (λ (x : Child). AreLater r (set ++ x.rank ∷ []) (drop (at + 1) (ranks_of entered))) here (so_far-later so_far child inside))) in
    let enough : AreEnough b r (ranks ++ child.rank ∷ []) c.after-after.result.now =
    subst (AreEnough b r (ranks ++ child.rank ∷ [])) after
    (subst (λ s. AreEnough b r (s ++ child.rank ∷ []) (drop (at + 1) (ranks_of entered))) same
    (subst (λ (x : Child). AreEnough b r (set ++ x.rank ∷ []) (drop (at + 1) (ranks_of entered))) here (so_far-enough so_far child inside))) in
    let room : c.lists.slots.room ≡ length r.items = c.lists.invariant.room ∙ c.requires.room in
    let kept : IsKept b = so_far-kept so_far in
    let smaller : 2 * length c.after-after.result.now + 1 < 2 * length c.args.later.now =
    omega (
      arith,
      so_far-within so_far child inside,
      ap length after,
      length-drop (at + 1) (ranks_of entered),
      length-map entered (λ (x : Child). x.rank),
      c.in_ok-entered.ensures.few,
      length-map c.deref-5.result.now (λ (x : Child). x.rank),
      ap length c.deref-5.ensures.value,
      c.in_ok-children.ensures.picked.few,
    ) in
    search rules

pub search-lists-preserved : goal.search-lists-preserved
search-lists-preserved t c =
    let r = c.args.walk.now.ranked.now in
    let child = c.index.result.now in
    record {
      ranks = c.in_ok-enter.ensures.ranks ∙ c.lists.invariant.ranks;
      room = c.enter.ensures.room ∙ c.lists.invariant.room;
      so_far = so_far-next c.lists.invariant.so_far child c.lists-test.true
          (subst (λ (x : Child). Covers c.lists.best (Grows r (c.args.ranks.now.items ++ x.rank ∷ [])) c.enter.new.best) c.index.ensures
          (subst (λ set. Covers c.lists.best (Grows r (set ++ child.rank ∷ [])) c.enter.new.best) c.lists.invariant.ranks c.in_ok-enter.ensures.covers));
    }

pub search-returns-clause-covers : goal.search-returns-clause-covers
search-returns-clause-covers t c = so_far-all c.lists.invariant.so_far c.lists-test.false c.requires.kept
