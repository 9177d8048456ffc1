use Rattle.std.proofs.Common.{rules, ◌≡◌, ◌<◌, ◌≤◌, ◌+◌, ◌-◌, ◌*◌, ◌<ℤ◌, pos, [], ◌∷◌, ◌++◌, length, get_or, refl, sym, ap, ◌∙◌, subst, arith, inl, inr}
use Rattle.std.proofs.lemmas.Int.{ints}
use Rattle.std.specs.declared.vec.Vec.{Vec}
use Rattle.std.specs.declared.alloc.Global.{Global}
use Rattle.std.proofs.lemmas.List.{get_or-map, length-map, length-append}
use Rattle.hu_collect.specs.State.{floor_in, IsInOrder, Reached, ReachedSome}
use Rattle.hu_collect.specs.Ranks.{RestsOn}
use Rattle.hu_rows.specs.declared.places.Place.{Place}
use Rattle.hu_rows.specs.Handed.{handed, ArePlaces}
use Rattle.hu_totals.specs.View.{lists_in}
use Rattle.hu_search.specs.declared.child.Child.{Child}
use Rattle.hu_search.specs.Growth.{Grows}
use Rattle.hu_search.specs.Children.{IsBarren}
use Rattle.hu_search.proofs.lemmas.Children.{barren-reached}
use Rattle.hu_project.specs.Level.{IsSoFar, IsLater, IsLevel}
use Rattle.hu_project.proofs.TurnLemmas.{so_far-none, so_far-ordered, so_far-rule, so_far-all, turn-later, turn-level, turn-places, so_far-next, so_far-some}
use Rattle.hu_project.proofs.TurnLemmas.{few-ranks}
use Rattle.hu_project.proofs.search.+search.Goals as goal

pub search-children-init : goal.search-children-init
search-children-init g t c = record {
  ranks = refl;
  board = c.in_ok-open.ensures.board;
  made = subst (λ set. IsSoFar (g.C.Collect.state c.args.collect.now) (g.C.Collect.state c.open_children.new.collect) c.args.walk.now.ranked.now set c.in_ok-open.open
      0) c.deref.ensures.value
      (so_far-none c.in_ok-open.ensures.ok);
}

pub search-returns-then-child-floor-clause-made : goal.search-returns-then-child-floor-clause-made
search-returns-then-child-floor-clause-made g t c =
    let d = c.index-child.result.now in
    let same : d ≡ get_or c.in_ok-open.open.children.items c.children.at d = c.index-child.ensures in
    let low : (get_or c.in_ok-open.open.children.items c.children.at d).bound <ℤ floor_in (g.C.Collect.state c.children.collect) =
    omega (arith, ints, ap (λ (k : Child). k.bound) same, c.floor.ensures.value, c.if-child-floor.true, c.floor.type_inv) in
    so_far-all c.children.invariant.made c.requires.ordered d (inr low)

pub search-returns-clause-made : goal.search-returns-clause-made
search-returns-clause-made g t c =
    let none : Child = record { rank = 0; utility = pos 0; support = 0; bound = pos 0 } in
    so_far-all c.children.invariant.made c.requires.ordered none
    (inl (omega (arith, c.children-test.false, c.len-at-end.ensures, c.in_ok-open.open.children.ok)))

pub search-children-preserved : goal.search-children-preserved
search-children-preserved g t c =
    let d = c.index-child.result.now in
    let same : d ≡ get_or c.in_ok-open.open.children.items c.children.at d = c.index-child.ensures in
    let inside : c.children.at < length c.in_ok-open.open.children.items =
    omega (arith, c.children-test.true, c.len-at-end.ensures, c.in_ok-open.open.children.ok) in
    let ranks = c.children.invariant.ranks in
    let so_far = c.children.invariant.made in
    record {
      ranks = c.in_ok-enter.ensures.ranks ∙ ranks;
      board = c.in_ok-enter.ensures.board;
      made = so_far-next so_far c.requires.ordered d inside
          (subst (λ set. Reached (g.C.Collect.state c.children.collect) (Grows c.args.walk.now.ranked.now set) (g.C.Collect.state c.enter.new.collect))
          (λ j. ranks j ++ (same j).rank ∷ []) c.in_ok-enter.ensures.made);
    }

pub search-returns-in_err-enter-clause-made : goal.search-returns-in_err-enter-clause-made
search-returns-in_err-enter-clause-made g t c =
    let d = c.index-child.result.now in
    let same : d ≡ get_or c.in_ok-open.open.children.items c.children.at d = c.index-child.ensures in
    let inside : c.children.at < length c.in_ok-open.open.children.items =
    omega (arith, c.children-test.true, c.len-at-end.ensures, c.in_ok-open.open.children.ok) in
    let ranks = c.children.invariant.ranks in
    let so_far = c.children.invariant.made in
    let some : ReachedSome (g.C.Collect.state c.args.collect.now) (Grows c.args.walk.now.ranked.now c.args.ranks.now.items) (g.C.Collect.state c.enter.new.collect) =
    so_far-some so_far c.requires.ordered d inside
    (subst (λ set. ReachedSome (g.C.Collect.state c.children.collect) (Grows c.args.walk.now.ranked.now set) (g.C.Collect.state c.enter.new.collect))
    (λ j. ranks j ++ (same j).rank ∷ []) c.in_err-enter.ensures.made) in
    search rules

pub search-enter-requires : goal.search-enter-requires
search-enter-requires g t c κs within =
    let d = c.index-child.result.now in
    let same : d ≡ get_or c.in_ok-open.open.children.items c.children.at d = c.index-child.ensures in
    let inside : c.children.at < length c.in_ok-open.open.children.items =
    omega (arith, c.children-test.true, c.len-at-end.ensures, c.in_ok-open.open.children.ok) in
    let ranks = c.children.invariant.ranks in
    let so_far = c.children.invariant.made in
    let r = c.args.walk.now.ranked.now in
    let s = g.C.Collect.state c.children.collect in
    let part = c.in_ok-open.open in
    let later : IsLater r c.children.ranks.items d.rank =
    subst (λ set. IsLater r set d.rank) (sym ranks)
    (subst (λ (k : Child). IsLater r c.args.ranks.now.items k.rank) (sym same) (turn-later so_far c.requires.ordered d inside)) in
    let handed_out : ArePlaces part.rows (handed d.rank part.rows) (get_or (lists_in part.places.items) c.children.at []) =
    subst (λ (k : Child). ArePlaces part.rows (handed k.rank part.rows) (get_or (lists_in part.places.items) c.children.at [])) (sym same)
    (turn-places so_far c.requires.ordered d inside) in
    let long : c.children.at < length part.places.items =
    omega (arith, inside, so_far.prepared.places.len, length-map part.places.items (λ (list : Vec Place Global). list.items)) in
    let read : c.as_slice-places.result.now ≡ get_or (lists_in part.places.items) c.children.at [] =
    c.as_slice-places.ensures.value ∙ ap (λ (list : Vec Place Global). list.items) c.index.ensures
    ∙ sym (get_or-map (λ (list : Vec Place Global). list.items) part.places.items c.children.at c.index.result.now [] long) in
    let places : ArePlaces part.rows (handed d.rank part.rows) c.as_slice-places.result.now =
    subst (ArePlaces part.rows (handed d.rank part.rows)) (sym read) handed_out in
    let level : IsLevel s r (c.children.ranks.items ++ d.rank ∷ []) (handed d.rank part.rows) =
    subst (λ set. IsLevel s r (set ++ d.rank ∷ []) (handed d.rank part.rows)) (sym ranks)
    (subst (λ (k : Child). IsLevel s r (c.args.ranks.now.items ++ k.rank ∷ []) (handed k.rank part.rows)) (sym same)
    (turn-level so_far c.requires.ordered d inside)) in
    let board = c.children.invariant.board in
    let ordered : IsInOrder s = so_far-ordered so_far c.requires.ordered d in
    let rests : RestsOn s.rule.table r.items = subst (λ rule. RestsOn rule.table r.items) (sym (so_far-rule so_far c.requires.ordered d)) c.requires.rests in
    let smaller : 2 * (length r.items - length c.children.ranks.items) < 2 * (length r.items - length c.args.ranks.now.items) + 1 =
    omega (arith, ap length ranks) in
    search rules

pub enter-search-requires : goal.enter-search-requires
enter-search-requires g t c κs within =
    let r = c.args.walk.now.ranked.now in
    let s = g.C.Collect.state c.args.collect.now in
    let pushed : c.push.new.self.items ≡ c.args.ranks.now.items ++ c.args.rank ∷ [] = c.in_ok-push.ensures.items in
    let rows : c.in_ok-rows.rows ≡ handed c.args.rank c.args.rows.now = c.in_ok-rows.ensures ∙ c.requires.places.give in
    let level : IsLevel s r c.push.new.self.items c.in_ok-rows.rows =
    subst (λ set. IsLevel s r set c.in_ok-rows.rows) (sym pushed)
    (subst (IsLevel s r (c.args.ranks.now.items ++ c.args.rank ∷ [])) (sym rows) c.requires.level) in
    let long : length c.push.new.self.items ≡ length c.args.ranks.now.items + 1 = ap length pushed ∙ length-append c.args.ranks.now.items (c.args.rank ∷ []) in
    let few : length (c.args.ranks.now.items ++ c.args.rank ∷ []) ≤ length r.items =
    few-ranks (length r.items) (c.args.ranks.now.items ++ c.args.rank ∷ []) c.requires.later.ascending c.requires.later.in_table in
    let smaller : 2 * (length r.items - length c.push.new.self.items) + 1 < 2 * (length r.items - length c.args.ranks.now.items) =
    omega (arith, long, few, ap length pushed) in
    search rules

pub enter-returns-then-not-branch-clause-made : goal.enter-returns-then-not-branch-clause-made
enter-returns-then-not-branch-clause-made g t c =
    let barren : IsBarren (g.C.Collect.state c.args.collect.now) c.args.walk.now.ranked.now (c.args.ranks.now.items ++ c.args.rank ∷ []) =
    subst (λ set. IsBarren (g.C.Collect.state c.args.collect.now) c.args.walk.now.ranked.now (set ++ c.args.rank ∷ [])) c.deref.ensures.value
    (c.in_ok-opens.ensures c.if-not-branch.true) in
    barren-reached (g.C.Collect.state c.args.collect.now) c.args.walk.now.ranked.now (c.args.ranks.now.items ++ c.args.rank ∷ []) c.requires.ordered barren
