use Rattle.std.proofs.Common.{rules, ◌≡◌, ◌∙◌, ◌+◌, ◌*◌, ◌<◌, [], get_or, length, refl, sym, ap, subst, arith}
use Rattle.std.proofs.lemmas.List.Elements.{Contains-get_or}
use Rattle.hu_kind.specs.declared.item.Item.{Item}
use Rattle.hu_collect.specs.State.{IsInOrder, Reached, ReachedSome}
use Rattle.hu_collect.proofs.lemmas.Searching.{stopped}
use Rattle.hu_plain.specs.Row.{grown_entry, grown_rows, key_with, AreRows, Grows, IsGrowth}
use Rattle.hu_plain.specs.View.{rows_of}
use Rattle.hu_plain.specs.Grown.{AreGrown, AreItems}
use Rattle.hu_plain.proofs.Growth.{cells_in, cells_in-grown_rows, AreRows-grown_rows}
use Rattle.hu_plain.proofs.GrownLemmas.{items-grown, found-grown}
use Rattle.hu_plain.proofs.Patterns.{begins-whole}
use Rattle.hu_plain.proofs.SoFar.{own-ordered, own-then, own-some, so_far-none, so_far-ordered, so_far-stopped, so_far-all, so_far-next, so_far-some}
use Rattle.hu_plain.proofs.items.+search.Goals as goal

no_item : Item
no_item = record { 0 = 0 }

-- ---- enter

pub enter-search-requires : goal.enter-search-requires
enter-search-requires g t c κs within =
    let old = g.C.Collect.state c.args.collect.now in
    let mid = g.C.Collect.state c.offer.new.collect in
    let ordered : IsInOrder mid = own-ordered old mid (grown_entry c.push.new.self (rows_of c.args.rows.now) []) c.in_ok-offer.ensures in
    let cells = cells_in (rows_of c.args.rows.now) in
    let smaller : 2 * cells < 2 * cells + 1 = omega arith in
    search rules

pub enter-returns-in_err-search-clause-searches : goal.enter-returns-in_err-search-clause-searches
enter-returns-in_err-search-clause-searches g t c =
    let old = g.C.Collect.state c.args.collect.now in
    let new = g.C.Collect.state c.search.new.collect in
    let rows = rows_of c.args.rows.now in
    let key = c.push.new.self in
    let pushed : key ≡ key_with c.args.prefix.now c.args.item.0 = search rules in
    stopped {P = IsGrowth (key_with c.args.prefix.now c.args.item.0) rows} c.from_residual-in_err-search.result c.from_residual-in_err-search.ensures.0
    (subst (λ p. ReachedSome old (IsGrowth p rows) new) pushed
    (own-some {P = Grows key rows} (grown_entry key rows []) c.in_ok-offer.ensures c.in_err-search.ensures.searches))

pub enter-returns-clause-searches : goal.enter-returns-clause-searches
enter-returns-clause-searches g t c =
    let old = g.C.Collect.state c.args.collect.now in
    let new = g.C.Collect.state c.search.new.collect in
    let rows = rows_of c.args.rows.now in
    let key = c.push.new.self in
    let pushed : key ≡ key_with c.args.prefix.now c.args.item.0 = search rules in
    subst (λ p. Reached old (IsGrowth p rows) new) pushed
    (own-then {P = Grows key rows} (grown_entry key rows []) c.requires.in_order c.in_ok-offer.ensures c.in_ok-search.ensures.searches)

-- ---- search

pub search-items-init : goal.search-items-init
search-items-init g t c =
    let rows = rows_of c.args.rows.now in
    let items = c.deref-item-items.result.now in
    let grown : AreGrown rows c.deref.result.now = subst (AreGrown rows) (sym c.deref.ensures.value) c.in_ok-all.ensures in
    let are : AreItems rows items = subst (AreItems rows) (sym c.deref-item-items.ensures.value)
    (items-grown rows c.deref.result.now c.in_ok-items.items.items grown c.in_ok-items.ensures) in
    record {
      prefix = refl;
      are = are;
      so_far = so_far-none (g.C.Collect.state c.args.collect.now) c.requires.in_order
          (begins-whole c.args.prefix.now rows c.requires.rows.ascending items are);
    }

pub search-returns-in_err-grown-clause-searches : goal.search-returns-in_err-grown-clause-searches
search-returns-in_err-grown-clause-searches g t c =
    stopped {P = Grows c.args.prefix.now (rows_of c.args.rows.now)} c.from_residual-in_err-grown.result c.from_residual-in_err-grown.ensures.0
    (so_far-stopped c.items.invariant.so_far)

pub search-enter-requires : goal.search-enter-requires
unfolding no_item
search-enter-requires g t c κs within =
    let rows = rows_of c.args.rows.now in
    let items = c.deref-item-items.result.now in
    let item = get_or items c.items.item-index no_item in
    let found = c.deref-in-items-2.result.now in
    let is : rows_of found ≡ grown_rows item.0 rows =
    found-grown rows c.in_ok-all.all.items c.deref-in-items.result.now c.in_ok-grown.grown.items found item.0 c.in_ok-all.ensures
    c.deref-in-items.ensures.value c.in_ok-grown.ensures c.deref-in-items-2.ensures.value in
    let are : AreRows (rows_of found) = subst AreRows (sym is) (AreRows-grown_rows item.0 rows c.requires.rows) in
    let ordered : IsInOrder (g.C.Collect.state c.items.collect) = so_far-ordered c.items.invariant.so_far in
    let some : 0 < length (grown_rows item.0 rows) = (c.items.invariant.are item).0 (Contains-get_or items c.items.item-index no_item c.items-test.true) in
    let fewer = cells_in-grown_rows item.0 rows in
    let smaller : 2 * cells_in (rows_of found) + 1 < 2 * cells_in rows = omega (arith, some, fewer, ap cells_in is) in
    search rules

pub search-returns-in_err-enter-clause-searches : goal.search-returns-in_err-enter-clause-searches
unfolding no_item
search-returns-in_err-enter-clause-searches g t c =
    let rows = rows_of c.args.rows.now in
    let now = g.C.Collect.state c.items.collect in
    let new = g.C.Collect.state c.enter.new.collect in
    let item = get_or c.deref-item-items.result.now c.items.item-index no_item in
    let found = c.deref-in-items-2.result.now in
    let is : rows_of found ≡ grown_rows item.0 rows =
    found-grown rows c.in_ok-all.all.items c.deref-in-items.result.now c.in_ok-grown.grown.items found item.0 c.in_ok-all.ensures
    c.deref-in-items.ensures.value c.in_ok-grown.ensures c.deref-in-items-2.ensures.value in
    let same = c.items.invariant.prefix in
    stopped {P = Grows c.args.prefix.now rows} c.from_residual-in_err-enter.result c.from_residual-in_err-enter.ensures.0
    (so_far-some c.items.invariant.so_far no_item c.items-test.true
    (subst (λ rs. ReachedSome now (IsGrowth (key_with c.args.prefix.now item.0) rs) new) is
    (subst (λ p. ReachedSome now (IsGrowth (key_with p item.0) (rows_of found)) new) same c.in_err-enter.ensures.searches)))

pub search-items-preserved : goal.search-items-preserved
unfolding no_item
search-items-preserved g t c =
    let rows = rows_of c.args.rows.now in
    let now = g.C.Collect.state c.items.collect in
    let new = g.C.Collect.state c.enter.new.collect in
    let item = get_or c.deref-item-items.result.now c.items.item-index no_item in
    let found = c.deref-in-items-2.result.now in
    let is : rows_of found ≡ grown_rows item.0 rows =
    found-grown rows c.in_ok-all.all.items c.deref-in-items.result.now c.in_ok-grown.grown.items found item.0 c.in_ok-all.ensures
    c.deref-in-items.ensures.value c.in_ok-grown.ensures c.deref-in-items-2.ensures.value in
    let same = c.items.invariant.prefix in
    record {
      prefix = c.in_ok-enter.ensures.prefix ∙ same;
      are = c.items.invariant.are;
      so_far = so_far-next c.items.invariant.so_far no_item c.items-test.true c.requires.in_order
          (subst (λ rs. Reached now (IsGrowth (key_with c.args.prefix.now item.0) rs) new) is
          (subst (λ p. Reached now (IsGrowth (key_with p item.0) (rows_of found)) new) same c.in_ok-enter.ensures.searches));
    }

pub search-returns-clause-searches : goal.search-returns-clause-searches
search-returns-clause-searches g t c = so_far-all c.items.invariant.so_far c.items-test.false
