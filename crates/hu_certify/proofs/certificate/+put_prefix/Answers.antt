use Rattle.std.proofs.Common.{◌≡◌, ℕ, ℤ, Vec, Global, ◌+◌, ◌<◌, ◌≤◌, append-nil, List, pos, true, [], ◌∷◌, ◌++◌, drop, length, map}
use Rattle.std.proofs.Common.{get_or, int_le, ap, sym, subst, ◌∙◌, arith, rules, to_z, of_z, FitsSigned}
use Rattle.std.specs.Int.{w128}
use Rattle.std.specs.List.{AllByRecursion}
use Rattle.std.proofs.lemmas.Int.{ints, to_z-of_z}
use Rattle.std.proofs.lemmas.List.{get_or-map, get_or_read, length-replicate}
use Rattle.hu_kind.specs.declared.item.Item.{Item}
use Rattle.hu_kind.proofs.lemmas.Members.{Member}
use Rattle.hu_totals.specs.Ranked.{item_at}
use Rattle.hu_totals.specs.Weights.{numbers_of}
use Rattle.hu_certify.specs.declared.fault.CertFault.TheVariants.{TooLong}
use Rattle.hu_certify.specs.declared.place.Place.{Place}
use Rattle.hu_certify.specs.declared.slots.Child.{Child}
use Rattle.hu_certify.specs.declared.table.Table.{Table}
use Rattle.hu_certify.specs.Slots.{lists_of, no_slot, opened}
use Rattle.hu_certify.specs.Spots.{SpotOf, AreAscending, AreRanks, HasRoom, IsNode}
use Rattle.hu_certify.specs.Spots.{earned, narrowed, children_at, named_children, rank_pair, spots_of, standing, lines_from}
use Rattle.hu_certify.specs.Table.{IsAtRest}
use Rattle.hu_certify.specs.Text.{line_of, line_text, lines_below, lines_text, spaced}
use Rattle.hu_certify.proofs.SlotLemmas.{AreAscending-narrowed}
use Rattle.hu_certify.proofs.SpotLemmas.{HasRoom-narrowed}
use Rattle.hu_certify.proofs.TreeLemmas.{rank-stands, standing-below, children-below, AreRanks-narrowed, cells_left}
use Rattle.hu_certify.proofs.TreeLemmas.{fewer, opened-many, opened-shown, line-long, line-written, node-of_child, so_far-opened, so_far-cut}
use Rattle.hu_certify.proofs.TreeLemmas.{so_far-long, so_far-whole, prefix-back, Writes-err}
use Rattle.hu_certify.proofs.certificate.+put_prefix.Goals as goal
use Rattle.hu_certify.proofs.certificate.+put_prefix.Goals.{Start, After-deref-2, In-children}
use Rattle.hu_certify.proofs.certificate.+put_prefix.Goals.{then-child-least+in_ok-push_spaced+in_ok-put_prefix, else-child-least}

-- an item past the end
abbrev no_item : Item
no_item = record { 0 = 0 }

item-at : (items : List Item) (rank : ℕ) (d : Item) → rank < length items → item_at (numbers_of items) rank ≡ (get_or items rank d).0
item-at items rank d within = get_or-map (λ (item : Item). item.0) items rank d 0 within

-- a table at rest has so many slots
many-slots : (items : List Item) (table : Table) → IsAtRest (length items) table → length table.slots.items ≡ length items
many-slots items table is = ap length is.slots ∙ length-replicate (length items) no_slot

-- a child past the end
abbrev no_child : Child
no_child = record { rank = 0; bound = pos 0 }

-- the minimum fits its width
least_at : (t : ℕ) (c : Start t) → to_z w128 (of_z w128 c.args.terms.least) ≡ c.args.terms.least
least_at t c =
    let fits : FitsSigned w128 c.args.terms.least = search rules in
    to_z-of_z w128 c.args.terms.least fits

-- the test of a bound is that of the numbers themselves
test_at : (t : ℕ) (c : Start t) (bound : ℤ) → FitsSigned w128 bound
    → int_le c.args.terms.least bound ≡ int_le (to_z w128 (of_z w128 c.args.terms.least)) (to_z w128 (of_z w128 bound))
test_at t c bound fits = (λ j. int_le (sym (least_at t c) j) (sym (to_z-of_z w128 bound fits) j))

-- what is written is the line of the prefix
line_at : (t : ℕ) (c : After-deref-2 t) (records : List (List (ℕ × ℤ))) (from : ℕ) (path : List ℕ)
    → IsNode records (numbers_of c.args.terms.items.now) from path c.args.draft.now.prefix.items (spots_of c.args.places.now)
    → line_text (to_z w128 (of_z w128 c.args.terms.least)) (drop 1 c.deref.result.now) (to_z w128 (of_z w128 c.earned.result))
    (named_children c.args.terms.items.now c.deref-2.result.now) ≡ line_of records c.args.terms.least path (drop from (numbers_of c.args.terms.items.now))
line_at t c records from path is =
    let order = numbers_of c.args.terms.items.now in
    let spots = spots_of c.args.places.now in
    let sum : to_z w128 (of_z w128 c.earned.result) ≡ earned spots = omega (arith, ints, c.earned.ensures) in
    let told : map rank_pair c.deref-2.result.now ≡ children_at spots = ap (map rank_pair) c.deref-2.ensures.value ∙ c.in_ok-below.ensures.children in
    line-written records order from path c.args.draft.now.prefix.items spots (to_z w128 (of_z w128 c.args.terms.least)) _ c.deref.result.now
    c.deref-2.result.now is c.deref.ensures.value sum told
    ∙ ap (λ least. line_of records least path (drop from order)) (least_at t (goal.at.After-deref-2 t c).Start)

-- what is known of the child that a turn is at
record AtChild (t : ℕ) (c : In-children t) (child : Child) : Type 0 where
  told : map rank_pair c.deref-child-items.result.now ≡ children_at (spots_of c.args.places.now)
  stands : Member child.rank (standing (spots_of c.args.places.now))
  below : child.rank < length c.args.terms.items.now
  inside : c.children.at < length c.in_ok-below.below.places.items
  narrow : (list : Vec Place Global) (places : List Place) → int_le c.args.terms.least child.bound ≡ true
      → list ≡ get_or c.in_ok-below.below.places.items c.children.at list → places ≡ list.items
      → spots_of places ≡ narrowed child.rank (spots_of c.args.places.now)

child_at : (t : ℕ) (c : In-children t) → AtChild t c (get_or c.deref-child-items.result.now c.children.at no_child)
child_at t c =
    let spots = spots_of c.args.places.now in
    let children = c.deref-child-items.result.now in
    let i = c.children.at in
    let lists = c.in_ok-below.below.places.items in
    let told : map rank_pair children ≡ children_at spots = ap (map rank_pair) c.deref-child-items.ensures.value ∙ c.in_ok-below.ensures.children in
    let stands = rank-stands children spots i no_child told c.children-test.true in
    let shown : lists_of lists ≡ map (opened c.args.terms.least spots) (standing spots) =
    c.in_ok-below.ensures.places ∙ ap (λ m. map (opened m spots) (standing spots)) (least_at t (goal.at.In-children t c).Start) in
    record {
      told = told;
      stands = stands;
      below = standing-below (length c.args.terms.items.now) spots (get_or children i no_child).rank c.requires.ranks stands;
      inside = omega (arith, opened-many c.args.terms.least spots children lists told shown, c.children-test.true);
      narrow = λ list places. opened-shown c.args.terms.least spots children lists told shown i no_child list places c.children-test.true;
    }

-- the child's node, where its item is written after the prefix
node_at : (t : ℕ) (c : In-children t) (records : List (List (ℕ × ℤ))) (from : ℕ) (path written : List ℕ) (spots : List SpotOf)
    → let order = numbers_of c.args.terms.items.now in
    let rank = (get_or c.deref-child-items.result.now c.children.at no_child).rank in
    IsNode records order from path c.args.draft.now.prefix.items (spots_of c.args.places.now)
    → written ≡ c.children.draft.prefix.items ++ spaced ((get_or c.args.terms.items.now rank no_item).0 ∷ [])
    → spots ≡ narrowed rank (spots_of c.args.places.now)
    → IsNode records order (rank + 1) (path ++ item_at order rank ∷ []) written spots
node_at t c records from path written spots is shown narrow =
    let child = child_at t c in
    let rank = (get_or c.deref-child-items.result.now c.children.at no_child).rank in
    node-of_child records (numbers_of c.args.terms.items.now) from path c.args.draft.now.prefix.items (spots_of c.args.places.now) rank
    (get_or c.args.terms.items.now rank no_item).0 c.children.draft.prefix.items written spots is child.stands
    (sym (item-at c.args.terms.items.now rank no_item child.below)) c.children.invariant.prefix shown narrow

pub below_of-requires : goal.below_of-requires
below_of-requires t c =
    let many = many-slots c.args.terms.items.now c.args.table.now c.requires.rest in
    record {
      room = c.requires.room;
      ranks = subst (λ n. AreRanks n (spots_of c.args.places.now)) (sym many) c.requires.ranks;
      ascending = c.requires.ascending;
      rest = subst (λ n. IsAtRest n c.args.table.now) (sym many) c.requires.rest;
    }

pub put_line-requires : goal.put_line-requires
put_line-requires t c =
    let count = length c.args.terms.items.now in
    subst (AllByRecursion (λ (child : Child). child.rank < count)) (sym c.deref-2.ensures.value)
    (children-below count c.in_ok-below.below.children.items (spots_of c.args.places.now) c.requires.ranks c.in_ok-below.ensures.children)

pub returns-in_err-put_line-clause-text : goal.returns-in_err-put_line-clause-text
returns-in_err-put_line-clause-text t c = λ records from path is.
    let later = drop from (numbers_of c.args.terms.items.now) in
    let old = c.args.draft.now.text.items in
    let line = line_at t (goal.at.returns-in_err-put_line-clause-text t c).After-deref-2 records from path is in
    Writes-err old c.put_line.new.text.items (lines_text (lines_from records c.args.terms.least path later)) c.from_residual-in_err-put_line.result
    c.in_err-put_line.field-0.0 c.from_residual-in_err-put_line.ensures.1
    (λ h. line-long old (line_of records c.args.terms.least path later) (lines_below records c.args.terms.least path later)
    (subst (λ text. 268435456 < length (old ++ (text ++ 10 ∷ []))) line (c.in_err-put_line.ensures h)))

pub children-init : goal.children-init
children-init t c = record {
  prefix = search rules;
  rest = subst (λ n. IsAtRest n c.below_of.new.table) (many-slots c.args.terms.items.now c.args.table.now c.requires.rest) c.in_ok-below.ensures.rest;
  short = c.in_ok-put_line.ensures.1;
  text = λ records from path is.
      let old = c.args.draft.now.text.items in
      let line = line_at t (goal.at.children-init t c).After-deref-2 records from path is in
      subst (λ text. c.put_line.new.text.items ≡ old ++ (text ++ 10 ∷ [])) line c.in_ok-put_line.ensures.0 ∙ ap (λ text. old ++ text) (sym (append-nil _));
}

pub bounds-items-child : goal.bounds-items-child
bounds-items-child t c = (child_at t (goal.at.bounds-items-child t c).In-children).below

pub index-requires : goal.index-requires
index-requires t c =
    let child = child_at t (goal.at.index-requires t c).In-children in
    omega (arith, child.inside, c.in_ok-below.below.places.ok)

pub put_prefix-requires : goal.put_prefix-requires
put_prefix-requires t c =
    let spots = spots_of c.args.places.now in
    let below = spots_of c.deref-then-child-least.result.now in
    let count = length c.args.terms.items.now in
    let rank = (get_or c.deref-child-items.result.now c.children.at no_child).rank in
    let bound = (get_or c.deref-child-items.result.now c.children.at no_child).bound in
    let child = child_at t (goal.at.put_prefix-requires t c).In-children in
    let reached = test_at t (goal.at.put_prefix-requires t c).Start bound (search rules) ∙ c.if-child-least.true in
    let read = get_or_read c.in_ok-below.below.places.items c.children.at c.index.result.now child.inside c.index.ensures c.index.result.now in
    let narrow = child.narrow c.index.result.now c.deref-then-child-least.result.now reached read c.deref-then-child-least.ensures.value in
    let smaller : cells_left below < cells_left spots = subst (λ ss. cells_left ss < cells_left spots) (sym narrow) (fewer rank spots child.stands) in
    let room : HasRoom below = subst HasRoom (sym narrow) (HasRoom-narrowed rank spots c.requires.room) in
    let ranks : AreRanks count below = subst (AreRanks count) (sym narrow) (AreRanks-narrowed count rank spots c.requires.ranks) in
    let ascending : AreAscending below = subst AreAscending (sym narrow) (AreAscending-narrowed rank spots c.requires.ascending) in
    search rules

pub returns-in_err-put_prefix-clause-text : goal.returns-in_err-put_prefix-clause-text
returns-in_err-put_prefix-clause-text t c = λ records from path is.
    let order = numbers_of c.args.terms.items.now in
    let least = c.args.terms.least in
    let old = c.args.draft.now.text.items in
    let children = c.deref-child-items.result.now in
    let rank = (get_or children c.children.at no_child).rank in
    let turn = (goal.at.returns-in_err-put_prefix-clause-text t c).In-children in
    let child = child_at t turn in
    let test = test_at t (goal.at.returns-in_err-put_prefix-clause-text t c).Start (get_or children c.children.at no_child).bound (search rules) in
    let reached = test ∙ c.if-child-least.true in
    let read = get_or_read c.in_ok-below.below.places.items c.children.at c.index.result.now child.inside c.index.ensures c.index.result.now in
    let narrow = child.narrow c.index.result.now c.deref-then-child-least.result.now reached read c.deref-then-child-least.ensures.value in
    let node = node_at t turn records from path c.push_spaced.new.text.items (spots_of c.deref-then-child-least.result.now) is c.in_ok-push_spaced.ensures
    narrow in
    let long : c.in_err-put_prefix.field-0.0 ≡ TooLong → 268435456 < length (c.children.draft.text.items
    ++ lines_text (lines_from records least (path ++ item_at order rank ∷ []) (drop (rank + 1) order))) =
    c.in_err-put_prefix.ensures.text records (rank + 1) (path ++ item_at order rank ∷ []) node in
    Writes-err old c.put_prefix.new.draft.text.items (lines_text (lines_from records least path (drop from order))) c.from_residual-in_err-put_prefix.result
    c.in_err-put_prefix.field-0.0 c.from_residual-in_err-put_prefix.ensures.1
    (λ h. so_far-long records order from path c.args.draft.now.prefix.items (spots_of c.args.places.now) least children c.children.at no_child old
    c.children.draft.text.items is child.told c.children-test.true (c.children.invariant.text records from path is) reached (long h))

pub children-preserved : goal.children-preserved
children-preserved t c =
    let order = numbers_of c.args.terms.items.now in
    let least = c.args.terms.least in
    let old = c.args.draft.now.text.items in
    let children = c.deref-child-items.result.now in
    let rank = (get_or children c.children.at no_child).rank in
    let turn = (goal.at.children-preserved t c).In-children in
    let child = child_at t turn in
    let test = test_at t (goal.at.children-preserved t c).Start (get_or children c.children.at no_child).bound (search rules) in
    elim c.if-child-least.branch [
      | then-child-least+in_ok-push_spaced+in_ok-put_prefix w ↦ record {
        prefix =
            ap (λ d. d.prefix.items) w.draft-is
            ∙ prefix-back c.children.draft.prefix.items w.push_spaced.new.text.items w.put_prefix.new.draft.prefix.items w.truncate.new.self.items
            (spaced ((get_or c.args.terms.items.now rank no_item).0 ∷ [])) c.len-length.result
            (omega (arith, c.len-length.ensures, c.args.draft.now.prefix.ok, ap length c.children.invariant.prefix)) w.in_ok-push_spaced.ensures
            w.in_ok-put_prefix.ensures.prefix w.truncate.ensures.items
            ∙ c.children.invariant.prefix;
        rest = subst (IsAtRest (length c.args.terms.items.now)) (sym w.table-is) w.in_ok-put_prefix.ensures.rest;
        short = subst (λ d. length d.text.items ≤ 268435456) (sym w.draft-is) w.in_ok-put_prefix.ensures.short;
        text = λ records from path is.
            let reached = test ∙ w.if-child-least.true in
            let read = get_or_read c.in_ok-below.below.places.items c.children.at w.index.result.now child.inside w.index.ensures w.index.result.now in
            let narrow = child.narrow w.index.result.now w.deref-then-child-least.result.now reached read w.deref-then-child-least.ensures.value in
            let node = node_at t turn records from path w.push_spaced.new.text.items (spots_of w.deref-then-child-least.result.now) is
            w.in_ok-push_spaced.ensures narrow in
            let written : w.put_prefix.new.draft.text.items ≡ c.children.draft.text.items
            ++ lines_text (lines_from records least (path ++ item_at order rank ∷ []) (drop (rank + 1) order)) =
            (w.in_ok-put_prefix.ensures.text records (rank + 1) (path ++ item_at order rank ∷ []) node).0 in
            so_far-opened records least order from path children c.children.at no_child old c.children.draft.text.items c.if-child-least.draft.text.items
            c.children-test.true (c.children.invariant.text records from path is) reached (ap (λ d. d.text.items) w.draft-is ∙ written);
      }
      | else-child-least w ↦ record {
        prefix = ap (λ d. d.prefix.items) w.draft-is ∙ c.children.invariant.prefix;
        rest = subst (IsAtRest (length c.args.terms.items.now)) (sym w.table-is) c.children.invariant.rest;
        short = subst (λ d. length d.text.items ≤ 268435456) (sym w.draft-is) c.children.invariant.short;
        text = λ records from path is.
            ap (λ d. d.text.items) w.draft-is
            ∙ so_far-cut records least order from path children c.children.at no_child old c.children.draft.text.items c.children-test.true
            (c.children.invariant.text records from path is) (test ∙ w.if-child-least.false);
      }
    ]

pub returns-clause-rest : goal.returns-clause-rest
returns-clause-rest t c = c.children.invariant.rest

pub returns-clause-prefix : goal.returns-clause-prefix
returns-clause-prefix t c = c.children.invariant.prefix

pub returns-clause-short : goal.returns-clause-short
returns-clause-short t c = c.children.invariant.short

pub returns-clause-text : goal.returns-clause-text
returns-clause-text t c = λ records from path is.
    let spots = spots_of c.args.places.now in
    let children = c.deref-child-items.result.now in
    let told : map rank_pair children ≡ children_at spots = ap (map rank_pair) c.deref-child-items.ensures.value ∙ c.in_ok-below.ensures.children in (
      so_far-whole records (numbers_of c.args.terms.items.now) from path c.args.draft.now.prefix.items spots c.args.terms.least children c.children.at
          c.args.draft.now.text.items c.children.draft.text.items is told c.children-test.false (c.children.invariant.text records from path is),
      c.children.invariant.short,
    )
