use Rattle.std.proofs.Common.{◌≡◌, ◌∙◌, ◌<◌, ◌++◌, ℕ, Bool, List, take, get_or, flat_map, length, reverse, sym, ap, subst, arith}
use Rattle.std.proofs.lemmas.List.{take_all}
use Rattle.hu_chain.specs.declared.chain.Growth.TheVariants.{IntoLast}
use Rattle.hu_chain.specs.Pattern.{last_item}
use Rattle.hu_span.specs.Child.{AreTold, MayTellEach}
use Rattle.hu_span.specs.Growing.{Records}
use Rattle.hu_span.specs.Kept.{weighed_of}
use Rattle.hu_span.specs.Trail.{span_of, AreHeld}
use Rattle.hu_span.proofs.FamilyLemmas.{told-first}
use Rattle.hu_span.proofs.GrownLemmas.{met, IsBeside}
use Rattle.hu_span.proofs.MarkLemmas.{no_mark}
use Rattle.hu_span.proofs.RowsLemmas.{beside_kept, beside-all}
use Rattle.hu_span.proofs.ScanLemmas.{all_grown, beside-may, held-gathered, map-next}
use Rattle.hu_span.proofs.scan.scanned_into.Goals.{After-behind-stretch, After-deref, After-deref-2}
use Rattle.hu_span.proofs.scan.scanned_into.Goals as goal

pub marks-init : goal.marks-init
marks-init c keep records p are = let links = c.in_ok-links.ensures in told-first c.args.reaches.now _ _ links.rules links.none c.new-tells.ensures.items

-- what the pattern grows by beside the mark
beside_at : (c : After-behind-stretch) (keep : ℕ → Bool) (records : Records) (p : List (List ℕ)) (are : AreHeld keep records c.args.trail.now p c.args.held.now)
    → IsBeside keep records c.args.trail.now are.are.rules (get_or c.deref-mark-items.result.now c.marks.number no_mark) (span_of c.behind-stretch.result)
    (reverse c.behind-stretch.result.cells.now)
beside_at c keep records p are =
    met are c.deref-mark-items.result.now c.marks.number no_mark (span_of c.behind-stretch.result) (reverse c.behind-stretch.result.cells.now)
    c.deref-mark-items.ensures.value c.marks-test.true (c.behind-stretch.ensures.span keep records no_mark are.spans) c.behind-stretch.ensures.cells

pub push_beside-requires-clause-fit : goal.push_beside-requires-clause-fit
push_beside-requires-clause-fit c =
    let own = beside_at (goal.at.push_beside-requires-clause-fit c).After-behind-stretch c.requires.0 c.requires.1 c.requires.2 c.requires.3 in
    own.fit

-- the marks of a place's cells
own_at : (c : After-deref) (keep : ℕ → Bool) (records : Records) (p : List (List ℕ)) (are : AreHeld keep records c.args.trail.now p c.args.held.now)
    → c.deref.result.now ≡ beside_kept keep (weighed_of keep records) (get_or c.args.held.now.marks.items c.marks.number no_mark)
own_at c keep records p are =
    let own = beside_at (goal.at.tell_all-requires c).After-behind-stretch keep records p are in
    c.deref.ensures.value ∙ c.in_ok-push_beside.ensures.marks ∙ (λ j. c.clear.ensures.marks j ++ own.marks j)
    ∙ ap (λ ms. beside_kept keep (weighed_of keep records) (get_or ms c.marks.number no_mark)) c.deref-mark-items.ensures.value

pub tell_all-requires : goal.tell_all-requires
tell_all-requires c =
    let r = c.requires in
    let are = r.3 in
    let rs = weighed_of r.0 r.1 in
    let i = c.marks.number in
    let marks = c.args.held.now.marks.items in
    let within : i < length marks = omega (arith, c.marks-test.true, ap length c.deref-mark-items.ensures.value) in
    let before = flat_map (beside_kept r.0 rs) (take i marks) in (
      before,
      c.marks.invariant r.0 r.1 r.2 are,
      subst (MayTellEach before) (sym (own_at c r.0 r.1 r.2 are))
          (beside-may r.0 rs r.2 marks i no_mark (held-gathered IntoLast are) are.places.is within),
    )

pub marks-preserved : goal.marks-preserved
marks-preserved c keep records p are =
    let f = beside_kept keep (weighed_of keep records) in
    let marks = c.args.held.now.marks.items in
    let i = c.marks.number in
    let before = flat_map f (take i marks) in
    let within : c.marks.number < length c.args.held.now.marks.items = omega (arith, c.marks-test.true, ap length c.deref-mark-items.ensures.value) in
    subst (AreTold c.args.reaches.now c.tell_all.new.links c.tell_all.new.tells.items)
    (ap (λ ms. before ++ ms) (own_at (goal.at.marks-preserved c).After-deref keep records p are) ∙ map-next f marks i no_mark within)
    (c.in_ok-tell_all.ensures before (c.marks.invariant keep records p are))

-- all marks are told
told_at : (c : After-deref-2) (keep : ℕ → Bool) (records : Records) (p : List (List ℕ)) (are : AreHeld keep records c.args.trail.now p c.args.held.now)
    → AreTold c.args.reaches.now c.marks.links c.deref-2.result.now (all_grown IntoLast keep (weighed_of keep records) p)
told_at c keep records p are =
    let rs = weighed_of keep records in
    let marks = c.args.held.now.marks.items in
    let all = take_all c.marks.number marks (omega (arith, c.marks-test.false, ap length c.deref-mark-items.ensures.value)) in
    let whole : flat_map (beside_kept keep rs) (take c.marks.number marks) ≡ all_grown IntoLast keep rs p =
    ap (flat_map (beside_kept keep rs)) (all ∙ are.places.is) ∙ beside-all keep rs p (last_item p) in
    subst (λ ts. AreTold c.args.reaches.now c.marks.links ts (all_grown IntoLast keep rs p)) (sym c.deref-2.ensures.value)
    (subst (AreTold c.args.reaches.now c.marks.links c.marks.tells.items) whole (c.marks.invariant keep records p are))

pub children_told-requires : goal.children_told-requires
children_told-requires c =
    let r = c.requires in
    let rs = weighed_of r.0 r.1 in
    (rs, r.0, r.2, all_grown IntoLast r.0 rs r.2, c.args.reaches.now, held-gathered IntoLast r.3, told_at c r.0 r.1 r.2 r.3)

pub returns : goal.returns
returns c keep records p are =
    let rs = weighed_of keep records in
    c.children_told.ensures.all rs keep p (all_grown IntoLast keep rs p) c.args.reaches.now (held-gathered IntoLast are)
    (told_at (goal.at.returns c).After-deref-2 keep records p are)
