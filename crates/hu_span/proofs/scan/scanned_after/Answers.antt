use Rattle.std.proofs.Common.{◌≡◌, ◌∙◌, ◌++◌, ℕ, Bool, List, [], refl, sym, ap, subst}
use Rattle.hu_chain.specs.declared.chain.Growth.TheVariants.{AfterLast}
use Rattle.hu_chain.specs.Pattern.{last_item}
use Rattle.hu_span.specs.Child.{AreTold, ArePlaces, MayTellEach}
use Rattle.hu_span.specs.Growing.{Records}
use Rattle.hu_span.specs.Kept.{weighed_of}
use Rattle.hu_span.specs.Trail.{row_later, AreHeld}
use Rattle.hu_span.proofs.FamilyLemmas.{told-first}
use Rattle.hu_span.proofs.RowsLemmas.{rows-end, rows-first, rows-next, AreRowsLeft}
use Rattle.hu_span.proofs.ScanLemmas.{all_grown, held-gathered, rows-may}
use Rattle.hu_span.proofs.TurnLemmas.{AreFit}
use Rattle.hu_span.proofs.WalkLemmas.{stays-fit}
use Rattle.hu_span.proofs.scan.scanned_after.Goals.{After-deref-2, In_ok-push_later}
use Rattle.hu_span.proofs.scan.scanned_after.Goals as goal

pub rows-init : goal.rows-init
rows-init c keep records p are =
    let links = c.in_ok-links.ensures in
    record {
      done = [];
      rows = rows-first (weighed_of keep records) keep p c.as_slice-left.result.now []
          (subst (ArePlaces (weighed_of keep records) p (last_item p)) (sym c.as_slice-left.ensures.value) are.places) refl;
      told = told-first c.args.reaches.now _ _ links.rules links.none c.new-tells.ensures.items;
    }

-- the rows that are left after the next one
next_at : (c : In_ok-push_later) (keep : ℕ → Bool) (records : Records) (p : List (List ℕ)) (are : AreHeld keep records c.args.trail.now p c.args.held.now)
    → AreRowsLeft (weighed_of keep records) keep p c.in-Some.row.left.now ((c.rows.invariant keep records p are).done ++ c.push_later.new.held.marks.items)
next_at c keep records p are =
    let row = c.in-Some.row in
    let heard = c.rows.invariant keep records p are in
    let done = heard.done in
    let rows = heard.rows in
    let more = c.push_later.new.held.marks.items in
    let own = c.in-Some.ensures.walked keep records p are rows.rest in
    let here : more ≡ row_later row = c.in_ok-push_later.ensures.marks ∙ ap (λ ms. ms ++ row_later row) c.clear.ensures.marks in
    let fit = stays-fit done (done ++ more) more refl (subst AreFit (sym here) c.in-Some.ensures.later) rows.fit in
    rows-next (weighed_of keep records) keep p row c.rows.left.now done (done ++ more) c.in-Some.ensures.row rows
    (ap (λ ms. done ++ ms) (here ∙ own.marks)) fit

pub tell_all-requires : goal.tell_all-requires
tell_all-requires c =
    let r = c.requires in
    let heard = c.rows.invariant r.0 r.1 r.2 r.3 in
    let next = next_at (goal.at.tell_all-requires c).In_ok-push_later r.0 r.1 r.2 r.3 in (
      heard.done,
      heard.told,
      subst (MayTellEach heard.done) (sym c.deref.ensures.value)
          (rows-may r.0 (weighed_of r.0 r.1) r.2 _ heard.done c.push_later.new.held.marks.items (held-gathered AfterLast r.3) next),
    )

pub rows-preserved : goal.rows-preserved
rows-preserved c keep records p are =
    let heard = c.rows.invariant keep records p are in
    record {
      done = heard.done ++ c.push_later.new.held.marks.items;
      rows = next_at (goal.at.rows-preserved c).In_ok-push_later keep records p are;
      told = subst (λ ms. AreTold c.args.reaches.now c.tell_all.new.links c.tell_all.new.tells.items (heard.done ++ ms)) c.deref.ensures.value
          (c.in_ok-tell_all.ensures heard.done heard.told);
    }

-- all marks are told
told_at : (c : After-deref-2) (keep : ℕ → Bool) (records : Records) (p : List (List ℕ)) (are : AreHeld keep records c.args.trail.now p c.args.held.now)
    → AreTold c.args.reaches.now c.rows.links c.deref-2.result.now (all_grown AfterLast keep (weighed_of keep records) p)
told_at c keep records p are =
    let rs = weighed_of keep records in
    let heard = c.rows.invariant keep records p are in
    let left = subst (λ ms. AreRowsLeft rs keep p ms heard.done) c.in_default.ensures.row heard.rows in
    subst (λ ts. AreTold c.args.reaches.now c.rows.links ts (all_grown AfterLast keep rs p)) (sym c.deref-2.ensures.value)
    (subst (AreTold c.args.reaches.now c.rows.links c.rows.tells.items) (rows-end rs keep p heard.done left) heard.told)

pub children_told-requires : goal.children_told-requires
children_told-requires c =
    let r = c.requires in
    let rs = weighed_of r.0 r.1 in
    (rs, r.0, r.2, all_grown AfterLast r.0 rs r.2, c.args.reaches.now, held-gathered AfterLast r.3, told_at c r.0 r.1 r.2 r.3)

pub returns : goal.returns
returns c keep records p are =
    let rs = weighed_of keep records in
    c.children_told.ensures.all rs keep p (all_grown AfterLast keep rs p) c.args.reaches.now (held-gathered AfterLast are)
    (told_at (goal.at.returns c).After-deref-2 keep records p are)
