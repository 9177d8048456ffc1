use Rattle.std.proofs.Common.{◌≡◌, ◌<◌, ◌∙◌, ℕ, [], ◌∷◌, int_le, length, ap, sym, subst, arith, to_z, of_z, Contains, rules}
use Rattle.std.specs.Int.{w128}
use Rattle.std.specs.List.{AllByRecursion, filter, flat_map}
use Rattle.std.proofs.lemmas.Int.{to_z-of_z}
use Rattle.std.proofs.lemmas.List.{length-map}
use Rattle.std.proofs.lemmas.Result.{IfOk-weaker}
use Rattle.hu_rows.specs.Rows.{AreCounted, count_over}
use Rattle.hu_rows.specs.Tally.{AreBelow}
use Rattle.hu_search.specs.declared.child.Child.{Child}
use Rattle.hu_search.specs.Children.{AreChildren, ranks_of}
use Rattle.hu_search.proofs.lemmas.Children.{offered-some}
use Rattle.hu_project.specs.Children.{child_if}
use Rattle.hu_project.specs.Level.{AreTold, IsChoice, IsPrepared}
use Rattle.hu_project.proofs.LevelLemmas.{AreChildren-told}
use Rattle.hu_project.proofs.PreparedLemmas.{AreOffered, some-offers, IsNarrow-kept, noted-kept, below-kept, prepared-none, prepared-some}
use Rattle.hu_project.proofs.level.open_children.Given.{Over}
use Rattle.hu_project.proofs.level.open_children.Goals.{In_ok-kept}
use Rattle.hu_project.proofs.level.open_children.Goals as goal
use Rattle.hu_collect.proofs.lemmas.Searching.{on_err}

pub offer_children-requires-clause-children : goal.offer_children-requires-clause-children
offer_children-requires-clause-children g c =
    let is : AreTold c.args.rows.now c.tell.new.self c.in_ok-met.met.items = record { told = c.in_ok-met.ensures.value; noted = c.in_ok-met.ensures.met } in
    let kids = c.deref-2.ensures.value ∙ c.in_ok-children.ensures ∙ ap (flat_map (child_if c.tell.new.self)) c.deref.ensures.value in
    subst (AreChildren c.args.walk.now.ranked.now c.args.ranks.now) (sym kids) (AreChildren-told c.requires.level is)

pub returns-in_err-offer_children-clause-err : goal.returns-in_err-offer_children-clause-err
returns-in_err-offer_children-clause-err g c =
    on_err c.from_residual-in_err-offer_children.result _
    (offered-some c.args.walk.now.ranked.now c.args.ranks.now (ranks_of c.deref-2.result.now) c.in_err-offer_children.ensures)

pub returns-in_err-kept-clause-err : goal.returns-in_err-kept-clause-err
returns-in_err-kept-clause-err g c =
    on_err c.from_residual-in_err-kept.result _ (some-offers c.args.walk.now.ranked.now c.args.ranks.now (ranks_of c.deref-2.result.now) c.in_ok-offer_children.ensures)

pub returns-in_err-rows-clause-err : goal.returns-in_err-rows-clause-err
returns-in_err-rows-clause-err g c =
    on_err c.from_residual-in_err-rows.result _ (some-offers c.args.walk.now.ranked.now c.args.ranks.now (ranks_of c.deref-2.result.now) c.in_ok-offer_children.ensures)

pub returns-clause-err : goal.returns-clause-err
returns-clause-err g c =
    on_err c.choose.result _ (some-offers c.args.walk.now.ranked.now c.args.ranks.now (ranks_of c.deref-2.result.now) c.in_ok-offer_children.ensures)

-- what is known where the children to be entered are known
offered_at : (g : Over) (c : In_ok-kept g)
    → AreOffered (g.C.Collect.state c.args.collect.now) (g.C.Collect.state c.offer_children.new.collect)
    c.args.walk.now.ranked.now c.args.ranks.now c.args.rows.now c.tell.new.self c.in_ok-met.met.items c.deref-2.result.now c.in_ok-kept.kept.items
    (to_z w128 (of_z w128 c.floor-floor.result))
offered_at g c = record {
  level = c.requires.level;
  told = record { told = c.in_ok-met.ensures.value; noted = c.in_ok-met.ensures.met };
  kids = c.deref-2.ensures.value ∙ c.in_ok-children.ensures ∙ ap (flat_map (child_if c.tell.new.self)) c.deref.ensures.value;
  kept_is = c.in_ok-kept.ensures
      ∙ ap (filter (λ (child : Child). int_le (to_z w128 (of_z w128 c.floor-floor.result)) child.bound)) (c.deref-3.ensures.value
      ∙ sym c.deref-2.ensures.value);
  ordered = c.requires.ordered;
  offers = c.in_ok-offer_children.ensures;
  floor_is = to_z-of_z w128 c.floor-floor.result (search rules) ∙ c.floor-floor.ensures.value;
}

pub returns-then-len-lt2-clause-ok : goal.returns-then-len-lt2-clause-ok
returns-then-len-lt2-clause-ok g c =
    let offered = offered_at g (goal.at.returns-then-len-lt2-clause-ok g c).In_ok-kept in
    let few : length (ranks_of c.in_ok-kept.kept.items) < 2 =
    omega (arith, length-map c.in_ok-kept.kept.items (λ (child : Child). child.rank), c.len.ensures, c.if-len-lt2.true, c.in_ok-kept.kept.ok) in
    prepared-none offered few c.none.result c.none.ensures.rows c.none.ensures.children c.none.ensures.places

pub choose-requires-clause-below : goal.choose-requires-clause-below
choose-requires-clause-below g c =
    let offered = offered_at g (goal.at.choose-requires-clause-below g c).In_ok-kept in
    let n : length c.forget-2.new.tallies ≡ length c.args.walk.now.ranked.now.items = c.forget-2.ensures.len ∙ c.in_ok-met.ensures.len ∙ c.requires.board.tallies in
    subst (λ m. AreBelow m c.in_ok-rows.rows) (sym n)
    (subst (AreBelow (length c.args.walk.now.ranked.now.items)) (sym c.in_ok-rows.ensures) (IsNarrow-kept offered).below)

pub choose-requires-clause-counted : goal.choose-requires-clause-counted
choose-requires-clause-counted g c =
    let offered = offered_at g (goal.at.choose-requires-clause-counted g c).In_ok-kept in
    subst AreCounted (sym c.in_ok-rows.ensures) (IsNarrow-kept offered).counted

pub choose-requires-clause-met : goal.choose-requires-clause-met
choose-requires-clause-met g c =
    subst (λ xs. AllByRecursion (λ (rank : ℕ). rank < length c.forget-2.new.tallies) xs) (sym c.deref-5.ensures.value)
    (subst (λ m. AllByRecursion (λ (rank : ℕ). rank < m) c.in_ok-met.met.items) (sym c.forget-2.ensures.len) c.in_ok-met.ensures.met.below)

pub choose-requires-clause-noted : goal.choose-requires-clause-noted
choose-requires-clause-noted g c rank held =
    let offered = offered_at g (goal.at.choose-requires-clause-noted g c).In_ok-kept in
    subst (λ xs. Contains xs rank) (sym c.deref-5.ensures.value)
    (noted-kept offered rank
    (subst (λ rs. 0 < count_over rs (rank ∷ [])) c.in_ok-rows.ensures held))

pub choose-requires-clause-kept : goal.choose-requires-clause-kept
choose-requires-clause-kept g c =
    let offered = offered_at g (goal.at.choose-requires-clause-kept g c).In_ok-kept in
    let n : length c.forget-2.new.tallies ≡ length c.args.walk.now.ranked.now.items = c.forget-2.ensures.len ∙ c.in_ok-met.ensures.len ∙ c.requires.board.tallies in
    subst (λ xs. AllByRecursion (λ (child : Child). child.rank < length c.forget-2.new.tallies) xs) (sym c.deref-6.ensures.value)
    (subst (λ m. AllByRecursion (λ (child : Child). child.rank < m) c.in_ok-kept.kept.items) (sym n)
    (below-kept offered))

pub choose-requires-clause-held : goal.choose-requires-clause-held
choose-requires-clause-held g c rank held =
    let offered = offered_at g (goal.at.choose-requires-clause-held g c).In_ok-kept in
    subst (λ xs. Contains (ranks_of xs) rank) (sym c.deref-6.ensures.value)
    ((IsNarrow-kept offered).met rank (subst (λ rs. 0 < count_over rs (rank ∷ [])) c.in_ok-rows.ensures held))

pub returns-clause-ok : goal.returns-clause-ok
returns-clause-ok g c =
    let offered = offered_at g (goal.at.returns-clause-ok g c).In_ok-kept in
    let old = g.C.Collect.state c.args.collect.now in
    let mid = g.C.Collect.state c.offer_children.new.collect in
    IfOk-weaker c.choose.result (IsChoice c.in_ok-rows.rows c.deref-6.result.now (to_z w128 (of_z w128 c.floor-floor.result)))
    (IsPrepared old mid c.args.walk.now.ranked.now c.args.ranks.now)
    (λ part choice. prepared-some offered c.in_ok-rows.rows c.in_ok-rows.ensures part
    (subst (λ ks. IsChoice c.in_ok-rows.rows ks (to_z w128 (of_z w128 c.floor-floor.result)) part) c.deref-6.ensures.value choice))
    c.choose.ensures.ok
