use Rattle.std.proofs.Common.{◌≡◌, ◌∙◌, ◌∷◌, ◌<◌, ℕ, List}
use Rattle.std.specs.List.{AllByRecursion, Contains}
use Rattle.hu_kind.proofs.lemmas.Members.{Contains-from_member, Member-from_contains}
use Rattle.hu_rows.specs.Rows.{over, count_over, ranks_in}
use Rattle.hu_rows.specs.Projection.{projected}
use Rattle.hu_rows.proofs.ProjectionLemmas.{over-projected, count_over-projected, Member-projected}
use Rattle.hu_rows.proofs.SortedRows.{IfOk-merging}
use Rattle.hu_rows.proofs.projection.project.Goals as goal

pub returns-clause-over : goal.returns-clause-over
returns-clause-over c =
    let z = c.args.z in
    let rows = c.args.rows.now in
    IfOk-merging c.merge.result _ (projected z rows) (λ answer. (set : List ℕ) → AllByRecursion (λ rank. z < rank) set → over answer set ≡ over rows (z ∷ set))
    c.in_ok-projected_rows.ensures.value (λ answer h set above. h.over set ∙ over-projected z rows set above) c.merge.ensures

pub returns-clause-count : goal.returns-clause-count
returns-clause-count c =
    let z = c.args.z in
    let rows = c.args.rows.now in
    IfOk-merging c.merge.result _ (projected z rows) (λ answer. (set : List ℕ) → AllByRecursion (λ rank. z < rank) set
    → count_over answer set ≡ count_over rows (z ∷ set))
    c.in_ok-projected_rows.ensures.value (λ answer h set above. h.count set ∙ count_over-projected z rows set above) c.merge.ensures

pub returns-clause-after : goal.returns-clause-after
returns-clause-after c =
    let z = c.args.z in
    let rows = c.args.rows.now in
    IfOk-merging c.merge.result _ (projected z rows) (λ answer. (rank : ℕ) → Contains (ranks_in answer) rank → z < rank)
    c.in_ok-projected_rows.ensures.value
    (λ answer h rank m. (Member-projected z rank rows (Member-from_contains rank (ranks_in (projected z rows)) (h.ranks rank m))).0)
    c.merge.ensures

pub returns-clause-among : goal.returns-clause-among
returns-clause-among c =
    let z = c.args.z in
    let rows = c.args.rows.now in
    IfOk-merging c.merge.result _ (projected z rows) (λ answer. (rank : ℕ) → Contains (ranks_in answer) rank → Contains (ranks_in rows) rank)
    c.in_ok-projected_rows.ensures.value
    (λ answer h rank m. Contains-from_member rank (ranks_in rows)
    (Member-projected z rank rows (Member-from_contains rank (ranks_in (projected z rows)) (h.ranks rank m))).1)
    c.merge.ensures
