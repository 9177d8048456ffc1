use Rattle.std.proofs.Common.{◌≡◌, ℕ, sym, subst, rules, false, MatchOption, ◌<◌, length, get_or}
use Rattle.std.proofs.lemmas.List.Sorted.{answers_always}
use Rattle.hu_kind.specs.Record.{items_in, has}
use Rattle.hu_totals.specs.declared.ranked.Dense.{Dense}
use Rattle.hu_totals.specs.View.{cells_of}
use Rattle.hu_rows.proofs.CellChecks.{place-searched}
use Rattle.hu_rows.proofs.projection.place_of.Goals as goal

pub returns : goal.returns
returns c =
    let cells = c.args.cells.now in
    let z = c.args.z in
    let found = c.binary_search_by_key.ensures.position (λ (cell : Dense). cell.rank) (answers_always _ _ _ (λ f a r f' k. search rules)) in
    subst (λ r. MatchOption r (has z (cells_of cells) ≡ false) (λ (i : ℕ). (i < length cells) × (get_or (items_in (cells_of cells)) i 0 ≡ z)))
    (sym c.ok.ensures.value)
    (place-searched z cells c.binary_search_by_key.result c.requires c.binary_search_by_key.ensures.bound found)
