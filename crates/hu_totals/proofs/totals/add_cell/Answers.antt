use Rattle.std.proofs.Common.{◌≡◌, ◌∙◌, ap, max, unsigned_abs, nat_eq, map, slice_get, position, None, Some, rules, sym, subst, FitsSigned}
use Rattle.std.specs.Int.{w128}
use Rattle.std.specs.Map.{keys_of, lookup}
use Rattle.std.proofs.lemmas.Int.{to_z-of_z}
use Rattle.indexmap.specs.IndexMap.{insert_entry}
use Rattle.hu_totals.specs.Adding.{grown, pairs_with, total_at, total_in, HasRoom}
use Rattle.hu_totals.specs.Weights.{same_item}
use Rattle.hu_totals.proofs.ItemKeys.{insert-pairs_with, set-pairs_with, total_in-at, total_in-none}
use Rattle.hu_totals.proofs.totals.add_cell.Goals as goal

pub grow_at-requires-clause-room : goal.grow_at-requires-clause-room
grow_at-requires-clause-room c =
    let entries = c.args.totals.now.entries in
    let cell = c.args.cell.now in
    let fits : FitsSigned w128 cell.value = search rules in
    let at : slice_get (map (λ e. e.1) entries) c.in-Some.place ≡ lookup (same_item cell.item) entries = search rules in
    let same = total_in-at cell.item entries c.in-Some.place at in
    simp (to_z-of_z w128 cell.value fits, to_z-of_z w128 c.args.gain c.ranges.gain)
    (subst (λ t. HasRoom t (max (unsigned_abs cell.value) (unsigned_abs c.args.gain))) same c.requires.room)

pub returns-in-Some : goal.returns-in-Some
returns-in-Some c =
    let entries = c.args.totals.now.entries in
    let cell = c.args.cell.now in
    let fits : FitsSigned w128 cell.value = search rules in
    let at : slice_get (map (λ e. e.1) entries) c.in-Some.place ≡ lookup (same_item cell.item) entries = search rules in
    let here : position (same_item cell.item) (keys_of entries) ≡ Some c.in-Some.place = search rules in
    let same = total_in-at cell.item entries c.in-Some.place at in
    let one = simp (to_z-of_z w128 cell.value fits, to_z-of_z w128 c.args.gain c.ranges.gain) at (c.grow_at.ensures) in
    ap pairs_with one
    ∙ set-pairs_with cell.item (grown (total_at entries c.in-Some.place) cell.value c.args.gain) entries c.in-Some.place here
    ∙ ap (λ t. insert_entry nat_eq (pairs_with entries) cell.item.0 (grown t cell.value c.args.gain)) (sym same)

pub returns-in_ok-insert-in-None : goal.returns-in_ok-insert-in-None
returns-in_ok-insert-in-None c =
    let entries = c.args.totals.now.entries in
    let cell = c.args.cell.now in
    let fits : FitsSigned w128 cell.value = search rules in
    let none : lookup (same_item cell.item) entries ≡ None = search rules in
    let one : c.with.result ≡ grown (total_in (pairs_with entries) cell.item.0) cell.value c.args.gain =
    simp (to_z-of_z w128 cell.value fits, to_z-of_z w128 c.args.gain c.ranges.gain) at (c.with.ensures)
    ∙ ap (λ total. grown total cell.value c.args.gain) (sym (total_in-none cell.item entries none)) in
    ap pairs_with c.in_ok-insert-in-None.ensures.entries
    ∙ insert-pairs_with cell.item c.with.result entries
    ∙ ap (insert_entry nat_eq (pairs_with entries) cell.item.0) one
