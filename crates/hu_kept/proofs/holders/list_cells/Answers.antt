use Rattle.std.proofs.Common.{◌≡◌, ◌∙◌, ◌+◌, [], ◌∷◌, ◌++◌, ap, get_or, pos, rules, SFits, subst, sym, take}
use Rattle.std.specs.Int.{w64}
use Rattle.std.proofs.lemmas.Int.{to_z-of_z}
use Rattle.std.proofs.lemmas.List.{map-append, take_more}
use Rattle.hu_kind.specs.declared.item.Cell.{Cell}
use Rattle.hu_kind.specs.Cell.{pair_of, pairs_of}
use Rattle.hu_closed.specs.Places.{with_place}
use Rattle.hu_kept.specs.Holders.{IsListed}
use Rattle.hu_kept.proofs.HolderLemmas.{listed-then, IsListed-added}
use Rattle.hu_kept.proofs.holders.list_cells.Goals as goal

no_cell : Cell
no_cell = record { item = record { 0 = 0 }; value = pos 0 }

pub loop-cell-preserved : goal.loop-cell-preserved
unfolding no_cell
loop-cell-preserved c =
    let cells = c.args.cells.now in
    let place = c.args.place in
    let i = c.loop-cell.cell-index in
    let old = c.loop-cell.places in
    let new = c.add.new.self in
    let cell = get_or cells i no_cell in
    let more : pairs_of (take (i + 1) cells) ≡ pairs_of (take i cells) ++ pair_of cell ∷ [] =
    ap pairs_of (take_more cells i no_cell c.loop-cell-test.true) ∙ map-append pair_of (take i cells) (cell ∷ []) in
    let fits : SFits w64 c.from.result = search rules in
    let sent = to_z-of_z w64 c.from.result fits ∙ c.from.ensures in
    let added = c.in_ok-add.ensures.ok ∙ ap (λ number. with_place old number place) sent in
    let step = IsListed-added old new (pair_of cell) place added in
    subst (λ pairs. IsListed c.args.places.now pairs place new) (sym more)
    (listed-then c.args.places.now old new (pairs_of (take i cells)) (pair_of cell ∷ []) place c.loop-cell.invariant step)
