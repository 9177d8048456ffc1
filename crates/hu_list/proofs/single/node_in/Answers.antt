use Rattle.std.proofs.Common.{◌≡◌, ◌+◌, pos, ap, sym, ◌∙◌, map, drop, suc, get_or, add-one, arith, option_to_list}
use Rattle.std.proofs.lemmas.Int.{ints}
use Rattle.std.proofs.lemmas.List.{take_rest}
use Rattle.hu_kind.specs.Record.{gain}
use Rattle.hu_totals.specs.declared.ranked.Dense.{Dense}
use Rattle.hu_totals.specs.View.{dense_pair}
use Rattle.hu_list.proofs.PlaceLemmas.{node_in-at, node_in-none, absolute_of-drop, same_single}
use Rattle.hu_list.proofs.single.node_in.Goals as goal

-- a cell past the end
no_cell : Dense
no_cell = record { rank = 0; value = pos 0 }

pub returns-in_err-at : goal.returns-in_err-at
returns-in_err-at c = ap option_to_list c.from_residual.ensures
    ∙ sym (node_in-none c.args.place c.args.rank c.args.cells.now (sym c.place_of.ensures ∙ c.in_err-at.was))

pub gain_of-requires : goal.gain_of-requires
gain_of-requires c =
    let cells = c.args.cells.now in
    let within = absolute_of-drop cells (c.in_ok-at.at + 1) in
    rw (take_rest cells (c.in_ok-at.at + 1)) (omega (arith, within, c.requires))

pub returns : goal.returns
unfolding no_cell
returns c =
    let cells = c.args.cells.now in
    let at = c.in_ok-at.at in
    let found = node_in-at c.args.place c.args.rank at cells no_cell (sym c.place_of.ensures ∙ c.in_ok-at.was) in
    let rest : c.gain_of.result ≡ gain (map dense_pair (drop (suc at) cells)) = c.gain_of.ensures
    ∙ ap (λ cs. gain (map dense_pair cs)) (take_rest cells (at + 1) ∙ ap (λ n. drop n cells) (add-one at)) in
    same_single c.args.place _ (get_or cells at no_cell).value _ (gain (map dense_pair (drop (suc at) cells))) _
    (omega (arith, ints)) (omega (arith, ints, rest, c.gain_of.type_inv)) found
