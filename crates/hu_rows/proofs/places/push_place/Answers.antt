use Rattle.std.proofs.Common.{◌∙◌, ◌++◌, ◌∷◌, [], ◌&&◌, cond, eqb, ap, sym, append-nil}
use Rattle.hu_rows.specs.Handed.{places_at}
use Rattle.hu_totals.specs.View.{lists_in}
use Rattle.hu_rows.proofs.PlaceLemmas.{places_at-push}
use Rattle.hu_rows.proofs.places.push_place.Goals as goal

pub returns-in_ok-push-clause-value : goal.returns-in_ok-push-clause-value
returns-in_ok-push-clause-value c other =
    places_at-push c.args.lists.now.items c.args.rank c.index_mut.result.now c.push.new.self
    (c.args.place ∷ []) c.requires c.index_mut.ensures.value c.in_ok-push.ensures.items other
    ∙ ap (λ b. places_at (lists_in c.args.lists.now.items) other ++ cond (b && eqb other c.args.rank) (c.args.place ∷ []) []) (sym c.if-is_open.true)

pub returns-else-is_open-clause-value : goal.returns-else-is_open-clause-value
returns-else-is_open-clause-value c other =
    sym (append-nil (places_at (lists_in c.args.lists.now.items) other))
    ∙ ap (λ b. places_at (lists_in c.args.lists.now.items) other ++ cond (b && eqb other c.args.rank) (c.args.place ∷ []) []) (sym c.if-is_open.false)
