use Rattle.std.proofs.Common.{◌≡◌, ◌<◌, ◌++◌, ◌∷◌, [], List, cond, length, eqb, get_or, set, ◌&&◌, sym, ap, ◌∙◌, arith}
use Rattle.std.specs.declared.vec.Vec.{Vec}
use Rattle.std.specs.declared.alloc.Global.{Global}
use Rattle.std.proofs.Math.Bool.{and-true}
use Rattle.std.proofs.lemmas.List.{map-set, get_or-map, length-map, set-get_or}
use Rattle.hu_totals.specs.Cells.{among}
use Rattle.hu_collect.proofs.lemmas.Searching.{on_err}
use Rattle.hu_search.specs.Slots.{at}
use Rattle.hu_search.proofs.lemmas.Slots.{at-set, at-place, place-among, changed_at}
use Rattle.hu_totals.specs.View.{lists_in}
use Rattle.hu_search.proofs.slots.Slots.add.Goals as goal

pub returns-in_err-push-clause-kept : goal.returns-in_err-push-clause-kept
returns-in_err-push-clause-kept g c =
    let lists = c.args.lists.now.items in
    let slot = c.in-Some.slot in
    let items : Vec g.row.T.Denot Global → List g.row.T.Denot = λ list. list.items in
    let place = c.in-Some.ensures in
    let low = place.within in
    let here : c.push.new.self.items ≡ get_or (lists_in lists) slot [] =
    c.in_err-push.ensures.items ∙ ap items c.index_mut.ensures.value
    ∙ sym (get_or-map items lists slot c.index_mut.result.now [] (omega (arith, low, c.requires.len))) in
    on_err c.from_residual.result _ (map-set items lists slot c.push.new.self
    ∙ ap (set (lists_in lists) slot) here ∙ set-get_or (lists_in lists) slot [])

pub returns-in_ok-push-clause-added : goal.returns-in_ok-push-clause-added
returns-in_ok-push-clause-added g c z =
    let ranks = c.args.self.now.ranks in
    let lists = c.args.lists.now.items in
    let rank = c.args.rank in
    let slot = c.in-Some.slot in
    let place = c.in-Some.ensures in
    let low = place.within in
    let items : Vec g.row.T.Denot Global → List g.row.T.Denot = λ list. list.items in
    let within : slot < length lists = omega (arith, low, c.requires.len) in
    let inside : slot < length (lists_in lists) = omega (arith, within, length-map lists items) in
    let old = at [] ranks (lists_in lists) in
    let here : old rank ≡ c.index_mut.result.now.items =
    at-place [] ranks (lists_in lists) rank slot place inside
    ∙ get_or-map items lists slot c.index_mut.result.now [] within
    ∙ ap items (sym c.index_mut.ensures.value) in
    let worth : c.push.new.self.items ≡ old rank ++ c.args.value ∷ [] =
    c.in_ok-push.ensures.items ∙ ap (λ xs. xs ++ c.args.value ∷ []) (sym here) in
    let kept : eqb z rank ≡ (eqb z rank && among rank ranks) =
    sym (and-true (eqb z rank)) ∙ ap (λ b. eqb z rank && b) (sym (place-among ranks rank slot place)) in
    ap (λ ls. at [] ranks ls z) (map-set items lists slot c.push.new.self)
    ∙ at-set [] ranks (lists_in lists) rank slot c.push.new.self.items place inside z
    ∙ changed_at old (λ xs. xs ++ c.args.value ∷ []) rank c.push.new.self.items worth z
    ∙ ap (λ b. cond b (old z ++ c.args.value ∷ []) (old z)) kept
