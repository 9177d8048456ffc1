use Rattle.std.proofs.Common.{◌≡◌, List, [], ◌∷◌, refl, map, sym, ap, ◌∙◌, subst, arith}
use Rattle.std.proofs.lemmas.List.{take_all}
use Rattle.std.specs.declared.vec.Vec.{Vec}
use Rattle.std.specs.declared.alloc.Global.{Global}
use Rattle.hu_totals.specs.declared.ranked.Dense.{Dense}
use Rattle.hu_totals.specs.View.{pairs_in}
use Rattle.hu_list.specs.Tails.{tail_from}
use Rattle.hu_list.specs.View.{tails_of}
use Rattle.hu_list.specs.Level.{IsLeft}
use Rattle.hu_list.proofs.SearchLemmas.{left-first}
use Rattle.hu_list.proofs.search.record_tails.Goals as goal

map-map : (records : List (Vec Dense Global)) → map (λ (cells : Vec Dense Global). tail_from (pairs_in cells)) records ≡ map tail_from (map pairs_in records)
map-map [] = refl
map-map (cells ∷ records) = ap (λ tails. tail_from (pairs_in cells) ∷ tails) (map-map records)

pub returns-clause-left : goal.returns-clause-left
returns-clause-left c =
    let records = c.records-records.result.now in
    let is : tails_of c.loop-cells.tails.items ≡ map tail_from c.args.ranked.now.records =
    c.loop-cells.invariant
    ∙ ap (map (λ (cells : Vec Dense Global). tail_from (pairs_in cells))) (take_all c.loop-cells.cells-index records (omega (arith, c.loop-cells-test.false)))
    ∙ map-map records
    ∙ ap (map tail_from) c.records-records.ensures.value in
    subst (IsLeft c.args.ranked.now []) (sym is) (left-first c.args.ranked.now c.records-records.ensures.rules)
