use Rattle.std.proofs.Common.{◌≡◌, List, [], ◌∷◌, refl, map, sym, ap, ◌∙◌, subst, arith}
use Rattle.std.proofs.lemmas.List.{take_all}
use Rattle.std.specs.declared.vec.Vec.{Vec}
use Rattle.std.specs.declared.alloc.Global.{Global}
use Rattle.hu_totals.specs.declared.ranked.Dense.{Dense}
use Rattle.hu_totals.specs.View.{pairs_in}
use Rattle.hu_average.specs.Tails.{tail_from, tails_of, IsLeft}
use Rattle.hu_average.proofs.TailLemmas.{left-first}
use Rattle.hu_average.proofs.tail.record_tails.Goals as goal

in_turn : (records : List (Vec Dense Global)) → map (λ (cells : Vec Dense Global). tail_from (pairs_in cells)) records
    ≡ map tail_from (map pairs_in records)
in_turn [] = refl
in_turn (cells ∷ records) = ap (λ tails. tail_from (pairs_in cells) ∷ tails) (in_turn records)

pub returns-clause-left : goal.returns-clause-left
returns-clause-left c =
    let records = c.records-records.result.now in
    let is : tails_of c.loop-cells.tails.items ≡ map tail_from c.args.ranked.now.records =
    c.loop-cells.invariant
    ∙ ap (map (λ (cells : Vec Dense Global). tail_from (pairs_in cells)))
    (take_all c.loop-cells.cells-index records (omega (arith, c.loop-cells-test.false)))
    ∙ in_turn records ∙ ap (map tail_from) c.records-records.ensures.value in
    subst (IsLeft c.args.ranked.now []) (sym is) (left-first c.args.ranked.now c.records-records.ensures.rules)
