use Rattle.std.proofs.Common.{rules, ◌≡◌, ◌∙◌, ap, subst, IfOk, ◌≤ℤ◌, arith, to_z, of_z}
use Rattle.std.specs.Int.{w128}
use Rattle.std.proofs.lemmas.Int.{ints, to_z-of_z}
use Rattle.hu_base.specs.Base.{records_of}
use Rattle.hu_totals.specs.Ranked.{unranked}
use Rattle.hu_average.specs.Answer.{average_answer}
use Rattle.hu_average.proofs.lemmas.Ranks.{average-ranked}
use Rattle.hu_mine.proofs.average.ranked_average.Goals as goal

pub returns : goal.returns
returns c =
    let a = c.args in
    let r = c.in_ok-ranked.ranked in
    let exact = to_z-of_z w128 a.wanted.least (search rules) in
    let floor : r.floor ≡ a.wanted.least = ap (λ r. r.floor) c.in_ok-ranked.ensures.value ∙ exact in
    let low : r.floor ≤ℤ a.wanted.least = omega (arith, ints, floor) in
    let whole : average_answer (unranked r) (to_z w128 (of_z w128 a.wanted.least)) a.wanted.top ≡ average_answer (records_of a.base) a.wanted.least a.wanted.top =
    ap (λ least. average_answer (unranked r) least a.wanted.top) exact
    ∙ average-ranked (records_of a.base) r a.wanted.least a.wanted.top c.requires.least c.in_ok-ranked.ensures.patterns low in
    subst (λ answer. IfOk c.mine.result (λ entries. entries.items ≡ answer)) whole c.mine.ensures
