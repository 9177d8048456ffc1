use Rattle.std.proofs.Common.{◌++◌, ◌∷◌, [], ◌<◌, ◌≤◌, length, sym, ap, subst, arith}
use Rattle.std.proofs.lemmas.Int.{ints}
use Rattle.hu_span.specs.declared.tally.Tally.{Tally}
use Rattle.hu_span.specs.declared.tally.Told.{Told}
use Rattle.hu_span.specs.Child.{AreTold}
use Rattle.hu_span.specs.Mark.{marks_with}
use Rattle.hu_span.specs.Tally.{reaches_of, IsTally, IsTold}
use Rattle.hu_span.proofs.TallyLemmas.{IsTally-none}
use Rattle.hu_span.proofs.ToldLemmas.{tell-again, tell-known, tell-new, tell-rows}
use Rattle.hu_span.proofs.child.tell.Goals as goal

pub add-requires-else-number-len-clause-tally : goal.add-requires-else-number-len-clause-tally
add-requires-else-number-len-clause-tally c = let none = c.none-told.ensures [] in subst IsTally (sym none.tally) IsTally-none

pub add-requires-else-number-len-clause-fits : goal.add-requires-else-number-len-clause-fits
add-requires-else-number-len-clause-fits c =
    let none = c.none-told.ensures [] in
    let same = ap reaches_of none.tally in
    omega (arith, ints, same)

pub add-requires-else-number-len-clause-rows : goal.add-requires-else-number-len-clause-rows
add-requires-else-number-len-clause-rows c =
    let none = c.none-told.ensures [] in
    let same = ap (λ (t : Tally). t.rows) none.tally in
    omega (arith, same)

pub returns-then-number-len : goal.returns-then-number-len
returns-then-number-len c marks is =
    let reaches = c.args.reaches.now in
    let tells = c.args.tells.now.items in
    let mark = c.args.mark.now in
    let number = c.in_ok-number.number in
    let rules = c.in_ok-number.ensures.rules in
    let numbered = c.in_ok-number.ensures.number in
    let within : number < length tells = omega (arith, c.if-number-len.true, c.len.ensures) in
    let known = tell-known reaches c.args.links.now c.push.new.self tells marks mark is rules number numbered within c.index_mut.result.now in
    tell-again reaches c.args.links.now c.push.new.self tells marks mark is rules number numbered within c.add.new.self
    (c.add.ensures (marks_with mark.item.0 marks) (subst (IsTold reaches (marks_with mark.item.0 marks)) (sym c.index_mut.ensures.value) known))

pub returns-in_ok-push : goal.returns-in_ok-push
returns-in_ok-push c marks is =
    let reaches = c.args.reaches.now in
    let tells = c.args.tells.now.items in
    let mark = c.args.mark.now in
    let past : length tells ≤ c.in_ok-number.number = omega (arith, c.if-number-len.false, c.len.ensures) in
    subst (λ ts. AreTold reaches c.push.new.self ts (marks ++ mark ∷ [])) (sym c.in_ok-push.ensures.items)
    (tell-new reaches c.args.links.now c.push.new.self tells marks mark is c.in_ok-number.ensures.rules c.in_ok-number.number
    c.in_ok-number.ensures.number past c.add-else-number-len.new.self (c.add-else-number-len.ensures [] (c.none-told.ensures reaches)))

pub add-requires-clause-rows : goal.add-requires-clause-rows
add-requires-clause-rows c =
    let tells = c.args.tells.now.items in
    let marks = c.requires.0 in
    let mark = c.args.mark.now in
    let number = c.in_ok-number.number in
    let within : number < length tells = omega (arith, c.if-number-len.true, c.len.ensures) in
    let few = tell-rows c.args.reaches.now c.args.links.now c.push.new.self tells marks mark c.requires.1 c.in_ok-number.ensures.rules number
    c.in_ok-number.ensures.number within c.index_mut.result.now c.in_ok-number.ensures.few in
    let same = ap (λ (t : Told). t.tally.rows) c.index_mut.ensures.value in
    omega (arith, few, same)
