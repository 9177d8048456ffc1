use Rattle.std.proofs.Common.{◌<◌, pos, length, get_or, ap, rules, to_z, of_z, FitsSigned}
use Rattle.std.specs.Int.{w128}
use Rattle.std.proofs.lemmas.Int.{to_z-of_z}
use Rattle.hu_kind.specs.declared.item.Item.{Item}
use Rattle.hu_kind.proofs.lemmas.Each.{each-get}
use Rattle.hu_certify.specs.declared.slots.Child.{Child}
use Rattle.hu_certify.specs.Text.{token_text}
use Rattle.hu_certify.proofs.TextLemmas.{token-pushed}
use Rattle.hu_certify.proofs.text.push_tokens.Goals as goal

pub loop-at-preserved : goal.loop-at-preserved
loop-at-preserved c =
    let none : Child = record { rank = 0; bound = pos 0 } in
    let gone : Item = record { 0 = 0 } in
    let items = c.args.items.now in
    let children = c.args.children.now in
    let child = get_or children c.loop-at.at none in
    let fits : FitsSigned w128 child.bound = search rules in
    let within = each-get (λ (one : Child). one.rank < length items) children c.loop-at.at none c.requires c.loop-at-test.true in
    token-pushed _ items children c.loop-at.at none gone _ _ _ _ _ c.loop-at-test.true within c.loop-at.invariant c.in_ok-push_gap.ensures
    c.in_ok-push_token.ensures
    (ap (λ b. token_text (to_z w128 (of_z w128 c.args.least)) ((get_or items child.rank gone).0, b)) (to_z-of_z w128 child.bound fits))
