use Rattle.std.proofs.Common.{◌≡◌, ◌∙◌, ◌++◌, ◌∷◌, [], ◌<◌, length, set, refl, ap, arith}
use Rattle.hu_span.proofs.LinkLemmas.{at-any, links-again, links-new}
use Rattle.hu_span.proofs.links.Links.push.Goals as goal

pub returns-in_ok-push-in-Some-clause-rules : goal.returns-in_ok-push-in-Some-clause-rules
returns-in_ok-push-in-Some-clause-rules c keys is =
    let old = c.args.self.now in
    let number = c.in-Some.number in
    let here = c.in-Some.ensures in
    let inside : number < length old.lasts.items = omega (arith, here.within, is.size) in
    let size : c.len.result ≡ length c.push.new.self.items = omega (arith, c.len.ensures) in
    links-again old _ keys c.args.item number is here refl
    (c.in_ok-push-in-Some.ensures.items ∙ ap (λ k. old.olders.items ++ k ∷ []) (c.index.ensures ∙ at-any old.lasts.items number c.index.result.now inside))
    (ap (set old.lasts.items number) size)

pub returns-in_ok-push-in-None-3-clause-rules : goal.returns-in_ok-push-in-None-3-clause-rules
returns-in_ok-push-in-None-3-clause-rules c keys is =
    let old = c.args.self.now in
    let size : c.len-in-None.result ≡ length c.push-in-None-2.new.self.items = omega (arith, c.len-in-None.ensures) in
    links-new old _ keys c.args.item is c.in-None.ensures c.in_ok-push-in-None.ensures.rules c.in_ok-push-in-None.ensures.items
    c.in_ok-push-in-None-2.ensures.items
    (c.in_ok-push-in-None-3.ensures.items ∙ ap (λ n. old.lasts.items ++ n ∷ []) size)
