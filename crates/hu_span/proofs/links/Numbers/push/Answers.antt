use Rattle.std.proofs.Common.{◌≡◌, ◌∙◌, ◌++◌, ◌∷◌, [], ◌<◌, ◌%◌, length, set, ap, arith}
use Rattle.hu_span.proofs.LinkLemmas.{at-any, numbers-more}
use Rattle.hu_span.proofs.links.Numbers.push.Goals as goal

pub returns-clause-rules : goal.returns-clause-rules
returns-clause-rules c =
    let old = c.args.self.now in
    let b = c.bucket_of-bucket.result in
    let within = c.bucket_of-bucket.ensures.within in
    let room : c.len.result ≡ length old.heads.items = omega (arith, c.len.ensures) in
    let inside : b < length old.heads.items = omega (arith, room, within) in
    let size : c.len-2.result ≡ length c.push-2.new.self.items = omega (arith, c.len-2.ensures) in
    numbers-more old _ c.args.item b c.requires (c.bucket_of-bucket.ensures.is ∙ ap (λ n. c.args.item % n) room) inside
    (ap (set old.heads.items b) size) c.in_ok-push-2.ensures.items
    (c.in_ok-push.ensures.items ∙ ap (λ k. old.olders.items ++ k ∷ []) (c.index.ensures ∙ at-any old.heads.items b c.index.result.now inside))
