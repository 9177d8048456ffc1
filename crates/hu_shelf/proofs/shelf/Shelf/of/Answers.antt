use Rattle.std.proofs.Common.{◌≡◌, ◌<◌, ◌≤◌, ◌^◌, ◌+◌, refl, ap, ◌∙◌, pos, length, arith, rules, to_z, of_z}
use Rattle.std.specs.Int.{w128}
use Rattle.std.proofs.lemmas.Int.{to_z-of_z}
use Rattle.hu_base.specs.Base.{carried_of, records_of}
use Rattle.hu_kept.specs.Kept.{fresh, with_batch}
use Rattle.hu_shelf.specs.Settings.{store_with}
use Rattle.hu_shelf.specs.Shelf.{absolute_sum}
use Rattle.hu_shelf.specs.Store.{IsStore, store_text}
use Rattle.hu_shelf.proofs.ShelfLemmas.{IsStore-by}
use Rattle.hu_shelf.proofs.shelf.Shelf.of.Goals as goal

pub returns-clause-store : goal.returns-clause-store
returns-clause-store c =
    let s = store_with c.args.settings (records_of c.args.base) in
    let least : to_z w128 (of_z w128 c.args.settings.least) ≡ c.args.settings.least = to_z-of_z w128 c.args.settings.least (search rules) in
    let is : c.append.new.self ≡ s =
    c.in-Ok.ensures.ok
    ∙ ap (λ k. with_batch k (records_of c.args.base)) (c.new-kept.ensures ∙ ap (λ z. fresh z c.args.settings.top c.args.settings.closed) least) in
    let fits : absolute_sum (records_of c.args.base) < 2 ^ 127 = omega (arith, c.sum-sum.ensures.fits) in
    let short : length (store_text s) ≤ 268435456 = rw c.requires.text at c.requires.short in
    let store : IsStore s = IsStore-by s c.requires.written c.requires.least c.requires.top fits short in
    rw is store

pub invariant_of-result : goal.invariant_of-result
invariant_of-result c =
    let s = store_with c.args.settings (records_of c.args.base) in
    let least : to_z w128 (of_z w128 c.args.settings.least) ≡ c.args.settings.least = to_z-of_z w128 c.args.settings.least (search rules) in
    let is : c.append.new.self ≡ s =
    c.in-Ok.ensures.ok
    ∙ ap (λ k. with_batch k (records_of c.args.base)) (c.new-kept.ensures ∙ ap (λ z. fresh z c.args.settings.top c.args.settings.closed) least) in
    let fits : absolute_sum (records_of c.args.base) < 2 ^ 127 = omega (arith, c.sum-sum.ensures.fits) in
    let short : length (store_text s) ≤ 268435456 = rw c.requires.text at c.requires.short in
    let store : IsStore s = IsStore-by s c.requires.written c.requires.least c.requires.top fits short in
    let after : to_z w128 (of_z w128 c.sum-sum.result) ≡ c.sum-sum.result = to_z-of_z w128 c.sum-sum.result (search rules) in
    let whole : carried_of c.args.base + absolute_sum (records_of c.args.base) ≡ absolute_sum (records_of c.args.base) = omega (arith, c.requires.carried) in
    rw is (record { store = store; text = c.requires.text; sum = after ∙ c.sum-sum.ensures.value ∙ ap pos whole; closed = refl })
