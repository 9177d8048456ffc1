use Rattle.std.proofs.Common.{◌≡◌, ◌∙◌, ◌<◌, ◌++◌, ◌∷◌, [], length, get_or, set, ap, sym, rules}
use Rattle.std.proofs.lemmas.List.{map-append}
use Rattle.hu_raise.specs.Rests.{list_at}
use Rattle.hu_raise.specs.View.{rest_of, rests_of, waiting_in}
use Rattle.hu_kind.proofs.lemmas.Each.{each-get}
use Rattle.hu_raise.proofs.RestLemmas.{handed_to-first}
use Rattle.hu_raise.proofs.VectorLemmas.{rests-at, waiting-set}
use Rattle.hu_raise.proofs.rests.hand.Goals as goal

pub returns-in_ok-push : goal.returns-in_ok-push
returns-in_ok-push c =
    let lists = c.args.waiting.now.items in
    let rest = c.args.rest in
    let ranks = rest.ranks.now in
    let old = c.index_mut.result.now in
    let new = c.push.new.self in
    let some : 0 < length ranks = search rules in
    let rank = get_or ranks 0 0 in
    let within : rank < length lists = each-get (λ r. r < length lists) ranks 0 0 c.requires some in
    let pushed : rests_of new.items ≡ list_at (waiting_in lists) rank ++ rest_of rest ∷ [] =
    ap rests_of c.in_ok-push.ensures.items ∙ map-append rest_of old.items (rest ∷ [])
    ∙ ap (λ rs. rs ++ rest_of rest ∷ []) (rests-at lists rank old within c.index_mut.ensures.value) in
    waiting-set lists rank new ∙ ap (set (waiting_in lists) rank) pushed ∙ sym (handed_to-first ranks (waiting_in lists) (rest_of rest) some)
