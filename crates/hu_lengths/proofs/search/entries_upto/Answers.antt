use Rattle.std.proofs.Common.{◌≡◌, None, to_z, of_z, sym, ap, ◌∙◌}
use Rattle.std.specs.Int.{w128}
use Rattle.std.proofs.lemmas.Int.{to_z-of_z}
use Rattle.hu_kind.specs.Itemsets.{item_patterns}
use Rattle.hu_totals.specs.Ranked.{unranked}
use Rattle.hu_collect.specs.State.{State, fresh, offered}
use Rattle.hu_lengths.specs.LengthsOnly.{sized_state}
use Rattle.hu_lengths.proofs.OfferLemmas.{if_ok-as}
use Rattle.hu_lengths.proofs.lemmas.SizedLemmas.{sized-answer}
use Rattle.hu_lengths.proofs.search.entries_upto.Goals as goal

pub returns : goal.returns
returns c =
    let same : to_z w128 (of_z w128 c.args.floor) ≡ c.args.floor = to_z-of_z w128 c.args.floor c.ranges.floor in
    let patterns = item_patterns (unranked c.args.ranked.now) in
    if_ok-as c.into_entries.result _ _
    (λ entries held. held
    ∙ sym (ap (λ (s : State). s.content) c.into_inner.ensures.state)
    ∙ ap (λ (s : State). s.content) c.in_ok-mine_sized.ensures
    ∙ ap (λ (s : State). (offered s patterns).content) (c.around-collect.ensures.state ∙ ap (sized_state 0 c.args.long)
    (c.new.ensures ∙ ap (λ z. fresh z None) same))
    ∙ sized-answer (unranked c.args.ranked.now) c.args.floor None 0 c.args.long)
    c.into_entries.ensures
