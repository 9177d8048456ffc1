use Rattle.std.proofs.Common.{rules, pos, ap, ◌≡◌, ◌∙◌, ◌∷◌, [], ◌++◌, ◌<◌, inl, inr, get_or, length, take, subst, sym, arith, Contains, SFits}
use Rattle.std.specs.Int.{w64}
use Rattle.std.proofs.lemmas.Int.{to_z-of_z}
use Rattle.std.proofs.lemmas.List.{take_all, take_more}
use Rattle.hu_kind.proofs.lemmas.Members.{Member, Member-append_cases}
use Rattle.hu_closed.specs.Places.{places_at}
use Rattle.hu_kept.specs.Shared.{batch_items}
use Rattle.hu_kept.proofs.HolderLemmas.{more-kept, more-own}
use Rattle.hu_kept.proofs.SharedRecords.{occurs-member}
use Rattle.hu_kept.proofs.holders.held_places.Goals as goal

pub loop-index-preserved : goal.loop-index-preserved
loop-index-preserved c place item m held =
    let items = batch_items c.args.batch.now in
    let i = c.loop-index.index in
    let list = places_at c.args.listed.now (pos c.item.result.0) in
    let old = c.loop-index.places.items in
    let new = c.extend_from_slice.new.self.items in
    let fits : SFits w64 c.from.result = search rules in
    let sent = to_z-of_z w64 c.from.result fits ∙ c.from.ensures in
    let grown : new ≡ old ++ c.of.result.now = search rules in
    let is : new ≡ old ++ list = grown ∙ ap (λ more. old ++ more) (c.of.ensures ∙ ap (places_at c.args.listed.now) sent) in
    let within : i < length items = omega (arith, c.loop-index-test.true, c.len-index-end.ensures) in
    let here : get_or items i 0 ≡ c.item.result.0 = sym c.item.ensures in
    elim (Member-append_cases item (take i items) (get_or items i 0 ∷ []) (subst (Member item) (take_more items i 0 within) m)) [
      | inl before ↦ more-kept old new list is place (c.loop-index.invariant place item before held)
      | inr (inl e) ↦
          more-own old new list is place
          (subst (λ j. Contains (places_at c.args.listed.now (pos j)) place) (sym e ∙ here) held)
      | inr (inr none) ↦ absurd none
    ]

pub returns : goal.returns
returns c place item occurs held =
    let items = batch_items c.args.batch.now in
    let all : take c.loop-index.index items ≡ items = take_all c.loop-index.index items (omega (arith, c.loop-index-test.false, c.len-index-end.ensures)) in
    c.loop-index.invariant place item (subst (Member item) (sym all) (occurs-member c.args.batch.now item occurs)) held
