use Rattle.std.proofs.Common.{◌≡◌, ◌<◌, ap, sym, ◌∙◌, false, length, get_or, subst, arith, IsSome}
use Rattle.std.proofs.lemmas.Bool.{false≢true}
use Rattle.hu_search.specs.Slots.{IsPlace, SlotsOf}
use Rattle.hu_search.proofs.SlotLemmas.{missing, slots-place}
use Rattle.hu_search.proofs.slots.Slots.find.Goals as goal
use Rattle.hu_totals.specs.Cells.{among}

pub returns-in_err-place : goal.returns-in_err-place
returns-in_err-place c =
    let places = c.self.inside.places.items in
    let past = c.in_err-place.ensures.lookup.3 in
    let size = ap length c.deref.ensures.value in
    let none : among c.args.rank c.args.self.now.ranks ≡ false =
    subst (λ (s : SlotsOf). among c.args.rank s.ranks ≡ false) c.self.view_is
    (missing places c.self.inside.ranks.items c.args.rank c.self.invariant (λ below within here. absurd (omega (arith, past, size, below)))) in
    rw (c.from_residual.ensures) none

pub returns-in-Some : goal.returns-in-Some
returns-in-Some c =
    let places = c.self.inside.places.items in
    let ranks = c.self.inside.ranks.items in
    let place = c.in_ok-place.field-0.now in
    let is : get_or places c.args.rank 0 ≡ place = sym (c.in_ok-place.ensures.lookup.3.1 0 ∙ ap (λ ps. get_or ps c.args.rank 0) c.deref.ensures.value) in
    let here : get_or ranks place 0 ≡ c.args.rank =
    sym (c.in-Some.ensures.lookup.3.1 0 ∙ ap (λ rs. get_or rs place 0) c.deref-2.ensures.value)
    ∙ c.if-found-rank.true in
    let low = c.in-Some.ensures.lookup.3.0 in
    let size = ap length c.deref-2.ensures.value in
    subst (λ (s : SlotsOf). IsPlace s.ranks c.args.rank place) c.self.view_is
    (slots-place places ranks c.args.rank place c.self.invariant is (omega (arith, low, size)) here)

pub returns-in_default : goal.returns-in_default
returns-in_default c =
    let places = c.self.inside.places.items in
    let ranks = c.self.inside.ranks.items in
    let place = c.in_ok-place.field-0.now in
    let is : get_or places c.args.rank 0 ≡ place = sym (c.in_ok-place.ensures.lookup.3.1 0 ∙ ap (λ ps. get_or ps c.args.rank 0) c.deref.ensures.value) in
    let found : get_or ranks place 0 ≡ c.in-Some.found.now = sym (c.in-Some.ensures.lookup.3.1 0 ∙ ap (λ rs. get_or rs place 0) c.deref-2.ensures.value) in
    subst (λ (s : SlotsOf). among c.args.rank s.ranks ≡ false) c.self.view_is
    (missing places ranks c.args.rank c.self.invariant (λ below within here.
    absurd (c.if-found-rank.false (sym found ∙ subst (λ k. get_or ranks k 0 ≡ c.args.rank) is here))))

pub returns-in_default-2 : goal.returns-in_default-2
returns-in_default-2 c =
    let places = c.self.inside.places.items in
    let ranks = c.self.inside.ranks.items in
    let place = c.in_ok-place.field-0.now in
    let is : get_or places c.args.rank 0 ≡ place = sym (c.in_ok-place.ensures.lookup.3.1 0 ∙ ap (λ ps. get_or ps c.args.rank 0) c.deref.ensures.value) in
    let size = ap length c.deref-2.ensures.value in
    subst (λ (s : SlotsOf). among c.args.rank s.ranks ≡ false) c.self.view_is
    (missing places ranks c.args.rank c.self.invariant (λ below within here. let low : place < length ranks =
    subst (λ k. k < length ranks) is within in let some =
    c.get-2.ensures.lookup.2 (omega (arith, low, size)) in false≢true (subst IsSome c.in_default.is some)))
