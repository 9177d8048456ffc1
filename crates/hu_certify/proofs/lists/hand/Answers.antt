use Rattle.std.proofs.Common.{◌≡◌, ◌<◌, ◌++◌, ◌∷◌, [], true, cond, int_le, length, sym, ap, ◌∙◌, arith, rules, FitsSigned}
use Rattle.std.specs.Int.{w128}
use Rattle.std.specs.declared.vec.Vec.{Vec}
use Rattle.std.specs.declared.alloc.Global.{Global}
use Rattle.std.proofs.lemmas.Int.{to_z-of_z}
use Rattle.std.proofs.lemmas.List.{map-append}
use Rattle.hu_certify.specs.declared.place.Place.{Place}
use Rattle.hu_certify.specs.Slots.{kept, list_at, slot_of}
use Rattle.hu_certify.specs.Spots.{spot_of, spots_of}
use Rattle.hu_certify.proofs.ListLemmas.{list-here, list-pushed}
use Rattle.hu_certify.proofs.lists.hand.Goals as goal

pub returns-in_ok-push-clause-lists : goal.returns-in_ok-push-clause-lists
returns-in_ok-push-clause-lists c z =
    let lists = c.args.lists.now.items in
    let slots = c.args.slots.now in
    let rank = c.args.rank in
    let one = spot_of c.args.place in
    let old = c.index_mut.result.now in
    let within : rank < length lists = omega (arith, c.requires.within, c.requires.length) in
    let here : list_at lists rank ≡ spots_of old.items = list-here lists rank old within
    ∙ ap (λ (list : Vec Place Global). spots_of list.items) (sym c.index_mut.ensures.value) in
    let bound = (slot_of slots rank).bound in
    let fits : FitsSigned w128 bound = search rules in
    let opens : int_le c.args.least bound ≡ true =
    sym (λ j. int_le (to_z-of_z w128 c.args.least c.ranges.least j) (to_z-of_z w128 bound fits j)) ∙ c.if-slots-rank.true in
    let pushed : spots_of c.push.new.self.items ≡ list_at lists rank ++ kept c.args.least slots rank (one ∷ []) =
    ap spots_of c.in_ok-push.ensures.items ∙ map-append spot_of old.items (c.args.place ∷ []) ∙ ap (λ spots. spots ++ one ∷ []) (sym here)
    ∙ ap (λ b. list_at lists rank ++ cond b (one ∷ []) []) (sym opens) in
    list-pushed lists rank c.push.new.self (λ k. kept c.args.least slots k (one ∷ [])) within pushed z
