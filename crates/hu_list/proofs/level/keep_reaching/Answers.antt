use Rattle.std.proofs.Common.{◌≡◌, ◌<◌, ◌≤◌, pos, get_or, length, [], sym, ap, ◌∙◌, subst, arith, MatchOption, cond, ◌++◌, ◌∷◌, inl, inr, to_z, of_z}
use Rattle.std.specs.Int.{w128}
use Rattle.std.specs.Prelude.{⊤}
use Rattle.std.proofs.lemmas.Int.{ints}
use Rattle.std.proofs.lemmas.Bool.{false≢true}
use Rattle.std.proofs.lemmas.List.{take_all}
use Rattle.hu_kind.proofs.lemmas.Each.{each-get}
use Rattle.hu_totals.specs.Cells.{among}
use Rattle.hu_search.specs.Slots.{at}
use Rattle.hu_list.specs.Level.{AreKept, IsRefused}
use Rattle.hu_list.proofs.LeftLemmas.{value-at, kept-fresh, before-more, kept-more, kept-none}
use Rattle.hu_list.proofs.level.keep_reaching.Goals as goal

pub loop-slot-init : goal.loop-slot-init
loop-slot-init g c =
    let none = c.clear.ensures.none in
    let floor = to_z w128 (of_z w128 c.args.floor) in
    record {
      room = c.clear.ensures.room;
      before = λ z m. absurd (false≢true (ap (among z) (sym none) ∙ m));
      kept = subst (AreKept (g.G.Gate.IsRightFor c.args.gate.now) (g.G.Gate.floor c.args.gate.now) floor c.args.last
          (at (pos 0) c.args.found.now.ranks c.args.gains.now) []) (sym none)
          (kept-none (g.G.Gate.IsRightFor c.args.gate.now) (g.G.Gate.floor c.args.gate.now) floor c.args.last
          (at (pos 0) c.args.found.now.ranks c.args.gains.now));
    }

pub stays-stays-requires : goal.stays-stays-requires
stays-stays-requires g c =
    let ranks = c.args.found.now.ranks in
    let gains = c.args.gains.now in
    let i = c.loop-slot.slot in
    let is = c.ranks-ranks.ensures.ranks in
    let within : i < length ranks = subst (λ rs. i < length rs) is c.loop-slot-test.true in
    let here = value-at ranks gains i c.ranks-ranks.ensures.once within c.requires.len in
    let same : get_or c.ranks-ranks.result.now i 0 ≡ get_or ranks i 0 = ap (λ rs. get_or rs i 0) is in
    record {
      later = λ high. subst (λ z. MatchOption c.args.last ⊤ (λ a. a < z)) (sym same)
          (c.requires.later (get_or ranks i 0) (omega (arith, ints, here, high, c.requires.least)));
    }

pub push_if-requires-clause-within : goal.push_if-requires-clause-within
push_if-requires-clause-within g c =
    let ranks = c.args.found.now.ranks in
    let i = c.loop-slot.slot in
    let is = c.ranks-ranks.ensures.ranks in
    let within : i < length ranks = subst (λ rs. i < length rs) is c.loop-slot-test.true in
    let same : get_or c.ranks-ranks.result.now i 0 ≡ get_or ranks i 0 = ap (λ rs. get_or rs i 0) is in
    let room = c.args.found.now.room in
    let low : get_or ranks i 0 < room = each-get (λ rank. rank < room) ranks i 0 c.ranks-ranks.ensures.within within in
    omega (arith, same, low, c.loop-slot.invariant.room, c.requires.room)

pub push_if-requires-clause-fresh : goal.push_if-requires-clause-fresh
push_if-requires-clause-fresh g c =
    let ranks = c.args.found.now.ranks in
    let i = c.loop-slot.slot in
    let is = c.ranks-ranks.ensures.ranks in
    let within : i < length ranks = subst (λ rs. i < length rs) is c.loop-slot-test.true in
    ap (λ rs. among (get_or rs i 0) c.loop-slot.kept.ranks) is
    ∙ kept-fresh ranks c.loop-slot.kept.ranks i c.ranks-ranks.ensures.once within c.loop-slot.invariant.before

pub returns-in_err-push_if-clause-room : goal.returns-in_err-push_if-clause-room
returns-in_err-push_if-clause-room g c = c.in_err-push_if.ensures.room ∙ c.loop-slot.invariant.room

pub loop-slot-preserved : goal.loop-slot-preserved
loop-slot-preserved g c =
    let Right = g.G.Gate.IsRightFor c.args.gate.now in
    let gate = g.G.Gate.floor c.args.gate.now in
    let ranks = c.args.found.now.ranks in
    let gains = c.args.gains.now in
    let i = c.loop-slot.slot in
    let is = c.ranks-ranks.ensures.ranks in
    let within : i < length ranks = subst (λ rs. i < length rs) is c.loop-slot-test.true in
    let here = value-at ranks gains i c.ranks-ranks.ensures.once within c.requires.len in
    let same : get_or c.ranks-ranks.result.now i 0 ≡ get_or ranks i 0 = ap (λ rs. get_or rs i 0) is in
    let pushed : c.push_if.new.slots.ranks ≡ c.loop-slot.kept.ranks ++ cond c.stays-stays.result (get_or ranks i 0 ∷ []) [] =
    c.in_ok-push_if.ensures.ranks ∙ ap (λ r. c.loop-slot.kept.ranks ++ cond c.stays-stays.result (r ∷ []) []) same in
    record {
      room = c.in_ok-push_if.ensures.room ∙ c.loop-slot.invariant.room;
      before = before-more ranks c.loop-slot.kept.ranks c.push_if.new.slots.ranks i c.stays-stays.result within pushed c.loop-slot.invariant.before;
      kept = kept-more ranks c.loop-slot.kept.ranks c.push_if.new.slots.ranks i c.stays-stays.result within pushed Right
          gate (to_z w128 (of_z w128 c.args.floor)) c.args.last (at (pos 0) ranks gains) c.loop-slot.invariant.kept
          (λ stays. let high = c.stays-stays.ensures.yes stays in omega (arith, ints, here, high))
          (λ goes. elim (c.stays-stays.ensures.no goes) [
            | inl under ↦ inl (omega (arith, ints, here, under))
            | inr barred ↦ inr (subst (IsRefused Right gate c.args.last) same barred)
          ]);
    }

pub returns-clause-room : goal.returns-clause-room
returns-clause-room g c = c.loop-slot.invariant.room

pub returns-clause-kept : goal.returns-clause-kept
returns-clause-kept g c =
    let ranks = c.args.found.now.ranks in
    let past : length ranks ≤ c.loop-slot.slot = subst (λ rs. length rs ≤ c.loop-slot.slot) c.ranks-ranks.ensures.ranks c.loop-slot-test.false in
    let same : to_z w128 (of_z w128 c.args.floor) ≡ c.args.floor = omega (arith, ints, c.ranges.floor.sfits) in
    let Right = g.G.Gate.IsRightFor c.args.gate.now in
    let gate = g.G.Gate.floor c.args.gate.now in
    let all = subst (λ rs. AreKept Right gate (to_z w128 (of_z w128 c.args.floor)) c.args.last (at (pos 0) ranks c.args.gains.now) rs c.loop-slot.kept.ranks)
    (take_all c.loop-slot.slot ranks past) c.loop-slot.invariant.kept in
    subst (λ floor. AreKept Right gate floor c.args.last (at (pos 0) ranks c.args.gains.now) ranks c.loop-slot.kept.ranks) same all
