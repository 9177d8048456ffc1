use Rattle.std.proofs.Common.{ℕ, sym, ◌&&◌}
use Rattle.std.proofs.lemmas.Bool.{not-false, not-true}
use Rattle.hu_kind.specs.declared.item.Item.{Item}
use Rattle.hu_closed.specs.Candidates.{is_tried}
use Rattle.hu_closed.specs.Found.{closes_at}
use Rattle.hu_closed.proofs.Tries.{any_number-at, any_number-more}
use Rattle.hu_closed.proofs.candidates.any_closes.Goals as goal

no_item : Item
no_item = record { 0 = 0 }

pub returns-in_default : goal.returns-in_default
unfolding no_item
returns-in_default c =
    let test = λ (item : ℕ). is_tried c.args.tried.now item && closes_at c.args.found.now c.args.key.now item in
    let closes = not-false _ (sym c.in_default.ensures.value) in
    sym (any_number-at test c.args.items.now c.loop-item.item-index no_item c.loop-item-test.true closes)

pub loop-item-preserved : goal.loop-item-preserved
unfolding no_item
loop-item-preserved c =
    let test = λ (item : ℕ). is_tried c.args.tried.now item && closes_at c.args.found.now c.args.key.now item in
    let fails = not-true _ (sym c.in-Some.ensures.value) in
    record {
      none = any_number-more test c.args.items.now c.loop-item.item-index no_item c.loop-item-test.true c.loop-item.invariant.none fails;
      witness = c.in-Some.ensures.holding;
    }
