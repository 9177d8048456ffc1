use Rattle.std.proofs.Common.{◌<◌, ◌∙◌, ap, sym, length, [], arith}
use Rattle.std.specs.declared.vec.Vec.{Vec}
use Rattle.std.specs.declared.alloc.Global.{Global}
use Rattle.std.specs.List.{list_any}
use Rattle.std.proofs.lemmas.List.{get_or-map, length-map}
use Rattle.std.proofs.lemmas.List.Folds.{list_any_at}
use Rattle.hu_kind.specs.declared.item.Item.{Item}
use Rattle.hu_totals.specs.Weights.{numbers_of}
use Rattle.hu_closed.specs.Keys.{is_outside}
use Rattle.hu_closed.specs.Holders.{lists_of}
use Rattle.hu_closed.proofs.candidates.any_outside.Goals as goal

pub returns-then-has_outside : goal.returns-then-has_outside
returns-then-has_outside c =
    let lists = c.args.lists.now in
    let i = c.loop-items.items-index in
    let one = c.items-item.result in
    let within : i < length (lists_of lists) = omega (arith, c.loop-items-test.true, length-map lists (λ (items : Vec Item Global). numbers_of items.items)) in
    let at = get_or-map (λ (items : Vec Item Global). numbers_of items.items) lists i one [] c.loop-items-test.true in
    let value = ap numbers_of (c.deref.ensures.value ∙ ap (λ (items : Vec Item Global). items.items) c.items-item.is) in
    let test = list_any (is_outside c.args.key.now) in
    sym (list_any_at test (lists_of lists) i [] within (ap test (at ∙ sym value) ∙ sym c.has_outside.ensures ∙ c.if-has_outside.true))
