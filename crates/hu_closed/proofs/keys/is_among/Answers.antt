use Rattle.std.proofs.Common.{rules, ◌≡◌, ◌∙◌, ap, pos, ◌^◌, ℤ, ◌<ℤ◌, ◌≤ℤ◌, ◌<◌, ◌≤◌, length, get_or, sym, subst, arith, of_z, eqb}
use Rattle.std.specs.Int.{w64}
use Rattle.std.specs.Ordering.{int_eq}
use Rattle.std.specs.List.Sorted.{IsPartitionPoint}
use Rattle.std.proofs.lemmas.Int.{ints, to_z-of_z}
use Rattle.hu_kind.specs.declared.item.Item.{Item}
use Rattle.hu_closed.proofs.Numbers.{same_number, is_among-parted, is_among-past}
use Rattle.hu_closed.proofs.keys.is_among.Goals as goal

pub returns-in-Some : goal.returns-in-Some
returns-in-Some c =
    let items = c.args.items.now in
    let m = c.in-Some.item.now.0 in
    let parts =
    subst (λ (z : ℤ). IsPartitionPoint (λ (item : Item). pos item.0 <ℤ z)
    (λ (item : Item). z ≤ℤ pos item.0) items c.place_of.result)
    (to_z-of_z w64 c.args.number c.ranges.number) c.place_of.ensures in
    let looked = c.in-Some.ensures.lookup in
    let within : c.place_of.result < length items = search rules in
    let at : (get_or items c.place_of.result c.in-Some.item.now).0 ≡ m = search rules in
    let small : m < 2 ^ 63 = let e = c.from.ensures in let h = c.from.type_inv in omega (arith, ints) in
    let bits = ap (λ (z : ℤ). eqb (of_z w64 z) (of_z w64 c.args.number)) c.from.ensures in
    bits ∙ same_number m c.args.number small c.ranges.number
    ∙ sym (is_among-parted items c.args.number c.place_of.result c.in-Some.item.now c.requires parts within
    ∙ ap (λ n. int_eq c.args.number (pos n)) at)

pub returns-in-None : goal.returns-in-None
returns-in-None c =
    let parts =
    subst (λ (z : ℤ). IsPartitionPoint (λ (item : Item). pos item.0 <ℤ z)
    (λ (item : Item). z ≤ℤ pos item.0) c.args.items.now c.place_of.result)
    (to_z-of_z w64 c.args.number c.ranges.number) c.place_of.ensures in
    let looked = c.in-None.ensures.lookup in
    let past : length c.args.items.now ≤ c.place_of.result = search rules in
    sym (is_among-past c.args.items.now c.args.number c.place_of.result parts past)
