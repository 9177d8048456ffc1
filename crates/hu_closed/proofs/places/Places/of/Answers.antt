use Rattle.std.proofs.Common.{◌≡◌, ◌∙◌, ℕ, ℤ, None, Some, [], ap, subst, sym}
use Rattle.std.specs.Int.{w64}
use Rattle.std.specs.Map.{lookup}
use Rattle.std.specs.Option.{option_map_or}
use Rattle.std.specs.Ordering.{int_eq}
use Rattle.std.specs.declared.vec.Vec.{Vec}
use Rattle.std.specs.declared.alloc.Global.{Global}
use Rattle.std.proofs.lemmas.Int.{to_z-of_z}
use Rattle.hu_closed.specs.Places.{places_at}
use Rattle.hu_closed.proofs.lemmas.PlaceLists.{places_at-in}
use Rattle.hu_closed.proofs.places.Places.of.Goals as goal

pub returns-in-Some : goal.returns-in-Some
returns-in-Some c =
    let entries = c.self.inside.lists.entries in
    let sent = to_z-of_z w64 c.args.number c.ranges.number in
    let at = subst (λ (z : ℤ). Some c.in-Some.list.now ≡ lookup (int_eq z) entries) sent c.in-Some.ensures.value in
    c.as_slice.ensures.value
    ∙ ap (λ o. option_map_or (λ (v : Vec ℕ Global). v.items) o []) at
    ∙ sym (places_at-in entries c.args.number)
    ∙ ap (λ lists. places_at lists c.args.number) c.self.view_is

pub returns-in-None : goal.returns-in-None
returns-in-None c =
    let entries = c.self.inside.lists.entries in
    let sent = to_z-of_z w64 c.args.number c.ranges.number in
    let none = subst (λ (z : ℤ). None ≡ lookup (int_eq z) entries) sent c.in-None.ensures.value in
    ap (λ o. option_map_or (λ (v : Vec ℕ Global). v.items) o []) none
    ∙ sym (places_at-in entries c.args.number)
    ∙ ap (λ lists. places_at lists c.args.number) c.self.view_is
