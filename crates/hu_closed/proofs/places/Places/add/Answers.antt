use Rattle.std.proofs.Common.{rules, ◌≡◌, ◌∙◌, ℤ, None, Some, ap, subst, sym}
use Rattle.std.specs.Int.{w64}
use Rattle.std.specs.Map.{lookup, set_value}
use Rattle.std.specs.Ordering.{int_eq}
use Rattle.std.proofs.lemmas.Int.{to_z-of_z}
use Rattle.indexmap.specs.IndexMap.{insert_entry}
use Rattle.hu_collect.proofs.lemmas.Searching.{on_err}
use Rattle.hu_closed.specs.Places.{lists_in, with_place}
use Rattle.hu_closed.proofs.lemmas.PlaceLists.{lists_in-kept, with_place-insert, with_place-set}
use Rattle.hu_closed.proofs.places.Places.add.Goals as goal

pub returns-in_err-push-clause-err : goal.returns-in_err-push-clause-err
returns-in_err-push-clause-err c =
    let entries = c.self.inside.lists.entries in
    let list = c.push.new.self in
    let sent = to_z-of_z w64 c.args.number c.ranges.number in
    let at = subst (λ (z : ℤ). Some c.in-Some.list.now ≡ lookup (int_eq z) entries) sent c.in-Some.ensures.value in
    let wrote = subst (λ (z : ℤ). (c.get_mut.follows.lender list).entries ≡ set_value (int_eq z) entries list) sent (c.get_mut.follows.holds list).0 in
    let kept = ap lists_in wrote ∙ lists_in-kept entries c.args.number c.in-Some.list.now list (sym at) c.in_err-push.ensures.items ∙ c.self.view_is in
    on_err c.from_residual.result _ kept

pub returns-in-Some-clause-ok : goal.returns-in-Some-clause-ok
returns-in-Some-clause-ok c =
    let entries = c.self.inside.lists.entries in
    let list = c.push.new.self in
    let sent = to_z-of_z w64 c.args.number c.ranges.number in
    let at = subst (λ (z : ℤ). Some c.in-Some.list.now ≡ lookup (int_eq z) entries) sent c.in-Some.ensures.value in
    let wrote = subst (λ (z : ℤ). (c.get_mut.follows.lender list).entries ≡ set_value (int_eq z) entries list) sent (c.get_mut.follows.holds list).0 in
    ap lists_in wrote
    ∙ with_place-set entries c.args.number c.args.place c.in-Some.list.now list (sym at) c.in_ok-push.ensures.items
    ∙ ap (λ lists. with_place lists c.args.number c.args.place) c.self.view_is

pub returns-clause-ok : goal.returns-clause-ok
returns-clause-ok c =
    let entries = c.self.inside.lists.entries in
    let list = c.in_ok-vec.field-0 in
    let sent = to_z-of_z w64 c.args.number c.ranges.number in
    let none = subst (λ (z : ℤ). None ≡ lookup (int_eq z) entries) sent c.in_default.ensures.value in
    let same : c.get_mut.follows.lender-at-none.entries ≡ entries = search rules in
    let inserted =
    subst (λ (z : ℤ). c.insert.new.self.entries ≡ insert_entry int_eq c.get_mut.follows.lender-at-none.entries z list) sent
    c.in_ok-insert.ensures.entries ∙ ap (λ es. insert_entry int_eq es c.args.number list) same in
    ap lists_in inserted
    ∙ with_place-insert entries c.args.number c.args.place list (sym none) c.in_ok-vec.ensures.items
    ∙ ap (λ lists. with_place lists c.args.number c.args.place) c.self.view_is
