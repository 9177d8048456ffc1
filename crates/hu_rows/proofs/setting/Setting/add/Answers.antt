use Rattle.std.proofs.Common.{◌≡◌, ◌∙◌, ◌<◌, ◌+◌, ◌^◌, ◌&&◌, eqb, cond, ℕ, ℤ, pos, ◌+ℤ◌, unsigned_abs, true, to_z, of_z, set, length, sym, ap, subst, arith}
use Rattle.std.specs.Int.{w128}
use Rattle.std.proofs.lemmas.Int.{ints}
use Rattle.std.proofs.lemmas.List.{length-set, get_or_read}
use Rattle.hu_rows.specs.Bounds.{value_at}
use Rattle.hu_rows.specs.Setting.{SettingOf}
use Rattle.hu_rows.proofs.SettingLemmas.{IsSetting-set, value_at-set, value_at-out, among-below}
use Rattle.hu_rows.proofs.setting.Setting.add.Goals as goal
use Rattle.hu_totals.specs.Cells.{among}

pub invariant_of-self : goal.invariant_of-self
invariant_of-self c =
    let m : among c.args.rank c.self.inside.kept.items ≡ true = ap (λ (s : SettingOf). among c.args.rank s.kept) c.self.view_is ∙ sym c.is_kept.ensures
    ∙ c.if-is_kept.true in
    (IsSetting-set _ _ _ _ _ c.self.invariant.0 m, omega (arith, length-set {A = ℤ}, c.self.invariant.1))

pub returns-then-is_kept-clause-value : goal.returns-then-is_kept-clause-value
returns-then-is_kept-clause-value c =
    let kept = c.self.inside.kept.items in
    let values = c.self.inside.values.items in
    let rank = c.args.rank in
    let share = c.args.share in
    let m : among rank kept ≡ true = ap (λ (s : SettingOf). among rank s.kept) c.self.view_is ∙ sym c.is_kept.ensures ∙ c.if-is_kept.true in
    let within = among-below (length values) rank kept c.self.invariant.0.below m in
    let read : c.index_mut.result.now ≡ value_at values rank = get_or_read values rank c.index_mut.result.now within c.index_mut.ensures.value (pos 0) in
    let fits : unsigned_abs (value_at values rank) + unsigned_abs share < 2 ^ 127 =
    subst (λ (s : SettingOf). unsigned_abs (value_at s.values rank) + unsigned_abs share < 2 ^ 127) (sym c.self.view_is) c.requires in
    let v = to_z w128 (of_z w128 (to_z w128 (of_z w128 c.index_mut.result.now) +ℤ to_z w128 (of_z w128 share))) in
    let worth : v ≡ value_at values rank +ℤ share = omega (arith, ints, read, fits) in
    subst (λ (s : SettingOf). (other : ℕ) → value_at (set values rank v) other
    ≡ value_at s.values other +ℤ cond (among other s.kept && eqb other rank) share (pos 0)) c.self.view_is
    (value_at-set kept values c.self.inside.marks.items rank v share c.self.invariant.0 m worth)

pub returns-else-is_kept-clause-value : goal.returns-else-is_kept-clause-value
returns-else-is_kept-clause-value c =
    value_at-out c.args.self.now.kept c.args.self.now.values c.args.rank c.args.share (sym c.is_kept.ensures ∙ c.if-is_kept.false)
