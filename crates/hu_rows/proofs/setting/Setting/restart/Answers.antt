use Rattle.std.proofs.Common.{◌≡◌, ◌∙◌, ◌<◌, ◌++◌, ℕ, pos, cond, false, get_or, length, sym, ap, subst, arith}
use Rattle.std.specs.List.{AllByRecursion}
use Rattle.hu_rows.specs.Bounds.{AreKept, value_at}
use Rattle.hu_rows.specs.Setting.{SettingOf, IsSetting}
use Rattle.hu_rows.proofs.SettingLemmas.{IsSetting-anew, few-kept}
use Rattle.hu_rows.proofs.setting.Setting.restart.Goals as goal
use Rattle.hu_totals.specs.Cells.{among}

pub mark-requires : goal.mark-requires
mark-requires c =
    let e : length c.args.self.now.values ≡ length c.unset.new.marks.items = sym (ap (λ (s : SettingOf). length s.values) c.self.view_is)
    ∙ sym c.self.invariant.0.marked ∙ sym c.unset.ensures.marked in
    subst (λ n. AllByRecursion (λ (rank : ℕ). rank < n) c.args.keep.now) e c.requires.kept.below

pub invariant_of-self : goal.invariant_of-self
invariant_of-self c =
    let keep = c.args.keep.now in
    let kept = c.self.inside.kept.items in
    let values = c.self.inside.values.items in
    let flags = c.self.inside.marks.items in
    let is_kept : AreKept (length values) keep = subst (λ (s : SettingOf). AreKept (length s.values) keep) (sym c.self.view_is) c.requires.kept in
    let cleared : (rank : ℕ) → value_at c.unset.new.values.items rank ≡ cond (among rank kept) (pos 0) (value_at values rank) =
    λ rank. c.unset.ensures.values rank ∙ ap (λ ks. cond (among rank ks) (pos 0) (value_at values rank)) c.as_slice.ensures.value in
    let unmarked : (rank : ℕ) → get_or c.unset.new.marks.items rank false ≡ cond (among rank kept) false (get_or flags rank false) =
    λ rank. c.unset.ensures.marks rank ∙ ap (λ ks. cond (among rank ks) false (get_or flags rank false)) c.as_slice.ensures.value in
    let anew : IsSetting keep c.unset.new.values.items c.mark.new.marks.items =
    IsSetting-anew kept keep values c.unset.new.values.items flags c.unset.new.marks.items c.mark.new.marks.items c.self.invariant.0 is_kept
    c.unset.ensures.len c.unset.ensures.marked c.mark.ensures.len cleared unmarked c.mark.ensures.marks in
    let now : c.extend_from_slice.new.self.items ≡ keep = c.in-Ok.ensures.items ∙ ap (λ ks. ks ++ keep) c.clear.ensures.items in (
      subst (λ ks. IsSetting ks c.unset.new.values.items c.mark.new.marks.items) (sym now) anew,
      omega (arith, c.unset.ensures.len, c.self.invariant.1, c.clear.ensures.capacity, c.extend_from_slice.ensures.capacity),
    )

pub unreachable-requires : goal.unreachable-requires
unreachable-requires c =
    let e : length c.args.self.now.values ≡ length c.self.inside.values.items = sym (ap (λ (s : SettingOf). length s.values) c.self.view_is) in
    omega (
      arith,
      e,
      few-kept (length c.args.self.now.values) c.args.keep.now c.requires.kept,
      c.self.invariant.1,
      c.clear.ensures.len,
      c.clear.ensures.capacity,
      c.in-Err.ensures.full,
    )
