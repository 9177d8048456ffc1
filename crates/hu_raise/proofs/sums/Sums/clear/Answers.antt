use Rattle.std.proofs.Common.{◌≡◌, [], ◌<◌, ◌∙◌, ℕ, pos, nat_eq, cond, length, drop, replicate, ap, sym, subst, arith}
use Rattle.std.specs.List.{All, list_any}
use Rattle.std.proofs.lemmas.List.{take_at}
use Rattle.hu_raise.specs.Sums.{AreSums, sum_at}
use Rattle.hu_raise.proofs.SumLemmas.{All-listed_below, AreSums-replicate, replicate-cleared}
use Rattle.hu_raise.proofs.sums.Sums.clear.Goals as goal

pub set_to_0-requires : goal.set_to_0-requires
set_to_0-requires c =
    subst (λ sums. All (λ rank. rank < length sums) c.deref.result.now) (sym c.deref_mut.ensures.value)
    (subst (All (λ rank. rank < length c.self.inside.sums.items)) (sym c.deref.ensures.value)
    (All-listed_below c.self.inside.sums.items c.self.inside.touched.items c.self.invariant))

pub returns : goal.returns
returns c =
    let sums = c.self.inside.sums.items in
    let touched = c.self.inside.touched.items in
    let cleared = c.set_to_0.new.sums in
    let long : length cleared ≡ length sums = omega (arith, ap length c.deref_mut.ensures.value, c.set_to_0.auto.sums) in
    let is : (rank : ℕ) → sum_at cleared rank ≡ cond (list_any (nat_eq rank) touched) (pos 0) (sum_at sums rank) =
    λ rank. c.set_to_0.ensures rank ∙ (λ j. cond (list_any (nat_eq rank) (c.deref.ensures.value j)) (pos 0) (sum_at (c.deref_mut.ensures.value j) rank)) in
    take_at cleared (drop (length cleared) sums) c.self.inside.sums.len (omega (arith, c.self.inside.sums.ok.0))
    ∙ replicate-cleared sums cleared touched c.self.invariant long is
    ∙ ap (λ all. replicate (length all) (pos 0)) c.self.view_is

pub invariant_of-self : goal.invariant_of-self
invariant_of-self c =
    subst (AreSums _) (sym c.clear.ensures.items) (subst (λ sums. AreSums sums []) (sym (returns c)) (AreSums-replicate (length c.args.self.now)))
