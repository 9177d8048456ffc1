use Rattle.std.proofs.Common.{◌≡◌, ◌∙◌, ap, sym, subst, false, int_le, ◌*ℤ◌, pos, rules, SFits}
use Rattle.std.specs.Int.{w128}
use Rattle.std.proofs.lemmas.Int.{to_z-of_z}
use Rattle.hu_kind.specs.declared.entry.Entry.{Entry}
use Rattle.hu_average.specs.Order.{Average}
use Rattle.hu_average.specs.Best.{BestOf, IsLeftOut, IsAtMost}
use Rattle.hu_average.proofs.BestLemmas.{best_with}
use Rattle.hu_average.proofs.CoverLemmas.{low-left_out, past-left_out}
use Rattle.hu_average.proofs.best.Best.leaves_out.Goals as goal

pub returns-then-not-reaches-clause-out : goal.returns-then-not-reaches-clause-out
returns-then-not-reaches-clause-out c h =
    let s = c.self.inside in
    let average : Average = (c.args.average.utility, c.args.average.count) in
    let fits : SFits w128 s.least = search rules in
    let low : int_le (s.least *ℤ pos c.args.average.count) c.args.average.utility ≡ false =
    ap (λ z. int_le (z *ℤ pos c.args.average.count) c.args.average.utility) (sym (to_z-of_z w128 s.least fits)) ∙ sym c.reaches.ensures ∙ (search rules) in
    subst (λ (b : BestOf). (e : Entry) → IsAtMost average e → IsLeftOut b e) c.self.view_is
    (low-left_out (best_with s.least s.top s.entries.keys) average c.requires.some low)

pub returns-else-not-reaches-clause-out : goal.returns-else-not-reaches-clause-out
returns-else-not-reaches-clause-out c h =
    let s = c.self.inside in
    let average : Average = (c.args.average.utility, c.args.average.count) in
    subst (λ (b : BestOf). (e : Entry) → IsAtMost average e → IsLeftOut b e) c.self.view_is
    (past-left_out (best_with s.least s.top s.entries.keys) average c.self.invariant.kept c.requires.some (c.is_past.ensures h))
