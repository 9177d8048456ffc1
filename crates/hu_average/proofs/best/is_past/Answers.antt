use Rattle.std.proofs.Common.{◌≡◌, ◌≤◌, Some, ◌∙◌, ap, sym, subst, length, rules}
use Rattle.std.specs.declared.cmp.Ordering.TheVariants.{Less}
use Rattle.hu_average.specs.Order.{Average, average_of, fraction_cmp}
use Rattle.hu_average.specs.Best.{IsPastLast}
use Rattle.hu_average.proofs.best.is_past.Goals as goal

pub returns-in-Some-Some : goal.returns-in-Some-Some
returns-in-Some-Some c h =
    let last = c.in-Some-Some.last.now in
    let average : Average = (c.args.average.utility, c.args.average.count) in
    let compared : c.compare.result ≡ Less = search rules in
    let same : c.entry.result.now ≡ last = c.entry.ensures.value in
    let less : fraction_cmp average (average_of last) ≡ Less =
    sym (c.compare.ensures ∙ (λ j. fraction_cmp average (c.of.ensures.utility j, c.of.ensures.count j))
    ∙ ap (λ e. fraction_cmp average (average_of e)) same) ∙ compared in
    let enough : c.in-Some-Some.limit ≤ length c.args.entries.now.keys = search rules in
    let top : c.args.top ≡ Some c.in-Some-Some.limit = c.in-Some-Some.is-0 in
    subst (λ t. IsPastLast t c.args.entries.now.keys average) (sym top) (last, c.in-Some-Some.ensures.last, enough, c.entry.ensures.some, less)
