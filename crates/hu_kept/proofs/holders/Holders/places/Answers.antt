use Rattle.std.proofs.Common.{◌≡◌, ◌∙◌, [], eqb, get_or, length, subst, sym, ap, arith}
use Rattle.std.specs.List.{dedup}
use Rattle.std.specs.List.Sorted.{IsStrictlyIncreasing}
use Rattle.std.proofs.lemmas.List.Filters.{dedup_is}
use Rattle.std.proofs.lemmas.Map.Keys.{IsStrictlyIncreasing-dedup}
use Rattle.hu_kind.specs.Record.{has}
use Rattle.hu_kept.proofs.HolderLemmas.{ordered-kept}
use Rattle.hu_kept.proofs.holders.Holders.places.Goals as goal

pub returns-clause-rising : goal.returns-clause-rising
returns-clause-rising c =
    let sorted = c.sort_unstable.new.self.items in
    let is : c.dedup.new.self.items ≡ dedup eqb sorted = dedup_is eqb sorted c.dedup.new.self.items c.dedup.ensures.filtered in
    subst IsStrictlyIncreasing (sym is) (IsStrictlyIncreasing-dedup sorted c.sort_unstable.ensures.sorted)

pub returns-clause-held : goal.returns-clause-held
returns-clause-held c place item occurs holds =
    let sorted = c.sort_unstable.new.self.items in
    let last = c.dedup.new.self.items in
    let is : last ≡ dedup eqb sorted = dedup_is eqb sorted last c.dedup.ensures.filtered in
    let listed = c.self.invariant.all place item (ap (λ records. has item (get_or records place [])) c.self.view_is ∙ holds) in
    let first = c.in_ok-places.ensures place item occurs listed in
    ordered-kept c.add_range.new.places.items sorted last place c.sort_unstable.ensures.permutation is
    (c.in_ok-add_range.ensures.kept place first)

pub returns-clause-later : goal.returns-clause-later
returns-clause-later c place low high =
    let sorted = c.sort_unstable.new.self.items in
    let last = c.dedup.new.self.items in
    let is : last ≡ dedup eqb sorted = dedup_is eqb sorted last c.dedup.ensures.filtered in
    let count = c.self.invariant.whole ∙ ap length c.self.view_is in
    let first = c.in_ok-add_range.ensures.range place (omega (arith, count, low)) high in
    ordered-kept c.add_range.new.places.items sorted last place c.sort_unstable.ensures.permutation is first
