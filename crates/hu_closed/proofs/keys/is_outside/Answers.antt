use Rattle.std.proofs.Common.{rules, ◌∙◌, subst, ℤ, SFits}
use Rattle.std.specs.Int.{w64}
use Rattle.std.specs.Ordering.{int_cmp}
use Rattle.std.specs.List.Sorted.{IsBinarySearchResult}
use Rattle.std.proofs.lemmas.Int.{to_z-of_z}
use Rattle.hu_closed.proofs.KeyLemmas.{outside-found}
use Rattle.hu_closed.proofs.keys.is_outside.Goals as goal

pub returns : goal.returns
returns c =
    let fits : SFits w64 c.from.result = search rules in
    let sent = to_z-of_z w64 c.from.result fits ∙ c.from.ensures in
    let found = subst (λ (z : ℤ). IsBinarySearchResult (λ y. int_cmp y z) c.args.key.now c.binary_search.result) sent c.binary_search.ensures.position in
    c.is_err.ensures.value ∙ outside-found c.args.key.now c.args.item.0 c.binary_search.result c.requires c.binary_search.ensures.bound found
