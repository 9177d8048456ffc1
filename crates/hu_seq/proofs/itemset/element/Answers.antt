use Rattle.std.proofs.Common.{◌≡◌, ◌<◌, ◌∙◌, ap, sym, subst, length}
use Rattle.std.specs.List.Sorted.{IsPermutation}
use Rattle.std.proofs.lemmas.List.Sorted.{IsPermutation-map}
use Rattle.hu_kind.specs.Cell.{pair_of, pairs_of}
use Rattle.hu_kind.specs.Cells.{by_item}
use Rattle.hu_kind.specs.Record.{IsItemset}
use Rattle.hu_seq.proofs.ItemsetLemmas.{IsItemset-ordered}
use Rattle.hu_seq.proofs.itemset.element.Goals as goal

pub of-requires : goal.of-requires
of-requires c =
    let some : 0 < length (pairs_of c.in_ok-cells.cells.items) = rw c.in_ok-cells.ensures.value c.requires.some in
    IsItemset-ordered c.in_ok-cells.cells.items c.in-Ok.cells.items c.in-Ok.ensures.permutation c.in-Ok.ensures.ascending some c.in_ok-cells.ensures.in_range

pub returns-in-Ok-clause-ok : goal.returns-in-Ok-clause-ok
returns-in-Ok-clause-ok c =
    let some : 0 < length (pairs_of c.in_ok-cells.cells.items) = rw c.in_ok-cells.ensures.value c.requires.some in
    let rules =
    IsItemset-ordered c.in_ok-cells.cells.items c.in-Ok.cells.items c.in-Ok.ensures.permutation
    c.in-Ok.ensures.ascending some c.in_ok-cells.ensures.in_range in
    let is : c.of.result ≡ pairs_of c.in-Ok.cells.items = c.of.ensures in
    let same : IsPermutation (pairs_of c.in_ok-cells.cells.items) (pairs_of c.in-Ok.cells.items) =
    IsPermutation-map pair_of c.in_ok-cells.cells.items c.in-Ok.cells.items c.in-Ok.ensures.permutation in
    record {
      value = is ∙ c.in-Ok.ensures.value ∙ ap by_item c.in_ok-cells.ensures.value;
      permutation = rw (is, ← c.in_ok-cells.ensures.value) same;
      once = rw (← c.in_ok-cells.ensures.value) c.in-Ok.ensures.once;
      rules = subst IsItemset (sym is) rules;
    }
