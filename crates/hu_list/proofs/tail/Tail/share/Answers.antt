use Rattle.std.proofs.Common.{◌≡◌, ◌+ℤ◌, to_z, of_z, ap, ◌∙◌, arith}
use Rattle.std.specs.Int.{w128}
use Rattle.std.proofs.lemmas.Int.{ints}
use Rattle.hu_kind.specs.Record.{positive_part}
use Rattle.hu_totals.specs.Cells.{kept_gain}
use Rattle.hu_totals.proofs.lemmas.KeptLemmas.{kept_gain-within}
use Rattle.hu_list.specs.Tails.{share}
use Rattle.hu_list.specs.View.{tail_of}
use Rattle.hu_list.proofs.ShareLemmas.{share-within}
use Rattle.hu_list.proofs.tail.Tail.share.Goals as goal

pub overflow_add-self : goal.overflow_add-self
overflow_add-self c =
    let tail = tail_of c.args.self.now in
    omega (arith, ints, kept_gain-within c.args.kept.now.ranks tail.cells, c.kept_gain.ensures, c.requires)

pub returns : goal.returns
returns c =
    let tail = tail_of c.args.self.now in
    let keep = c.args.kept.now.ranks in
    let sum : to_z w128
    (of_z w128 (to_z w128 (of_z w128 c.args.self.now.own) +ℤ to_z w128 (of_z w128 c.kept_gain.result)))
    ≡ tail.own +ℤ kept_gain keep tail.cells =
    omega (arith, ints, kept_gain-within keep tail.cells, c.kept_gain.ensures, c.requires) in
    let worth : c.positive_part.result ≡ share keep tail = c.positive_part.ensures.value ∙ ap positive_part sum in
    omega (arith, ints, worth, share-within keep tail, c.requires)
