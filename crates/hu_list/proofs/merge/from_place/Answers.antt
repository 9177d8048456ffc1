use Rattle.std.proofs.Common.{ap, ◌∙◌, drop}
use Rattle.std.proofs.lemmas.List.{take_rest}
use Rattle.hu_list.proofs.PlaceLemmas.{from_place-drop}
use Rattle.hu_list.proofs.merge.from_place.Goals as goal

pub returns : goal.returns
returns c =
    let nodes = c.args.nodes.now in
    take_rest nodes c.first_from-at.result ∙ ap (λ n. drop n nodes) c.first_from-at.ensures.value ∙ from_place-drop c.args.place nodes
