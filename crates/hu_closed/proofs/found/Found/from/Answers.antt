use Rattle.std.proofs.Common.{◌∙◌, ap, drop, length, ◌-◌, arith}
use Rattle.std.proofs.lemmas.List.{length-drop, take_all}
use Rattle.hu_closed.specs.Holders.{found_at, lists_of}
use Rattle.hu_closed.proofs.Rest.{found_at-drop}
use Rattle.hu_closed.proofs.found.Found.from.Goals as goal

pub returns : goal.returns
returns c =
    let lists = lists_of c.self.inside.lists.now in
    let places = c.self.inside.places.now in
    let index = c.args.index in
    c.at_places.ensures
    ∙ ap (found_at lists) (take_all (length places - index) (drop index places) (omega (arith, length-drop index places)))
    ∙ found_at-drop lists index places
    ∙ ap (drop index) c.self.view_is
