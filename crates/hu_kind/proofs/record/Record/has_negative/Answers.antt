use Rattle.std.proofs.Common.{pos, int_lt, sym, ap, ◌∙◌}
use Rattle.std.specs.List.{list_any}
use Rattle.hu_kind.specs.Cell.{pair_of}
use Rattle.hu_kind.specs.Record.{any_negative}
use Rattle.hu_kind.proofs.lemmas.RecordLemmas.{list_any-map}
use Rattle.hu_kind.proofs.record.Record.has_negative.Goals as goal

pub returns : goal.returns
returns c =
    c.has_negative.ensures
    ∙ ap (list_any (λ cell. int_lt cell.value (pos 0))) c.deref.ensures.value
    ∙ sym (list_any-map (λ pair. int_lt pair.1 (pos 0)) pair_of c.self.inside.cells.items)
    ∙ ap any_negative c.self.view_is
