use Rattle.std.proofs.Common.{map, subst, sym}
use Rattle.std.specs.List.{IsDistinct}
use Rattle.std.specs.Ordering.{int_eq}
use lib.Pointwise.{pointwise}
use Rattle.hu_kind.specs.declared.entry.Entry.{Entry}
use Rattle.hu_base.specs.Base.{records_of}
use Rattle.hu_kept.specs.Entries.{keeping}
use Rattle.hu_kept.proofs.Outside.{answer-distinct}
use Rattle.hu_kept.proofs.renewal.renewed.Goals as goal

pub by_key-requires : goal.by_key-requires
by_key-requires g c =
    subst (λ es. IsDistinct (pointwise int_eq) (map (λ (e : Entry). e.key) es)) (sym c.in_ok-entries.ensures)
    (answer-distinct (keeping c.args.aim (records_of c.args.base.now)))
