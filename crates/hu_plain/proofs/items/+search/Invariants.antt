use Rattle.std.proofs.Common.{◌≡◌, ◌+◌, ◌*◌}
use Rattle.hu_plain.specs.Row.{Grows}
use Rattle.hu_plain.specs.Grown.{AreItems}
use Rattle.hu_plain.specs.View.{rows_of}
use Rattle.hu_plain.proofs.Growth.{cells_in}
use Rattle.hu_plain.proofs.Patterns.{BeginsWith}
use Rattle.hu_plain.proofs.SoFar.{IsSoFar}
use Rattle.hu_plain.proofs.items.+search.Given as goal

-- a search comes after the entrance to its rows
abbrev pub decreases-search : goal.decreases-search
decreases-search g l = 2 * cells_in (rows_of l.rows.now)

abbrev pub decreases-enter : goal.decreases-enter
decreases-enter g l = 2 * cells_in (rows_of l.rows.now) + 1

abbrev pub invariant-search-items : goal.invariant-search-items
invariant-search-items g l = record {
  prefix : l.prefix ≡ l.fn.prefix;
  are : AreItems (rows_of l.rows) l.item-items;
  so_far : IsSoFar (BeginsWith l.fn.prefix (rows_of l.rows)) (Grows l.fn.prefix (rows_of l.rows))
      (g.C.Collect.state l.fn.collect) (g.C.Collect.state l.collect) l.item-items l.item-index;
}
