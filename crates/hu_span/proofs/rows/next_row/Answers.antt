use Rattle.std.proofs.Common.{◌≡◌, ◌-◌, ℕ, Bool, List, get_or, length, rules, ap, subst, arith}
use Rattle.hu_span.specs.declared.rows.Row.{Row}
use Rattle.hu_span.specs.Growing.{Records}
use Rattle.hu_span.specs.Kept.{weighed_of}
use Rattle.hu_span.specs.Trail.{span_of, AreHeld, AreLeft, IsFrontRow, IsSpan}
use Rattle.hu_span.proofs.GrownLemmas.{left-few, met-row, IsLater}
use Rattle.hu_span.proofs.RowsLemmas.{front-within}
use Rattle.hu_span.proofs.rows.next_row.Goals.{After-split_at}
use Rattle.hu_span.proofs.rows.next_row.Goals as goal

pub overflow_sub-len : goal.overflow_sub-len
overflow_sub-len c =
    let r = c.requires in
    omega (arith, left-few r.3 c.args.left.now r.4, c.len.ensures)

pub behind-stretch-requires-clause-number : goal.behind-stretch-requires-clause-number
behind-stretch-requires-clause-number c =
    let r = c.requires in
    omega (arith, left-few r.3 c.args.left.now r.4, ap length c.in_ok-first.ensures.cases.0, c.len.ensures)

pub split_at-requires : goal.split_at-requires
split_at-requires c = omega (arith, c.row_len.ensures, front-within c.in_ok-first.first.now.row c.in_ok-first.later.now)

abbrev row : After-split_at → Row
row c = record { first = c.in_ok-first.first; others = c.split_at.result.0; stretch = c.behind-stretch.result; left = c.split_at.result.1 }

-- what the pattern grows by at that row
row_at : (c : After-split_at) (keep : ℕ → Bool) (records : Records) (p : List (List ℕ)) (are : AreHeld keep records c.args.trail.now p c.args.held.now)
    → AreLeft (weighed_of keep records) p c.args.left.now → IsLater keep records c.args.trail.now are.are.rules (row c)
row_at c keep records p are rest =
    let marks = c.args.held.now.marks.items in
    let left = c.args.left.now in
    let first = c.in_ok-first.first.now in
    let front : IsFrontRow left (row c) = search rules in
    let n : c.len.result ≡ length marks = omega (arith, c.len.ensures) in
    let own = subst (λ size. IsSpan keep records c.args.trail.now (get_or marks (size - length left) first) (span_of c.behind-stretch.result)) n
    (c.behind-stretch.ensures.span keep records first are.spans) in
    met-row are (row c) left front rest own c.behind-stretch.ensures.cells

pub returns-clause-beside : goal.returns-clause-beside
returns-clause-beside c =
    let r = c.requires in
    let own = row_at (goal.at.returns-clause-beside c).After-split_at r.0 r.1 r.2 r.3 r.4 in
    own.beside

pub returns-clause-later : goal.returns-clause-later
returns-clause-later c =
    let r = c.requires in
    let own = row_at (goal.at.returns-clause-later c).After-split_at r.0 r.1 r.2 r.3 r.4 in
    own.later

pub returns-clause-walked : goal.returns-clause-walked
returns-clause-walked c keep records p are rest =
    let own = row_at (goal.at.returns-clause-walked c).After-split_at keep records p are rest in
    own.walked
