use Rattle.std.proofs.Common.{◌≡◌, zero, subst, arith}
use Rattle.hu_span.proofs.LinkLemmas.{absent-sought, sought-first, sought-next, IsSought}
use Rattle.hu_span.proofs.links.find_from.Goals as goal

pub older-init : goal.older-init
older-init c room back linked = sought-first c.args.items.now room c.args.item c.args.last back

pub older-preserved : goal.older-preserved
older-preserved c room back linked =
    sought-next c.args.items.now c.args.olders.now room c.args.item c.older.upto (c.older.invariant room back linked) c.older-test.true linked
    c.if-items-upto.false

pub returns : goal.returns
returns c =
    let none : c.older.upto ≡ zero = omega (arith, c.older-test.false) in
    let room = c.requires.0 in
    absent-sought c.args.items.now room c.args.item
    (subst (IsSought c.args.items.now room c.args.item) none (c.older.invariant room c.requires.2 c.requires.1))
