use Rattle.std.proofs.Common.{◌≡◌, true, sym, subst, ◌∙◌}
use Rattle.hu_proof.specs.Check.{is_order}
use Rattle.hu_proof.specs.Places.{Apart}
use Rattle.hu_proof.specs.Words.{numbers_of}
use Rattle.hu_proof.proofs.Sound.{apart-order}
use Rattle.hu_proof.proofs.certificate.check_walk.Goals as goal

pub of-requires : goal.of-requires
of-requires c =
    let test : is_order c.records.result.now (numbers_of c.args.items.now) ≡ true = sym c.in_ok-is_order.ensures ∙ c.if-not-branch.false in
    apart-order c.records.result.now (numbers_of c.args.items.now) test

pub walk-requires-clause-apart : goal.walk-requires-clause-apart
walk-requires-clause-apart c =
    let test : is_order c.records.result.now (numbers_of c.args.items.now) ≡ true = sym c.in_ok-is_order.ensures ∙ c.if-not-branch.false in
    subst Apart (sym c.in_ok-order.ensures) (apart-order c.records.result.now (numbers_of c.args.items.now) test)
