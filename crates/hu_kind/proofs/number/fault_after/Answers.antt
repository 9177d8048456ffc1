use Rattle.std.proofs.Common.{ap, sym, arith, refl}
use Rattle.hu_kind.specs.declared.number.NumberFault.TheVariants.{NotDigit}
use Rattle.hu_kind.proofs.lemmas.Numerals.{other_place-some, other_place-none}
use Rattle.hu_kind.proofs.number.fault_after.Goals as goal

pub returns-in-Some : goal.returns-in-Some
returns-in-Some c =
    let later = other_place-some c.args.text.now c.args.from c.in-Some.place c.requires.within c.requires.digits (sym c.in-Some.ensures) in
    rw later (ap NotDigit (omega arith))

pub returns-in-None : goal.returns-in-None
returns-in-None c = rw (other_place-none c.args.text.now c.args.from c.requires.within c.requires.digits (sym c.in-None.ensures)) refl
