-- Parts one after the other.
use Rattle.std.proofs.Common.{◌≡◌, ℕ, ◌+◌, ◌<◌, ◌≤◌, List, ◌++◌, length, take, sym, ap, ◌∙◌, subst, arith, length-append}
use Rattle.std.specs.Prelude.{Result, Ok, Err, IsErr}
use Rattle.std.specs.Io.KnownBytes.{Appends}
use Rattle.std.proofs.KnownBytes.{Appends-trans}
use Rattle.std.proofs.Math.Seq.{take-append-add}
use Rattle.std.proofs.lemmas.List.{take-append-le}
use Rattle.hu_io.specs.State.{SinkState, Appended, Broke, PutsAll}

take-inside : (k : ℕ) (front text rest : List ℕ) → k < length text → take (length front + k) (front ++ (text ++ rest)) ≡ front ++ take k text
take-inside k front text rest within =
    let inside : k ≤ length text = omega arith in
    take-append-add front (text ++ rest) k ∙ ap (λ l. front ++ l) (take-append-le k text rest inside)

-- texts were appended, and then a line broke off
pub Appended-Broke : (old now new : SinkState) (front text rest : List ℕ) → Appended old now front → Broke now new text
    → Broke old new (front ++ (text ++ rest))
Appended-Broke old now new front text rest first then_ =
    let k = then_.front.0 in record {
      front = (
        length front + k,
        omega (arith, then_.front.1, length-append front (text ++ rest), length-append text rest),
        subst (Appends old.bytes new.bytes) (sym (take-inside k front text rest then_.front.1))
            (Appends-trans old.bytes now.bytes new.bytes _ _ first.bytes then_.front.2),
      );
      rose = rw (← first.faults) then_.rose;
      later = omega (arith, first.faults, then_.later);
      plan = then_.plan ∙ first.plan;
    }

-- a text that broke off is a failure
pub PutsAll-Broke : {E : Type 0} (old new : SinkState) (result : Result (Unit {0}) E) (text : List ℕ) → IsErr result
    → Broke old new text → PutsAll old new result text
PutsAll-Broke old new (Ok _) text failed broke = cc
PutsAll-Broke old new (Err _) text failed broke = broke
