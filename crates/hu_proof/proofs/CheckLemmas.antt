-- The first lines of a text, and the answer of an accepted one.
use Rattle.std.proofs.Common.{◌≡◌, ℕ, ◌<◌, ◌≤◌, true, false, nat_lt, ℤ, pos, ◌≤ℤ◌, None, Some, List, [], ◌∷◌, map}
use Rattle.std.proofs.Common.{length, drop, refl, ap, ◌∙◌, arith, Ok, Err, IfOk}
use Rattle.std.specs.Prelude.{Result}
use Rattle.std.specs.Ordering.{int_eq}
use Rattle.std.proofs.lemmas.Bool.{le-ltb}
use Rattle.std.proofs.lemmas.Bool.Decides.{Decides-int_eq}
use Rattle.hu_kind.specs.declared.entry.Entry.{Entry}
use Rattle.hu_kind.specs.Answer.{answer, item_answer}
use Rattle.hu_proof.specs.declared.fault.CheckFault.{CheckFault}
use Rattle.hu_proof.specs.Check.{order_fault, from_order, minimum_fault, from_minimum, first_fault}
use Rattle.hu_proof.specs.Judged.{Judges, JudgesMinimum}
use Rattle.hu_proof.specs.Opened.{prefix_entry, prefixes_in}
use Rattle.hu_proof.specs.Text.{minimum_of, order_of, pieces}
use Rattle.hu_proof.proofs.Sound.{opens_the_answer}

pub from_order-cons : (records : List (List (ℕ × ℤ))) (least : ℤ) (line : List ℕ) (ps : List (List ℕ)) → 0 < length ps
    → from_order records least (line ∷ ps) ≡ order_fault records least (order_of line) ps
from_order-cons records least line [] some = absurd (omega arith)
from_order-cons records least line (p ∷ ps) some = refl

pub from_minimum-cons : (records : List (List (ℕ × ℤ))) (least : ℤ) (line : List ℕ) (ps : List (List ℕ)) → 0 < length ps
    → from_minimum records least (line ∷ ps) ≡ minimum_fault records least (minimum_of line) ps
from_minimum-cons records least line [] some = absurd (omega arith)
from_minimum-cons records least line (p ∷ ps) some = refl

right-minimum : (records : List (List (ℕ × ℤ))) (least : ℤ) (ps : List (List ℕ)) → minimum_fault records least (Some least) ps ≡ from_order records least ps
right-minimum records least ps = let same : int_eq least least ≡ true = (Decides-int_eq least least).1 refl in rw same refl

pub minimum-passed : (records : List (List (ℕ × ℤ))) (least : ℤ) (line : List ℕ) (ps : List (List ℕ)) → 0 < length ps
    → JudgesMinimum least (minimum_of line) None → from_minimum records least (line ∷ ps) ≡ from_order records least ps
minimum-passed records least line ps some e = from_minimum-cons records least line ps some
    ∙ (ap (λ o. minimum_fault records least o ps) e ∙ right-minimum records least ps)

pub minimum-wrong : (records : List (List (ℕ × ℤ))) (least : ℤ) (line : List ℕ) (ps : List (List ℕ)) (fault : CheckFault) → 0 < length ps
    → JudgesMinimum least (minimum_of line) (Some fault)
    → from_minimum records least (line ∷ ps) ≡ Some fault
minimum-wrong records least line ps fault some e = from_minimum-cons records least line ps some ∙ e records ps

pub answered : {V : Type 0} (items : V → List Entry) (records : List (List (ℕ × ℤ))) (least : ℤ) (text : List ℕ) (r : Result V CheckFault)
    → pos 1 ≤ℤ least → length text ≤ 268435456
    → Judges r (from_minimum records least (pieces text)) → IfOk r
    (λ v. items v ≡ answer least None (map (prefix_entry records) (prefixes_in (drop 2 (pieces text)))))
    → IfOk r (λ v. items v ≡ item_answer records least None)
answered items records least text (Ok v) some small fault opened =
    let short : nat_lt 268435456 (length text) ≡ false = le-ltb 268435456 (length text) small in
    let none : first_fault records least text ≡ None = rw short fault in
    opened ∙ opens_the_answer records least text some none
answered items records least text (Err e) some small fault opened = opened
