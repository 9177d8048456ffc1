-- Texts that go out one after another.
use Rattle.std.proofs.Common.{ℕ, ◌+◌, ◌≤◌, List, [], ◌++◌, length, take, drop, Result, Ok, Err, arith, refl, subst, sym, ◌∙◌, length-append}
use Rattle.std.proofs.Math.Seq.{take-append-add}
use lib.Seq.{take-add}
use Rattle.std.proofs.lemmas.List.{take-append-le}
use Rattle.std.specs.Prelude.{IsErr}
use Rattle.std.specs.Io.KnownBytes.{Appends}
use Rattle.std.proofs.KnownBytes.{Appends-nil, Appends-trans}
use Rattle.hu_io.specs.Count.{Rose}
use Rattle.hu_io.specs.State.{SinkState, Appended, Broke, PutsAll}

-- nothing was appended
pub Appended-nil : (a : SinkState) → Appended a a []
Appended-nil a = record { bytes = Appends-nil a.bytes; faults = refl; plan = refl }

-- a text, and then another
pub Appended-append : {a b c : SinkState} {first second : List ℕ} → Appended a b first → Appended b c second → Appended a c (first ++ second)
Appended-append {a} {b} {c} {first} {second} put next = record {
  bytes = Appends-trans a.bytes b.bytes c.bytes first second put.bytes next.bytes;
  faults = next.faults ∙ put.faults;
  plan = next.plan ∙ put.plan;
}

-- a front of a text, and then a front of what is left of it
pub Appended-take : {a b c : SinkState} (m n : ℕ) (text : List ℕ) → Appended a b (take m text)
    → Appended b c (take n (drop m text)) → Appended a c (take (m + n) text)
Appended-take {a} {c = c} m n text put next = subst (Appended a c) (sym (take-add m n text)) (Appended-append put next)

-- a text, and then one that fails
pub Broke-append : {a b c : SinkState} {first second : List ℕ} → Appended a b first → Broke b c second → Broke a c (first ++ second)
Broke-append {a} {b} {c} {first} {second} put next =
    let k : ℕ = next.front.0 in
    record {
      front = (
        length first + k,
        omega (arith, length-append first second, next.front.1),
        subst (Appends a.bytes c.bytes) (sym (take-append-add first second k))
            (Appends-trans a.bytes b.bytes c.bytes first (take k second) put.bytes next.front.2),
      );
      rose = subst (λ n. Rose n c.faults) put.faults next.rose;
      later = subst (λ n. n ≤ c.faults) put.faults next.later;
      plan = next.plan ∙ put.plan;
    }

-- a failure within a text is one within a longer text
pub Broke-longer : {a b : SinkState} {first : List ℕ} (second : List ℕ) → Broke a b first → Broke a b (first ++ second)
Broke-longer {a} {b} {first} second put =
    let k : ℕ = put.front.0 in
    let within : k ≤ length first = omega (arith, put.front.1) in
    record {
      front = (
        k,
        omega (arith, length-append first second, put.front.1),
        subst (Appends a.bytes b.bytes) (sym (take-append-le k first second within)) put.front.2,
      );
      rose = put.rose;
      later = put.later;
      plan = put.plan;
    }

-- a text, and then another that may fail
pub PutsAll-append : {E : Type 0} {a b : SinkState} {first : List ℕ} (c : SinkState) (second : List ℕ)
    (result : Result (Unit {0}) E) → Appended a b first → PutsAll b c result second
    → PutsAll a c result (first ++ second)
PutsAll-append c second (Ok _) put next = Appended-append put next
PutsAll-append c second (Err _) put next = Broke-append put next

-- a result that is an error, of a text that failed
pub PutsAll-from_err : {E : Type 0} {a b : SinkState} {text : List ℕ} (result : Result (Unit {0}) E) → IsErr result → Broke a b text → PutsAll a b result text
PutsAll-from_err (Ok _) failed put = absurd (cc)
PutsAll-from_err (Err _) failed put = put
