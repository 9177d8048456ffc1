-- What goes out where texts wait on a page one after another.
use Rattle.std.proofs.Common.{◌≡◌, ℕ, ◌+◌, ◌<◌, List, ◌++◌, length, take, drop, get_or, flat_map, Result, Ok, Err, arith, subst, sym, ap, ◌∙◌, append_assoc}
use Rattle.std.proofs.lemmas.Grind.{common_steps, flat_map-append}
use Rattle.std.proofs.lemmas.List.{take-append-drop}
use Rattle.std.specs.Prelude.{IsErr}
use Rattle.hu_io.specs.State.{SinkState, Broke, PutsAll}
use Rattle.hu_io.proofs.lemmas.PutLemmas.{Appended-append, Broke-append, Broke-longer, PutsAll-append}
use Rattle.hu_report.specs.Page.{Forwards, Passes}

-- what went out and waits, with more bytes
whole-append : {a b : SinkState} {waited waits text : List ℕ} (first : Forwards a b waited waits text) (more : List ℕ)
    → first.front ++ (waits ++ more) ≡ waited ++ (text ++ more)
whole-append {waited = waited} {waits} {text} first more = sym (append_assoc first.front waits more)
    ∙ ap (λ l. l ++ more) first.whole ∙ append_assoc waited text more

-- a text that is forwarded, and then what waits of it is put
pub PutsAll-flush : {E : Type 0} {a b : SinkState} {waited waits text whole : List ℕ} (c : SinkState)
    (result : Result (Unit {0}) E) → Forwards a b waited waits text → PutsAll b c result waits → waited ++ text ≡ whole
    → PutsAll a c result whole
PutsAll-flush {a = a} {waits = waits} c result first next same =
    subst (PutsAll a c result) (first.whole ∙ same) (PutsAll-append c waits result first.appended next)

-- a text that is forwarded, and then another
pub Forwards-append : {a b c : SinkState} {waited waits left text more : List ℕ} → Forwards a b waited waits text
    → Forwards b c waits left more → Forwards a c waited left (text ++ more)
Forwards-append {left = left} {more = more} first next = record {
  front = first.front ++ next.front;
  appended = Appended-append first.appended next.appended;
  whole = append_assoc first.front next.front left ∙ ap (λ l. first.front ++ l) next.whole ∙ whole-append first more;
}

-- the same, of a text that is both
pub Forwards-both : {a b c : SinkState} {waited waits left text more whole : List ℕ} → Forwards a b waited waits text
    → Forwards b c waits left more → text ++ more ≡ whole → Forwards a c waited left whole
Forwards-both {a} {c = c} {waited} {left = left} first next same = subst (Forwards a c waited left) same (Forwards-append first next)

-- a text that is forwarded, and then one that fails
pub Broke-forwarded : {a b c : SinkState} {waited waits text : List ℕ} (more : List ℕ) → Forwards a b waited waits text
    → Broke b c (waits ++ more) → Broke a c (waited ++ (text ++ more))
Broke-forwarded {a} {c = c} more first next = subst (Broke a c) (whole-append first more) (Broke-append first.appended next)

-- a text that is forwarded, and then another that may fail
pub Passes-append : {E : Type 0} {a b : SinkState} {waited waits text whole : List ℕ} (c : SinkState)
    (left more : List ℕ) (result : Result (Unit {0}) E) → Forwards a b waited waits text
    → Passes b c result waits left more → text ++ more ≡ whole → Passes a c result waited left whole
Passes-append {a = a} {waited = waited} c left more (Ok _) first next same = Forwards-both first next same
Passes-append {a = a} {waited = waited} c left more (Err _) first next same = subst (λ text. Broke a c (waited ++ text)) same (Broke-forwarded more first next)

-- where a text fails, so does a longer one
pub Broke-within : {a b : SinkState} {whole : List ℕ} (waited text more : List ℕ) → Broke a b (waited ++ text)
    → text ++ more ≡ whole → Broke a b (waited ++ whole)
Broke-within {a} {b} waited text more put same = subst (Broke a b) (append_assoc waited text more ∙ ap (λ l. waited ++ l) same) (Broke-longer more put)

-- the same, where the result is an error
pub Passes-longer : {E : Type 0} {a b : SinkState} {whole : List ℕ} (waited text left more : List ℕ)
    (result : Result (Unit {0}) E) → IsErr result → Broke a b (waited ++ text) → text ++ more ≡ whole
    → Passes a b result waited left whole
Passes-longer waited text left more (Ok _) failed put same = absurd (cc)
Passes-longer waited text left more (Err _) failed put same = Broke-within waited text more put same

-- the lines before one, that one and those after it are all
pub flat_map-split : {X : Type 0} (f : X → List ℕ) (xs : List X) (i : ℕ) (d : X) → i < length xs
    → (flat_map f (take i xs) ++ f (get_or xs i d)) ++ flat_map f (drop (i + 1) xs) ≡ flat_map f xs
flat_map-split f xs i d below =
    let front : flat_map f (take (i + 1) xs) ≡ flat_map f (take i xs) ++ f (get_or xs i d) = grind (arith, common_steps) in
    rw (← front, ← flat_map-append, take-append-drop)
