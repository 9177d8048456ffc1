-- What taking in a front of a piece makes of the states of lines.
use Rattle.std.proofs.Common.{inl, inr, ◌≡◌, ℕ, ◌+◌, ◌<◌, ◌≤◌, Bool, true, false, cond, List, [], ◌++◌, length, take}
use Rattle.std.proofs.Common.{drop, Result, Ok, Err, Some, None, refl, sym, ap, ◌∙◌, subst, append_assoc}
use Rattle.std.proofs.Common.{take-append-drop, length-append, arith}
use Rattle.std.specs.Option.{option_or}
use Rattle.hu_lines.specs.declared.limits.LineFault.{LineFault}
use Rattle.hu_lines.specs.Pieces.{first_piece, has_line_feed}
use Rattle.hu_lines.specs.Limits.{refusal}
use Rattle.hu_lines.specs.Lines.{State, begun, grown, refusal_of, IsHeld}
use Rattle.hu_lines.proofs.lemmas.LimitLemmas.{refusal_names}
use Rattle.hu_input.specs.declared.reason.Reason.{Reason}
use Rattle.hu_input.specs.declared.intake.LineStop.{LineStop}
use Rattle.hu_input.specs.declared.intake.LineStop.TheVariants.{Refused, NoMemory}
use Rattle.hu_input.specs.Input.{limit_reason}
use Rattle.hu_base.specs.Base.{carried_of}
use Rattle.hu_input.specs.View.{View}
use Rattle.hu_input.specs.Intake.{limit_stop, bytes_in, IsOpen, outcome, outcome_at, Took, Refuses, Judges}
use Rattle.hu_input.proofs.IntakeLemmas.{outcome_held, outcome_accepted, outcome_refused, outcome_limited}

-- a limit names the line that passes it
limit_of_line : (number before : ℕ) (piece : List ℕ) (fault : LineFault) → refusal number before piece ≡ Some fault
    → limit_stop fault ≡ Refused number (limit_reason fault)
limit_of_line number before piece fault is = elim (refusal_names number before piece fault is) [
  | inl long ↦ subst (λ f. limit_stop f ≡ Refused number (limit_reason f)) (sym long) refl
  | inr large ↦ subst (λ f. limit_stop f ≡ Refused number (limit_reason f)) (sym large) refl
]

-- what is so of the next line and of this one is so of the line that begins
pub begun_by_test : (P : State → Type 0) (whole : Bool) (next same : State) → (whole ≡ true → P next) → (whole ≡ false → P same) → P (cond whole next same)
begun_by_test P true next same on off = on refl
begun_by_test P false next same on off = off refl

begun_accepted : (s : State) → s.refused ≡ None → (begun s).refused ≡ None
begun_accepted s accepted = begun_by_test (λ b. b.refused ≡ None) s.whole _ s (λ _. accepted) (λ _. accepted)

begun_open : (s : State) → IsHeld s → has_line_feed (begun s).bytes ≡ false
begun_open s held = begun_by_test (λ b. has_line_feed b.bytes ≡ false) s.whole _ s (λ _. refl) (λ unfinished. sym held.whole ∙ unfinished)

-- a line that goes on, and one that has ended
pub begun_same : (s : State) → s.whole ≡ false → begun s ≡ s
begun_same s unfinished = begun_by_test (λ b. b ≡ s) s.whole _ s (λ ended. cc) (λ _. refl)

begun_next : (s : State) → s.whole ≡ true → begun s ≡ record s { bytes = []; whole = false; number = s.number + 1; before = s.before + length s.bytes }
begun_next s ended =
    begun_by_test
    (λ b. b ≡ record s { bytes = []; whole = false; number = s.number + 1; before = s.before + length s.bytes }) s.whole
    _ s (λ _. refl) (λ unfinished. cc)

-- a front and what is left of a piece, with a tail
front_and_tail : (n : ℕ) (piece front tail : List ℕ) → take n piece ≡ front → front ++ (drop n piece ++ tail) ≡ piece ++ tail
front_and_tail n piece front tail is = sym (append_assoc front (drop n piece) tail)
    ∙ ap (λ l. l ++ drop n piece ++ tail) (sym is) ∙ ap (λ l. l ++ tail) (take-append-drop n piece)

-- beginning the next line counts no byte
begun_bytes : (s : State) → bytes_in (begun s) ≡ bytes_in s
begun_bytes s = begun_by_test (λ b. bytes_in b ≡ bytes_in s) s.whole _ s (λ _. omega arith) (λ _. refl)

-- the bytes taken of a piece are its first piece, and are held behind what was
pub record IsFed (s t : State) (piece : List ℕ) (n : ℕ) : Type 0 where
  pub is : t ≡ grown (begun s) (first_piece piece)
  pub opened : IsOpen t
  pub taken : n ≡ length (first_piece piece)
  pub front : take n piece ≡ first_piece piece
  pub within : n ≤ length piece
  pub some : 0 < length piece → 0 < n

fed_bytes : (s t : State) (piece : List ℕ) (n : ℕ) → IsFed s t piece n → bytes_in t ≡ bytes_in s + n
fed_bytes s t piece n fed =
    ap bytes_in fed.is
    ∙ omega (arith, length-append (begun s).bytes (first_piece piece), begun_bytes s, fed.taken)

fed_held : (s t : State) (piece : List ℕ) (n : ℕ) → IsFed s t piece n → IsHeld (grown (begun s) (first_piece piece))
fed_held s t piece n fed = subst IsHeld fed.is fed.opened.held

module _ {R : Type 0} (reading : List ℕ → Result R Reason) (absolute : R → ℕ) (v : View R) where
  -- the line passes a limit within the piece
  pub front_limited : (piece : List ℕ) (fault : LineFault) → IsOpen v.lines → 0 < length piece
      → refusal_of (begun v.lines) (first_piece piece) ≡ Some fault → Refuses reading absolute v piece (limit_stop fault)
  front_limited piece fault opened some passed =
      let b = begun v.lines in
      let limited : refusal b.number b.before (b.bytes ++ first_piece piece) ≡ Some fault =
      sym (ap (λ r. option_or r (refusal b.number b.before (b.bytes ++ first_piece piece))) (begun_accepted v.lines opened.accepted)) ∙ passed in
      subst (Refuses reading absolute v piece) (sym (limit_of_line b.number b.before _ fault limited))
      (λ tail. outcome_limited reading absolute b.number b.before v.base b.bytes piece tail fault (begun_open v.lines opened.held) some limited)

  goes_on : (t : State) (n : ℕ) (piece : List ℕ) → IsFed v.lines t piece n → has_line_feed (first_piece piece) ≡ false
      → (tail : List ℕ) → outcome reading absolute t v.base (drop n piece ++ tail) ≡ outcome reading absolute v.lines v.base (piece ++ tail)
  goes_on t n piece fed unfinished tail =
      let b = begun v.lines in
      let taken = first_piece piece in
      ap (λ s. outcome reading absolute s v.base (drop n piece ++ tail)) fed.is
      ∙ ap (λ s. outcome_at reading absolute s.number s.before s.bytes v.base (drop n piece ++ tail)) (begun_same (grown b taken) unfinished)
      ∙ outcome_held reading absolute b.number b.before v.base b.bytes taken (drop n piece ++ tail)
      ∙ ap (outcome_at reading absolute b.number b.before b.bytes v.base) (front_and_tail n piece taken tail fed.front)

  -- the line goes on after the piece
  pub front_goes_on : (w : View R) (n : ℕ) (piece : List ℕ) → IsFed v.lines w.lines piece n → has_line_feed (first_piece piece) ≡ false → w.base ≡ v.base
      → Took reading absolute v w piece n
  front_goes_on w n piece fed unfinished same = record {
    opened = fed.opened;
    count = fed_bytes v.lines w.lines piece n fed;
    carried = ap carried_of same;
    within = fed.within;
    some = fed.some;
    outcome = λ tail. ap (λ base. outcome reading absolute w.lines base (drop n piece ++ tail)) same ∙ goes_on w.lines n piece fed unfinished tail;
  }

  joined : (t : State) (next : ℕ × List R) (n : ℕ) (piece : List ℕ) → IsFed v.lines t piece n → has_line_feed (first_piece piece) ≡ true
      → Judges reading absolute t v.base next (Ok tt)
      → (tail : List ℕ) → outcome reading absolute t next (drop n piece ++ tail) ≡ outcome reading absolute v.lines v.base (piece ++ tail)
  joined t next n piece fed ended judged tail =
      let b = begun v.lines in
      let taken = first_piece piece in
      let held = fed_held v.lines t piece n fed in
      let known = subst (λ s. Judges reading absolute s v.base next (Ok tt)) fed.is judged in
      ap (λ s. outcome reading absolute s next (drop n piece ++ tail)) fed.is
      ∙ ap (λ s. outcome_at reading absolute s.number s.before s.bytes next (drop n piece ++ tail)) (begun_next (grown b taken) ended)
      ∙ outcome_accepted reading absolute b.number b.before v.base b.bytes taken (drop n piece ++ tail) next known.0
      held.one (sym held.whole ∙ ended) held.within known.1 known.2
      ∙ ap (outcome_at reading absolute b.number b.before b.bytes v.base) (front_and_tail n piece taken tail fed.front)

  -- the line ended within the piece, and its record joined the base
  pub front_joined : (w : View R) (t : State) (n : ℕ) (piece : List ℕ) → IsFed v.lines t piece n → has_line_feed (first_piece piece) ≡ true → w.lines ≡ t
      → Judges reading absolute t v.base w.base (Ok tt) → Took reading absolute v w piece n
  front_joined w t n piece fed ended same judged = record {
    opened = subst IsOpen (sym same) fed.opened;
    count = ap bytes_in same ∙ fed_bytes v.lines t piece n fed;
    carried = ap carried_of judged.2;
    within = fed.within;
    some = fed.some;
    outcome = λ tail. ap (λ s. outcome reading absolute s w.base (drop n piece ++ tail)) same ∙ joined t w.base n piece fed ended judged tail;
  }

  -- the line ended within the piece, and judging stopped at it
  pub front_stopped : (t : State) (next : ℕ × List R) (n : ℕ) (piece : List ℕ) (stop : LineStop)
      → IsFed v.lines t piece n → has_line_feed (first_piece piece) ≡ true
      → Judges reading absolute t v.base next (Err stop) → Refuses reading absolute v piece stop
  front_stopped t next n piece (Refused number reason) fed ended judged = λ tail.
      let b = begun v.lines in
      let taken = first_piece piece in
      let held = fed_held v.lines t piece n fed in
      let known = subst (λ s. Judges reading absolute s v.base next (Err (Refused number reason))) fed.is judged in
      ap (outcome_at reading absolute b.number b.before b.bytes v.base) (sym (front_and_tail n piece taken tail fed.front))
      ∙ outcome_refused reading absolute b.number b.before v.base b.bytes taken (drop n piece ++ tail) reason
      held.one (sym held.whole ∙ ended) held.within known.0
      ∙ ap (λ line. Err (record { number = line; reason = reason })) (sym known.1)
  front_stopped t next n piece NoMemory fed ended judged = tt
