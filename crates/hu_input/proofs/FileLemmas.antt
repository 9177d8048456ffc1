-- What the end of a file, and the reading of a piece of one, make of the outcome.
use Rattle.std.proofs.Common.{◌≡◌, ℕ, ◌+◌, ◌<◌, ◌≤◌, false, List, [], ◌∷◌, ◌++◌, length, take, drop, Result, Ok, Err}
use Rattle.std.proofs.Common.{Option, Some, None, MatchOption, refl, sym, ap, ◌∙◌, subst, arith, length-take}
use Rattle.std.proofs.Common.{length-drop, take-append-drop}
use Rattle.std.specs.Prelude.{IfSome, IsSomeAnd, IfErr, OnOk}
use Rattle.std.proofs.lemmas.List.{drop_all, drop-drop, length-take-le}
use Rattle.hu_base.specs.Base.{carried_of, records_of}
use Rattle.hu_io.specs.Files.{Gives, GivesTold}
use Rattle.hu_io.specs.State.{FilesState, Got}
use Rattle.hu_lines.specs.Lines.{State, begun, at_end}
use Rattle.hu_input.specs.declared.reason.Reason.{Reason}
use Rattle.hu_input.specs.declared.intake.LineStop.{LineStop}
use Rattle.hu_input.specs.declared.intake.LineStop.TheVariants as line
use Rattle.hu_input.specs.declared.input.InputStop.{InputStop}
use Rattle.hu_input.specs.declared.input.InputStop.TheVariants.{Refused, ReadFailed, NoMemory}
use Rattle.hu_input.specs.View.{View}
use Rattle.hu_input.specs.Input.{Refusal}
use Rattle.hu_input.specs.Intake.{IsOpen, IfHas, IfRefused, IsStopAt, StopsAt, outcome, outcome_at, Judges, Took}
use Rattle.hu_input.specs.Intake.{Refuses, RefusesLast, Ends, TookPiece, RefusesPiece}
use Rattle.hu_input.proofs.IntakeLemmas.{outcome_empty, outcome_last, outcome_last_refused}
use Rattle.hu_input.proofs.FrontLemmas.{begun_same, begun_by_test}

no_bytes : (bytes : List ℕ) → (0 < length bytes → ⊥) → bytes ≡ []
no_bytes [] none = refl
no_bytes (b ∷ bs) none = absurd (none (omega arith))

-- no line is held
begun_empty : (s : State) → ((s.whole ≡ false) × (0 < length s.bytes) → ⊥) → (begun s).bytes ≡ []
begun_empty s none = begun_by_test (λ b. b.bytes ≡ []) s.whole _ s (λ _. refl) (λ unfinished. no_bytes s.bytes (λ some. none (unfinished, some)))

module _ {R : Type 0} (reading : List ℕ → Result R Reason) (absolute : R → ℕ) (v : View R) where
  -- the file ended with a line feed, or without a byte
  pub ended_whole : ((v.lines.whole ≡ false) × (0 < length v.lines.bytes) → ⊥) → outcome reading absolute v.lines v.base [] ≡ Ok (records_of v.base)
  ended_whole none =
      let b = begun v.lines in
      ap (λ bytes. outcome_at reading absolute b.number b.before bytes v.base []) (begun_empty v.lines none)
      ∙ outcome_empty reading absolute b.number b.before v.base

  ended_begun : v.lines.whole ≡ false → outcome reading absolute v.lines v.base []
      ≡ outcome_at reading absolute v.lines.number v.lines.before v.lines.bytes v.base []
  ended_begun unfinished = ap (λ b. outcome_at reading absolute b.number b.before b.bytes v.base []) (begun_same v.lines unfinished)

  -- the last line has no line feed, and its record joined the base
  ended_joined : (next : ℕ × List R) → IsOpen v.lines → v.lines.whole ≡ false → 0 < length v.lines.bytes
      → Judges reading absolute (at_end v.lines) v.base next (Ok tt) → outcome reading absolute v.lines v.base [] ≡ Ok (records_of next)
  ended_joined next opened unfinished some judged =
      let held = opened.held in
      ended_begun unfinished
      ∙ outcome_last reading absolute v.lines.number v.lines.before v.base v.lines.bytes next judged.0 held.one some held.within judged.1 judged.2

  -- the last line has no line feed, and judging stopped at it
  ended_stopped : (next : ℕ × List R) (stop : LineStop) → IsOpen v.lines → v.lines.whole ≡ false → 0 < length v.lines.bytes
      → Judges reading absolute (at_end v.lines) v.base next (Err stop) → RefusesLast reading absolute v stop
  ended_stopped next (line.Refused number reason) opened unfinished some judged =
      let held = opened.held in
      ended_begun unfinished
      ∙ outcome_last_refused reading absolute v.lines.number v.lines.before v.base v.lines.bytes reason held.one some held.within judged.0
      ∙ ap (λ k. Err (record { number = k; reason = reason })) (sym judged.1)
  ended_stopped next line.NoMemory opened unfinished some judged = tt

  -- the last line has no line feed, and was judged
  pub ended_ok : (w : View R) (result : Result (Unit {0}) LineStop) → IsOpen v.lines → v.lines.whole ≡ false
      → 0 < length v.lines.bytes → w.lines ≡ at_end v.lines
      → Judges reading absolute (at_end v.lines) v.base w.base result → OnOk result (Ends reading absolute v w)
  ended_ok w (Ok _) opened unfinished some same judged =
      record { lines = same; carried = ap carried_of judged.2; records = ended_joined w.base opened unfinished some judged }
  ended_ok w (Err stop) opened unfinished some same judged = tt

  pub ended_err : (next : ℕ × List R) (result : Result (Unit {0}) LineStop) → IsOpen v.lines → v.lines.whole ≡ false → 0 < length v.lines.bytes
      → Judges reading absolute (at_end v.lines) v.base next result → IfErr result (RefusesLast reading absolute v)
  ended_err next (Ok _) opened unfinished some judged = tt
  ended_err next (Err stop) opened unfinished some judged = ended_stopped next stop opened unfinished some judged

-- a read gave the next bytes of the content
gives_next : (content : List ℕ) (at n : ℕ) (into : List ℕ) → Gives content at n into → n ≤ length into → at ≤ length content
    → (drop at content ≡ take n into ++ drop (at + n) content) × (at + n ≤ length content)
gives_next content at n into gives within so_far =
    let taken : length (take n into) ≡ length (take n (drop at content)) = ap length gives.bytes in (
      sym (take-append-drop n (drop at content)) ∙ ap (λ l. l ++ drop n (drop at content)) (sym gives.bytes)
          ∙ ap (λ l. take n into ++ l) (drop-drop n at content),
      omega (arith, length-take n into, length-take n (drop at content), length-drop at content),
    )

-- a read gave nothing, so the content has ended
gives_end : (content : List ℕ) (at : ℕ) (into : List ℕ) → Gives content at 0 into → 0 < length into
    → at ≤ length content → (length content ≡ at) × (drop at content ≡ [])
gives_end content at into gives room so_far =
    let over : length content ≤ at = (gives.end room).0 refl in
    (omega arith, drop_all at content over)

module _ {R : Type 0} (reading : List ℕ → Result R Reason) (absolute : R → ℕ) where
  piece_outcome : (v w : View R) (content : List ℕ) (at n : ℕ) (into : List ℕ) → Gives content at n into → n ≤ length into → 0 < length into
      → Took reading absolute v w (take n into) n → at ≤ length content
      → (at + n ≤ length content) × (n ≡ 0 → length content ≡ at)
      × (outcome reading absolute w.lines w.base (drop (at + n) content) ≡ outcome reading absolute v.lines v.base (drop at content))
  piece_outcome v w content at n into gives within room took so_far =
      let found = gives_next content at n into gives within so_far in
      let size : length (take n into) ≡ n = length-take-le n into within in (
        found.1,
        λ none. let at_end : Gives content at 0 into = subst (λ k. Gives content at k into) none gives in (gives_end content at into at_end room so_far).0,
        ap (λ rest. outcome reading absolute w.lines w.base (rest ++ drop (at + n) content)) (sym (drop_all n (take n into) (omega (arith, size))))
            ∙ took.outcome (drop (at + n) content)
            ∙ ap (outcome reading absolute v.lines v.base) (sym found.0),
      )

  piece_told : (v w : View R) (files : FilesState) (name : List ℕ) (at n : ℕ) (into : List ℕ) (told : Option (List ℕ → Option (List ℕ))) → files.contents ≡ told
      → GivesTold told name at into n → n ≤ length into → 0 < length into
      → Took reading absolute v w (take n into) n
      → IfSome told (λ t. IsSomeAnd (t name) (λ content. at ≤ length content → (at + n ≤ length content) × (n ≡ 0 → length content ≡ at)
      × (outcome reading absolute w.lines w.base (drop (at + n) content) ≡ outcome reading absolute v.lines v.base (drop at content))))
  piece_told v w files name at n into None is gives within room took = tt
  piece_told v w files name at n into (Some told) is gives within room took = piece_in (told name) gives
    where
      piece_in : (content : Option (List ℕ)) → MatchOption content ⊥ (λ bytes. Gives bytes at n into)
          → IsSomeAnd content (λ bytes. at ≤ length bytes → (at + n ≤ length bytes) × (n ≡ 0 → length bytes ≡ at)
          × (outcome reading absolute w.lines w.base (drop (at + n) bytes) ≡ outcome reading absolute v.lines v.base (drop at bytes)))
      piece_in None given = absurd given
      piece_in (Some bytes) given = piece_outcome v w bytes at n into given within room took

  -- a piece was read and taken in
  pub piece_read : (v w : View R) (old new : FilesState) (name : List ℕ) (at n : ℕ) (into : List ℕ)
      → Got old new name at into n → n ≤ length into → 0 < length into
      → Took reading absolute v w (take n into) n → TookPiece reading absolute v w old new name at n
  piece_read v w old new name at n into got within room took = record {
    same = got.same;
    opened = took.opened;
    count = took.count;
    carried = took.carried;
    told = piece_told v w old name at n into old.contents refl got.told within room took;
  }

  piece_refuses : (v : View R) (name : List ℕ) (at n : ℕ) (into : List ℕ) (told : Option (List ℕ → Option (List ℕ))) (number : ℕ) (reason : Reason)
      → GivesTold told name at into n → n ≤ length into → Refuses reading absolute v (take n into) (line.Refused number reason)
      → IfSome told (λ t. IsSomeAnd (t name) (RefusesPiece reading absolute v at (record { number = number; reason = reason })))
  piece_refuses v name at n into None number reason gives within refused = tt
  piece_refuses v name at n into (Some told) number reason gives within refused = refused_in (told name) gives
    where
      refused_in : (content : Option (List ℕ)) → MatchOption content ⊥ (λ bytes. Gives bytes at n into)
          → IsSomeAnd content (RefusesPiece reading absolute v at (record { number = number; reason = reason }))
      refused_in None given = absurd given
      refused_in (Some bytes) given = λ so_far.
          ap (outcome reading absolute v.lines v.base) (gives_next bytes at n into given within so_far).0 ∙ refused (drop (at + n) bytes)

  -- a stop at a line of a file, where that line is refused for what is so of it
  pub stops_at : (old new : FilesState) (name : List ℕ) (IsSo : Refusal → List ℕ → Type 0) (stop : LineStop) (result : InputStop)
      → IsStopAt name stop result → new ≡ old → IfRefused (λ refusal. IfHas old name (IsSo refusal)) stop → StopsAt old new name IsSo result
  stops_at old new name IsSo (line.Refused number reason) (Refused at n r) is same so = (
    is.0,
    same,
    subst (λ k. IfHas old name (IsSo (record { number = k; reason = r }))) (sym is.1)
        (subst (λ k. IfHas old name (IsSo (record { number = number; reason = k }))) (sym is.2) so),
  )
  stops_at old new name IsSo (line.Refused number reason) (ReadFailed at) is same so = absurd is
  stops_at old new name IsSo (line.Refused number reason) NoMemory is same so = absurd is
  stops_at old new name IsSo line.NoMemory (Refused at n r) is same so = absurd is
  stops_at old new name IsSo line.NoMemory (ReadFailed at) is same so = absurd is
  stops_at old new name IsSo line.NoMemory NoMemory is same so = same

  refused_told : (v : View R) (old : FilesState) (name : List ℕ) (at n : ℕ) (into : List ℕ) (stop : LineStop)
      → GivesTold old.contents name at into n → n ≤ length into → Refuses reading absolute v (take n into) stop
      → IfRefused (λ refusal. IfHas old name (RefusesPiece reading absolute v at refusal)) stop
  refused_told v old name at n into (line.Refused number reason) gives within refused =
      piece_refuses v name at n into old.contents number reason gives within refused
  refused_told v old name at n into line.NoMemory gives within refused = tt

  -- a piece was read, and a line of it is refused
  pub piece_stopped : (v : View R) (old new : FilesState) (name : List ℕ) (at n : ℕ) (into : List ℕ) (stop : LineStop)
      (result : InputStop) → Got old new name at into n → n ≤ length into
      → Refuses reading absolute v (take n into) stop → IsStopAt name stop result → StopsAt old new name (RefusesPiece reading absolute v at) result
  piece_stopped v old new name at n into stop result got within refused is =
      stops_at old new name (RefusesPiece reading absolute v at) stop result is got.same (refused_told v old name at n into stop got.told within refused)
