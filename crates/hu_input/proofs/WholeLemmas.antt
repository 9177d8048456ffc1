-- What the pieces of a file make of its records.
use Rattle.std.proofs.Common.{◌≡◌, ℕ, ◌+◌, ◌≤◌, List, [], length, drop, Result, Option, Some, None, refl, sym, ap, ◌∙◌, subst, arith, sum_by}
use Rattle.std.specs.Prelude.{IfSome, IsSomeAnd}
use Rattle.std.proofs.lemmas.List.{drop_all}
use Rattle.hu_base.specs.Base.{carried_of, sum_of}
use Rattle.hu_io.specs.State.{FilesState}
use Rattle.hu_input.specs.declared.reason.Reason.{Reason}
use Rattle.hu_input.specs.declared.intake.LineStop.{LineStop}
use Rattle.hu_input.specs.declared.input.InputStop.{InputStop}
use Rattle.hu_input.specs.declared.input.InputStop.TheVariants.{Refused, ReadFailed, NoMemory}
use Rattle.hu_input.specs.View.{View}
use Rattle.hu_input.specs.Input.{Refusal, with_front}
use Rattle.hu_input.specs.Intake.{IsFresh, IfHas, IfRefused, IsStopAt, StopsAt, bytes_in, outcome, outcome_at, RefusesLast, Closes, TookPiece, RefusesPiece}
use Rattle.hu_input.specs.Intake.{TookFile, RefusesFile}
use Rattle.hu_input.proofs.FrontLemmas.{begun_same}
use Rattle.hu_input.proofs.FileLemmas.{stops_at}
use Rattle.hu_input.proofs.NamesLemmas.{with_front-nil}
use Rattle.hu_input.specs.declared.intake.LineStop.TheVariants as line
use Rattle.hu_input.specs.Input as spec

-- what is so of the content of a file that is told and there
abbrev pub IfThere : FilesState → List ℕ → (List ℕ → Type 0) → Type 0
IfThere files name IsSo = IfSome files.contents (λ told. IfSome (told name) IsSo)

pub there_by : (contents : Option (List ℕ → Option (List ℕ))) (name : List ℕ) (P : List ℕ → Type 0)
    → ((content : List ℕ) → P content) → IfSome contents (λ told. IfSome (told name) P)
there_by None name P always = tt
there_by (Some told) name P always = content_by (told name)
  where
    content_by : (content : Option (List ℕ)) → IfSome content P
    content_by None = tt
    content_by (Some content) = always content

pub both_by : (contents : Option (List ℕ → Option (List ℕ))) (name : List ℕ) (P Q S : List ℕ → Type 0)
    → ((content : List ℕ) → P content → Q content → S content)
    → IfSome contents (λ told. IfSome (told name) P) → IfSome contents (λ told. IsSomeAnd (told name) Q) → IfSome contents (λ told. IsSomeAnd (told name) S)
both_by None name P Q S so first second = tt
both_by (Some told) name P Q S so first second = content_by (told name) first second
  where
    content_by : (content : Option (List ℕ)) → IfSome content P → IsSomeAnd content Q → IsSomeAnd content S
    content_by None p q = absurd q
    content_by (Some content) p q = so content p q

pub weaker_by : (contents : Option (List ℕ → Option (List ℕ))) (name : List ℕ) (P : List ℕ → Type 0)
    → IfSome contents (λ told. IsSomeAnd (told name) P) → IfSome contents (λ told. IfSome (told name) P)
weaker_by None name P known = tt
weaker_by (Some told) name P known = content_by (told name) known
  where
    content_by : (content : Option (List ℕ)) → IsSomeAnd content P → IfSome content P
    content_by None p = tt
    content_by (Some content) p = p

module _ {R : Type 0} (reading : List ℕ → Result R Reason) (absolute : R → ℕ) where
  -- the records of a file, where nothing of it was taken in
  fresh_outcome : (v : View R) (content : List ℕ) → IsFresh v
      → outcome reading absolute v.lines v.base content ≡ spec.records_of reading absolute v.lines.before (carried_of v.base) content
  fresh_outcome v content fresh =
      let s = v.lines in
      let sum : sum_of absolute v.base ≡ carried_of v.base = omega (arith, ap (sum_by absolute) fresh.none) in
      ap (λ b. outcome_at reading absolute b.number b.before b.bytes v.base content) (begun_same s fresh.start.unfinished)
      ∙ ap (λ n. outcome_at reading absolute n s.before s.bytes v.base content) fresh.start.first
      ∙ ap (λ bytes. outcome_at reading absolute 1 s.before bytes v.base content) fresh.start.nothing
      ∙ ap (λ front. with_front front (spec.records_of reading absolute s.before (sum_of absolute v.base) content)) fresh.none
      ∙ with_front-nil (spec.records_of reading absolute s.before (sum_of absolute v.base) content)
      ∙ ap (λ n. spec.records_of reading absolute s.before n content) sum

  -- what was read so far is a front of the content, and what is left of it decides the rest
  abbrev pub ReadSoFar : View R → View R → ℕ → List ℕ → Type 0
  ReadSoFar v u at content =
      (at ≤ length content) × (outcome reading absolute u.lines u.base (drop at content)
      ≡ outcome reading absolute v.lines v.base content)

  pub so_far_none : (v : View R) (files : FilesState) (name : List ℕ) → IfThere files name (ReadSoFar v v 0)
  so_far_none v files name = there_by files.contents name (ReadSoFar v v 0) (λ content. (omega arith, refl))

  -- one more piece was read
  pub so_far_more : (v u w : View R) (first old new : FilesState) (name : List ℕ) (at n : ℕ) → IfThere first name (ReadSoFar v u at) → old ≡ first
      → TookPiece reading absolute u w old new name at n → IfThere first name (ReadSoFar v w (at + n))
  so_far_more v u w first old new name at n so_far same took =
      weaker_by first.contents name (ReadSoFar v w (at + n))
      (both_by first.contents name (ReadSoFar v u at) _ (ReadSoFar v w (at + n))
      (λ content known piece. let more = piece known.0 in (more.0, more.2 ∙ known.1))
      so_far (subst (λ files. IfHas files name (λ content. at ≤ length content → (at + n ≤ length content) × (n ≡ 0 → length content ≡ at)
      × (outcome reading absolute w.lines w.base (drop (at + n) content) ≡ outcome reading absolute u.lines u.base (drop at content)))) same took.told))

  -- the last piece is empty: what is held decides the rest
  so_far_ended : (v u w : View R) (first old new : FilesState) (name : List ℕ) (at n : ℕ) → IfThere first name (ReadSoFar v u at) → old ≡ first
      → TookPiece reading absolute u w old new name at n → n ≡ 0
      → IfHas first name (λ content. (length content ≡ at) × (outcome reading absolute w.lines w.base [] ≡ outcome reading absolute v.lines v.base content))
  so_far_ended v u w first old new name at n so_far same took none =
      both_by first.contents name (ReadSoFar v u at) _ (λ content. (length content ≡ at)
      × (outcome reading absolute w.lines w.base [] ≡ outcome reading absolute v.lines v.base content))
      (λ content known piece.
      let more = piece known.0 in
      let size : length content ≡ at = more.1 none in
      let over : length content ≤ at + n = omega (arith, size) in
      (size, ap (outcome reading absolute w.lines w.base) (sym (drop_all (at + n) content over)) ∙ more.2 ∙ known.1))
      so_far (subst (λ files. IfHas files name (λ content. at ≤ length content → (at + n ≤ length content) × (n ≡ 0 → length content ≡ at)
      × (outcome reading absolute w.lines w.base (drop (at + n) content) ≡ outcome reading absolute u.lines u.base (drop at content)))) same took.told)

  has_by : (contents : Option (List ℕ → Option (List ℕ))) (name : List ℕ) (P Q : List ℕ → Type 0) → ((content : List ℕ) → P content → Q content)
      → IfSome contents (λ told. IsSomeAnd (told name) P) → IfSome contents (λ told. IsSomeAnd (told name) Q)
  has_by contents name P Q so known =
      both_by contents name (λ _. Unit {0}) P Q (λ content _ p. so content p)
      (there_by contents name (λ _. Unit {0}) (λ _. tt)) known

  -- the file was read to its end
  pub file_read : (v u w x : View R) (first old new : FilesState) (name : List ℕ) (at n : ℕ) (base : ℕ × List R)
      → IsFresh v → IfThere first name (ReadSoFar v u at) → old ≡ first
      → TookPiece reading absolute u w old new name at n → n ≡ 0 → bytes_in u.lines ≡ bytes_in v.lines + at → carried_of u.base ≡ carried_of v.base
      → Closes reading absolute w x base → TookFile reading absolute v x first new name base
  file_read v u w x first old new name at n base fresh so_far same took none count carried closes = record {
    same = took.same ∙ same;
    fresh = closes.fresh;
    sum = closes.sum;
    carried = closes.carried ∙ took.carried ∙ carried;
    fits = closes.fits;
    told = has_by first.contents name _ _
        (λ content known. (
          omega (arith, closes.before, took.count, none, count, ap length fresh.start.nothing, known.0),
          sym (fresh_outcome v content fresh) ∙ sym known.1 ∙ closes.records,
        ))
        (so_far_ended v u w first old new name at n so_far same took none);
  }

  refused_at_end : (v w : View R) (first : FilesState) (name : List ℕ) (at : ℕ) (stop : LineStop) → IsFresh v
      → IfHas first name (λ content. (length content ≡ at) × (outcome reading absolute w.lines w.base [] ≡ outcome reading absolute v.lines v.base content))
      → RefusesLast reading absolute w stop → IfRefused (λ refusal. IfHas first name (RefusesFile reading absolute v refusal)) stop
  refused_at_end v w first name at (line.Refused number reason) fresh known refused =
      has_by first.contents name _ (RefusesFile reading absolute v (record { number = number; reason = reason }))
      (λ content is. sym (fresh_outcome v content fresh) ∙ sym is.1 ∙ refused) known
  refused_at_end v w first name at line.NoMemory fresh known refused = tt

  -- the last line of the file is refused
  pub file_refused : (v u w : View R) (first old new : FilesState) (name : List ℕ) (at n : ℕ) (stop : LineStop)
      (result : InputStop) → IsFresh v → IfThere first name (ReadSoFar v u at) → old ≡ first
      → TookPiece reading absolute u w old new name at n → n ≡ 0
      → RefusesLast reading absolute w stop → IsStopAt name stop result → StopsAt first new name (RefusesFile reading absolute v) result
  file_refused v u w first old new name at n stop result fresh so_far same took none refused is =
      stops_at reading absolute first new name (RefusesFile reading absolute v) stop result is (took.same ∙ same)
      (refused_at_end v w first name at stop fresh (so_far_ended v u w first old new name at n so_far same took none) refused)

  -- reading stopped within the file
  pub file_stopped : (v u : View R) (first new : FilesState) (name : List ℕ) (at : ℕ) (stop : InputStop) → IsFresh v → IfThere first name (ReadSoFar v u at)
      → StopsAt first new name (RefusesPiece reading absolute u at) stop → StopsAt first new name (RefusesFile reading absolute v) stop
  file_stopped v u first new name at (Refused k number reason) fresh so_far stops =
      let refusal : Refusal = record { number = number; reason = reason } in (
        stops.0,
        stops.1,
        both_by first.contents name (ReadSoFar v u at) (RefusesPiece reading absolute u at refusal) (RefusesFile reading absolute v refusal)
            (λ content known piece. sym (fresh_outcome v content fresh) ∙ sym known.1 ∙ piece known.0) so_far stops.2,
      )
  file_stopped v u first new name at (ReadFailed k) fresh so_far stops = stops
  file_stopped v u first new name at NoMemory fresh so_far stops = stops
