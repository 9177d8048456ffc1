-- What the check of a certificate comes to, over what was read of the files and of the certificate.
use Rattle.std.proofs.Common.{◌≡◌, ℕ, ℤ, ◌≤◌, Bool, true, false, nat_lt, List, [], ◌∷◌, ◌++◌, length, take}
use Rattle.std.proofs.Common.{Result, Ok, Err, Option, Some, None, refl, sym, ap, ◌∙◌, subst, arith}
use Rattle.std.specs.Prelude.{IfSome, IsSomeAnd, IsOk, slice_get}
use Rattle.std.specs.Option.{option_map}
use Rattle.std.proofs.lemmas.Bool.{ltb-true, ltb-false}
use Rattle.std.proofs.lemmas.List.{take_all, length-take-le}
use Rattle.hu_kind.specs.Record.{absolute_of}
use Rattle.hu_base.specs.Base.{records_in}
use Rattle.hu_io.specs.State.{FilesState, Missed}
use Rattle.hu_input.specs.Formats.{transaction_reading}
use Rattle.hu_input.specs.Reading.{ReadsAll}
use Rattle.hu_input.specs.Content.{HasContent, StopsReading}
use Rattle.hu_input.specs.declared.input.InputStop.{InputStop}
use Rattle.hu_input.specs.declared.input.InputStop.TheVariants as input
use Rattle.hu_proof.specs.Check.{first_fault}
use Rattle.hu_run.specs.declared.stop.Stop.{Stop}
use Rattle.hu_run.specs.declared.stop.Stop.TheVariants.{Words, Refused, ReadFailed, Denied, TooLong, WriteFailed, NoMemory}
use Rattle.hu_run.specs.declared.answer.Answer.{Answer}
use Rattle.hu_run.specs.Job.{check}
use Rattle.hu_run.specs.Ending.{Ending, has_fault, denies, transactions, judging_ending, checking_ending}
use Rattle.hu_run.specs.Stop.{stop_of_input}
use Rattle.hu_run.specs.Attempt.{Answers, Judges, StopsAt}

-- the place after all names
place-after : (names : List (List ℕ)) (name : List ℕ) → slice_get (names ++ name ∷ []) (length names) ≡ Some name
place-after [] name = refl
place-after (n ∷ names) name = place-after names name

-- one byte more than a certificate may have shows that it is too long
fault-of-front : (records : List (List (ℕ × ℤ))) (least : ℤ) (content : List ℕ)
    → first_fault records least (take 268435457 content) ≡ first_fault records least content
fault-of-front records least content = by (nat_lt 268435456 (length content)) refl
  where
    by : (long : Bool) → nat_lt 268435456 (length content) ≡ long
        → first_fault records least (take 268435457 content) ≡ first_fault records least content
    by true is =
        let past : 268435457 ≤ length content = ltb-true 268435456 (length content) is in
        let front : nat_lt 268435456 (length (take 268435457 content)) ≡ true = ap (nat_lt 268435456) (length-take-le 268435457 content past) in
        simp (front, is) refl
    by false is = ap (first_fault records least) (take_all 268435457 content (omega (arith, ltb-false 268435456 (length content) is)))

-- what is so of a file that is told
with-told : (P Q : (List ℕ → Option (List ℕ)) → Type 0) (R : Ending → Type 0) (f : (List ℕ → Option (List ℕ)) → Ending)
    (contents : Option (List ℕ → Option (List ℕ))) → ((told : List ℕ → Option (List ℕ)) → P told → Q told → R (f told))
    → IfSome contents P → IfSome contents Q → IfSome (option_map f contents) R
with-told P Q R f None so p q = tt
with-told P Q R f (Some told) so p q = so told p q

module _ (least : ℤ) (cert : List ℕ) (files read : FilesState) (names : List (List ℕ)) (bases : List (ℕ × List (List (ℕ × ℤ))))
    (all : ReadsAll transaction_reading absolute_of 0 files read names bases) where
  abbrev AreAll : (List ℕ → Option (List ℕ)) → Type 0
  AreAll told = transactions told names ≡ Ok (records_in bases)

  abbrev IsCert : List ℕ → (List ℕ → Option (List ℕ)) → Type 0
  IsCert text told = IsSomeAnd (told cert) (λ content. text ≡ take 268435457 content)

  -- what the check comes to where the certificate was read
  checked : (text : List ℕ) (told : List ℕ → Option (List ℕ)) → AreAll told → IsCert text told
      → checking_ending least cert told names ≡ judging_ending least cert (records_in bases) (first_fault (records_in bases) least text)
  checked text told are is = by (told cert) refl is
    where
      by : (content : Option (List ℕ)) → told cert ≡ content → IsSomeAnd content (λ content. text ≡ take 268435457 content)
          → checking_ending least cert told names ≡ judging_ending least cert (records_in bases) (first_fault (records_in bases) least text)
      by None there front = absurd front
      by (Some content) there front = simp (are, there)
          (sym (ap (judging_ending least cert (records_in bases))
          (ap (first_fault (records_in bases) least) front ∙ fault-of-front (records_in bases) least content)))

  -- a read of the certificate failed, or there was no memory
  pub cert-unread : (new : FilesState) (stop : InputStop) → StopsReading read new cert stop → StopsAt (check least cert) files new names (stop_of_input stop)
  cert-unread new (input.Refused name number reason) never = absurd never
  cert-unread new input.NoMemory same = same ∙ all.same
  cert-unread new (input.ReadFailed name) fails = record {
    place = length names;
    named = place-after names cert ∙ ap Some (sym fails.named);
    accepted = accepted files.contents all.all;
    missed = subst (λ f. Missed f new name.now) all.same (subst (Missed read new) (sym fails.named) fails.missed);
  }
    where
      accepted : (contents : Option (List ℕ → Option (List ℕ))) → IfSome contents AreAll
          → IfSome contents (λ told. IsOk (transactions told (take (length names) names)))
      accepted None are = tt
      accepted (Some told) are =
          subst (λ ns. IsOk (transactions told ns)) (sym (take_all (length names) names (omega arith))) (subst IsOk (sym are) refl)

  -- what the check comes to, where the contents are told
  comes : (new : FilesState) (text : List ℕ) {e : Ending} → HasContent 268435457 read new cert text
      → judging_ending least cert (records_in bases) (first_fault (records_in bases) least text) ≡ e
      → IfSome (option_map (λ told. checking_ending least cert told names) files.contents) (λ ending. ending ≡ e)
  comes new text {e} has is = with-told AreAll (IsCert text) (λ ending. ending ≡ e) (λ told. checking_ending least cert told names) files.contents
      (λ told are front. checked text told are front ∙ is) all.all
      (subst (λ f. IfSome f.contents (IsCert text)) all.same has.content)

  -- the certificate was read and judged
  pub cert-judged : (new : FilesState) (text : List ℕ) (result : Result Answer Stop) → HasContent 268435457 read new cert text
      → Judges least cert (records_in bases) text result → Answers (check least cert) files new names result
  cert-judged new text (Ok answer) has judged = record {
    ending = comes new text has judged;
    same = has.same ∙ all.same;
  }
  cert-judged new text (Err (Denied named fault)) has judged = record {
    may = judged.1;
    ending = comes new text has (judged.0 ∙ ap (λ name. denies (has_fault name fault)) (sym judged.1));
    same = has.same ∙ all.same;
  }
  cert-judged new text (Err NoMemory) has judged = has.same ∙ all.same
  cert-judged new text (Err (Words fault)) has judged = absurd judged
  cert-judged new text (Err (Refused name number reason)) has judged = absurd judged
  cert-judged new text (Err (ReadFailed name)) has judged = absurd judged
  cert-judged new text (Err TooLong) has judged = absurd judged
  cert-judged new text (Err WriteFailed) has judged = absurd judged
