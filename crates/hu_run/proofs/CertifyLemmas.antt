-- What the making of a certificate comes to, over what was read of the files.
use Rattle.std.proofs.Common.{◌≡◌, ℕ, ℤ, ◌<◌, ◌≤◌, nat_lt, true, false, List, length, Ok, Option, Some, None, refl}
use Rattle.std.specs.Prelude.{IfSome}
use Rattle.std.specs.Option.{option_map}
use Rattle.std.proofs.lemmas.Bool.{lt-ltb, le-ltb}
use Rattle.hu_kind.specs.Record.{absolute_of}
use Rattle.hu_base.specs.Base.{records_in}
use Rattle.hu_io.specs.State.{FilesState}
use Rattle.hu_input.specs.Formats.{transaction_reading}
use Rattle.hu_input.specs.Reading.{ReadsAll}
use Rattle.hu_certify.specs.Text.{certificate_text}
use Rattle.hu_certify.specs.declared.fault.CertFault.{CertFault}
use Rattle.hu_certify.specs.declared.fault.CertFault.TheVariants as cert
use Rattle.hu_run.specs.Job.{certify}
use Rattle.hu_run.specs.Attempt.{StopsAt}
use Rattle.hu_run.specs.Stop.{stop_of_certificate}
use Rattle.hu_run.specs.Ending.{Ending, writes, denies, too_long, given, transactions, certifying_ending}

-- a text that isn't too long is given
pub given-short : (text : List ℕ) → length text ≤ 268435456 → given text ≡ writes text
given-short text short = let test : nat_lt 268435456 (length text) ≡ false = le-ltb 268435456 (length text) short in simp test refl

pub given-long : (text : List ℕ) → 268435456 < length text → given text ≡ denies too_long
given-long text long = let test : nat_lt 268435456 (length text) ≡ true = lt-ltb 268435456 (length text) long in simp test refl

-- what the making comes to, where the contents are told
pub certified : (least : ℤ) (files read : FilesState) (names : List (List ℕ)) (bases : List (ℕ × List (List (ℕ × ℤ)))) {e : Ending}
    → ReadsAll transaction_reading absolute_of 0 files read names bases → given (certificate_text (records_in bases) least) ≡ e
    → IfSome (option_map (λ told. certifying_ending least told names) files.contents) (λ ending. ending ≡ e)
certified least files read names bases {e} all is = by files.contents all.all
  where
    by : (contents : Option (List ℕ → Option (List ℕ))) → IfSome contents (λ told. transactions told names ≡ Ok (records_in bases))
        → IfSome (option_map (λ told. certifying_ending least told names) contents) (λ ending. ending ≡ e)
    by None are = tt
    by (Some told) are = simp are is

-- why none was given
pub uncertified : (least : ℤ) (files read : FilesState) (names : List (List ℕ)) (bases : List (ℕ × List (List (ℕ × ℤ)))) (fault : CertFault)
    → ReadsAll transaction_reading absolute_of 0 files read names bases
    → (fault ≡ cert.TooLong → 268435456 < length (certificate_text (records_in bases) least))
    → StopsAt (certify least) files read names (stop_of_certificate fault)
uncertified least files read names bases cert.NoMemory all long = all.same
uncertified least files read names bases cert.TooLong all long = record {
  may = tt;
  ending = certified least files read names bases all (given-long (certificate_text (records_in bases) least) (long refl));
  same = all.same;
}
