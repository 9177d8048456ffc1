-- Why a run stops short of its answer: the status, and the line that tells of it.
use Rattle.std.specs.Prelude.{ℕ, List, [], ◌∷◌, codes, decimal}
use Rattle.std.specs.Fmt.{signed_decimal}
use Rattle.hu_proof.specs.declared.fault.CheckFault.{CheckFault}
use Rattle.hu_proof.specs.declared.fault.CheckFault.TheVariants as denial
use Rattle.hu_input.specs.declared.reason.Reason.{Reason}
use Rattle.hu_input.specs.Reason.{joined, reason_text}
use Rattle.hu_run.specs.declared.words.WordFault.{WordFault}
use Rattle.hu_run.specs.declared.words.WordFault.TheVariants as word
use Rattle.hu_input.specs.declared.input.InputStop.{InputStop}
use Rattle.hu_input.specs.declared.input.InputStop.TheVariants as input
use Rattle.hu_certify.specs.declared.fault.CertFault.{CertFault}
use Rattle.hu_certify.specs.declared.fault.CertFault.TheVariants as cert
use Rattle.hu_run.specs.declared.stop.Stop.{Stop}
use Rattle.hu_run.specs.Ending.{Denial, has_fault, too_long}
use Rattle.hu_run.specs.declared.stop.Stop.TheVariants.{
  Words,
  Refused,
  ReadFailed,
  Denied,
  TooLong,
  WriteFailed,
  NoMemory,
}

-- the reason of refused words
abbrev pub word_text : WordFault → List ℕ
word_text word.TooFewWords = codes "too few words"
word_text word.TooManyWords = codes "too many words"
word_text word.BadSeed = codes "bad seed"
word_text word.TaskUnknown = codes "unknown task"
word_text word.EngineNotOffered = codes "engine not offered"
word_text word.BadMinimum = codes "bad minimum"
word_text word.BadTop = codes "bad top"
word_text word.BadLengths = codes "bad lengths"
word_text word.TooManyFiles = codes "too many files"

-- the line that tells a text
abbrev pub told_line : List ℕ → List ℕ
told_line text = joined (codes "hupm: " ∷ text ∷ codes "\n" ∷ [])

-- the line that tells of a refused line
abbrev pub refusal_line : List ℕ → ℕ → Reason → List ℕ
refusal_line name number reason = joined (codes "hupm: " ∷ name ∷ codes ":" ∷ decimal number ∷ codes ": " ∷ reason_text reason ∷ codes "\n" ∷ [])

-- the line that tells of a read that failed
abbrev pub read_failed_line : List ℕ → List ℕ
read_failed_line name = joined (codes "hupm: read failed: " ∷ name ∷ codes "\n" ∷ [])

-- the reason of a certificate that isn't accepted
abbrev pub denial_text : CheckFault → List ℕ
denial_text denial.TooLong = codes "certificate too long"
denial_text (denial.NotOfForm line) = codes "not of the form"
denial_text (denial.WrongMinimum stated) = joined (codes "minimum " ∷ signed_decimal stated ∷ codes " stated" ∷ [])
denial_text denial.WrongOrder = codes "wrong order of items"
denial_text (denial.WrongPrefix line) = codes "wrong prefix"
denial_text (denial.WrongUtility line stated summed) =
    joined (codes "utility " ∷ signed_decimal stated ∷ codes " but sum " ∷ signed_decimal summed ∷ [])
denial_text (denial.WrongChild line item) = joined (codes "item " ∷ decimal item.0 ∷ codes " out of order" ∷ [])
denial_text (denial.LeftOut line item) = joined (codes "item " ∷ decimal item.0 ∷ codes " left out" ∷ [])
denial_text (denial.WrongBound line item stated summed) = joined (codes "bound " ∷ signed_decimal stated ∷ codes " of item "
    ∷ decimal item.0 ∷ codes " but sum " ∷ signed_decimal summed ∷ [])
denial_text (denial.NotCut line item bound) =
    joined (codes "bound " ∷ signed_decimal bound ∷ codes " of item " ∷ decimal item.0 ∷ codes " reaches" ∷ [])
denial_text denial.NoMemory = codes "out of memory"

-- the line of the certificate that has the fault: the first of all where it is too long or states another minimum
abbrev pub denied_line : CheckFault → ℕ
denied_line (denial.NotOfForm line) = line
denied_line denial.WrongOrder = 2
denied_line (denial.WrongPrefix line) = line
denied_line (denial.WrongUtility line stated summed) = line
denied_line (denial.WrongChild line item) = line
denied_line (denial.LeftOut line item) = line
denied_line (denial.WrongBound line item stated summed) = line
denied_line (denial.NotCut line item bound) = line
denied_line fault = 1

-- the line that tells of a fault of a certificate
abbrev pub fault_line : List ℕ → CheckFault → List ℕ
fault_line cert fault = joined (codes "hupm: " ∷ cert ∷ codes ":" ∷ decimal (denied_line fault) ∷ codes ": " ∷ denial_text fault ∷ codes "\n" ∷ [])

-- the line that tells what is wrong with a certificate
abbrev pub denial_line : Denial → List ℕ
denial_line (has_fault cert fault) = fault_line cert fault
denial_line too_long = told_line (codes "certificate too long")

-- the line that tells of a stop
abbrev pub stop_line : Stop → List ℕ
stop_line (Words fault) = told_line (word_text fault)
stop_line (Refused name number reason) = refusal_line name.now number reason
stop_line (ReadFailed name) = read_failed_line name.now
stop_line (Denied cert fault) = fault_line cert.now fault
stop_line TooLong = told_line (codes "certificate too long")
stop_line WriteFailed = told_line (codes "write failed")
stop_line NoMemory = told_line (codes "out of memory")

-- the status of a stop
abbrev pub stop_status : Stop → ℕ
stop_status (Refused name number reason) = 1
stop_status (Words fault) = 2
stop_status (ReadFailed name) = 3
stop_status WriteFailed = 4
stop_status NoMemory = 5
stop_status (Denied cert fault) = 6
stop_status TooLong = 6

-- the stop of a run where its files gave no base
abbrev pub stop_of_input : InputStop → Stop
stop_of_input (input.Refused name number reason) = Refused name number reason
stop_of_input (input.ReadFailed name) = ReadFailed name
stop_of_input input.NoMemory = NoMemory

-- the stop of a run where no certificate was given
abbrev pub stop_of_certificate : CertFault → Stop
stop_of_certificate cert.TooLong = TooLong
stop_of_certificate cert.NoMemory = NoMemory
