-- What the end of an attempt says of the status.
use Rattle.std.proofs.Common.{◌≡◌, ◌∙◌, ◌⊎◌, ℕ, List, [], ◌∷◌, Result, Ok, Err, Option, Some, ap, sym, subst, refl, inl, inr, arith}
use Rattle.std.specs.Prelude.{IsErr, IsOkAnd, slice_get, codes, ⊤}
use Rattle.std.specs.List.{Contains, drop-map}
use Rattle.std.specs.String.{string_bytes}
use Rattle.std.specs.declared.string.String.{String}
use Rattle.std.specs.declared.alloc.Global.{Global}
use Rattle.hu_input.specs.Names.{texts_of}
use Rattle.std.proofs.lemmas.Result.{IfOk-weaker}
use Rattle.std.proofs.lemmas.Option.{slice_get_within, get_or_from_slice_get}
use Rattle.hu_io.specs.Count.{Rose}
use Rattle.hu_io.specs.State.{FilesState, Appended, Broke, Missed}
use Rattle.hu_input.specs.Input.{Refusal}
use Rattle.hu_run.specs.declared.words.WordFault.{WordFault}
use Rattle.hu_run.specs.declared.stop.Stop.{Stop}
use Rattle.hu_run.specs.declared.stop.Stop.TheVariants.{Words, Refused, ReadFailed, Denied, TooLong, WriteFailed, NoMemory}
use Rattle.hu_run.specs.Job.{Asked, mine, size, average, certify, check, drill, job, names_of, reads_of}
use Rattle.hu_run.specs.Ending.{Denial, has_fault, too_long, Ending, writes, refuses, denies, ending, status_of}
use Rattle.hu_run.specs.Stop.{stop_status, stop_line, told_line, word_text, refusal_line, read_failed_line, denial_line}
use Rattle.hu_run.specs.Run.{Streams, Runs, Spares, Tells, TellsRefused, TellsUnread, TellsDenied, ComesTo, WhereTold, Writing, Lacking, Unharmed}
use Rattle.hu_run.proofs.ResultLemmas.{from_ok, and_ok, if_ok, any_ok, no_ok, both_ok, if_some, any_some}
use Rattle.hu_run.proofs.StatusLemmas.{SaidBy, said-within, said-at, SaysWords, says-job, says-no_job}
use Rattle.hu_run.proofs.SparesLemmas.{sink-same, sink-put, sink-broke, sink-told, spares-written, spares-stopped, spares-unread}
use Rattle.hu_run.specs.Attempt.{HasText, HasRefusal, HasFailed, HasDenial, Puts, Ends}

-- the texts of the words that name files are those words among the texts
pub names-of-texts : (asked : Asked) (words : List (String Global)) → names_of asked (texts_of words) ≡ texts_of (names_of asked words)
names-of-texts (mine m) words = drop-map string_bytes 4 words
names-of-texts (size s) words = drop-map string_bytes 6 words
names-of-texts (average s) words = drop-map string_bytes 4 words
names-of-texts (certify least) words = drop-map string_bytes 2 words
names-of-texts (check least cert) words = drop-map string_bytes 3 words
names-of-texts (drill seed) words = refl

-- what words ask for has a text
pub has-text : (words : List (List ℕ)) (asked : Asked) (old new : FilesState) (names : List (List ℕ)) (text : List ℕ) (fact : List ℕ → Type 0)
    → job words ≡ Ok asked → names ≡ names_of asked words → HasText asked old new names text → fact text → Puts words old new fact
has-text words asked old new names text fact is named has so =
    subst (λ j. IsOkAnd j (λ a. (t : List ℕ) × HasText a old new (names_of a words) t × fact t)) (sym is)
    (text, subst (λ ns. HasText asked old new ns text) named has, so)

-- a name at a place is one of the names
pub place_is_among : (names : List (List ℕ)) (i : ℕ) (name : List ℕ) → slice_get names i ≡ Some name → Contains names name
place_is_among names i name place = (i, slice_get_within names i name place, get_or_from_slice_get names i name name place)

module _ (s : Streams) where
  -- what a job comes to
  abbrev comes_to : Asked → Option Ending
  comes_to asked = ending asked s.files.contents (names_of asked s.words)

  abbrev EndsBy : Result (Unit {0}) Stop → Type 0
  EndsBy result = Ends s.words s.files s.files_after s.out s.out_after result

  -- ---- what every end says

  -- what each status says alone, from 0 on
  abbrev facts : List (Type 0)
  facts = ComesTo s (Writing (Appended s.out s.out_after)) ∷ IsOkAnd (job s.words) (TellsRefused s) ∷ IsErr (job s.words)
      ∷ IsOkAnd (job s.words) (TellsUnread s)
      ∷ (ComesTo s (Writing (Broke s.out s.out_after)) × Rose s.out.faults s.out_after.faults × Tells s (told_line (codes "write failed")))
      ∷ Tells s (told_line (codes "out of memory")) ∷ IsOkAnd (job s.words) (TellsDenied s) ∷ []

  -- what a status says of the ending: complete, and lacking
  abbrev Fits : ℕ → Ending → Type 0
  Fits status e = (Unharmed s → (status ≡ status_of e) ⊎ (status ≡ 5)) × (Lacking e → (status ≡ 3) ⊎ (status ≡ 5))

  -- all that is promised of a status, which says its own fact and never another's
  runs-by : (status : ℕ) → SaidBy facts status → SaysWords s (job s.words) status → WhereTold s (Fits status) → Spares s status → Runs s status
  runs-by status said words told spared = record {
    within = let within = said-within facts status said in omega (arith, within);
    done = said-at facts status said 0;
    refused = said-at facts status said 1;
    no_job = (said-at facts status said 2, words.refused);
    no_job_told = words.told;
    unread = said-at facts status said 3;
    broken = λ is. (said-at facts status said 4 is).0;
    broken_rose = λ is. (said-at facts status said 4 is).1;
    broken_told = λ is. (said-at facts status said 4 is).2;
    denied = said-at facts status said 6;
    memory_told = said-at facts status said 5;
    complete = IfOk-weaker (job s.words) _ _ (λ asked p. if_some (comes_to asked) _ _ (λ e fits. fits.0) p) told;
    lacking = IfOk-weaker (job s.words) _ _ (λ asked p. if_some (comes_to asked) _ _ (λ e fits. fits.1) p) told;
    spares = spared;
  }

  -- an ending that is no missing file
  fits : (status : ℕ) (x : Ending) → (Unharmed s → status ≡ status_of x) → (Lacking x → ⊥) → (e : Ending) → e ≡ x → Fits status e
  fits status x at there e is = (λ unharmed. inl (at unharmed ∙ sym (ap status_of is)), λ lacking. absurd (there (subst Lacking is lacking)))

  -- the job came to a text, of which this is so
  module _ (fact : List ℕ → Type 0) (ends : Puts s.words s.files s.files_after fact) where
    text-done : ComesTo s (Writing fact)
    text-done = and_ok (job s.words) _ _ (λ asked p. if_some (comes_to asked) _ _ (λ e is. subst (Writing fact) (sym is) p.2) p.1.ending) ends

    text-fits : (status : ℕ) → (Unharmed s → status ≡ 0) → WhereTold s (Fits status)
    text-fits status at =
        if_ok (job s.words) _ _ (λ asked p. if_some (comes_to asked) _ _ (fits status (writes p.0) at (λ lacking. lacking)) p.1.ending) ends

    text-same : s.files_after ≡ s.files
    text-same = from_ok (job s.words) _ _ (λ asked p. p.1.same) ends

    text-put : (text : List ℕ) × fact text
    text-put = from_ok (job s.words) _ _ (λ asked p. (p.0, p.2)) ends

  -- ---- each end

  -- the whole text was appended
  done : Puts s.words s.files s.files_after (Appended s.out s.out_after) → s.err_after ≡ s.err → Runs s 0
  done ends silent =
      let W = Appended s.out s.out_after in
      let put = (text-put W ends).1 in
      runs-by 0 (text-done W ends) (says-job _ ends) (text-fits W ends 0 (λ _. refl))
      (spares-written s 0 (text-same W ends) (sink-put put) (λ _. put.faults) (sink-same s.err s.err_after silent))

  -- a proper front of it was
  broken : Puts s.words s.files s.files_after (Broke s.out s.out_after) → Tells s (told_line (codes "write failed")) → Runs s 4
  broken ends told =
      let W = Broke s.out s.out_after in
      let put = (text-put W ends).1 in
      runs-by 4 (text-done W ends, put.rose, told) (says-job _ ends) (text-fits W ends 4 (λ unharmed. absurd (unharmed.out put.rose)))
      (spares-written s 4 (text-same W ends) (sink-broke put) (λ not. absurd (not refl)) (sink-told s _ told))

  -- a line is refused
  refused : (name : List ℕ) (refusal : Refusal)
      → IsOkAnd (job s.words) (λ asked. HasRefusal asked s.files s.files_after (names_of asked s.words) name refusal) → s.out_after ≡ s.out
      → Tells s (refusal_line name refusal.number refusal.reason) → Runs s 1
  refused name refusal ends unwritten told =
      let fit = fits 1 (refuses name refusal) (λ _. refl) (λ lacking. lacking) in
      runs-by 1 (and_ok (job s.words) _ _ (λ asked p. (name, refusal, p.named, p.ending, told)) ends) (says-job _ ends)
      (if_ok (job s.words) _ _ (λ asked p. if_some (comes_to asked) _ _ fit p.ending) ends)
      (spares-stopped s 1 (from_ok (job s.words) _ _ (λ asked p. p.same) ends) unwritten (sink-told s _ told))

  -- something is wrong with the certificate
  denied : (denial : Denial)
      → IsOkAnd (job s.words) (λ asked. HasDenial asked s.files s.files_after (names_of asked s.words) denial) → s.out_after ≡ s.out
      → Tells s (denial_line denial) → Runs s 6
  denied denial ends unwritten told =
      let fit = fits 6 (denies denial) (λ _. refl) (λ lacking. lacking) in
      runs-by 6 (and_ok (job s.words) _ _ (λ asked p. (denial, p.may, p.ending, told)) ends) (says-job _ ends)
      (if_ok (job s.words) _ _ (λ asked p. if_some (comes_to asked) _ _ fit p.ending) ends)
      (spares-stopped s 6 (from_ok (job s.words) _ _ (λ asked p. p.same) ends) unwritten (sink-told s _ told))

  -- a read failed
  unread : (name : List ℕ)
      → IsOkAnd (job s.words) (λ asked. HasFailed asked s.files s.files_after (names_of asked s.words) name)
      → s.out_after ≡ s.out → Tells s (read_failed_line name) → Runs s 3
  unread name ends unwritten told =
      let missed : Missed s.files s.files_after name = from_ok (job s.words) _ _ (λ asked p. p.missed) ends in
      let harmed : Unharmed s → ⊥ = λ unharmed. both_ok (job s.words) _ _ (λ asked p none.
      none name (place_is_among (reads_of asked s.words) p.place name p.named) p.missed.rose) ends unharmed.files in
      runs-by 3 (and_ok (job s.words) _ _ (λ asked p. (p.place, name, p.named, p.missed.rose, p.accepted, told)) ends) (says-job _ ends)
      (any_ok (job s.words) _ (λ asked. any_some (comes_to asked) _ (λ e. (λ unharmed. absurd (harmed unharmed), λ lacking. inl refl))))
      (spares-unread s name missed unwritten (sink-told s _ told))

  -- there is no memory
  out_of_memory : IsOkAnd (job s.words) (λ asked. ⊤) → s.files_after ≡ s.files → s.out_after ≡ s.out → Tells s (told_line (codes "out of memory")) → Runs s 5
  out_of_memory ends same unwritten told =
      runs-by 5 told (says-job _ ends)
      (any_ok (job s.words) _ (λ asked. any_some (comes_to asked) _ (λ e. (λ unharmed. inr refl, λ lacking. inr refl))))
      (spares-stopped s 5 same unwritten (sink-told s _ told))

  -- the words are no job
  no_job : (fault : WordFault) → job s.words ≡ Err fault → s.files_after ≡ s.files → s.out_after ≡ s.out → Tells s (told_line (word_text fault)) → Runs s 2
  no_job fault is same unwritten told =
      runs-by 2 (subst IsErr (sym is) refl) (says-no_job fault is told) (no_ok (job s.words) fault _ is)
      (spares-stopped s 2 same unwritten (sink-told s _ told))

  -- what the attempt stopped at, and what was told of it
  pub stopped : (stop : Stop) → EndsBy (Err stop) → Tells s (stop_line stop) → Runs s (stop_status stop)
  stopped (Words fault) ends told = no_job fault ends.0 ends.1 ends.2 told
  stopped (Refused name number reason) ends told = refused name.now (record { number = number; reason = reason }) ends.0 ends.1 told
  stopped (ReadFailed name) ends told = unread name.now ends.0 ends.1 told
  stopped (Denied cert fault) ends told = denied (has_fault cert.now fault) ends.0 ends.1 told
  stopped TooLong ends told = denied too_long ends.0 ends.1 told
  stopped WriteFailed ends told = broken ends told
  stopped NoMemory ends told = out_of_memory (and_ok (job s.words) _ _ (λ asked p. tt) ends.0) (from_ok (job s.words) _ _ (λ asked p. p) ends.0) ends.1 told

  pub finished : EndsBy (Ok tt) → s.err_after ≡ s.err → Runs s 0
  finished ends silent = done ends silent
