-- Where neither a read of a named file nor the writing of the text can fail.
use Rattle.std.proofs.Common.{◌≡◌, ℕ, ◌≤◌, List, Result, Ok, Err, Option, Some, None, refl, sym, ap, ◌∙◌, inl, inr, arith, subst}
use Rattle.std.specs.Prelude.{◌≢◌, ◌⊎◌, IsErr, IsOkAnd, IfOk, IfSome, ⊤}
use Rattle.std.specs.List.{Contains}
use Rattle.std.proofs.lemmas.Bool.{cases_order}
use Rattle.hu_io.specs.Count.{Rose}
use Rattle.hu_io.specs.State.{Broke}
use Rattle.hu_io.specs.MemoryFiles.{NamedFilesNeverFail}
use Rattle.hu_io.specs.MemorySink.{RoomySinksNeverFail}
use Rattle.hu_run.specs.Job.{Asked, job, names_of, reads_of}
use Rattle.hu_run.specs.Ending.{Ending, writes, refuses, lacks, denies, ending, status_of}
use Rattle.hu_run.specs.Run.{Streams, Runs, Writing}
use Rattle.hu_run.specs.Laws.{IsSurelyDone, IsDoneInMemory, EndsAsTold, HasRoom, sure_streams, memory_streams}
use Rattle.hu_run.proofs.EndLemmas.{place_is_among}

-- ---- results and options

known_ok : {A E : Type 0} (r : Result A E) (Q : A → Type 0) → ((x : A) → r ≡ Ok x → Q x) → IfOk r Q
known_ok (Ok x) Q f = f x refl
known_ok (Err e) Q f = tt

known_some : {A : Type 0} (o : Option A) (Q : A → Type 0) → ((x : A) → o ≡ Some x → Q x) → IfSome o Q
known_some None Q f = tt
known_some (Some x) Q f = f x refl

of_ok : {A E : Type 0} (r : Result A E) (x : A) (P : A → Type 0) → r ≡ Ok x → IsOkAnd r P → P x
of_ok r x P is fact = subst (λ s. IsOkAnd s P) is fact

if_of_ok : {A E : Type 0} (r : Result A E) (x : A) (P : A → Type 0) → r ≡ Ok x → IfOk r P → P x
if_of_ok r x P is fact = subst (λ s. IfOk s P) is fact

of_some : {A : Type 0} (o : Option A) (x : A) (P : A → Type 0) → o ≡ Some x → IfSome o P → P x
of_some o x P is fact = subst (λ s. IfSome s P) is fact

-- ---- endings

-- the writing of the text of an ending doesn't fail
abbrev Unbroken : Streams → Ending → Type 0
Unbroken s (writes text) = ¬ Broke s.out s.out_after text
Unbroken s (refuses name refusal) = ⊤
Unbroken s (lacks name) = ⊤
Unbroken s (denies denial) = ⊤

not_broken : (s : Streams) (e : Ending) → Unbroken s e → Writing (Broke s.out s.out_after) e → ⊥
not_broken s (writes text) never broke = never broke
not_broken s (refuses name refusal) never broke = broke
not_broken s (lacks name) never broke = broke
not_broken s (denies denial) never broke = broke

status_of_text : (fact : List ℕ → Type 0) (e : Ending) → Writing fact e → 0 ≡ status_of e
status_of_text fact (writes text) is = refl
status_of_text fact (refuses name refusal) is = absurd is
status_of_text fact (lacks name) is = absurd is
status_of_text fact (denies denial) is = absurd is

-- what leaves a status of 0, 1, 5 or 6
zero_one_five_six : (status n : ℕ) → status ≤ 6 → (status ≡ 0 → 0 ≡ n) → (status ≡ 1 → 1 ≡ n) → (status ≡ 6 → 6 ≡ n)
    → status ≢ 2 → status ≢ 3 → status ≢ 4 → (status ≡ n) ⊎ (status ≡ 5)
zero_one_five_six status n within zero one six two three four = elim (cases_order status 1) [
  | inl is ↦ inl (is ∙ one is)
  | inr (inl less) ↦ let is : status ≡ 0 = omega arith in inl (is ∙ zero is)
  | inr (inr more) ↦ elim (cases_order status 5) [
    | inl is ↦ inr is
    | inr (inl less) ↦ absurd (omega (arith, two, three, four))
    | inr (inr past) ↦ let is : status ≡ 6 = omega arith in inl (is ∙ six is)
  ]
]

-- where no read of a named file and no writing of the text fails, the status is that of the ending, or want of memory
ends_as_told : (s : Streams) (status : ℕ) → Runs s status
    → IfOk (job s.words) (λ asked. (name : List ℕ) → Contains (reads_of asked s.words) name → ¬ Rose (s.files.faults name) (s.files_after.faults name))
    → IfOk (job s.words) (λ asked. IfSome (ending asked s.files.contents (names_of asked s.words)) (Unbroken s))
    → EndsAsTold s status
ends_as_told s status runs files out = known_ok (job s.words) _ (λ asked is. known_some (comes_to asked) _ (λ e comes.
    zero_one_five_six status (status_of e) runs.within
    (λ zero. status_of_text _ e (of_some (comes_to asked) e _ comes (of_ok (job s.words) asked _ is (runs.done zero))))
    (λ one. refused asked is e comes one)
    (λ six. denied asked is e comes six)
    (λ two. no_fault asked is (runs.no_job.0 two))
    (λ three. read asked is three)
    (λ four. not_broken s e (of_some (comes_to asked) e _ comes (if_of_ok (job s.words) asked _ is out))
    (of_some (comes_to asked) e _ comes (of_ok (job s.words) asked _ is (runs.broken four))))))
  where
    comes_to : Asked → Option Ending
    comes_to asked = ending asked s.files.contents (names_of asked s.words)

    refused : (asked : Asked) → job s.words ≡ Ok asked → (e : Ending) → comes_to asked ≡ Some e → status ≡ 1 → 1 ≡ status_of e
    refused asked is e comes one =
        let told = of_ok (job s.words) asked _ is (runs.refused one) in
        sym (ap status_of (of_some (comes_to asked) e _ comes told.3))

    denied : (asked : Asked) → job s.words ≡ Ok asked → (e : Ending) → comes_to asked ≡ Some e → status ≡ 6 → 6 ≡ status_of e
    denied asked is e comes six =
        let told = of_ok (job s.words) asked _ is (runs.denied six) in
        sym (ap status_of (of_some (comes_to asked) e _ comes told.2))

    no_fault : (asked : Asked) → job s.words ≡ Ok asked → IsErr (job s.words) → ⊥
    no_fault asked is err = cc

    read : (asked : Asked) → job s.words ≡ Ok asked → status ≡ 3 → ⊥
    read asked is three =
        let told = of_ok (job s.words) asked _ is (runs.unread three) in
        if_of_ok (job s.words) asked _ is files told.1 (place_is_among (reads_of asked s.words) told.0 told.1 told.2) told.3

-- ---- files and sinks that never fail

pub surely_done : IsSurelyDone
surely_done words files files_after err err_after status runs =
    ends_as_told (sure_streams words files files_after err err_after) status runs
    (known_ok (job words) _ (λ asked is name among rose. omega (arith, rose)))
    (known_ok (job words) _ (λ asked is. known_some _ _ (λ e comes. never e)))
  where
    never : (e : Ending) → Unbroken (sure_streams words files files_after err err_after) e
    never (writes text) = λ broke. omega (arith, broke.rose)
    never (refuses name refusal) = tt
    never (lacks name) = tt
    never (denies denial) = tt

-- ---- files and sinks in memory

pub done_in_memory : NamedFilesNeverFail → RoomySinksNeverFail → IsDoneInMemory
done_in_memory reads puts words files files_after out out_after err err_after status untroubled runs =
    ends_as_told s status runs
    (known_ok (job words) _ (λ asked is name among.
    reads files files_after name untroubled.no_failing_get (if_of_ok (job words) asked _ is untroubled.there name among) runs.spares.files_plan runs.spares.contents))
    (known_ok (job words) _ (λ asked is. known_some _ _ (λ e comes.
    unbroken e (of_some _ e _ comes (if_of_ok (job words) asked _ is untroubled.room)))))
  where
    s : Streams
    s = memory_streams words files files_after out out_after err err_after

    unbroken : (e : Ending) → HasRoom out e → Unbroken s e
    unbroken (writes text) room = puts out out_after text untroubled.no_failing_put room
    unbroken (refuses name refusal) room = tt
    unbroken (lacks name) room = tt
    unbroken (denies denial) room = tt
