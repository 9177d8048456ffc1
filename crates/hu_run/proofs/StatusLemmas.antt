-- What a status says alone, and of words that are no job.
use Rattle.std.proofs.Common.{◌≡◌, ℕ, zero, suc, ◌<◌, List, [], ◌∷◌, Result, Err, length, sym, subst, refl, arith}
use Rattle.std.specs.Prelude.{IsErr, IsOkAnd, IfErr}
use Rattle.hu_run.specs.declared.words.WordFault.{WordFault}
use Rattle.hu_run.specs.Stop.{told_line, word_text}
use Rattle.hu_run.specs.Run.{Streams, Tells}
use Rattle.hu_run.proofs.ResultLemmas.{ok_no_err, if_err}

-- the fact of a status, where each from 0 on has one, and no other has any
abbrev pub SaidBy : List (Type 0) → ℕ → Type 0
SaidBy [] status = ⊥
SaidBy (fact ∷ facts) zero = fact
SaidBy (fact ∷ facts) (suc status) = SaidBy facts status

pub said-within : (facts : List (Type 0)) (status : ℕ) → SaidBy facts status → status < length facts
said-within [] status said = absurd said
said-within (fact ∷ facts) zero said = omega arith
said-within (fact ∷ facts) (suc status) said = let within = said-within facts status said in omega (arith, within)

pub said-at : (facts : List (Type 0)) (status : ℕ) → SaidBy facts status → (n : ℕ) → status ≡ n → SaidBy facts n
said-at facts status said n is = subst (SaidBy facts) is said

-- words that are no job have the status 2, and their fault is told
pub record SaysWords {A : Type 0} (s : Streams) (job : Result A WordFault) (status : ℕ) : Type 0 where
  pub refused : IsErr job → status ≡ 2
  pub told : IfErr job (λ fault. Tells s (told_line (word_text fault)))

pub says-job : {A : Type 0} {s : Streams} {job : Result A WordFault} {status : ℕ} (P : A → Type 0) → IsOkAnd job P → SaysWords s job status
says-job {job = job} P ends = record { refused = λ err. absurd (ok_no_err job P ends err); told = if_err job P _ ends }

pub says-no_job : {A : Type 0} {s : Streams} {job : Result A WordFault} (fault : WordFault) → job ≡ Err fault → Tells s (told_line (word_text fault))
    → SaysWords s job 2
says-no_job {s = s} fault is told = record {
  refused = λ _. refl;
  told = subst (λ j. IfErr j (λ f. Tells s (told_line (word_text f)))) (sym is) told;
}
