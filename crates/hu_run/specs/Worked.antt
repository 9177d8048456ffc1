-- Worked rows: what words ask for, what jobs come to, and the line of a refusal, by computation.
use Rattle.std.specs.Prelude.{
  ◌≡◌,
  ℕ,
  pos,
  Option,
  None,
  Some,
  Ok,
  Err,
  List,
  [],
  ◌∷◌,
  codes,
  length,
  replicate,
  refl,
}
use Rattle.std.specs.Fmt.{digits}
use Rattle.std.specs.Map.{lookup}
use Rattle.std.specs.Str.{bytes_eq}
use Rattle.hu_kind.specs.Order.{entry_cmp}
use Rattle.hu_kind.specs.declared.task.Task.TheVariants.{Items, Closed, Sequences}
use Rattle.hu_lines.specs.Limits.{refusal}
use Rattle.hu_trans.specs.declared.fault.Fault.TheVariants.{TotalDisagrees}
use Rattle.hu_mine.specs.declared.engine.Engine.TheVariants.{Plain, Lists, Kept, Chain}
use Rattle.hu_input.specs.declared.reason.Reason.TheVariants.{Transaction}
use Rattle.hu_run.specs.declared.words.WordFault.TheVariants.{
  TooFewWords,
  TooManyWords,
  BadSeed,
  TaskUnknown,
  EngineNotOffered,
  BadMinimum,
  BadTop,
  BadLengths,
  TooManyFiles,
}
use Rattle.hu_run.specs.Job.{job, drill, certify, check, mining, sizing, averaging}
use Rattle.hu_run.specs.Ending.{Ending, writes, refuses, lacks, has_fault, denies, ending}
use Rattle.hu_proof.specs.declared.fault.CheckFault.TheVariants.{NotOfForm}
use Rattle.hu_run.specs.Stop.{refusal_line}

-- ---- words

pub few_words : job [] ≡ Err TooFewWords
few_words = refl

pub no_file_named : job (codes "items" ∷ codes "plain" ∷ codes "30" ∷ codes "all" ∷ []) ≡ Err TooFewWords
no_file_named = refl

pub no_seed : job (codes "drill" ∷ []) ≡ Err TooFewWords
no_seed = refl

pub two_seeds : job (codes "drill" ∷ codes "1" ∷ codes "2" ∷ []) ≡ Err TooManyWords
two_seeds = refl

pub seed_of_0 : job (codes "drill" ∷ codes "0" ∷ []) ≡ Err BadSeed
seed_of_0 = refl

pub great_seed : job (codes "drill" ∷ codes "2147483647" ∷ []) ≡ Err BadSeed
great_seed = refl

pub one_seed : job (codes "drill" ∷ codes "2147483646" ∷ []) ≡ Ok (drill 2147483646)
one_seed = refl

-- the task's fault comes before all others
pub no_task : job (codes "sets" ∷ codes "lists" ∷ codes "0" ∷ codes "0" ∷ codes "f" ∷ []) ≡ Err TaskUnknown
no_task = refl

pub kept_sequences : job (codes "seq" ∷ codes "kept" ∷ codes "0" ∷ codes "0" ∷ codes "f" ∷ []) ≡ Err EngineNotOffered
kept_sequences = refl

pub least_of_0 : job (codes "items" ∷ codes "plain" ∷ codes "0" ∷ codes "0" ∷ codes "f" ∷ []) ≡ Err BadMinimum
least_of_0 = refl

pub great_least : job (codes "items" ∷ codes "plain" ∷ codes "170141183460469231731687303715884105728" ∷ codes "all" ∷ codes "f" ∷ []) ≡ Err BadMinimum
great_least = refl

pub great_top : job (codes "items" ∷ codes "plain" ∷ codes "30" ∷ codes "1000001" ∷ codes "f" ∷ []) ≡ Err BadTop
great_top = refl

pub many_files : job (codes "items" ∷ codes "plain" ∷ codes "30" ∷ codes "all" ∷ replicate 65 (codes "f")) ≡ Err TooManyFiles
many_files = refl

pub greatest_top : job (codes "seq" ∷ codes "chain" ∷ codes "1" ∷ codes "1000000" ∷ codes "f" ∷ []) ≡ Ok (mining Sequences Chain (pos 1) (Some 1000000))
greatest_top = refl

pub two_files : job (codes "closed" ∷ codes "kept" ∷ codes "030" ∷ codes "all" ∷ codes "f" ∷ codes "f" ∷ []) ≡ Ok (mining Closed Kept (pos 30) None)
two_files = refl

pub no_lengths : job (codes "sized" ∷ codes "lists" ∷ codes "30" ∷ codes "all" ∷ codes "5" ∷ codes "4" ∷ codes "f" ∷ []) ≡ Err BadLengths
no_lengths = refl

pub two_or_three : job (codes "sized" ∷ codes "lists" ∷ codes "30" ∷ codes "all" ∷ codes "2" ∷ codes "3" ∷ codes "f" ∷ []) ≡ Ok (sizing Lists (pos 30) None 2 3)
two_or_three = refl

pub by_average : job (codes "average" ∷ codes "lists" ∷ codes "14" ∷ codes "4" ∷ codes "f" ∷ []) ≡ Ok (averaging Lists (pos 14) (Some 4))
by_average = refl

pub no_file_to_certify : job (codes "certify" ∷ codes "5" ∷ []) ≡ Err TooFewWords
no_file_to_certify = refl

pub certified : job (codes "certify" ∷ codes "5" ∷ codes "f" ∷ []) ≡ Ok (certify (pos 5))
certified = refl

pub no_file_to_check : job (codes "check" ∷ codes "5" ∷ codes "c" ∷ []) ≡ Err TooFewWords
no_file_to_check = refl

pub checked : job (codes "check" ∷ codes "5" ∷ codes "c" ∷ codes "f" ∷ []) ≡ Ok (check (pos 5) (codes "c"))
checked = refl

-- ---- endings

-- base A in two files, and its second line with another total
abbrev front : List ℕ
front = codes "3 5 1 2 4 6:30:1 3 5 10 6 5\n3 5 2 4:20:3 3 8 6\n3 1 4:8:1 5 2\n"

abbrev back : List ℕ
back = codes "3 5 1 7:27:6 6 10 5\n3 5 2 7:11:2 3 4 2\n"

abbrev wrong : List ℕ
wrong = codes "# shop 7\r\n3 5 2 4:21:3 3 8 6\n"

abbrev files : Option (List ℕ → Option (List ℕ))
files = Some (λ name. lookup (bytes_eq name) ((codes "b.txt", front) ∷ (codes "c.txt", back) ∷ (codes "w.txt", wrong) ∷ []))

-- at 30 its text has 132 bytes
abbrev text_length : Option Ending → ℕ
text_length (Some (writes text)) = length text
text_length other = 0

pub two_files_at_30 : text_length (ending (mining Items Plain (pos 30) None) files (codes "b.txt" ∷ codes "c.txt" ∷ [])) ≡ 132
unfolding digits entry_cmp refusal
two_files_at_30 = refl

-- its first itemset
pub first_itemset : ending (mining Items Plain (pos 1) (Some 1)) files (codes "b.txt" ∷ codes "c.txt" ∷ []) ≡ Some (writes (codes "2 3 4 5 #UTIL: 40\n"))
unfolding digits entry_cmp refusal
first_itemset = refl

-- a refused line after a file, and a file that isn't there
pub refused_second_line : ending (mining Items Plain (pos 30) None) files (codes "b.txt" ∷ codes "w.txt" ∷ codes "d.txt" ∷ [])
    ≡ Some (refuses (codes "w.txt") (record { number = 2; reason = Transaction (TotalDisagrees (pos 21) (pos 20)) }))
unfolding refusal
refused_second_line = refl

pub missing : ending (mining Closed Plain (pos 30) None) files (codes "b.txt" ∷ codes "d.txt" ∷ codes "w.txt" ∷ []) ≡ Some (lacks (codes "d.txt"))
unfolding refusal
missing = refl

-- a certificate that isn't there, and one that isn't of its form
pub no_certificate : ending (check (pos 5) (codes "d.txt")) files (codes "c.txt" ∷ []) ≡ Some (lacks (codes "d.txt"))
unfolding refusal
no_certificate = refl

pub no_certificate_of_it : ending (check (pos 5) (codes "b.txt")) files (codes "c.txt" ∷ []) ≡ Some (denies (has_fault (codes "b.txt") (NotOfForm 1)))
unfolding refusal
no_certificate_of_it = refl

-- where contents aren't told an ending is none
pub untold : ending (mining Items Plain (pos 30) None) None (codes "b.txt" ∷ []) ≡ None
untold = refl

-- ---- lines

pub line_of_a_refusal : refusal_line (codes "a.txt") 2 (Transaction (TotalDisagrees (pos 21) (pos 20))) ≡ codes "hupm: a.txt:2: total 21 but sum 20\n"
unfolding digits
line_of_a_refusal = refl
