-- The reading of a line.
use Rattle.std.proofs.Common.{◌≡◌, ◌≢◌, ℕ, ℤ, Bool, true, false, Option, None, Some, Result, Ok, Err, List, zip, rules}
use Rattle.std.specs.Option.{option_map_or}
use Rattle.hu_kind.specs.Cells.{by_item}
use Rattle.hu_kind.specs.First.{first_some}
use Rattle.hu_kind.proofs.lemmas.FirstLemmas.{passes, NonePasses, passes-first, passes-then, passes-map}
use Rattle.hu_trans.specs.declared.fault.Fault.{Fault}
use Rattle.hu_trans.specs.declared.fault.Fault.TheVariants.{NoMemory}
use Rattle.hu_trans.specs.Line.{items, stated, values}
use Rattle.hu_trans.specs.Reading.{form_faults, number_faults, judged, reading}

-- whether a fault is want of memory
abbrev is_memory : Fault → Bool
is_memory NoMemory = true
is_memory _ = false

not_memory : (first : Option Fault) (rest : Result (List (ℕ × ℤ)) Fault) → passes is_memory first ≡ false
    → rest ≢ Err NoMemory → option_map_or Err first rest ≢ Err NoMemory
not_memory None rest told kept = kept
not_memory (Some fault) rest told kept = λ h. let same : fault ≡ NoMemory = cc in let never : true ≡ false = rw same at told in cc

-- no line tells want of memory
pub reading-memory : (line : List ℕ) → reading line ≢ Err NoMemory
reading-memory line =
    let form : NonePasses is_memory (form_faults line) = search (rules, passes-first, passes-then, passes-map) depth 30 in
    let numbers : NonePasses is_memory (number_faults (items line) (stated line) (values line)) = search (rules, passes-then, passes-map) depth 30 in
    not_memory (first_some (form_faults line)) (judged (items line) (stated line) (values line)) (passes-first is_memory (form_faults line) form)
    (not_memory (first_some (number_faults (items line) (stated line) (values line)))
    (Ok (by_item (zip (items line) (values line)))) (passes-first is_memory
    (number_faults (items line) (stated line) (values line)) numbers) (λ h. cc))
