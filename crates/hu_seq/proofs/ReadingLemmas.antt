-- The reading of a line.
use Rattle.std.proofs.Common.{◌≡◌, ◌≢◌, ℕ, ℤ, Bool, true, false, Option, None, Some, Ok, Err, List, [], ◌∷◌, map, refl, rules}
use Rattle.std.specs.Option.{option_map_or}
use Rattle.hu_kind.specs.Cells.{by_item}
use Rattle.hu_kind.specs.First.{first_some}
use Rattle.hu_kind.proofs.lemmas.FirstLemmas.{passes, NonePasses, passes-first, passes-then, passes-map}
use Rattle.hu_seq.specs.declared.fault.SeqFault.{SeqFault}
use Rattle.hu_seq.specs.declared.fault.SeqFault.TheVariants.{NoMemory}
use Rattle.hu_seq.specs.Reading.{faults, body, itemsets, known, reading, total_disagrees}

-- whether a fault is want of memory
abbrev is_memory : SeqFault → Bool
is_memory NoMemory = true
is_memory _ = false

passes-total : (sums : List ℤ) (pairs : List (ℕ × ℤ)) → passes is_memory (total_disagrees sums pairs) ≡ false
passes-total [] pairs = refl
passes-total (sum ∷ sums) pairs = search (rules, passes-then)

not_memory : (first : Option SeqFault) (sets : List (List (ℕ × ℤ))) → passes is_memory first ≡ false → option_map_or Err first (Ok sets) ≢ Err NoMemory
not_memory None sets told h = cc
not_memory (Some fault) sets told h = let same : fault ≡ NoMemory = cc in let never : true ≡ false = rw same at told in cc

-- no line tells want of memory
pub reading-memory : (line : List ℕ) → reading line ≢ Err NoMemory
unfolding reading
reading-memory line =
    let told : NonePasses is_memory (faults line) = search (rules, passes-then, passes-map, passes-total) depth 30 in
    not_memory (first_some (faults line)) (map by_item (itemsets (body (known line)))) (passes-first is_memory (faults line) told)
