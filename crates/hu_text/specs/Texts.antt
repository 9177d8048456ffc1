-- Texts of records: the canonical line of each, with a line feed behind it.
use Rattle.std.specs.Prelude.{◌≡◌, ℕ, ◌≤◌, ℤ, Option, Some, List, ◌++◌, length, codes}
use Rattle.std.specs.List.{AllZip, flat_map, sum_by}
use Rattle.hu_trans.specs.Canonical.{canonical_line}
use Rattle.hu_seq.specs.Canonical.{canonical_line as sequence_line}

-- a text of transactions
abbrev pub records_text : List (List (ℕ × ℤ)) → List ℕ
records_text records = flat_map (λ r. canonical_line r ++ codes "\n") records

-- a text of sequences
abbrev pub sequences_text : List (List (List (ℕ × ℤ))) → List ℕ
sequences_text records = flat_map (λ r. sequence_line r ++ codes "\n") records

-- each of the named files holds the text of its list of records, and no run's limit is passed
pub record AreFilesOf {R : Type 0} (text : List R → List ℕ) (contents : List ℕ → Option (List ℕ))
    (names : List (List ℕ)) (lists : List (List R)) : Type 0 where
  pub each : AllZip (λ name records. contents name ≡ Some (text records)) names lists
  pub bytes : sum_by (λ records. length (text records)) lists ≤ 268435456

-- the records of lists, one after the other
abbrev pub all_of : {R : Type 0} → List (List R) → List R
all_of lists = flat_map (λ records. records) lists
