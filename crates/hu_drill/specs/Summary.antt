-- What a line says of an answer: how many entries it has, their greatest utility, and the sum of their utilities.
use Rattle.std.specs.Prelude.{ℕ, ◌^◌, ◌<◌, ℤ, pos, ◌+ℤ◌, ◌≤ℤ◌, unsigned_abs, List, ◌++◌, fold, length, codes}
use Rattle.std.specs.Int.{int_max}
use Rattle.std.specs.List.{All, sum_by}
use Rattle.std.specs.Fmt.{decimal, signed_decimal}
use Rattle.hu_kind.specs.declared.entry.Entry.{Entry}
use Rattle.hu_drill.specs.declared.summary.Summary.{Summary}

-- the greatest utility, 0 for no entries
abbrev pub greatest : List Entry → ℤ
greatest entries = fold (λ best entry. int_max best entry.utility) (pos 0) entries

-- the sum of the utilities
abbrev pub total_of : List Entry → ℤ
total_of entries = fold (λ sum entry. sum +ℤ entry.utility) (pos 0) entries

-- what entries come to
abbrev pub summary_of : List Entry → Summary
summary_of entries = record { count = length entries; greatest = greatest entries; total = total_of entries }

-- the numbers of a summary, each after a space, and the line feed
abbrev pub count_text : Summary → List ℕ
count_text summary = codes " " ++ decimal summary.count

abbrev pub greatest_text : Summary → List ℕ
greatest_text summary = codes " " ++ signed_decimal summary.greatest

abbrev pub total_text : Summary → List ℕ
total_text summary = (codes " " ++ signed_decimal summary.total) ++ codes "\n"

abbrev pub numbers_text : Summary → List ℕ
numbers_text summary = count_text summary ++ greatest_text summary ++ total_text summary

-- the line of a summary, after a name
abbrev pub summary_line : List ℕ → Summary → List ℕ
summary_line name summary = name ++ numbers_text summary

-- entries that earn at least 1 each, and at most 2 ^ 127 - 1 together
pub record AreEarned (entries : List Entry) : Type 0 where
  pub least : All (λ entry. pos 1 ≤ℤ entry.utility) entries
  pub sum_fits : sum_by (λ entry. unsigned_abs entry.utility) entries < 2 ^ 127
