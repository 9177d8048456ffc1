-- With which utility a search of all records may begin.
use Rattle.std.specs.Prelude.{◌≡◌, ℕ, ℤ, Option, List}
use Rattle.hu_kind.specs.Answer.{item_answer}
use Rattle.hu_totals.specs.declared.totals.ItemTotal.{ItemTotal}
use Rattle.hu_totals.specs.Totals.{item_totals}
use Rattle.hu_kept.specs.Kept.{Keeping, answer_of}
use Rattle.hu_kept.specs.declared.aim.Aim.{Aim}

-- records with what is asked for, from a start on
abbrev pub keeping_from : ℤ → Aim → List (List (ℕ × ℤ)) → Keeping
keeping_from start aim records =
    record { records = records; least = start; top = aim.top; closed = aim.closed }

-- in every database of these totals the answer from a start on is that from the least utility on
abbrev pub StartsAlike : Aim → List (ℕ × ItemTotal) → ℤ → Type 0
StartsAlike aim totals start = (records : List (List (ℕ × ℤ))) → totals ≡ item_totals records
    → answer_of (keeping_from start aim records) ≡ answer_of (keeping_from aim.least aim records)

-- and so is that of all itemsets, closed or not
abbrev pub StartsItemsAlike : ℤ → Option ℕ → List (ℕ × ItemTotal) → ℤ → Type 0
StartsItemsAlike least top totals start = (records : List (List (ℕ × ℤ)))
    → totals ≡ item_totals records
    → item_answer records start top ≡ item_answer records least top
