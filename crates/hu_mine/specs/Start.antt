-- With which utility a search may begin.
use Rattle.std.specs.Prelude.{◌≡◌, ℕ, ℤ, Option, List}
use Rattle.hu_kind.specs.Answer.{item_answer}
use Rattle.hu_totals.specs.declared.totals.ItemTotal.{ItemTotal}
use Rattle.hu_totals.specs.Totals.{item_totals}

-- in every database of these totals, the answer from a start on is that from the least utility on
abbrev pub StartsAlike : List (ℕ × ItemTotal) → ℤ → Option ℕ → ℤ → Type 0
StartsAlike totals least top start = (records : List (List (ℕ × ℤ))) → totals ≡ item_totals records
    → item_answer records start top ≡ item_answer records least top
