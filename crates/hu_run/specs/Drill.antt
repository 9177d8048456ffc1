-- The text of a drill: seven answers to generated databases, a line for each.
use Rattle.std.specs.Prelude.{ℕ, ℤ, pos, Some, List, [], ◌∷◌, codes}
use Rattle.hu_kind.specs.Answer.{item_answer, closed_answer, sequence_answer}
use Rattle.hu_input.specs.Reason.{joined}
use Rattle.hu_drill.specs.Drilled.{drilled, drilled_sequences}
use Rattle.hu_drill.specs.declared.summary.Summary.{Summary}
use Rattle.hu_drill.specs.Summary.{summary_of, summary_line}

-- the database of a drill: 2,000 records of 30 items
unfoldable pub drill_records : ℕ → List (List (ℕ × ℤ))
drill_records seed = drilled seed 2000 30

-- and 200 sequences of 8 elements
unfoldable pub drill_sequences : ℕ → List (List (List (ℕ × ℤ)))
drill_sequences seed = drilled_sequences seed 200 8

-- what the first 100 itemsets come to
abbrev pub items_summary : ℕ → Summary
items_summary seed = summary_of (item_answer (drill_records seed) (pos 1) (Some 100))

-- the first 100 closed ones that earn at least 10,000
abbrev pub closed_summary : ℕ → Summary
closed_summary seed = summary_of (closed_answer (drill_records seed) (pos 10000) (Some 100))

-- and the first 20 sequences
abbrev pub sequences_summary : ℕ → Summary
sequences_summary seed = summary_of (sequence_answer (drill_sequences seed) (pos 1) (Some 20))

-- the lines of all engines but the plain one
abbrev pub drill_text : ℕ → List ℕ
drill_text seed = joined (
    summary_line (codes "items lists") (items_summary seed)
    ∷ summary_line (codes "items project") (items_summary seed)
    ∷ summary_line (codes "items kept") (items_summary seed)
    ∷ summary_line (codes "closed lists") (closed_summary seed)
    ∷ summary_line (codes "closed project") (closed_summary seed)
    ∷ summary_line (codes "closed kept") (closed_summary seed)
    ∷ summary_line (codes "seq chain") (sequences_summary seed)
    ∷ [])
