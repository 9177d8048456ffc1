-- Worked rows: the first draws from seed 1, and small generated databases, by computation.
use Rattle.std.specs.Prelude.{◌≡◌, pos, [], ◌∷◌, codes, map, refl}
use Rattle.std.specs.Fmt.{digits}
use Rattle.hu_kind.specs.Worked.{entry_of}
use Rattle.hu_drill.specs.Draws.{after_draws}
use Rattle.hu_drill.specs.Drilled.{drilled, drilled_sequences}
use Rattle.hu_drill.specs.Summary.{summary_of, summary_line}

pub first_draws : map (λ n. after_draws n 1) (1 ∷ 2 ∷ 3 ∷ 4 ∷ 5 ∷ 6 ∷ 7 ∷ 8 ∷ []) ≡
    48271 ∷ 182605794 ∷ 1291394886 ∷ 1914720637 ∷ 2078669041 ∷ 407355683 ∷ 1105902161 ∷ 854716505 ∷ []
first_draws = refl

-- two records of two items
pub two_records : drilled 1 2 2 ≡ ((7, pos 95) ∷ (13, pos 38) ∷ []) ∷ ((2, pos 84) ∷ (8, pos 6) ∷ []) ∷ []
two_records = refl

-- a sequence of two elements
pub one_sequence : drilled_sequences 1 1 2
    ≡ (((22, pos 95) ∷ (37, pos 38) ∷ []) ∷ ((17, pos 84) ∷ (37, pos 6) ∷ []) ∷ []) ∷ []
one_sequence = refl

-- the line of no entries, and that of two
pub line_of_none : summary_line (codes "seq chain") (summary_of []) ≡ codes "seq chain 0 0 0\n"
unfolding digits
line_of_none = refl

pub line_of_two : summary_line (codes "items lists") (summary_of (entry_of (2 ∷ 5 ∷ []) 31 3 ∷ entry_of (2 ∷ 4 ∷ []) 30 2 ∷ [])) ≡ codes "items lists 2 31 61\n"
unfolding digits
line_of_two = refl
