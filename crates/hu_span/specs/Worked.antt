-- Worked rows: steps, and the marks by which a pattern can grow, by computation.
use Rattle.std.specs.Prelude.{◌≡◌, ℕ, ℤ, false, pos, negsuc, List, [], ◌∷◌, refl}
use Rattle.std.specs.List.{filter}
use Rattle.hu_kind.specs.Sequence.{sequence_key}
use Rattle.hu_chain.specs.declared.chain.Growth.{Growth}
use Rattle.hu_chain.specs.declared.chain.Growth.TheVariants.{IntoLast, AfterLast}
use Rattle.hu_chain.specs.Place.{chain_of}
use Rattle.hu_chain.specs.Worked.{one, place_of, several_places, whole_record}
use Rattle.hu_span.specs.declared.step.Step.{Step}
use Rattle.hu_span.specs.Cut.{spread}
use Rattle.hu_span.specs.Gather.{row_marks}
use Rattle.hu_span.specs.Kept.{keeps, weighed_in}
use Rattle.hu_span.specs.Mark.{mark_at, marks_of}
use Rattle.hu_kind.specs.Sequence.{closed}
use Rattle.hu_span.specs.Step.{open_key, pattern_of}
use Rattle.hu_span.specs.Tally.{bests_of, reaches_of, told}
use Rattle.hu_span.specs.declared.trail.TrailCell.{TrailCell}
use Rattle.hu_span.specs.Trail.{cells_at, cells_past, is_held, trail_later, values_in}

-- a step
abbrev pub step_of : Growth → ℕ → Step
step_of growth item = record { growth = growth; item = record { 0 = item } }

-- the steps of `1 4 -1 3 -1`
abbrev pub three_steps : List Step
three_steps = step_of AfterLast 1 ∷ step_of IntoLast 4 ∷ step_of AfterLast 3 ∷ []

pub pattern_of_steps : pattern_of three_steps ≡ (1 ∷ 4 ∷ []) ∷ (3 ∷ []) ∷ []
pattern_of_steps = refl

pub key_of_steps : closed (open_key [] three_steps) ≡ pos 1 ∷ pos 4 ∷ negsuc 0 ∷ pos 3 ∷ negsuc 0 ∷ []
key_of_steps = refl

pub same_key : closed (open_key [] three_steps) ≡ sequence_key (pattern_of three_steps)
same_key = refl

-- in `1[1] 4[12] -1 3[20] -1 2[4] -1 5[1] 7[2] -1` the pattern `1 -1` grows into its last itemset by 4
pub into_one : row_marks IntoLast whole_record 0 (chain_of one whole_record)
    ≡ mark_at 0 4 (place_of 0 1 13 27) ∷ []
into_one = refl

-- and after it by 3, 2, 5 and 7
pub after_one : row_marks AfterLast whole_record 0 (chain_of one whole_record)
    ≡ mark_at 0 3 (place_of 1 0 21 7) ∷ mark_at 0 2 (place_of 2 0 5 3) ∷ mark_at 0 5
    (place_of 3 0 2 2) ∷ mark_at 0 7 (place_of 3 1 3 0) ∷ []
after_one = refl

-- in `1[9] -1 2[1] -1 1[2] -1 3[8] -1` it grows after its first place, by itself too, each after the best place before
pub after_first_place : row_marks AfterLast several_places 0 (chain_of one several_places)
    ≡ mark_at 0 2 (place_of 1 0 10 10) ∷ mark_at 0 1 (place_of 2 0 11 8) ∷ mark_at 0 3
    (place_of 3 0 17 0) ∷ []
after_first_place = refl

-- in the two together it earns 9 and 1, and what grows from it at most 20 and 40
pub told_of_one : bests_of (told (marks_of (several_places ∷ whole_record ∷ []) one 1)) ≡ pos 10
told_of_one = refl

pub bound_of_one : reaches_of (told (marks_of (several_places ∷ whole_record ∷ []) one 1)) ≡ pos 60
bound_of_one = refl

-- where 1 and 3 count alone, `1[9] -1 2[1] -1 1[2] -1 3[8] -1` is `1[9] -1 2[0] -1 1[2] -1 3[8] -1`
pub weighed_places : weighed_in (keeps (false, record { 0 = 1 } ∷ record { 0 = 3 } ∷ [])) several_places
    ≡ ((1, pos 9) ∷ []) ∷ ((2, pos 0) ∷ []) ∷ ((1, pos 2) ∷ []) ∷ ((3, pos 8) ∷ []) ∷ []
weighed_places = refl

-- rows that reach 20 and 40: two marks of the second row count once
pub spread_of_rows : spread (pos 20 ∷ pos 40 ∷ [])
    (mark_at 1 4 (place_of 0 1 13 27) ∷ mark_at 1 4 (place_of 2 0 5 3) ∷ []) ≡ pos 40
spread_of_rows = refl

-- a cell of a trail
abbrev pub cell_of : ℕ → ℕ → ℕ → ℤ → TrailCell
cell_of item element cell value = record { item = record { 0 = item }; element = element; cell = cell; value = value }

-- behind the first place of `1 -1` there stand the cells of 2, 1 and 3
pub cells_behind : cells_past several_places 0 0 ≡ cell_of 2 1 0 (pos 1) ∷ cell_of 1 2 0 (pos 2) ∷ cell_of 3 3 0 (pos 8) ∷ []
cells_behind = refl

-- a trail has them from the last one on
pub cells_at_span : cells_at (cell_of 3 3 0 (pos 8) ∷ cell_of 1 2 0 (pos 2) ∷ cell_of 2 1 0 (pos 1) ∷ [])
    (record { low = 0; high = 2 }) ≡ cell_of 1 2 0 (pos 2) ∷ cell_of 3 3 0 (pos 8) ∷ []
cells_at_span = refl

-- a walk over them meets the marks by which `1 -1` grows after its first place
pub walk_of_cells : trail_later 0 (chain_of one several_places) (cells_past several_places 0 0)
    ≡ row_marks AfterLast several_places 0 (chain_of one several_places)
walk_of_cells = refl

-- and where 2 is dropped, they sum to 10
pub rest_of_cells : values_in (filter (is_held (keeps (false, record { 0 = 1 } ∷ record { 0 = 3 } ∷ []))) (cells_past several_places 0 0))
    ≡ pos 10
rest_of_cells = refl
