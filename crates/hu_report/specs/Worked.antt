-- Worked rows: answers with their texts, by computation.
use Rattle.std.specs.Prelude.{◌≡◌, pos, None, [], ◌∷◌, ◌++◌, codes, length, refl}
use Rattle.std.specs.Fmt.{digits}
use Rattle.hu_kind.specs.declared.task.Task.TheVariants.{Items, Closed, Sequences}
use Rattle.hu_kind.specs.Order.{entry_cmp}
use Rattle.hu_kind.specs.Answer.{item_answer}
use Rattle.hu_kind.specs.Worked.{base_a, entry_of, sequence_entry_of}
use Rattle.hu_report.specs.Text.{line_of, answer_text}

-- a line of `items`
pub line_of_items : line_of Items (entry_of (2 ∷ 3 ∷ 4 ∷ 5 ∷ []) 40 2) ≡ codes "2 3 4 5 #UTIL: 40\n"
unfolding digits
line_of_items = refl

-- a line of `closed`
pub line_of_closed : line_of Closed (entry_of (2 ∷ 3 ∷ 5 ∷ []) 37 3) ≡ codes "2 3 5 #SUP: 3 #UTIL: 37\n"
unfolding digits
line_of_closed = refl

-- a line of `seq`
pub line_of_sequences : line_of Sequences (sequence_entry_of ((1 ∷ []) ∷ (2 ∷ []) ∷ []) 8 1) ≡ codes "1 -1 2 -1 #UTIL: 8\n"
unfolding digits
line_of_sequences = refl

-- the text of base A at 30
pub items_at_30 : answer_text Items (item_answer base_a (pos 30) None) ≡
    codes "2 3 4 5 #UTIL: 40\n"
    ++ codes "2 3 5 #UTIL: 37\n"
    ++ codes "2 4 5 #UTIL: 36\n"
    ++ codes "2 3 4 #UTIL: 34\n"
    ++ codes "1 3 5 #UTIL: 31\n"
    ++ codes "2 5 #UTIL: 31\n"
    ++ codes "1 2 3 4 5 6 #UTIL: 30\n"
    ++ codes "2 4 #UTIL: 30\n"
unfolding digits entry_cmp
items_at_30 = refl

-- it has 132 bytes
pub length-items_at_30 : length (answer_text Items (item_answer base_a (pos 30) None)) ≡ 132
unfolding digits entry_cmp
length-items_at_30 = refl
