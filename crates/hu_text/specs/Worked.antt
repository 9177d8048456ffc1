-- Worked rows: texts and what they tell, by computation.
use Rattle.std.specs.Prelude.{◌≡◌, ◌^◌, false, true, pos, negsuc, None, Some, [], ◌∷◌, ◌++◌, codes, map, refl}
use Rattle.std.specs.Fmt.{digits}
use Rattle.hu_kind.specs.declared.task.Task.TheVariants.{Items}
use Rattle.hu_kind.specs.Order.{entry_cmp}
use Rattle.hu_kind.specs.Answer.{item_answer}
use Rattle.hu_kind.specs.Worked.{base_a, entry_of}
use Rattle.hu_report.specs.Text.{answer_text}
use Rattle.std.proofs.lemmas.Bool.{ltb-true, lt-ltb}
use Rattle.hu_text.specs.Told.{told, printed, IsReadable}

-- a line of `items`, and one of `closed`
pub item_line_told : told (codes "2 3 5 #UTIL: 37\n") ≡
    record { key = pos 2 ∷ pos 3 ∷ pos 5 ∷ []; support = None; utility = Some (pos 37) } ∷ []
item_line_told = refl

pub closed_line_told : told (codes "2 3 5 #SUP: 3 #UTIL: 37\n") ≡
    record { key = pos 2 ∷ pos 3 ∷ pos 5 ∷ []; support = Some (pos 3); utility = Some (pos 37) }
    ∷ []
closed_line_told = refl

-- two lines of `seq`
pub sequence_lines_told : told (codes "1 -1 2 -1 #UTIL: 8\n" ++ codes "1 2 -1 #UTIL: 7\n") ≡
    record {
      key = pos 1 ∷ negsuc 0 ∷ pos 2 ∷ negsuc 0 ∷ [];
      support = None;
      utility = Some (pos 8);
    }
    ∷ record { key = pos 1 ∷ pos 2 ∷ negsuc 0 ∷ []; support = None; utility = Some (pos 7) }
    ∷ []
sequence_lines_told = refl

-- no entry, no line
pub nothing_told : told (answer_text Items []) ≡ []
nothing_told = refl

-- base A at 30 is told back
pub items_at_30_told : told (answer_text Items (item_answer base_a (pos 30) None)) ≡
    map (printed Items) (item_answer base_a (pos 30) None)
unfolding digits entry_cmp
items_at_30_told = refl

-- `items` prints no support: entries that differ in it alone have one text
pub same_text : answer_text Items (entry_of (2 ∷ []) 5 1 ∷ []) ≡
    answer_text Items (entry_of (2 ∷ []) 5 2 ∷ [])
same_text = refl

-- an entry whose numbers can be read again
pub readable_2_5 : IsReadable (entry_of (2 ∷ 5 ∷ []) 31 3)
readable_2_5 = record {
  key = (ltb-true 2 (2 ^ 127) refl, (ltb-true 5 (2 ^ 127) refl, tt));
  utility = ltb-true 31 (2 ^ 127) refl;
  support = ltb-true 3 (2 ^ 127) refl;
}

-- a utility of 2 ^ 127 is past what can be read
pub great_utility_not_readable : IsReadable (entry_of (2 ∷ []) (2 ^ 127) 1) → ⊥
great_utility_not_readable is =
    let never : false ≡ true = lt-ltb (2 ^ 127) (2 ^ 127) is.utility in cc

pub great_utility_not_told : told (answer_text Items (entry_of (2 ∷ []) (2 ^ 127) 1 ∷ [])) ≡
    record { key = pos 2 ∷ []; support = None; utility = None } ∷ []
unfolding digits
great_utility_not_told = refl
