-- Why lines are refused, in words.
use Rattle.std.specs.Prelude.{ℕ, ℤ, List, [], ◌∷◌, codes, decimal, flat_map}
use Rattle.std.specs.Fmt.{signed_decimal}
use Rattle.hu_trans.specs.declared.fault.Fault.{Fault}
use Rattle.hu_trans.specs.declared.fault.Fault.TheVariants as fault
use Rattle.hu_seq.specs.declared.fault.SeqFault.{SeqFault}
use Rattle.hu_seq.specs.declared.fault.SeqFault.TheVariants as seq
use Rattle.hu_input.specs.declared.reason.Reason.{Reason}
use Rattle.hu_input.specs.declared.reason.Reason.TheVariants as reason

-- texts one after the other
abbrev pub joined : List (List ℕ) → List ℕ
joined texts = flat_map (λ text. text) texts

-- the reasons that both forms of line have
abbrev pub too_many_items : ℕ → List ℕ
too_many_items count = joined (codes "too many items: " ∷ decimal count ∷ [])

abbrev pub item_out_of_range : ℕ → List ℕ
item_out_of_range at = joined (codes "item out of range at " ∷ decimal at ∷ [])

abbrev pub item_twice : ℕ → List ℕ
item_twice item = joined (codes "item " ∷ decimal item ∷ codes " twice" ∷ [])

abbrev pub total_disagrees : ℤ → ℤ → List ℕ
total_disagrees stated summed = joined (codes "total " ∷ signed_decimal stated ∷ codes " but sum " ∷ signed_decimal summed ∷ [])

-- the reason of a line that is no transaction
abbrev pub fault_text : Fault → List ℕ
fault_text fault.NotThreeParts = codes "not three parts"
fault_text (fault.BadNumber part at) = joined (codes "bad number in part " ∷ decimal part ∷ codes " at " ∷ decimal at ∷ [])
fault_text fault.NoItems = codes "no items"
fault_text (fault.TooManyItems count) = too_many_items count
fault_text (fault.CountsDiffer items utilities) = joined (decimal items ∷ codes " items but " ∷ decimal utilities ∷ codes " utilities" ∷ [])
fault_text (fault.ItemOutOfRange at) = item_out_of_range at
fault_text (fault.DuplicateItem item) = item_twice item.0
fault_text fault.SumTooLarge = codes "sum too large"
fault_text (fault.TotalDisagrees stated summed) = total_disagrees stated summed
fault_text fault.NoMemory = codes "out of memory"

-- the reason of a line that is no sequence
abbrev pub seq_fault_text : SeqFault → List ℕ
seq_fault_text (seq.BadToken at) = joined (codes "bad token at " ∷ decimal at ∷ [])
seq_fault_text seq.NoEnd = codes "no end"
seq_fault_text seq.AfterEnd = codes "a total alone may follow the end"
seq_fault_text seq.OpenItemset = codes "itemset left open"
seq_fault_text seq.EmptyItemset = codes "empty itemset"
seq_fault_text seq.NoItems = codes "no items"
seq_fault_text (seq.TooManyItems count) = too_many_items count
seq_fault_text (seq.ItemOutOfRange at) = item_out_of_range at
seq_fault_text (seq.DuplicateItem item) = item_twice item.0
seq_fault_text (seq.Negative at) = joined (codes "negative utility at " ∷ decimal at ∷ [])
seq_fault_text seq.SumTooLarge = codes "sum too large"
seq_fault_text (seq.TotalDisagrees stated summed) = total_disagrees stated summed
seq_fault_text seq.NoMemory = codes "out of memory"

-- the reason of a refused line
abbrev pub reason_text : Reason → List ℕ
reason_text reason.LineTooLong = codes "line too long"
reason_text reason.InputTooLarge = codes "input too large"
reason_text reason.SumTooLarge = codes "sum too large"
reason_text (reason.Transaction fault) = fault_text fault
reason_text (reason.Sequence fault) = seq_fault_text fault
