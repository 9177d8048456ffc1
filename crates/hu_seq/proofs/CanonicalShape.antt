-- The tokens of the canonical line of a sequence have no fault in their order, and their itemsets are those of the sequence.
use Rattle.std.proofs.Common.{◌≡◌, ℕ, ◌-◌, ◌<◌, ℤ, pos, Bool, true, false, not, ◌||◌, None, Some, is_none, slice_get}
use Rattle.std.proofs.Common.{List, [], ◌∷◌, ◌++◌, length, map, take, refl, sym, ap, ◌∙◌, append_assoc, length-append}
use Rattle.std.proofs.Common.{arith, position}
use Rattle.std.specs.Bool.{then_some}
use Rattle.std.specs.List.{AllByRecursion, before_first, after_first, list_any, position_or_len, slice_split}
use Rattle.std.specs.Option.{option_map_or}
use Rattle.std.proofs.lemmas.List.{take-append-le, take_all}
use Rattle.hu_kind.proofs.lemmas.Each.{each-append}
use Rattle.hu_kind.specs.First.{first_some}
use Rattle.hu_seq.specs.declared.fault.SeqFault.TheVariants.{NoEnd, AfterEnd, OpenItemset, EmptyItemset, NoItems}
use Rattle.hu_seq.specs.declared.token.Token.{Token}
use Rattle.hu_seq.specs.declared.token.Token.TheVariants.{ItemsetEnd, SequenceEnd, Total}
use Rattle.hu_seq.specs.Token.{is_cell, is_itemset_end, is_sequence_end, is_total}
use Rattle.hu_seq.specs.Reading.{body, cells, itemsets, first_is, last_is, has_two_ends, is_total_or_nothing, after_end}
use Rattle.hu_seq.specs.Reading.{open_itemset, empty_itemset, no_items, order_faults}
use Rattle.hu_seq.proofs.CanonicalTokens.{cell_token, front, ending}
use Rattle.hu_seq.proofs.lemmas.Cuts.{slice_split-append, split-whole}
use Rattle.hu_seq.proofs.lemmas.Firsts.{place-append, position-append, before_first-append, after_first-append, after_first-here, any-none}

-- each element has a cell
abbrev pub AreFilled : List (List (ℕ × ℤ)) → Type 0
AreFilled elements = AllByRecursion (λ (e : List (ℕ × ℤ)). 0 < length e) elements

-- ---- a test that no cell passes, and no end of an itemset

each-cell : (test : Token → Bool) (cs : List (ℕ × ℤ)) → AllByRecursion (λ c. test (cell_token c) ≡ false) cs
    → AllByRecursion (λ t. test t ≡ false) (map cell_token cs)
each-cell test [] all = tt
each-cell test (c ∷ cs) all = (all.0, each-cell test cs all.1)

pub each-front : (test : Token → Bool) (elements : List (List (ℕ × ℤ))) → test ItemsetEnd ≡ false
    → AllByRecursion (AllByRecursion (λ c. test (cell_token c) ≡ false)) elements → AllByRecursion (λ t. test t ≡ false) (front elements)
each-front test [] ends all = tt
each-front test (e ∷ es) ends all =
    each-append (λ t. test t ≡ false) (map cell_token e) (ItemsetEnd ∷ front es) (each-cell test e all.0) (ends, each-front test es ends all.1)

any_cell : (P : ℕ × ℤ → Type 0) (cs : List (ℕ × ℤ)) → ((c : ℕ × ℤ) → P c) → AllByRecursion P cs
any_cell P [] all = tt
any_cell P (c ∷ cs) all = (all c, any_cell P cs all)

pub any_cells : (P : ℕ × ℤ → Type 0) (elements : List (List (ℕ × ℤ))) → ((c : ℕ × ℤ) → P c) → AllByRecursion (AllByRecursion P) elements
any_cells P [] all = tt
any_cells P (e ∷ es) all = (any_cell P e all, any_cells P es all)

no_end : (elements : List (List (ℕ × ℤ))) → AllByRecursion (λ t. is_sequence_end t ≡ false) (front elements)
no_end elements = each-front is_sequence_end elements refl (any_cells (λ c. is_sequence_end (cell_token c) ≡ false) elements (λ c. refl))

no_total : (elements : List (List (ℕ × ℤ))) → AllByRecursion (λ t. is_total t ≡ false) (front elements)
no_total elements = each-front is_total elements refl (any_cells (λ c. is_total (cell_token c) ≡ false) elements (λ c. refl))

-- ---- the body

-- the tokens of itemsets, without the last end
abbrev inner : List (List (ℕ × ℤ)) → List Token
inner [] = []
inner (e ∷ []) = map cell_token e
inner (e ∷ f ∷ es) = map cell_token e ++ ItemsetEnd ∷ inner (f ∷ es)

front-inner : (e : List (ℕ × ℤ)) (es : List (List (ℕ × ℤ))) → front (e ∷ es) ≡ inner (e ∷ es) ++ ItemsetEnd ∷ []
front-inner e [] = refl
front-inner e (f ∷ es) =
    ap (λ more. map cell_token e ++ ItemsetEnd ∷ more) (front-inner f es)
    ∙ sym (append_assoc (map cell_token e) (ItemsetEnd ∷ inner (f ∷ es)) (ItemsetEnd ∷ []))

body-inner : (e : List (ℕ × ℤ)) (es : List (List (ℕ × ℤ))) (sum : ℕ) → body (front (e ∷ es) ++ ending sum) ≡ inner (e ∷ es)
body-inner e es sum =
    let whole = front (e ∷ es) ++ ending sum in
    let place = place-append is_sequence_end (front (e ∷ es)) SequenceEnd (Total (pos sum) ∷ []) (no_end (e ∷ es)) refl in
    let count : position_or_len is_sequence_end whole - 1 ≡ length (inner (e ∷ es)) =
    omega (arith, place, ap length (front-inner e es), length-append (inner (e ∷ es)) (ItemsetEnd ∷ [])) in
    let split : whole ≡ inner (e ∷ es) ++ (ItemsetEnd ∷ ending sum) =
    ap (λ told. told ++ ending sum) (front-inner e es) ∙ append_assoc (inner (e ∷ es)) (ItemsetEnd ∷ []) (ending sum) in
    ap (λ k. take k whole) count
    ∙ ap (take (length (inner (e ∷ es)))) split
    ∙ take-append-le (length (inner (e ∷ es))) (inner (e ∷ es)) (ItemsetEnd ∷ ending sum) (omega arith)
    ∙ take_all (length (inner (e ∷ es))) (inner (e ∷ es)) (omega arith)

cells-back : (cs : List (ℕ × ℤ)) → cells (map cell_token cs) ≡ cs
cells-back [] = refl
cells-back (c ∷ cs) = ap (λ more. c ∷ more) (cells-back cs)

split-cells : (cs : List (ℕ × ℤ)) → slice_split is_itemset_end (map cell_token cs) ≡ map cell_token cs ∷ []
split-cells cs =
    split-whole is_itemset_end (map cell_token cs) (each-cell is_itemset_end cs (any_cell (λ c. is_itemset_end (cell_token c) ≡ false) cs (λ c. refl)))

itemsets-inner : (e : List (ℕ × ℤ)) (es : List (List (ℕ × ℤ))) → itemsets (inner (e ∷ es)) ≡ e ∷ es
itemsets-inner e [] = ap (map cells) (split-cells e) ∙ ap (λ set. set ∷ []) (cells-back e)
itemsets-inner e (f ∷ es) =
    ap (map cells) (slice_split-append is_itemset_end (map cell_token e) ItemsetEnd (inner (f ∷ es)) refl)
    ∙ ap (λ first. map cells (first ++ slice_split is_itemset_end (inner (f ∷ es)))) (split-cells e)
    ∙ ap (λ set. set ∷ itemsets (inner (f ∷ es))) (cells-back e)
    ∙ ap (λ sets. e ∷ sets) (itemsets-inner f es)

-- the itemsets are those that were written
pub itemsets-told : (elements : List (List (ℕ × ℤ))) (sum : ℕ) → 0 < length elements → itemsets (body (front elements ++ ending sum)) ≡ elements
itemsets-told [] sum some = absurd (omega (arith, some))
itemsets-told (e ∷ es) sum some = ap itemsets (body-inner e es sum) ∙ itemsets-inner e es

-- ---- the order of the tokens

last_get : (xs : List Token) (y : Token) → slice_get (xs ++ y ∷ []) (length xs) ≡ Some y
last_get [] y = refl
last_get (x ∷ xs) y = last_get xs y

last-closed : (e : List (ℕ × ℤ)) (es : List (List (ℕ × ℤ))) → last_is is_cell (front (e ∷ es)) ≡ false
last-closed e es =
    let place : length (inner (e ∷ es) ++ ItemsetEnd ∷ []) - 1 ≡ length (inner (e ∷ es)) = omega (arith, length-append (inner (e ∷ es)) (ItemsetEnd ∷ [])) in
    ap (last_is is_cell) (front-inner e es)
    ∙ ap (λ k. option_map_or is_cell (slice_get (inner (e ∷ es) ++ ItemsetEnd ∷ []) k) false) place
    ∙ ap (λ o. option_map_or is_cell o false) (last_get (inner (e ∷ es)) ItemsetEnd)

first-cell : (test : Token → Bool) (e : List (ℕ × ℤ)) (es : List (List (ℕ × ℤ))) (tail : List Token) → 0 < length e
    → ((c : ℕ × ℤ) → test (cell_token c) ≡ false) → first_is test (front (e ∷ es) ++ tail) ≡ false
first-cell test [] es tail some none = absurd (omega (arith, some))
first-cell test (c ∷ cs) es tail some none = none c

apart-cells : (cs : List (ℕ × ℤ)) (rest : List Token) → has_two_ends rest ≡ false → has_two_ends (map cell_token cs ++ rest) ≡ false
apart-cells [] rest apart = apart
apart-cells (c ∷ cs) rest apart = apart-cells cs rest apart

apart-front : (elements : List (List (ℕ × ℤ))) (sum : ℕ) → AreFilled elements → has_two_ends (front elements ++ ending sum) ≡ false
apart-front [] sum filled = refl
apart-front (e ∷ es) sum filled =
    ap has_two_ends (append_assoc (map cell_token e) (ItemsetEnd ∷ front es) (ending sum))
    ∙ apart-cells e (ItemsetEnd ∷ (front es ++ ending sum)) (rw (next es filled.1, apart-front es sum filled.1) refl)
  where
    next : (others : List (List (ℕ × ℤ))) → AreFilled others → first_is is_itemset_end (front others ++ ending sum) ≡ false
    next [] all = refl
    next (f ∷ fs) all = first-cell is_itemset_end f fs (ending sum) all.0 (λ c. refl)

pub order-told : (elements : List (List (ℕ × ℤ))) (sum : ℕ) → 0 < length elements → AreFilled elements
    → first_some (order_faults (front elements ++ ending sum)) ≡ None
order-told [] sum some filled = absurd (omega (arith, some))
order-told (e ∷ es) sum some filled =
    let told = front (e ∷ es) ++ ending sum in
    let last = Total (pos sum) ∷ [] in
    let found : position is_sequence_end told ≡ Some (length (front (e ∷ es))) =
    position-append is_sequence_end (front (e ∷ es)) SequenceEnd last (no_end (e ∷ es)) refl in
    let before : before_first is_sequence_end told ≡ front (e ∷ es) =
    before_first-append is_sequence_end (front (e ∷ es)) SequenceEnd last (no_end (e ∷ es)) refl in
    let after : after_first is_sequence_end told ≡ last =
    after_first-append is_sequence_end (front (e ∷ es)) (ending sum) (no_end (e ∷ es)) ∙ after_first-here is_sequence_end SequenceEnd last refl in
    let ended : is_none (position is_sequence_end told) ≡ false = ap is_none found in
    let closed : last_is is_cell (before_first is_sequence_end told) ≡ false = ap (last_is is_cell) before ∙ last-closed e es in
    let totals : list_any is_total (before_first is_sequence_end told) ≡ false =
    ap (list_any is_total) before ∙ any-none is_total (front (e ∷ es)) (no_total (e ∷ es)) in
    let alone : is_total_or_nothing (after_first is_sequence_end told) ≡ true = ap is_total_or_nothing after in
    let begun : first_is is_itemset_end told ≡ false = first-cell is_itemset_end e es (ending sum) filled.0 (λ c. refl) in
    let items : first_is is_sequence_end told ≡ false = first-cell is_sequence_end e es (ending sum) filled.0 (λ c. refl) in
    let apart : has_two_ends told ≡ false = apart-front (e ∷ es) sum filled in
    order told ended totals alone closed begun apart items
  where
    order : (told : List Token) → is_none (position is_sequence_end told) ≡ false → list_any is_total (before_first is_sequence_end told) ≡ false
        → is_total_or_nothing (after_first is_sequence_end told) ≡ true → last_is is_cell (before_first is_sequence_end told) ≡ false
        → first_is is_itemset_end told ≡ false → has_two_ends told ≡ false → first_is is_sequence_end told ≡ false → first_some (order_faults told) ≡ None
    order told ended totals alone closed begun apart items =
        let rest = after_first is_sequence_end told in
        ap (λ b. first_some (then_some b NoEnd ∷ after_end told ∷ open_itemset told ∷ empty_itemset told ∷ no_items told ∷ [])) ended
        ∙ ap (λ b. first_some (then_some (b || not (is_total_or_nothing rest)) AfterEnd ∷ open_itemset told ∷ empty_itemset told ∷ no_items told ∷ [])) totals
        ∙ ap (λ b. first_some (then_some (not b) AfterEnd ∷ open_itemset told ∷ empty_itemset told ∷ no_items told ∷ [])) alone
        ∙ ap (λ b. first_some (then_some b OpenItemset ∷ empty_itemset told ∷ no_items told ∷ [])) closed
        ∙ ap (λ b. first_some (then_some (b || has_two_ends told) EmptyItemset ∷ no_items told ∷ [])) begun
        ∙ ap (λ b. first_some (then_some b EmptyItemset ∷ no_items told ∷ [])) apart
        ∙ ap (λ b. first_some (then_some b NoItems ∷ [])) items
