-- The tokens of the canonical line of a sequence.
use Rattle.std.proofs.Common.{◌≡◌, ℕ, ◌+◌, ◌-◌, ◌<◌, ◌^◌, ◌==◌, ℤ, pos, unsigned_abs, false, None, Some, List, [], ◌∷◌}
use Rattle.std.proofs.Common.{◌++◌, length, map, take, drop, refl, sym, ap, ◌∙◌, append_assoc, length-append, arith}
use Rattle.std.proofs.Common.{codes, decimal, filter_map, flat_map, slice_index, position, sum_by, subst}
use Rattle.std.specs.Fmt.{signed_decimal}
use Rattle.std.specs.Int.{IsInRange}
use Rattle.std.specs.List.{AllByRecursion, AllZip}
use Rattle.std.specs.Option.{option_map, is_none}
use Rattle.std.specs.Str.{bytes_eq}
use Rattle.std.proofs.lemmas.Bool.Decides.{nat_tests}
use Rattle.std.proofs.lemmas.List.{take-append-le, take_all}
use Rattle.std.proofs.Math.Seq.{drop-append_seam, drop-append-add}
use Rattle.hu_kind.proofs.lemmas.Each.{each-append}
use Rattle.hu_kind.specs.Token.{tokens}
use Rattle.hu_seq.specs.Canonical.{cell_text, itemset_text, canonical_line}
use Rattle.hu_kind.specs.Record.{absolute_of}
use Rattle.hu_seq.specs.declared.fault.SeqFault.TheVariants.{BadToken}
use Rattle.hu_seq.specs.Reading.{known, bad_token}
use Rattle.hu_seq.specs.declared.token.Token.{Token}
use Rattle.hu_seq.specs.declared.token.Token.TheVariants.{Cell, ItemsetEnd, SequenceEnd, Total}
use Rattle.hu_seq.specs.Token.{token_of, is_unknown, total_of, cell_of, cell_inside, cell_from}
use Rattle.hu_seq.proofs.lemmas.Cuts.{tokens-append, tokens-word}
use Rattle.hu_seq.proofs.lemmas.Firsts.{position-append, position-none, none-any}
use Rattle.hu_kind.proofs.lemmas.Written.{Lacks, written-decimal, written-signed_decimal, number-decimal, signed_number-signed_decimal, decimal-begins}

-- ---- a cell is read

digit_other : (b d : ℕ) → IsInRange 48 57 d → b < 48 → (b == d) ≡ false
digit_other b d range low = grind (arith, nat_tests)

digit_other_back : (b d : ℕ) → IsInRange 48 57 d → b < 48 → (d == b) ≡ false
digit_other_back b d range low = grind (arith, nat_tests)

digit_other_high : (b d : ℕ) → IsInRange 48 57 d → 57 < b → (b == d) ≡ false
digit_other_high b d range high = grind (arith, nat_tests)

-- a text that begins with a digit is neither `-1` nor `-2` nor a total
no_mark : (c : ℕ) (text : List ℕ) → 0 < length text → IsInRange 48 57 (slice_index text 0) → bytes_eq text (45 ∷ c ∷ []) ≡ false
no_mark c [] some range = absurd (omega (arith, some))
no_mark c (d ∷ ds) some range = rw (digit_other_back 45 d range (omega arith)) refl

no_total : (text : List ℕ) → 0 < length text → IsInRange 48 57 (slice_index text 0) → total_of text ≡ None
no_total [] some range = absurd (omega (arith, some))
no_total (d ∷ ds) some range = rw (digit_other_high 83 d range (omega arith)) refl

as_cell : (text : List ℕ) → 0 < length text → IsInRange 48 57 (slice_index text 0) → token_of text ≡ cell_of text
unfolding token_of
as_cell text some range = rw (no_mark 49 text some range, no_mark 50 text some range, no_total text some range) refl

front-back : (text more : List ℕ) → take (length text) (text ++ more) ≡ text
front-back text more = take-append-le (length text) text more (omega arith) ∙ take_all (length text) text (omega arith)

closed-cell : (text : List ℕ) → cell_of (text ++ codes "]") ≡ cell_inside text
closed-cell text =
    let place : length (text ++ codes "]") - 1 ≡ length text = omega (arith, length-append text (codes "]")) in
    let last : drop (length text) (text ++ codes "]") ≡ codes "]" = drop-append_seam text (codes "]") in
    let first : take (length text) (text ++ codes "]") ≡ text = front-back text (codes "]") in
    rw (place, last, first) refl

opened-cell : (item value : List ℕ) → Lacks 91 item → cell_inside (item ++ 91 ∷ value) ≡ cell_from item value
opened-cell item value lacks =
    let found : position (λ byte. byte == 91) (item ++ 91 ∷ value) ≡ Some (length item) = position-append (λ byte. byte == 91) item 91 value lacks refl in
    let first : take (length item) (item ++ 91 ∷ value) ≡ item = front-back item (91 ∷ value) in
    let rest : drop (length item + 1) (item ++ 91 ∷ value) ≡ value = drop-append-add item (91 ∷ value) 1 in
    rw (found, first, rest) refl

-- a cell with an item and a value that are small enough to be read
pub record IsSmall (cell : ℕ × ℤ) : Type 0 where
  pub item : cell.0 < 2 ^ 127
  pub value : unsigned_abs cell.1 < 2 ^ 127

pub begins-append : (x more : List ℕ) → IsInRange 48 57 (slice_index x 0) → IsInRange 48 57 (slice_index (x ++ more) 0)
begins-append [] more h = absurd (omega (arith, h))
begins-append (b ∷ bs) more h = h

pub cell-begins : (cell : ℕ × ℤ) → IsSmall cell → IsInRange 48 57 (slice_index (cell_text cell) 0)
cell-begins cell small =
    begins-append ((decimal cell.0 ++ codes "[") ++ signed_decimal cell.1) (codes "]")
    (begins-append (decimal cell.0 ++ codes "[") (signed_decimal cell.1) (begins-append (decimal cell.0) (codes "[") (decimal-begins cell.0 small.item)))

cell-some : (cell : ℕ × ℤ) → IsSmall cell → 0 < length (cell_text cell)
cell-some cell small = omega (arith, length-append ((decimal cell.0 ++ codes "[") ++ signed_decimal cell.1) (codes "]"))

cell-said : (cell : ℕ × ℤ) → IsSmall cell → cell_from (decimal cell.0) (signed_decimal cell.1) ≡ Some (Cell cell.0 cell.1)
cell-said cell small = rw (number-decimal cell.0 small.item, signed_number-signed_decimal cell.1 small.value) refl

cell-token : (cell : ℕ × ℤ) → IsSmall cell → token_of (cell_text cell) ≡ Some (Cell cell.0 cell.1)
cell-token cell small =
    let item = decimal cell.0 in
    let value = signed_decimal cell.1 in
    as_cell (cell_text cell) (cell-some cell small) (cell-begins cell small)
    ∙ closed-cell ((item ++ codes "[") ++ value)
    ∙ ap cell_inside (append_assoc item (codes "[") value)
    ∙ opened-cell item value ((written-decimal cell.0 small.item).high 91 (omega arith))
    ∙ cell-said cell small

total-token : (sum : ℕ) → sum < 2 ^ 127 → token_of (codes "SUtility:" ++ decimal sum) ≡ Some (Total (pos sum))
unfolding token_of
total-token sum small = rw (signed_number-signed_decimal (pos sum) small) refl

-- ---- no space stands in a cell

pub cell-lacks : (byte : ℕ) (cell : ℕ × ℤ) → IsSmall cell → byte < 45 → Lacks byte (cell_text cell)
cell-lacks byte cell small low =
    let P = λ (b : ℕ). (b == byte) ≡ false in
    each-append P ((decimal cell.0 ++ codes "[") ++ signed_decimal cell.1) (codes "]")
    (each-append P (decimal cell.0 ++ codes "[") (signed_decimal cell.1)
    (each-append P (decimal cell.0) (codes "[") ((written-decimal cell.0 small.item).low byte low) (open_other byte low, tt))
    ((written-signed_decimal cell.1 small.value).low byte low))
    (close_other byte low, tt)
  where
    open_other : (byte : ℕ) → byte < 45 → (91 == byte) ≡ false
    open_other byte low = grind (arith, nat_tests)

    close_other : (byte : ℕ) → byte < 45 → (93 == byte) ≡ false
    close_other byte low = grind (arith, nat_tests)

-- ---- the texts of the tokens, and the tokens

abbrev pub cell_token : ℕ × ℤ → Token
cell_token cell = Cell cell.0 cell.1

-- the texts of itemsets with others behind them
abbrev texts : List (List (ℕ × ℤ)) → List (List ℕ) → List (List ℕ)
texts [] tail = tail
texts (e ∷ es) tail = map cell_text e ++ codes "-1" ∷ texts es tail

-- the tokens of itemsets
abbrev pub front : List (List (ℕ × ℤ)) → List Token
front [] = []
front (e ∷ es) = map cell_token e ++ ItemsetEnd ∷ front es

-- what stands behind them
abbrev pub ending : ℕ → List Token
ending sum = SequenceEnd ∷ Total (pos sum) ∷ []

abbrev pub last_texts : ℕ → List (List ℕ)
last_texts sum = codes "-2" ∷ (codes "SUtility:" ++ decimal sum) ∷ []

abbrev pub AreSmall : List (List (ℕ × ℤ)) → Type 0
AreSmall elements = AllByRecursion (AllByRecursion IsSmall) elements

tokens-spaced : (word rest : List ℕ) → tokens ((word ++ 32 ∷ []) ++ rest) ≡ tokens word ++ tokens rest
tokens-spaced word rest = ap tokens (append_assoc word (32 ∷ []) rest) ∙ tokens-append word rest

tokens-cells : (cells : List (ℕ × ℤ)) (rest : List ℕ) → AllByRecursion IsSmall cells
    → tokens (flat_map (λ cell. cell_text cell ++ codes " ") cells ++ rest) ≡ map cell_text cells ++ tokens rest
tokens-cells [] rest small = refl
tokens-cells (c ∷ cs) rest small =
    let more = flat_map (λ cell. cell_text cell ++ codes " ") cs in
    ap tokens (append_assoc (cell_text c ++ codes " ") more rest)
    ∙ tokens-spaced (cell_text c) (more ++ rest)
    ∙ ap (λ first. first ++ tokens (more ++ rest)) (tokens-word (cell_text c) (cell-some c small.0) (cell-lacks 32 c small.0 (omega arith)))
    ∙ ap (λ later. cell_text c ∷ later) (tokens-cells cs rest small.1)

tokens-itemset : (cells : List (ℕ × ℤ)) (rest : List ℕ) → AllByRecursion IsSmall cells
    → tokens (itemset_text cells ++ rest) ≡ map cell_text cells ++ codes "-1" ∷ tokens rest
tokens-itemset cells rest small =
    let told = flat_map (λ cell. cell_text cell ++ codes " ") cells in
    ap tokens (append_assoc told (codes "-1 ") rest)
    ∙ tokens-cells cells (codes "-1 " ++ rest) small
    ∙ ap (λ more. map cell_text cells ++ more) (tokens-append (codes "-1") rest)

tokens-itemsets : (elements : List (List (ℕ × ℤ))) (rest : List ℕ) → AreSmall elements
    → tokens (flat_map itemset_text elements ++ rest) ≡ texts elements (tokens rest)
tokens-itemsets [] rest small = refl
tokens-itemsets (e ∷ es) rest small =
    ap tokens (append_assoc (itemset_text e) (flat_map itemset_text es) rest)
    ∙ tokens-itemset e (flat_map itemset_text es ++ rest) small.0
    ∙ ap (λ more. map cell_text e ++ codes "-1" ∷ more) (tokens-itemsets es rest small.1)

total-lacks : (byte sum : ℕ) → sum < 2 ^ 127 → byte < 45 → Lacks byte (codes "SUtility:") → Lacks byte (codes "SUtility:" ++ decimal sum)
total-lacks byte sum small low lacks = each-append (λ b. (b == byte) ≡ false) (codes "SUtility:") (decimal sum) lacks ((written-decimal sum small).low byte low)

tokens-last : (sum : ℕ) → sum < 2 ^ 127 → tokens (codes "-2 SUtility:" ++ decimal sum) ≡ last_texts sum
tokens-last sum small =
    tokens-append (codes "-2") (codes "SUtility:" ++ decimal sum)
    ∙ ap (λ more. codes "-2" ∷ more) (tokens-word (codes "SUtility:" ++ decimal sum) (omega arith)
    (total-lacks 32 sum small (omega arith) (none-any (λ b. b == 32) (codes "SUtility:") refl)))

tokens-line : (elements : List (List (ℕ × ℤ))) → AreSmall elements → sum_by absolute_of elements < 2 ^ 127
    → tokens (canonical_line elements) ≡ texts elements (last_texts (sum_by absolute_of elements))
tokens-line elements small fits =
    let sum = sum_by absolute_of elements in
    ap tokens (append_assoc (flat_map itemset_text elements) (codes "-2 SUtility:") (decimal sum))
    ∙ tokens-itemsets elements (codes "-2 SUtility:" ++ decimal sum) small
    ∙ ap (texts elements) (tokens-last sum fits)

-- ---- each text is that of its token

abbrev IsTextOf : List ℕ → Token → Type 0
IsTextOf text token = token_of text ≡ Some token

told-cells : (cells : List (ℕ × ℤ)) (texts' : List (List ℕ)) (told : List Token) → AllByRecursion IsSmall cells → AllZip IsTextOf texts' told
    → AllZip IsTextOf (map cell_text cells ++ texts') (map cell_token cells ++ told)
told-cells [] texts' told small all = all
told-cells (c ∷ cs) texts' told small all = (cell-token c small.0, told-cells cs texts' told small.1 all)

end-token : IsTextOf (codes "-1") ItemsetEnd
unfolding token_of
end-token = refl

told-itemsets : (elements : List (List (ℕ × ℤ))) (tail : List (List ℕ)) (told : List Token) → AreSmall elements → AllZip IsTextOf tail told
    → AllZip IsTextOf (texts elements tail) (front elements ++ told)
told-itemsets [] tail told small all = all
told-itemsets (e ∷ es) tail told small all =
    subst (AllZip IsTextOf (texts (e ∷ es) tail)) (sym (append_assoc (map cell_token e) (ItemsetEnd ∷ front es) told))
    (told-cells e (codes "-1" ∷ texts es tail) (ItemsetEnd ∷ (front es ++ told)) small.0 (end-token, told-itemsets es tail told small.1 all))

told-last : (sum : ℕ) → sum < 2 ^ 127 → AllZip IsTextOf (last_texts sum) (ending sum)
unfolding token_of
told-last sum small = (refl, (total-token sum small, tt))

known-told : (texts' : List (List ℕ)) (told : List Token) → AllZip IsTextOf texts' told → filter_map token_of texts' ≡ told
known-told [] [] all = refl
known-told [] (t ∷ ts) all = absurd all
known-told (x ∷ xs) [] all = absurd all
known-told (x ∷ xs) (t ∷ ts) all = rw all.0 (ap (λ more. t ∷ more) (known-told xs ts all.1))

good-told : (texts' : List (List ℕ)) (told : List Token) → AllZip IsTextOf texts' told → AllByRecursion (λ text. is_unknown text ≡ false) texts'
good-told [] told all = tt
good-told (x ∷ xs) [] all = absurd all
good-told (x ∷ xs) (t ∷ ts) all = (ap is_none all.0, good-told xs ts all.1)

-- what is told by the canonical line
abbrev pub told_of : List (List (ℕ × ℤ)) → List Token
told_of elements = front elements ++ ending (sum_by absolute_of elements)

pub record IsTold (elements : List (List (ℕ × ℤ))) : Type 0 where
  pub known : known (canonical_line elements) ≡ told_of elements
  pub good : bad_token (tokens (canonical_line elements)) ≡ None

pub told-line : (elements : List (List (ℕ × ℤ))) → AreSmall elements → sum_by absolute_of elements < 2 ^ 127 → IsTold elements
told-line elements small fits =
    let sum = sum_by absolute_of elements in
    let line = tokens-line elements small fits in
    let all = told-itemsets elements (last_texts sum) (ending sum) small (told-last sum fits) in
    let written = texts elements (last_texts sum) in
    record {
      known = ap (filter_map token_of) line ∙ known-told written (told_of elements) all;
      good =
          ap bad_token line
          ∙ ap (option_map (λ k. BadToken (k + 1))) (position-none is_unknown written (good-told written (told_of elements) all));
    }
