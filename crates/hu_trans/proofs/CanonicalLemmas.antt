-- The canonical line of a record says that record.
use Rattle.std.proofs.Common.{◌≡◌, ℕ, ◌+◌, ◌<◌, ◌≤◌, ◌^◌, ◌==◌, ℤ, pos, unsigned_abs, true, false, Option, None, unwrap_or, slice_get, Ok, Err, Result, List}
use Rattle.std.proofs.Common.{[], ◌∷◌, length, map, zip, filter, get_or, refl, ap, ◌∙◌, arith, decimal}
use Rattle.std.specs.Fmt.{signed_decimal}
use Rattle.std.specs.List.{All, join_with_byte, slice_split}
use Rattle.std.specs.Option.{option_map, option_map_or}
use Rattle.std.proofs.lemmas.Bool.{eq-eqb}
use Rattle.std.proofs.lemmas.List.{length-map}
use Rattle.std.proofs.lemmas.List.Sums.{sum_by-cons, get_or-le-sum_by}
use Rattle.std.proofs.lemmas.List.Sorted.{IsPermutation-refl}
use Rattle.std.proofs.lemmas.Int.{ints}
use Rattle.std.proofs.lemmas.List.Elements.{All-nil, All-cons, All-head, All-tail, All-append, All-map}
use Rattle.std.proofs.lemmas.List.Splits.{slice_split_at, slice_split_none}
use Rattle.hu_kind.specs.declared.number.NumberFault.{NumberFault}
use Rattle.hu_kind.specs.Number.{number, signed_number}
use Rattle.hu_kind.specs.Record.{items_in, absolute_of, total, IsRecord}
use Rattle.hu_kind.specs.Cells.{by_item}
use Rattle.hu_kind.proofs.lemmas.CellsLemmas.{by_item-ascending, twice-ascending}
use Rattle.hu_kind.specs.Token.{tokens, has_byte}
use Rattle.hu_kind.specs.First.{first_some}
use Rattle.hu_kind.proofs.lemmas.Written.{number-decimal, signed_number-signed_decimal}
use Rattle.hu_kind.proofs.lemmas.CellPlaces.{items_rise}
use Rattle.hu_trans.specs.Line.{numbers, bad_token, bad_total, parts, items}
use Rattle.hu_trans.specs.declared.fault.Fault.{Fault}
use Rattle.hu_trans.specs.declared.fault.Fault.TheVariants.{BadNumber}
use Rattle.hu_trans.specs.Reading.{not_three_parts, bad_number, reading, judged}
use Rattle.hu_trans.specs.Canonical.{canonical_line}
use Rattle.hu_trans.proofs.JudgedLemmas.{AreFine, sum_faults, judged-sums, item_faults-none, sum_faults-none}
use Rattle.hu_trans.proofs.NumbersLemmas.{bad_from, bad_token-bad_from}
use Rattle.hu_trans.proofs.NumeralLemmas.{Lacks, IsToken, IsToken-decimal, IsToken-signed_decimal}

-- pieces that are joined by a byte which none of them has are cut at it again
split-join : (c : ℕ) (pieces : List (List ℕ)) → 0 < length pieces → All (Lacks c) pieces → slice_split (λ b. b == c) (join_with_byte c pieces) ≡ pieces
split-join c [] some lack = absurd (omega (arith, some))
split-join c (x ∷ []) some lack = slice_split_none (λ b. b == c) x (All-head (Lacks c) x [] lack)
split-join c (x ∷ y ∷ xs) some lack =
    slice_split_at (λ b. b == c) x c (join_with_byte c (y ∷ xs)) (All-head (Lacks c) x (y ∷ xs) lack) (eq-eqb c c refl)
    ∙ ap (λ more. x ∷ more) (split-join c (y ∷ xs) (omega arith) (All-tail (Lacks c) x (y ∷ xs) lack))

full_piece : (piece : List ℕ) → 0 < length piece → has_byte piece ≡ true
full_piece [] some = absurd (omega (arith, some))
full_piece (b ∷ bs) some = refl

filter_full : (pieces : List (List ℕ)) → All IsToken pieces → filter has_byte pieces ≡ pieces
filter_full [] all = refl
filter_full (x ∷ xs) all =
    rw (full_piece x (All-head IsToken x xs all).some) (ap (λ more. x ∷ more) (filter_full xs (All-tail IsToken x xs all)))

lack_space : (texts : List (List ℕ)) → All IsToken texts → All (Lacks 32) texts
lack_space texts all k d within = (all k d within).no_space

-- tokens with a space between are these tokens
tokens-join : (texts : List (List ℕ)) → 0 < length texts → All IsToken texts → tokens (join_with_byte 32 texts) ≡ texts
tokens-join texts some all = ap (filter has_byte) (split-join 32 texts some (lack_space texts all)) ∙ filter_full texts all

colon-join : (texts : List (List ℕ)) → All IsToken texts → Lacks 58 (join_with_byte 32 texts)
colon-join [] all = All-nil (λ b. (b == 58) ≡ false)
colon-join (x ∷ []) all = (All-head IsToken x [] all).no_colon
colon-join (x ∷ y ∷ xs) all =
    All-append (λ b. (b == 58) ≡ false) x (32 ∷ join_with_byte 32 (y ∷ xs)) (All-head IsToken x (y ∷ xs) all).no_colon
    (All-cons (λ b. (b == 58) ≡ false) 32 (join_with_byte 32 (y ∷ xs)) refl (colon-join (y ∷ xs) (All-tail IsToken x (y ∷ xs) all)))

-- texts that say numbers
numbers-map : {X : Type 0} (read : List ℕ → Result ℤ NumberFault) (text : X → List ℕ) (value : X → ℤ) (xs : List X)
    → All (λ x. read (text x) ≡ Ok (value x)) xs → numbers read (map text xs) ≡ map value xs
numbers-map read text value [] all = refl
numbers-map read text value (x ∷ xs) all =
    rw (All-head (λ y. read (text y) ≡ Ok (value y)) x xs all)
    (ap (λ more. value x ∷ more) (numbers-map read text value xs (All-tail (λ y. read (text y) ≡ Ok (value y)) x xs all)))

bad_from-map : {X : Type 0} (read : List ℕ → Result ℤ NumberFault) (text : X → List ℕ) (value : X → ℤ) (at : ℕ) (xs : List X)
    → All (λ x. read (text x) ≡ Ok (value x)) xs → bad_from read at (map text xs) ≡ None
bad_from-map read text value at [] all = refl
bad_from-map read text value at (x ∷ xs) all =
    rw (All-head (λ y. read (text y) ≡ Ok (value y)) x xs all)
    (bad_from-map read text value (at + 1) xs (All-tail (λ y. read (text y) ≡ Ok (value y)) x xs all))

bad_token-map : {X : Type 0} (read : List ℕ → Result ℤ NumberFault) (text : X → List ℕ) (value : X → ℤ) (xs : List X)
    → All (λ x. read (text x) ≡ Ok (value x)) xs → bad_token read (map text xs) ≡ None
bad_token-map read text value xs all =
    bad_token-bad_from read (map text xs) ∙ ap (option_map (λ k. k + 1)) (bad_from-map read text value 0 xs all)

-- what three parts say, by their tokens
abbrev said : Option Fault → List (List ℕ) → List (List ℕ) → List (List ℕ) → Result (List (ℕ × ℤ)) Fault
said first a b c = option_map_or Err (first_some (first ∷ bad_number a b c ∷ []))
    (judged (map unsigned_abs (numbers number a)) (unwrap_or (slice_get (numbers signed_number b) 0) (pos 0)) (numbers signed_number c))

abbrev tokens_at : ℕ → List (List ℕ) → List (List ℕ)
tokens_at k pieces = tokens (unwrap_or (slice_get pieces k) [])

formed : (line first second third : List ℕ) (a b c : List (List ℕ)) → parts line ≡ first ∷ second ∷ third ∷ []
    → tokens first ≡ a → tokens second ≡ b → tokens third ≡ c → reading line ≡ said None a b c
formed line first second third a b c are one two three =
    ap (λ pieces. said (not_three_parts pieces) (tokens_at 0 pieces) (tokens_at 1 pieces) (tokens_at 2 pieces)) are
    ∙ ap (λ x. said None x (tokens second) (tokens third)) one
    ∙ ap (λ x. said None a x (tokens third)) two
    ∙ ap (λ x. said None a b x) three

bad_number-none : (a b c : List (List ℕ)) → bad_token number a ≡ None → bad_total b ≡ None → bad_token signed_number c ≡ None → bad_number a b c ≡ None
bad_number-none a b c one two three =
    ap (λ x. first_some (option_map (BadNumber 1) x ∷ option_map (BadNumber 2) (bad_total b) ∷ option_map (BadNumber 3) (bad_token signed_number c) ∷ [])) one
    ∙ ap (λ x. first_some (None ∷ option_map (BadNumber 2) x ∷ option_map (BadNumber 3) (bad_token signed_number c) ∷ [])) two
    ∙ ap (λ x. first_some (None ∷ None ∷ option_map (BadNumber 3) x ∷ [])) three

said-good : (a b c : List (List ℕ)) (items : List ℕ) (sum : ℤ) (others : List ℤ) → bad_number a b c ≡ None
    → map unsigned_abs (numbers number a) ≡ items → numbers signed_number b ≡ sum ∷ [] → numbers signed_number c ≡ others
    → said None a b c ≡ judged items sum others
said-good a b c items sum others good one two three =
    ap (λ bad. option_map_or Err (first_some (None ∷ bad ∷ []))
    (judged (map unsigned_abs (numbers number a)) (unwrap_or (slice_get (numbers signed_number b) 0) (pos 0))
    (numbers signed_number c))) good
    ∙ ap (λ x. judged x (unwrap_or (slice_get (numbers signed_number b) 0) (pos 0)) (numbers signed_number c)) one
    ∙ ap (λ x. judged items (unwrap_or (slice_get x 0) (pos 0)) (numbers signed_number c)) two
    ∙ ap (judged items sum) three

pub values_small : (cells : List (ℕ × ℤ)) → absolute_of cells < 2 ^ 127 → All (λ cell. unsigned_abs cell.1 < 2 ^ 127) cells
values_small cells small k d within = omega (arith, get_or-le-sum_by (λ cell. unsigned_abs cell.1) cells k d within)

pub total_within : (cells : List (ℕ × ℤ)) → unsigned_abs (total cells) ≤ absolute_of cells
total_within [] = omega (arith, ints)
total_within (c ∷ cs) = omega (arith, ints, sum_by-cons (λ cell. unsigned_abs cell.1) c cs, total_within cs)

items_back : (cells : List (ℕ × ℤ)) → map unsigned_abs (map (λ cell. pos cell.0) cells) ≡ items_in cells
items_back [] = refl
items_back (c ∷ cs) = ap (λ items. c.0 ∷ items) (items_back cs)

pairs_back : (cells : List (ℕ × ℤ)) → zip (items_in cells) (map (λ cell. cell.1) cells) ≡ cells
pairs_back [] = refl
pairs_back (c ∷ cs) = ap (λ pairs. c ∷ pairs) (pairs_back cs)

AreFine-record : (cells : List (ℕ × ℤ)) → IsRecord cells → AreFine (items_in cells) (map (λ cell. cell.1) cells)
AreFine-record cells rules =
    let items : length (items_in cells) ≡ length cells = length-map cells (λ cell. cell.0) in
    let others : length (map (λ (cell : ℕ × ℤ). cell.1) cells) ≡ length cells = length-map cells (λ cell. cell.1) in
    record {
      some = omega (arith, rules.itemset.some);
      few = omega (arith, rules.few);
      same = omega arith;
      in_range = All-map (λ item. item ≤ 2147483647) (λ cell. cell.0) cells rules.itemset.in_range;
    }

-- the numbers of a record say it
judged-record : (cells : List (ℕ × ℤ)) → IsRecord cells → judged (items_in cells) (total cells) (map (λ cell. cell.1) cells) ≡ Ok cells
judged-record cells rules =
    let others = map (λ (cell : ℕ × ℤ). cell.1) cells in
    let once = twice-ascending (items_in cells) (items_in cells) (IsPermutation-refl (items_in cells)) (items_rise cells rules.itemset.ascending) in
    let sums : first_some (sum_faults (total cells) (zip (items_in cells) others)) ≡ None =
    ap (λ pairs. first_some (sum_faults (total cells) pairs)) (pairs_back cells) ∙ sum_faults-none cells rules.sum_fits in
    judged-sums (items_in cells) (total cells) others None (item_faults-none (items_in cells) others (AreFine-record cells rules)) once sums
    ∙ ap (λ pairs. Ok (by_item pairs)) (pairs_back cells)
    ∙ ap Ok (by_item-ascending cells rules.itemset.ascending)

pub reading-canonical : (cells : List (ℕ × ℤ)) → IsRecord cells → reading (canonical_line cells) ≡ Ok cells
reading-canonical cells rules =
    let item_texts = map (λ (cell : ℕ × ℤ). decimal cell.0) cells in
    let value_texts = map (λ (cell : ℕ × ℤ). signed_decimal cell.1) cells in
    let total_text = signed_decimal (total cells) in
    let small = values_small cells rules.sum_fits in
    let sum_small : unsigned_abs (total cells) < 2 ^ 127 = omega (arith, total_within cells, rules.sum_fits) in
    let some : 0 < length cells = rules.itemset.some in
    let low : All (λ cell. cell.0 < 2 ^ 127) cells = λ k d within. omega (arith, rules.itemset.in_range k d within) in
    let items_are : All IsToken item_texts =
    All-map IsToken (λ cell. decimal cell.0) cells (λ k d within. IsToken-decimal (get_or cells k d).0
    (low k d within)) in
    let values_are : All IsToken value_texts =
    All-map IsToken (λ cell. signed_decimal cell.1) cells
    (λ k d within. IsToken-signed_decimal (get_or cells k d).1 (small k d within)) in
    let total_is : All IsToken (total_text ∷ []) = All-cons IsToken total_text [] (IsToken-signed_decimal (total cells) sum_small) (All-nil IsToken) in
    let pieces = join_with_byte 32 item_texts ∷ total_text ∷ join_with_byte 32 value_texts ∷ [] in
    let three : All (Lacks 58) pieces =
    All-cons (Lacks 58) (join_with_byte 32 item_texts) (total_text ∷ join_with_byte 32 value_texts ∷ []) (colon-join item_texts items_are)
    (All-cons (Lacks 58) total_text (join_with_byte 32 value_texts ∷ []) (IsToken-signed_decimal (total cells) sum_small).no_colon
    (All-cons (Lacks 58) (join_with_byte 32 value_texts) [] (colon-join value_texts values_are) (All-nil (Lacks 58)))) in
    let items_said : All (λ cell. number (decimal cell.0) ≡ Ok (pos cell.0)) cells = λ k d within. number-decimal (get_or cells k d).0 (low k d within) in
    let values_said : All (λ cell. signed_number (signed_decimal cell.1) ≡ Ok cell.1) cells =
    λ k d within. signed_number-signed_decimal (get_or cells k d).1 (small k d within) in
    let total_said = signed_number-signed_decimal (total cells) sum_small in
    let total_good : bad_total (total_text ∷ []) ≡ None = rw total_said refl in
    let total_read : numbers signed_number (total_text ∷ []) ≡ total cells ∷ [] = rw total_said refl in
    let good : bad_number item_texts (total_text ∷ []) value_texts ≡ None =
    bad_number-none item_texts (total_text ∷ []) value_texts
    (bad_token-map number (λ cell. decimal cell.0) (λ cell. pos cell.0) cells items_said)
    total_good
    (bad_token-map signed_number (λ cell. signed_decimal cell.1) (λ cell. cell.1) cells values_said) in
    let items_read = ap (map unsigned_abs) (numbers-map number (λ cell. decimal cell.0) (λ cell. pos cell.0) cells items_said) ∙ items_back cells in
    let values_read = numbers-map signed_number (λ cell. signed_decimal cell.1) (λ cell. cell.1) cells values_said in
    formed (canonical_line cells) (join_with_byte 32 item_texts) total_text (join_with_byte 32 value_texts) item_texts (total_text ∷ []) value_texts
    (split-join 58 pieces (omega arith) three)
    (tokens-join item_texts (omega (arith, length-map cells (λ cell. decimal cell.0))) items_are)
    (tokens-join (total_text ∷ []) (omega arith) total_is)
    (tokens-join value_texts (omega (arith, length-map cells (λ cell. signed_decimal cell.1))) values_are)
    ∙ said-good item_texts (total_text ∷ []) value_texts (items_in cells) (total cells) (map (λ cell. cell.1) cells) good items_read total_read values_read
    ∙ judged-record cells rules
