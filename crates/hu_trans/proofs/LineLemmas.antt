-- The parts of a line.
use Rattle.std.proofs.Common.{◌≡◌, ℕ, ◌+◌, ◌-◌, ◌<◌, ◌≤◌, ◌==◌, inl, inr, false, Option, None, Some, List, [], ◌∷◌, length, take, drop, position, ap, sym, ◌∙◌, arith, refl}
use Rattle.std.specs.List.{position_or_len}
use Rattle.std.proofs.lemmas.Bool.{cases_lt, false≢true}
use Rattle.std.proofs.lemmas.Bool.Decides.{nat_tests}
use Rattle.std.proofs.lemmas.List.{take_all, length-drop}
use Rattle.std.proofs.lemmas.List.Sums.{fails_before_first}
use Rattle.std.proofs.lemmas.List.Quantifiers.{position-Some}
use Rattle.std.proofs.lemmas.List.Splits.{slice_split_first, slice_split_none, length-slice_split}
use Rattle.memchr.specs.Find.{IsFirstByte, is_byte}
use Rattle.hu_trans.specs.declared.fault.Fault.TheVariants.{NotThreeParts}
use Rattle.hu_trans.specs.Line.{parts}
use Rattle.hu_trans.specs.Reading.{not_three_parts}

-- what a search for a byte finds is the first place of that byte
pub first_place : (a : ℕ) (text : List ℕ) (place first : Option ℕ) → IsFirstByte (is_byte a) text place
    → position (λ byte. byte == a) text ≡ first → place ≡ first
first_place a text None None found is = refl
first_place a text None (Some i) found is =
    let at = position-Some (λ byte. byte == a) text i 0 is in
    absurd (found i (omega arith) at.0 at.1)
first_place a text (Some k) None found is =
    let end : length text ≤ position_or_len (λ byte. byte == a) text = grind (arith, nat_tests) in
    let fails = fails_before_first (λ byte. byte == a) text k 0 (omega (arith, end, found.0.high)) in
    absurd (false≢true (sym fails ∙ found.1))
first_place a text (Some k) (Some i) found is =
    let at = position-Some (λ byte. byte == a) text i 0 is in
    let low : i ≤ k = elim (cases_lt k i) [ inl before ↦ absurd (false≢true (sym (at.2 k before) ∙ found.1)) | inr low ↦ low ] in
    let high : k ≤ i = elim (cases_lt i k) [ inl after ↦ absurd (found.0.before i (omega arith) after at.1) | inr high ↦ high ] in
    ap Some (omega (arith, low, high))

-- the first part ends at the first `:`
pub parts-first : (text : List ℕ) (place : ℕ) → position (λ byte. byte == 58) text ≡ Some place
    → parts text ≡ take place text ∷ parts (take (length text - (place + 1)) (drop (place + 1) text))
parts-first text place found =
    let is : place ≡ position_or_len (λ byte. byte == 58) text = grind (arith, nat_tests) in
    let within : position_or_len (λ byte. byte == 58) text < length text = grind (arith, nat_tests) in
    let whole : take (length text - (place + 1)) (drop (place + 1) text) ≡ drop (place + 1) text =
    take_all (length text - (place + 1)) (drop (place + 1) text) (omega (arith, length-drop (place + 1) text)) in
    rw (whole, is) (slice_split_first (λ byte. byte == 58) text 0 within)

-- where no `:` stands, the text is one part
pub parts-none : (text : List ℕ) → position (λ byte. byte == 58) text ≡ None → parts text ≡ text ∷ []
parts-none text none =
    let end : length text ≤ position_or_len (λ byte. byte == 58) text = grind (arith, nat_tests) in
    slice_split_none (λ byte. byte == 58) text (λ k d within. fails_before_first (λ byte. byte == 58) text k d (omega arith))

pub four_parts : (line a b c rest : List ℕ) → parts line ≡ a ∷ b ∷ c ∷ parts rest → not_three_parts (parts line) ≡ Some NotThreeParts
four_parts line a b c rest h =
    let count : length (parts line) ≡ length (parts rest) + 3 = ap length h ∙ omega arith in
    let some = length-slice_split (λ byte. byte == 58) rest in
    let other : (length (parts line) == 3) ≡ false = grind (arith, nat_tests) in
    rw other refl
