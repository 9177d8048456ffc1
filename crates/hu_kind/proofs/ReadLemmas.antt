-- The first token of a text, read as a number.
use Rattle.std.proofs.Common.{◌≡◌, ℕ, zero, suc, ◌+◌, ◌-◌, ◌<◌, ◌≤◌, ◌==◌, ℤ, pos, neg_ℤ, true, false, Option, None}
use Rattle.std.proofs.Common.{Some, Result, Ok, Err, add-one, List, [], ◌∷◌, length, take, drop, slice_index, refl, sym}
use Rattle.std.proofs.Common.{ap, ◌∙◌, arith, position, subst}
use Rattle.std.specs.List.{position_or_len}
use Rattle.std.specs.Result.{result_map_both}
use Rattle.std.specs.Str.Parse.{AllDigits, digits_value}
use Rattle.std.proofs.lemmas.Bool.Decides.{nat_tests}
use Rattle.std.proofs.lemmas.List.{length-drop, length-take-le, take_all}
use Rattle.hu_kind.specs.declared.number.NumberFault.{NumberFault}
use Rattle.std.specs.Option.{option_map_or}
use Rattle.hu_kind.specs.declared.number.NumberFault.TheVariants.{NotDigit}
use Rattle.hu_kind.specs.Number.{number, signed_number, digits_from, other_place, value_of_digits}
use Rattle.hu_kind.specs.Reading.{IsFirstRead, BeginsWith}
use Rattle.hu_kind.specs.Token.{tokens, is_space, is_no_space}
use Rattle.hu_kind.proofs.TokenLemmas.{tokens-next, token-some}
use Rattle.hu_kind.proofs.lemmas.Numerals.{digit_not, digits_from-value, front-small}

-- a text that begins with digits, which a space or the end of the text follows
pub digits-end : (text : List ℕ) (count : ℕ) → count ≤ length text → AllDigits 10 (take count text)
    → (count < length text → slice_index text count ≡ 32) → count ≡ position_or_len is_space text
digits-end [] count within digits ends = omega arith
digits-end (b ∷ bs) zero within digits ends =
    let here : slice_index (b ∷ bs) 0 ≡ 32 = ends (omega arith) in
    grind (arith, nat_tests)
digits-end (b ∷ bs) (suc count) within digits ends =
    let other : (b == 32) ≡ false = digit_not b 32 digits.0 (omega arith) in
    let rest = digits-end bs count (omega arith) digits.1 (λ more. ends (omega arith)) in
    rw other (omega arith)

pub BeginsWith-digits : (text : List ℕ) (count : ℕ) → 0 < count → count ≤ 18 → count ≤ length text
    → AllDigits 10 (take count text) → (count < length text → slice_index text count ≡ 32)
    → BeginsWith number text (pos (digits_value 10 (take count text))) count
BeginsWith-digits text count some few within digits ends = record {
  some = some;
  within = within;
  end = digits-end text count within digits ends;
  said =
      let size = length-take-le count text within in
      let small = front-small text count 18 digits within few in
      ap (result_map_both pos (λ fault. fault)) (digits_from-value 0 (digits_value 10 (take count text))
      (take count text) (omega arith) digits (omega arith) refl (omega arith));
}

ok_from : (r : Result ℕ NumberFault) (n : ℕ) → result_map_both pos (λ fault. fault) r ≡ Ok (pos n) → r ≡ Ok n
ok_from (Ok m) n h = cc
ok_from (Err fault) n h = cc

-- where digits begin doesn't matter
elsewhere : (at n : ℕ) (text : List ℕ) → number text ≡ Ok (pos n) → digits_from at text ≡ Ok n
elsewhere at n [] h = cc
elsewhere at n (b ∷ bs) h = by (other_place (b ∷ bs)) h
  where
    by : (o : Option ℕ) → result_map_both pos (λ fault. fault) (option_map_or (λ place. Err (NotDigit (0 + place))) o (value_of_digits (b ∷ bs))) ≡ Ok (pos n)
        → option_map_or (λ place. Err (NotDigit (at + place))) o (value_of_digits (b ∷ bs)) ≡ Ok n
    by None h' = ok_from (value_of_digits (b ∷ bs)) n h'
    by (Some place) h' = cc

-- a `-` in front of such a text
pub BeginsWith-minus : (text : List ℕ) (n count : ℕ) → slice_index text 0 ≡ 45 → BeginsWith number (take (length text - 1) (drop 1 text)) (pos n) count
    → BeginsWith signed_number text (neg_ℤ (pos n)) (count + 1)
BeginsWith-minus [] n count minus begins = absurd (omega (arith, begins.some, begins.within))
BeginsWith-minus (b ∷ bs) n count minus begins =
    let whole : take (length (b ∷ bs) - 1) (drop 1 (b ∷ bs)) ≡ bs = take_all (length (b ∷ bs) - 1) bs (omega arith) in
    let begins' : BeginsWith number bs (pos n) count = subst (λ text. BeginsWith number text (pos n) count) whole begins in
    let other : (b == 32) ≡ false = grind (arith, nat_tests) in
    let here : (b == 45) ≡ true = grind (arith, nat_tests) in
    record {
      some = omega arith;
      within = omega (arith, begins'.within);
      end = rw other (omega (arith, begins'.end));
      said = rw add-one (rw here (ap (result_map_both (λ m. neg_ℤ (pos m)) (λ fault. fault)) (elsewhere 1 n (take count bs) begins'.said)));
    }

-- the first token is read
pub read-from : (read : List ℕ → Result ℤ NumberFault) (text begun rest : List ℕ) (start len : ℕ) (said : Result ℤ NumberFault)
    → position is_no_space text ≡ Some start → begun ≡ drop start text → len ≡ position_or_len is_space begun → rest
    ≡ drop len begun → read (take len begun) ≡ said
    → IsFirstRead read text rest said × (length rest < length text)
read-from read text begun rest start len said found begins ends left is =
    let len_is : len ≡ position_or_len is_space (drop start text) = ends ∙ ap (position_or_len is_space) begins in
    let some = token-some text start found in (
      record {
        token = take len begun;
        first = tokens-next text start len found len_is
            ∙ (λ j. take len (sym begins j) ∷ tokens (drop len (sym begins j)))
            ∙ ap (λ more. take len begun ∷ tokens more) (sym left);
        value = is;
      },
      omega (arith, some.0, some.1, ap length left, length-drop len begun, ap length begins, length-drop start text),
    )
