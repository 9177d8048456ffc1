-- A text cut at its first byte of one kind.
use Rattle.std.proofs.Common.{◌≡◌, ℕ, ◌+◌, ◌-◌, ◌<◌, ◌≤◌, ◌==◌, None, Some, List, [], ◌∷◌, length, take, drop, position, arith, refl}
use Rattle.std.specs.List.{position_or_len, slice_split}
use Rattle.std.proofs.lemmas.Bool.Decides.{nat_tests}
use Rattle.std.proofs.lemmas.List.{take_all, length-drop}
use Rattle.std.proofs.lemmas.List.Sums.{fails_before_first}
use Rattle.std.proofs.lemmas.List.Splits.{slice_split_first, slice_split_none, length-slice_split}
use Rattle.hu_proof.specs.Text.{token_from, said_in, said_of}

-- the first piece ends at the first such byte
pub split-first : (byte : ℕ) (text : List ℕ) (place : ℕ) → position (λ b. b == byte) text ≡ Some place
    → slice_split (λ b. b == byte) text ≡ take place text ∷ slice_split (λ b. b == byte) (take (length text - (place + 1)) (drop (place + 1) text))
split-first byte text place found =
    let is : place ≡ position_or_len (λ b. b == byte) text = grind (arith, nat_tests) in
    let within : position_or_len (λ b. b == byte) text < length text = grind (arith, nat_tests) in
    let whole : take (length text - (place + 1)) (drop (place + 1) text) ≡ drop (place + 1) text =
    take_all (length text - (place + 1)) (drop (place + 1) text) (omega (arith, length-drop (place + 1) text)) in
    rw (whole, is) (slice_split_first (λ b. b == byte) text 0 within)

-- where there is none, the text is one piece
pub split-none : (byte : ℕ) (text : List ℕ) → position (λ b. b == byte) text ≡ None → slice_split (λ b. b == byte) text ≡ text ∷ []
split-none byte text none =
    let end : length text ≤ position_or_len (λ b. b == byte) text = grind (arith, nat_tests) in
    slice_split_none (λ b. b == byte) text (λ k d within. fails_before_first (λ b. b == byte) text k d (omega arith))

-- a token has at most two parts, and a line three
token-of_many : (item bound : List ℕ) (rest : List (List ℕ)) → 0 < length rest → token_from (item ∷ bound ∷ rest) ≡ None
token-of_many item bound [] some = absurd (omega arith)
token-of_many item bound (r ∷ rest) some = refl

pub token-many : (item bound first rest : List ℕ) → slice_split (λ b. b == 61) bound ≡ first ∷ slice_split (λ b. b == 61) rest
    → token_from (item ∷ slice_split (λ b. b == 61) bound) ≡ None
token-many item bound first rest e =
    rw e (token-of_many item first (slice_split (λ b. b == 61) rest) (omega (arith, length-slice_split (λ b. b == 61) rest)))

said-of_many : (a b c : List ℕ) (rest : List (List ℕ)) → 0 < length rest → said_in (a ∷ b ∷ c ∷ rest) ≡ None
said-of_many a b c [] some = absurd (omega arith)
said-of_many a b c (r ∷ rest) some = refl

pub said-many : (text a one b two c rest : List ℕ) → slice_split (λ b. b == 58) text ≡ a ∷ slice_split (λ b. b == 58) one
    → slice_split (λ b. b == 58) one ≡ b ∷ slice_split (λ b. b == 58) two → slice_split (λ b. b == 58) two ≡ c ∷ slice_split (λ b. b == 58) rest
    → said_of text ≡ None
said-many text a one b two c rest d e f =
    rw (d, e, f) (said-of_many a b c (slice_split (λ b. b == 58) rest) (omega (arith, length-slice_split (λ b. b == 58) rest)))
