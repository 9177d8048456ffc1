-- The tokens of a text, from the first on.
use Rattle.std.proofs.Common.{◌≡◌, ℕ, ◌+◌, ◌<◌, ◌≤◌, Bool, true, false, not, None, Some, List, [], ◌∷◌, length, take}
use Rattle.std.proofs.Common.{drop, refl, sym, ap, ◌∙◌, arith, filter, position, get_or, drop-cons, add-one, unwrap_or}
use Rattle.std.proofs.Common.{inl, inr, suc}
use Rattle.std.specs.List.{slice_split, onto_first, position_or_len}
use Rattle.std.proofs.lemmas.Bool.{cases_lt}
use Rattle.std.proofs.lemmas.Bool.Decides.{nat_tests}
use Rattle.std.proofs.lemmas.List.{take_all, drop_all, length-take-le}
use Rattle.std.proofs.lemmas.List.Sums.{prefix_len-le-length, fails_before_first, passes_at_first}
use Rattle.std.proofs.lemmas.List.Splits.{slice_split_first, slice_split_none, slice_split-cons_yes, slice_split-cons_no}
use Rattle.hu_kind.specs.Token.{tokens, is_space, is_no_space, has_byte}

tokens-space : (b : ℕ) (bs : List ℕ) → is_space b ≡ true → tokens (b ∷ bs) ≡ tokens bs
tokens-space b bs h = ap (filter has_byte) (slice_split-cons_yes is_space b bs h)

-- spaces in front make no token
tokens-from_start : (text : List ℕ) → tokens (drop (position_or_len is_no_space text) text) ≡ tokens text
tokens-from_start [] = refl
tokens-from_start (b ∷ bs) = step (is_space b) refl (tokens-from_start bs)
  where
    step : (t : Bool) → is_space b ≡ t → tokens (drop (position_or_len is_no_space bs) bs) ≡ tokens bs
        → tokens (drop (position_or_len is_no_space (b ∷ bs)) (b ∷ bs)) ≡ tokens (b ∷ bs)
    step true h more =
        let next : position_or_len is_no_space (b ∷ bs) ≡ suc (position_or_len is_no_space bs) = grind (arith, nat_tests) in
        rw next (more ∙ sym (tokens-space b bs h))
    step false h more =
        let here : position_or_len is_no_space (b ∷ bs) ≡ 0 = grind (arith, nat_tests) in
        rw here refl

filter_full : (piece : List ℕ) (pieces : List (List ℕ)) → 0 < length piece → filter has_byte (piece ∷ pieces) ≡ piece ∷ filter has_byte pieces
filter_full [] pieces some = absurd (omega arith)
filter_full (b ∷ bs) pieces some = refl

-- where no space stands, the text is one token
one_token : (text : List ℕ) → 0 < length text → length text ≤ position_or_len is_space text → tokens text ≡ text ∷ []
one_token text some whole =
    ap (filter has_byte) (slice_split_none is_space text (λ k d within. fails_before_first is_space text k d (omega arith)))
    ∙ filter_full text [] some

at_space : (text : List ℕ) (n : ℕ) → n ≡ position_or_len is_space text → 0 < n → n < length text → tokens text ≡ take n text ∷ tokens (drop n text)
at_space text n is some within =
    let split : slice_split is_space text ≡ take n text ∷ slice_split is_space (drop (n + 1) text) = rw is (slice_split_first is_space text 0 (omega arith)) in
    let here : is_space (get_or text n 0) ≡ true = rw is (passes_at_first is_space text 0 (omega arith)) in
    let rest : tokens (drop n text) ≡ tokens (drop (n + 1) text) =
    rw (add-one, drop-cons text n 0 within) (tokens-space (get_or text n 0) (drop (suc n) text) here) in
    let front : length (take n text) ≡ n = length-take-le n text (omega arith) in
    ap (filter has_byte) split ∙ filter_full (take n text) (slice_split is_space (drop (n + 1) text)) (omega arith) ∙ ap (λ more. take n text ∷ more) (sym rest)

-- the first token ends at the first space
pub tokens-first : (text : List ℕ) (n : ℕ) → n ≡ position_or_len is_space text → 0 < n → tokens text ≡ take n text ∷ tokens (drop n text)
tokens-first text n is some =
    elim (cases_lt n (length text)) [
      | inl within ↦ at_space text n is some within
      | inr whole ↦
          one_token text (omega (arith, prefix_len-le-length (λ b. not (is_space b)) text)) (omega arith)
          ∙ ap (λ token. token ∷ []) (sym (take_all n text whole))
          ∙ ap (λ rest. take n text ∷ tokens rest) (sym (drop_all n text whole))
    ]

no_space_first : (b : ℕ) (bs : List ℕ) → is_no_space b ≡ true → 0 < position_or_len is_space (b ∷ bs)
no_space_first b bs h = grind (arith, nat_tests)

-- the first token begins where the first byte that is no space stands, and it has a byte
pub token-some : (text : List ℕ) (start : ℕ) → position is_no_space text ≡ Some start → (start < length text) × (0 < position_or_len is_space (drop start text))
token-some text start found =
    let start_is : start ≡ position_or_len is_no_space text = grind (arith, nat_tests) in
    let within : position_or_len is_no_space text < length text = grind (arith, nat_tests) in
    let begins : is_no_space (get_or text start 0) ≡ true = rw start_is (passes_at_first is_no_space text 0 within) in
    (omega arith, rw (drop-cons text start 0 (omega arith)) (no_space_first (get_or text start 0) (drop (suc start) text) begins))

pub tokens-next : (text : List ℕ) (start len : ℕ) → position is_no_space text ≡ Some start → len
    ≡ position_or_len is_space (drop start text) → tokens text
    ≡ take len (drop start text) ∷ tokens (drop len (drop start text))
tokens-next text start len found is =
    let start_is : start ≡ position_or_len is_no_space text = grind (arith, nat_tests) in
    let some = (token-some text start found).1 in
    sym (rw start_is (tokens-from_start text)) ∙ tokens-first (drop start text) len is (omega arith)

-- where each byte is a space, there is no token
pub tokens-none : (text : List ℕ) → position is_no_space text ≡ None → tokens text ≡ []
tokens-none text none =
    let end : length text ≤ position_or_len is_no_space text = grind (arith, nat_tests) in
    sym (tokens-from_start text) ∙ ap tokens (drop_all (position_or_len is_no_space text) text end)

pub unwrap_or-position : (p : ℕ → Bool) (text : List ℕ) → unwrap_or (position p text) (length text) ≡ position_or_len p text
unwrap_or-position p text = grind (arith, nat_tests, prefix_len-le-length (λ x. not (p x)) text)

-- a piece with one more byte in front adds at most one token
shorter : (b : ℕ) (pieces : List (List ℕ)) → length (filter has_byte (onto_first b pieces)) ≤ length (filter has_byte pieces) + 1
shorter b [] = omega arith
shorter b ([] ∷ pieces) = omega arith
shorter b ((c ∷ cs) ∷ pieces) = omega arith

pub length-tokens : (text : List ℕ) → length (tokens text) ≤ length text
length-tokens [] = omega arith
length-tokens (b ∷ bs) = step (is_space b) refl (length-tokens bs)
  where
    step : (t : Bool) → is_space b ≡ t → length (tokens bs) ≤ length bs → length (tokens (b ∷ bs)) ≤ length (b ∷ bs)
    step true h fewer = omega (arith, ap length (tokens-space b bs h))
    step false h fewer =
        omega (
          arith,
          ap (λ pieces. length (filter has_byte pieces)) (slice_split-cons_no is_space b bs h),
          shorter b (slice_split is_space bs),
        )
