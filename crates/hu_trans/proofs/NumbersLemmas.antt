-- The numbers of tokens, and the first token that is none.
use Rattle.std.proofs.Common.{◌≡◌, ℕ, ◌+◌, ℤ, Option, None, Some, Result, Ok, Err, is_err, List, [], ◌∷◌, ◌++◌, ap, sym, ◌∙◌, refl, append_assoc}
use Rattle.std.specs.List.{position_from}
use Rattle.std.specs.Option.{option_map}
use Rattle.std.proofs.lemmas.Iterator.Adapters.{position_from-zero}
use Rattle.hu_kind.specs.declared.number.NumberFault.{NumberFault}
use Rattle.hu_trans.specs.Line.{bad_token, numbers}

-- the first place, counted from `at`, at which a token is no number
abbrev pub bad_from : (List ℕ → Result ℤ NumberFault) → ℕ → List (List ℕ) → Option ℕ
bad_from read at texts = position_from (λ text. is_err (read text)) at texts

pub bad_token-bad_from : (read : List ℕ → Result ℤ NumberFault) (texts : List (List ℕ)) → bad_token read texts ≡ option_map (λ k. k + 1) (bad_from read 0 texts)
bad_token-bad_from read texts = ap (option_map (λ k. k + 1)) (position_from-zero (λ text. is_err (read text)) texts)

-- where no token is left, there was none
pub bad_token-none : (read : List ℕ → Result ℤ NumberFault) (texts left : List (List ℕ)) (at : ℕ) → bad_from read 0 texts ≡ bad_from read at left → left ≡ []
    → bad_token read texts ≡ None
bad_token-none read texts left at place end =
    bad_token-bad_from read texts ∙ ap (option_map (λ k. k + 1)) (place ∙ ap (bad_from read at) end)

-- the first token that is left
pub bad_token-some : (read : List ℕ → Result ℤ NumberFault) (texts left : List (List ℕ)) (at : ℕ) (text : List ℕ) (more : List (List ℕ)) (fault : NumberFault)
    → bad_from read 0 texts ≡ bad_from read at left → left ≡ text ∷ more → read text ≡ Err fault → bad_token read texts ≡ Some (at + 1)
bad_token-some read texts left at text more fault place next bad =
    let here : bad_from read at (text ∷ more) ≡ Some at = rw bad refl in
    bad_token-bad_from read texts ∙ ap (option_map (λ k. k + 1)) (place ∙ ap (bad_from read at) next ∙ here)

-- one more token, which is a number
pub numbers-more : (read : List ℕ → Result ℤ NumberFault) (before pushed : List ℤ) (texts left : List (List ℕ)) (text : List ℕ) (value told : ℤ) (all : List ℤ)
    → texts ≡ text ∷ left → read text ≡ Ok value → told ≡ value → pushed ≡ before ++ told ∷ []
    → before ++ numbers read texts ≡ all → pushed ++ numbers read left ≡ all
numbers-more read before pushed texts left text value told all next said same push so_far =
    let here : numbers read (text ∷ left) ≡ value ∷ numbers read left = rw said refl in
    ap (λ values. values ++ numbers read left) push
    ∙ append_assoc before (told ∷ []) (numbers read left)
    ∙ ap (λ v. before ++ v ∷ numbers read left) same
    ∙ ap (λ more. before ++ more) (sym here)
    ∙ ap (λ more. before ++ numbers read more) (sym next)
    ∙ so_far

pub bad_from-more : (read : List ℕ → Result ℤ NumberFault) (at : ℕ) (texts left : List (List ℕ)) (text : List ℕ)
    (value : ℤ) → texts ≡ text ∷ left → read text ≡ Ok value
    → bad_from read at texts ≡ bad_from read (at + 1) left
bad_from-more read at texts left text value next said =
    let here : bad_from read at (text ∷ left) ≡ bad_from read (at + 1) left = rw said refl in
    ap (bad_from read at) next ∙ here
