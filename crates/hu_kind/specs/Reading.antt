-- The first token of a text, read as a number.
use Rattle.std.specs.Prelude.{◌≡◌, ℕ, ◌<◌, ◌≤◌, ℤ, Result, Ok, List, ◌∷◌, length, take}
use Rattle.std.specs.List.{position_or_len}
use Rattle.hu_kind.specs.declared.number.NumberFault.{NumberFault}
use Rattle.hu_kind.specs.Token.{tokens, is_space}

-- this is read of the first token of a text, and what is left of the text has its other tokens
pub record IsFirstRead (read : List ℕ → Result ℤ NumberFault) (text rest : List ℕ)
    (said : Result ℤ NumberFault) : Type 0 where
  pub token : List ℕ
  pub first : tokens text ≡ token ∷ tokens rest
  pub value : read token ≡ said

-- a text begins with a token of so many bytes, and that says a number
pub record BeginsWith (read : List ℕ → Result ℤ NumberFault) (text : List ℕ) (value : ℤ)
    (count : ℕ) : Type 0 where
  pub some : 0 < count
  pub within : count ≤ length text
  pub end : count ≡ position_or_len is_space text
  pub said : read (take count text) ≡ Ok value
