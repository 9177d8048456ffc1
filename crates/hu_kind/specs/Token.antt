-- A token is a run of bytes without spaces (byte 32).
use Rattle.std.specs.Prelude.{◌≡◌, ℕ, ◌==◌, Bool, true, false, not, List, [], ◌∷◌, filter, codes, refl}
use Rattle.std.specs.List.{slice_split}

-- whether a byte is a space
abbrev pub is_space : ℕ → Bool
is_space byte = byte == 32

-- whether a byte is none
abbrev pub is_no_space : ℕ → Bool
is_no_space byte = not (is_space byte)

-- whether a piece has a byte
abbrev pub has_byte : List ℕ → Bool
has_byte [] = false
has_byte (b ∷ bs) = true

-- the tokens of a text: the pieces between its spaces that aren't empty
abbrev pub tokens : List ℕ → List (List ℕ)
tokens text = filter has_byte (slice_split is_space text)

-- runs of spaces part tokens, and spaces at the ends count for nothing
pub three_tokens : tokens (codes "  ab  c 12 ") ≡ codes "ab" ∷ codes "c" ∷ codes "12" ∷ []
three_tokens = refl

-- no token stands among spaces alone
pub no_token : tokens (codes "   ") ≡ []
no_token = refl
