-- The tokens of a line, one after another.
use Rattle.std.proofs.Common.{◌≡◌, ℕ, ◌+◌, None, Some, List, [], ◌∷◌, ◌++◌, sym, ap, refl, append_assoc, filter_map}
use Rattle.std.specs.List.{position_from}
use Rattle.std.specs.Option.{option_map}
use Rattle.std.proofs.lemmas.Iterator.Adapters.{position_from-zero}
use Rattle.hu_seq.specs.declared.fault.SeqFault.TheVariants.{BadToken}
use Rattle.hu_seq.specs.declared.token.Token.{Token}
use Rattle.hu_seq.specs.Token.{token_of, is_unknown}
use Rattle.hu_seq.specs.Reading.{bad_token}

-- one more token
pub known-next : (told : List Token) (text : List ℕ) (left : List (List ℕ)) (token : Token) → token_of text ≡ Some token
    → told ++ filter_map token_of (text ∷ left) ≡ (told ++ token ∷ []) ++ filter_map token_of left
known-next told text left token is = rw is (sym (append_assoc told (token ∷ []) (filter_map token_of left)))

-- a bad token stands later
pub unknown-next : (n : ℕ) (text : List ℕ) (left : List (List ℕ)) (token : Token) → token_of text ≡ Some token
    → position_from is_unknown n (text ∷ left) ≡ position_from is_unknown (n + 1) left
unknown-next n text left token is = rw is refl

-- a bad token stands here
pub unknown-here : (n : ℕ) (text : List ℕ) (left : List (List ℕ)) → token_of text ≡ None → position_from is_unknown n (text ∷ left) ≡ Some n
unknown-here n text left is = rw is refl

pub bad_token-from : (texts : List (List ℕ)) → bad_token texts ≡ option_map (λ k. BadToken (k + 1)) (position_from is_unknown 0 texts)
bad_token-from texts = ap (option_map (λ k. BadToken (k + 1))) (position_from-zero is_unknown texts)
