-- What a step adds to a text.
use Rattle.std.specs.Prelude.{◌≡◌, ℕ, zero, suc, ◌<◌, ◌≤◌, Result, MatchResult, List, [], ◌∷◌, ◌++◌, length}
use Rattle.hu_certify.specs.declared.fault.CertFault.{CertFault}
use Rattle.hu_certify.specs.declared.fault.CertFault.TheVariants.{TooLong}

-- a piece is appended, and the text isn't too long; or it would be
abbrev pub Writes : List ℕ → List ℕ → List ℕ → Result (Unit {0}) CertFault → Type 0
Writes before after piece result =
    MatchResult result (λ _. (after ≡ before ++ piece) × (length after ≤ 268435456))
    (λ fault. fault ≡ TooLong → 268435456 < length (before ++ piece))

-- what stands in front of the token at a place of a list
abbrev pub gap : ℕ → List ℕ
gap zero = []
gap (suc k) = 32 ∷ []
