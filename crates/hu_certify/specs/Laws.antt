-- What holds of every certificate that a base itself makes.
use Rattle.std.specs.Prelude.{◌≡◌, ℕ, ◌^◌, ◌<◌, ◌≤◌, ℤ, pos, ◌≤ℤ◌, unsigned_abs, None, List, length}
use Rattle.std.specs.List.{AllByRecursion, sum_by}
use Rattle.hu_kind.specs.Record.{absolute_of, IsRecord}
use Rattle.hu_proof.specs.Check.{first_fault, from_minimum}
use Rattle.hu_proof.specs.Text.{pieces}
use Rattle.hu_certify.specs.Text.{certificate_text}

-- records of a run and a minimum
pub record IsCertifiable (records : List (List (ℕ × ℤ))) (least : ℤ) : Type 0 where
  pub lawful : AllByRecursion IsRecord records
  pub sum_fits : sum_by absolute_of records < 2 ^ 127
  pub positive : pos 1 ≤ℤ least
  pub fits : unsigned_abs least < 2 ^ 127

-- none of the faults that are told by what a text says holds of their certificate, however long it is
abbrev pub CertificateIsFaultless : Type 0
CertificateIsFaultless = (records : List (List (ℕ × ℤ))) (least : ℤ) → IsCertifiable records least →
    from_minimum records least (pieces (certificate_text records least)) ≡ None

-- and it is accepted where it isn't too long
abbrev pub CertificateIsAccepted : Type 0
CertificateIsAccepted = (records : List (List (ℕ × ℤ))) (least : ℤ) → IsCertifiable records least →
    length (certificate_text records least) ≤ 268435456 →
    first_fault records least (certificate_text records least) ≡ None
