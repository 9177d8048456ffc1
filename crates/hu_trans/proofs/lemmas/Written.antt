-- The canonical line of a record: what it says, and of which form it is.
use Rattle.std.proofs.Common.{◌≡◌, ℕ, ℤ, Ok, List}
use Rattle.hu_kind.specs.Record.{IsRecord}
use Rattle.hu_trans.specs.Canonical.{canonical_line, IsPlainLine}
use Rattle.hu_trans.specs.Reading.{reading}
use Rattle.hu_trans.proofs.CanonicalLemmas.{reading-canonical}
use Rattle.hu_trans.proofs.WrittenLemmas.{IsPlainLine-canonical}

-- it says the record
pub canonical-read : (cells : List (ℕ × ℤ)) → IsRecord cells → reading (canonical_line cells) ≡ Ok cells
canonical-read = reading-canonical

-- it is short, has no line feed, and begins with a digit
pub canonical-plain : (cells : List (ℕ × ℤ)) → IsRecord cells → IsPlainLine (canonical_line cells)
canonical-plain = IsPlainLine-canonical
