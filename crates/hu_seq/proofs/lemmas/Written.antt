-- The canonical line of a sequence: what it says, and of which form it is.
use Rattle.std.proofs.Common.{◌≡◌, ℕ, ℤ, Ok, List, arith, refl}
use Rattle.hu_kind.specs.Sequence.{IsSequence}
use Rattle.hu_seq.specs.Canonical.{canonical_line, IsPlainLine}
use Rattle.hu_seq.specs.Reading.{reading}
use Rattle.hu_seq.proofs.CanonicalLemmas.{reading-canonical}
use Rattle.hu_seq.proofs.PlainLemmas.{IsPlainLine-canonical, canonical-lacks}
use Rattle.hu_kind.proofs.lemmas.Written.{Lacks}

-- it says the sequence
pub canonical-read : (elements : List (List (ℕ × ℤ))) → IsSequence elements → reading (canonical_line elements) ≡ Ok elements
canonical-read = reading-canonical

-- it is short, and begins with a digit
pub canonical-plain : (elements : List (List (ℕ × ℤ))) → IsSequence elements → IsPlainLine (canonical_line elements)
canonical-plain = IsPlainLine-canonical

-- it has no line feed and no carriage return
pub canonical-no_feed : (elements : List (List (ℕ × ℤ))) → IsSequence elements → Lacks 10 (canonical_line elements)
canonical-no_feed elements rules = canonical-lacks 10 elements (omega arith) refl rules

pub canonical-no_return : (elements : List (List (ℕ × ℤ))) → IsSequence elements → Lacks 13 (canonical_line elements)
canonical-no_return elements rules = canonical-lacks 13 elements (omega arith) refl rules
