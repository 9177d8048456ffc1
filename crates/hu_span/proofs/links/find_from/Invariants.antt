use Rattle.hu_span.proofs.LinkLemmas.{IsSought}
use Rattle.hu_span.specs.Links.{buckets, AreLinked}
use Rattle.std.proofs.Common.{ℕ}
use Rattle.hu_span.specs.Links.{IsBack}
use Rattle.std.proofs.Common.{length, ◌%◌}
use Rattle.hu_span.proofs.links.find_from.Given as goal

abbrev pub invariant-older : goal.invariant-older
invariant-older l = (room : ℕ) → IsBack (buckets room l.items) (l.item % room) l.last (length l.items)
    → AreLinked (buckets room l.items) l.olders → IsSought l.items room l.item l.upto

abbrev pub decreases-older : goal.decreases-older
decreases-older l = l.upto
