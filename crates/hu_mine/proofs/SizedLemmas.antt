-- What a fresh collector makes of the patterns of some lengths.
use Rattle.std.proofs.Common.{◌≡◌, ℕ, ℤ, Option, List, ap}
use Rattle.std.specs.Prelude.{int_le}
use Rattle.hu_kind.specs.declared.entry.Entry.{Entry}
use Rattle.hu_kind.specs.Answer.{found}
use Rattle.hu_kind.specs.Order.{entry_cmp, ranking, cut}
use Rattle.hu_collect.specs.State.{fresh, offered}
use Rattle.hu_lengths.specs.Lengths.{has_length, of_lengths}
use Rattle.hu_lengths.proofs.lemmas.SizedLemmas.{filter-swap}

-- what a fresh collector makes of the patterns of some lengths is the answer under these lengths
pub fresh-sized : (least : ℤ) (top : Option ℕ) (short long : ℕ) (ps : List Entry)
    → (offered (fresh least top) (of_lengths short long ps)).content ≡ cut top (ranking entry_cmp (of_lengths short long (found least ps)))
fresh-sized least top short long ps =
    ap (λ es. cut top (ranking entry_cmp es)) (filter-swap (λ e. int_le least e.utility) (λ e. has_length short long e.key) ps)
