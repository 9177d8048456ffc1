-- Itemsets of a least and a greatest length. After FHM+ (Fournier-Viger, Lin, Duong and Dam, 2016).
use Rattle.std.specs.Prelude.{ℕ, nat_le, ℤ, Bool, ◌&&◌, Option, List, length}
use Rattle.std.specs.List.{filter}
use Rattle.hu_kind.specs.declared.entry.Entry.{Entry}
use Rattle.hu_kind.specs.Order.{entry_cmp, ranking, cut}
use Rattle.hu_kind.specs.Itemsets.{item_patterns}
use Rattle.hu_kind.specs.Answer.{found}

-- whether a key has a least length and at most a greatest one
abbrev pub has_length : ℕ → ℕ → List ℤ → Bool
has_length short long key = nat_le short (length key) && nat_le (length key) long

-- the entries whose keys have such lengths
abbrev pub of_lengths : ℕ → ℕ → List Entry → List Entry
of_lengths short long entries = filter (λ e. has_length short long e.key) entries

-- the entries whose keys have at most a greatest length
abbrev pub upto_length : ℕ → List Entry → List Entry
upto_length long entries = filter (λ e. nat_le (length e.key) long) entries

-- the answer among the itemsets of such lengths: those that reach the least utility, each once, in the one order, cut after k
abbrev pub sized_answer : List (List (ℕ × ℤ)) → ℤ → Option ℕ → ℕ → ℕ → List Entry
sized_answer records least top short long =
    cut top (ranking entry_cmp (of_lengths short long (found least (item_patterns records))))
