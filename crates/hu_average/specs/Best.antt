-- What a collector by average holds, and what offers make of it.
use Rattle.std.specs.Prelude.{
  ◌≡◌,
  ℕ,
  ◌<◌,
  ℤ,
  pos,
  ◌*ℤ◌,
  ◌≤ℤ◌,
  ◌≤◌,
  ◌⊎◌,
  false,
  Option,
  None,
  Some,
  List,
  [],
  ◌++◌,
  length,
  ◌-◌,
  slice_get,
}
use Rattle.std.specs.declared.cmp.Ordering.TheVariants.{Less}
use Rattle.std.specs.List.{AllByRecursion}
use Rattle.hu_kind.specs.declared.entry.Entry.{Entry}
use Rattle.hu_kind.specs.Order.{ranking, cut}
use Rattle.hu_kind.proofs.lemmas.Members.{Member}
use Rattle.hu_average.specs.Order.{Average, average_of, fraction_cmp, average_cmp}
use Rattle.hu_average.specs.Answer.{reaches, reaching}

-- an entry has a key
abbrev pub HasKey : Entry → Type 0
HasKey e = 0 < length e.key

-- and earns something
pub record Earns (e : Entry) : Type 0 where
  pub some : 0 < length e.key
  pub earns : pos 1 ≤ℤ e.utility

-- the least average, how many entries are kept, if not all, and the entries
pub record BestOf : Type 0 where
  pub least : ℤ
  pub top : Option ℕ
  pub content : List Entry

-- with these entries more: those that reach the least average are put in by average, each once, and the first of all stay
abbrev pub offered : BestOf → List Entry → BestOf
offered best entries = record {
  least = best.least;
  top = best.top;
  content = cut best.top (ranking average_cmp (best.content ++ reaching best.least entries));
}

-- what is held is in the order by average, each entry once, and no longer than the limit
abbrev pub IsKept : BestOf → Type 0
IsKept best = offered best [] ≡ best

-- there are as many entries as are kept, and all come before an entry
abbrev pub IsPast : Option ℕ → List Entry → Entry → Type 0
IsPast None content e = ⊥
IsPast (Some k) content e =
    (length content ≡ k) × AllByRecursion (λ other. average_cmp other e ≡ Less) content

-- an entry doesn't reach the least average, or comes after all where no more are kept
abbrev pub IsLeftOut : BestOf → Entry → Type 0
IsLeftOut best e = (reaches best.least e ≡ false) ⊎ IsPast best.top best.content e

-- an entry has at most an average
abbrev pub IsAtMost : Average → Entry → Type 0
IsAtMost average e = (0 < length e.key) × ((e.utility *ℤ pos average.1) ≤ℤ (average.0 *ℤ pos (length e.key)))

-- there are as many entries as are kept, or more, and the last one's average is greater than another
abbrev pub IsPastLast : Option ℕ → List Entry → Average → Type 0
IsPastLast None content average = ⊥
IsPastLast (Some k) content average = (last : Entry) × (slice_get content (length content - 1) ≡ Some last)
    × (k ≤ length content)
    × (0 < length last.key) × (fraction_cmp average (average_of last) ≡ Less)

-- of all entries that have a property some were offered, and each other one is left out
pub record Covers (old : BestOf) (P : Entry → Type 0) (new : BestOf) : Type 0 where
  pub entries : List Entry
  pub each : (e : Entry) → Member e entries → P e
  pub rest : (e : Entry) → P e → Member e entries ⊎ IsLeftOut new e
  pub is : new ≡ offered old entries

-- entries that have a property were offered
pub record Offers (old : BestOf) (P : Entry → Type 0) (new : BestOf) : Type 0 where
  pub entries : List Entry
  pub each : (e : Entry) → Member e entries → P e
  pub is : new ≡ offered old entries

-- what is true of a collector by average: its least average is at least 1, and what it holds is kept
pub record IsRight (best : BestOf) : Type 0 where
  pub least : pos 1 ≤ℤ best.least
  pub kept : IsKept best
