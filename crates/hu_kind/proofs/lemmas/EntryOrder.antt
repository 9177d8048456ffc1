-- The one order of entries is exact.
use Rattle.std.proofs.Common.{◌≡◌, ℕ, ℤ, List, [], ◌∷◌, refl, sym}
use Rattle.std.specs.declared.cmp.Ordering.{Ordering}
use Rattle.std.specs.declared.cmp.Ordering.TheVariants.{Less, Equal, Greater}
use Rattle.std.specs.Ordering.{int_cmp, ordering_then}
use Rattle.std.specs.Cmp.Lexicographic.{slice_cmp}
use Rattle.std.proofs.lemmas.Map.Lookups.{CmpEqualImpliesEq, exact_unsigned, exact_signed}
use Rattle.hu_kind.specs.declared.entry.Entry.{Entry}
use Rattle.hu_kind.specs.Order.{entry_cmp, entry_cmp_total}
use Rattle.hu_kind.proofs.lemmas.RankingLemmas.{IsExactOrder}

-- both of two comparisons in turn answer `Equal` where they do together
pub then_equal : (a b : Ordering) → ordering_then a b ≡ Equal → (a ≡ Equal) × (b ≡ Equal)
then_equal Less b h = cc
then_equal Equal b h = (refl, h)
then_equal Greater b h = cc

pub exact_key : CmpEqualImpliesEq (slice_cmp int_cmp)
exact_key [] [] h = refl
exact_key [] (y ∷ ys) h = cc
exact_key (x ∷ xs) [] h = cc
exact_key (x ∷ xs) (y ∷ ys) h =
    let both = then_equal (int_cmp x y) (slice_cmp int_cmp xs ys) h in
    let head = exact_signed x y both.0 in
    let tail = exact_key xs ys both.1 in
    cc

-- the entry of these fields
abbrev entry_with : List ℤ → ℤ → ℕ → Entry
entry_with key utility support = record { key = key; utility = utility; support = support }

-- entries with the same fields are the same
pub entry-same : (a b : Entry) → a.key ≡ b.key → a.utility ≡ b.utility → a.support ≡ b.support → a ≡ b
entry-same a b key utility support = let same : entry_with a.key a.utility a.support ≡ entry_with b.key b.utility b.support = cc in same

pub entry_exact : (a b : Entry) → entry_cmp a b ≡ Equal → a ≡ b
unfolding entry_cmp
entry_exact a b h =
    let first = then_equal _ _ h in
    let second = then_equal _ _ first.1 in
    entry-same a b (exact_key a.key b.key second.0) (sym (exact_signed b.utility a.utility first.0)) (exact_unsigned a.support b.support second.1)

-- in the one order equal entries are the same
pub entry_order : IsExactOrder entry_cmp
entry_order = record { total = entry_cmp_total; exact = entry_exact }
