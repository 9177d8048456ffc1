-- The one order of entries: greater utility first, then the smaller key, then the smaller support.
-- Keys are compared place by place, a proper prefix first.
use Rattle.std.specs.Prelude.{◌≡◌, ℕ, ◌<◌, ℤ, ◌≤ℤ◌, Option, None, Some, List, [], ◌∷◌, take, ⊤}
use Rattle.std.specs.List.{AllByRecursion}
use Rattle.std.specs.declared.cmp.Ordering.{Ordering}
use Rattle.std.specs.declared.cmp.Ordering.TheVariants.{Less}
use Rattle.std.specs.Ordering.{nat_cmp, int_cmp, on, then_cmp, flip_args}
use Rattle.std.specs.Cmp.{IsTotalOrder}
use Rattle.std.specs.Cmp.Lexicographic.{slice_cmp}
use Rattle.std.specs.BTreeSet.{insert_key}
use Rattle.std.proofs.lemmas.Cmp.{then_total, back_total, on_total, lists_total, int_cmp_total, nat_cmp_total}
use Rattle.hu_kind.specs.declared.entry.Entry.{Entry}

-- the one order
unfoldable pub entry_cmp : Entry → Entry → Ordering
entry_cmp =
    then_cmp (flip_args (on (λ e. e.utility) int_cmp))
    (then_cmp (on (λ e. e.key) (slice_cmp int_cmp)) (on (λ e. e.support) nat_cmp))

-- the one order is total
pub entry_cmp_total : IsTotalOrder entry_cmp
unfolding entry_cmp
entry_cmp_total =
    then_total (back_total (on_total (λ e. e.utility) int_cmp_total))
    (then_total (on_total (λ e. e.key) (lists_total int_cmp_total))
    (on_total (λ e. e.support) nat_cmp_total))

-- an entry comes before another
abbrev pub Before : Entry → Entry → Type 0
Before a b = entry_cmp a b ≡ Less

-- a list in order: each element is put in by the order, and an equal one is left out
abbrev pub ranking : {A : Type 0} → (A → A → Ordering) → List A → List A
ranking cmp [] = []
ranking cmp (x ∷ xs) = insert_key cmp (ranking cmp xs) x

-- the first k of a list, or all of it
abbrev pub cut : {A : Type 0} → Option ℕ → List A → List A
cut None xs = xs
cut (Some k) xs = take k xs

-- a number of each element falls: a later one is no greater
abbrev pub FallBy : {A : Type 0} → (A → ℤ) → List A → Type 0
FallBy value [] = ⊤
FallBy value (x ∷ xs) = AllByRecursion (λ later. value later ≤ℤ value x) xs × FallBy value xs

-- numbers ascend strictly
abbrev pub Ascend : List ℕ → Type 0
Ascend [] = ⊤
Ascend (x ∷ xs) = AllByRecursion (λ y. x < y) xs × Ascend xs
