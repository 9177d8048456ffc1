-- The order by average is exact, and rankings by an exact order.
use Rattle.std.proofs.Common.{◌≡◌, pos, max, ◌*ℤ◌, List, [], ◌∷◌, ◌++◌, sym, ap, ◌∙◌, length, arith}
use Rattle.std.specs.declared.cmp.Ordering.{Ordering}
use Rattle.std.specs.declared.cmp.Ordering.TheVariants.{Equal}
use Rattle.std.specs.BTreeSet.{insert_key}
use Rattle.std.proofs.lemmas.Map.Lookups.{exact_unsigned, exact_signed}
use Rattle.hu_kind.specs.declared.entry.Entry.{Entry}
use Rattle.hu_kind.specs.Order.{ranking}
use Rattle.hu_kind.proofs.lemmas.Members.{Member}
use Rattle.hu_kind.proofs.lemmas.RankingLemmas.{IsExactOrder, ranking-append_comm}
use Rattle.hu_kind.proofs.lemmas.EntryOrder.{then_equal, exact_key, entry-same}
use Rattle.hu_answer.proofs.lemmas.Ranked.{Member-ranked, Member-from_ranked, sorted-ranked, sorted-same}
use Rattle.hu_average.specs.Order.{average_cmp, average_cmp_total, times-eq_cancel}

average_exact : (a b : Entry) → average_cmp a b ≡ Equal → a ≡ b
unfolding average_cmp
average_exact a b h =
    let first = then_equal _ _ h in
    let second = then_equal _ _ first.1 in
    let key = exact_key a.key b.key second.0 in
    let fraction = exact_signed (b.utility *ℤ pos (max (length a.key) 1)) (a.utility *ℤ pos (max (length b.key) 1)) first.0 in
    let same : (b.utility *ℤ pos (max (length a.key) 1)) ≡ (a.utility *ℤ pos (max (length a.key) 1)) =
    fraction ∙ ap (λ key. a.utility *ℤ pos (max (length key) 1)) (sym key) in
    let utility = times-eq_cancel b.utility a.utility (max (length a.key) 1) (omega arith) same in
    entry-same a b key (sym utility) (exact_unsigned a.support b.support second.1)

-- entries that are equal by average are the same
pub average_order : IsExactOrder average_cmp
average_order = record { total = average_cmp_total; exact = average_exact }

-- lists with the same members have the same ranking
pub ranking-same : {A : Type 0} (cmp : A → A → Ordering) → IsExactOrder cmp → (xs ys : List A) → ((z : A) → Member z xs → Member z ys)
    → ((z : A) → Member z ys → Member z xs) → ranking cmp xs ≡ ranking cmp ys
ranking-same cmp e xs ys there back = sorted-same cmp e (ranking cmp xs) (ranking cmp ys) (sorted-ranked cmp e xs) (sorted-ranked cmp e ys)
    (λ z m. Member-ranked cmp e z ys (there z (Member-from_ranked cmp z xs m)))
    (λ z m. Member-ranked cmp e z xs (back z (Member-from_ranked cmp z ys m)))

-- one more element is put in, wherever it stands
pub ranking-push : {A : Type 0} (cmp : A → A → Ordering) → IsExactOrder cmp → (xs : List A) (x : A)
    → ranking cmp (xs ++ x ∷ []) ≡ insert_key cmp (ranking cmp xs) x
ranking-push cmp e xs x = ranking-append_comm cmp e xs (x ∷ [])
