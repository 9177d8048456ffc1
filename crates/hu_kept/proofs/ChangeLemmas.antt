-- What differs between answers, read off the entries of maps.
use Rattle.std.proofs.Common.{◌≡◌, ◌∙◌, ◌+◌, ℤ, Bool, true, false, not, cond, Some, List, [], ◌∷◌, refl, sym, ap, is_some}
use Rattle.std.specs.List.{count_by}
use Rattle.std.specs.Map.{lookup}
use Rattle.std.specs.Ordering.{int_eq}
use lib.Pointwise.{pointwise}
use Rattle.std.proofs.lemmas.List.Sums.{sum_by-cons}
use Rattle.hu_kind.specs.declared.entry.Entry.{Entry}
use Rattle.hu_kept.specs.declared.held.Held.{Held}
use Rattle.hu_kept.specs.Changes.{changes, entry_at, more_keys, other_values, tells_other}
use Rattle.hu_kept.specs.Entries.{differs, entries_from, entry_from, more_in, others_in}

module _ (key : List ℤ) where
  has-entry : (other : List (List ℤ × Held)) → is_some (entry_at key (entries_from other)) ≡ is_some (lookup (pointwise int_eq key) other)
  has-entry [] = refl
  has-entry (one ∷ other) = by (pointwise int_eq key one.0) (has-entry other)
    where
      by : (b : Bool) → is_some (entry_at key (entries_from other)) ≡ is_some (lookup (pointwise int_eq key) other)
          → is_some (cond b (Some (entry_from one)) (entry_at key (entries_from other))) ≡ is_some (cond b (Some one.1) (lookup (pointwise int_eq key) other))
      by true ih = refl
      by false ih = ih

  other-entry : (held : Held) (other : List (List ℤ × Held))
      → tells_other (entry_at key (entries_from other)) (entry_from (key, held))
      ≡ differs (lookup (pointwise int_eq key) other) held
  other-entry held [] = refl
  other-entry held (one ∷ other) = by (pointwise int_eq key one.0) (other-entry held other)
    where
      by : (b : Bool) → tells_other (entry_at key (entries_from other)) (entry_from (key, held)) ≡ differs (lookup (pointwise int_eq key) other) held
          → tells_other (cond b (Some (entry_from one)) (entry_at key (entries_from other))) (entry_from (key, held))
          ≡ differs (cond b (Some one.1) (lookup (pointwise int_eq key) other)) held
      by true ih = refl
      by false ih = ih

count-entries : (p : Entry → Bool) (q : List ℤ × Held → Bool) → ((e : List ℤ × Held) → p (entry_from e) ≡ q e)
    → (entries : List (List ℤ × Held)) → count_by p (entries_from entries) ≡ count_by q entries
count-entries p q f [] = refl
count-entries p q f (e ∷ es) =
    sum_by-cons (λ x. cond (p x) 1 0) (entry_from e) (entries_from es)
    ∙ (λ j. cond (f e j) 1 0 + count-entries p q f es j)
    ∙ sym (sum_by-cons (λ x. cond (q x) 1 0) e es)

pub changes-entries : (old new : List (List ℤ × Held)) → changes (entries_from old) (entries_from new)
    ≡ record { added = more_in old new; changed = others_in old new; dropped = more_in new old }
changes-entries old new = (λ j. record { added = more old new j; changed = others j; dropped = more new old j })
  where
    more : (a b : List (List ℤ × Held)) → more_keys (entries_from a) (entries_from b) ≡ more_in a b
    more a b =
        count-entries (λ e. not (is_some (entry_at e.key (entries_from a))))
        (λ e. not (is_some (lookup (pointwise int_eq e.0) a))) (λ e. ap not (has-entry e.0 a)) b

    others : other_values (entries_from old) (entries_from new) ≡ others_in old new
    others =
        count-entries (λ e. tells_other (entry_at e.key (entries_from old)) e)
        (λ e. differs (lookup (pointwise int_eq e.0) old) e.1) (λ e. other-entry e.0 e.1 old) new
