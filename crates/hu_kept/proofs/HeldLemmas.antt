-- Entries that are put into a map one after another, each key once, stand there in their order.
use Rattle.std.proofs.Common.{◌≡◌, ◌∙◌, ℕ, ℤ, false, List, [], ◌∷◌, ◌++◌, length, map, take, refl, sym, ap, subst, append_assoc, arith}
use Rattle.std.specs.List.{AllByRecursion, IsDistinct}
use Rattle.std.specs.Ordering.{int_eq}
use lib.Pointwise.{pointwise}
use Rattle.std.proofs.lemmas.List.{take-append-le, take_all}
use Rattle.std.proofs.lemmas.Cmp.{int_eq_equiv, lists_equiv}
use Rattle.indexmap.specs.IndexMap.{insert_entry}
use Rattle.hu_kind.specs.declared.entry.Entry.{Entry}
use Rattle.hu_base.specs.Base.{carried_of, records_of}
use Rattle.hu_kept.specs.declared.held.Held.{Held}
use Rattle.hu_kept.specs.Entries.{entries_from, entry_from, held_of}

abbrev keys : List Entry → List (List ℤ)
keys entries = map (λ e. e.key) entries

later : (key : List ℤ) (front : List Entry) (entry : Entry) (rest : List Entry)
    → AllByRecursion (λ k. pointwise int_eq key k ≡ false) (keys (front ++ entry ∷ rest))
    → pointwise int_eq key entry.key ≡ false
later key [] entry rest all = all.0
later key (e ∷ es) entry rest all = later key es entry rest all.1

insert-new : (held : List (List ℤ × Held)) (entry : Entry) (rest : List Entry) → IsDistinct (pointwise int_eq) (keys (entries_from held ++ entry ∷ rest))
    → entries_from (insert_entry (pointwise int_eq) held entry.key (held_of entry)) ≡ entries_from held ++ entry ∷ []
unfolding IsDistinct
insert-new [] entry rest apart = refl
insert-new (h ∷ hs) entry rest apart =
    let other : pointwise int_eq entry.key h.0 ≡ false = (lists_equiv int_eq_equiv).symm entry.key h.0 ∙ later h.0 (entries_from hs) entry rest apart.0 in
    rw other (ap (λ es. entry_from h ∷ es) (insert-new hs entry rest apart.1))

pub put-new : (held new : List (List ℤ × Held)) (entry : Entry) (rest all : List Entry)
    → IsDistinct (pointwise int_eq) (keys all) → entries_from held ++ entry ∷ rest ≡ all
    → (one : Held) → one ≡ held_of entry → new ≡ insert_entry (pointwise int_eq) held entry.key one → entries_from new ++ rest ≡ all
put-new held new entry rest all apart whole one same is =
    let distinct = subst (λ es. IsDistinct (pointwise int_eq) (keys es)) (sym whole) apart in
    ap (λ es. entries_from es ++ rest) (is ∙ ap (insert_entry (pointwise int_eq) held entry.key) same)
    ∙ ap (λ es. es ++ rest) (insert-new held entry rest distinct)
    ∙ append_assoc (entries_from held) (entry ∷ []) rest
    ∙ whole

-- a base that was joined with another and cut to its length is as before
pub shortened : (old : ℕ × List (List (ℕ × ℤ))) (batch : List (List (ℕ × ℤ))) (n : ℕ) (joined new : ℕ × List (List (ℕ × ℤ)))
    → joined ≡ (carried_of old, records_of old ++ batch) → n ≡ length (records_of old) → new ≡ (carried_of joined, take n (records_of joined)) → new ≡ old
shortened old batch n joined new is long cut =
    cut
    ∙ (λ j. (carried_of (is j), take (long j) (records_of (is j))))
    ∙ ap (λ records. (carried_of old, records)) (take-append-le (length (records_of old)) (records_of old) batch (omega arith)
    ∙ take_all (length (records_of old)) (records_of old) (omega arith))
