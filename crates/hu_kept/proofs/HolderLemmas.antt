-- Places by items, as places are added.
use Rattle.std.proofs.Common.{◌≡◌, ◌∙◌, ◌⊎◌, ℕ, ◌+◌, ◌<◌, ◌≤◌, ℤ, pos, Bool, true, false, cond, ◌||◌, eqb}
use Rattle.std.proofs.Common.{List, [], ◌∷◌, ◌++◌, length, get_or, take, refl, sym, ap, subst, inl, inr, arith, Contains}
use Rattle.std.specs.List.{dedup}
use Rattle.std.specs.List.Sorted.{IsPermutation}
use Rattle.std.specs.Ordering.{int_eq}
use Rattle.std.proofs.lemmas.Bool.{cases_order, eqb-true}
use Rattle.std.proofs.lemmas.Bool.Decides.{Decides-int_eq}
use Rattle.std.proofs.lemmas.List.{get_or-take, get_or_past, length-take-le}
use Rattle.std.proofs.lemmas.List.Folds.{list_any-append}
use Rattle.std.proofs.lemmas.List.Kept.{Contains-dedup_nat}
use Rattle.std.proofs.lemmas.List.Sorted.{Contains-permutation}
use Rattle.hu_kind.specs.Record.{has}
use Rattle.hu_kind.proofs.lemmas.Members.{Contains-from_member, Member-append_left, Member-append_right, Member-from_contains}
use Rattle.hu_kind.proofs.lemmas.Each.{get_or-within}
use Rattle.hu_closed.specs.Places.{places_at, with_place}
use Rattle.hu_closed.proofs.lemmas.PlaceLists.{places_at-with_place}
use Rattle.hu_kept.specs.Holders.{IsListed, ListsAll}

-- ---- places one after another

module _ (old new more : List ℕ) (is : new ≡ old ++ more) (x : ℕ) where
  pub more-kept : Contains old x → Contains new x
  more-kept h = subst (λ xs. Contains xs x) (sym is) (Contains-from_member x (old ++ more) (Member-append_left x old more (Member-from_contains x old h)))

  pub more-own : Contains more x → Contains new x
  more-own h = subst (λ xs. Contains xs x) (sym is) (Contains-from_member x (old ++ more) (Member-append_right x old more (Member-from_contains x more h)))

pub range-next : (old new : List ℕ) (i from x : ℕ) → new ≡ old ++ i ∷ [] → (from ≤ x → x < i → Contains old x) → from ≤ x → x < i + 1 → Contains new x
range-next old new i from x is before low high = elim (cases_order x i) [
  | inl here ↦ more-own old new (i ∷ []) is x (Contains-from_member x (i ∷ []) (inl (sym here)))
  | inr (inl less) ↦ more-kept old new (i ∷ []) is x (before low less)
  | inr (inr above) ↦ absurd (omega arith)
]

-- sorted, each once
pub ordered-kept : (places sorted last : List ℕ) (x : ℕ) → IsPermutation places sorted → last ≡ dedup eqb sorted → Contains places x → Contains last x
ordered-kept places sorted last x p is h =
    subst (λ xs. Contains xs x) (sym is) (Contains-dedup_nat sorted x (Contains-permutation places sorted x p h))

-- ---- a place more for an item

grown-kept : (b : Bool) (places : List ℕ) (place at : ℕ) → Contains places at → Contains (cond b (places ++ place ∷ []) places) at
grown-kept true places place at h = more-kept places (places ++ place ∷ []) (place ∷ []) refl at h
grown-kept false places place at h = h

grown-own : (b : Bool) (places : List ℕ) (place : ℕ) → b ≡ true → Contains (cond b (places ++ place ∷ []) places) place
grown-own true places place e =
    more-own places (places ++ place ∷ []) (place ∷ []) refl place (Contains-from_member place (place ∷ []) (inl refl))
grown-own false places place e = cc

or_false : (b : Bool) → (b || false) ≡ true → b ≡ true
or_false true h = h
or_false false h = h

pub IsListed-added : (old new : List (ℤ × List ℕ)) (cell : ℕ × ℤ) (place : ℕ) → new ≡ with_place old (pos cell.0) place → IsListed old (cell ∷ []) place new
IsListed-added old new cell place is = record {
  kept = λ number at h.
      subst (λ places. Contains places at) (sym (ap (λ lists. places_at lists number) is ∙ places_at-with_place old (pos cell.0) place number))
      (grown-kept (int_eq number (pos cell.0)) (places_at old number) place at h);
  own = λ item h.
      let same : pos item ≡ pos cell.0 = ap pos (eqb-true item cell.0 (or_false (eqb item cell.0) h)) in
      subst (λ places. Contains places place) (sym (ap (λ lists. places_at lists (pos item)) is ∙ places_at-with_place old (pos cell.0) place (pos item)))
      (grown-own (int_eq (pos item) (pos cell.0)) (places_at old (pos item)) place ((Decides-int_eq (pos item) (pos cell.0)).1 same));
}

-- ---- one record after another

pub listed-then : (first mid last : List (ℤ × List ℕ)) (cells more : List (ℕ × ℤ)) (place : ℕ) → IsListed first cells place mid → IsListed mid more place last
    → IsListed first (cells ++ more) place last
listed-then first mid last cells more place a b = record {
  kept = λ number at c. b.kept number at (a.kept number at c);
  own = λ item h. by item (has item cells) refl (sym (list_any-append (λ cell. eqb item cell.0) cells more) ∙ h);
}
  where
    by : (item : ℕ) (found : Bool) → has item cells ≡ found → (has item cells || has item more) ≡ true → Contains (places_at last (pos item)) place
    by item true e h = b.kept (pos item) place (a.own item e)
    by item false e h = b.own item (rw e at h)

pub lists-next : (records : List (List (ℕ × ℤ))) (i : ℕ) (cells : List (ℕ × ℤ)) (old new : List (ℤ × List ℕ))
    → i < length records → cells ≡ get_or records i cells → ListsAll (take i records) old → IsListed old cells i new → ListsAll (take (i + 1) records) new
lists-next records i cells old new within is all l place item h = by (cases_order place i) h
  where
    by : (place ≡ i) ⊎ ((place < i) ⊎ (i < place)) → has item (get_or (take (i + 1) records) place []) ≡ true → Contains (places_at new (pos item)) place
    by (inr (inl lower)) k =
        let same' : get_or (take (i + 1) records) place [] ≡ get_or (take i records) place [] =
        get_or-take (i + 1) records place [] (omega arith) ∙ sym (get_or-take i records place [] lower) in
        l.kept (pos item) place (all place item (ap (has item) (sym same') ∙ k))
    by (inl here) k =
        let same' : get_or (take (i + 1) records) place [] ≡ cells =
        get_or-take (i + 1) records place [] (omega arith) ∙ ap (λ n. get_or records n []) here
        ∙ get_or-within records i [] cells within ∙ sym is in
        subst (Contains (places_at new (pos item))) (sym here) (l.own item (ap (has item) (sym same') ∙ k))
    by (inr (inr upper)) k =
        let none : get_or (take (i + 1) records) place [] ≡ [] =
        get_or_past (take (i + 1) records) place [] (omega (arith, length-take-le (i + 1) records (omega arith))) in
        let no : false ≡ true = ap (has item) (sym none) ∙ k in
        cc
