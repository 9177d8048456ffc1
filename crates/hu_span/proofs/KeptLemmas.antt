-- The items that are kept, and what they leave of records: patterns of kept items earn the same.
use Rattle.std.proofs.Common.{◌≡◌, ℕ, zero, suc, ◌<◌, ◌≤◌, Bool, true, false, eqb, ◌||◌, List, [], ◌∷◌, length, get_or, refl, sym, ap, ◌∙◌, arith}
use Rattle.std.proofs.Common.{inl, inr, Contains, IsPermutation}
use Rattle.std.specs.List.{list_any}
use Rattle.std.specs.List.Sorted.{IsNonDecreasingBy, IsPartitionPoint}
use Rattle.std.proofs.lemmas.Bool.{eq-eqb, eqb-true, ne_eqb, cases_order}
use Rattle.std.proofs.lemmas.List.Sorted.{Contains-permutation, IsPermutation-sym}
use Rattle.hu_kind.specs.declared.item.Item.{Item}
use Rattle.hu_kind.proofs.lemmas.Members.{Member, Contains-from_member, Member-from_contains}

-- ---- an item among some

abbrev pub any_is : ℕ → List Item → Bool
any_is item items = list_any (λ one. eqb item one.0) items

pub among-at : (item : ℕ) (items : List Item) (k : ℕ) (d : Item) → k < length items → (get_or items k d).0 ≡ item → any_is item items ≡ true
among-at item [] k d within here = absurd (omega arith)
among-at item (one ∷ items) zero d within here = let yes : eqb item one.0 ≡ true = eq-eqb item one.0 (sym here) in ap (λ b. b || any_is item items) yes
among-at item (one ∷ items) (suc k) d within here = by (eqb item one.0) (among-at item items k d (omega arith) here)
  where
    by : (b : Bool) → any_is item items ≡ true → (b || any_is item items) ≡ true
    by true rest = refl
    by false rest = rest

among-none : (item : ℕ) (items : List Item) → ((k : ℕ) (d : Item) → k < length items → (get_or items k d).0 ≡ item → ⊥) → any_is item items ≡ false
among-none item [] absent = refl
among-none item (one ∷ items) absent =
    let no : eqb item one.0 ≡ false = ne_eqb item one.0 (λ e. absent 0 one (omega arith) (sym e)) in
    ap (λ b. b || any_is item items) no ∙ among-none item items (λ k d within e. absent (suc k) d (omega arith) e)

pub among-past : (item : ℕ) (items : List Item) (place : ℕ) → IsNonDecreasingBy (λ one. one.0) items
    → IsPartitionPoint (λ one. one.0 < item) (λ one. item ≤ one.0) items place
    → ((d : Item) → place < length items → (get_or items place d).0 ≡ item → ⊥) → any_is item items ≡ false
among-past item items place up split other = among-none item items absent
  where
    absent : (k : ℕ) (d : Item) → k < length items → (get_or items k d).0 ≡ item → ⊥
    absent k d within e = elim (cases_order k place) [
      | inl here ↦ other d (omega arith) (ap (λ i. (get_or items i d).0) (sym here) ∙ e)
      | inr (inl before) ↦ let low = split.0 k d (omega arith) before in omega arith
      | inr (inr after) ↦
          let low = split.1 place d (omega arith) (omega arith) in
          let rise = up place k d (omega arith) within in
          other d (omega arith) (omega arith)
    ]

pub any-member : (item : ℕ) (items : List Item) → any_is item items ≡ true → (one : Item) × Member one items × (one.0 ≡ item)
any-member item [] h = cc
any-member item (one ∷ items) h = by (eqb item one.0) refl (any-member item items) h
  where
    by : (b : Bool) → eqb item one.0 ≡ b → (any_is item items ≡ true → (x : Item) × Member x items × (x.0 ≡ item))
        → (b || any_is item items) ≡ true → (x : Item) × Member x (one ∷ items) × (x.0 ≡ item)
    by true e ih h = (one, inl refl, sym (eqb-true item one.0 e))
    by false e ih h = let rest = ih h in (rest.0, inr rest.1, rest.2)

pub member-any : (items : List Item) (one : Item) → Member one items → any_is one.0 items ≡ true
member-any [] one m = absurd m
member-any (x ∷ items) one (inl e) = let yes : eqb one.0 x.0 ≡ true = eq-eqb one.0 x.0 (sym (ap (λ (i : Item). i.0) e)) in ap
    (λ b. b || any_is one.0 items) yes
member-any (x ∷ items) one (inr m) = by (eqb one.0 x.0) (member-any items one m)
  where
    by : (b : Bool) → any_is one.0 items ≡ true → (b || any_is one.0 items) ≡ true
    by true rest = refl
    by false rest = rest

pub of-known : (old new : List Item) (item : ℕ) → IsPermutation old new → any_is item new ≡ true → (one : Item) × Contains old one × (one.0 ≡ item)
of-known old new item same h =
    let found = any-member item new h in
    (found.0, Contains-permutation new old found.0 (IsPermutation-sym old new same) (Contains-from_member found.0 new found.1), found.2)

pub of-all : (old new : List Item) (one : Item) → IsPermutation old new → Contains old one → any_is one.0 new ≡ true
of-all old new one same c = member-any new one (Member-from_contains one new (Contains-permutation old new one same c))

-- the item at the place at which it is looked for
pub among-found : (item : ℕ) (items : List Item) (place : ℕ) (found : Item) → IsNonDecreasingBy (λ one. one.0) items
    → IsPartitionPoint (λ one. one.0 < item) (λ one. item ≤ one.0) items place → place < length items → ((d : Item) → get_or items place d ≡ found)
    → eqb found.0 item ≡ any_is item items
among-found item items place found up split within at = by (eqb found.0 item) refl
  where
    by : (b : Bool) → eqb found.0 item ≡ b → b ≡ any_is item items
    by true e = sym (among-at item items place found within (ap (λ (i : Item). i.0) (at found) ∙ eqb-true found.0 item e))
    by false e = sym (among-past item items place up split (λ d w same.
        let yes : eqb found.0 item ≡ true = eq-eqb found.0 item (sym (ap (λ (i : Item). i.0) (at d)) ∙ same) in
        let bad : true ≡ false = sym yes ∙ e in
        cc))
