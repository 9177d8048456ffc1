-- Lists of places, a place at a time.
use Rattle.std.proofs.Common.{◌≡◌, ℕ, ◌+◌, ◌<◌, Bool, true, false, cond, eqb, ℤ, ◌+ℤ◌, int_le, List, []}
use Rattle.std.proofs.Common.{◌∷◌, ◌++◌, map, length, drop, get_or, set, refl, sym, ap, ◌∙◌, subst, inl, inr}
use Rattle.std.proofs.Common.{arith, append-nil}
use Rattle.std.specs.List.{AllByRecursion}
use Rattle.std.specs.declared.vec.Vec.{Vec}
use Rattle.std.specs.declared.alloc.Global.{Global}
use Rattle.std.proofs.lemmas.Bool.{cases_eq, eq-eqb, ne_eqb}
use Rattle.std.proofs.lemmas.List.{drop_more, get_or-map, get_or-set_same, get_or-set_other, length-map, map-set}
use Rattle.hu_kind.specs.Order.{Ascend}
use Rattle.hu_kind.specs.Record.{items_in}
use Rattle.hu_kind.proofs.lemmas.Members.{Member}
use Rattle.hu_totals.specs.declared.ranked.Dense.{Dense}
use Rattle.hu_totals.specs.View.{dense_pair}
use Rattle.hu_totals.proofs.lemmas.RecordCells.{has-below}
use Rattle.hu_certify.specs.declared.place.Place.{Place}
use Rattle.hu_certify.specs.declared.slots.Slot.{Slot}
use Rattle.hu_certify.specs.Slots.{kept, list_at, lists_of, opened, slot_of}
use Rattle.hu_certify.specs.Spots.{SpotOf, grown, most, narrowed, spots_of, standing}
use Rattle.hu_certify.proofs.SlotLemmas.{narrowed-absent, rank-below}

-- the list at a place of many
pub list-here : (lists : List (Vec Place Global)) (rank : ℕ) (d : Vec Place Global) → rank < length lists
    → list_at lists rank ≡ spots_of (get_or lists rank d).items
list-here lists rank d within = get_or-map (λ (list : Vec Place Global). spots_of list.items) lists rank d [] within

pub lists-set : (lists : List (Vec Place Global)) (rank : ℕ) (list : Vec Place Global)
    → lists_of (set lists rank list) ≡ set (lists_of lists) rank (spots_of list.items)
lists-set lists rank list = map-set (λ (list : Vec Place Global). spots_of list.items) lists rank list

pub at-set : (lists : List (List SpotOf)) (rank : ℕ) (spots : List SpotOf) → rank < length lists → (z : ℕ)
    → get_or (set lists rank spots) z [] ≡ cond (eqb z rank) spots (get_or lists z [])
at-set lists rank spots within z = elim (cases_eq z rank) [
  | inl e ↦
      let here : eqb z rank ≡ true = eq-eqb z rank e in
      rw here (ap (λ k. get_or (set lists rank spots) k []) e ∙ get_or-set_same lists rank spots [] within)
  | inr ne ↦ let other : eqb z rank ≡ false = ne_eqb z rank ne in rw other (get_or-set_other lists rank z spots [] ne)
]

-- a list with more places
pub list-pushed : (lists : List (Vec Place Global)) (rank : ℕ) (list : Vec Place Global) (more : ℕ → List SpotOf) → rank < length lists
    → spots_of list.items ≡ list_at lists rank ++ more rank → (z : ℕ)
    → list_at (set lists rank list) z ≡ cond (eqb z rank) (list_at lists z ++ more z) (list_at lists z)
list-pushed lists rank list more within is z =
    let inside : rank < length (lists_of lists) = omega (arith, within, length-map lists (λ (list : Vec Place Global). spots_of list.items)) in
    ap (λ ls. get_or ls z []) (lists-set lists rank list) ∙ at-set (lists_of lists) rank (spots_of list.items) inside z
    ∙ elim (cases_eq z rank) [
      | inl e ↦ ap (λ spots. cond (eqb z rank) spots (list_at lists z)) (is ∙ ap (λ k. list_at lists k ++ more k) (sym e))
      | inr ne ↦ let other : eqb z rank ≡ false = ne_eqb z rank ne in rw other refl
    ]

pub kept-append : (least : ℤ) (slots : List Slot) (z : ℕ) (xs ys : List SpotOf) → kept least slots z (xs ++ ys) ≡ kept least slots z xs ++ kept least slots z ys
kept-append least slots z xs ys = by (int_le least (slot_of slots z).bound)
  where
    by : (b : Bool) → cond b (xs ++ ys) [] ≡ cond b xs [] ++ cond b ys []
    by true = refl
    by false = refl

kept-none : (least : ℤ) (slots : List Slot) (z : ℕ) → kept least slots z [] ≡ []
kept-none least slots z = by (int_le least (slot_of slots z).bound)
  where
    by : (b : Bool) → cond {A = List SpotOf} b [] [] ≡ []
    by true = refl
    by false = refl

-- what a place leaves to a rank, a cell more
grown-first : (z : ℕ) (cell : ℕ × ℤ) (cells : List (ℕ × ℤ)) (own : ℤ) → AllByRecursion (λ y. cell.0 < y) (items_in cells)
    → grown z (cell ∷ cells, own) ≡ cond (eqb z cell.0) ((cells, own +ℤ cell.1) ∷ []) (grown z (cells, own))
grown-first z cell cells own up = elim (cases_eq z cell.0) [
  | inl e ↦ let here : eqb z cell.0 ≡ true = eq-eqb z cell.0 e in rw here refl
  | inr ne ↦ let other : eqb z cell.0 ≡ false = ne_eqb z cell.0 ne in rw other refl
]

grown-below : (z : ℕ) (cells : List (ℕ × ℤ)) (own : ℤ) → AllByRecursion (λ y. z < y) (items_in cells) → grown z (cells, own) ≡ []
grown-below z cells own below = let gone = has-below z cells below in rw gone refl

pub list-next : (least : ℤ) (slots : List Slot) (cells : List Dense) (i : ℕ) (d : Dense) (own : ℤ) → Ascend (items_in (map dense_pair cells))
    → i < length cells → (z : ℕ) (old new : List SpotOf)
    → new ≡ cond (eqb z (get_or cells i d).rank)
    (old ++ kept least slots z ((map dense_pair (drop (i + 1) cells), own +ℤ (get_or cells i d).value) ∷ [])) old
    → new ++ kept least slots z (grown z (map dense_pair (drop (i + 1) cells), own)) ≡ old ++ kept least slots z (grown z (map dense_pair (drop i cells), own))
list-next least slots cells i d own up within z old new is =
    let cell = get_or cells i d in
    let rest = map dense_pair (drop (i + 1) cells) in
    let above = rank-below cells i d up within in
    let whole : grown z (map dense_pair (drop i cells), own) ≡ cond (eqb z cell.rank) ((rest, own +ℤ cell.value) ∷ []) (grown z (rest, own)) =
    ap (λ cs. grown z (map dense_pair cs, own)) (drop_more cells i d within) ∙ grown-first z (dense_pair cell) rest own above in
    ap (λ spots. spots ++ kept least slots z (grown z (rest, own))) is
    ∙ elim (cases_eq z cell.rank) [
      | inl e ↦
          let here : eqb z cell.rank ≡ true = eq-eqb z cell.rank e in
          let gone : grown z (rest, own) ≡ [] = grown-below z rest own (subst (λ y. AllByRecursion (λ other. y < other) (items_in rest)) (sym e) above) in
          let one = kept least slots z ((rest, own +ℤ cell.value) ∷ []) in
          let full : grown z (map dense_pair (drop i cells), own) ≡ (rest, own +ℤ cell.value) ∷ [] =
          whole ∙ ap (λ b. cond b ((rest, own +ℤ cell.value) ∷ []) (grown z (rest, own))) here in
          ap (λ b. cond b (old ++ one) old ++ kept least slots z (grown z (rest, own))) here
          ∙ ap (λ spots. (old ++ one) ++ kept least slots z spots) gone
          ∙ ap (λ spots. (old ++ one) ++ spots) (kept-none least slots z)
          ∙ append-nil (old ++ one)
          ∙ sym (ap (λ spots. old ++ kept least slots z spots) full)
      | inr ne ↦
          let other : eqb z cell.rank ≡ false = ne_eqb z cell.rank ne in
          let one = kept least slots z ((rest, own +ℤ cell.value) ∷ []) in
          let full : grown z (map dense_pair (drop i cells), own) ≡ grown z (rest, own) =
          whole ∙ ap (λ b. cond b ((rest, own +ℤ cell.value) ∷ []) (grown z (rest, own))) other in
          ap (λ b. cond b (old ++ one) old ++ kept least slots z (grown z (rest, own))) other
          ∙ sym (ap (λ spots. old ++ kept least slots z spots) full)
    ]

pub list-last : (least : ℤ) (slots : List Slot) (cells : List Dense) (n : ℕ) (own : ℤ) (z : ℕ) (now : List SpotOf) → drop n cells ≡ []
    → now ++ kept least slots z (grown z (map dense_pair (drop n cells), own)) ≡ now
list-last least slots cells n own z now none =
    ap (λ cs. now ++ kept least slots z (grown z (map dense_pair cs, own))) none
    ∙ ap (λ spots. now ++ spots) (kept-none least slots z) ∙ append-nil now

-- a rank that stands nowhere
pub opened-absent : (least : ℤ) (spots : List SpotOf) (z : ℕ) → (Member z (standing spots) → ⊥) → opened least spots z ≡ []
opened-absent least spots z out =
    ap (λ ss. cond (int_le least (most (narrowed z spots))) ss []) (narrowed-absent spots z out) ∙ by (int_le least (most (narrowed z spots)))
  where
    by : (b : Bool) → cond {A = List SpotOf} b [] [] ≡ []
    by true = refl
    by false = refl
