-- What grows by a table grows by any further numbers, and a rule of closed keys wants no more than the inner one.
use Rattle.std.proofs.Common.{◌≡◌, ◌∙◌, ℕ, ◌<◌, ℤ, pos, true, false, Option, None, Some, List, [], ◌∷◌, ◌++◌, map, get_or, refl, sym, subst, inl, inr, arith}
use Rattle.std.specs.Ordering.{int_eq}
use Rattle.std.proofs.lemmas.Bool.{and_left, and_right, cases_eq, eq-eqb, ne_eqb}
use Rattle.hu_kind.specs.Order.{Ascend}
use Rattle.hu_kind.proofs.lemmas.Members.{Member, Member-append_cases, Member-append_left, Member-append_right}
use Rattle.hu_kind.proofs.lemmas.Occurring.{Ascend-ranking, at_member}
use Rattle.hu_collect.specs.Rule.{Rule}
use Rattle.hu_collect.specs.Ranks.{IsGrown, IsShut, RestsOn, is_part, key_of}
use Rattle.hu_closed.specs.Keys.{is_closed_key}
use Rattle.hu_closed.specs.ClosedOnly.{closed_rule}
use Rattle.hu_closed.proofs.lemmas.Closedness.{same_item}
use Rattle.hu_closed.proofs.lemmas.RankLemmas.{items_at, items_at-member, member-items_at}

-- ascending numbers that are all among others are part of them
pub is_part-members : (xs ys : List ℕ) → Ascend xs → Ascend ys → ((x : ℕ) → Member x xs → Member x ys) → is_part (map pos xs) (map pos ys) ≡ true
is_part-members [] ys up rise each = refl
is_part-members (x ∷ xs) [] up rise each = absurd (each x (inl refl))
is_part-members (x ∷ xs) (y ∷ ys) up rise each = elim (cases_eq x y) [
  | inl e ↦
      let here : int_eq (pos x) (pos y) ≡ true = same_item x y ∙ eq-eqb x y e in
      rw here (is_part-members xs ys up.1 rise.1 (λ z m.
      let above : x < z = at_member (λ w. x < w) z xs up.0 m in
      elim (each z (inr m)) [
        | inl same ↦ absurd (omega (arith, e, same, above))
        | inr later ↦ later
      ]))
  | inr ne ↦
      let other : int_eq (pos x) (pos y) ≡ false = same_item x y ∙ ne_eqb x y ne in
      let first : Member x ys = elim (each x (inl refl)) [
        | inl same ↦ absurd (ne (sym same))
        | inr later ↦ later
      ] in
      let low : y < x = at_member (λ w. y < w) x ys rise.0 first in
      rw other (is_part-members (x ∷ xs) ys up rise.1 (λ z m. elim m [
        | inl same ↦ subst (λ w. Member w ys) same first
        | inr n ↦
            let above : x < z = at_member (λ w. x < w) z xs up.0 n in
            elim (each z (inr n)) [
              | inl same ↦ absurd (omega (arith, same, above, low))
              | inr later ↦ later
            ]
      ]))
]

grown-part : (table before more : List ℕ) (last : ℕ) → is_part (key_of table (before ++ last ∷ [])) (key_of table (before ++ last ∷ more)) ≡ true
grown-part table before more last =
    let ranks = before ++ last ∷ [] in
    let grown = before ++ last ∷ more in
    is_part-members (items_at table ranks) (items_at table grown)
    (Ascend-ranking (map (λ rank. get_or table rank 0) ranks))
    (Ascend-ranking (map (λ rank. get_or table rank 0) grown)) (λ item m.
    let rank = items_at-member table ranks item m in
    let in_grown : Member rank.0 grown = elim (Member-append_cases rank.0 before (last ∷ []) rank.1) [
      | inl early ↦ Member-append_left rank.0 before (last ∷ more) early
      | inr (inl e) ↦ Member-append_right rank.0 before (last ∷ more) (inl e)
      | inr (inr none) ↦ absurd none
    ] in
    subst (λ i. Member i (items_at table grown)) rank.2 (member-items_at table grown rank.0 in_grown))

grown-by : (inner : Option (List ℕ)) (table : List ℕ) (key : List ℤ) (last : ℕ) (grown : List ℤ) → RestsOn inner table
    → IsGrown (Some table) key last grown → IsGrown inner key last grown
grown-by None table key last grown rests g =
    (λ j. is_part (g.3 j) (g.4 j)) ∙ grown-part table g.0 g.1 last
grown-by (Some t) table key last grown rests g = subst (λ t. IsGrown (Some t) key last grown) (sym rests) g

-- where the inner rule wants none of them
pub wants-inner : (inner : Rule) (records : List (List (ℕ × ℤ))) (table : List ℕ) (key : List ℤ) (last : ℕ)
    → RestsOn inner.table table → IsShut inner key last → IsShut (closed_rule inner records table) key last
wants-inner inner records table key last rests none grown g =
    and_left (inner.wants grown) (is_closed_key records grown) (none grown (grown-by inner.table table key last grown rests g))

-- where none of them is closed
pub wants-closed : (inner : Rule) (records : List (List (ℕ × ℤ))) (table : List ℕ) (key : List ℤ) (last : ℕ)
    → ((grown : List ℤ) → IsGrown (Some table) key last grown → is_closed_key records grown ≡ false)
    → IsShut (closed_rule inner records table) key last
wants-closed inner records table key last none grown g = and_right (inner.wants grown) (is_closed_key records grown) (none grown g)
