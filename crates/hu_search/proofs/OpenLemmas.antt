-- Sets whose keys a collector doesn't open.
use Rattle.std.proofs.Common.{◌≡◌, ℕ, ◌<◌, true, IsTrue, ℤ, Option, None, Some, List, [], ◌∷◌, ◌++◌, length, inl, inr, sym, ◌∙◌, ap, subst, append_assoc}
use Rattle.std.specs.List.{AllByRecursion}
use Rattle.std.proofs.lemmas.Bool.{and_parts, false≢true}
use Rattle.hu_kind.specs.Database.{support}
use Rattle.hu_kind.specs.Order.{Ascend}
use Rattle.hu_kind.proofs.lemmas.Members.{Member, Member-append_left, Member-append_right, Member-append_cases}
use Rattle.hu_totals.specs.Ranked.{Ranking, IsRanking}
use Rattle.hu_collect.specs.Rule.{passes}
use Rattle.hu_collect.specs.Ranks.{IsRankSet, key_of, is_part, CanOpen, IsGrown, IsShut, RestsOn}
use Rattle.hu_collect.specs.State.{State}
use Rattle.hu_search.specs.Growth.{rank_entry}
use Rattle.hu_search.specs.Children.{IsBarren}
use Rattle.hu_search.proofs.KeyLemmas.{IsRankSet-from, is_part-key_of}
use Rattle.hu_search.proofs.lemmas.UnrankLemmas.{InTable-occurs}

-- the key of a set of ranks may be asked about
pub can_open : (table : Option (List ℕ)) (items ranks : List ℕ) (last : ℕ) (key : List ℤ) → RestsOn table items
    → Ascend (ranks ++ last ∷ []) → AllByRecursion (λ rank. rank < length items) (ranks ++ last ∷ [])
    → key ≡ key_of items (ranks ++ last ∷ []) → CanOpen table key last
can_open None items ranks last key rests up within is = tt
can_open (Some table) items ranks last key rests up within is = (
  ranks,
  subst (λ t. IsRankSet t (ranks ++ last ∷ [])) (sym rests)
      (IsRankSet-from items (ranks ++ last ∷ []) up within),
  is ∙ ap (λ t. key_of t (ranks ++ last ∷ [])) (sym rests),
)

-- and what grows it by later ranks has a key that grows out of it
pub is_grown : (table : Option (List ℕ)) (items ranks : List ℕ) (last : ℕ) (more : List ℕ) (key : List ℤ)
    → RestsOn table items → Ascend (ranks ++ last ∷ more)
    → AllByRecursion (λ rank. rank < length items) (ranks ++ last ∷ more)
    → key ≡ key_of items (ranks ++ last ∷ []) → IsGrown table key last (key_of items (ranks ++ last ∷ more))
is_grown None items ranks last more key rests up within is =
    subst (λ k. IsTrue (is_part k (key_of items (ranks ++ last ∷ more)))) (sym is) (is_part-key_of items (ranks ++ last ∷ []) (ranks ++ last ∷ more) front)
  where
    front : (z : ℕ) → Member z (ranks ++ last ∷ []) → Member z (ranks ++ last ∷ more)
    front z m = elim (Member-append_cases z ranks (last ∷ []) m) [
      | inl a ↦ Member-append_left z ranks (last ∷ more) a
      | inr (inl e) ↦ Member-append_right z ranks (last ∷ more) (inl e)
      | inr (inr none) ↦ absurd none
    ]
is_grown (Some table) items ranks last more key rests up within is = (
  ranks,
  more,
  subst (λ t. IsRankSet t (ranks ++ last ∷ more)) (sym rests)
      (IsRankSet-from items (ranks ++ last ∷ more) up within),
  is
      ∙ ap (λ t. key_of t (ranks ++ last ∷ [])) (sym rests),
  ap (λ t. key_of t (ranks ++ last ∷ more)) (sym rests),
)

-- nothing counts that grows a set whose key is shut
pub barren-shut : (r : Ranking) (s : State) (ranks : List ℕ) (last : ℕ) (key : List ℤ) → IsRanking r → RestsOn s.rule.table r.items
    → key ≡ key_of r.items (ranks ++ last ∷ []) → IsShut s.rule key last → IsBarren s r (ranks ++ last ∷ [])
barren-shut r s ranks last key rules rests is shut entry grows counts =
    let same : (ranks ++ last ∷ []) ++ grows.more ≡ ranks ++ last ∷ grows.more = append_assoc ranks (last ∷ []) grows.more in
    let up : Ascend (ranks ++ last ∷ grows.more) = subst Ascend same grows.ascending in
    let within = InTable-occurs r rules (ranks ++ last ∷ grows.more) (subst (λ set. 0 < support r.records set) same grows.occurs) in
    let unwanted = shut (key_of r.items (ranks ++ last ∷ grows.more)) (is_grown s.rule.table r.items ranks last grows.more key rests up within is) in
    let entry_is : entry ≡ rank_entry r (ranks ++ last ∷ grows.more) = grows.is ∙ ap (rank_entry r) same in
    let wanted = (and_parts (s.rule.wants (key_of r.items (ranks ++ last ∷ grows.more))) _ (subst (λ e. passes s.rule e ≡ true) entry_is counts.pass)).0 in
    false≢true (sym unwanted ∙ wanted)
