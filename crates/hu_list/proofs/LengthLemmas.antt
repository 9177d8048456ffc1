-- Sets of as many ranks as are wanted, and of as many as there are.
use Rattle.std.proofs.Common.{◌≡◌, ℕ, ◌+◌, ◌<◌, ◌≤◌, true, List, [], ◌∷◌, ◌++◌, pos, length, inl, inr, sym, ◌∙◌, subst, arith}
use Rattle.std.specs.List.{AllByRecursion}
use Rattle.std.proofs.lemmas.Bool.{and_parts, false≢true}
use Rattle.std.proofs.lemmas.Int.{ints}
use Rattle.std.proofs.lemmas.List.{length-append}
use Rattle.hu_kind.specs.Order.{Ascend}
use Rattle.hu_totals.specs.Ranked.{Ranking, IsRanking}
use Rattle.hu_collect.specs.Rule.{Rule, passes}
use Rattle.hu_collect.specs.Ranks.{key_of}
use Rattle.hu_collect.specs.State.{State, IsInOrder, Reached}
use Rattle.hu_collect.proofs.lemmas.Searching.{reached-rule}
use Rattle.hu_search.specs.declared.child.Child.{Child}
use Rattle.hu_search.specs.Growth.{Grows}
use Rattle.hu_search.specs.Children.{IsOneOf, IsBarren, ranks_of}
use Rattle.hu_search.proofs.lemmas.Children.{upto-none, upto-all}
use Rattle.hu_search.proofs.lemmas.UnrankLemmas.{InTable-occurs}
use Rattle.hu_list.specs.Lengths.{WantsUpto}
use Rattle.hu_list.specs.Level.{IsLevel}

-- no more ranks ascend from one below a number than lie between them
ascending-length : (n x : ℕ) (xs : List ℕ) → Ascend (x ∷ xs) → AllByRecursion (λ z. z < n) (x ∷ xs) → x + length (x ∷ xs) ≤ n
ascending-length n x [] up below = let here = below.0 in omega (arith, here)
ascending-length n x (y ∷ ys) up below =
    let next = up.0.0 in
    let rest = ascending-length n y ys up.1 below.1 in
    omega (arith, next, rest)

-- no set of ranks of a table has more ranks than it
pub wants-all : (rule : Rule) (table : List ℕ) → WantsUpto rule table (length table)
wants-all rule table [] up below long = absurd (omega (arith, long))
wants-all rule table (x ∷ xs) up below long =
    let short = ascending-length (length table) x xs up below in
    absurd (omega (arith, short, long))

-- nothing that is wanted grows a set of as many ranks as are wanted
long-barren : (s : State) (r : Ranking) (set : List ℕ) (long : ℕ) → IsRanking r → WantsUpto s.rule r.items long → long ≤ length set
    → IsBarren s r set
long-barren s r set long rules wants reached entry grows counts =
    let some = grows.some in
    let longer : long < length (set ++ grows.more) = omega (arith, reached, some, length-append set grows.more) in
    let unwanted = wants (set ++ grows.more) grows.ascending (InTable-occurs r rules (set ++ grows.more) grows.occurs) longer in
    let wanted = and_parts (s.rule.wants (key_of r.items (set ++ grows.more))) _ (subst (λ e. passes s.rule e ≡ true) grows.is counts.pass) in
    false≢true (sym unwanted ∙ wanted.0)

-- so a set is searched where its children were offered, which have as many
pub longest-reached : {old mid : State} (r : Ranking) (set : List ℕ) (long : ℕ) (children : List Child) → IsRanking r → IsInOrder old
    → WantsUpto old.rule r.items long → long ≤ length set + 1 → IsLevel old r set children
    → Reached old (IsOneOf r set (ranks_of children)) mid → Reached old (Grows r set) mid
longest-reached {mid = mid} r set long children rules ordered wants reached level offers =
    upto-all r set (ranks_of children) [] 0 (record { rank = 0; utility = pos 0; support = 0; bound = pos 0 }) ordered level.enough offers
    (record {
      others = λ rank among. inr (long-barren mid r (set ++ rank ∷ []) long rules
          (subst (λ rule. WantsUpto rule r.items long) (sym (reached-rule offers)) wants)
          (omega (arith, reached, length-append set (rank ∷ []))));
      bounds = tt;
    })
    tt (omega (arith, ints)) (inl (omega arith)) (upto-none r set (ranks_of children) [] offers)
