-- Growths one after the other: they join, and from a pattern of one item they reach every pattern that begins with the
-- item.
use Rattle.std.proofs.Common.{◌≡◌, ℕ, ◌<◌, List, [], ◌∷◌, ◌++◌, length, refl, sym, ap, ◌∙◌, subst, arith, append_assoc, append-nil}
use Rattle.std.specs.List.{AllByRecursion}
use Rattle.hu_kind.specs.Order.{Ascend}
use Rattle.hu_chain.specs.declared.chain.Growth.{Growth}
use Rattle.hu_chain.specs.declared.chain.Growth.TheVariants.{IntoLast, AfterLast}
use Rattle.hu_chain.specs.Pattern.{into, last_item, Ends}
use Rattle.hu_chain.specs.Grown.{grown, CanGrow, Leads, IsGrownFrom}
use Rattle.hu_chain.proofs.lemmas.Patterns.{Ends-after, Ends-into, last_item-after, last_item-into}
use Rattle.hu_chain.proofs.lemmas.Bounds.{grown-first}

-- a pattern is grown from itself
pub grown_from-itself : (pattern : List (List ℕ)) → IsGrownFrom pattern pattern
grown_from-itself pattern = record { steps = []; leads = refl }

leads-join : (steps more : List (Growth × ℕ)) (pattern middle other : List (List ℕ)) → Leads steps pattern middle
    → Leads more middle other → Leads (steps ++ more) pattern other
leads-join [] more pattern middle other leads next = subst (λ p. Leads more p other) (sym leads) next
leads-join (step ∷ steps) more pattern middle other leads next = (leads.0, leads-join steps more (grown step.0 pattern step.1) middle other leads.1 next)

-- growths of a grown pattern
pub grown_from-join : (pattern middle other : List (List ℕ)) → IsGrownFrom pattern middle → IsGrownFrom middle other → IsGrownFrom pattern other
grown_from-join pattern middle other from next =
    record {
      steps = from.steps ++ next.steps;
      leads = leads-join from.steps next.steps pattern middle other from.leads
          next.leads;
    }

-- one growth more at the end
pub grown_from-next : (growth : Growth) (pattern other : List (List ℕ)) (item : ℕ) → IsGrownFrom pattern other
    → CanGrow growth other item → IsGrownFrom pattern (grown growth other item)
grown_from-next growth pattern other item from can =
    grown_from-join pattern other (grown growth other item) from
    (grown-first growth other (grown growth other item) item can (grown_from-itself (grown growth other item)))

-- ---- every pattern is reached

into-append : (front : List (List ℕ)) (items : List ℕ) (item : ℕ) → into (front ++ items ∷ []) item ≡ front ++ (items ++ item ∷ []) ∷ []
into-append [] items item = refl
into-append (first ∷ []) items item = refl
into-append (first ∷ next ∷ front) items item = ap (λ ps. first ∷ ps) (into-append (next ∷ front) items item)

-- items that ascend after the last one, into the last itemset
into-reached : (front : List (List ℕ)) (items more : List ℕ) → Ends (front ++ items ∷ [])
    → AllByRecursion (λ item. last_item (front ++ items ∷ []) < item) more → Ascend more
    → IsGrownFrom (front ++ items ∷ []) (front ++ (items ++ more) ∷ [])
into-reached front items [] ends above up =
    subst (λ is. IsGrownFrom (front ++ items ∷ []) (front ++ is ∷ [])) (sym (append-nil items))
    (grown_from-itself (front ++ items ∷ []))
into-reached front items (item ∷ more) ends above up =
    let pattern : List (List ℕ) = front ++ items ∷ [] in
    let next : List (List ℕ) = front ++ (items ++ item ∷ []) ∷ [] in
    let joined = into-append front items item in
    let ends' = subst Ends joined (Ends-into pattern item) in
    let last : last_item next ≡ item = ap last_item (sym joined) ∙ last_item-into pattern item in
    let above' = subst (λ n. AllByRecursion (λ i. n < i) more) (sym last) up.0 in
    let rest = into-reached front (items ++ item ∷ []) more ends' above' up.1 in
    let whole = subst (λ is. IsGrownFrom next (front ++ is ∷ [])) (append_assoc items (item ∷ []) more) rest in
    grown-first IntoLast pattern (front ++ (items ++ item ∷ more) ∷ []) item (record { ends = ends; below = above.0 })
    (subst (λ p. IsGrownFrom p (front ++ (items ++ item ∷ more) ∷ [])) (sym joined) whole)

Ends-alone : (front : List (List ℕ)) (item : ℕ) (items : List ℕ) → Ends (front ++ (item ∷ items) ∷ [])
Ends-alone [] item items = record { some = omega arith }
Ends-alone (first ∷ []) item items = record { some = omega arith }
Ends-alone (first ∷ next ∷ front) item items = record { some = let ends = Ends-alone (next ∷ front) item items in ends.some }

-- further itemsets
after-reached : (pattern rest : List (List ℕ)) → Ends pattern
    → AllByRecursion (λ items. (0 < length items) × Ascend items) rest → IsGrownFrom pattern (pattern ++ rest)
after-reached pattern [] ends all = subst (IsGrownFrom pattern) (sym (append-nil pattern)) (grown_from-itself pattern)
after-reached pattern ([] ∷ rest) ends all = let first = all.0 in absurd (omega (arith, first.0))
after-reached pattern ((item ∷ items) ∷ rest) ends all =
    let first = all.0 in
    let up = first.1 in
    let next : List (List ℕ) = pattern ++ (item ∷ items) ∷ [] in
    let above = subst (λ n. AllByRecursion (λ i. n < i) items) (sym (last_item-after pattern item)) up.0 in
    let one = into-reached pattern (item ∷ []) items (Ends-after pattern item) above up.1 in
    let begun = grown-first AfterLast pattern next item ends one in
    let more = after-reached next rest (Ends-alone pattern item items) all.1 in
    subst (IsGrownFrom pattern) (append_assoc pattern ((item ∷ items) ∷ []) rest) (grown_from-join pattern next (next ++ rest) begun more)

-- every pattern of ascending itemsets is grown from its first item
pub reached : (item : ℕ) (items : List ℕ) (rest : List (List ℕ)) → Ascend (item ∷ items) → AllByRecursion (λ others. (0 < length others) × Ascend others) rest
    → IsGrownFrom ((item ∷ []) ∷ []) ((item ∷ items) ∷ rest)
reached item items rest up all =
    let one : List (List ℕ) = (item ∷ []) ∷ [] in
    let first = into-reached [] (item ∷ []) items (Ends-alone [] item []) up.0 up.1 in
    grown_from-join one ((item ∷ items) ∷ []) ((item ∷ items) ∷ rest) first (after-reached ((item ∷ items) ∷ []) rest (Ends-alone [] item items) all)
