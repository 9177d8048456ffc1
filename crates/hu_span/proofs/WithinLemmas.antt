-- A pattern occurs where one does that holds it. Where a pattern grows from another one by an item, the other one with just
-- this item more occurs.
use Rattle.std.proofs.Common.{◌≡◌, ℕ, ◌<◌, ◌&&◌, Bool, true, false, cond, ℤ, ◌+ℤ◌, Option, None, Some, option_map, is_some, List, [], ◌∷◌, ◌++◌, length, refl}
use Rattle.std.proofs.Common.{sym, ap, ◌∙◌, subst, ◌⊎◌, inl, inr, arith}
use Rattle.std.proofs.lemmas.Bool.{and_from}
use Rattle.hu_kind.specs.Record.{has, holds, values_of}
use Rattle.hu_kind.specs.Sequence.{best_utility, IsSequence}
use Rattle.hu_kind.proofs.lemmas.Members.{Member}
use Rattle.hu_kind.proofs.lemmas.Better.{some_cases, some_left}
use Rattle.hu_kind.proofs.lemmas.Subsequences.{held_and_later, some-here, occurs-later}
use Rattle.hu_kind.proofs.lemmas.Occurring.{holds-append}
use Rattle.hu_chain.specs.declared.chain.Growth.{Growth}
use Rattle.hu_chain.specs.declared.chain.Growth.TheVariants.{IntoLast, AfterLast}
use Rattle.hu_chain.specs.Grown.{grown, CanGrow, IsGrownFrom, Leads}
use Rattle.hu_chain.specs.Pattern.{after, into, Ends}
use Rattle.hu_chain.proofs.lemmas.Bounds.{grown_from-none}
use Rattle.hu_chain.proofs.lemmas.Patterns.{last_item-into, Ends-grown}

-- cells that hold some items hold others
abbrev pub IsPart : List ℕ → List ℕ → Type 0
IsPart p q = (cells : List (ℕ × ℤ)) → holds q cells ≡ true → holds p cells ≡ true

-- a pattern holds another one, itemset by itemset
abbrev pub Within : List (List ℕ) → List (List ℕ) → Type 0
Within [] q = Unit {0}
Within (p ∷ ps) [] = ⊥
Within (p ∷ ps) (q ∷ qs) = (IsPart p q × Within ps qs) ⊎ Within (p ∷ ps) qs

pub occurs-within : (p q : List (List ℕ)) (elements : List (List (ℕ × ℤ))) → Within p q → is_some (best_utility q elements) ≡ true
    → is_some (best_utility p elements) ≡ true
occurs-within [] q elements w some = refl
occurs-within (p ∷ ps) [] elements w some = absurd w
occurs-within (p ∷ ps) (q ∷ qs) [] w some = cc
occurs-within (p ∷ ps) (q ∷ qs) (e ∷ es) w some =
    elim (some_cases (cond (holds q e) (option_map (λ u. values_of q e +ℤ u) (best_utility qs es)) None) (best_utility (q ∷ qs) es) some) [
      | inl here ↦
          let both = held_and_later (holds q e) (values_of q e) (best_utility qs es) here in
          elim w [
            | inl part ↦ some_left (cond (holds p e) (option_map (λ u. values_of p e +ℤ u) (best_utility ps es)) None) (best_utility (p ∷ ps) es)
                (some-here (holds p e) (values_of p e) (best_utility ps es) (part.0 e both.0) (occurs-within ps qs es part.1 both.1))
            | inr skip ↦ occurs-later (p ∷ ps) e es (occurs-within (p ∷ ps) qs es skip both.1)
          ]
      | inr later ↦ occurs-later (p ∷ ps) e es (occurs-within (p ∷ ps) (q ∷ qs) es w later)
    ]

-- ---- parts

both_left : (a b : Bool) → (a && b) ≡ true → a ≡ true
both_left true b h = refl
both_left false b h = h

both_right : (a b : Bool) → (a && b) ≡ true → b ≡ true
both_right true b h = h
both_right false b h = cc

part-itself : (items : List ℕ) → IsPart items items
part-itself items cells h = h

part-front : (items more : List ℕ) → IsPart items (items ++ more)
part-front items more cells h = both_left (holds items cells) (holds more cells) (sym (holds-append items more cells) ∙ h)

part-both : (items : List ℕ) (x y : ℕ) → IsPart (items ++ x ∷ []) ((items ++ y ∷ []) ++ x ∷ [])
part-both items x y cells h =
    let whole : (holds (items ++ y ∷ []) cells && holds (x ∷ []) cells) ≡ true = sym (holds-append (items ++ y ∷ []) (x ∷ []) cells) ∙ h in
    let front = both_left (holds (items ++ y ∷ []) cells) (holds (x ∷ []) cells) whole in
    let last = both_right (holds (items ++ y ∷ []) cells) (holds (x ∷ []) cells) whole in
    holds-append items (x ∷ []) cells ∙ and_from (holds items cells) (holds (x ∷ []) cells) (part-front items (y ∷ []) cells front) last

part-last : (x y : ℕ) → IsPart (x ∷ []) (y ∷ x ∷ [])
part-last x y cells h = both_right (has y cells) (holds (x ∷ []) cells) h

-- ---- two growths

into-cons : (items : List ℕ) (rest : List (List ℕ)) (x : ℕ) → 0 < length rest → into (items ∷ rest) x ≡ items ∷ into rest x
into-cons items [] x some = absurd (omega arith)
into-cons items (next ∷ rest) x some = refl

length-into : (pattern : List (List ℕ)) (x : ℕ) → 0 < length (into pattern x)
length-into [] x = omega arith
length-into (items ∷ []) x = omega arith
length-into (items ∷ next ∷ pattern) x = omega arith

length-after : (pattern : List (List ℕ)) (x : ℕ) → 0 < length (after pattern x)
length-after [] x = omega arith
length-after (items ∷ pattern) x = omega arith

within-into_into : (pattern : List (List ℕ)) (x y : ℕ) → Within (into pattern x) (into (into pattern y) x)
within-into_into [] x y = inl (part-last x y, tt)
within-into_into (items ∷ []) x y = inl (part-both items x y, tt)
within-into_into (items ∷ next ∷ pattern) x y =
    subst (Within (items ∷ into (next ∷ pattern) x)) (sym (into-cons items (into (next ∷ pattern) y) x (length-into (next ∷ pattern) y)))
    (inl (part-itself items, within-into_into (next ∷ pattern) x y))

within-into_after : (pattern : List (List ℕ)) (x y : ℕ) → Within (after pattern x) (after (into pattern y) x)
within-into_after [] x y = inr (inl (part-itself (x ∷ []), tt))
within-into_after (items ∷ []) x y = inl (part-front items (y ∷ []), inl (part-itself (x ∷ []), tt))
within-into_after (items ∷ next ∷ pattern) x y = inl (part-itself items, within-into_after (next ∷ pattern) x y)

within-after_into : (pattern : List (List ℕ)) (x y : ℕ) → Within (after pattern x) (into (after pattern y) x)
within-after_into [] x y = inl (part-last x y, tt)
within-after_into (items ∷ pattern) x y =
    subst (Within (items ∷ after pattern x)) (sym (into-cons items (after pattern y) x (length-after pattern y)))
    (inl (part-itself items, within-after_into pattern x y))

within-after_after : (pattern : List (List ℕ)) (x y : ℕ) → Within (after pattern x) (after (after pattern y) x)
within-after_after [] x y = inr (inl (part-itself (x ∷ []), tt))
within-after_after (items ∷ pattern) x y = inl (part-itself items, within-after_after pattern x y)

-- ---- the first use of an item

-- a growth by an item that another pattern needs: where the other one occurs the grown one does
pub record IsUsed (pattern other : List (List ℕ)) (item : ℕ) : Type 0 where
  pub growth : Growth
  pub can : CanGrow growth pattern item
  pub occurs : (elements : List (List (ℕ × ℤ))) → IsSequence elements → is_some (best_utility other elements) ≡ true
      → is_some (best_utility (grown growth pattern item) elements) ≡ true

used-before : (growth : Growth) (pattern other : List (List ℕ)) (y x : ℕ) → CanGrow growth pattern y → IsUsed (grown growth pattern y) other x
    → IsUsed pattern other x
used-before growth pattern other y x can used = by growth used.growth can used.can used.occurs
  where
    by : (g h : Growth) → CanGrow g pattern y → CanGrow h (grown g pattern y) x
        → ((elements : List (List (ℕ × ℤ))) → IsSequence elements → is_some (best_utility other elements) ≡ true
        → is_some (best_utility (grown h (grown g pattern y) x) elements) ≡ true) → IsUsed pattern other x
    by IntoLast IntoLast can next occurs = record {
      growth = IntoLast;
      can = record { ends = can.ends; below = let last = last_item-into pattern y in omega (arith, can.below, next.below, last) };
      occurs = λ elements rules some. occurs-within (into pattern x) (into (into pattern y) x) elements (within-into_into pattern x y)
          (occurs elements rules some);
    }
    by IntoLast AfterLast can next occurs = record {
      growth = AfterLast;
      can = can.ends;
      occurs = λ elements rules some. occurs-within (after pattern x) (after (into pattern y) x) elements (within-into_after pattern x y)
          (occurs elements rules some);
    }
    by AfterLast IntoLast can next occurs = record {
      growth = AfterLast;
      can = can;
      occurs = λ elements rules some. occurs-within (after pattern x) (into (after pattern y) x) elements (within-after_into pattern x y)
          (occurs elements rules some);
    }
    by AfterLast AfterLast can next occurs = record {
      growth = AfterLast;
      can = can;
      occurs = λ elements rules some. occurs-within (after pattern x) (after (after pattern y) x) elements (within-after_after pattern x y)
          (occurs elements rules some);
    }

occurs-front : (pattern other : List (List ℕ)) (elements : List (List (ℕ × ℤ))) → IsSequence elements → Ends pattern → IsGrownFrom pattern other
    → is_some (best_utility other elements) ≡ true → is_some (best_utility pattern elements) ≡ true
occurs-front pattern other elements rules ends from some = by (best_utility pattern elements) refl
  where
    by : (u : Option ℤ) → best_utility pattern elements ≡ u → is_some (best_utility pattern elements) ≡ true
    by (Some u) e = ap is_some e
    by None e =
        let gone : is_some (best_utility other elements) ≡ false = ap is_some (grown_from-none pattern other elements rules ends from e) in
        let bad : true ≡ false = sym some ∙ gone in
        cc

pub used-step : (steps : List (Growth × ℕ)) (pattern other : List (List ℕ)) (step : Growth × ℕ) → Leads steps pattern other → Member step steps
    → IsUsed pattern other step.1
used-step [] pattern other step leads m = absurd m
used-step (first ∷ steps) pattern other step leads (inl e) = subst (λ (s : Growth × ℕ). IsUsed pattern other s.1) e (record {
  growth = first.0;
  can = leads.0;
  occurs = λ elements rules some. occurs-front (grown first.0 pattern first.1) other elements rules (Ends-grown first.0 pattern first.1)
      (record { steps = steps; leads = leads.1 }) some;
})
used-step (first ∷ steps) pattern other step leads (inr m) =
    used-before first.0 pattern other first.1 step.1 leads.0 (used-step steps (grown first.0 pattern first.1) other step leads.1 m)
