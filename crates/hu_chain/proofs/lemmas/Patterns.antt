-- The end of a pattern, and what growths make of it.
use Rattle.std.proofs.Common.{◌≡◌, ℕ, List, [], ◌∷◌, ◌++◌, length, refl, ap, ◌∙◌, arith, length-append}
use Rattle.hu_chain.specs.declared.chain.Growth.{Growth}
use Rattle.hu_chain.specs.declared.chain.Growth.TheVariants.{IntoLast, AfterLast}
use Rattle.hu_chain.specs.Pattern.{after, earlier, into, last_from, last_item, last_itemset, Ends}
use Rattle.hu_chain.specs.Grown.{grown, CanGrow}

pub earlier-into : (pattern : List (List ℕ)) (item : ℕ) → earlier (into pattern item) ≡ earlier pattern
earlier-into [] item = refl
earlier-into (items ∷ []) item = refl
earlier-into (items ∷ next ∷ []) item = refl
earlier-into (items ∷ next ∷ more ∷ pattern) item = ap (λ ps. items ∷ ps) (earlier-into (next ∷ more ∷ pattern) item)

pub last-into : (pattern : List (List ℕ)) (item : ℕ) → last_itemset (into pattern item) ≡ last_itemset pattern ++ item ∷ []
last-into [] item = refl
last-into (items ∷ []) item = refl
last-into (items ∷ next ∷ []) item = refl
last-into (items ∷ next ∷ more ∷ pattern) item = last-into (next ∷ more ∷ pattern) item

pub earlier-after : (pattern : List (List ℕ)) (item : ℕ) → earlier (after pattern item) ≡ pattern
earlier-after [] item = refl
earlier-after (items ∷ []) item = refl
earlier-after (items ∷ next ∷ pattern) item = ap (λ ps. items ∷ ps) (earlier-after (next ∷ pattern) item)

pub last-after : (pattern : List (List ℕ)) (item : ℕ) → last_itemset (after pattern item) ≡ item ∷ []
last-after [] item = refl
last-after (items ∷ []) item = refl
last-after (items ∷ next ∷ pattern) item = last-after (next ∷ pattern) item

-- a pattern is its earlier itemsets and its last one
split-end : (items : List ℕ) (pattern : List (List ℕ)) → items ∷ pattern ≡ earlier (items ∷ pattern) ++ last_itemset (items ∷ pattern) ∷ []
split-end items [] = refl
split-end items (next ∷ pattern) = ap (λ ps. items ∷ ps) (split-end next pattern)

pub pattern-split : (pattern : List (List ℕ)) → Ends pattern → pattern ≡ earlier pattern ++ last_itemset pattern ∷ []
pattern-split [] ends = absurd (omega (arith, ends.some))
pattern-split (items ∷ pattern) ends = split-end items pattern

last_from-append : (other : ℕ) (items : List ℕ) (item : ℕ) → last_from other (items ++ item ∷ []) ≡ item
last_from-append other [] item = refl
last_from-append other (next ∷ items) item = last_from-append next items item

pub last_item-into : (pattern : List (List ℕ)) (item : ℕ) → last_item (into pattern item) ≡ item
last_item-into pattern item = ap (last_from 0) (last-into pattern item) ∙ last_from-append 0 (last_itemset pattern) item

pub last_item-after : (pattern : List (List ℕ)) (item : ℕ) → last_item (after pattern item) ≡ item
last_item-after pattern item = ap (last_from 0) (last-after pattern item)

pub Ends-into : (pattern : List (List ℕ)) (item : ℕ) → Ends (into pattern item)
Ends-into pattern item = record { some = omega (arith, ap length (last-into pattern item), length-append (last_itemset pattern) (item ∷ [])) }

pub Ends-after : (pattern : List (List ℕ)) (item : ℕ) → Ends (after pattern item)
Ends-after pattern item = record { some = omega (arith, ap length (last-after pattern item)) }

-- a grown pattern has a last item: that of the growth
pub Ends-grown : (growth : Growth) (pattern : List (List ℕ)) (item : ℕ) → Ends (grown growth pattern item)
Ends-grown IntoLast pattern item = Ends-into pattern item
Ends-grown AfterLast pattern item = Ends-after pattern item

pub last_item-grown : (growth : Growth) (pattern : List (List ℕ)) (item : ℕ) → last_item (grown growth pattern item) ≡ item
last_item-grown IntoLast pattern item = last_item-into pattern item
last_item-grown AfterLast pattern item = last_item-after pattern item

-- what may take a growth has a last item
pub Ends-can_grow : (growth : Growth) (pattern : List (List ℕ)) (item : ℕ) → CanGrow growth pattern item → Ends pattern
Ends-can_grow IntoLast pattern item can = can.ends
Ends-can_grow AfterLast pattern item can = can
