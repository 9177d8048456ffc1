-- Steps, by their places: their pattern, its size and its key.
use Rattle.std.proofs.Common.{◌≡◌, ℕ, zero, suc, ◌<◌, ◌+◌, ℤ, pos, negsuc, List, [], ◌∷◌, ◌++◌, map, length, get_or, take, drop, sum_by, refl, sym, ap, ◌∙◌}
use Rattle.std.proofs.Common.{◌⊎◌, inl, inr, arith, append_assoc, append-nil, length-append, Option, None, Some, option_to_list, IsSome, ◌↔◌}
use Rattle.std.proofs.lemmas.List.Concat.{flat_map-append}
use Rattle.std.proofs.lemmas.List.Sums.{sum_by-cons, sum_by-append}
use Rattle.std.proofs.lemmas.Bool.{false≢true}
use Rattle.std.proofs.lemmas.List.{same_from_push}
use Rattle.hu_kind.specs.Sequence.{sequence_key, closed}
use Rattle.hu_chain.specs.declared.chain.Growth.{Growth}
use Rattle.hu_chain.specs.declared.chain.Growth.TheVariants.{IntoLast, AfterLast}
use Rattle.hu_chain.specs.Pattern.{after, into, Ends}
use Rattle.hu_chain.specs.Grown.{grown}
use Rattle.hu_chain.proofs.lemmas.Patterns.{Ends-grown}
use Rattle.hu_span.specs.declared.step.Step.{Step}
use Rattle.hu_span.specs.Step.{grown_key, open_key, pattern_from, pattern_of}

-- ---- one step more

pub open_key-next : (key : List ℤ) (steps : List Step) (i : ℕ) (d : Step) → i < length steps
    → open_key key (take (suc i) steps) ≡ grown_key (open_key key (take i steps)) (get_or steps i d).growth (get_or steps i d).item.0
open_key-next key [] i d within = absurd (omega arith)
open_key-next key (step ∷ steps) zero d within = refl
open_key-next key (step ∷ steps) (suc i) d within = open_key-next (grown_key key step.growth step.item.0) steps i d (omega arith)

pattern_from-push : (pattern : List (List ℕ)) (steps : List Step) (step : Step)
    → pattern_from pattern (steps ++ step ∷ []) ≡ grown step.growth (pattern_from pattern steps) step.item.0
pattern_from-push pattern [] step = refl
pattern_from-push pattern (first ∷ steps) step = pattern_from-push (grown first.growth pattern first.item.0) steps step

pub pattern_of-push : (steps : List Step) (step : Step) → pattern_of (steps ++ step ∷ []) ≡ grown step.growth (pattern_of steps) step.item.0
pattern_of-push steps step = pattern_from-push [] steps step

-- ---- the size of a pattern

size-into : (pattern : List (List ℕ)) (item : ℕ) → sum_by length (into pattern item) ≡ sum_by length pattern + 1
size-into [] item = omega (arith, sum_by-cons length (item ∷ []) [])
size-into (items ∷ []) item = omega (arith, sum_by-cons length (items ++ item ∷ []) [], sum_by-cons length items [], length-append items (item ∷ []))
size-into (items ∷ next ∷ pattern) item = omega (
  arith,
  size-into (next ∷ pattern) item,
  sum_by-cons length items
      (into (next ∷ pattern) item),
  sum_by-cons length items (next ∷ pattern),
)

size-grown : (growth : Growth) (pattern : List (List ℕ)) (item : ℕ) → sum_by length (grown growth pattern item) ≡ sum_by length pattern + 1
size-grown IntoLast pattern item = size-into pattern item
size-grown AfterLast pattern item = omega (arith, sum_by-append length pattern ((item ∷ []) ∷ []), sum_by-cons length (item ∷ []) [])

size-from : (pattern : List (List ℕ)) (steps : List Step) → sum_by length (pattern_from pattern steps) ≡ sum_by length pattern + length steps
size-from pattern [] = omega arith
size-from pattern (step ∷ steps) = omega (arith, size-from (grown step.growth pattern step.item.0) steps, size-grown step.growth pattern step.item.0)

-- a pattern has an item for each step
pub size-pattern_of : (steps : List Step) → sum_by length (pattern_of steps) ≡ length steps
size-pattern_of steps = omega (arith, size-from [] steps)

-- ---- the key of a pattern

-- an open key is that of a pattern: the empty one's, or one whose end only lacks its -1
abbrev IsOpen : List (List ℕ) → List ℤ → Type 0
IsOpen pattern key = ((pattern ≡ []) × (key ≡ [])) ⊎ (Ends pattern × (0 < length key) × (sequence_key pattern ≡ key ++ negsuc 0 ∷ []))

one-key : (items : List ℕ) → sequence_key (items ∷ []) ≡ map pos items ++ negsuc 0 ∷ []
one-key items = append-nil (map pos items ++ negsuc 0 ∷ [])

map-pos-push : (items : List ℕ) (item : ℕ) → map pos (items ++ item ∷ []) ≡ map pos items ++ pos item ∷ []
map-pos-push [] item = refl
map-pos-push (first ∷ items) item = ap (λ ns. pos first ∷ ns) (map-pos-push items item)

same_end : (a b : List ℤ) → a ++ negsuc 0 ∷ [] ≡ b ++ negsuc 0 ∷ [] → a ≡ b
same_end [] [] e = refl
same_end [] (y ∷ []) e = absurd (omega (arith, ap length e))
same_end [] (y ∷ z ∷ b) e = absurd (omega (arith, ap length e, length-append b (negsuc 0 ∷ [])))
same_end (x ∷ []) [] e = absurd (omega (arith, ap length e))
same_end (x ∷ z ∷ a) [] e = absurd (omega (arith, ap length e, length-append a (negsuc 0 ∷ [])))
same_end (x ∷ a) (y ∷ b) e =
    let head : x ≡ y = ap (λ ns. get_or ns 0 (pos 0)) e in
    let tail : a ++ negsuc 0 ∷ [] ≡ b ++ negsuc 0 ∷ [] = ap (λ ns. drop 1 ns) e in
    let rest = same_end a b tail in
    cc

key-into : (pattern : List (List ℕ)) (item : ℕ) (key : List ℤ) → 0 < length pattern → sequence_key pattern ≡ key ++ negsuc 0 ∷ []
    → sequence_key (into pattern item) ≡ (key ++ pos item ∷ []) ++ negsuc 0 ∷ []
key-into [] item key some is = absurd (omega arith)
key-into (items ∷ []) item key some is =
    let own = same_end (map pos items) key (sym (one-key items) ∙ is) in
    one-key (items ++ item ∷ []) ∙ ap (λ ns. ns ++ negsuc 0 ∷ []) (map-pos-push items item ∙ ap (λ ns. ns ++ pos item ∷ []) own)
key-into (items ∷ next ∷ pattern) item key some is =
    let rest : (k : List ℤ) × (sequence_key (next ∷ pattern) ≡ k ++ negsuc 0 ∷ []) = open_end next pattern in
    let first : List ℤ = map pos items ++ negsuc 0 ∷ [] in
    let ih = key-into (next ∷ pattern) item rest.0 (omega arith) rest.1 in
    let whole : first ++ rest.0 ≡ key = same_end (first ++ rest.0) key (append_assoc first rest.0 (negsuc 0 ∷ []) ∙ ap (λ ns. first ++ ns) (sym rest.1)
    ∙ is) in
    ap (λ ns. first ++ ns) ih
    ∙ sym (append_assoc first (rest.0 ++ pos item ∷ []) (negsuc 0 ∷ []))
    ∙ ap (λ ns. ns ++ negsuc 0 ∷ []) (sym (append_assoc first rest.0 (pos item ∷ [])) ∙ ap (λ ns. ns ++ pos item ∷ []) whole)
  where
    open_end : (p : List ℕ) (ps : List (List ℕ)) → (k : List ℤ) × (sequence_key (p ∷ ps) ≡ k ++ negsuc 0 ∷ [])
    open_end p [] = (map pos p, one-key p)
    open_end p (q ∷ qs) =
        let ih = open_end q qs in (
          (map pos p ++ negsuc 0 ∷ []) ++ ih.0,
          ap (λ ns. (map pos p ++ negsuc 0 ∷ []) ++ ns) ih.1 ∙ sym
              (append_assoc (map pos p ++ negsuc 0 ∷ []) ih.0 (negsuc 0 ∷ [])),
        )

key-after : (pattern : List (List ℕ)) (item : ℕ) → sequence_key (after pattern item) ≡ (sequence_key pattern ++ pos item ∷ []) ++ negsuc 0 ∷ []
key-after pattern item =
    flat_map-append (λ items. map pos items ++ negsuc 0 ∷ []) pattern ((item ∷ []) ∷ [])
    ∙ sym (append_assoc (sequence_key pattern) (pos item ∷ []) (negsuc 0 ∷ []))

closed-some : (key : List ℤ) → 0 < length key → closed key ≡ key ++ negsuc 0 ∷ []
closed-some [] some = absurd (omega arith)
closed-some (n ∷ ns) some = refl

Ends-some : (pattern : List (List ℕ)) → Ends pattern → 0 < length pattern
Ends-some [] ends = absurd (omega (arith, ends.some))
Ends-some (items ∷ pattern) ends = omega arith

IsOpen-grown : (growth : Growth) (pattern : List (List ℕ)) (item : ℕ) (key : List ℤ) → IsOpen pattern key
    → IsOpen (grown growth pattern item) (grown_key key growth item)
IsOpen-grown IntoLast pattern item key (inl none) = inr (Ends-grown IntoLast pattern item, omega (arith, length-append key (pos item ∷ [])), first)
  where
    first : sequence_key (into pattern item) ≡ (key ++ pos item ∷ []) ++ negsuc 0 ∷ []
    first = ap (λ p. sequence_key (into p item)) none.0 ∙ sym (ap (λ k. (k ++ pos item ∷ []) ++ negsuc 0 ∷ []) none.1)
IsOpen-grown IntoLast pattern item key (inr is) = inr (
  Ends-grown IntoLast pattern item,
  omega
      (arith, length-append key (pos item ∷ [])),
  key-into pattern item key (Ends-some pattern is.0) is.2,
)
IsOpen-grown AfterLast pattern item key (inl none) = inr (Ends-grown AfterLast pattern item, omega (arith, length-append (closed key) (pos item ∷ [])), first)
  where
    first : sequence_key (after pattern item) ≡ (closed key ++ pos item ∷ []) ++ negsuc 0 ∷ []
    first = key-after pattern item ∙ ap (λ k. (k ++ pos item ∷ []) ++ negsuc 0 ∷ []) (ap sequence_key none.0 ∙ sym (ap closed none.1))
IsOpen-grown AfterLast pattern item key (inr is) = inr (Ends-grown AfterLast pattern item, omega (arith, length-append (closed key) (pos item ∷ [])), next)
  where
    next : sequence_key (after pattern item) ≡ (closed key ++ pos item ∷ []) ++ negsuc 0 ∷ []
    next = key-after pattern item ∙ ap (λ k. (k ++ pos item ∷ []) ++ negsuc 0 ∷ []) (is.2 ∙ sym (closed-some key is.1))

IsOpen-from : (pattern : List (List ℕ)) (key : List ℤ) (steps : List Step) → IsOpen pattern key → IsOpen (pattern_from pattern steps) (open_key key steps)
IsOpen-from pattern key [] is = is
IsOpen-from pattern key (step ∷ steps) is = IsOpen-from (grown step.growth pattern step.item.0) (grown_key key step.growth step.item.0) steps
    (IsOpen-grown step.growth pattern step.item.0 key is)

-- the key of steps with its end is that of their pattern
pub closed-open_key : (steps : List Step) → 0 < length steps → closed (open_key [] steps) ≡ sequence_key (pattern_of steps)
closed-open_key steps some = by (IsOpen-from [] [] steps (inl (refl, refl)))
  where
    by : IsOpen (pattern_of steps) (open_key [] steps) → closed (open_key [] steps) ≡ sequence_key (pattern_of steps)
    by (inl none) = absurd (omega (arith, some, size-pattern_of steps, ap (λ (p : List (List ℕ)). sum_by length p) none.0))
    by (inr is) = closed-some (open_key [] steps) is.1 ∙ sym is.2

-- ---- a step put to steps and taken back

pub popped : (steps : List Step) (step : Step) (pushed left : List Step) (taken : Option Step) (n : ℕ) → pushed ≡ steps ++ step ∷ []
    → pushed ≡ left ++ option_to_list taken → n ≡ length pushed → IsSome taken ↔ (0 < n) → left ≡ steps
popped steps step pushed left None n is split size some =
    let more : 0 < n = omega (arith, size, ap length is, length-append steps (step ∷ [])) in
    absurd (false≢true (some.1 more))
popped steps step pushed left (Some last) n is split size some = (same_from_push left steps last step (sym split ∙ is)).0
