-- Ranks with a slot each, and lists that go along with them.
use Rattle.std.proofs.Common.{◌≡◌, ℕ, zero, suc, ◌<◌, Bool, true, false, cond, eqb, ◌||◌, List, [], ◌∷◌, ◌++◌, map, length, get_or, set, take, replicate}
use Rattle.std.proofs.Common.{inl, inr, refl, sym, ap, ◌∙◌, subst, arith, nat_eq}
use Rattle.std.specs.List.{IsDistinct}
use Rattle.std.specs.declared.vec.Vec.{Vec}
use Rattle.std.specs.declared.alloc.Global.{Global}
use Rattle.std.proofs.Math.Bool.{or-true}
use Rattle.std.proofs.lemmas.Bool.{ne_eqb, eq-eqb, cases_eq}
use Rattle.std.proofs.lemmas.List.{map-append}
use Rattle.hu_kind.specs.Order.{Ascend}
use Rattle.hu_kind.proofs.lemmas.Each.{each-get, each-weaker}
use Rattle.hu_totals.specs.Cells.{among}
use Rattle.hu_totals.specs.View.{lists_in}
use Rattle.hu_totals.proofs.lemmas.Lists.{lists-seen}
use Rattle.hu_search.specs.Slots.{IsPlace, at}

-- ---- ranks among others

both_false : (a b : Bool) → a || b ≡ false → (a ≡ false) × (b ≡ false)
both_false true b h = cc
both_false false b h = (refl, h)

pub among-at : (ranks : List ℕ) (i rank : ℕ) → i < length ranks → get_or ranks i 0 ≡ rank → among rank ranks ≡ true
among-at [] i rank within e = absurd (omega arith)
among-at (r ∷ ranks) zero rank within e = let here : eqb rank r ≡ true = eq-eqb rank r (sym e) in rw here refl
among-at (r ∷ ranks) (suc i) rank within e = let later = among-at ranks i rank (omega arith) e in rw later (or-true (eqb rank r))

-- in distinct ranks none stands before its place
pub distinct-before : (ranks : List ℕ) (i d : ℕ) → IsDistinct nat_eq ranks → i < length ranks → among (get_or ranks i d) (take i ranks) ≡ false
unfolding IsDistinct
distinct-before [] i d apart within = absurd (omega arith)
distinct-before (r ∷ ranks) zero d apart within = refl
distinct-before (r ∷ ranks) (suc i) d apart within =
    let ih = distinct-before ranks i d apart.1 (omega arith) in
    let no = each-get (λ y. eqb r y ≡ false) ranks i d apart.0 (omega arith) in
    let other : eqb (get_or ranks i d) r ≡ false =
    ne_eqb (get_or ranks i d) r (λ e. let same : eqb r (get_or ranks i d) ≡ true = eq-eqb r (get_or ranks i d) (sym e) in cc) in
    rw other ih

-- ascending ranks are distinct
pub Ascend-distinct : (ranks : List ℕ) → Ascend ranks → IsDistinct nat_eq ranks
unfolding IsDistinct
Ascend-distinct [] up = tt
Ascend-distinct (r ∷ ranks) up = (
  each-weaker (λ y. r < y) (λ y. eqb r y ≡ false) ranks (λ y low. ne_eqb r y (λ e. absurd (omega (arith, low, e)))) up.0,
  Ascend-distinct ranks up.1,
)

-- one of distinct ranks stands at one place alone
pub place-once : (ranks : List ℕ) (rank place i : ℕ) → IsDistinct nat_eq ranks → IsPlace ranks rank place → i < length ranks
    → get_or ranks i 0 ≡ rank → i ≡ place
unfolding IsDistinct
place-once [] rank place i apart is within e = absurd (omega arith)
place-once (r ∷ ranks) rank zero zero apart is within e = refl
place-once (r ∷ ranks) rank zero (suc i) apart is within e =
    let other = each-get (λ y. eqb r y ≡ false) ranks i 0 apart.0 (omega (arith, within)) in
    let same : eqb r (get_or ranks i 0) ≡ true = eq-eqb r (get_or ranks i 0) (is.here ∙ sym e) in
    cc
place-once (r ∷ ranks) rank (suc place) zero apart is within e =
    let first = both_false (eqb rank r) (among rank (take place ranks)) is.first in
    let same : eqb rank r ≡ true = eq-eqb rank r (sym e) in
    let other = first.0 in
    cc
place-once (r ∷ ranks) rank (suc place) (suc i) apart is within e =
    let first = both_false (eqb rank r) (among rank (take place ranks)) is.first in
    let low = is.within in
    ap suc (place-once ranks rank place i apart.1 (record { within = omega (arith, low); here = is.here; first = first.1 }) (omega (arith, within)) e)

-- ---- lists that go along with ranks

-- a rank apart from one has what it has
choose : {A : Type 0} (r rank z : ℕ) (w v x : A) → eqb rank r ≡ false → cond (eqb z r) w (cond (eqb z rank) v x) ≡ cond (eqb z rank) v (cond (eqb z r) w x)
choose r rank z w v x apart = elim (cases_eq z r) [
  | inl e ↦
      let here : eqb z r ≡ true = eq-eqb z r e in
      let other : eqb z rank ≡ false = ne_eqb z rank (λ f. let same : eqb rank r ≡ true = eq-eqb rank r (sym f ∙ e) in cc) in
      rw (here, other) refl
  | inr ne ↦ let other : eqb z r ≡ false = ne_eqb z r ne in rw other refl
]

pub at-set : {A : Type 0} (none : A) (ranks : List ℕ) (values : List A) (rank place : ℕ) (v : A) → IsPlace ranks rank place → place < length values
    → (z : ℕ) → at none ranks (set values place v) z ≡ cond (eqb z rank) v (at none ranks values z)
at-set none [] values rank place v is within z = let low = is.within in absurd (omega arith)
at-set none (r ∷ ranks) [] rank place v is within z = absurd (omega arith)
at-set none (r ∷ ranks) (w ∷ values) rank zero v is within z =
    subst (λ k. cond (eqb z r) v (at none ranks values z)
    ≡ cond (eqb z k) v (cond (eqb z r) w (at none ranks values z))) is.here (by (eqb z r))
  where
    by : (b : Bool) → cond b v (at none ranks values z) ≡ cond b v (cond b w (at none ranks values z))
    by true = refl
    by false = refl
at-set none (r ∷ ranks) (w ∷ values) rank (suc place) v is within z =
    let apart = both_false (eqb rank r) (among rank (take place ranks)) is.first in
    let low = is.within in
    let ih = at-set none ranks values rank place v (record { within = omega (arith, low); here = is.here; first = apart.1 }) (omega arith) z in
    ap (cond (eqb z r) w) ih ∙ choose r rank z w v (at none ranks values z) apart.0

pub at-push : {A : Type 0} (none : A) (ranks : List ℕ) (values : List A) (rank : ℕ) (v : A) → length values ≡ length ranks → among rank ranks ≡ false
    → (z : ℕ) → at none (ranks ++ rank ∷ []) (values ++ v ∷ []) z ≡ cond (eqb z rank) v (at none ranks values z)
at-push none [] [] rank v len fresh z = refl
at-push none [] (w ∷ values) rank v len fresh z = absurd (omega arith)
at-push none (r ∷ ranks) [] rank v len fresh z = absurd (omega arith)
at-push none (r ∷ ranks) (w ∷ values) rank v len fresh z =
    let apart = both_false (eqb rank r) (among rank ranks) fresh in
    ap (cond (eqb z r) w) (at-push none ranks values rank v (omega arith) apart.1 z) ∙ choose r rank z w v (at none ranks values z) apart.0

pub at-absent : {A : Type 0} (none : A) (ranks : List ℕ) (values : List A) (z : ℕ) → among z ranks ≡ false → at none ranks values z ≡ none
at-absent none [] values z fresh = refl
at-absent none (r ∷ ranks) [] z fresh = refl
at-absent none (r ∷ ranks) (w ∷ values) z fresh =
    let apart = both_false (eqb z r) (among z ranks) fresh in
    rw (apart.0) (at-absent none ranks values z apart.1)

pub at-place : {A : Type 0} (none : A) (ranks : List ℕ) (values : List A) (rank place : ℕ) → IsPlace ranks rank place
    → place < length values → at none ranks values rank ≡ get_or values place none
at-place none [] values rank place is within = let low = is.within in absurd (omega arith)
at-place none (r ∷ ranks) [] rank place is within = absurd (omega arith)
at-place none (r ∷ ranks) (w ∷ values) rank zero is within = let here : eqb rank r ≡ true = eq-eqb rank r (sym is.here) in rw here refl
at-place none (r ∷ ranks) (w ∷ values) rank (suc place) is within =
    let apart = both_false (eqb rank r) (among rank (take place ranks)) is.first in
    let low = is.within in
    rw (apart.0) (at-place none ranks values rank place (record { within = omega (arith, low); here = is.here; first = apart.1 }) (omega arith))

-- a rank that has a place is one of the ranks
pub place-among : (ranks : List ℕ) (rank place : ℕ) → IsPlace ranks rank place → among rank ranks ≡ true
place-among ranks rank place is = among-at ranks place rank is.within is.here

-- one place is changed by what stands there
pub changed_at : {A : Type 0} (f : ℕ → A) (change : A → A) (rank : ℕ) (v : A) → v ≡ change (f rank) → (z : ℕ)
    → cond (eqb z rank) v (f z) ≡ cond (eqb z rank) (change (f z)) (f z)
changed_at f change rank v is z = elim (cases_eq z rank) [
  | inl e ↦ let here : eqb z rank ≡ true = eq-eqb z rank e in rw here (is ∙ ap (λ r. change (f r)) (sym e))
  | inr ne ↦ let other : eqb z rank ≡ false = ne_eqb z rank ne in rw other refl
]

-- a list of one value has it everywhere
pub at-replicate : {A : Type 0} (none : A) (ranks : List ℕ) (n z : ℕ) → at none ranks (replicate n none) z ≡ none
at-replicate none [] n z = refl
at-replicate none (r ∷ ranks) zero z = refl
at-replicate none (r ∷ ranks) (suc n) z = ap (cond (eqb z r) none) (at-replicate none ranks n z) ∙ by (eqb z r)
  where
    by : (b : Bool) → cond b none none ≡ none
    by true = refl
    by false = refl

-- ---- lists that go along with ranks, seen through a map

at-map : {A B : Type 0} (f : A → B) (none : A) (ranks : List ℕ) (values : List A) (z : ℕ) → at (f none) ranks (map f values) z ≡ f (at none ranks values z)
at-map f none [] values z = refl
at-map f none (r ∷ ranks) [] z = refl
at-map f none (r ∷ ranks) (v ∷ values) z = ap (cond (eqb z r) (f v)) (at-map f none ranks values z) ∙ by (eqb z r)
  where
    by : (b : Bool) → cond b (f v) (f (at none ranks values z)) ≡ f (cond b v (at none ranks values z))
    by true = refl
    by false = refl

pub lists-at : {A B : Type 0} (f : A → B) (ranks : List ℕ) (lists : List (Vec A Global)) (z : ℕ)
    → at [] ranks (map (λ list. map f list.items) lists) z ≡ map f (at [] ranks (lists_in lists) z)
lists-at f ranks lists z = ap (λ ls. at [] ranks ls z) (lists-seen f lists) ∙ at-map (map f) [] ranks (lists_in lists) z

-- a list that may have a value more
pub added-seen : {A B : Type 0} (f : A → B) (ranks : List ℕ) (olds news : List (Vec A Global)) (more : Bool) (value : A) (z : ℕ)
    → at [] ranks (lists_in news) z ≡ cond more (at [] ranks (lists_in olds) z ++ value ∷ []) (at [] ranks (lists_in olds) z)
    → at [] ranks (map (λ list. map f list.items) news) z
    ≡ cond more (at [] ranks (map (λ list. map f list.items) olds) z ++ f value ∷ []) (at [] ranks (map (λ list. map f list.items) olds) z)
added-seen f ranks olds news more value z is =
    lists-at f ranks news z ∙ ap (map f) is ∙ by more (at [] ranks (lists_in olds) z)
    ∙ ap (λ seen. cond more (seen ++ f value ∷ []) seen) (sym (lists-at f ranks olds z))
  where
    by : (b : Bool) (xs : List _) → map f (cond b (xs ++ value ∷ []) xs) ≡ cond b (map f xs ++ f value ∷ []) (map f xs)
    by true xs = map-append f xs (value ∷ [])
    by false xs = refl
