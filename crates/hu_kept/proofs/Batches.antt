-- What sets earn, how many records hold them and whether they are closed, with a batch of further records.
use Rattle.std.proofs.Common.{◌≡◌, ◌∙◌, ℕ, ◌+◌, ◌<◌, ℤ, pos, negsuc, ◌+ℤ◌, ◌≤ℤ◌, int_lt, Bool, true, false, not, cond, ◌&&◌, ◌||◌, eqb, List, [], ◌∷◌, ◌++◌}
use Rattle.std.proofs.Common.{refl, sym, arith, flat_map}
use Rattle.std.specs.List.{AllByRecursion, list_all, list_any}
use Rattle.std.proofs.lemmas.Bool.{and_from, or_parts}
use Rattle.std.proofs.lemmas.Int.{ints}
use Rattle.std.proofs.lemmas.List.Elements.{recursion_from_All}
use Rattle.std.proofs.lemmas.List.Folds.{list_all-append}
use Rattle.std.proofs.lemmas.List.Sums.{sum_by-append, sum_by-cons}
use Rattle.hu_kind.specs.Record.{any_negative, has, holds, items_in, utility_in, value_of, values_of}
use Rattle.hu_kind.specs.Database.{items_of, support, utility}
use Rattle.hu_kind.specs.Itemsets.{goes_with, is_closed}
use Rattle.hu_kind.proofs.lemmas.Members.{Member, Member-flat_map}
use Rattle.hu_kind.proofs.lemmas.Occurring.{Member-ranking, counted, has-member, utility-unheld}
use Rattle.hu_kind.proofs.lemmas.Tests.{all-at_member}
use Rattle.hu_kept.specs.Laws.{KeepsUntouched, KeepsClosedness, StaysClosed, NeverLoses}

-- ---- tests of all elements

all-from : {A : Type 0} (p : A → Bool) (xs : List A) → ((x : A) → p x ≡ true) → list_all p xs ≡ true
all-from p [] f = refl
all-from p (x ∷ xs) f = and_from (p x) (list_all p xs) (f x) (all-from p xs f)

-- ---- sums over both

pub support-append : (records batch : List (List (ℕ × ℤ))) (items : List ℕ) → support (records ++ batch) items ≡ support records items + support batch items
support-append records batch items = sum_by-append (λ r. cond (holds items r) 1 0) records batch

pub utility-append : (records batch : List (List (ℕ × ℤ))) (items : List ℕ) → utility (records ++ batch) items ≡ (utility records items +ℤ utility batch items)
utility-append [] batch items = omega (arith, ints)
utility-append (r ∷ rs) batch items = let ih = utility-append rs batch items in omega (arith, ints, ih)

pub goes_with-append : (records batch : List (List (ℕ × ℤ))) (items : List ℕ) (i : ℕ) → goes_with (records ++ batch) items i
    ≡ (goes_with records items i && goes_with batch items i)
goes_with-append records batch items i = list_all-append (λ r. not (holds items r) || has i r) records batch

-- ---- records that don't hold a set

unheld : (r : List (ℕ × ℤ)) (rs : List (List (ℕ × ℤ))) (items : List ℕ) → support (r ∷ rs) items ≡ 0 → (holds items r ≡ false) × (support rs items ≡ 0)
unheld r rs items h = by (holds items r) refl
  where
    by : (b : Bool) → holds items r ≡ b → (holds items r ≡ false) × (support rs items ≡ 0)
    by true e =
        let one : ◌≡◌ {A = ℕ} (cond (holds items r) 1 0) 1 = rw e refl in
        absurd (omega (arith, sum_by-cons (λ y. cond (holds items y) 1 0) r rs, one))
    by false e = (e, omega (arith, sum_by-cons (λ y. cond (holds items y) 1 0) r rs))

goes_with-unheld : (batch : List (List (ℕ × ℤ))) (items : List ℕ) (i : ℕ) → support batch items ≡ 0 → goes_with batch items i ≡ true
goes_with-unheld [] items i h = refl
goes_with-unheld (r ∷ rs) items i h =
    let none = unheld r rs items h in
    rw (none.0) (goes_with-unheld rs items i none.1)

pub keeps_untouched : KeepsUntouched
keeps_untouched records batch items h = (
  let nothing = utility-unheld batch items h in omega (arith, ints, utility-append records batch items, nothing),
  omega (arith, support-append records batch items),
)

-- ---- closed sets

-- an item of a set
abbrev pub inside : ℕ → List ℕ → Bool
inside i items = list_any (λ j. eqb i j) items

pub closed-from : (records : List (List (ℕ × ℤ))) (items : List ℕ)
    → ((i : ℕ) → inside i items ≡ false → goes_with records items i ≡ false) → is_closed records items ≡ true
closed-from records items f = all-from (λ i. inside i items || not (goes_with records items i)) (items_of records) (λ i. by i (inside i items) refl)
  where
    by : (i : ℕ) (b : Bool) → inside i items ≡ b → (inside i items || not (goes_with records items i)) ≡ true
    by i true e = rw e refl
    by i false e = rw (e, f i e) refl

-- an item that goes with a set that a record holds occurs
goes_with-occurs : (records : List (List (ℕ × ℤ))) (items : List ℕ) (i : ℕ) → 0 < support records items
    → goes_with records items i ≡ true → Member i (items_of records)
goes_with-occurs records items i held h =
    let found = counted (holds items) records held in
    let one : (not (holds items found.0) || has i found.0) ≡ true = all-at_member (λ r. not (holds items r) || has i r) found.0 records h found.1 in
    let here : has i found.0 ≡ true = rw (found.2) at one in
    Member-ranking i (flat_map items_in records) (Member-flat_map items_in found.0 i records found.1 (has-member i found.0 here))

pub closed-at : (records : List (List (ℕ × ℤ))) (items : List ℕ) → 0 < support records items → is_closed records items ≡ true
    → (i : ℕ) → inside i items ≡ false → goes_with records items i ≡ false
closed-at records items held closed i out = by (goes_with records items i) refl
  where
    by : (b : Bool) → goes_with records items i ≡ b → b ≡ false
    by false e = refl
    by true e =
        let one : (inside i items || not (goes_with records items i)) ≡ true =
        all-at_member (λ i. inside i items || not (goes_with records items i)) i (items_of records) closed
        (goes_with-occurs records items i held e) in
        let no : false ≡ true = rw (out, e) at one in
        cc

pub stays_closed : StaysClosed
stays_closed records batch items held closed =
    closed-from (records ++ batch) items (λ i out. let free =
    closed-at records items held closed i out in goes_with-append records batch items i ∙ rw free refl)

and_free : (a b : Bool) → b ≡ true → (a && b) ≡ false → a ≡ false
and_free true b h k = sym h ∙ k
and_free false b h k = refl

pub keeps_closedness : KeepsClosedness
keeps_closedness records batch items none held = by (is_closed records items) (is_closed (records ++ batch) items) refl refl
  where
    by : (a b : Bool) → is_closed records items ≡ a → is_closed (records ++ batch) items ≡ b → b ≡ a
    by true true e f = refl
    by false false e f = refl
    by true false e f = let closed = stays_closed records batch items held e in cc
    by false true e f =
        let more : 0 < support (records ++ batch) items = omega (arith, support-append records batch items) in
        let closed = closed-from records items (λ i out.
        let free = closed-at (records ++ batch) items more f i out in
        let all = goes_with-unheld batch items i none in
        let parts : (goes_with records items i && goes_with batch items i) ≡ false = sym (goes_with-append records batch items i) ∙ free in
        and_free (goes_with records items i) (goes_with batch items i) all parts) in
        cc

-- ---- values that are not below 0

not_below : (v : ℤ) → int_lt v (pos 0) ≡ false → pos 0 ≤ℤ v
not_below (pos n) k = omega (arith, ints)
not_below (negsuc n) k = cc

cond-least : (b : Bool) (v w : ℤ) → pos 0 ≤ℤ v → pos 0 ≤ℤ w → pos 0 ≤ℤ cond b v w
cond-least true v w h k = h
cond-least false v w h k = k

value_of-least : (item : ℕ) (cells : List (ℕ × ℤ)) → any_negative cells ≡ false → pos 0 ≤ℤ value_of item cells
value_of-least item [] h = omega (arith, ints)
value_of-least item (cell ∷ cells) h =
    let both = or_parts (int_lt cell.1 (pos 0)) (any_negative cells) h in
    cond-least (eqb item cell.0) cell.1 (value_of item cells) (not_below cell.1 both.0) (value_of-least item cells both.1)

values_of-least : (items : List ℕ) (cells : List (ℕ × ℤ)) → any_negative cells ≡ false → pos 0 ≤ℤ values_of items cells
values_of-least [] cells h = omega (arith, ints)
values_of-least (i ∷ is) cells h = let first = value_of-least i cells h in let rest = values_of-least is cells h in omega (arith, ints)

utility_in-least : (items : List ℕ) (cells : List (ℕ × ℤ)) → any_negative cells ≡ false → pos 0 ≤ℤ utility_in items cells
utility_in-least items cells h = cond-least (holds items cells) (values_of items cells) (pos 0) (values_of-least items cells h) (omega (arith, ints))

utility-least : (batch : List (List (ℕ × ℤ))) (items : List ℕ) → AllByRecursion (λ cells. any_negative cells ≡ false) batch → pos 0 ≤ℤ utility batch items
utility-least [] items all = omega (arith, ints)
utility-least (r ∷ rs) items all = let here = utility_in-least items r all.0 in let rest = utility-least rs items all.1 in omega (arith, ints)

pub never_loses : NeverLoses
never_loses records batch items none =
    let least = utility-least batch items (recursion_from_All _ batch none) in
    omega (arith, ints, utility-append records batch items, least)
