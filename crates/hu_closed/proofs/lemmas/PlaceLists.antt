-- The places of numbers, with one more.
use Rattle.std.proofs.Common.{◌≡◌, ◌∙◌, ℕ, ℤ, Bool, true, false, cond, Option, None, Some, List, [], ◌∷◌, ◌++◌, refl, sym, ap, unwrap_or}
use Rattle.std.specs.Map.{lookup, set_value}
use Rattle.std.specs.Option.{option_map_or}
use Rattle.std.specs.Ordering.{int_eq}
use Rattle.std.specs.declared.vec.Vec.{Vec}
use Rattle.std.specs.declared.alloc.Global.{Global}
use Rattle.std.proofs.lemmas.Bool.{false_from_ne_true}
use Rattle.std.proofs.lemmas.Bool.Decides.{Decides-int_eq}
use Rattle.indexmap.specs.IndexMap.{insert_entry}
use Rattle.hu_closed.specs.Places.{lists_in, places_at, with_place}

-- ---- what is found

-- a number that is one is not another
apart : (z n number : ℤ) → int_eq number n ≡ false → int_eq z n ≡ true → int_eq z number ≡ false
apart z n number other h = false_from_ne_true (int_eq z number) (λ e.
    let same = sym ((Decides-int_eq z number).0 e) ∙ (Decides-int_eq z n).0 h in
    let contrary = (Decides-int_eq number n).1 same in cc)

in-first : (b : Bool) (new old : List ℕ) (o : Option (List ℕ))
    → unwrap_or (cond b (Some new) o) [] ≡ cond b new (unwrap_or (cond b (Some old) o) [])
in-first true new old o = refl
in-first false new old o = refl

in-rest : (a b : Bool) (new old rest : List ℕ) (o : Option (List ℕ)) → (a ≡ true → b ≡ false) → unwrap_or o [] ≡ cond b new rest
    → unwrap_or (cond a (Some old) o) [] ≡ cond b new (cond a old rest)
in-rest true b new old rest o other ih = rw (other refl) refl
in-rest false b new old rest o other ih = ih

found : (a : Bool) (old : List ℕ) (o : Option (List ℕ)) → cond a old (unwrap_or o []) ≡ unwrap_or (cond a (Some old) o) []
found true old o = refl
found false old o = refl

places_at-insert : (lists : List (ℤ × List ℕ)) (number : ℤ) (new : List ℕ) (z : ℤ)
    → places_at (insert_entry int_eq lists number new) z ≡ cond (int_eq z number) new (places_at lists z)
places_at-insert [] number new z = alone (int_eq z number)
  where
    alone : (b : Bool) → unwrap_or (cond b (Some new) None) [] ≡ cond b new []
    alone true = refl
    alone false = refl
places_at-insert (e ∷ es) number new z = by (int_eq number e.0) refl (places_at-insert es number new z)
  where
    by : (b : Bool) → int_eq number e.0 ≡ b → places_at (insert_entry int_eq es number new) z ≡ cond (int_eq z number) new (places_at es z)
        → places_at (cond b ((e.0, new) ∷ es) (e ∷ insert_entry int_eq es number new)) z ≡ cond (int_eq z number) new (places_at (e ∷ es) z)
    by true h ih =
        in-first (int_eq z e.0) new e.1 (lookup (int_eq z) es)
        ∙ ap (λ n. cond (int_eq z n) new (places_at (e ∷ es) z)) (sym ((Decides-int_eq number e.0).0 h))
    by false h ih =
        in-rest (int_eq z e.0) (int_eq z number) new e.1 (places_at es z) (lookup (int_eq z) (insert_entry int_eq es number new)) (apart z e.0 number h) ih
        ∙ ap (cond (int_eq z number) new) (found (int_eq z e.0) e.1 (lookup (int_eq z) es))

pub places_at-with_place : (lists : List (ℤ × List ℕ)) (number : ℤ) (place : ℕ) (z : ℤ)
    → places_at (with_place lists number place) z ≡ cond (int_eq z number) (places_at lists z ++ place ∷ []) (places_at lists z)
places_at-with_place lists number place z = places_at-insert lists number (places_at lists number ++ place ∷ []) z ∙ by (int_eq z number) refl
  where
    by : (b : Bool) → int_eq z number ≡ b
        → cond b (places_at lists number ++ place ∷ []) (places_at lists z) ≡ cond b (places_at lists z ++ place ∷ []) (places_at lists z)
    by true h = ap (λ n. places_at lists n ++ place ∷ []) (sym ((Decides-int_eq z number).0 h))
    by false h = refl

-- ---- the lists of a map

pub places_at-in : (entries : List (ℤ × Vec ℕ Global)) (number : ℤ)
    → places_at (lists_in entries) number ≡ option_map_or (λ (list : Vec ℕ Global). list.items) (lookup (int_eq number) entries) []
places_at-in [] number = refl
places_at-in (e ∷ es) number = by (int_eq number e.0) (places_at-in es number)
  where
    by : (b : Bool) → places_at (lists_in es) number ≡ option_map_or (λ (list : Vec ℕ Global). list.items) (lookup (int_eq number) es) []
        → unwrap_or (cond b (Some e.1.items) (lookup (int_eq number) (lists_in es))) []
        ≡ option_map_or (λ (list : Vec ℕ Global). list.items) (cond b (Some e.1) (lookup (int_eq number) es)) []
    by true ih = refl
    by false ih = ih

lists_in-insert : (entries : List (ℤ × Vec ℕ Global)) (number : ℤ) (list : Vec ℕ Global)
    → lists_in (insert_entry int_eq entries number list) ≡ insert_entry int_eq (lists_in entries) number list.items
lists_in-insert [] number list = refl
lists_in-insert (e ∷ es) number list = by (int_eq number e.0) (lists_in-insert es number list)
  where
    by : (b : Bool) → lists_in (insert_entry int_eq es number list) ≡ insert_entry int_eq (lists_in es) number list.items
        → lists_in (cond b ((e.0, list) ∷ es) (e ∷ insert_entry int_eq es number list))
        ≡ cond b ((e.0, list.items) ∷ lists_in es) ((e.0, e.1.items) ∷ insert_entry int_eq (lists_in es) number list.items)
    by true ih = refl
    by false ih = ap (λ rest. (e.0, e.1.items) ∷ rest) ih

lists_in-set : (entries : List (ℤ × Vec ℕ Global)) (number : ℤ) (old list : Vec ℕ Global) → lookup (int_eq number) entries ≡ Some old
    → lists_in (set_value (int_eq number) entries list) ≡ insert_entry int_eq (lists_in entries) number list.items
lists_in-set [] number old list h = cc
lists_in-set (e ∷ es) number old list h = by (int_eq number e.0) (lists_in-set es number old list) h
  where
    by : (b : Bool) → (lookup (int_eq number) es ≡ Some old
        → lists_in (set_value (int_eq number) es list) ≡ insert_entry int_eq (lists_in es) number list.items)
        → cond b (Some e.1) (lookup (int_eq number) es) ≡ Some old
        → lists_in (cond b ((e.0, list) ∷ es) (e ∷ set_value (int_eq number) es list))
        ≡ cond b ((e.0, list.items) ∷ lists_in es) ((e.0, e.1.items) ∷ insert_entry int_eq (lists_in es) number list.items)
    by true ih k = refl
    by false ih k = ap (λ rest. (e.0, e.1.items) ∷ rest) (ih k)

-- a place more in the list of a number
pub with_place-set : (entries : List (ℤ × Vec ℕ Global)) (number : ℤ) (place : ℕ) (old list : Vec ℕ Global)
    → lookup (int_eq number) entries ≡ Some old → list.items ≡ old.items ++ place ∷ []
    → lists_in (set_value (int_eq number) entries list) ≡ with_place (lists_in entries) number place
with_place-set entries number place old list h is =
    let at = places_at-in entries number ∙ ap (λ o. option_map_or (λ (v : Vec ℕ Global). v.items) o []) h in
    lists_in-set entries number old list h
    ∙ ap (insert_entry int_eq (lists_in entries) number) (is ∙ ap (λ places. places ++ place ∷ []) (sym at))

-- a first one
pub with_place-insert : (entries : List (ℤ × Vec ℕ Global)) (number : ℤ) (place : ℕ) (list : Vec ℕ Global)
    → lookup (int_eq number) entries ≡ None → list.items ≡ place ∷ []
    → lists_in (insert_entry int_eq entries number list) ≡ with_place (lists_in entries) number place
with_place-insert entries number place list h is =
    let at = places_at-in entries number ∙ ap (λ o. option_map_or (λ (v : Vec ℕ Global). v.items) o []) h in
    lists_in-insert entries number list
    ∙ ap (insert_entry int_eq (lists_in entries) number) (is ∙ ap (λ places. places ++ place ∷ []) (sym at))

-- a list that is written back as it was
pub lists_in-kept : (entries : List (ℤ × Vec ℕ Global)) (number : ℤ) (old list : Vec ℕ Global) → lookup (int_eq number) entries ≡ Some old
    → list.items ≡ old.items → lists_in (set_value (int_eq number) entries list) ≡ lists_in entries
lists_in-kept [] number old list h same = cc
lists_in-kept (e ∷ es) number old list h same = by (int_eq number e.0) (λ k. lists_in-kept es number old list k same) h
  where
    by : (b : Bool) → (lookup (int_eq number) es ≡ Some old → lists_in (set_value (int_eq number) es list) ≡ lists_in es)
        → cond b (Some e.1) (lookup (int_eq number) es) ≡ Some old
        → lists_in (cond b ((e.0, list) ∷ es) (e ∷ set_value (int_eq number) es list)) ≡ lists_in (e ∷ es)
    by true ih k =
        let is : e.1 ≡ old = cc in
        ap (λ items. (e.0, items) ∷ lists_in es) (same ∙ ap (λ (v : Vec ℕ Global). v.items) (sym is))
    by false ih k = ap (λ rest. (e.0, e.1.items) ∷ rest) (ih k)
