-- A set whose items occur in a batch earns, is held and goes with items in what records share with the batch as in the records.
use Rattle.std.proofs.Common.{◌≡◌, ◌∙◌, ℕ, ◌<◌, ℤ, pos, ◌+ℤ◌, Bool, true, false, not, cond, ◌&&◌, ◌||◌, eqb, List, [], ◌∷◌, length, refl, sym, ap, inl, inr}
use Rattle.std.proofs.Common.{arith}
use Rattle.std.specs.List.{AllByRecursion}
use Rattle.std.proofs.lemmas.Bool.{and_parts, ne_eqb}
use Rattle.std.proofs.lemmas.Int.{ints}
use Rattle.std.proofs.lemmas.List.Sums.{sum_by-cons}
use Rattle.hu_kind.specs.Record.{has, holds, utility_in, value_of, values_of}
use Rattle.hu_kind.specs.Database.{support, utility}
use Rattle.hu_kind.specs.Itemsets.{goes_with, is_closed}
use Rattle.hu_kind.proofs.lemmas.Members.{Member, Member-from_filter, Member-from_flat_map, Member-from_map}
use Rattle.hu_kind.proofs.lemmas.Occurring.{counted, has-member, holds-none}
use Rattle.hu_kind.proofs.lemmas.Tests.{all-at_member, any-from_member}
use Rattle.hu_kept.specs.Shared.{occurs_in, shared, shared_cells, some_of}
use Rattle.hu_kept.proofs.Batches.{closed-at, closed-from, goes_with-append, inside, support-append, utility-append}

-- the items of a set occur in a batch
abbrev pub Occur : List (List (ℕ × ℤ)) → List ℕ → Type 0
Occur batch items = AllByRecursion (λ item. occurs_in batch item ≡ true) items

and_true : (b : Bool) → (b && true) ≡ b
and_true true = refl
and_true false = refl

module _ (batch : List (List (ℕ × ℤ))) where
  -- ---- cells

  apart : (item other : ℕ) → occurs_in batch item ≡ true → occurs_in batch other ≡ false → eqb item other ≡ false
  apart item other h k = ne_eqb item other (λ e. let same : true ≡ false = sym h ∙ ap (occurs_in batch) e ∙ k in cc)

  has-shared : (item : ℕ) (cells : List (ℕ × ℤ)) → occurs_in batch item ≡ true → has item (shared_cells batch cells) ≡ has item cells
  has-shared item [] h = refl
  has-shared item (cell ∷ cells) h = by (occurs_in batch cell.0) refl (has-shared item cells h)
    where
      by : (b : Bool) → occurs_in batch cell.0 ≡ b → has item (shared_cells batch cells) ≡ has item cells
          → has item (cond b (cell ∷ shared_cells batch cells) (shared_cells batch cells)) ≡ (eqb item cell.0 || has item cells)
      by true e ih = ap (λ found. eqb item cell.0 || found) ih
      by false e ih = let other = apart item cell.0 h e in rw other ih

  value_of-shared : (item : ℕ) (cells : List (ℕ × ℤ)) → occurs_in batch item ≡ true → value_of item (shared_cells batch cells) ≡ value_of item cells
  value_of-shared item [] h = refl
  value_of-shared item (cell ∷ cells) h = by (occurs_in batch cell.0) refl (value_of-shared item cells h)
    where
      by : (b : Bool) → occurs_in batch cell.0 ≡ b → value_of item (shared_cells batch cells) ≡ value_of item cells
          → value_of item (cond b (cell ∷ shared_cells batch cells) (shared_cells batch cells)) ≡ cond (eqb item cell.0) cell.1 (value_of item cells)
      by true e ih = ap (λ value. cond (eqb item cell.0) cell.1 value) ih
      by false e ih = let other = apart item cell.0 h e in rw other ih

  holds-shared : (items : List ℕ) (cells : List (ℕ × ℤ)) → Occur batch items → holds items (shared_cells batch cells) ≡ holds items cells
  holds-shared [] cells all = refl
  holds-shared (i ∷ is) cells all = (λ j. has-shared i cells all.0 j && holds-shared is cells all.1 j)

  values_of-shared : (items : List ℕ) (cells : List (ℕ × ℤ)) → Occur batch items → values_of items (shared_cells batch cells) ≡ values_of items cells
  values_of-shared [] cells all = refl
  values_of-shared (i ∷ is) cells all = (λ j. value_of-shared i cells all.0 j +ℤ values_of-shared is cells all.1 j)

  utility_in-shared : (items : List ℕ) (cells : List (ℕ × ℤ)) → Occur batch items → utility_in items (shared_cells batch cells) ≡ utility_in items cells
  utility_in-shared items cells all = (λ j. cond (holds-shared items cells all j) (values_of-shared items cells all j) (pos 0))

  -- the cells that are left have items of the batch
  shared-occurs : (item : ℕ) (cells : List (ℕ × ℤ)) → has item (shared_cells batch cells) ≡ true → occurs_in batch item ≡ true
  shared-occurs item cells h =
      let cell = Member-from_map (λ (c : ℕ × ℤ). c.0) item (shared_cells batch cells) (has-member item (shared_cells batch cells) h) in
      let both = Member-from_filter (λ (c : ℕ × ℤ). occurs_in batch c.0) cell.0 cells cell.1 in
      ap (occurs_in batch) (sym cell.2) ∙ both.1

  -- ---- records

  module _ (items : List ℕ) (some : 0 < length items) where
    utility-some : (cells : List (ℕ × ℤ)) → utility (some_of cells) items ≡ utility_in items cells
    utility-some [] = let none = holds-none items some in rw none refl
    utility-some (c ∷ cs) = omega (arith, ints)

    support-some : (cells : List (ℕ × ℤ)) → support (some_of cells) items ≡ cond (holds items cells) 1 0
    support-some [] = let none = holds-none items some in rw none refl
    support-some (c ∷ cs) = omega (arith, sum_by-cons (λ y. cond (holds items y) 1 0) (c ∷ cs) [])

    goes_with-some : (cells : List (ℕ × ℤ)) (i : ℕ) → goes_with (some_of cells) items i ≡ (not (holds items cells) || has i cells)
    goes_with-some [] i = let none = holds-none items some in rw none refl
    goes_with-some (c ∷ cs) i = and_true (not (holds items (c ∷ cs)) || has i (c ∷ cs))

    module _ (all : Occur batch items) where
      pub utility-shared : (records : List (List (ℕ × ℤ))) → utility (shared batch records) items ≡ utility records items
      utility-shared [] = refl
      utility-shared (r ∷ rs) =
          let first = some_of (shared_cells batch r) in
          let here = utility-some (shared_cells batch r) ∙ utility_in-shared items r all in
          let ih = utility-shared rs in
          omega (arith, ints, utility-append first (shared batch rs) items, here, ih)

      pub support-shared : (records : List (List (ℕ × ℤ))) → support (shared batch records) items ≡ support records items
      support-shared [] = refl
      support-shared (r ∷ rs) =
          let first = some_of (shared_cells batch r) in
          let here = support-some (shared_cells batch r) ∙ ap (λ b. cond b 1 0) (holds-shared items r all) in
          let ih = support-shared rs in
          omega (arith, support-append first (shared batch rs) items, sum_by-cons (λ y. cond (holds items y) 1 0) r rs, here, ih)

      goes_with-shared : (i : ℕ) → occurs_in batch i ≡ true → (records : List (List (ℕ × ℤ)))
          → goes_with (shared batch records) items i ≡ goes_with records items i
      goes_with-shared i h [] = refl
      goes_with-shared i h (r ∷ rs) =
          let first = some_of (shared_cells batch r) in
          goes_with-append first (shared batch rs) items i
          ∙ ap (λ b. b && goes_with (shared batch rs) items i) (goes_with-some (shared_cells batch r) i)
          ∙ (λ j. (not (holds-shared items r all j) || has-shared i r h j) && goes_with-shared i h rs j)

      -- what goes with the set there occurs in the batch
      some-is : (x cells : List (ℕ × ℤ)) → Member x (some_of cells) → cells ≡ x
      some-is x [] m = absurd m
      some-is x (c ∷ cs) (inl e) = e
      some-is x (c ∷ cs) (inr m) = absurd m

      shared-goes_with : (i : ℕ) (records : List (List (ℕ × ℤ))) → 0 < support (shared batch records) items
          → goes_with (shared batch records) items i ≡ true → occurs_in batch i ≡ true
      shared-goes_with i records held h =
          let found = counted (holds items) (shared batch records) held in
          let one : (not (holds items found.0) || has i found.0) ≡ true =
          all-at_member (λ r. not (holds items r) || has i r) found.0 (shared batch records) h found.1 in
          let here : has i found.0 ≡ true = rw (found.2) at one in
          let from = Member-from_flat_map (λ cells. some_of (shared_cells batch cells)) found.0 records found.1 in
          shared-occurs i from.0 (ap (has i) (some-is found.0 (shared_cells batch from.0) from.2) ∙ here)

  -- ---- sets of the batch

  pub Occur-held : (items : List ℕ) → 0 < support batch items → Occur batch items
  Occur-held items held = let found = counted (holds items) batch held in each found.0 found.1 items found.2
    where
      each : (r : List (ℕ × ℤ)) → Member r batch → (is : List ℕ) → holds is r ≡ true → Occur batch is
      each r m [] h = tt
      each r m (i ∷ is) h = let both = and_parts (has i r) (holds is r) h in (any-from_member (has i) r batch m both.0, each r m is both.1)

  module _ (items : List ℕ) (some : 0 < length items) (held : 0 < support batch items)
      (records : List (List (ℕ × ℤ))) (within : (r : List (ℕ × ℤ)) → Member r batch → Member r records) where
    occurring : Occur batch items
    occurring = Occur-held items held

    -- what goes with the set in all records occurs in the batch
    goes_with-occurs : (i : ℕ) → goes_with records items i ≡ true → occurs_in batch i ≡ true
    goes_with-occurs i h =
        let found = counted (holds items) batch held in
        let one : (not (holds items found.0) || has i found.0) ≡ true =
        all-at_member (λ r. not (holds items r) || has i r) found.0 records h (within found.0 found.1) in
        let here : has i found.0 ≡ true = rw (found.2) at one in
        any-from_member (has i) found.0 batch found.1 here

    module _ (occurs : 0 < support records items) where
      occurs' : 0 < support (shared batch records) items
      occurs' = omega (arith, support-shared items some occurring records, occurs)

      pub closed-shared : is_closed records items ≡ true → is_closed (shared batch records) items ≡ true
      closed-shared h = closed-from (shared batch records) items (λ i out. by i out (goes_with (shared batch records) items i) refl)
        where
          by : (i : ℕ) → inside i items ≡ false → (b : Bool) → goes_with (shared batch records) items i ≡ b → b ≡ false
          by i out false e = refl
          by i out true e =
              let here = shared-goes_with items some occurring i records occurs' e in
              let goes : goes_with records items i ≡ true = sym (goes_with-shared items some occurring i here records) ∙ e in
              let free = closed-at records items occurs h i out in
              cc

      pub closed-unshared : is_closed (shared batch records) items ≡ true → is_closed records items ≡ true
      closed-unshared h = closed-from records items (λ i out. by i out (goes_with records items i) refl)
        where
          by : (i : ℕ) → inside i items ≡ false → (b : Bool) → goes_with records items i ≡ b → b ≡ false
          by i out false e = refl
          by i out true e =
              let goes : goes_with (shared batch records) items i ≡ true = goes_with-shared items some occurring i (goes_with-occurs i e) records ∙ e in
              let free = closed-at (shared batch records) items occurs' h i out in
              cc
