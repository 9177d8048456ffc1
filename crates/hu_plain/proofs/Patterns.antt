-- The patterns that grow a prefix are, for each item that occurs after it, the item's own and those that grow it.
use Rattle.std.proofs.Common.{◌≡◌, ℕ, ◌<◌, Bool, true, false, cond, ℤ, pos, ◌+ℤ◌, List, [], ◌∷◌, map, length, refl, sym}
use Rattle.std.proofs.Common.{ap, ◌∙◌, subst, inl, inr, arith, append_assoc}
use Rattle.std.specs.List.{AllByRecursion}
use Rattle.std.proofs.lemmas.Int.{ints}
use Rattle.hu_kind.specs.declared.entry.Entry.{Entry}
use Rattle.hu_kind.specs.declared.item.Item.{Item}
use Rattle.hu_kind.specs.Record.{holds, items_in, values_of}
use Rattle.hu_kind.specs.Database.{support, utility}
use Rattle.hu_kind.specs.Itemsets.{occurring_sets, item_entry, item_patterns}
use Rattle.hu_kind.proofs.lemmas.Each.{each-weaker}
use Rattle.hu_kind.proofs.lemmas.Members.{Member, Member-map, Member-from_map, Member-from_contains, Contains-from_member}
use Rattle.hu_kind.proofs.lemmas.Occurring.{Occurs, Occurs-from_member, Member-from_occurs, counted, holds-members, at_member}
use Rattle.hu_plain.specs.Row.{Cells, RowOf, earned, tails, grown_entry, grown_patterns, grown_rows, key_with, IsGrowth, Grows, IsRising}
use Rattle.hu_plain.specs.View.{first_row}
use Rattle.hu_plain.specs.Grown.{AreItems}
use Rattle.hu_plain.proofs.Cut.{AllAbove}
use Rattle.hu_plain.proofs.Growth.{earned-grown_rows, support-grown_rows, above-grown_rows, support-none}
use Rattle.hu_plain.proofs.SoFar.{OfOne, AreWhole}

-- an entry is that of a set that grows a prefix just where the set occurs after it
pub record GrowsBy (prefix : List ℤ) (rows : List RowOf) (entry : Entry) : Type 0 where
  pub items : List ℕ
  pub occurs : Occurs (tails rows) items
  pub is : grown_entry prefix rows items ≡ entry

grows-by : (prefix : List ℤ) (rows : List RowOf) (entry : Entry) → Grows prefix rows entry → GrowsBy prefix rows entry
grows-by prefix rows entry c =
    let from = Member-from_map (grown_entry prefix rows) entry (occurring_sets (tails rows)) (Member-from_contains entry (grown_patterns prefix rows) c) in
    record { items = from.0; occurs = Occurs-from_member (tails rows) from.0 from.1; is = from.2 }

by-grows : (prefix : List ℤ) (rows : List RowOf) (entry : Entry) → GrowsBy prefix rows entry → Grows prefix rows entry
by-grows prefix rows entry by =
    subst (Grows prefix rows) by.is (Contains-from_member (grown_entry prefix rows by.items) (grown_patterns prefix rows)
    (Member-map (grown_entry prefix rows) by.items (occurring_sets (tails rows)) (Member-from_occurs (tails rows) by.items by.occurs)))

-- the entries that begin with an item
abbrev pub BeginsWith : List ℤ → List RowOf → Item → Entry → Type 0
BeginsWith prefix rows item = IsGrowth (key_with prefix item.0) (grown_rows item.0 rows)

module _ (prefix : List ℤ) (rows : List RowOf) (up : AllByRecursion IsRising rows) where
  -- a set that some grown row holds comes after the item
  above-held : (item : ℕ) (items : List ℕ) → 0 < support (tails (grown_rows item rows)) items → AllAbove item items
  above-held item items h =
      let found = counted (holds items) (tails (grown_rows item rows)) h in
      let row = Member-from_map (λ (r : RowOf). r.1) found.0 (grown_rows item rows) found.1 in
      let later = at_member (λ (r : RowOf). AllAbove item (items_in r.1)) row.0 (grown_rows item rows) (above-grown_rows item rows up) row.1 in
      let after : AllAbove item (items_in found.0) = subst (λ t. AllAbove item (items_in t)) row.2 later in
      each-weaker (λ i. Member i (items_in found.0)) (λ other. item < other) items
      (λ i m. at_member (λ other. item < other) i (items_in found.0) after m) (holds-members items found.0 found.2)

  -- the entry of the grown prefix with a set is that of the prefix with the item and the set
  entry-grown : (item : ℕ) (items : List ℕ) → AllAbove item items
      → grown_entry (key_with prefix item) (grown_rows item rows) items ≡ grown_entry prefix rows (item ∷ items)
  entry-grown item items above =
      let key = append_assoc prefix (pos item ∷ []) (map pos items) in
      let utility' = earned-grown_rows item items rows up above in
      let support' = support-grown_rows item items rows up above in
      cc

  -- an item occurs where some row grows by it
  occurs-alone : (item : ℕ) → support (tails rows) (item ∷ []) ≡ length (grown_rows item rows)
  occurs-alone item = sym (support-grown_rows item [] rows up tt) ∙ support-none (grown_rows item rows)

  grown-some : (item : ℕ) (items : List ℕ) → 0 < support (tails (grown_rows item rows)) items → 0 < length (grown_rows item rows)
  grown-some item items h = some (grown_rows item rows) h
    where
      some : (rs : List RowOf) → 0 < support (tails rs) items → 0 < length rs
      some [] h = absurd (omega arith)
      some (r ∷ rs) h = omega arith

  begins-grows : (item : Item) (entry : Entry) → 0 < length (grown_rows item.0 rows) → BeginsWith prefix rows item entry → Grows prefix rows entry
  begins-grows item entry some (inl own) = by-grows prefix rows entry (record {
    items = item.0 ∷ [];
    occurs = record { some = omega arith; ascending = (tt, tt); held = omega (arith, some, occurs-alone item.0) };
    is = sym (entry-grown item.0 [] tt) ∙ own;
  })
  begins-grows item entry some (inr grows) =
      let by = grows-by (key_with prefix item.0) (grown_rows item.0 rows) entry grows in
      let o = by.occurs in
      let above = above-held item.0 by.items o.held in
      by-grows prefix rows entry (record {
        items = item.0 ∷ by.items;
        occurs = record {
          some = omega arith;
          ascending = (above, o.ascending);
          held = subst (λ n. 0 < n) (support-grown_rows item.0 by.items rows up above) o.held;
        };
        is = sym (entry-grown item.0 by.items above) ∙ by.is;
      })

  -- each pattern that grows the prefix begins with an item that occurs
  grows-begins : (items : List Item) → AreItems rows items → (entry : Entry) → Grows prefix rows entry → OfOne (BeginsWith prefix rows) items entry
  grows-begins taken are entry grows = let by = grows-by prefix rows entry grows in from by.items by.occurs by.is
    where
      first : (item : Item) (some : 0 < length (grown_rows item.0 rows)) → BeginsWith prefix rows item entry → OfOne (BeginsWith prefix rows) taken entry
      first item some is = record { part = item; among = (are item).1 some; is = is }

      from : (items : List ℕ) → Occurs (tails rows) items → grown_entry prefix rows items ≡ entry → OfOne (BeginsWith prefix rows) taken entry
      from [] o is = absurd (omega (arith, o.some))
      from (item ∷ []) o is =
          first (record { 0 = item }) (subst (λ n. 0 < n) (occurs-alone item) o.held) (inl (entry-grown item [] tt ∙ is))
      from (item ∷ next ∷ more) o is =
          let items = next ∷ more in
          let up' = o.ascending in
          let held = subst (λ n. 0 < n) (sym (support-grown_rows item items rows up up'.0)) o.held in
          let occurs : Occurs (tails (grown_rows item rows)) items = record { some = omega arith; ascending = up'.1; held = held } in
          let by : GrowsBy (key_with prefix item) (grown_rows item rows) entry =
          record { items = items; occurs = occurs; is = entry-grown item items up'.0 ∙ is } in
          first (record { 0 = item }) (grown-some item items held) (inr (by-grows (key_with prefix item) (grown_rows item rows) entry by))

  pub begins-whole : (items : List Item) → AreItems rows items → AreWhole (BeginsWith prefix rows) (Grows prefix rows) items
  begins-whole items are = record {
    sound = λ entry of. begins-grows of.part entry ((are of.part).0 of.among) of.is;
    complete = grows-begins items are;
  }

-- the patterns of records are those that grow the empty prefix
earned-none : (records : List Cells) (items : List ℕ) → earned (map first_row records) items ≡ utility records items
earned-none [] items = refl
earned-none (r ∷ records) items =
    let first = same (holds items r) (values_of items r) in
    let rest = earned-none records items in
    cc
  where
    same : (b : Bool) (v : ℤ) → cond b (pos 0 +ℤ v) (pos 0) ≡ cond b v (pos 0)
    same true v = omega (arith, ints)
    same false v = refl

tails-none : (records : List Cells) → tails (map first_row records) ≡ records
tails-none [] = refl
tails-none (r ∷ records) = ap (λ rs. r ∷ rs) (tails-none records)

map-same : {A B : Type 0} (f g : A → B) (xs : List A) → ((x : A) → f x ≡ g x) → map f xs ≡ map g xs
map-same f g [] e = refl
map-same f g (x ∷ xs) e = let head = e x in let rest = map-same f g xs e in cc

pub item_patterns-grown : (records : List Cells) → grown_patterns [] (map first_row records) ≡ item_patterns records
item_patterns-grown records =
    rw (tails-none records) (map-same (grown_entry [] (map first_row records)) (item_entry records) (occurring_sets records) each)
  where
    each : (items : List ℕ) → grown_entry [] (map first_row records) items ≡ item_entry records items
    each items = let e = earned-none records items in let t = tails-none records in cc
