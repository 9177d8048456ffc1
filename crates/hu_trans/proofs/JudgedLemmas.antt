-- What the numbers of a line say, fault by fault.
use Rattle.std.proofs.Common.{◌≡◌, ℕ, ◌+◌, ◌<◌, ◌≤◌, ◌^◌, ◌==◌, ℤ, Bool, true, false, not, nat_lt, Option, None, Some}
use Rattle.std.proofs.Common.{Ok, Err, List, [], ◌∷◌, ◌++◌, length, zip, position, refl, ap, ◌∙◌, arith}
use Rattle.std.specs.Bool.{then_some}
use Rattle.std.specs.List.{position_from, All, position_or_len}
use Rattle.std.specs.Option.{option_map, option_map_or, option_or}
use Rattle.std.specs.Ordering.{int_eq, is_eq}
use Rattle.std.proofs.lemmas.Bool.{eq-eqb}
use Rattle.std.proofs.lemmas.Cmp.{tied_itself, int_cmp_total}
use Rattle.std.proofs.lemmas.Iterator.Adapters.{position_from-zero}
use Rattle.std.proofs.lemmas.List.Elements.{All-head, All-tail}
use Rattle.std.proofs.lemmas.Bool.Decides.{nat_tests}
use Rattle.std.proofs.lemmas.List.Sums.{fails_before_first}
use Rattle.hu_kind.specs.Cells.{by_item, twice}
use Rattle.hu_kind.specs.Record.{absolute_of, total}
use Rattle.hu_kind.specs.First.{first_some}
use Rattle.hu_trans.specs.declared.fault.Fault.{Fault}
use Rattle.hu_trans.specs.declared.fault.Fault.TheVariants.{NoItems, TooManyItems, CountsDiffer, ItemOutOfRange, DuplicateItem, SumTooLarge}
use Rattle.hu_trans.specs.Reading.{no_items, too_many_items, counts_differ, item_out_of_range, duplicate_item}
use Rattle.hu_trans.specs.Reading.{sum_too_large, total_disagrees, number_faults, judged}

-- the faults of the items, but for one that stands twice, and those of the sums
abbrev pub item_faults : List ℕ → List ℤ → List (Option Fault)
item_faults items values = no_items items ∷ too_many_items items ∷ counts_differ items values ∷ item_out_of_range items ∷ []

abbrev pub sum_faults : ℤ → List (ℕ × ℤ) → List (Option Fault)
sum_faults sum cells = sum_too_large cells ∷ total_disagrees sum cells ∷ []

first-append : (xs ys : List (Option Fault)) → first_some (xs ++ ys) ≡ option_or (first_some xs) (first_some ys)
first-append [] ys = refl
first-append (None ∷ xs) ys = first-append xs ys
first-append (Some x ∷ xs) ys = refl

judged-first : (items : List ℕ) (sum : ℤ) (values : List ℤ) (first : Option Fault) → first_some (number_faults items sum values) ≡ first
    → judged items sum values ≡ option_map_or Err first (Ok (by_item (zip items values)))
judged-first items sum values first h = ap (λ fault. option_map_or Err fault (Ok (by_item (zip items values)))) h

split_faults : (items : List ℕ) (sum : ℤ) (values : List ℤ) (first : Option Fault) → first_some (item_faults items values) ≡ first
    → first_some (number_faults items sum values) ≡ option_or first (first_some (duplicate_item items ∷ sum_faults sum (zip items values)))
split_faults items sum values first h =
    first-append (item_faults items values) (duplicate_item items ∷ sum_faults sum (zip items values))
    ∙ ap (λ fault. option_or fault (first_some (duplicate_item items ∷ sum_faults sum (zip items values)))) h

after_items : (items : List ℕ) (sum : ℤ) (values : List ℤ) (double : Option ℕ) → first_some (item_faults items values) ≡ None → twice items ≡ double
    → first_some (number_faults items sum values) ≡ first_some
    (option_map (λ item. DuplicateItem (record { 0 = item })) double ∷ sum_faults sum (zip items values))
after_items items sum values double h d =
    split_faults items sum values None h
    ∙ ap (λ found. first_some (option_map (λ item. DuplicateItem (record { 0 = item })) found ∷ sum_faults sum (zip items values))) d

pub judged-twice : (items : List ℕ) (sum : ℤ) (values : List ℤ) (item : ℕ) → first_some (item_faults items values) ≡ None → twice items ≡ Some item
    → judged items sum values ≡ Err (DuplicateItem (record { 0 = item }))
judged-twice items sum values item h d =
    judged-first items sum values (Some (DuplicateItem (record { 0 = item }))) (after_items items sum values (Some item) h d)

pub judged-sums : (items : List ℕ) (sum : ℤ) (values : List ℤ) (first : Option Fault) → first_some (item_faults items values) ≡ None → twice items ≡ None
    → first_some (sum_faults sum (zip items values)) ≡ first → judged items sum values ≡ option_map_or Err first (Ok (by_item (zip items values)))
judged-sums items sum values first h d s = judged-first items sum values first (after_items items sum values None h d ∙ s)

none-first : (first : Option Fault) (rest : List (Option Fault)) → first_some (first ∷ rest) ≡ None → (first ≡ None) × (first_some rest ≡ None)
none-first None rest h = (refl, h)
none-first (Some x) rest h = absurd (cc)

then_none : (test : Bool) (fault : Fault) → then_some test fault ≡ None → test ≡ false
then_none true fault h = absurd (cc)
then_none false fault h = refl

map_none : {A : Type 0} (f : A → Fault) (found : Option A) → option_map f found ≡ None → found ≡ None
map_none f None h = refl
map_none f (Some x) h = absurd (cc)

-- items and values without one of the first faults
pub record AreFine (items : List ℕ) (values : List ℤ) : Type 0 where
  pub some : 0 < length items
  pub few : length items ≤ 4096
  pub same : length items ≡ length values
  pub in_range : All (λ item. item ≤ 2147483647) items

range_from_none : (items : List ℕ) → position (λ item. nat_lt 2147483647 item) items ≡ None → All (λ item. item ≤ 2147483647) items
range_from_none items none k d within =
    let far : length items ≤ position_or_len (λ item. nat_lt 2147483647 item) items = grind (arith, nat_tests) in
    let fails = fails_before_first (λ item. nat_lt 2147483647 item) items k d (omega arith) in
    grind (arith, nat_tests)

pub AreFine-from_none : (items : List ℕ) (values : List ℤ) → first_some (item_faults items values) ≡ None → AreFine items values
AreFine-from_none items values h =
    let a = none-first (no_items items) (too_many_items items ∷ counts_differ items values ∷ item_out_of_range items ∷ []) h in
    let b = none-first (too_many_items items) (counts_differ items values ∷ item_out_of_range items ∷ []) a.1 in
    let c = none-first (counts_differ items values) (item_out_of_range items ∷ []) b.1 in
    let d = none-first (item_out_of_range items) [] c.1 in
    let some = then_none (length items == 0) NoItems a.0 in
    let few = then_none (nat_lt 4096 (length items)) (TooManyItems (length items)) b.0 in
    let same = then_none (not (length items == length values)) (CountsDiffer (length items) (length values)) c.0 in
    record {
      some = grind (arith, nat_tests);
      few = grind (arith, nat_tests);
      same = grind (arith, nat_tests);
      in_range = range_from_none items (map_none (λ k. ItemOutOfRange (k + 1)) (position (λ item. nat_lt 2147483647 item) items) d.0);
    }

pub small_from_none : (sum : ℤ) (cells : List (ℕ × ℤ)) → first_some (sum_faults sum cells) ≡ None → absolute_of cells < 2 ^ 127
small_from_none sum cells h =
    let a = none-first (sum_too_large cells) (total_disagrees sum cells ∷ []) h in
    let small = then_none (not (nat_lt (absolute_of cells) (2 ^ 127))) SumTooLarge a.0 in
    grind (arith, nat_tests)

none_past : (at : ℕ) (items : List ℕ) → All (λ item. item ≤ 2147483647) items → position_from (λ item. nat_lt 2147483647 item) at items ≡ None
none_past at [] h = refl
none_past at (x ∷ xs) h =
    let below : x ≤ 2147483647 = All-head (λ item. item ≤ 2147483647) x xs h in
    let fails : nat_lt 2147483647 x ≡ false = grind (arith, nat_tests) in
    rw fails (none_past (at + 1) xs (All-tail (λ item. item ≤ 2147483647) x xs h))

none_from_range : (items : List ℕ) → All (λ item. item ≤ 2147483647) items → position (λ item. nat_lt 2147483647 item) items ≡ None
none_from_range items h = position_from-zero (λ item. nat_lt 2147483647 item) items ∙ none_past 0 items h

-- items and values that have none of these faults
pub item_faults-none : (items : List ℕ) (values : List ℤ) → AreFine items values → first_some (item_faults items values) ≡ None
item_faults-none items values fine =
    let some : (length items == 0) ≡ false = grind (arith, nat_tests, fine.some) in
    let few : nat_lt 4096 (length items) ≡ false = grind (arith, nat_tests, fine.few) in
    let same : (length items == length values) ≡ true = eq-eqb (length items) (length values) fine.same in
    let range : position (λ item. nat_lt 2147483647 item) items ≡ None = none_from_range items fine.in_range in
    rw (some, few, same, range) refl

pub sum_faults-none : (cells : List (ℕ × ℤ)) → absolute_of cells < 2 ^ 127 → first_some (sum_faults (total cells) cells) ≡ None
sum_faults-none cells small =
    let fits : nat_lt (absolute_of cells) (2 ^ 127) ≡ true = grind (arith, nat_tests) in
    let same : int_eq (total cells) (total cells) ≡ true = ap is_eq (tied_itself int_cmp_total (total cells)) in
    rw (fits, same) refl
