-- Tokens in whose order there is no fault.
use Rattle.std.proofs.Common.{◌≡◌, ℕ, ◌+◌, ◌-◌, ◌<◌, ◌≤◌, Bool, true, false, not, ◌&&◌, ◌||◌, Option, None, Some, List, [], ◌∷◌, ◌++◌, refl, sym, ap, ◌∙◌}
use Rattle.std.proofs.Common.{length, take, drop, drop-cons, get_or, arith, suc, zero, subst}
use Rattle.std.specs.Bool.{then_some}
use Rattle.std.specs.List.{All, AllByRecursion, before_first, after_first, onto_first, slice_split, list_all, list_any, position, position_or_len}
use Rattle.std.specs.Option.{is_none, option_map_or}
use Rattle.std.proofs.lemmas.Bool.Decides.{nat_tests}
use Rattle.std.proofs.lemmas.List.{take-append-drop, length-take-le, get_or-take}
use Rattle.std.proofs.lemmas.List.Folds.{list_any_at}
use Rattle.std.proofs.lemmas.List.Quantifiers.{position-Some}
use Rattle.std.proofs.lemmas.List.Sums.{fails_before_first, list_all-from_AllPass}
use Rattle.std.proofs.lemmas.List.Elements.{All-from_recursion}
use Rattle.std.proofs.lemmas.List.Splits.{slice_split-cons_yes, slice_split-cons_no}
use Rattle.std.proofs.lemmas.Option.{slice_get-get_or}
use Rattle.std.proofs.lemmas.Bool.{or_parts}
use Rattle.hu_kind.specs.First.{first_some}
use Rattle.hu_seq.specs.declared.fault.SeqFault.{SeqFault}
use Rattle.hu_seq.specs.declared.fault.SeqFault.TheVariants.{NoEnd, AfterEnd, OpenItemset, EmptyItemset, NoItems}
use Rattle.hu_seq.specs.declared.token.Token.{Token}
use Rattle.hu_seq.specs.declared.token.Token.TheVariants.{Cell, ItemsetEnd, SequenceEnd, Total}
use Rattle.hu_seq.specs.Token.{is_cell, is_itemset_end, is_sequence_end, is_total}
use Rattle.hu_seq.specs.Reading.{cells, no_end, after_end, open_itemset, empty_itemset, no_items, body, first_is, last_is, has_two_ends, is_total_or_nothing}
use Rattle.hu_seq.specs.Reading.{order_faults}

-- a cell, or the end of an itemset
abbrev pub is_inner : Token → Bool
is_inner token = is_cell token || is_itemset_end token

-- cells and ends of itemsets, the last of these, the end of the sequence, and a total or nothing
pub record IsShaped (told : List Token) : Type 0 where
  pub rest : List Token
  pub is : told ≡ body told ++ ItemsetEnd ∷ SequenceEnd ∷ rest
  pub inner : list_all is_inner (body told) ≡ true
  pub after : is_total_or_nothing rest ≡ true
  pub first : first_is is_itemset_end told ≡ false
  pub apart : has_two_ends told ≡ false

five_none : {A : Type 0} (a b c d e : Option A) → first_some (a ∷ b ∷ c ∷ d ∷ e ∷ []) ≡ None → (a ≡ None) × (b ≡ None) × (c ≡ None) × (d ≡ None) × (e ≡ None)
five_none None None None None None h = (refl, refl, refl, refl, refl)
five_none (Some x) b c d e h = cc
five_none None (Some x) c d e h = cc
five_none None None (Some x) d e h = cc
five_none None None None (Some x) e h = cc
five_none None None None None (Some x) h = cc

pub then_none : (test : Bool) (fault : SeqFault) → then_some test fault ≡ None → test ≡ false
then_none true fault h = cc
then_none false fault h = refl

isn't : (a : Bool) → not a ≡ false → a ≡ true
isn't true h = refl
isn't false h = cc

-- where no element passes, none at a place does
pub not_any : {A : Type 0} (p : A → Bool) (xs : List A) (i : ℕ) (d : A) → i < length xs → list_any p xs ≡ false → p (get_or xs i d) ≡ false
not_any p xs i d within none = step (p (get_or xs i d)) refl
  where
    step : (b : Bool) → p (get_or xs i d) ≡ b → b ≡ false
    step true h = let some : list_any p xs ≡ true = list_any_at p xs i d within h in cc
    step false h = refl

itemset_end_is : (token : Token) → is_cell token ≡ false → is_total token ≡ false → is_sequence_end token ≡ false → token ≡ ItemsetEnd
itemset_end_is (Cell item value) a b c = cc
itemset_end_is ItemsetEnd a b c = refl
itemset_end_is SequenceEnd a b c = cc
itemset_end_is (Total sum) a b c = cc

sequence_end_is : (token : Token) → is_sequence_end token ≡ true → token ≡ SequenceEnd
sequence_end_is (Cell item value) h = cc
sequence_end_is ItemsetEnd h = cc
sequence_end_is SequenceEnd h = refl
sequence_end_is (Total sum) h = cc

inner_is : (token : Token) → is_total token ≡ false → is_sequence_end token ≡ false → is_inner token ≡ true
inner_is (Cell item value) a b = refl
inner_is ItemsetEnd a b = refl
inner_is SequenceEnd a b = cc
inner_is (Total sum) a b = cc

first_at : (test : Token → Bool) (told : List Token) (d : Token) → 0 < length told → first_is test told ≡ test (get_or told 0 d)
first_at test told d some = ap (λ o. option_map_or test o false) (slice_get-get_or told 0 d some)

last_at : (test : Token → Bool) (told : List Token) (n k : ℕ) (d : Token) → n ≡ k + 1 → n ≤ length told → last_is test (take n told) ≡ test (get_or told k d)
last_at test told n k d next within =
    let size : length (take n told) ≡ n = length-take-le n told within in
    let place : length (take n told) - 1 ≡ k = omega arith in
    rw place (ap (λ o. option_map_or test o false) (slice_get-get_or (take n told) k d (omega arith)) ∙ ap test (get_or-take n told k d (omega arith)))

-- the faults in the order of tokens that end at n, of which the last before the end stands at k
shaped_at : (told : List Token) (n k : ℕ) → position_or_len is_sequence_end told ≡ n → n ≡ k + 1 → n < length told
    → is_sequence_end (get_or told n ItemsetEnd) ≡ true
    → list_any is_total (take n told) ≡ false → is_total_or_nothing (drop (n + 1) told) ≡ true → last_is is_cell (take n told) ≡ false
    → first_is is_itemset_end told ≡ false → has_two_ends told ≡ false → IsShaped told
shaped_at told n k place next within ends totals after closed first apart =
    let before : (j : ℕ) (d : Token) → j < n → is_sequence_end (get_or told j d) ≡ false =
    λ j d below. fails_before_first is_sequence_end told j d (omega arith) in
    let size : length (take n told) ≡ n = length-take-le n told (omega arith) in
    let total_free : (j : ℕ) (d : Token) → j < n → is_total (get_or told j d) ≡ false =
    λ j d below. sym (ap is_total (get_or-take n told j d below)) ∙ not_any is_total (take n told) j d (omega arith) totals in
    let cell_free : is_cell (get_or told k ItemsetEnd) ≡ false = sym (last_at is_cell told n k ItemsetEnd next (omega arith)) ∙ closed in
    let last : get_or told k ItemsetEnd ≡ ItemsetEnd =
    itemset_end_is (get_or told k ItemsetEnd) cell_free (total_free k ItemsetEnd (omega arith))
    (before k ItemsetEnd (omega arith)) in
    let end : get_or told n ItemsetEnd ≡ SequenceEnd = sequence_end_is (get_or told n ItemsetEnd) ends in
    let here : position_or_len is_sequence_end told - 1 ≡ k = omega arith in
    let front : body told ≡ take k told = ap (λ m. take m told) here in
    let following : suc k ≡ n = omega arith in
    let beyond : suc n ≡ n + 1 = omega arith in
    let back : drop k told ≡ ItemsetEnd ∷ SequenceEnd ∷ drop (n + 1) told =
    drop-cons told k ItemsetEnd (omega arith)
    ∙ ap (λ token. token ∷ drop (suc k) told) last
    ∙ ap (λ m. ItemsetEnd ∷ drop m told) following
    ∙ ap (λ more. ItemsetEnd ∷ more) (drop-cons told n ItemsetEnd within)
    ∙ ap (λ token. ItemsetEnd ∷ token ∷ drop (suc n) told) end
    ∙ ap (λ m. ItemsetEnd ∷ SequenceEnd ∷ drop m told) beyond in
    record {
      rest = drop (n + 1) told;
      is = sym (take-append-drop k told) ∙ ap (λ more. take k told ++ more) back
          ∙ ap (λ part. part ++ ItemsetEnd ∷ SequenceEnd ∷ drop (n + 1) told) (sym front);
      inner = rw front (list_all-from_AllPass is_inner (take k told) (λ j d short.
          let below : j < k = omega (arith, length-take-le k told (omega arith)) in
          ap is_inner (get_or-take k told j d below) ∙ inner_is (get_or told j d) (total_free j d (omega arith)) (before j d (omega arith))));
      after = after;
      first = first;
      apart = apart;
    }

shaped_where : (told : List Token) (found : Option ℕ) → position is_sequence_end told ≡ found → is_none (position is_sequence_end told) ≡ false
    → (list_any is_total (before_first is_sequence_end told) || not (is_total_or_nothing (after_first is_sequence_end told))) ≡ false
    → last_is is_cell (before_first is_sequence_end told) ≡ false → (first_is is_itemset_end told || has_two_ends told)
    ≡ false → first_is is_sequence_end told ≡ false → IsShaped told
shaped_where told None is ended after closed empty some = let never : true ≡ false = sym (ap is_none is) ∙ ended in cc
shaped_where told (Some zero) is ended after closed empty some =
    let place = position-Some is_sequence_end told 0 ItemsetEnd is in
    let never : true ≡ false = sym place.1 ∙ sym (first_at is_sequence_end told ItemsetEnd place.0) ∙ some in
    cc
shaped_where told (Some (suc k)) is ended after closed empty some =
    let place = position-Some is_sequence_end told (suc k) ItemsetEnd is in
    let end : position_or_len is_sequence_end told ≡ suc k = grind (arith, nat_tests) in
    let totals = or_parts (list_any is_total (before_first is_sequence_end told)) (not (is_total_or_nothing (after_first is_sequence_end told))) after in
    let empties = or_parts (first_is is_itemset_end told) (has_two_ends told) empty in
    shaped_at told (suc k) k end (omega arith) place.0 place.1
    (sym (ap (λ n. list_any is_total (take n told)) end) ∙ totals.0)
    (sym (ap (λ n. is_total_or_nothing (drop (n + 1) told)) end) ∙ isn't (is_total_or_nothing (after_first is_sequence_end told)) totals.1)
    (sym (ap (λ n. last_is is_cell (take n told)) end) ∙ closed)
    empties.0 empties.1

pub IsShaped-from : (told : List Token) → first_some (order_faults told) ≡ None → IsShaped told
IsShaped-from told none =
    let each = five_none (no_end told) (after_end told) (open_itemset told) (empty_itemset told) (no_items told) none in
    shaped_where told (position is_sequence_end told) refl (then_none (is_none (position is_sequence_end told)) NoEnd each.0)
    (then_none (list_any is_total (before_first is_sequence_end told) || not (is_total_or_nothing (after_first is_sequence_end told))) AfterEnd each.1)
    (then_none (last_is is_cell (before_first is_sequence_end told)) OpenItemset each.2)
    (then_none (first_is is_itemset_end told || has_two_ends told) EmptyItemset each.3)
    (then_none (first_is is_sequence_end told) NoItems each.4)

-- no part is empty
abbrev AreFull : List (List Token) → Type 0
AreFull parts = AllByRecursion (λ part. 0 < length (cells part)) parts

-- no part is empty but perhaps the first
abbrev RestFull : List (List Token) → Type 0
RestFull [] = Unit {0}
RestFull (part ∷ parts) = AreFull parts

full_first : (token : Token) (part : List Token) → is_cell token ≡ true → 0 < length (cells (token ∷ part))
full_first (Cell item value) part h = omega arith
full_first ItemsetEnd part h = cc
full_first SequenceEnd part h = cc
full_first (Total sum) part h = cc

full_onto : (token : Token) (parts : List (List Token)) → is_cell token ≡ true → RestFull parts → AreFull (onto_first token parts)
full_onto token [] h rest = (full_first token [] h, tt)
full_onto token (part ∷ parts) h rest = (full_first token part h, rest)

rest_onto : (token : Token) (parts : List (List Token)) → RestFull parts → RestFull (onto_first token parts)
rest_onto token [] rest = tt
rest_onto token (part ∷ parts) rest = rest

both_true : (a b : Bool) → (a && b) ≡ true → (a ≡ true) × (b ≡ true)
both_true true b h = (refl, h)
both_true false b h = cc

cell_is : (token : Token) → is_inner token ≡ true → is_itemset_end token ≡ false → is_cell token ≡ true
cell_is (Cell item value) a b = refl
cell_is ItemsetEnd a b = cc
cell_is SequenceEnd a b = cc
cell_is (Total sum) a b = cc

-- where no two ends of itemsets stand side by side, no part is empty but perhaps the first; and not that one either, where no end stands first
full_parts : (front back : List Token) → list_all is_inner front ≡ true → has_two_ends (front ++ back) ≡ false → first_is is_itemset_end back ≡ true
    → RestFull (slice_split is_itemset_end front) × (first_is is_itemset_end (front ++ back) ≡ false → AreFull (slice_split is_itemset_end front))
full_parts [] back inner apart last = (tt, λ h. let never : true ≡ false = sym last ∙ h in cc)
full_parts (token ∷ front) back inner apart last =
    let kinds = both_true (is_inner token) (list_all is_inner front) inner in
    let ends = or_parts (is_itemset_end token && first_is is_itemset_end (front ++ back)) (has_two_ends (front ++ back)) apart in
    step (is_itemset_end token) refl kinds.0 ends.0 (full_parts front back kinds.1 ends.1 last)
  where
    step : (ends : Bool) → is_itemset_end token ≡ ends → is_inner token ≡ true → (is_itemset_end token && first_is is_itemset_end (front ++ back)) ≡ false
        → RestFull (slice_split is_itemset_end front) × (first_is is_itemset_end (front ++ back) ≡ false → AreFull (slice_split is_itemset_end front))
        → RestFull (slice_split is_itemset_end (token ∷ front)) × (is_itemset_end token ≡ false → AreFull (slice_split is_itemset_end (token ∷ front)))
    step true is kind alone more = (
      subst RestFull (sym (slice_split-cons_yes is_itemset_end token front is)) (more.1 (rw is at alone)),
      λ h. let never : true ≡ false = sym is ∙ h in cc,
    )
    step false is kind alone more =
        let split = sym (slice_split-cons_no is_itemset_end token front is) in (
          subst RestFull split (rest_onto token (slice_split is_itemset_end front) more.0),
          λ h. subst AreFull split (full_onto token (slice_split is_itemset_end front) (cell_is token kind is) more.0),
        )

pub IsShaped-full : (told : List Token) → IsShaped told → All (λ part. 0 < length (cells part)) (slice_split is_itemset_end (body told))
IsShaped-full told shape =
    let first : first_is is_itemset_end (body told ++ ItemsetEnd ∷ SequenceEnd ∷ shape.rest) ≡ false =
    sym (ap (first_is is_itemset_end) shape.is) ∙ shape.first in
    let apart : has_two_ends (body told ++ ItemsetEnd ∷ SequenceEnd ∷ shape.rest) ≡ false = sym (ap has_two_ends shape.is) ∙ shape.apart in
    let parts = full_parts (body told) (ItemsetEnd ∷ SequenceEnd ∷ shape.rest) shape.inner apart refl in
    All-from_recursion (λ part. 0 < length (cells part)) (slice_split is_itemset_end (body told)) (parts.1 first)
