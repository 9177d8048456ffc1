-- What holds of the cells of a body holds of its parts, of its itemsets and of the elements made of them.
use Rattle.std.proofs.Common.{◌≡◌, ℕ, ◌+◌, ℤ, pos, negsuc, ◌+ℤ◌, unsigned_abs, int_lt, Bool, true, false, cond, ◌||◌, Option, None, Some, List, [], ◌∷◌, ◌++◌}
use Rattle.std.proofs.Common.{map, refl, sym, ap, ◌∙◌, length, arith, sum_by}
use Rattle.std.specs.List.{AllZip, cons_option, count_by, flat_map, list_any, onto_first, slice_split}
use Rattle.std.specs.List.Sorted.{IsPermutation}
use Rattle.std.proofs.lemmas.List.Folds.{list_any-append}
use Rattle.std.proofs.lemmas.List.Concat.{length-flat_map}
use Rattle.std.proofs.lemmas.List.Sorted.{length_permutation, list_any-IsPermutation, sum_by-IsPermutation}
use Rattle.std.proofs.lemmas.List.Splits.{slice_split-cons_yes, slice_split-cons_no}
use Rattle.std.proofs.lemmas.List.Sums.{sum_by-cons, sum_by-append}
use Rattle.std.proofs.lemmas.Bool.{or_parts}
use Rattle.hu_kind.specs.Cells.{by_item, twice}
use Rattle.hu_kind.specs.Record.{items_in, total, absolute_of, any_negative}
use Rattle.hu_kind.specs.First.{first_some}
use Rattle.hu_seq.specs.declared.token.Token.{Token}
use Rattle.hu_seq.specs.declared.token.Token.TheVariants.{Cell, ItemsetEnd, SequenceEnd, Total}
use Rattle.hu_seq.specs.Token.{is_cell, is_itemset_end, is_out_of_range, is_negative, pair_in}
use Rattle.hu_seq.specs.Reading.{cells, itemsets, duplicate_item, is_total_or_nothing}
use Rattle.hu_seq.specs.Itemset.{IsOrdered}

-- ---- the parts of a body

or_assoc : (a b c : Bool) → ((a || b) || c) ≡ (a || (b || c))
or_assoc true b c = refl
or_assoc false b c = refl

or_false : (a : Bool) → (a || false) ≡ a
or_false true = refl
or_false false = refl

any-onto_first : (test : Token → Bool) (token : Token) (parts : List (List Token))
    → list_any (list_any test) (onto_first token parts) ≡ (test token || list_any (list_any test) parts)
any-onto_first test token [] = or_false (test token || false)
any-onto_first test token (part ∷ parts) = or_assoc (test token) (list_any test part) (list_any (list_any test) parts)

-- a test that no end of an itemset passes is passed in the parts where it is passed in the body
pub any-parts : (test : Token → Bool) → ((token : Token) → is_itemset_end token ≡ true → test token ≡ false)
    → (told : List Token) → list_any (list_any test) (slice_split is_itemset_end told) ≡ list_any test told
any-parts test ends [] = refl
any-parts test ends (token ∷ told) = step (is_itemset_end token) refl (any-parts test ends told)
  where
    step : (b : Bool) → is_itemset_end token ≡ b → list_any (list_any test) (slice_split is_itemset_end told)
        ≡ list_any test told → list_any (list_any test) (slice_split is_itemset_end (token ∷ told))
        ≡ (test token || list_any test told)
    step true is more =
        ap (list_any (list_any test)) (slice_split-cons_yes is_itemset_end token told is) ∙ more ∙ sym (ap (λ b. b || list_any test told) (ends token is))
    step false is more =
        ap (list_any (list_any test)) (slice_split-cons_no is_itemset_end token told is)
        ∙ any-onto_first test token (slice_split is_itemset_end told)
        ∙ ap (λ b. test token || b) more

pub end_in_range : (token : Token) → is_itemset_end token ≡ true → is_out_of_range token ≡ false
end_in_range (Cell item value) h = cc
end_in_range ItemsetEnd h = refl
end_in_range SequenceEnd h = refl
end_in_range (Total sum) h = refl

end_no_cell : (token : Token) → is_itemset_end token ≡ true → pair_in token ≡ None
end_no_cell (Cell item value) h = cc
end_no_cell ItemsetEnd h = refl
end_no_cell SequenceEnd h = refl
end_no_cell (Total sum) h = refl

onto_option : {A : Type 0} (o : Option A) (xs ys : List A) → cons_option o xs ++ ys ≡ cons_option o (xs ++ ys)
onto_option None xs ys = refl
onto_option (Some x) xs ys = refl

-- the sets of parts, joined
abbrev joined : List (List (ℕ × ℤ)) → List (ℕ × ℤ)
joined sets = flat_map (λ set. set) sets

cells-onto_first : (token : Token) (parts : List (List Token)) → joined (map cells (onto_first token parts))
    ≡ cons_option (pair_in token) (joined (map cells parts))
cells-onto_first token [] = onto_option (pair_in token) [] []
cells-onto_first token (part ∷ parts) = onto_option (pair_in token) (cells part) (joined (map cells parts))

-- the itemsets, joined, are all cells
joined-itemsets : (told : List Token) → joined (itemsets told) ≡ cells told
joined-itemsets [] = refl
joined-itemsets (token ∷ told) = step (is_itemset_end token) refl (joined-itemsets told)
  where
    step : (b : Bool) → is_itemset_end token ≡ b → joined (itemsets told) ≡ cells told
        → joined (itemsets (token ∷ told)) ≡ cons_option (pair_in token) (cells told)
    step true is more =
        ap (λ parts. joined (map cells parts)) (slice_split-cons_yes is_itemset_end token told is)
        ∙ more
        ∙ sym (ap (λ o. cons_option o (cells told)) (end_no_cell token is))
    step false is more =
        ap (λ parts. joined (map cells parts)) (slice_split-cons_no is_itemset_end token told is)
        ∙ cells-onto_first token (slice_split is_itemset_end told)
        ∙ ap (cons_option (pair_in token)) more

-- ---- sums over itemsets

sum_by-joined : (f : ℕ × ℤ → ℕ) (sets : List (List (ℕ × ℤ))) → sum_by (sum_by f) sets ≡ sum_by f (joined sets)
sum_by-joined f [] = refl
sum_by-joined f (set ∷ sets) = sum_by-cons (sum_by f) set sets ∙ ap (λ n. sum_by f set + n) (sum_by-joined f sets) ∙ sym (sum_by-append f set (joined sets))

any-joined : (test : ℕ × ℤ → Bool) (sets : List (List (ℕ × ℤ))) → list_any (list_any test) sets ≡ list_any test (joined sets)
any-joined test [] = refl
any-joined test (set ∷ sets) = ap (λ b. list_any test set || b) (any-joined test sets) ∙ sym (list_any-append test set (joined sets))

-- ---- the elements that are made of itemsets

-- what doesn't mind the order of cells is the same of elements as of itemsets
sum_by-ordered : (f : List (ℕ × ℤ) → ℕ) → ((xs ys : List (ℕ × ℤ)) → IsPermutation xs ys → f ys ≡ f xs)
    → (sets elements : List (List (ℕ × ℤ))) → AllZip IsOrdered sets elements → sum_by f elements ≡ sum_by f sets
sum_by-ordered f same [] [] h = refl
sum_by-ordered f same [] (e ∷ es) h = absurd h
sum_by-ordered f same (s ∷ ss) [] h = absurd h
sum_by-ordered f same (s ∷ ss) (e ∷ es) h =
    let first : f e ≡ f s = same s e h.0.permutation in
    omega (arith, sum_by-cons f e es, sum_by-cons f s ss, sum_by-ordered f same ss es h.1)

any-ordered : (test : ℕ × ℤ → Bool) (sets elements : List (List (ℕ × ℤ))) → AllZip IsOrdered sets elements
    → list_any (list_any test) elements ≡ list_any (list_any test) sets
any-ordered test [] [] h = refl
any-ordered test [] (e ∷ es) h = absurd h
any-ordered test (s ∷ ss) [] h = absurd h
any-ordered test (s ∷ ss) (e ∷ es) h =
    ap (λ b. b || list_any (list_any test) es) (sym (list_any-IsPermutation test s e h.0.permutation))
    ∙ ap (λ b. list_any test s || b) (any-ordered test ss es h.1)

-- the elements are the itemsets by item
pub ordered-value : (sets elements : List (List (ℕ × ℤ))) → AllZip IsOrdered sets elements → elements ≡ map by_item sets
ordered-value [] [] h = refl
ordered-value [] (e ∷ es) h = absurd h
ordered-value (s ∷ ss) [] h = absurd h
ordered-value (s ∷ ss) (e ∷ es) h = ap (λ x. x ∷ es) h.0.value ∙ ap (λ xs. by_item s ∷ xs) (ordered-value ss es h.1)

-- no item stands twice
none_twice : (sets elements : List (List (ℕ × ℤ))) → AllZip IsOrdered sets elements → first_some (map (λ set. twice (items_in set)) sets) ≡ None
none_twice [] [] h = refl
none_twice [] (e ∷ es) h = absurd h
none_twice (s ∷ ss) [] h = absurd h
none_twice (s ∷ ss) (e ∷ es) h = rw h.0.once (none_twice ss es h.1)

pub ordered-once : (sets elements : List (List (ℕ × ℤ))) → AllZip IsOrdered sets elements → duplicate_item sets ≡ None
ordered-once sets elements h = rw (none_twice sets elements h) refl

length-joined : (sets : List (List (ℕ × ℤ))) → sum_by length sets ≡ length (joined sets)
length-joined sets = sym (length-flat_map (λ set. set) sets)

pub ordered-length : (told : List Token) (elements : List (List (ℕ × ℤ))) → AllZip IsOrdered (itemsets told) elements
    → sum_by length elements ≡ length (cells told)
ordered-length told elements h =
    sum_by-ordered length (λ xs ys same. length_permutation xs ys same) (itemsets told) elements h
    ∙ length-joined (itemsets told)
    ∙ ap length (joined-itemsets told)

pub ordered-absolute : (told : List Token) (elements : List (List (ℕ × ℤ))) → AllZip IsOrdered (itemsets told) elements
    → sum_by absolute_of elements ≡ absolute_of (cells told)
ordered-absolute told elements h =
    sum_by-ordered absolute_of (λ xs ys same. sum_by-IsPermutation (λ cell. unsigned_abs cell.1) xs ys same) (itemsets told) elements h
    ∙ sum_by-joined (λ cell. unsigned_abs cell.1) (itemsets told)
    ∙ ap absolute_of (joined-itemsets told)

pub ordered-negative : (told : List Token) (elements : List (List (ℕ × ℤ))) → AllZip IsOrdered (itemsets told) elements
    → list_any any_negative elements ≡ any_negative (cells told)
ordered-negative told elements h =
    any-ordered (λ cell. int_lt cell.1 (pos 0)) (itemsets told) elements h
    ∙ any-joined (λ cell. int_lt cell.1 (pos 0)) (itemsets told)
    ∙ ap any_negative (joined-itemsets told)

pub ordered-some : (sets elements : List (List (ℕ × ℤ))) → AllZip IsOrdered sets elements → length elements ≡ length sets
ordered-some [] [] h = refl
ordered-some [] (e ∷ es) h = absurd h
ordered-some (s ∷ ss) [] h = absurd h
ordered-some (s ∷ ss) (e ∷ es) h = omega (arith, ordered-some ss es h.1)

-- ---- the cells among tokens

pub length-cells : (told : List Token) → length (cells told) ≡ count_by is_cell told
length-cells [] = refl
length-cells (Cell item value ∷ told) = omega (arith, sum_by-cons (λ token. cond (is_cell token) 1 0) (Cell item value) told, length-cells told)
length-cells (ItemsetEnd ∷ told) = omega (arith, sum_by-cons (λ token. cond (is_cell token) 1 0) ItemsetEnd told, length-cells told)
length-cells (SequenceEnd ∷ told) = omega (arith, sum_by-cons (λ token. cond (is_cell token) 1 0) SequenceEnd told, length-cells told)
length-cells (Total sum ∷ told) = omega (arith, sum_by-cons (λ token. cond (is_cell token) 1 0) (Total sum) told, length-cells told)

pub any_negative-cells : (told : List Token) → any_negative (cells told) ≡ list_any is_negative told
any_negative-cells [] = refl
any_negative-cells (Cell item value ∷ told) = ap (λ b. int_lt value (pos 0) || b) (any_negative-cells told)
any_negative-cells (ItemsetEnd ∷ told) = any_negative-cells told
any_negative-cells (SequenceEnd ∷ told) = any_negative-cells told
any_negative-cells (Total sum ∷ told) = any_negative-cells told

-- where no value is below 0, the sum of the values is that of their absolute values
pub total-absolute : (pairs : List (ℕ × ℤ)) → any_negative pairs ≡ false → total pairs ≡ pos (absolute_of pairs)
total-absolute [] h = refl
total-absolute ((item, pos n) ∷ pairs) h =
    ap (λ sum. pos n +ℤ sum) (total-absolute pairs (or_parts (int_lt (pos n) (pos 0)) (any_negative pairs) h).1)
    ∙ ap pos (sym (sum_by-cons (λ cell. unsigned_abs cell.1) (item, pos n) pairs))
total-absolute ((item, negsuc n) ∷ pairs) h = cc

-- no cell stands after the end
pub cells-after : (rest : List Token) → is_total_or_nothing rest ≡ true → cells rest ≡ []
cells-after [] h = refl
cells-after (Cell item value ∷ []) h = cc
cells-after (ItemsetEnd ∷ []) h = refl
cells-after (SequenceEnd ∷ []) h = refl
cells-after (Total sum ∷ []) h = refl
cells-after (token ∷ next ∷ rest) h = cc
