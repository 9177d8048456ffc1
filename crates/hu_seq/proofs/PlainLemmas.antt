-- The canonical line of a sequence is short, has no line feed, and begins with a digit.
use Rattle.std.proofs.Common.{◌≡◌, ℕ, ◌*◌, ◌<◌, ◌≤◌, ◌==◌, ℤ, false, List, [], ◌∷◌, ◌++◌, length, slice_index, sum_by, refl, arith, codes, decimal, flat_map}
use Rattle.std.specs.Fmt.{signed_decimal}
use Rattle.std.specs.Int.{IsInRange}
use Rattle.std.specs.List.{AllByRecursion, list_any}
use Rattle.std.proofs.lemmas.Bool.Decides.{nat_tests}
use Rattle.std.proofs.lemmas.List.{length-append}
use Rattle.std.proofs.lemmas.List.Sums.{sum_by-cons}
use Rattle.hu_kind.specs.Record.{absolute_of}
use Rattle.hu_kind.specs.Sequence.{IsSequence}
use Rattle.hu_kind.proofs.lemmas.Each.{each-append, each-get, each-left, each-right}
use Rattle.hu_seq.specs.Canonical.{cell_text, itemset_text, canonical_line, IsPlainLine}
use Rattle.hu_seq.proofs.CanonicalLemmas.{small-sequence, filled-sequence}
use Rattle.hu_seq.proofs.CanonicalShape.{AreFilled}
use Rattle.hu_seq.proofs.CanonicalTokens.{IsSmall, AreSmall, begins-append, cell-begins, cell-lacks}
use Rattle.hu_seq.proofs.lemmas.Firsts.{none-any}
use Rattle.hu_kind.proofs.lemmas.Written.{Lacks, written-decimal, length-item, length-value}

-- ---- a byte that stands in no text

space_other : (byte : ℕ) → byte < 32 → (32 == byte) ≡ false
space_other byte low = grind (arith, nat_tests)

spaced-lacks : (byte : ℕ) (cells : List (ℕ × ℤ)) → byte < 32 → AllByRecursion IsSmall cells → Lacks byte (flat_map (λ cell. cell_text cell ++ codes " ") cells)
spaced-lacks byte [] low small = tt
spaced-lacks byte (c ∷ cs) low small =
    each-append (λ b. (b == byte) ≡ false) (cell_text c ++ codes " ") (flat_map (λ cell. cell_text cell ++ codes " ") cs)
    (each-append (λ b. (b == byte) ≡ false) (cell_text c) (codes " ") (cell-lacks byte c small.0 (omega arith)) (space_other byte low, tt))
    (spaced-lacks byte cs low small.1)

itemsets-lack : (byte : ℕ) (elements : List (List (ℕ × ℤ))) → byte < 32 → Lacks byte (codes "-1 ") → AreSmall elements
    → Lacks byte (flat_map itemset_text elements)
itemsets-lack byte [] low ends small = tt
itemsets-lack byte (e ∷ es) low ends small =
    each-append (λ b. (b == byte) ≡ false) (itemset_text e) (flat_map itemset_text es)
    (each-append (λ b. (b == byte) ≡ false) (flat_map (λ cell. cell_text cell ++ codes " ") e) (codes "-1 ") (spaced-lacks byte e low small.0) ends)
    (itemsets-lack byte es low ends small.1)

pub canonical-lacks : (byte : ℕ) (elements : List (List (ℕ × ℤ))) → byte < 32 → list_any (λ b. b == byte) (codes "-1 -2 SUtility:") ≡ false
    → IsSequence elements → Lacks byte (canonical_line elements)
canonical-lacks byte elements low none rules =
    let marks = none-any (λ b. b == byte) (codes "-1 -2 SUtility:") none in
    let ends : Lacks byte (codes "-1 ") = each-left (λ b. (b == byte) ≡ false) (codes "-1 ") (codes "-2 SUtility:") marks in
    let last : Lacks byte (codes "-2 SUtility:") = each-right (λ b. (b == byte) ≡ false) (codes "-1 ") (codes "-2 SUtility:") marks in
    let sum = sum_by absolute_of elements in
    let P = λ (b : ℕ). (b == byte) ≡ false in
    let front = itemsets-lack byte elements low ends (small-sequence elements rules) in
    let ended = each-append P (flat_map itemset_text elements) (codes "-2 SUtility:") front last in
    each-append P (flat_map itemset_text elements ++ codes "-2 SUtility:") (decimal sum) ended
    ((written-decimal sum rules.sum_fits).low byte (omega arith))

-- ---- how long it is

length-cell : (cell : ℕ × ℤ) → IsSmall cell → length (cell_text cell ++ codes " ") ≤ 82
length-cell cell small =
    omega (
      arith,
      length-append (cell_text cell) (codes " "),
      length-append ((decimal cell.0 ++ codes "[") ++ signed_decimal cell.1) (codes "]"),
      length-append (decimal cell.0 ++ codes "[") (signed_decimal cell.1),
      length-append (decimal cell.0) (codes "["),
      length-item cell.0 small.item,
      length-value cell.1 small.value,
    )

length-spaced : (cells : List (ℕ × ℤ)) → AllByRecursion IsSmall cells → length (flat_map (λ cell. cell_text cell ++ codes " ") cells) ≤ 82 * length cells
length-spaced [] small = omega arith
length-spaced (c ∷ cs) small =
    omega (
      arith,
      length-append (cell_text c ++ codes " ") (flat_map (λ cell. cell_text cell ++ codes " ") cs),
      length-cell c small.0,
      length-spaced cs small.1,
    )

length-itemset : (cells : List (ℕ × ℤ)) → AllByRecursion IsSmall cells → 0 < length cells → length (itemset_text cells) ≤ 85 * length cells
length-itemset cells small some =
    omega (arith, length-append (flat_map (λ cell. cell_text cell ++ codes " ") cells) (codes "-1 "), length-spaced cells small)

length-itemsets : (elements : List (List (ℕ × ℤ))) → AreSmall elements → AreFilled elements
    → length (flat_map itemset_text elements) ≤ 85 * sum_by length elements
length-itemsets [] small filled = omega arith
length-itemsets (e ∷ es) small filled =
    omega (
      arith,
      length-append (itemset_text e) (flat_map itemset_text es),
      length-itemset e small.0 filled.0,
      length-itemsets es small.1 filled.1,
      sum_by-cons length e es,
    )

-- ---- how it begins

begins-itemset : (cells : List (ℕ × ℤ)) → 0 < length cells → AllByRecursion IsSmall cells → IsInRange 48 57 (slice_index (itemset_text cells) 0)
begins-itemset [] some small = absurd (omega (arith, some))
begins-itemset (c ∷ cs) some small =
    begins-append (flat_map (λ cell. cell_text cell ++ codes " ") (c ∷ cs)) (codes "-1 ")
    (begins-append (cell_text c ++ codes " ") (flat_map (λ cell. cell_text cell ++ codes " ") cs)
    (begins-append (cell_text c) (codes " ") (cell-begins c small.0)))

begins-itemsets : (elements : List (List (ℕ × ℤ))) → 0 < length elements → AreSmall elements → AreFilled elements
    → IsInRange 48 57 (slice_index (flat_map itemset_text elements) 0)
begins-itemsets [] some small filled = absurd (omega (arith, some))
begins-itemsets (e ∷ es) some small filled = begins-append (itemset_text e) (flat_map itemset_text es) (begins-itemset e filled.0 small.0)

pub IsPlainLine-canonical : (elements : List (List (ℕ × ℤ))) → IsSequence elements → IsPlainLine (canonical_line elements)
IsPlainLine-canonical elements rules =
    let small = small-sequence elements rules in
    let filled = filled-sequence elements rules in
    let sum = sum_by absolute_of elements in
    let front = flat_map itemset_text elements in
    let lacks = canonical-lacks 10 elements (omega arith) refl rules in
    record {
      short = omega (
        arith,
        length-append (front ++ codes "-2 SUtility:") (decimal sum),
        length-append front (codes "-2 SUtility:"),
        length-itemsets elements small filled,
        length-item sum rules.sum_fits,
        rules.few,
      );
      no_feed = λ k d within. each-get (λ b. (b == 10) ≡ false) (canonical_line elements) k d lacks within;
      begins =
          begins-append (front ++ codes "-2 SUtility:") (decimal sum)
          (begins-append front (codes "-2 SUtility:") (begins-itemsets elements rules.some small filled));
    }
