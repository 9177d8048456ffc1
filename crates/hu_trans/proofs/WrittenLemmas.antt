-- The canonical line of a record is short, has no line feed, and begins with a digit.
use Rattle.std.proofs.Common.{◌≡◌, ℕ, ◌+◌, ◌*◌, ◌<◌, ◌≤◌, ◌^◌, ◌==◌, ℤ, unsigned_abs, false, List, [], ◌∷◌, ◌++◌}
use Rattle.std.proofs.Common.{length, map, slice_index, refl, arith, decimal}
use Rattle.std.specs.Fmt.{signed_decimal}
use Rattle.std.specs.Int.{IsInRange}
use Rattle.std.specs.List.{All, join_with_byte}
use Rattle.std.proofs.lemmas.List.{length-map, length-append}
use Rattle.std.proofs.lemmas.List.Elements.{All-nil, All-cons, All-head, All-tail, All-append, All-map}
use Rattle.hu_kind.specs.Record.{total, IsRecord}
use Rattle.hu_trans.specs.Canonical.{canonical_line, IsPlainLine}
use Rattle.hu_trans.proofs.CanonicalLemmas.{values_small, total_within}
use Rattle.hu_kind.proofs.lemmas.Written.{length-item, length-value, decimal-begins}
use Rattle.hu_trans.proofs.NumeralLemmas.{Lacks, IsToken-decimal, IsToken-signed_decimal}

feed-join : (c : ℕ) (texts : List (List ℕ)) → (c == 10) ≡ false → All (Lacks 10) texts → Lacks 10 (join_with_byte c texts)
feed-join c [] other all = All-nil (λ b. (b == 10) ≡ false)
feed-join c (x ∷ []) other all = All-head (Lacks 10) x [] all
feed-join c (x ∷ y ∷ xs) other all =
    All-append (λ b. (b == 10) ≡ false) x (c ∷ join_with_byte c (y ∷ xs)) (All-head (Lacks 10) x (y ∷ xs) all)
    (All-cons (λ b. (b == 10) ≡ false) c (join_with_byte c (y ∷ xs)) other (feed-join c (y ∷ xs) other (All-tail (Lacks 10) x (y ∷ xs) all)))

length-join : (c most : ℕ) (texts : List (List ℕ)) → All (λ text. length text ≤ most) texts → length (join_with_byte c texts) ≤ (most + 1) * length texts
length-join c most [] all = omega arith
length-join c most (x ∷ []) all = omega (arith, All-head (λ (text : List ℕ). length text ≤ most) x [] all)
length-join c most (x ∷ y ∷ xs) all =
    omega (
      arith,
      All-head (λ (text : List ℕ). length text ≤ most) x (y ∷ xs) all,
      length-join c most (y ∷ xs) (All-tail (λ (text : List ℕ). length text ≤ most) x (y ∷ xs) all),
      length-append x (c ∷ join_with_byte c (y ∷ xs)),
    )

begins-append : (x more : List ℕ) → IsInRange 48 57 (slice_index x 0) → IsInRange 48 57 (slice_index (x ++ more) 0)
begins-append [] more h = absurd (omega (arith, h))
begins-append (b ∷ bs) more h = h

begins-join : (c : ℕ) (x : List ℕ) (xs : List (List ℕ)) → IsInRange 48 57 (slice_index x 0) → IsInRange 48 57 (slice_index (join_with_byte c (x ∷ xs)) 0)
begins-join c x [] h = h
begins-join c x (y ∷ ys) h = begins-append x (c ∷ join_with_byte c (y ∷ ys)) h

begins-items : (cells : List (ℕ × ℤ)) → 0 < length cells → All (λ cell. cell.0 < 2 ^ 127) cells
    → IsInRange 48 57 (slice_index (join_with_byte 32 (map (λ cell. decimal cell.0) cells)) 0)
begins-items [] some low = absurd (omega (arith, some))
begins-items (cell ∷ cells) some low =
    begins-join 32 (decimal cell.0) (map (λ (cell : ℕ × ℤ). decimal cell.0) cells)
    (decimal-begins cell.0 (All-head (λ (cell : ℕ × ℤ). cell.0 < 2 ^ 127) cell cells low))

pub IsPlainLine-canonical : (cells : List (ℕ × ℤ)) → IsRecord cells → IsPlainLine (canonical_line cells)
IsPlainLine-canonical cells rules =
    let item_texts = map (λ (cell : ℕ × ℤ). decimal cell.0) cells in
    let value_texts = map (λ (cell : ℕ × ℤ). signed_decimal cell.1) cells in
    let total_text = signed_decimal (total cells) in
    let small = values_small cells rules.sum_fits in
    let sum_small : unsigned_abs (total cells) < 2 ^ 127 = omega (arith, total_within cells, rules.sum_fits) in
    let low : All (λ cell. cell.0 < 2 ^ 127) cells = λ k d within. omega (arith, rules.itemset.in_range k d within) in
    let items_feed : All (Lacks 10) item_texts =
    All-map (Lacks 10) (λ cell. decimal cell.0) cells (λ k d within.
    (IsToken-decimal _ (low k d within)).no_feed) in
    let values_feed : All (Lacks 10) value_texts =
    All-map (Lacks 10) (λ cell. signed_decimal cell.1) cells
    (λ k d within. (IsToken-signed_decimal _ (small k d within)).no_feed) in
    let items_short =
    length-join 32 39 item_texts (All-map (λ text. length text ≤ 39) (λ cell. decimal cell.0) cells
    (λ k d within. length-item _ (low k d within))) in
    let values_short =
    length-join 32 40 value_texts (All-map (λ text. length text ≤ 40) (λ cell. signed_decimal cell.1) cells
    (λ k d within. length-value _ (small k d within))) in
    let first = join_with_byte 32 item_texts in
    let third = join_with_byte 32 value_texts in
    record {
      short = omega (
        arith,
        items_short,
        values_short,
        rules.few,
        length-map cells (λ (cell : ℕ × ℤ). decimal cell.0),
        length-map cells (λ (cell : ℕ × ℤ). signed_decimal cell.1),
        length-value (total cells) sum_small,
        length-append first (58 ∷ total_text ++ 58 ∷ third),
        length-append total_text (58 ∷ third),
      );
      no_feed =
          feed-join 58 (first ∷ total_text ∷ third ∷ []) refl
          (All-cons (Lacks 10) first (total_text ∷ third ∷ []) (feed-join 32 item_texts refl items_feed)
          (All-cons (Lacks 10) total_text (third ∷ []) (IsToken-signed_decimal (total cells) sum_small).no_feed
          (All-cons (Lacks 10) third [] (feed-join 32 value_texts refl values_feed) (All-nil (Lacks 10)))));
      begins = begins-join 58 first (total_text ∷ third ∷ []) (begins-items cells rules.itemset.some low);
    }
