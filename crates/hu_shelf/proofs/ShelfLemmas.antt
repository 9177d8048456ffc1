-- Stores with further records.
use Rattle.std.proofs.Common.{◌≡◌, ℕ, ◌+◌, ◌<◌, ◌≤◌, ◌^◌, ℤ, pos, negsuc, ◌≤ℤ◌, unsigned_abs, Bool, true, false, Option}
use Rattle.std.proofs.Common.{None, Some, List, [], ◌∷◌, ◌++◌, length, codes, refl, ap, sym, ◌∙◌, append_assoc, arith}
use Rattle.std.proofs.Common.{nat_lt, nat_le}
use Rattle.std.specs.List.{All}
use Rattle.std.proofs.lemmas.Bool.{and_from, le-leb, lt-leb, lt-ltb, le-ltb}
use Rattle.std.proofs.lemmas.Grind.{flat_map-append}
use Rattle.std.proofs.lemmas.List.Elements.{All-append, All-nil}
use Rattle.std.proofs.lemmas.List.{length-append}
use Rattle.std.proofs.lemmas.Int.{ints}
use Rattle.std.specs.Fmt.{signed_decimal}
use Rattle.std.specs.Prelude.{IfSome}
use Rattle.hu_kind.proofs.lemmas.Written.{length-item}
use Rattle.std.proofs.lemmas.List.Sums.{sum_by-append}
use Rattle.hu_kind.specs.Record.{absolute_of}
use Rattle.hu_kept.specs.Kept.{Keeping, fresh, with_batch}
use Rattle.hu_shelf.specs.declared.fault.ShelfFault.TheVariants.{SumTooLarge, TooLarge}
use Rattle.hu_shelf.specs.Shelf.{IsShelf, absolute_sum, add_fault}
use Rattle.hu_shelf.specs.Store.{IsStore, IsWritten, is_least, is_top, record_text, records_text, settings_line, store_text, task_word, top_word}
use Rattle.hu_shelf.proofs.lemmas.StoreLemmas.{lawful_by, limits_of}

pub sum-with : (s : Keeping) (batch : List (List (ℕ × ℤ))) → absolute_sum (s.records ++ batch) ≡ absolute_sum s.records + absolute_sum batch
sum-with s batch = sum_by-append absolute_of s.records batch

pub text-with : (s : Keeping) (batch : List (List (ℕ × ℤ))) → store_text (with_batch s batch) ≡ store_text s ++ records_text batch
text-with s batch =
    let head = codes "hupm shelf 1\n" in
    ap (λ records. head ++ (settings_line s ++ (10 ∷ records))) (flat_map-append record_text s.records batch)
    ∙ ap (λ more. head ++ more) (sym (append_assoc (settings_line s) (10 ∷ records_text s.records) (records_text batch)))
    ∙ sym (append_assoc head (settings_line s ++ 10 ∷ records_text s.records) (records_text batch))

pub add_fault-large : (s : Keeping) (batch : List (List (ℕ × ℤ))) → 2 ^ 127 ≤ absolute_sum s.records + absolute_sum batch
    → add_fault s batch ≡ Some (SumTooLarge (pos (absolute_sum s.records)) (pos (absolute_sum batch)))
add_fault-large s batch large = rw (le-leb (2 ^ 127) (absolute_sum s.records + absolute_sum batch) large) refl

pub add_fault-long : (s : Keeping) (batch : List (List (ℕ × ℤ))) → absolute_sum s.records + absolute_sum batch < 2 ^ 127
    → 268435456 < length (store_text (with_batch s batch)) → add_fault s batch ≡ Some TooLarge
add_fault-long s batch fits long =
    rw (lt-leb (2 ^ 127) (absolute_sum s.records + absolute_sum batch) fits) (rw (lt-ltb 268435456 (length (store_text (with_batch s batch))) long) refl)

pub add_fault-none : (s : Keeping) (batch : List (List (ℕ × ℤ))) → absolute_sum s.records + absolute_sum batch < 2 ^ 127
    → length (store_text (with_batch s batch)) ≤ 268435456 → add_fault s batch ≡ None
add_fault-none s batch fits short =
    rw (lt-leb (2 ^ 127) (absolute_sum s.records + absolute_sum batch) fits) (rw (le-ltb 268435456 (length (store_text (with_batch s batch))) short) refl)

pub IsStore-with : (s : Keeping) (batch : List (List (ℕ × ℤ))) → IsStore s → All IsWritten batch → absolute_sum s.records + absolute_sum batch < 2 ^ 127
    → length (store_text (with_batch s batch)) ≤ 268435456 → IsStore (with_batch s batch)
IsStore-with s batch store written fits short =
    let limits = limits_of s (store_text s) store.lawful in
    record {
      records = All-append IsWritten s.records batch store.records written;
      lawful = lawful_by (with_batch s batch) (store_text (with_batch s batch)) (record {
        least = limits.least;
        top = limits.top;
        sum = omega (arith, sum-with s batch, fits);
        short = short;
      });
    }

pub IsStore-by : (s : Keeping) → All IsWritten s.records → is_least s.least ≡ true → is_top s.top ≡ true → absolute_sum s.records < 2 ^ 127
    → length (store_text s) ≤ 268435456 → IsStore s
IsStore-by s written least top fits short = record {
  records = written;
  lawful = lawful_by s (store_text s) (record { least = least; top = top; sum = fits; short = short });
}

-- the text of a store with the lines of a batch
pub text-pushed : (s : Keeping) (batch : List (List (ℕ × ℤ))) (text new : List ℕ) → text ≡ store_text s → new ≡ text ++ records_text batch
    → new ≡ store_text (with_batch s batch)
text-pushed s batch text new is pushed = pushed ∙ ap (λ front. front ++ records_text batch) is ∙ sym (text-with s batch)

-- a shelf's fields after a batch
pub record IsAppended (s : Keeping) (batch : List (List (ℕ × ℤ))) (bytes : List ℕ) : Type 0 where
  pub written : All IsWritten batch
  pub fits : absolute_sum s.records + absolute_sum batch < 2 ^ 127
  pub text : bytes ≡ store_text (with_batch s batch)

pub appended_too_long : (s : Keeping) (batch : List (List (ℕ × ℤ))) (bytes : List ℕ) → IsAppended s batch bytes
    → 268435456 < length bytes → add_fault s batch ≡ Some TooLarge
appended_too_long s batch bytes is long = add_fault-long s batch is.fits (omega (arith, ap length is.text))

pub appended_none : (s : Keeping) (batch : List (List (ℕ × ℤ))) (bytes : List ℕ) → IsAppended s batch bytes
    → length bytes ≤ 268435456 → add_fault s batch ≡ None
appended_none s batch bytes is short = add_fault-none s batch is.fits (omega (arith, ap length is.text))

pub appended_shelf : (s new : Keeping) (batch : List (List (ℕ × ℤ))) (bytes : List ℕ) (sum : ℤ) (closed : Bool) → IsStore s → IsAppended s batch bytes
    → length bytes ≤ 268435456 → new ≡ with_batch s batch → sum ≡ pos (absolute_sum s.records + absolute_sum batch) → closed ≡ s.closed
    → IsShelf new bytes sum closed
appended_shelf s new batch bytes sum closed store is short with total only =
    rw with (record {
      store = IsStore-with s batch store is.written is.fits (omega (arith, ap length is.text));
      text = is.text;
      sum = total ∙ ap pos (sym (sum-with s batch));
      closed = only;
    })

-- the fields after a batch, by what the calls ensure
pub appended_by : (s : Keeping) (batch records : List (List (ℕ × ℤ))) (before : ℤ) (text new : List ℕ)
    → before ≡ pos (absolute_sum s.records) → text ≡ store_text s
    → unsigned_abs before + absolute_sum batch < 2 ^ 127 → records ≡ batch → new ≡ text ++ records_text records
    → All IsWritten records → IsAppended s batch new
appended_by s batch records before text new sum is fits same pushed written = record {
  written = rw (← same) written;
  fits = rw sum at fits;
  text = text-pushed s batch text new is (pushed ∙ ap (λ r. text ++ records_text r) same);
}

-- ---- a store without records

least-lawful : (least : ℤ) → pos 1 ≤ℤ least → unsigned_abs least < 2 ^ 127 → is_least least ≡ true
least-lawful (pos n) low small = and_from (nat_le 1 n) (nat_lt n (2 ^ 127)) (le-leb 1 n (omega (arith, ints))) (lt-ltb n (2 ^ 127) small)
least-lawful (negsuc n) low small = absurd (omega (arith, ints))

top-lawful : (top : Option ℕ) → IfSome top (λ k. 1 ≤ k) → IfSome top (λ k. k ≤ 1000000) → is_top top ≡ true
top-lawful None some few = refl
top-lawful (Some k) some few = and_from (nat_le 1 k) (nat_le k 1000000) (le-leb 1 k some) (le-leb k 1000000 few)

length-word : (closed : Bool) → length (task_word closed) ≤ 6
length-word true = omega arith
length-word false = omega arith

length-top : (top : Option ℕ) → IfSome top (λ k. k ≤ 1000000) → length (top_word top) ≤ 39
length-top None few = omega arith
length-top (Some k) few = length-item k (omega (arith, few))

length-least : (least : ℤ) → pos 1 ≤ℤ least → unsigned_abs least < 2 ^ 127 → length (signed_decimal least) ≤ 39
length-least (pos n) low small = length-item n small
length-least (negsuc n) low small = absurd (omega (arith, ints))

fresh_short : (s : Keeping) → s.records ≡ [] → pos 1 ≤ℤ s.least → unsigned_abs s.least < 2 ^ 127
    → IfSome s.top (λ k. k ≤ 1000000) → length (store_text s) ≤ 268435456
fresh_short s none low small few =
    let task = task_word s.closed in
    let least = signed_decimal s.least in
    let top = top_word s.top in
    let text : store_text s ≡ codes "hupm shelf 1\n" ++ (settings_line s ++ (10 ∷ [])) =
    ap (λ records. codes "hupm shelf 1\n" ++ (settings_line s ++ (10 ∷ records_text records))) none in
    omega (
      arith,
      ap length text,
      length-append (settings_line s) (10 ∷ []),
      length-append task (32 ∷ (least ++ (32 ∷ top))),
      length-append least (32 ∷ top),
      length-word s.closed,
      length-top s.top few,
      length-least s.least low small,
    )

pub IsStore-fresh : (least : ℤ) (top : Option ℕ) (closed : Bool) → unsigned_abs least < 2 ^ 127 → pos 1 ≤ℤ least → IfSome top (λ k. 1 ≤ k)
    → IfSome top (λ k. k ≤ 1000000) → IsStore (fresh least top closed)
IsStore-fresh least top closed small low some few =
    IsStore-by (fresh least top closed) (All-nil IsWritten) (least-lawful least low small) (top-lawful top some few) (omega arith)
    (fresh_short (fresh least top closed) refl low small few)
