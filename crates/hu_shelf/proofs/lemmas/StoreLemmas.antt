-- A store's text tells the store, and a store's text is the only one that does.
use Rattle.std.proofs.Common.{◌≡◌, ℕ, ◌<◌, ◌≤◌, ◌^◌, ◌==◌, ℤ, pos, negsuc, Bool, true, false, ◌&&◌, Option, None, Some, List, [], ◌∷◌, ◌++◌, length, codes}
use Rattle.std.proofs.Common.{refl, ap, sym, ◌∙◌, arith, append_assoc, nat_lt, nat_le}
use Rattle.std.specs.Bool.{then_some}
use Rattle.std.specs.List.{All, slice_split, sum_by}
use Rattle.std.specs.Str.{bytes_eq}
use Rattle.std.proofs.lemmas.Bool.{leb-true, le-leb, and_parts, and_from, ltb-true, lt-ltb}
use Rattle.std.proofs.lemmas.List.Elements.{All-cons, All-head, All-tail, All-append}
use Rattle.std.proofs.lemmas.List.Splits.{slice_split_at}
use Rattle.std.proofs.lemmas.Slice.Eq.{bytes_eq-Decides}
use Rattle.std.specs.Fmt.{signed_decimal}
use Rattle.hu_kind.specs.Record.{absolute_of}
use Rattle.hu_kind.proofs.lemmas.Written.{number-decimal}
use Rattle.hu_trans.specs.Canonical.{canonical_line}
use Rattle.hu_kept.specs.Kept.{Keeping, fresh, with_batch}
use Rattle.hu_shelf.specs.Store.{IsStore, IsWritten, closed_said, least_said, top_said, is_least, is_lawful, is_top, record_in, records_in, records_text}
use Rattle.hu_shelf.specs.Store.{settings_in, settings_line, store_of, store_text, task_word, told_by, top_word, before_byte, after_byte}
use Rattle.hu_shelf.proofs.NumeralLemmas.{Lacks, decimal-lacks}
use Rattle.hu_shelf.proofs.TextLemmas.{lacks_by_test, before_byte-lacks, after_byte-lacks, then_some-given}
use Rattle.hu_shelf.specs.Keeper.{KeeperState, Stays}

-- ---- records

record_in-canonical : (cells : List (ℕ × ℤ)) → IsWritten cells → record_in (canonical_line cells) ≡ Some cells
record_in-canonical cells written = rw (le-leb (length (canonical_line cells)) 1048576 written.plain.short, written.again) refl

-- the lines of records tell them
pub records_in-text : (records : List (List (ℕ × ℤ))) → All IsWritten records → records_in (records_text records) ≡ records
records_in-text [] all = refl
records_in-text (cells ∷ records) all =
    let written = All-head IsWritten cells records all in
    let more = records_in-text records (All-tail IsWritten cells records all) in
    let whole : (canonical_line cells ++ 10 ∷ []) ++ records_text records ≡ canonical_line cells ++ 10 ∷ records_text records =
    append_assoc (canonical_line cells) (10 ∷ []) (records_text records) in
    let cut : slice_split (λ b. b == 10) (canonical_line cells ++ 10 ∷ records_text records)
    ≡ canonical_line cells ∷ slice_split (λ b. b == 10) (records_text records) =
    slice_split_at (λ b. b == 10) (canonical_line cells) 10 (records_text records) written.plain.no_feed refl in
    rw (whole, cut, record_in-canonical cells written) (ap (λ rest. cells ∷ rest) more)

-- ---- settings

task_word-lacks : (closed : Bool) → Lacks 32 (task_word closed)
task_word-lacks true = lacks_by_test 32 (codes "closed") refl
task_word-lacks false = lacks_by_test 32 (codes "items") refl

task_word-read : (closed : Bool) → closed_said (task_word closed) ≡ closed
task_word-read true = refl
task_word-read false = refl

top_word-read : (top : Option ℕ) → is_top top ≡ true → top_said (top_word top) ≡ top
top_word-read None lawful = refl
top_word-read (Some k) lawful =
    let within : k ≤ 1000000 = leb-true k 1000000 (and_parts (nat_le 1 k) (nat_le k 1000000) lawful).1 in
    rw (number-decimal k (omega arith)) refl

settings_in-parts : (line rest task least top : List ℕ) → before_byte 32 line ≡ task → after_byte 32 line ≡ rest
    → before_byte 32 rest ≡ least → after_byte 32 rest ≡ top → settings_in line ≡ fresh (least_said least) (top_said top) (closed_said task)
settings_in-parts line rest task least top one two three four =
    ap (λ word. fresh (least_said (before_byte 32 (after_byte 32 line))) (top_said (after_byte 32 (after_byte 32 line))) (closed_said word)) one
    ∙ ap (λ more. fresh (least_said (before_byte 32 more)) (top_said (after_byte 32 more)) (closed_said task)) two
    ∙ ap (λ word. fresh (least_said word) (top_said (after_byte 32 rest)) (closed_said task)) three
    ∙ ap (λ word. fresh (least_said least) (top_said word) (closed_said task)) four

settings_in-line : (s : Keeping) (n : ℕ) → s.least ≡ pos n → n < 2 ^ 127 → is_top s.top ≡ true → settings_in (settings_line s) ≡ fresh s.least s.top s.closed
settings_in-line s n is small top =
    let rest = signed_decimal s.least ++ 32 ∷ top_word s.top in
    let lacks : Lacks 32 (signed_decimal s.least) = rw is (decimal-lacks 32 n small (omega arith)) in
    let read : least_said (signed_decimal s.least) ≡ s.least = rw (is, number-decimal n small) refl in
    settings_in-parts (settings_line s) rest (task_word s.closed) (signed_decimal s.least) (top_word s.top)
    (before_byte-lacks 32 (task_word s.closed) rest (task_word-lacks s.closed))
    (after_byte-lacks 32 (task_word s.closed) rest (task_word-lacks s.closed))
    (before_byte-lacks 32 (signed_decimal s.least) (top_word s.top) lacks)
    (after_byte-lacks 32 (signed_decimal s.least) (top_word s.top) lacks)
    ∙ ap (λ least. fresh least (top_said (top_word s.top)) (closed_said (task_word s.closed))) read
    ∙ ap (λ limit. fresh s.least limit (closed_said (task_word s.closed))) (top_word-read s.top top)
    ∙ ap (fresh s.least s.top) (task_word-read s.closed)

-- the settings line has no line feed
settings_line-lacks : (s : Keeping) (n : ℕ) → s.least ≡ pos n → n < 2 ^ 127 → is_top s.top ≡ true → Lacks 10 (settings_line s)
settings_line-lacks s n is small top =
    let least : Lacks 10 (signed_decimal s.least) = rw is (decimal-lacks 10 n small (omega arith)) in
    All-append (λ b. (b == 10) ≡ false) (task_word s.closed) (32 ∷ (signed_decimal s.least ++ 32 ∷ top_word s.top)) (word s.closed)
    (All-cons (λ b. (b == 10) ≡ false) 32 (signed_decimal s.least ++ 32 ∷ top_word s.top) refl
    (All-append (λ b. (b == 10) ≡ false) (signed_decimal s.least) (32 ∷ top_word s.top) least
    (All-cons (λ b. (b == 10) ≡ false) 32 (top_word s.top) refl (limit s.top top))))
  where
    word : (closed : Bool) → Lacks 10 (task_word closed)
    word true = lacks_by_test 10 (codes "closed") refl
    word false = lacks_by_test 10 (codes "items") refl

    limit : (top : Option ℕ) → is_top top ≡ true → Lacks 10 (top_word top)
    limit None lawful = lacks_by_test 10 (codes "all") refl
    limit (Some k) lawful =
        let within : k ≤ 1000000 = leb-true k 1000000 (and_parts (nat_le 1 k) (nat_le k 1000000) lawful).1 in
        decimal-lacks 10 k (omega arith) (omega arith)

-- ---- stores

-- the parts of a store that is lawful
pub record AreLimits (s : Keeping) (text : List ℕ) : Type 0 where
  pub least : is_least s.least ≡ true
  pub top : is_top s.top ≡ true
  pub sum : sum_by absolute_of s.records < 2 ^ 127
  pub short : length text ≤ 268435456

pub limits_of : (s : Keeping) (text : List ℕ) → is_lawful s text ≡ true → AreLimits s text
limits_of s text lawful =
    let all = and_parts (is_least s.least && is_top s.top && nat_lt (sum_by absolute_of s.records) (2 ^ 127)) (nat_le (length text) 268435456) lawful in
    let most = and_parts (is_least s.least && is_top s.top) (nat_lt (sum_by absolute_of s.records) (2 ^ 127)) all.0 in
    let settings = and_parts (is_least s.least) (is_top s.top) most.0 in
    record {
      least = settings.0;
      top = settings.1;
      sum = ltb-true (sum_by absolute_of s.records) (2 ^ 127) most.1;
      short = leb-true (length text) 268435456 all.1;
    }

pub lawful_by : (s : Keeping) (text : List ℕ) → AreLimits s text → is_lawful s text ≡ true
lawful_by s text limits =
    and_from (is_least s.least && is_top s.top && nat_lt (sum_by absolute_of s.records) (2 ^ 127)) (nat_le (length text) 268435456)
    (and_from (is_least s.least && is_top s.top) (nat_lt (sum_by absolute_of s.records) (2 ^ 127))
    (and_from (is_least s.least) (is_top s.top) limits.least limits.top)
    (lt-ltb (sum_by absolute_of s.records) (2 ^ 127) limits.sum))
    (le-leb (length text) 268435456 limits.short)

-- a lawful least utility as a number
pub least_number : (least : ℤ) → is_least least ≡ true → (n : ℕ) × (least ≡ pos n) × (n < 2 ^ 127)
least_number (pos n) lawful = (n, refl, ltb-true n (2 ^ 127) (and_parts (nat_le 1 n) (nat_lt n (2 ^ 127)) lawful).1)
least_number (negsuc n) lawful = absurd (cc)

-- a store's text tells the store
pub told_by-text : (s : Keeping) → All IsWritten s.records → is_least s.least ≡ true → is_top s.top ≡ true → told_by (store_text s) ≡ s
told_by-text s written least top =
    let found = least_number s.least least in
    let records = records_text s.records in
    let rest = settings_line s ++ 10 ∷ records in
    let lacks = settings_line-lacks s found.0 found.1 found.2 top in
    let first : after_byte 10 (store_text s) ≡ rest = after_byte-lacks 10 (codes "hupm shelf 1") rest (lacks_by_test 10 (codes "hupm shelf 1") refl) in
    ap (λ r. with_batch (settings_in (before_byte 10 r)) (records_in (after_byte 10 r))) first
    ∙ ap (λ line. with_batch (settings_in line) (records_in (after_byte 10 rest))) (before_byte-lacks 10 (settings_line s) records lacks)
    ∙ ap (λ r. with_batch (settings_in (settings_line s)) (records_in r)) (after_byte-lacks 10 (settings_line s) records lacks)
    ∙ ap (λ r. with_batch (settings_in (settings_line s)) r) (records_in-text s.records written)
    ∙ ap (λ f. with_batch f s.records) (settings_in-line s found.0 found.1 found.2 top)

pub store_of-text : (s : Keeping) → IsStore s → store_of (store_text s) ≡ Some s
store_of-text s store =
    let limits = limits_of s (store_text s) store.lawful in
    let told = told_by-text s store.records limits.least limits.top in
    let same : bytes_eq (store_text s) (store_text s) ≡ true = (bytes_eq-Decides (store_text s) (store_text s)).1 refl in
    ap (λ t. then_some (is_lawful t (store_text s) && bytes_eq (store_text t) (store_text s)) t) told
    ∙ ap (λ b. then_some b s) (and_from (is_lawful s (store_text s)) (bytes_eq (store_text s) (store_text s)) store.lawful same)

-- a text that tells a store is the store's
pub text_of-store : (text : List ℕ) (s : Keeping) → store_of text ≡ Some s → text ≡ store_text s
text_of-store text s found =
    let given = then_some-given (is_lawful (told_by text) text && bytes_eq (store_text (told_by text)) text) (told_by text) s found in
    let same = (and_parts (is_lawful (told_by text) text) (bytes_eq (store_text (told_by text)) text) given.0).1 in
    sym ((bytes_eq-Decides (store_text (told_by text)) text).0 same) ∙ ap store_text given.1

-- a keeper that is as before
pub still_same : (state now : KeeperState) → now ≡ state → Stays state now
still_same state now same = record {
  texts = ap (λ s. s.texts) same;
  later = λ other. omega (arith, ap (λ s. s.faults other) same);
  plan = ap (λ s. s.plan) same;
}
