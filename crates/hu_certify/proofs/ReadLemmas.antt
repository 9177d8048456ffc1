-- What is written is read again.
use Rattle.std.proofs.Common.{◌≡◌, ℕ, suc, ◌<◌, ◌≤◌, ◌^◌, Bool, true, false, cond, ◌==◌, nat_lt, ℤ, pos, negsuc, ◌≤ℤ◌}
use Rattle.std.proofs.Common.{int_lt, unsigned_abs, Option, None, Some, List, [], ◌∷◌, ◌++◌, map, length, slice_index}
use Rattle.std.proofs.Common.{refl, sym, ap, ◌∙◌, subst, inl, inr, arith, append-nil, append_assoc, decimal}
use Rattle.std.specs.Fmt.{signed_decimal}
use Rattle.std.specs.List.{AllByRecursion, slice_split, join_with_byte}
use Rattle.std.specs.Result.{result_ok}
use Rattle.std.specs.Str.Parse.{AllDigits, digits_value}
use Rattle.std.proofs.lemmas.Bool.{cases_Bool, eqb-true}
use Rattle.std.proofs.lemmas.Bool.Decides.{nat_tests}
use Rattle.std.proofs.lemmas.Fmt.{decimal_is_IsNumeral_wide, length-decimal-le_wide}
use Rattle.std.proofs.lemmas.Int.{ints}
use Rattle.std.proofs.lemmas.Int.Digits.{digits_value-lt}
use Rattle.hu_kind.specs.Token.{is_space}
use Rattle.hu_kind.proofs.lemmas.Each.{each-append}
use Rattle.hu_proof.specs.Text.{pieces, has_idle_zero, plain_number, plain_signed, item_in, plain_item, each, and_more}
use Rattle.hu_proof.specs.Text.{words, minimum_of, order_of, token_of, token_from, said_of, said_in, said_by}
use Rattle.hu_seq.proofs.lemmas.Cuts.{slice_split-append, split-whole}
use Rattle.hu_kind.proofs.lemmas.Written.{Lacks, IsWritten, written-decimal, written-signed_decimal, number-decimal}
use Rattle.hu_kind.proofs.lemmas.Written.{signed_number-signed_decimal, decimal-begins}
use Rattle.hu_certify.specs.Text.{bound_text, token_text, tokens_text, prefix_text, spaced, minimum_line, order_line, lines_text}
use Rattle.hu_certify.proofs.AcceptLemmas.{said_from}

-- ---- numbers

no_idle : (n : ℕ) (ds : List ℕ) → AllDigits 10 ds → digits_value 10 ds ≡ n → ((k : ℕ) → 0 < k → n < 10 ^ k → length ds ≤ k) → has_idle_zero ds ≡ false
no_idle n [] all value short = refl
no_idle n (d ∷ []) all value short = elim (cases_Bool (d == 48)) [ inl e ↦ simp e | inr e ↦ simp e ]
no_idle n (d ∷ e ∷ es) all value short = elim (cases_Bool (d == 48)) [
  | inl h ↦
      let zero_first : d ≡ 48 = eqb-true d 48 h in
      let rest : digits_value 10 (e ∷ es) ≡ n = subst (λ c. digits_value 10 (c ∷ e ∷ es) ≡ n) zero_first value in
      let below = digits_value-lt 10 (e ∷ es) all.1 in
      absurd (omega (arith, short (length (e ∷ es)) (omega arith) (subst (λ m. m < 10 ^ length (e ∷ es)) rest below)))
  | inr h ↦ simp h
]

no_idle-decimal : (n : ℕ) → n < 2 ^ 127 → has_idle_zero (decimal n) ≡ false
no_idle-decimal n small =
    let told = decimal_is_IsNumeral_wide n (omega arith) in
    no_idle n (decimal n) told.0.1 told.1 (λ k some below. length-decimal-le_wide k n some below (omega arith))

pub plain_number-decimal : (n : ℕ) → n < 2 ^ 127 → plain_number (decimal n) ≡ Some (pos n)
plain_number-decimal n small = let idle = no_idle-decimal n small in rw idle (ap result_ok (number-decimal n small))

not_minus : (b : ℕ) → 48 ≤ b → (b == 45) ≡ false
not_minus b h = grind (arith, nat_tests)

not_zero : (n : ℕ) (ds : List ℕ) → digits_value 10 ds ≡ suc n → has_idle_zero ds ≡ false → (slice_index ds 0 == 48) ≡ false
not_zero n [] value idle = refl
not_zero n (d ∷ []) value idle = elim (cases_Bool (d == 48)) [
  | inl h ↦ let same = eqb-true d 48 h in let none : digits_value 10 (48 ∷ []) ≡ suc n = subst (λ c. digits_value 10 (c ∷ []) ≡ suc n) same value in absurd
      (omega (arith, none))
  | inr h ↦ h
]
not_zero n (d ∷ e ∷ es) value idle = elim (cases_Bool (d == 48)) [
  | inl h ↦ let long : nat_lt 1 (length (d ∷ e ∷ es)) ≡ true = grind (arith, nat_tests) in let both : has_idle_zero
      (d ∷ e ∷ es) ≡ true = rw (h, long) refl in let f : true ≡ false = sym both ∙ idle in cc
  | inr h ↦ h
]

pub plain_signed-written : (z : ℤ) → unsigned_abs z < 2 ^ 127 → plain_signed (signed_decimal z) ≡ Some z
plain_signed-written (pos n) small =
    let first = decimal-begins n small in
    let other : (slice_index (decimal n) 0 == 45) ≡ false = not_minus (slice_index (decimal n) 0) (omega (arith, first)) in
    rw other (plain_number-decimal n small)
plain_signed-written (negsuc n) small =
    let told = decimal_is_IsNumeral_wide (suc n) (omega arith) in
    let other : (slice_index (decimal (suc n)) 0 == 48) ≡ false = not_zero n (decimal (suc n)) told.1 (no_idle-decimal (suc n) small) in
    rw other (ap result_ok (signed_number-signed_decimal (negsuc n) small))

-- an item that is small
abbrev pub IsItem : ℕ → Type 0
IsItem item = item ≤ 2147483647

pub plain_item-decimal : (item : ℕ) → IsItem item → plain_item (decimal item) ≡ Some item
plain_item-decimal item small =
    let within : nat_lt 2147483647 item ≡ false = grind (arith, nat_tests) in
    ap item_in (plain_number-decimal item (omega arith)) ∙ rw within refl

-- ---- tokens

-- a child that can be written
pub record IsChild (child : ℕ × ℤ) : Type 0 where
  pub item : IsItem child.0
  pub least : pos 0 ≤ℤ child.1
  pub fits : unsigned_abs child.1 < 2 ^ 127

written_item : (item : ℕ) → IsItem item → IsWritten (decimal item)
written_item item small = written-decimal item (omega arith)

plain_bound : (z : ℤ) → pos 0 ≤ℤ z → unsigned_abs z < 2 ^ 127 → plain_number (signed_decimal z) ≡ Some z
plain_bound (pos n) least small = plain_number-decimal n small
plain_bound (negsuc n) least small = absurd (omega (arith, ints, least))

token-split : (item : ℕ) (bound : ℤ) (b : Bool) → IsChild (item, bound)
    → slice_split (λ c. c == 61) (decimal item ++ cond b (61 ∷ signed_decimal bound) []) ≡ decimal item ∷ cond b (signed_decimal bound ∷ []) []
token-split item bound true is =
    let front = split-whole (λ c. c == 61) (decimal item) ((written_item item is.item).high 61 (omega arith)) in
    let back = split-whole (λ c. c == 61) (signed_decimal bound) ((written-signed_decimal bound is.fits).high 61 (omega arith)) in
    slice_split-append (λ c. c == 61) (decimal item) 61 (signed_decimal bound) refl ∙ (λ j. front j ++ back j)
token-split item bound false is =
    ap (slice_split (λ c. c == 61)) (append-nil (decimal item)) ∙ split-whole (λ c. c == 61) (decimal item) ((written_item item is.item).high 61 (omega arith))

token-read : (item : ℕ) (bound : ℤ) (b : Bool) → IsChild (item, bound)
    → token_from (decimal item ∷ cond b (signed_decimal bound ∷ []) []) ≡ Some (record { item = record { 0 = item }; bound = cond b (Some bound) None })
token-read item bound true is = let i = plain_item-decimal item is.item in let n = plain_bound bound is.least is.fits in rw (i, n) refl
token-read item bound false is = let i = plain_item-decimal item is.item in rw i refl

more-read : {A : Type 0} (o : Option A) (os : Option (List A)) (x : A) (xs : List A) → o ≡ Some x → os ≡ Some xs → and_more o os ≡ Some (x ∷ xs)
more-read o os x xs e f = rw (e, f) refl

pub tokens-read : (least : ℤ) (prefix : List ℕ) (earned : ℤ) (children : List (ℕ × ℤ)) → AllByRecursion IsChild children
    → each token_of (map (token_text least) children) ≡ Some (said_from least prefix earned children).tokens
tokens-read least prefix earned [] all = refl
tokens-read least prefix earned (c ∷ cs) all =
    more-read _ _ _ _ (ap token_from (token-split c.0 c.1 (int_lt c.1 least) all.0) ∙ token-read c.0 c.1 (int_lt c.1 least) all.0)
    (tokens-read least prefix earned cs all.1)

pub items-read : (items : List ℕ) → AllByRecursion IsItem items → each plain_item (map decimal items) ≡ Some items
items-read [] all = refl
items-read (i ∷ is) all = more-read _ _ _ _ (plain_item-decimal i all.0) (items-read is all.1)

-- ---- cuts

-- a text of some bytes without a space
record IsWord (text : List ℕ) : Type 0 where
  some : 0 < length text
  lacks : Lacks 32 text

split-joined : (x : List ℕ) (xs : List (List ℕ)) → AllByRecursion IsWord (x ∷ xs) → slice_split is_space (join_with_byte 32 (x ∷ xs)) ≡ x ∷ xs
split-joined x [] all = split-whole is_space x all.0.lacks
split-joined x (y ∷ ys) all =
    let front = split-whole is_space x all.0.lacks in
    slice_split-append is_space x 32 (join_with_byte 32 (y ∷ ys)) refl ∙ (λ j. front j ++ split-joined y ys all.1 j)

some-joined : (x : List ℕ) (xs : List (List ℕ)) → 0 < length x → 0 < length (join_with_byte 32 (x ∷ xs))
some-joined [] xs some = absurd (omega (arith, some))
some-joined (b ∷ bs) [] some = some
some-joined (b ∷ bs) (y ∷ ys) some = omega arith

words-some : (text : List ℕ) → 0 < length text → words text ≡ slice_split is_space text
words-some [] some = absurd (omega (arith, some))
words-some (b ∷ bs) some = refl

words-joined : (texts : List (List ℕ)) → AllByRecursion IsWord texts → words (join_with_byte 32 texts) ≡ texts
words-joined [] all = refl
words-joined (x ∷ xs) all = words-some (join_with_byte 32 (x ∷ xs)) (some-joined x xs all.0.some) ∙ split-joined x xs all

Lacks-joined : (byte : ℕ) (texts : List (List ℕ)) → (32 == byte) ≡ false → AllByRecursion (Lacks byte) texts → Lacks byte (join_with_byte 32 texts)
Lacks-joined byte [] other all = tt
Lacks-joined byte (x ∷ []) other all = all.0
Lacks-joined byte (x ∷ y ∷ ys) other all = each-append (λ b. (b == byte) ≡ false) x (32 ∷ join_with_byte 32 (y ∷ ys)) all.0
    (other, Lacks-joined byte (y ∷ ys) other all.1)

each-item : (P : List ℕ → Type 0) (items : List ℕ) → ((item : ℕ) → IsItem item → P (decimal item)) → AllByRecursion IsItem items
    → AllByRecursion P (map decimal items)
each-item P [] f all = tt
each-item P (i ∷ is) f all = (f i all.0, each-item P is f all.1)

each-child : (P : List ℕ → Type 0) (least : ℤ) (children : List (ℕ × ℤ)) → ((child : ℕ × ℤ) → IsChild child → P (token_text least child))
    → AllByRecursion IsChild children → AllByRecursion P (map (token_text least) children)
each-child P least [] f all = tt
each-child P least (c ∷ cs) f all = (f c all.0, each-child P least cs f all.1)

-- a byte that no number has and that isn't `=`
record IsOther (byte : ℕ) : Type 0 where
  lacks : (text : List ℕ) → IsWritten text → Lacks byte text
  sign : (61 == byte) ≡ false

token-lacks : (byte : ℕ) (least : ℤ) (child : ℕ × ℤ) → IsOther byte → IsChild child → Lacks byte (token_text least child)
token-lacks byte least child other is =
    each-append (λ b. (b == byte) ≡ false) (decimal child.0) (bound_text least child.1) (other.lacks (decimal child.0) (written_item child.0 is.item))
    (by (int_lt child.1 least))
  where
    by : (b : Bool) → Lacks byte (cond b (61 ∷ signed_decimal child.1) [])
    by true = (other.sign, other.lacks (signed_decimal child.1) (written-signed_decimal child.1 is.fits))
    by false = tt

low : (byte : ℕ) → byte < 45 → (61 == byte) ≡ false → IsOther byte
low byte below sign = record { lacks = λ text is. is.low byte below; sign = sign }

high : (byte : ℕ) → 57 < byte → (61 == byte) ≡ false → IsOther byte
high byte above sign = record { lacks = λ text is. is.high byte above; sign = sign }

some-append : (xs ys : List ℕ) → 0 < length xs → 0 < length (xs ++ ys)
some-append [] ys some = absurd (omega (arith, some))
some-append (x ∷ xs) ys some = omega arith

token-word : (least : ℤ) (child : ℕ × ℤ) → IsChild child → IsWord (token_text least child)
token-word least child is = record {
  some = some-append (decimal child.0) (bound_text least child.1) (written_item child.0 is.item).some;
  lacks = token-lacks 32 least child (low 32 (omega arith) refl) is;
}

-- the line of a prefix
pub line-read : (least : ℤ) (prefix : List ℕ) (earned : ℤ) (children : List (ℕ × ℤ)) → AllByRecursion IsItem prefix → unsigned_abs earned < 2 ^ 127
    → AllByRecursion IsChild children
    → said_of (prefix_text prefix ++ 58 ∷ signed_decimal earned ++ 58 ∷ tokens_text least children) ≡ Some (said_from least prefix earned children)
line-read least prefix earned children items fits all =
    let colon : IsOther 58 = high 58 (omega arith) refl in
    let p = split-whole (λ b. b == 58) (prefix_text prefix)
    (Lacks-joined 58 (map decimal prefix) refl (each-item (Lacks 58) prefix (λ i small. colon.lacks (decimal i) (written_item i small)) items)) in
    let u = split-whole (λ b. b == 58) (signed_decimal earned) (colon.lacks (signed_decimal earned) (written-signed_decimal earned fits)) in
    let t = split-whole (λ b. b == 58) (tokens_text least children)
    (Lacks-joined 58 (map (token_text least) children) refl (each-child (Lacks 58) least children (λ c is. token-lacks 58 least c colon is) all)) in
    let cut =
    slice_split-append (λ b. b == 58) (prefix_text prefix ++ 58 ∷ signed_decimal earned) 58 (tokens_text least children) refl
    ∙ ap (λ ps. ps ++ slice_split (λ b. b == 58) (tokens_text least children))
    (slice_split-append (λ b. b == 58) (prefix_text prefix) 58 (signed_decimal earned) refl)
    ∙ (λ j. (p j ++ u j) ++ t j) in
    let i = ap (each plain_item) (words-joined (map decimal prefix)
    (each-item IsWord prefix (λ i small. record { some = (written_item i small).some; lacks = (written_item i small).low 32 (omega arith) }) items))
    ∙ items-read prefix items in
    let s = plain_signed-written earned fits in
    let w = ap (each token_of) (words-joined (map (token_text least) children) (each-child IsWord least children (token-word least) all))
    ∙ tokens-read least prefix earned children all in
    ap said_in cut ∙ (λ j. said_by (i j) (s j) (w j))

pub line-no_feed : (least : ℤ) (prefix : List ℕ) (earned : ℤ) (children : List (ℕ × ℤ)) → AllByRecursion IsItem prefix → unsigned_abs earned < 2 ^ 127
    → AllByRecursion IsChild children
    → Lacks 10 (prefix_text prefix ++ 58 ∷ signed_decimal earned ++ 58 ∷ tokens_text least children)
line-no_feed least prefix earned children items fits all =
    let P = λ (b : ℕ). (b == 10) ≡ false in
    let feed : IsOther 10 = low 10 (omega arith) refl in
    let front = each-append P (prefix_text prefix) (58 ∷ signed_decimal earned)
    (Lacks-joined 10 (map decimal prefix) refl (each-item (Lacks 10) prefix (λ i small. feed.lacks (decimal i) (written_item i small)) items))
    (refl, feed.lacks (signed_decimal earned) (written-signed_decimal earned fits)) in
    each-append P (prefix_text prefix ++ 58 ∷ signed_decimal earned) (58 ∷ tokens_text least children) front
    (refl, Lacks-joined 10 (map (token_text least) children) refl (each-child (Lacks 10) least children (λ c is. token-lacks 10 least c feed is) all))

-- ---- the first lines

pub minimum-read : (least : ℤ) → pos 1 ≤ℤ least → unsigned_abs least < 2 ^ 127 → minimum_of (minimum_line least) ≡ Some least
minimum-read least some fits = plain_bound least (omega (arith, ints)) fits

pub minimum-no_feed : (least : ℤ) → unsigned_abs least < 2 ^ 127 → Lacks 10 (minimum_line least)
minimum-no_feed least fits = (refl, (refl, (refl, (refl, (refl, (written-signed_decimal least fits).low 10 (omega arith))))))

split-spaced : (item : ℕ) (items : List ℕ) → AllByRecursion IsItem (item ∷ items)
    → slice_split is_space (decimal item ++ spaced items) ≡ map decimal (item ∷ items)
split-spaced item [] all = ap (slice_split is_space) (append-nil (decimal item))
    ∙ split-whole is_space (decimal item) ((written_item item all.0).low 32 (omega arith))
split-spaced item (next ∷ items) all =
    let front = split-whole is_space (decimal item) ((written_item item all.0).low 32 (omega arith)) in
    slice_split-append is_space (decimal item) 32 (decimal next ++ spaced items) refl ∙ (λ j. front j ++ split-spaced next items all.1 j)

pub order-read : (order : List ℕ) → AllByRecursion IsItem order → order_of (order_line order) ≡ Some order
order-read [] all = refl
order-read (item ∷ items) all = ap (each plain_item) (split-spaced item items all) ∙ items-read (item ∷ items) all

pub order-no_feed : (order : List ℕ) → AllByRecursion IsItem order → Lacks 10 (order_line order)
order-no_feed order all = (refl, (refl, (refl, (refl, (refl, spaced-lacks order all)))))
  where
    spaced-lacks : (items : List ℕ) → AllByRecursion IsItem items → Lacks 10 (spaced items)
    spaced-lacks [] h = tt
    spaced-lacks (i ∷ is) h = each-append (λ b. (b == 10) ≡ false) (32 ∷ decimal i) (spaced is) (refl, (written_item i h.0).low 10 (omega arith))
        (spaced-lacks is h.1)

-- ---- all lines

pub pieces-lines : (lines : List (List ℕ)) → AllByRecursion (Lacks 10) lines → pieces (lines_text lines) ≡ lines ++ [] ∷ []
pieces-lines [] all = refl
pieces-lines (line ∷ lines) all =
    let front = split-whole (λ b. b == 10) line all.0 in
    ap pieces (append_assoc line (10 ∷ []) (lines_text lines))
    ∙ slice_split-append (λ b. b == 10) line 10 (lines_text lines) refl
    ∙ (λ j. front j ++ pieces-lines lines all.1 j)
