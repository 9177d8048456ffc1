-- What the words of a line tell: numbers, and after a label one number.
use Rattle.std.proofs.Common.{◌≡◌, ℕ, ◌<◌, ◌^◌, ◌==◌, ℤ, pos, true, false, Option, None, Some, slice_get, List, [], ◌∷◌}
use Rattle.std.proofs.Common.{◌++◌, map, filter_map, refl, ap, ◌∙◌, arith, codes, decimal}
use Rattle.std.specs.Fmt.{signed_decimal}
use Rattle.std.specs.List.{AllByRecursion, before_first}
use Rattle.std.specs.Option.{option_and_then}
use Rattle.std.specs.Result.{result_ok}
use Rattle.std.specs.Str.{bytes_eq}
use Rattle.std.proofs.lemmas.Bool.Decides.{nat_tests}
use Rattle.hu_text.specs.Told.{number_in, is_label, number_after, words_tell, IsSmall}
use Rattle.hu_seq.proofs.lemmas.Firsts.{before_first-append, after_first-append, after_first-later, after_first-here}
use Rattle.hu_kind.proofs.lemmas.Written.{IsWritten, written-signed_decimal, signed_number-signed_decimal}

-- ---- numbers are no labels, and are read

other_byte : (a b : ℕ) → (a == b) ≡ false → (b == a) ≡ false
other_byte a b h = grind (arith, nat_tests)

written-unlabelled : (word : List ℕ) → IsWritten word → is_label word ≡ false
written-unlabelled [] is = absurd (omega (arith, is.some))
written-unlabelled (b ∷ bs) is = (is.low 35 (omega arith)).0

written-other : (label word : List ℕ) → IsWritten word → bytes_eq (35 ∷ label) word ≡ false
written-other label [] is = absurd (omega (arith, is.some))
written-other label (b ∷ bs) is = rw (other_byte b 35 (is.low 35 (omega arith)).0) refl

each-written : (numbers : List ℤ) → AllByRecursion IsSmall numbers → AllByRecursion IsWritten (map signed_decimal numbers)
each-written [] all = tt
each-written (z ∷ zs) all = (written-signed_decimal z all.0, each-written zs all.1)

unlabelled : (words : List (List ℕ)) → AllByRecursion IsWritten words → AllByRecursion (λ word. is_label word ≡ false) words
unlabelled [] all = tt
unlabelled (w ∷ ws) all = (written-unlabelled w all.0, unlabelled ws all.1)

others : (label : List ℕ) (words : List (List ℕ)) → AllByRecursion IsWritten words → AllByRecursion (λ word. bytes_eq (35 ∷ label) word ≡ false) words
others label [] all = tt
others label (w ∷ ws) all = (written-other label w all.0, others label ws all.1)

pub number_in-written : (z : ℤ) → IsSmall z → number_in (signed_decimal z) ≡ Some z
number_in-written z small = ap result_ok (signed_number-signed_decimal z small)

numbers-written : (numbers : List ℤ) → AllByRecursion IsSmall numbers → filter_map number_in (map signed_decimal numbers) ≡ numbers
numbers-written [] all = refl
numbers-written (z ∷ zs) all = rw (number_in-written z all.0) (ap (λ more. z ∷ more) (numbers-written zs all.1))

-- ---- the words of a line

-- the words of a line of `items` or `seq`
abbrev pub item_words : List ℤ → ℤ → List (List ℕ)
item_words key utility = map signed_decimal key ++ codes "#UTIL:" ∷ signed_decimal utility ∷ []

-- the words of a line of `closed`
abbrev pub closed_words : List ℤ → ℕ → ℤ → List (List ℕ)
closed_words key support utility = map signed_decimal key ++ codes "#SUP:" ∷ decimal support ∷ codes "#UTIL:" ∷ signed_decimal utility ∷ []

-- a label's number, where these words stand after those of a key
after_key : (label : List ℕ) (key : List ℤ) (words : List (List ℕ)) → AllByRecursion IsSmall key
    → number_after (35 ∷ label) (map signed_decimal key ++ words) ≡ number_after (35 ∷ label) words
after_key label key words small =
    ap (λ rest. option_and_then number_in (slice_get rest 0))
    (after_first-append (bytes_eq (35 ∷ label)) (map signed_decimal key) words (others label (map signed_decimal key) (each-written key small)))

-- the numbers of the key, where a label follows them
key_before : (key : List ℤ) (label : List ℕ) (words : List (List ℕ)) → AllByRecursion IsSmall key → is_label label ≡ true
    → filter_map number_in (before_first is_label (map signed_decimal key ++ label ∷ words)) ≡ key
key_before key label words small is =
    let front = map signed_decimal key in
    ap (filter_map number_in) (before_first-append is_label front label words (unlabelled front (each-written key small)) is)
    ∙ numbers-written key small

-- three things that are told
tells : (words : List (List ℕ)) (key : List ℤ) (support utility : Option ℤ) → filter_map number_in (before_first is_label words) ≡ key
    → number_after (codes "#SUP:") words ≡ support → number_after (codes "#UTIL:") words ≡ utility
    → words_tell words ≡ record { key = key; support = support; utility = utility }
tells words key support utility one two three = cc

pub words_tell-items : (key : List ℤ) (utility : ℤ) → AllByRecursion IsSmall key → IsSmall utility
    → words_tell (item_words key utility) ≡ record { key = key; support = None; utility = Some utility }
words_tell-items key utility small fits =
    let words = codes "#UTIL:" ∷ signed_decimal utility ∷ [] in
    let other = written-other (codes "SUP:") (signed_decimal utility) (written-signed_decimal utility fits) in
    let no_support : number_after (codes "#SUP:") words ≡ None =
    ap (λ rest. option_and_then number_in (slice_get rest 0))
    (after_first-later (bytes_eq (codes "#SUP:")) (codes "#UTIL:") (signed_decimal utility ∷ []) refl
    ∙ after_first-later (bytes_eq (codes "#SUP:")) (signed_decimal utility) [] other) in
    let earned : number_after (codes "#UTIL:") words ≡ Some utility =
    ap (λ rest. option_and_then number_in (slice_get rest 0)) (after_first-here (bytes_eq (codes "#UTIL:")) (codes "#UTIL:") (signed_decimal utility ∷ []) refl)
    ∙ number_in-written utility fits in
    tells (item_words key utility) key None (Some utility)
    (key_before key (codes "#UTIL:") (signed_decimal utility ∷ []) small refl)
    (after_key (codes "SUP:") key words small ∙ no_support)
    (after_key (codes "UTIL:") key words small ∙ earned)

pub words_tell-closed : (key : List ℤ) (support : ℕ) (utility : ℤ) → AllByRecursion IsSmall key → support < 2 ^ 127 → IsSmall utility
    → words_tell (closed_words key support utility) ≡ record { key = key; support = Some (pos support); utility = Some utility }
words_tell-closed key support utility small few fits =
    let more = codes "#UTIL:" ∷ signed_decimal utility ∷ [] in
    let words = codes "#SUP:" ∷ decimal support ∷ more in
    let other = written-other (codes "UTIL:") (decimal support) (written-signed_decimal (pos support) few) in
    let held : number_after (codes "#SUP:") words ≡ Some (pos support) =
    ap (λ rest. option_and_then number_in (slice_get rest 0)) (after_first-here (bytes_eq (codes "#SUP:")) (codes "#SUP:") (decimal support ∷ more) refl)
    ∙ number_in-written (pos support) few in
    let earned : number_after (codes "#UTIL:") words ≡ Some utility =
    ap (λ rest. option_and_then number_in (slice_get rest 0))
    (after_first-later (bytes_eq (codes "#UTIL:")) (codes "#SUP:") (decimal support ∷ more) refl
    ∙ after_first-later (bytes_eq (codes "#UTIL:")) (decimal support) more other
    ∙ after_first-here (bytes_eq (codes "#UTIL:")) (codes "#UTIL:") (signed_decimal utility ∷ []) refl)
    ∙ number_in-written utility fits in
    tells (closed_words key support utility) key (Some (pos support)) (Some utility)
    (key_before key (codes "#SUP:") (decimal support ∷ more) small refl)
    (after_key (codes "SUP:") key words small ∙ held)
    (after_key (codes "UTIL:") key words small ∙ earned)
