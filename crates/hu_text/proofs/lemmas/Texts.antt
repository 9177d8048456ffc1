-- The text of an answer tells its entries.
use Rattle.std.proofs.Common.{◌≡◌, ℕ, ◌<◌, ◌==◌, ℤ, pos, unsigned_abs, false, None, Some, unwrap_or, List, [], ◌∷◌}
use Rattle.std.proofs.Common.{◌++◌, map, refl, sym, ap, ◌∙◌, append_assoc, arith, codes, decimal, flat_map}
use Rattle.std.specs.Fmt.{signed_decimal}
use Rattle.std.specs.List.{AllByRecursion, list_any}
use Rattle.std.proofs.lemmas.Bool.Decides.{nat_tests}
use Rattle.hu_kind.specs.declared.entry.Entry.{Entry}
use Rattle.hu_kind.specs.declared.task.Task.{Task}
use Rattle.hu_kind.specs.declared.task.Task.TheVariants.{Items, Closed, Sequences}
use Rattle.hu_kind.specs.Token.{tokens}
use Rattle.hu_kind.proofs.lemmas.Each.{each-append, each-weaker}
use Rattle.hu_report.specs.Text.{key_text, line_of}
use Rattle.hu_seq.proofs.lemmas.Cuts.{tokens-append, tokens-word, tokens-spaced}
use Rattle.hu_seq.proofs.lemmas.Firsts.{none-any}
use Rattle.hu_kind.proofs.lemmas.Written.{Lacks, IsWritten, written-signed_decimal}
use Rattle.hu_text.specs.Laws.{TextTellsEntries, HaveOneText, OneTextOneKeys, OneTextOneUtilities, OneTextOneAnswer}
use Rattle.hu_text.specs.Told.{Told, told, words_tell, printed, IsReadable, IsSmall}
use Rattle.hu_text.proofs.lemmas.Lines.{IsLine, fed, lines-written}
use Rattle.hu_text.proofs.lemmas.Words.{item_words, closed_words, words_tell-items, words_tell-closed}

-- ---- the lines without their line feeds

abbrev earned_part : ℤ → List ℕ
earned_part utility = codes " #UTIL: " ++ signed_decimal utility

abbrev item_body : Entry → List ℕ
item_body e = key_text e.key ++ earned_part e.utility

abbrev held_part : Entry → List ℕ
held_part e = key_text e.key ++ (codes " #SUP: " ++ decimal e.support)

abbrev closed_body : Entry → List ℕ
closed_body e = held_part e ++ earned_part e.utility

abbrev body : Task → Entry → List ℕ
body Items e = item_body e
body Closed e = closed_body e
body Sequences e = item_body e

line-body : (task : Task) (e : Entry) → line_of task e ≡ fed (body task e)
line-body Items e = sym (append_assoc (key_text e.key) (earned_part e.utility) (codes "\n"))
line-body Closed e = sym (append_assoc (held_part e) (earned_part e.utility) (codes "\n"))
line-body Sequences e = sym (append_assoc (key_text e.key) (earned_part e.utility) (codes "\n"))

-- ---- they have no line feed and no carriage return

space_other : (byte : ℕ) → byte < 32 → (32 == byte) ≡ false
space_other byte low = grind (arith, nat_tests)

spaced-lacks : (byte : ℕ) (numbers : List ℤ) → byte < 32 → AllByRecursion IsSmall numbers → Lacks byte (flat_map (λ n. codes " " ++ signed_decimal n) numbers)
spaced-lacks byte [] low small = tt
spaced-lacks byte (n ∷ ns) low small =
    each-append (λ b. (b == byte) ≡ false) (codes " " ++ signed_decimal n) (flat_map (λ n. codes " " ++ signed_decimal n) ns)
    (space_other byte low, (written-signed_decimal n small.0).low byte (omega arith))
    (spaced-lacks byte ns low small.1)

key-lacks : (byte : ℕ) (key : List ℤ) → byte < 32 → AllByRecursion IsSmall key → Lacks byte (key_text key)
key-lacks byte [] low small = tt
key-lacks byte (n ∷ ns) low small =
    each-append (λ b. (b == byte) ≡ false) (signed_decimal n) (flat_map (λ n. codes " " ++ signed_decimal n) ns)
    ((written-signed_decimal n small.0).low byte (omega arith))
    (spaced-lacks byte ns low small.1)

earned-lacks : (byte : ℕ) (utility : ℤ) → byte < 32 → IsSmall utility → list_any (λ b. b == byte) (codes " #UTIL: ") ≡ false → Lacks byte (earned_part utility)
earned-lacks byte utility low small none =
    each-append (λ b. (b == byte) ≡ false) (codes " #UTIL: ") (signed_decimal utility) (none-any (λ b. b == byte) (codes " #UTIL: ") none)
    ((written-signed_decimal utility small).low byte (omega arith))

item-lacks : (byte : ℕ) (e : Entry) → byte < 32 → IsReadable e → list_any (λ b. b == byte) (codes " #UTIL: ") ≡ false → Lacks byte (item_body e)
item-lacks byte e low is none =
    each-append (λ b. (b == byte) ≡ false) (key_text e.key) (earned_part e.utility) (key-lacks byte e.key low is.key)
    (earned-lacks byte e.utility low is.utility none)

closed-lacks : (byte : ℕ) (e : Entry) → byte < 32 → IsReadable e → list_any (λ b. b == byte) (codes " #UTIL: ") ≡ false
    → list_any (λ b. b == byte) (codes " #SUP: ") ≡ false → Lacks byte (closed_body e)
closed-lacks byte e low is none other =
    let P = λ (b : ℕ). (b == byte) ≡ false in
    let digits = (written-signed_decimal (pos e.support) is.support).low byte (omega arith) in
    let support = each-append P (codes " #SUP: ") (decimal e.support) (none-any (λ b. b == byte) (codes " #SUP: ") other) digits in
    let held = each-append P (key_text e.key) (codes " #SUP: " ++ decimal e.support) (key-lacks byte e.key low is.key) support in
    each-append P (held_part e) (earned_part e.utility) held (earned-lacks byte e.utility low is.utility none)

body-line : (task : Task) (e : Entry) → IsReadable e → IsLine (body task e)
body-line Items e is = record { no_feed = item-lacks 10 e (omega arith) is refl; no_return = item-lacks 13 e (omega arith) is refl }
body-line Closed e is = record { no_feed = closed-lacks 10 e (omega arith) is refl refl; no_return = closed-lacks 13 e (omega arith) is refl refl }
body-line Sequences e is = record { no_feed = item-lacks 10 e (omega arith) is refl; no_return = item-lacks 13 e (omega arith) is refl }

-- ---- their words

each-written : (numbers : List ℤ) → AllByRecursion IsSmall numbers → AllByRecursion (λ n. IsWritten (signed_decimal n)) numbers
each-written numbers small = each-weaker IsSmall (λ n. IsWritten (signed_decimal n)) numbers written-signed_decimal small

tokens-key : (key : List ℤ) → AllByRecursion IsSmall key → tokens (key_text key) ≡ map signed_decimal key
tokens-key [] small = refl
tokens-key (n ∷ ns) small = tokens-spaced signed_decimal (signed_decimal n) ns (written-signed_decimal n small.0) (each-written ns small.1)

tokens-number : (z : ℤ) → IsSmall z → tokens (signed_decimal z) ≡ signed_decimal z ∷ []
tokens-number z small = let is = written-signed_decimal z small in tokens-word (signed_decimal z) is.some (is.low 32 (omega arith))

-- a label and a number
tokens-field : (label : List ℕ) (z : ℤ) → tokens label ≡ label ∷ [] → IsSmall z → tokens (label ++ 32 ∷ signed_decimal z) ≡ label ∷ signed_decimal z ∷ []
tokens-field label z one small =
    tokens-append label (signed_decimal z) ∙ ap (λ first. first ++ tokens (signed_decimal z)) one ∙ ap (λ more. label ∷ more) (tokens-number z small)

tokens-earned : (front : List ℕ) (utility : ℤ) → IsSmall utility
    → tokens (front ++ earned_part utility) ≡ tokens front ++ codes "#UTIL:" ∷ signed_decimal utility ∷ []
tokens-earned front utility small =
    tokens-append front (codes "#UTIL:" ++ 32 ∷ signed_decimal utility) ∙ ap (λ more. tokens front ++ more) (tokens-field (codes "#UTIL:") utility refl small)

tokens-item : (e : Entry) → IsReadable e → tokens (item_body e) ≡ item_words e.key e.utility
tokens-item e is =
    tokens-earned (key_text e.key) e.utility is.utility
    ∙ ap (λ front. front ++ codes "#UTIL:" ∷ signed_decimal e.utility ∷ []) (tokens-key e.key is.key)

tokens-held : (e : Entry) → IsReadable e → tokens (held_part e) ≡ map signed_decimal e.key ++ codes "#SUP:" ∷ decimal e.support ∷ []
tokens-held e is =
    tokens-append (key_text e.key) (codes "#SUP:" ++ 32 ∷ decimal e.support)
    ∙ ap (λ more. tokens (key_text e.key) ++ more) (tokens-field (codes "#SUP:") (pos e.support) refl is.support)
    ∙ ap (λ front. front ++ codes "#SUP:" ∷ decimal e.support ∷ []) (tokens-key e.key is.key)

tokens-closed : (e : Entry) → IsReadable e → tokens (closed_body e) ≡ closed_words e.key e.support e.utility
tokens-closed e is =
    let last = codes "#UTIL:" ∷ signed_decimal e.utility ∷ [] in
    tokens-earned (held_part e) e.utility is.utility
    ∙ ap (λ front. front ++ last) (tokens-held e is)
    ∙ append_assoc (map signed_decimal e.key) (codes "#SUP:" ∷ decimal e.support ∷ []) last

item-told : (e : Entry) → IsReadable e → words_tell (tokens (item_body e)) ≡ record { key = e.key; support = None; utility = Some e.utility }
item-told e is = ap words_tell (tokens-item e is) ∙ words_tell-items e.key e.utility is.key is.utility

body-told : (task : Task) (e : Entry) → IsReadable e → words_tell (tokens (body task e)) ≡ printed task e
body-told Items e is = item-told e is
body-told Closed e is = ap words_tell (tokens-closed e is) ∙ words_tell-closed e.key e.support e.utility is.key is.support is.utility
body-told Sequences e is = item-told e is

-- ---- the text

flat_map-same : {X A : Type 0} (f g : X → List A) (xs : List X) → ((x : X) → f x ≡ g x) → flat_map f xs ≡ flat_map g xs
flat_map-same f g [] same = refl
flat_map-same f g (x ∷ xs) same = rw (same x) (ap (λ more. g x ++ more) (flat_map-same f g xs same))

bodies-told : (task : Task) (entries : List Entry) → AllByRecursion IsReadable entries
    → map (λ line. words_tell (tokens line)) (map (body task) entries) ≡ map (printed task) entries
bodies-told task [] all = refl
bodies-told task (e ∷ es) all = rw (body-told task e all.0) (ap (λ more. printed task e ∷ more) (bodies-told task es all.1))

pub text_tells_entries : TextTellsEntries
text_tells_entries task entries all =
    let are_lines = each-weaker IsReadable (λ e. IsLine (body task e)) entries (body-line task) all in
    ap told (flat_map-same (line_of task) (λ e. fed (body task e)) entries (line-body task))
    ∙ ap (map (λ line. words_tell (tokens line))) (lines-written (body task) entries are_lines)
    ∙ bodies-told task entries all

-- ---- so it tells apart

map-printed : {B : Type 0} (task : Task) (f : Told → B) (g : Entry → B) (entries : List Entry) → ((e : Entry) → f (printed task e) ≡ g e)
    → map f (map (printed task) entries) ≡ map g entries
map-printed task f g [] same = refl
map-printed task f g (e ∷ es) same = rw (same e) (ap (λ more. g e ∷ more) (map-printed task f g es same))

one_text : {B : Type 0} (task : Task) (f : Told → B) (g : Entry → B) (first second : List Entry) → ((e : Entry) → f (printed task e) ≡ g e)
    → HaveOneText task first second → map g first ≡ map g second
one_text task f g first second same have =
    sym (map-printed task f g first same)
    ∙ ap (map f) (sym (text_tells_entries task first have.first_readable) ∙ ap told have.one ∙ text_tells_entries task second have.second_readable)
    ∙ map-printed task f g second same

pub one_text_one_keys : OneTextOneKeys
one_text_one_keys task first second have = one_text task (λ t. t.key) (λ e. e.key) first second (λ x. refl) have

pub one_text_one_utilities : OneTextOneUtilities
one_text_one_utilities task first second have = one_text task (λ t. unwrap_or t.utility (pos 0)) (λ e. e.utility) first second (λ x. refl) have

-- the entry of which all is told
whole : Told → Entry
whole t = record { key = t.key; utility = unwrap_or t.utility (pos 0); support = unsigned_abs (unwrap_or t.support (pos 0)) }

map-itself : {A : Type 0} (xs : List A) → map (λ x. x) xs ≡ xs
map-itself [] = refl
map-itself (x ∷ xs) = ap (λ more. x ∷ more) (map-itself xs)

whole-printed : (e : Entry) → whole (printed Closed e) ≡ e
unfolding whole
whole-printed e = refl

pub one_text_one_answer : OneTextOneAnswer
one_text_one_answer first second have =
    sym (map-itself first) ∙ one_text Closed whole (λ e. e) first second whole-printed have ∙ map-itself second
