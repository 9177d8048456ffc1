-- A text is cut at a byte, and at spaces into tokens.
use Rattle.std.proofs.Common.{◌≡◌, ℕ, ◌<◌, Bool, true, false, cond, List, [], ◌∷◌, ◌++◌, length, map, refl, ap, ◌∙◌, arith, filter, flat_map}
use Rattle.std.specs.List.{AllByRecursion, slice_split, onto_first}
use Rattle.std.proofs.lemmas.List.{append-nil}
use Rattle.std.proofs.lemmas.List.Elements.{filter-append}
use Rattle.hu_kind.specs.Token.{tokens, is_space, has_byte}
use Rattle.hu_kind.proofs.lemmas.Written.{Lacks, IsWritten}

onto_first-append : {A : Type 0} (x : A) (pieces more : List (List A)) → 0 < length pieces → onto_first x (pieces ++ more) ≡ onto_first x pieces ++ more
onto_first-append x [] more some = absurd (omega (arith, some))
onto_first-append x (piece ∷ pieces) more some = refl

length-onto_first : {A : Type 0} (x : A) (pieces : List (List A)) → 0 < length (onto_first x pieces)
length-onto_first x [] = omega arith
length-onto_first x (piece ∷ pieces) = omega arith

some_piece : {A : Type 0} (p : A → Bool) (xs : List A) → 0 < length (slice_split p xs)
some_piece p [] = omega arith
some_piece p (x ∷ xs) = by (p x)
  where
    by : (b : Bool) → 0 < length (cond b ([] ∷ slice_split p xs) (onto_first x (slice_split p xs)))
    by true = omega arith
    by false = length-onto_first x (slice_split p xs)

-- the pieces of two texts that a cut parts
pub slice_split-append : {A : Type 0} (p : A → Bool) (xs : List A) (y : A) (ys : List A) → p y ≡ true
    → slice_split p (xs ++ y ∷ ys) ≡ slice_split p xs ++ slice_split p ys
slice_split-append p [] y ys cut = rw cut refl
slice_split-append p (x ∷ xs) y ys cut = by (p x) (slice_split-append p xs y ys cut)
  where
    by : (b : Bool) → slice_split p (xs ++ y ∷ ys) ≡ slice_split p xs ++ slice_split p ys
        → cond b ([] ∷ slice_split p (xs ++ y ∷ ys)) (onto_first x (slice_split p (xs ++ y ∷ ys)))
        ≡ cond b ([] ∷ slice_split p xs) (onto_first x (slice_split p xs)) ++ slice_split p ys
    by true more = ap (λ pieces. [] ∷ pieces) more
    by false more = ap (onto_first x) more ∙ onto_first-append x (slice_split p xs) (slice_split p ys) (some_piece p xs)

-- the tokens of two texts with a space between
pub tokens-append : (text more : List ℕ) → tokens (text ++ 32 ∷ more) ≡ tokens text ++ tokens more
tokens-append text more =
    ap (filter has_byte) (slice_split-append is_space text 32 more refl) ∙ filter-append has_byte (slice_split is_space text) (slice_split is_space more)

-- where no element passes, the list is the one piece
pub split-whole : {A : Type 0} (p : A → Bool) (xs : List A) → AllByRecursion (λ x. p x ≡ false) xs → slice_split p xs ≡ xs ∷ []
split-whole p [] lacks = refl
split-whole p (x ∷ xs) lacks = rw lacks.0 (ap (onto_first x) (split-whole p xs lacks.1))

-- a word without a space is one token
pub tokens-word : (word : List ℕ) → 0 < length word → Lacks 32 word → tokens word ≡ word ∷ []
tokens-word [] some lacks = absurd (omega (arith, some))
tokens-word (b ∷ bs) some lacks = ap (filter has_byte) (split-whole is_space (b ∷ bs) lacks)

-- a word, and others with a space before each
pub tokens-spaced : {X : Type 0} (text : X → List ℕ) (word : List ℕ) (xs : List X) → IsWritten word → AllByRecursion (λ x. IsWritten (text x)) xs
    → tokens (word ++ flat_map (λ x. 32 ∷ text x) xs) ≡ word ∷ map text xs
tokens-spaced text word [] is all = ap tokens (append-nil word) ∙ tokens-word word is.some (is.low 32 (omega arith))
tokens-spaced text word (x ∷ xs) is all =
    tokens-append word (text x ++ flat_map (λ y. 32 ∷ text y) xs)
    ∙ ap (λ first. first ++ tokens (text x ++ flat_map (λ y. 32 ∷ text y) xs)) (tokens-word word is.some (is.low 32 (omega arith)))
    ∙ ap (λ more. word ∷ more) (tokens-spaced text (text x) xs all.0 all.1)
