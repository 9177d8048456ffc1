-- Texts with a line feed after each line are cut into these lines again.
use Rattle.std.proofs.Common.{◌≡◌, ℕ, ◌-◌, ◌==◌, true, false, List, [], ◌∷◌, ◌++◌, length, map, take, get_or, refl, ap, ◌∙◌, length-append, arith, flat_map}
use Rattle.std.specs.List.{AllByRecursion}
use Rattle.std.proofs.lemmas.Bool.Decides.{nat_tests}
use Rattle.std.proofs.Math.Seq.{get_or-append_seam}
use Rattle.std.proofs.lemmas.List.{take-append-le, take_all}
use Rattle.hu_kind.proofs.lemmas.Each.{each-get}
use Rattle.hu_lines.specs.Pieces.{in_front, pieces, without_last, line_of, lines}
use Rattle.hu_kind.proofs.lemmas.Written.{Lacks}

-- a line that stands as it is where a line feed follows it: without a line feed, and without a carriage return
pub record IsLine (line : List ℕ) : Type 0 where
  pub no_feed : Lacks 10 line
  pub no_return : Lacks 13 line

-- a line with its line feed
abbrev pub fed : List ℕ → List ℕ
fed line = line ++ 10 ∷ []

pub pieces-fed : (line rest : List ℕ) → Lacks 10 line → pieces (fed line ++ rest) ≡ fed line ∷ pieces rest
pieces-fed [] rest lacks = refl
pieces-fed (b ∷ bs) rest lacks = rw lacks.0 (ap (in_front b) (pieces-fed bs rest lacks.1))

seam : (b : ℕ) (line : List ℕ) → get_or (line ++ b ∷ []) (length (line ++ b ∷ []) - 1) 0 ≡ b
seam b line =
    let place : length (line ++ b ∷ []) - 1 ≡ length line = omega (arith, length-append line (b ∷ [])) in
    ap (λ k. get_or (line ++ b ∷ []) k 0) place ∙ get_or-append_seam line b [] 0

front : (b : ℕ) (line : List ℕ) → take (length (line ++ b ∷ []) - 1) (line ++ b ∷ []) ≡ line
front b line =
    let place : length (line ++ b ∷ []) - 1 ≡ length line = omega (arith, length-append line (b ∷ [])) in
    ap (λ k. take k (line ++ b ∷ [])) place ∙ take-append-le (length line) line (b ∷ []) (omega arith) ∙ take_all (length line) line (omega arith)

same_byte : (b c : ℕ) → c ≡ b → (c == b) ≡ true
same_byte b c e = grind (arith, nat_tests)

without_last-pushed : (b : ℕ) (line : List ℕ) → without_last b (line ++ b ∷ []) ≡ line
without_last-pushed b line =
    rw (same_byte b (get_or (line ++ b ∷ []) (length (line ++ b ∷ []) - 1) 0) (seam b line)) (front b line)

without_last-lacking : (b : ℕ) (line : List ℕ) → (0 == b) ≡ false → Lacks b line → without_last b line ≡ line
without_last-lacking b [] zero lacks = rw zero refl
without_last-lacking b (c ∷ cs) zero lacks =
    rw (each-get (λ d. (d == b) ≡ false) (c ∷ cs) (length (c ∷ cs) - 1) 0 lacks (omega arith)) refl

pub line_of-fed : (line : List ℕ) → Lacks 13 line → line_of (fed line) ≡ line
line_of-fed line lacks = ap (without_last 13) (without_last-pushed 10 line) ∙ without_last-lacking 13 line refl lacks

-- the pieces of lines that are written one after the other, and the lines
pub pieces-written : {X : Type 0} (text : X → List ℕ) (xs : List X) → AllByRecursion (λ x. IsLine (text x)) xs
    → pieces (flat_map (λ x. fed (text x)) xs) ≡ map (λ x. fed (text x)) xs
pieces-written text [] all = refl
pieces-written text (x ∷ xs) all =
    pieces-fed (text x) (flat_map (λ y. fed (text y)) xs) all.0.no_feed ∙ ap (λ more. fed (text x) ∷ more) (pieces-written text xs all.1)

lines-of_fed : {X : Type 0} (text : X → List ℕ) (xs : List X) → AllByRecursion (λ x. IsLine (text x)) xs
    → map line_of (map (λ x. fed (text x)) xs) ≡ map text xs
lines-of_fed text [] all = refl
lines-of_fed text (x ∷ xs) all = rw (line_of-fed (text x) all.0.no_return) (ap (λ more. text x ∷ more) (lines-of_fed text xs all.1))

pub lines-written : {X : Type 0} (text : X → List ℕ) (xs : List X) → AllByRecursion (λ x. IsLine (text x)) xs
    → lines (flat_map (λ x. fed (text x)) xs) ≡ map text xs
lines-written text xs all = ap (map line_of) (pieces-written text xs all) ∙ lines-of_fed text xs all
