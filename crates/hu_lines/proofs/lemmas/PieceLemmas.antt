-- Pieces of bytes: how they are cut.
use Rattle.std.proofs.Common.{◌≡◌, ℕ, add-one, zero, suc, ◌+◌, ◌<◌, ◌≤◌, ◌||◌, true, false, cond, eqb, List, [], ◌∷◌}
use Rattle.std.proofs.Common.{◌++◌, length, take, drop, refl, sym, ap, subst, ◌∙◌, arith, Option, None, Some}
use Rattle.std.specs.Prelude.{MatchOption, not}
use Rattle.std.proofs.lemmas.Bool.{false≢true, false_from_ne_true}
use Rattle.std.proofs.lemmas.Bool.Decides.{nat_tests}
use Rattle.std.proofs.Math.Seq.{drop-append_seam, drop-length}
use Rattle.std.proofs.lemmas.List.{length-take-le}
use Rattle.std.proofs.lemmas.List.Folds.{list_any-append}
use Rattle.memchr.specs.Find.{IsFirstByte, NoneBefore, Passes, is_byte}
use Rattle.hu_lines.specs.Pieces.{has_line_feed, first_piece, in_front, pieces}
use Rattle.hu_lines.specs.Laws.{WholePieceComesFirst, RestIsOnePiece, FirstPieceComesFirst}

-- the first piece has a line feed where the bytes have one
pub has_line_feed-first_piece : (bytes : List ℕ) → has_line_feed (first_piece bytes) ≡ has_line_feed bytes
has_line_feed-first_piece [] = refl
has_line_feed-first_piece (b ∷ bs) =
    elim (eqb b 10) as (λ t. (t || has_line_feed (cond t [] (first_piece bs))) ≡ (t || has_line_feed bs)) [ true ↦ refl | false ↦ has_line_feed-first_piece bs ]

-- cutting off the first piece again changes nothing
pub first_piece_twice : (bytes : List ℕ) → first_piece (first_piece bytes) ≡ first_piece bytes
first_piece_twice [] = refl
first_piece_twice (b ∷ bs) =
    ap (λ r. b ∷ r)
    (elim (eqb b 10) as (λ t. cond t [] (first_piece (cond t [] (first_piece bs))) ≡ cond t [] (first_piece bs)) [ true ↦ refl | false ↦ first_piece_twice bs ])

-- bytes before the first line feed belong to the first piece
pub first_piece-append : (held bytes : List ℕ) → has_line_feed held ≡ false → first_piece (held ++ bytes) ≡ held ++ first_piece bytes
first_piece-append [] bytes open_ = refl
first_piece-append (b ∷ bs) bytes open_ =
    ap (λ r. b ∷ r)
    (elim (eqb b 10) as (λ t. (t || has_line_feed bs) ≡ false → cond t [] (first_piece (bs ++ bytes))
    ≡ bs ++ first_piece bytes) [ true ↦ (λ no. absurd (false≢true (sym no))) | false ↦ first_piece-append bs bytes ]
    open_)

-- bytes after a line feed change nothing of the first piece
pub first_piece-append_after : (bytes more : List ℕ) → has_line_feed bytes ≡ true → first_piece (bytes ++ more) ≡ first_piece bytes
first_piece-append_after [] more ended = absurd (false≢true ended)
first_piece-append_after (b ∷ bs) more ended =
    ap (λ r. b ∷ r)
    (elim (eqb b 10) as (λ t. (t || has_line_feed bs) ≡ true → cond t [] (first_piece (bs ++ more))
    ≡ cond t [] (first_piece bs)) [ true ↦ (λ _. refl) | false ↦ first_piece-append_after bs more ] ended)

-- bytes without a line feed are a first piece
pub first_piece_open : (bytes : List ℕ) → has_line_feed bytes ≡ false → first_piece bytes ≡ bytes
first_piece_open [] open_ = refl
first_piece_open (b ∷ bs) open_ =
    ap (λ r. b ∷ r)
    (elim (eqb b 10) as (λ t. (t || has_line_feed bs) ≡ false → cond t [] (first_piece bs) ≡ bs)
    [ true ↦ (λ no. absurd (false≢true (sym no))) | false ↦ first_piece_open bs ] open_)

-- bytes are their first piece and what is left
pub first_piece_split : (bytes : List ℕ) → first_piece bytes ++ drop (length (first_piece bytes)) bytes ≡ bytes
first_piece_split [] = refl
first_piece_split (b ∷ bs) =
    let none : List ℕ = [] in
    ap (λ r. b ∷ r)
    (elim (eqb b 10) as (λ t. cond t none (first_piece bs) ++ drop (length (cond t none (first_piece bs))) bs ≡ bs)
    [ true ↦ refl | false ↦ first_piece_split bs ])

-- the first piece of bytes comes first, and then the pieces of what is left
pub first_piece_first : FirstPieceComesFirst
first_piece_first [] some = absurd (omega arith)
first_piece_first (b ∷ []) some =
    let none : List ℕ = [] in
    elim (eqb b 10) as (λ t. cond t ((b ∷ []) ∷ []) ((b ∷ []) ∷ [])
    ≡ (b ∷ cond t none none) ∷ pieces (drop (length (cond t none none)) none)) [ true ↦ refl | false ↦ refl ]
first_piece_first (b ∷ c ∷ cs) some =
    let rest = c ∷ cs in
    elim (eqb b 10) as
    (λ t. cond t ((b ∷ []) ∷ pieces rest) (in_front b (pieces rest))
    ≡ (b ∷ cond t [] (first_piece rest)) ∷ pieces (drop (length (cond t [] (first_piece rest))) rest))
    [ true ↦ refl | false ↦ ap (in_front b) (first_piece_first (c ∷ cs) (omega arith)) ]

-- bytes that end with their only line feed are a piece, and what follows them has its own
pub whole_piece_first : WholePieceComesFirst
whole_piece_first [] rest one ended = absurd (false≢true ended)
whole_piece_first (b ∷ bs) rest one ended =
    let some : 0 < length ((b ∷ bs) ++ rest) = omega arith in
    let first : first_piece ((b ∷ bs) ++ rest) ≡ b ∷ bs = first_piece-append_after (b ∷ bs) rest ended ∙ one in
    let P = λ (first : List ℕ). pieces ((b ∷ bs) ++ rest) ≡ first ∷ pieces (drop (length first) ((b ∷ bs) ++ rest)) in
    let split : P (b ∷ bs) = subst P first (first_piece_first ((b ∷ bs) ++ rest) some) in
    split ∙ ap (λ r. (b ∷ bs) ∷ pieces r) (drop-append_seam (b ∷ bs) rest)

-- bytes without a line feed are one piece, where there are any
pub rest_one_piece : RestIsOnePiece
rest_one_piece rest open_ some =
    let P = λ (first : List ℕ). pieces rest ≡ first ∷ pieces (drop (length first) rest) in
    let split : P rest = subst P (first_piece_open rest open_) (first_piece_first rest some) in
    split ∙ ap (λ r. rest ∷ pieces r) (drop-length rest)

-- after bytes without a line feed only what follows tells
pub has_line_feed-append : (held bytes : List ℕ) → has_line_feed held ≡ false → has_line_feed (held ++ bytes) ≡ has_line_feed bytes
has_line_feed-append held bytes open_ = list_any-append (λ b. eqb b 10) held bytes ∙ ap (λ t. t || has_line_feed bytes) open_

-- a first piece that has a byte is one piece
pub one_piece_of : (bytes : List ℕ) → first_piece bytes ≡ bytes → 0 < length bytes → pieces bytes ≡ bytes ∷ []
one_piece_of bytes one some =
    let P = λ (first : List ℕ). pieces bytes ≡ first ∷ pieces (drop (length first) bytes) in
    let split : P bytes = subst P one (first_piece_first bytes some) in
    split ∙ ap (λ r. bytes ∷ pieces r) (drop-length bytes)

-- a first piece is one piece, unless it is empty
pub pieces_of_one : (bytes : List ℕ) → first_piece bytes ≡ bytes → pieces bytes ≡ cond (not (eqb (length bytes) 0)) (bytes ∷ []) []
pieces_of_one [] one = refl
pieces_of_one (b ∷ bs) one =
    let some : eqb (length (b ∷ bs)) 0 ≡ false = grind (arith, nat_tests) in
    rw some (one_piece_of (b ∷ bs) one (omega arith))

-- what the search for a line feed finds is the end of the first piece
pub first_piece_found : (bytes : List ℕ) (place : Option ℕ) → IsFirstByte (is_byte 10) bytes place
    → MatchOption place (has_line_feed bytes ≡ false) (λ k. (take (k + 1) bytes ≡ first_piece bytes) × (has_line_feed bytes ≡ true))
first_piece_found [] None found = refl
first_piece_found [] (Some k) found = absurd (omega (arith, found.0.high))
first_piece_found (b ∷ bs) None found =
    let other : eqb b 10 ≡ false = false_from_ne_true (eqb b 10) (found 0 (omega arith) (omega arith)) in
    rw other (first_piece_found bs None (λ k low high ends. found (suc k) (omega arith) (omega arith) ends))
first_piece_found (b ∷ bs) (Some zero) found = let ends : eqb b 10 ≡ true = found.1 in (rw ends refl, rw ends refl)
first_piece_found (b ∷ bs) (Some (suc k)) found =
    let other : eqb b 10 ≡ false = false_from_ne_true (eqb b 10) (found.0.before 0 (omega arith) (omega arith)) in
    let later : NoneBefore (Passes (is_byte 10) bs) 0 (length bs) k =
    record {
      low = omega arith;
      high = omega (arith, found.0.high);
      before =
          λ j low high ends. found.0.before (suc j) (omega arith) (omega arith) ends;
    } in
    let rest = first_piece_found bs (Some k) (later, found.1) in
    (rw (other, add-one) (ap (λ r. b ∷ r) (rw add-one at rest.0)), rw other rest.1)

-- what a feed takes, by what the search for a line feed finds
pub front_found : (bytes : List ℕ) (place : Option ℕ) → IsFirstByte (is_byte 10) bytes place → MatchOption place
    ((first_piece bytes ≡ bytes) × (has_line_feed (first_piece bytes) ≡ false))
    (λ k. (take (k + 1) bytes ≡ first_piece bytes) × (k + 1 ≡ length (first_piece bytes)) × (has_line_feed (first_piece bytes) ≡ true))
front_found bytes None found = let open_ = first_piece_found bytes None found in (first_piece_open bytes open_, has_line_feed-first_piece bytes ∙ open_)
front_found bytes (Some k) found =
    let ended = first_piece_found bytes (Some k) found in
    let within : k + 1 ≤ length bytes = omega (arith, found.0.high) in
    (ended.0, sym (length-take-le (k + 1) bytes within) ∙ ap length ended.0, has_line_feed-first_piece bytes ∙ ended.1)
