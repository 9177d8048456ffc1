-- What a piece's length says of its limits.
use Rattle.std.proofs.Common.{◌≡◌, ℕ, suc, ◌+◌, ◌-◌, ◌<◌, ◌≤◌, ◌||◌, ◌&&◌, inl, inr, Bool, true, false, cond, eqb, List}
use Rattle.std.proofs.Common.{[], ◌∷◌, ◌++◌, length, take, get_or, refl, sym, ap, subst, ◌∙◌, arith, None, Some, Option}
use Rattle.std.specs.Prelude.{◌⊎◌, not, nat_lt, nat_le}
use Rattle.std.specs.Option.{option_or}
use Rattle.hu_lines.specs.declared.limits.LineFault.TheVariants.{LineTooLong, InputTooLarge}
use Rattle.std.proofs.Common.{length-append}
use Rattle.std.proofs.lemmas.List.{length-take}
use Rattle.std.proofs.lemmas.Bool.Decides.{nat_tests}
use Rattle.hu_lines.specs.declared.limits.LineFault.{LineFault}
use Rattle.hu_lines.specs.Pieces.{has_line_feed, first_piece, body_of, without_last}
use Rattle.hu_lines.specs.Limits.{passed_by, first_passed, refusal, refusal_by_counts}
use Rattle.hu_lines.specs.Laws.{RefusalStands, FirstRefusalStands}
use Rattle.hu_lines.proofs.lemmas.PieceLemmas.{has_line_feed-append, first_piece-append, first_piece-append_after, first_piece_open}

-- a line feed among bytes is one of them
pub line_feed-le : (bytes : List ℕ) → cond (has_line_feed bytes) 1 0 ≤ length bytes
line_feed-le [] = omega arith
line_feed-le (b ∷ bs) = elim (has_line_feed (b ∷ bs)) as (λ t. cond t 1 0 ≤ length (b ∷ bs)) [ true ↦ omega arith | false ↦ omega arith ]

-- bytes that pass no limit have tests that say so
none_tests : (number : ℕ) (eol long large : Bool) (rest : Option LineFault)
    → option_or (cond (not eol && long) (Some (LineTooLong number)) (cond large (Some (InputTooLarge number)) None)) rest ≡ None
    → ((not eol && long) ≡ false) × (large ≡ false) × (rest ≡ None)
none_tests number true long false rest none = (refl, refl, none)
none_tests number true long true rest none = absurd (cc)
none_tests number false false false rest none = (refl, refl, none)
none_tests number false false true rest none = absurd (cc)
none_tests number false true large rest none = absurd (cc)

-- a refusal names its line
names_by_tests : (number : ℕ) (long large : Bool) (rest : Option LineFault) (fault : LineFault)
    → ((rest ≡ Some fault) → (fault ≡ LineTooLong number) ⊎ (fault ≡ InputTooLarge number))
    → option_or (cond long (Some (LineTooLong number)) (cond large (Some (InputTooLarge number)) None)) rest ≡ Some fault
    → (fault ≡ LineTooLong number) ⊎ (fault ≡ InputTooLarge number)
names_by_tests number true large rest fault later is = inl (cc)
names_by_tests number false true rest fault later is = inr (cc)
names_by_tests number false false rest fault later is = later is

module _ (longest largest number : ℕ) where
  passed_names : (at before : ℕ) (bytes : List ℕ) (fault : LineFault) → first_passed longest largest number at before bytes ≡ Some fault
      → (fault ≡ LineTooLong number) ⊎ (fault ≡ InputTooLarge number)
  passed_names at before [] fault is = absurd (cc)
  passed_names at before (b ∷ bs) fault is =
      names_by_tests number (not (eqb b 10) && nat_le longest at) (nat_le largest before) _ fault (passed_names (at + 1) (before + 1) bs fault) is

  -- what is refused stays refused, whatever bytes come after it
  passed_more : (at before : ℕ) (bytes more : List ℕ) (fault : LineFault) → first_passed longest largest number at before bytes ≡ Some fault
      → first_passed longest largest number at before (bytes ++ more) ≡ Some fault
  passed_more at before [] more fault is = absurd (cc)
  passed_more at before (b ∷ bs) more fault is =
      elim (passed_by longest largest number at before b) as
      (λ first. option_or first (first_passed longest largest number (at + 1) (before + 1) bs) ≡ Some fault
      → option_or first (first_passed longest largest number (at + 1) (before + 1) (bs ++ more)) ≡ Some fault)
      [ None ↦ passed_more (at + 1) (before + 1) bs more fault | Some f ↦ (λ e. e) ]
      is

  -- what passes no limit is within both
  passed-none : (at before : ℕ) (piece : List ℕ) → first_piece piece ≡ piece → at ≤ longest → before ≤ largest
      → first_passed longest largest number at before piece ≡ None
      → (before + length piece ≤ largest) × (at + length piece ≤ longest + cond (has_line_feed piece) 1 0)
  passed-none at before [] one low within none = (omega arith, omega arith)
  passed-none at before (b ∷ bs) one low within none = by (passed-none (at + 1) (before + 1) bs) (eqb b 10) refl
    where
      tests : ((not (eqb b 10) && nat_le longest at) ≡ false) × (nat_le largest before ≡ false)
          × (first_passed longest largest number (at + 1) (before + 1) bs ≡ None)
      tests = none_tests number (eqb b 10) (nat_le longest at) (nat_le largest before) _ none

      small : nat_le largest before ≡ false → before < largest
      small = grind (arith, nat_tests)

      short : nat_le longest at ≡ false → at < longest
      short = grind (arith, nat_tests)

      by : (first_piece bs ≡ bs → at + 1 ≤ longest → before + 1 ≤ largest → first_passed longest largest number (at + 1) (before + 1) bs ≡ None
          → (before + 1 + length bs ≤ largest) × (at + 1 + length bs ≤ longest + cond (has_line_feed bs) 1 0))
          → (eol : Bool) → eqb b 10 ≡ eol → (before + length (b ∷ bs) ≤ largest) × (at + length (b ∷ bs) ≤ longest + cond (has_line_feed (b ∷ bs)) 1 0)
      by next true ended =
          let tail : (b ∷ []) ≡ b ∷ bs = rw ended at one in
          let none_left : bs ≡ [] = cc in
          rw (ended, none_left) (omega (arith, small tests.1), omega arith)
      by next false open_ =
          let tail : (b ∷ first_piece bs) ≡ b ∷ bs = rw open_ at one in
          let rest : first_piece bs ≡ bs = cc in
          let long : nat_le longest at ≡ false = rw open_ at tests.0 in
          let later = next rest (omega (arith, short long)) (omega (arith, small tests.1)) tests.2 in
          rw open_ (omega (arith, later.0), omega (arith, later.1))

  -- a piece's numbers of bytes tell its refusal
  passed-by_counts : (at before body all : ℕ) (piece : List ℕ) → first_piece piece ≡ piece → at ≤ longest → before ≤ largest
      → all ≡ length piece → body + cond (has_line_feed piece) 1 0 ≡ all
      → first_passed longest largest number at before piece
      ≡ cond (nat_lt longest (at + body) && nat_le (before + (longest - at)) largest) (Some (LineTooLong number))
      (cond (nat_lt largest (before + all)) (Some (InputTooLarge number)) None)
  passed-by_counts at before body all [] one low within all_is body_is =
      let short : nat_lt longest (at + body) ≡ false = grind (arith, nat_tests) in
      let small : nat_lt largest (before + all) ≡ false = grind (arith, nat_tests) in
      rw (short, small) refl
  passed-by_counts at before body all (b ∷ bs) one low within all_is body_is =
      by (passed-by_counts (at + 1) (before + 1) (body - 1) (all - 1) bs) (eqb b 10) refl (nat_le longest at) refl (nat_le largest before) refl
    where
      Says : ℕ → ℕ → ℕ → Option LineFault
      Says reach short whole =
          cond (nat_lt longest reach && nat_le short largest) (Some (LineTooLong number))
          (cond (nat_lt largest whole) (Some (InputTooLarge number)) None)

      by : (first_piece bs ≡ bs → at + 1 ≤ longest → before + 1 ≤ largest → all - 1 ≡ length bs → (body - 1) + cond (has_line_feed bs) 1 0 ≡ all - 1
          → first_passed longest largest number (at + 1) (before + 1) bs
          ≡ Says ((at + 1) + (body - 1)) ((before + 1) + (longest - (at + 1))) ((before + 1) + (all - 1)))
          → (eol : Bool) → eqb b 10 ≡ eol → (long : Bool) → nat_le longest at ≡ long → (large : Bool) → nat_le largest before ≡ large
          → first_passed longest largest number at before (b ∷ bs) ≡ Says (at + body) (before + (longest - at)) (before + all)
      by next true ended long el large em =
          let tail : (b ∷ []) ≡ b ∷ bs = rw ended at one in
          let none_left : bs ≡ [] = cc in
          let one_byte : all ≡ 1 = rw none_left at all_is in
          let no_body : body + 1 ≡ all = rw (ended) at body_is in
          let short : nat_lt longest (at + body) ≡ false = grind (arith, nat_tests) in
          let same : nat_lt largest (before + all) ≡ nat_le largest before = rw one_byte (grind (arith, nat_tests)) in
          rw (ended, none_left, short, same, em) (elim large as
          (λ t. option_or (cond t (Some (InputTooLarge number)) None) None
          ≡ cond t (Some (InputTooLarge number)) None) [ true ↦ refl | false ↦ refl ])
      by next false open_ true el large em =
          let ends : body + cond (has_line_feed bs) 1 0 ≡ all = rw open_ at body_is in
          let reached : nat_lt longest (at + body) ≡ true = grind (arith, nat_tests, line_feed-le) in
          let first : nat_le (before + (longest - at)) largest ≡ true = grind (arith, nat_tests) in
          rw (open_, el, reached, first) refl
      by next false open_ false el true em =
          let later : nat_le (before + (longest - at)) largest ≡ false = grind (arith, nat_tests) in
          let over : nat_lt largest (before + all) ≡ true = grind (arith, nat_tests) in
          rw (open_, el, em, later, over) (elim (nat_lt longest (at + body)) as
          (λ t. Some (InputTooLarge number) ≡ cond (t && false) (Some (LineTooLong number))
          (Some (InputTooLarge number))) [ true ↦ refl | false ↦ refl ])
      by next false open_ false el false em =
          let tail : (b ∷ first_piece bs) ≡ b ∷ bs = rw open_ at one in
          let rest : first_piece bs ≡ bs = cc in
          let ends : body + cond (has_line_feed bs) 1 0 ≡ all = rw open_ at body_is in
          let short : at < longest = grind (arith, nat_tests) in
          let small : before < largest = grind (arith, nat_tests) in
          let some : 0 < body = omega (arith, line_feed-le bs) in
          let reach : (at + 1) + (body - 1) ≡ at + body = omega arith in
          let place : (before + 1) + (longest - (at + 1)) ≡ before + (longest - at) = omega arith in
          let whole : (before + 1) + (all - 1) ≡ before + all = omega arith in
          let said = next rest (omega arith) (omega arith) (omega arith) (omega arith) in
          rw (open_, el, em) (said ∙ rw (reach, place, whole) refl)

-- the last byte of a piece is a line feed where it has one
last_of_piece : (piece : List ℕ) → first_piece piece ≡ piece → eqb (get_or piece (length piece - 1) 0) 10 ≡ has_line_feed piece
last_of_piece [] one = refl
last_of_piece (b ∷ []) one = elim (eqb b 10) as (λ t. t ≡ (t || false)) [ true ↦ refl | false ↦ refl ]
last_of_piece (b ∷ c ∷ cs) one =
    let later : length (b ∷ c ∷ cs) - 1 ≡ suc (length (c ∷ cs) - 1) = omega arith in
    rw later
    (elim (eqb b 10) as
    (λ t. (b ∷ cond t [] (first_piece (c ∷ cs))) ≡ b ∷ c ∷ cs → eqb (get_or (c ∷ cs) (length (c ∷ cs) - 1) 0) 10 ≡ (t || has_line_feed (c ∷ cs)))
    [ true ↦ (λ no. cc) | false ↦ (λ tail. let rest : first_piece (c ∷ cs) ≡ c ∷ cs = cc in last_of_piece (c ∷ cs) rest) ]
    one)

-- bytes without one at their end are no more than they were
pub length-without_last-le : (b : ℕ) (bytes : List ℕ) → length (without_last b bytes) ≤ length bytes
length-without_last-le b bytes =
    elim (eqb (get_or bytes (length bytes - 1) 0) b) as (λ t. length (cond t (take (length bytes - 1) bytes) bytes) ≤ length bytes)
    [ true ↦ omega (arith, length-take (length bytes - 1) bytes) | false ↦ omega arith ]

-- a piece is as long as its body and its line feed
pub length-body : (piece : List ℕ) → first_piece piece ≡ piece → length (body_of piece) + cond (has_line_feed piece) 1 0 ≡ length piece
length-body [] one = refl
length-body (b ∷ bs) one =
    let piece = b ∷ bs in
    let some : 0 < length piece = omega arith in
    rw (← (last_of_piece piece one))
    (elim (eqb (get_or piece (length piece - 1) 0) 10) as (λ t. length (cond t (take (length piece - 1) piece) piece) + cond t 1 0 ≡ length piece)
    [ true ↦ omega (arith, length-take (length piece - 1) piece) | false ↦ omega arith ])

-- a line feed counts for one byte at most
pub line_feed-most : (bytes : List ℕ) → cond (has_line_feed bytes) 1 0 ≤ 1
line_feed-most bytes = elim (has_line_feed bytes) as (λ t. cond t 1 0 ≤ 1) [ true ↦ omega arith | false ↦ omega arith ]

-- what is refused stays refused, however the line goes on
pub refusal_more : RefusalStands
unfolding refusal
refusal_more number before begun more fault is = passed_more 1048576 268435456 number 0 before begun more fault is

-- so it is of the first piece of bytes, whatever bytes come after them
pub refusal_first : FirstRefusalStands
refusal_first number before bytes more fault is = first_by (has_line_feed bytes) refl
  where
    first_by : (t : Bool) → has_line_feed bytes ≡ t → refusal number before (first_piece (bytes ++ more)) ≡ Some fault
    first_by true ended = rw (first_piece-append_after bytes more ended) is
    first_by false open_ =
        let P = λ (piece : List ℕ). refusal number before piece ≡ Some fault in
        rw (first_piece-append bytes more open_) (refusal_more number before bytes (first_piece more) fault (subst P (first_piece_open bytes open_) is))

-- a refusal names its line
pub refusal_names : (number before : ℕ) (piece : List ℕ) (fault : LineFault) → refusal number before piece ≡ Some fault
    → (fault ≡ LineTooLong number) ⊎ (fault ≡ InputTooLarge number)
unfolding refusal
refusal_names number before piece fault is = passed_names 1048576 268435456 number 0 before piece fault is

-- the refusal of a piece, as a test of its numbers of bytes tells it
pub refusal_by_length : (number before body all : ℕ) (held taken : List ℕ) → before ≤ 268435456 → has_line_feed held ≡ false → first_piece taken ≡ taken
    → all ≡ length held + length taken → body + cond (has_line_feed taken) 1 0 ≡ all
    → refusal number before (held ++ taken) ≡ refusal_by_counts 1048576 268435456 number before body all
unfolding refusal
refusal_by_length number before body all held taken within open_ one all_is body_is =
    let piece = held ++ taken in
    let whole : first_piece piece ≡ piece = first_piece-append held taken open_ ∙ ap (λ r. held ++ r) one in
    let both : all ≡ length piece = all_is ∙ sym (length-append held taken) in
    let ends : body + cond (has_line_feed piece) 1 0 ≡ all = rw (has_line_feed-append held taken open_) body_is in
    let from_0 : 0 + body ≡ body = omega arith in
    passed-by_counts 1048576 268435456 number 0 before body all piece whole (omega arith) within both ends ∙ rw from_0 refl

-- what passes no limit is within both
pub refusal-none : (number before : ℕ) (piece : List ℕ) → before ≤ 268435456 → first_piece piece ≡ piece → refusal number before piece ≡ None
    → (before + length piece ≤ 268435456) × (length piece ≤ 1048576 + cond (has_line_feed piece) 1 0)
unfolding refusal
refusal-none number before piece within one none =
    let both = passed-none 1048576 268435456 number 0 before piece one (omega arith) within none in
    (both.0, omega (arith, both.1))

-- no bytes pass a limit
pub refusal-empty : (number before : ℕ) → refusal number before [] ≡ None
unfolding refusal
refusal-empty number before = refl
