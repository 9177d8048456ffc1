-- A text of lines that each say a record is read as these records, and so are files of such texts.
use Rattle.std.proofs.Common.{◌≡◌, ℕ, ◌+◌, ◌<◌, ◌≤◌, ◌^◌, ◌==◌, false, Option, None, Some, Result, Ok, Err, List, []}
use Rattle.std.proofs.Common.{◌∷◌, length, map, slice_index, sum_by, refl, ap, ◌∙◌, length-append, arith, flat_map, ◌⊎◌}
use Rattle.std.proofs.Common.{inl, inr}
use Rattle.std.specs.Prelude.{nat_le}
use Rattle.std.specs.Int.{IsInRange}
use Rattle.std.specs.List.{AllByRecursion, AllZip}
use Rattle.std.specs.Option.{option_map, option_map_or}
use Rattle.std.proofs.lemmas.Bool.{lt-ltb}
use Rattle.std.proofs.lemmas.Bool.Decides.{nat_tests}
use Rattle.std.proofs.lemmas.List.Sums.{sum_by-cons, sum_by-append}
use Rattle.hu_kind.proofs.lemmas.Each.{each-left, each-right, each-weaker}
use Rattle.hu_lines.specs.Limits.{first_passed, refusal}
use Rattle.hu_lines.specs.Pieces.{line_of}
use Rattle.hu_lines.specs.Skipped.{is_skipped_line}
use Rattle.hu_input.specs.declared.reason.Reason.{Reason}
use Rattle.hu_input.specs.Input.{Unread, with_front, line_record, piece_record, after_line, records_from, records_of}
use Rattle.hu_input.specs.Input.{after_file, content_length, input_from, input, limit_reason}
use Rattle.hu_kind.proofs.lemmas.Written.{Lacks}
use Rattle.hu_text.specs.Texts.{AreFilesOf, all_of}
use Rattle.hu_text.proofs.lemmas.Lines.{IsLine, fed, line_of-fed, pieces-written}

-- a line says a record, and stands as it is where a line feed follows it
pub record Says {R : Type 0} (reading : List ℕ → Result R Reason) (line : List ℕ) (r : R) : Type 0 where
  pub said : reading line ≡ Ok r
  pub whole : IsLine line
  pub short : length line ≤ 1048576
  pub begins : IsInRange 48 57 (slice_index line 0)

-- ---- it passes no limit

below : (a b : ℕ) → a < b → nat_le b a ≡ false
below a b h = grind (arith, nat_tests)

passed-fed : (longest largest number at before : ℕ) (line : List ℕ) → Lacks 10 line → at + length line ≤ longest → before + length line + 1 ≤ largest
    → first_passed longest largest number at before (fed line) ≡ None
passed-fed longest largest number at before [] lacks short small = rw (below before largest (omega arith)) refl
passed-fed longest largest number at before (b ∷ bs) lacks short small =
    rw (lacks.0, below at longest (omega arith), below before largest (omega arith))
    (passed-fed longest largest number (at + 1) (before + 1) bs lacks.1 (omega arith) (omega arith))

refusal-fed : (number before : ℕ) (line : List ℕ) → Lacks 10 line → length line ≤ 1048576 → before + length (fed line) ≤ 268435456
    → refusal number before (fed line) ≡ None
unfolding refusal
refusal-fed number before line lacks short small =
    passed-fed 1048576 268435456 number 0 before line lacks (omega arith) (omega (arith, length-append line (10 ∷ [])))

-- ---- it isn't skipped

digit_other : (b d : ℕ) → IsInRange 48 57 d → (b < 48) ⊎ (57 < b) → (d == b) ≡ false
digit_other b d range h = grind (arith, nat_tests)

not_skipped : (line : List ℕ) → IsInRange 48 57 (slice_index line 0) → is_skipped_line line ≡ false
not_skipped [] range = absurd (omega (arith, range))
not_skipped (d ∷ ds) range =
    let low : (b : ℕ) → b < 48 → (d == b) ≡ false = λ b h. digit_other b d range (inl h) in
    rw (low 32 (omega arith), low 35 (omega arith), low 37 (omega arith), digit_other 64 d range (inr (omega arith))) refl

-- ---- so the records are those of a file, and of files

module _ {R : Type 0} (reading : List ℕ → Result R Reason) (absolute : R → ℕ) (line : R → List ℕ) where
  abbrev pub AreSaid : List R → Type 0
  AreSaid records = AllByRecursion (λ r. Says reading (line r) r) records

  -- a text of their lines
  abbrev pub text : List R → List ℕ
  text records = flat_map (λ r. fed (line r)) records

  piece-said : (number before sum : ℕ) (r : R) → Says reading (line r) r → before + length (fed (line r)) ≤ 268435456 → sum + absolute r < 2 ^ 127
      → piece_record reading absolute number before sum (fed (line r)) ≡ Ok (Some r)
  piece-said number before sum r says small fits =
      let told : line_record reading absolute sum (line r) ≡ Ok (Some r) =
      rw (not_skipped (line r) says.begins, says.said, lt-ltb (sum + absolute r) (2 ^ 127) fits) refl in
      let passes = refusal-fed number before (line r) says.whole.no_feed says.short small in
      ap (λ o. option_map_or (λ fault. Err (limit_reason fault)) o (line_record reading absolute sum (line_of (fed (line r))))) passes
      ∙ ap (line_record reading absolute sum) (line_of-fed (line r) says.whole.no_return)
      ∙ told

  from-said : (number before sum : ℕ) (records : List R) → AreSaid records → before + length (text records) ≤ 268435456
      → sum + sum_by absolute records < 2 ^ 127
      → records_from reading absolute number before sum (map (λ r. fed (line r)) records) ≡ Ok records
  from-said number before sum [] says small fits = refl
  from-said number before sum (r ∷ rs) says small fits =
      let more = sum_by-cons absolute r rs in
      let bytes = length-append (fed (line r)) (text rs) in
      let after = before + length (fed (line r)) in
      let later_pieces = map (λ s. fed (line s)) rs in
      let one = piece-said number before sum r says.0 (omega (arith, bytes)) (omega (arith, more)) in
      let later = from-said (number + 1) after (sum + absolute r) rs says.1 (omega (arith, bytes)) (omega (arith, more)) in
      ap (λ o. after_line reading absolute number sum o (λ s. records_from reading absolute (number + 1) after s later_pieces)) one
      ∙ ap (with_front (r ∷ [])) later

  -- a text of lines that say records has these
  pub records-said : (before sum : ℕ) (records : List R) → AreSaid records → before + length (text records) ≤ 268435456
      → sum + sum_by absolute records < 2 ^ 127 → records_of reading absolute before sum (text records) ≡ Ok records
  records-said before sum records says small fits =
      let are_lines = each-weaker (λ r. Says reading (line r) r) (λ r. IsLine (line r)) records (λ r is. is.whole) says in
      ap (records_from reading absolute 1 before sum) (pieces-written line records are_lines) ∙ from-said 1 before sum records says small fits

  files-said : (contents : List ℕ → Option (List ℕ)) (before sum : ℕ) (names : List (List ℕ)) (lists : List (List R))
      → AllZip (λ name records. contents name ≡ Some (text records)) names lists → AreSaid (all_of lists)
      → before + sum_by (λ records. length (text records)) lists ≤ 268435456 → sum + sum_by absolute (all_of lists) < 2 ^ 127
      → input_from reading absolute contents before sum names ≡ Ok (all_of lists)
  files-said contents before sum [] [] each says small fits = refl
  files-said contents before sum [] (l ∷ ls) each says small fits = absurd each
  files-said contents before sum (n ∷ ns) [] each says small fits = absurd each
  files-said contents before sum (n ∷ ns) (l ∷ ls) each says small fits =
      let P : R → Type 0 = λ r. Says reading (line r) r in
      let Next : ℕ → ℕ → Result (List R) Unread = λ bytes s. input_from reading absolute contents (before + bytes) s ns in
      let bytes = sum_by-cons (λ records. length (text records)) l ls in
      let sums = sum_by-append absolute l (all_of ls) in
      let first = records-said before sum l (each-left P l (all_of ls) says) (omega (arith, bytes)) (omega (arith, sums)) in
      let later =
      files-said contents (before + length (text l)) (sum + sum_by absolute l) ns ls each.1 (each-right P l (all_of ls) says)
      (omega (arith, bytes)) (omega (arith, sums)) in
      ap (λ o. after_file reading absolute n sum (option_map (records_of reading absolute before sum) o) (Next (content_length reading absolute o))) each.0
      ∙ ap (λ o. after_file reading absolute n sum (Some o) (Next (length (text l)))) first
      ∙ ap (with_front l) later

  -- and files of such texts have them all
  pub input-said : (contents : List ℕ → Option (List ℕ)) (names : List (List ℕ)) (lists : List (List R)) → AreFilesOf text contents names lists
      → AreSaid (all_of lists) → sum_by absolute (all_of lists) < 2 ^ 127 → input reading absolute contents names ≡ Ok (all_of lists)
  input-said contents names lists are says fits = files-said contents 0 0 names lists are.each says (omega (arith, are.bytes)) (omega arith)
