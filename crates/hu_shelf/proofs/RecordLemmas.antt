-- Records as lines, one after the other.
use Rattle.std.proofs.Common.{◌≡◌, ℕ, ◌+◌, ◌<◌, ◌≤◌, ◌^◌, ◌==◌, ℤ, Bool, true, false, Option, None, Some, List, [], ◌∷◌}
use Rattle.std.proofs.Common.{◌++◌, length, take, get_or, filter_map, refl, ap, sym, ◌∙◌, append_assoc, append-nil}
use Rattle.std.proofs.Common.{arith, ◌⊎◌, inl, inr}
use Rattle.std.specs.List.{All, position_or_len, slice_split}
use Rattle.std.specs.Option.{option_to_list}
use Rattle.std.proofs.lemmas.List.{drop_all, take_all, take_more}
use Rattle.std.proofs.lemmas.List.Splits.{slice_split_first, slice_split_none}
use Rattle.std.proofs.lemmas.List.Sums.{fails_before_first, sum_by-append}
use Rattle.std.proofs.lemmas.List.Elements.{All-nil, All-cons, All-append}
use Rattle.std.proofs.lemmas.Bool.{cases_order}
use Rattle.std.proofs.lemmas.Grind.{flat_map-append}
use Rattle.std.specs.List.{cons_option}
use Rattle.hu_base.specs.Base.{carried_of, records_of, sum_of}
use Rattle.hu_kind.specs.Record.{absolute_of}
use Rattle.hu_shelf.specs.Store.{IsWritten, after_byte, before_byte, record_in, record_text, records_in, records_text}
use Rattle.hu_shelf.specs.Shelf.{Adds, absolute_sum}

-- the first line of a text, and then the others
pub records_in-cut : (text : List ℕ) → records_in text ≡ option_to_list (record_in (before_byte 10 text)) ++ records_in (after_byte 10 text)
records_in-cut text =
    elim (split_at (position_or_len (λ b. b == 10) text) (length text)) [
      | inl within ↦ ap (filter_map record_in) (slice_split_first (λ b. b == 10) text 0 within)
          ∙ chosen (record_in (before_byte 10 text)) (records_in (after_byte 10 text))
      | inr past ↦ last past
    ]
  where
    split_at : (a b : ℕ) → (a < b) ⊎ (b ≤ a)
    split_at a b = elim (cases_order a b) [ inl same ↦ inr (omega arith) | inr other ↦ elim other [ inl less ↦ inl less | inr more ↦ inr (omega arith) ] ]

    chosen : (found : Option (List (ℕ × ℤ))) (more : List (List (ℕ × ℤ))) → cons_option found more ≡ option_to_list found ++ more
    chosen None more = refl
    chosen (Some one) more = refl

    last : length text ≤ position_or_len (λ b. b == 10) text
        → records_in text ≡ option_to_list (record_in (before_byte 10 text)) ++ records_in (after_byte 10 text)
    last past =
        let one : slice_split (λ b. b == 10) text ≡ text ∷ [] =
        slice_split_none (λ b. b == 10) text (λ k d within. fails_before_first (λ b. b == 10) text k d (omega arith)) in
        let before : before_byte 10 text ≡ text = take_all (position_or_len (λ b. b == 10) text) text past in
        let after : after_byte 10 text ≡ [] = drop_all (position_or_len (λ b. b == 10) text + 1) text (omega arith) in
        ap (filter_map record_in) one
        ∙ chosen (record_in text) []
        ∙ ap (λ line. option_to_list (record_in line) ++ []) (sym before)
        ∙ ap (λ rest. option_to_list (record_in (before_byte 10 text)) ++ records_in rest) (sym after)

-- of a text, the lines before the rest told these records
pub record ReadSoFar (text : List ℕ) (base : ℕ × List (List (ℕ × ℤ))) (rest : List ℕ) : Type 0 where
  pub carried : carried_of base ≡ 0
  pub records : records_in text ≡ records_of base ++ records_in rest

read_more : (text rest : List ℕ) (base : ℕ × List (List (ℕ × ℤ))) → ReadSoFar text base rest
    → ReadSoFar text (carried_of base, records_of base ++ option_to_list (record_in (before_byte 10 rest))) (after_byte 10 rest)
read_more text rest base so_far = record {
  carried = so_far.carried;
  records = so_far.records ∙ ap (λ more. records_of base ++ more) (records_in-cut rest)
      ∙ sym (append_assoc (records_of base) (option_to_list (record_in (before_byte 10 rest))) (records_in (after_byte 10 rest)));
}

-- where the sums pass the limit, they do with all lines
large_by : (text rest : List ℕ) (base : ℕ × List (List (ℕ × ℤ))) → ReadSoFar text base rest
    → 2 ^ 127 ≤ sum_of absolute_of base + absolute_sum (option_to_list (record_in (before_byte 10 rest))) → 2 ^ 127 ≤ absolute_sum (records_in text)
large_by text rest base so_far large =
    let more = read_more text rest base so_far in
    omega (
      arith,
      large,
      so_far.carried,
      ap absolute_sum more.records,
      sum_by-append absolute_of (records_of base ++ option_to_list (record_in (before_byte 10 rest))) (records_in (after_byte 10 rest)),
      sum_by-append absolute_of (records_of base) (option_to_list (record_in (before_byte 10 rest))),
    )

-- a line that was added, or had no room
pub read_on : (text line more rest : List ℕ) (base new : ℕ × List (List (ℕ × ℤ))) (room : Bool) → ReadSoFar text base rest
    → line ≡ before_byte 10 rest → more ≡ after_byte 10 rest → Adds room base new (option_to_list (record_in line)) → room ≡ true → ReadSoFar text new more
read_on text line more rest base new true so_far first then added fits =
    rw (then, added, first) (read_more text rest base so_far)
read_on text line more rest base new false so_far first then added fits = absurd (cc)

pub read_stops : (text line rest : List ℕ) (base new : ℕ × List (List (ℕ × ℤ))) (room : Bool) → ReadSoFar text base rest
    → line ≡ before_byte 10 rest → Adds room base new (option_to_list (record_in line)) → room ≡ false → 2 ^ 127 ≤ absolute_sum (records_in text)
read_stops text line rest base new true so_far first added large = absurd (cc)
read_stops text line rest base new false so_far first added large =
    large_by text rest base so_far (rw (← first) added)

-- ---- records are written one after the other

pub record ArePushed (old new : List ℕ) (records : List (List (ℕ × ℤ))) : Type 0 where
  pub text : new ≡ old ++ records_text records
  pub written : All IsWritten records

pub pushed_more : (old now new : List ℕ) (records : List (List (ℕ × ℤ))) (i : ℕ) (one : List (ℕ × ℤ)) → i < length records → one ≡ get_or records i one
    → ArePushed old now (take i records) → new ≡ now ++ record_text one → IsWritten one → ArePushed old new (take (i + 1) records)
pushed_more old now new records i one within is so_far next written =
    let more : take (i + 1) records ≡ take i records ++ one ∷ [] = take_more records i one within ∙ ap (λ last. take i records ++ last ∷ []) (sym is) in
    record {
      text = next
          ∙ ap (λ text. text ++ record_text one) so_far.text
          ∙ append_assoc old (records_text (take i records)) (record_text one)
          ∙ ap (λ last. old ++ (records_text (take i records) ++ last)) (sym (append-nil (record_text one)))
          ∙ ap (λ text. old ++ text) (sym (flat_map-append record_text (take i records) (one ∷ [])))
          ∙ ap (λ list. old ++ records_text list) (sym more);
      written = rw more (All-append IsWritten (take i records) (one ∷ []) so_far.written (All-cons IsWritten one [] written (All-nil IsWritten)));
    }
