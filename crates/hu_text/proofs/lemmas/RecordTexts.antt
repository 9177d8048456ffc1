-- Texts of transactions and of sequences are read as these again.
use Rattle.std.proofs.Common.{◌≡◌, ℕ, ◌<◌, ◌≤◌, ◌^◌, ◌==◌, ℤ, unsigned_abs, false, List, [], ◌∷◌, map, refl, ap, arith, sum_by, decimal}
use Rattle.std.specs.Fmt.{signed_decimal}
use Rattle.std.specs.List.{AllByRecursion, join_with_byte}
use Rattle.std.specs.Result.{result_map_both}
use Rattle.std.proofs.lemmas.Int.{ints}
use Rattle.std.proofs.lemmas.List.Sums.{sum_by-cons}
use Rattle.hu_kind.proofs.lemmas.Each.{each-append, each-from_all, each-weaker}
use Rattle.hu_kind.specs.Record.{absolute_of, total, IsRecord}
use Rattle.hu_kind.specs.Sequence.{IsSequence}
use Rattle.hu_trans.specs.Canonical.{canonical_line}
use Rattle.hu_trans.proofs.lemmas.Written as trans
use Rattle.hu_seq.specs.Canonical.{canonical_line as sequence_line}
use Rattle.hu_seq.proofs.lemmas.Written as seq
use Rattle.hu_kind.proofs.lemmas.Written.{Lacks, written-decimal, written-signed_decimal}
use Rattle.hu_input.specs.declared.reason.Reason.TheVariants.{Transaction, Sequence}
use Rattle.hu_input.specs.Formats.{transaction_reading, sequence_reading}
use Rattle.hu_text.specs.RecordLaws.{RecordsAreReadAgain, RecordsAreInput, SequencesAreReadAgain, SequencesAreInput}
use Rattle.hu_text.specs.Texts.{all_of}
use Rattle.hu_text.proofs.lemmas.Inputs.{Says, records-said, input-said}

-- ---- the line of a transaction has no carriage return

join-lacks : (byte c : ℕ) (texts : List (List ℕ)) → (c == byte) ≡ false → AllByRecursion (Lacks byte) texts → Lacks byte (join_with_byte c texts)
join-lacks byte c [] other all = tt
join-lacks byte c (x ∷ []) other all = all.0
join-lacks byte c (x ∷ y ∷ xs) other all =
    each-append (λ b. (b == byte) ≡ false) x (c ∷ join_with_byte c (y ∷ xs)) all.0 (other, join-lacks byte c (y ∷ xs) other all.1)

-- the items and values of cells are small
small : (cells : List (ℕ × ℤ)) → AllByRecursion (λ c. c.0 ≤ 2147483647) cells → absolute_of cells < 2 ^ 127
    → AllByRecursion (λ c. (c.0 < 2 ^ 127) × (unsigned_abs c.1 < 2 ^ 127)) cells
small [] range fits = tt
small (c ∷ cs) range fits =
    let sum = sum_by-cons (λ (cell : ℕ × ℤ). unsigned_abs cell.1) c cs in
    ((omega (arith, range.0), omega (arith, sum)), small cs range.1 (omega (arith, sum)))

total-within : (cells : List (ℕ × ℤ)) → unsigned_abs (total cells) ≤ absolute_of cells
total-within [] = omega (arith, ints)
total-within (c ∷ cs) = omega (arith, ints, sum_by-cons (λ (cell : ℕ × ℤ). unsigned_abs cell.1) c cs, total-within cs)

items-lack : (byte : ℕ) (cells : List (ℕ × ℤ)) → byte < 45 → AllByRecursion (λ c. (c.0 < 2 ^ 127) × (unsigned_abs c.1 < 2 ^ 127)) cells
    → AllByRecursion (Lacks byte) (map (λ cell. decimal cell.0) cells)
items-lack byte [] low all = tt
items-lack byte (c ∷ cs) low all = ((written-decimal c.0 all.0.0).low byte low, items-lack byte cs low all.1)

values-lack : (byte : ℕ) (cells : List (ℕ × ℤ)) → byte < 45 → AllByRecursion (λ c. (c.0 < 2 ^ 127) × (unsigned_abs c.1 < 2 ^ 127)) cells
    → AllByRecursion (Lacks byte) (map (λ cell. signed_decimal cell.1) cells)
values-lack byte [] low all = tt
values-lack byte (c ∷ cs) low all = ((written-signed_decimal c.1 all.0.1).low byte low, values-lack byte cs low all.1)

no_return : (cells : List (ℕ × ℤ)) → IsRecord cells → Lacks 13 (canonical_line cells)
no_return cells rules =
    let fits = small cells (each-from_all (λ c. c.0 ≤ 2147483647) cells rules.itemset.in_range) rules.sum_fits in
    let sum : unsigned_abs (total cells) < 2 ^ 127 = omega (arith, total-within cells, rules.sum_fits) in
    join-lacks 13 58
    (join_with_byte 32 (map (λ cell. decimal cell.0) cells) ∷ signed_decimal (total cells) ∷ join_with_byte 32 (map (λ cell. signed_decimal cell.1) cells) ∷ [])
    refl (
      join-lacks 13 32 (map (λ cell. decimal cell.0) cells) refl (items-lack 13 cells (omega arith) fits),
      (
        (written-signed_decimal (total cells) sum).low 13 (omega arith),
        (join-lacks 13 32 (map (λ cell. signed_decimal cell.1) cells) refl (values-lack 13 cells (omega arith) fits), tt),
      ),
    )

-- ---- the lines say the records

record-says : (cells : List (ℕ × ℤ)) → IsRecord cells → Says transaction_reading (canonical_line cells) cells
record-says cells rules =
    let plain = trans.canonical-plain cells rules in
    record {
      said = ap (result_map_both (λ c. c) Transaction) (trans.canonical-read cells rules);
      whole = record { no_feed = each-from_all (λ b. (b == 10) ≡ false) (canonical_line cells) plain.no_feed; no_return = no_return cells rules };
      short = plain.short;
      begins = plain.begins;
    }

sequence-says : (elements : List (List (ℕ × ℤ))) → IsSequence elements → Says sequence_reading (sequence_line elements) elements
sequence-says elements rules =
    let plain = seq.canonical-plain elements rules in
    record {
      said = ap (result_map_both (λ e. e) Sequence) (seq.canonical-read elements rules);
      whole = record { no_feed = seq.canonical-no_feed elements rules; no_return = seq.canonical-no_return elements rules };
      short = plain.short;
      begins = plain.begins;
    }

pub records_are_read_again : RecordsAreReadAgain
records_are_read_again records are small =
    let says = each-weaker IsRecord (λ r. Says transaction_reading (canonical_line r) r) records record-says are.lawful in
    records-said transaction_reading absolute_of canonical_line 0 0 records says (omega (arith, small)) (omega (arith, are.sum_fits))

pub records_are_input : RecordsAreInput
records_are_input contents names lists files are =
    let says = each-weaker IsRecord (λ r. Says transaction_reading (canonical_line r) r) (all_of lists) record-says are.lawful in
    input-said transaction_reading absolute_of canonical_line contents names lists files says are.sum_fits

pub sequences_are_read_again : SequencesAreReadAgain
sequences_are_read_again records are small =
    let says = each-weaker IsSequence (λ r. Says sequence_reading (sequence_line r) r) records sequence-says are.lawful in
    records-said sequence_reading (sum_by absolute_of) sequence_line 0 0 records says (omega (arith, small)) (omega (arith, are.sum_fits))

pub sequences_are_input : SequencesAreInput
sequences_are_input contents names lists files are =
    let says = each-weaker IsSequence (λ r. Says sequence_reading (sequence_line r) r) (all_of lists) sequence-says are.lawful in
    input-said sequence_reading (sum_by absolute_of) sequence_line contents names lists files says are.sum_fits
