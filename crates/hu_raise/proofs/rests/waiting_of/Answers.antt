use Rattle.std.proofs.Common.{◌≡◌, ◌∙◌, ◌+◌, ◌<◌, ◌++◌, [], ℕ, ℤ, List, map, length, get_or, take, drop, replicate, ap, sym, subst, arith, rules}
use Rattle.std.proofs.Common.{fold, FitsSigned, to_z, of_z, Vec, Global}
use Rattle.std.specs.Int.{w128}
use Rattle.std.specs.List.{AllByRecursion, flat_map}
use Rattle.std.proofs.lemmas.Int.{to_z-of_z}
use Rattle.std.proofs.lemmas.List.{drop_more, length-append, length-map, length-replicate, take_all}
use Rattle.std.proofs.lemmas.List.Sums.{get_or-le-sum_by}
use Rattle.std.proofs.Math.Seq.{take-append_seam, drop-append_seam}
use Rattle.hu_kind.specs.Record.{absolute_of, gain, items_in}
use Rattle.hu_totals.specs.declared.ranked.Dense.{Dense}
use Rattle.hu_totals.specs.View.{dense_pair, pairs_in}
use Rattle.hu_totals.proofs.lemmas.Lists.{empty-seen}
use Rattle.hu_raise.specs.OverRanks.{IsOverRanks}
use Rattle.hu_raise.specs.Rests.{RestOf, handed, rest_from}
use Rattle.hu_raise.specs.View.{rest_of, rests_of}
use Rattle.hu_raise.proofs.RestLemmas.{fold-more, length-fold}
use Rattle.hu_raise.proofs.VectorLemmas.{pairs-at}
use Rattle.hu_kind.proofs.lemmas.Each.{each-get}
use Rattle.hu_raise.proofs.rests.waiting_of.Goals as goal

-- the ranks that are left begin with those of the next record
next-of : (pairs : List (List (ℕ × ℤ))) (i : ℕ) (left : List ℕ) (cells : List (ℕ × ℤ)) → i < length pairs → cells ≡ get_or pairs i []
    → left ≡ flat_map items_in (drop i pairs) → left ≡ items_in cells ++ flat_map items_in (drop (i + 1) pairs)
next-of pairs i left cells within here is =
    is ∙ ap (flat_map items_in) (drop_more pairs i [] within) ∙ ap (λ c. items_in c ++ flat_map items_in (drop (i + 1) pairs)) (sym here)

own-of : (n : ℕ) (left ranks others : List ℕ) → left ≡ ranks ++ others → n ≡ length ranks → take n left ≡ ranks
own-of n left ranks others is long = (λ j. take (long j) (is j)) ∙ take-append_seam ranks others

after-of : (n : ℕ) (left ranks others : List ℕ) → left ≡ ranks ++ others → n ≡ length ranks → drop n left ≡ others
after-of n left ranks others is long = (λ j. drop (long j) (is j)) ∙ drop-append_seam ranks others

pub loop-record-init : goal.loop-record-init
loop-record-init c = record {
  left = c.requires.all;
  waits = empty-seen rest_of c.in_ok-waiting.waiting.items c.args.ranks c.in_ok-waiting.ensures;
}

pub split_at-requires : goal.split_at-requires
split_at-requires c =
    let pairs = map pairs_in c.args.records.now in
    let i = c.loop-record.record-index in
    let cells = pairs_in c.record-item.result in
    let here = pairs-at c.args.records.now i c.record-item.result c.loop-record-test.true c.record-item.is in
    let within : i < length pairs = omega (arith, length-map c.args.records.now pairs_in, c.loop-record-test.true) in
    let next = next-of pairs i c.loop-record.left.now cells within here c.loop-record.invariant.left in
    omega (
      arith,
      ap length next,
      length-append (items_in cells) (flat_map items_in (drop (i + 1) pairs)),
      length-map cells (λ cell. cell.0),
      length-map c.record-item.result.items dense_pair,
      c.len.ensures,
      c.record-item.result.ok.0,
    )

pub gain_of-requires : goal.gain_of-requires
gain_of-requires c =
    let records = c.args.records.now in
    let i = c.loop-record.record-index in
    let within : i < length (map pairs_in records) = omega (arith, length-map records pairs_in) in
    let here = ap absolute_of (ap (map dense_pair) c.deref.ensures.value ∙ pairs-at records i c.record-item.result (omega arith) c.record-item.is) in
    omega (arith, get_or-le-sum_by absolute_of (map pairs_in records) i [] within, c.requires.rules.sum_fits)

-- how many the record has
len-of : (cells : Vec Dense Global) (n : ℕ) → n ≡ cells.len → n ≡ length (items_in (pairs_in cells))
len-of cells n is = omega (arith, is, cells.ok.0, length-map (pairs_in cells) (λ cell. cell.0), length-map cells.items dense_pair)

pub hand-requires : goal.hand-requires
hand-requires c =
    let records = c.args.records.now in
    let pairs = map pairs_in records in
    let i = c.loop-record.record-index in
    let ranks = c.args.ranks in
    let waiting = c.loop-record.waiting.items in
    let cells = pairs_in c.record-item.result in
    let within : i < length pairs = omega (arith, length-map records pairs_in, c.loop-record-test.true) in
    let here = pairs-at records i c.record-item.result c.loop-record-test.true c.record-item.is in
    let next = next-of pairs i c.loop-record.left.now cells within here c.loop-record.invariant.left in
    let own = c.split_at.ensures.front ∙ own-of c.len.result c.loop-record.left.now (items_in cells) (flat_map items_in (drop (i + 1) pairs)) next
    (len-of c.record-item.result c.len.result c.len.ensures) in
    let over = subst (IsOverRanks ranks) (sym here) (each-get (IsOverRanks ranks) pairs i [] c.requires.rules.each within) in
    let long : length waiting ≡ ranks =
    omega (
      arith,
      length-map waiting (λ v. rests_of v.items),
      ap length c.loop-record.invariant.waits,
      length-fold (map rest_from (take i pairs)) (replicate ranks []),
      length-replicate {A = List RestOf} ranks [],
    ) in
    subst (λ n. AllByRecursion (λ rank. rank < n) c.split_at.result.0.now) (sym long)
    (subst (AllByRecursion (λ rank. rank < ranks)) (sym own) over.in_range)

pub loop-record-preserved : goal.loop-record-preserved
loop-record-preserved c =
    let records = c.args.records.now in
    let pairs = map pairs_in records in
    let i = c.loop-record.record-index in
    let cells = pairs_in c.record-item.result in
    let within : i < length pairs = omega (arith, length-map records pairs_in, c.loop-record-test.true) in
    let here = pairs-at records i c.record-item.result c.loop-record-test.true c.record-item.is in
    let next = next-of pairs i c.loop-record.left.now cells within here c.loop-record.invariant.left in
    let others = flat_map items_in (drop (i + 1) pairs) in
    let long = len-of c.record-item.result c.len.result c.len.ensures in
    let own = c.split_at.ensures.front ∙ own-of c.len.result c.loop-record.left.now (items_in cells) others next long in
    let fits : FitsSigned w128 c.gain_of.result = search rules in
    let gained : to_z w128 (of_z w128 c.gain_of.result) ≡ gain cells =
    to_z-of_z w128 c.gain_of.result fits ∙ c.gain_of.ensures ∙ ap (λ all. gain (map dense_pair all)) c.deref.ensures.value in
    let rest : rest_of (record { ranks = c.split_at.result.0; gain = to_z w128 (of_z w128 c.gain_of.result) }) ≡ rest_from cells =
    (λ j. record { ranks = own j; gain = gained j }) in
    record {
      left = c.split_at.ensures.back ∙ after-of c.len.result c.loop-record.left.now (items_in cells) others next long;
      waits = c.in_ok-hand.ensures
          ∙ (λ j. handed (c.loop-record.invariant.waits j) (rest j))
          ∙ sym (fold-more rest_from pairs i [] (rest_from cells) (replicate c.args.ranks []) within (ap rest_from (sym here)));
    }

pub returns : goal.returns
returns c =
    let records = c.args.records.now in
    let pairs = map pairs_in records in
    let all : take c.loop-record.record-index pairs ≡ pairs =
    take_all c.loop-record.record-index pairs (omega (arith, length-map records pairs_in, c.loop-record-test.false)) in
    c.loop-record.invariant.waits ∙ ap (λ rs. fold handed (replicate c.args.ranks []) (map rest_from rs)) all
