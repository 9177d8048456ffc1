use Rattle.std.proofs.Common.{◌≡◌, ◌∙◌, ℕ, ◌<◌, ◌^◌, pos, ◌+ℤ◌, ◌≤ℤ◌, ◌<ℤ◌, [], map, length, take, drop, get_or, ap, sym, subst, arith, rules, ◌+◌}
use Rattle.std.proofs.Common.{FitsSigned, List}
use Rattle.std.specs.Int.{w128}
use Rattle.std.specs.List.{AllByRecursion}
use Rattle.std.proofs.lemmas.Int.{ints, to_z-of_z}
use Rattle.std.proofs.lemmas.List.{get_or-map, length-map}
use Rattle.hu_kind.specs.Order.{Ascend}
use Rattle.hu_raise.specs.declared.rests.Rest.{Rest}
use Rattle.hu_raise.specs.Rests.{RestOf, after_first, handed, later_gain, IsRest}
use Rattle.hu_raise.specs.Sums.{gain_at}
use Rattle.hu_raise.specs.View.{rest_of, rests_of, waiting_in}
use Rattle.hu_raise.proofs.RankLists.{Ascend-drop}
use Rattle.hu_raise.proofs.RestLemmas.{fold-more, later_gain-more, later_gain-take, length-fold}
use Rattle.hu_kind.proofs.lemmas.Each.{each-drop, each-get}
use Rattle.hu_raise.proofs.rests.hand_on.Goals as goal

-- a rest past the end
abbrev no_rest : Rest
no_rest = record { ranks = record { ref_ptr = (0, 0); now = [] }; gain = pos 0 }

abbrev no_rest_of : RestOf
no_rest_of = record { ranks = []; gain = pos 0 }

here-of : (rests : List Rest) (i : ℕ) → i < length rests → get_or (rests_of rests) i no_rest_of ≡ rest_of (get_or rests i no_rest)
here-of rests i within = get_or-map rest_of rests i no_rest no_rest_of within

is-of : (n : ℕ) (rests : List Rest) (i : ℕ) → AllByRecursion (IsRest n) (rests_of rests) → i < length rests → IsRest n (rest_of (get_or rests i no_rest))
is-of n rests i each within =
    subst (IsRest n) (here-of rests i within)
    (each-get (IsRest n) (rests_of rests) i no_rest_of each (omega (arith, length-map rests rest_of)))

pub after_first-later-requires : goal.after_first-later-requires
after_first-later-requires c = (is-of (length c.args.sums.now) c.args.rests.now c.loop-rest.rest-index c.requires.each c.loop-rest-test.true).some

pub add_to_each-requires-clause-ascending : goal.add_to_each-requires-clause-ascending
add_to_each-requires-clause-ascending c =
    let rests = c.args.rests.now in
    let i = c.loop-rest.rest-index in
    let is = is-of (length c.args.sums.now) rests i c.requires.each c.loop-rest-test.true in
    subst Ascend (sym (ap (λ r. r.ranks) c.after_first-later.ensures)) (Ascend-drop (get_or rests i no_rest).ranks.now is.ascending)

-- the later ranks are in the range of some length
in_range-of : (n m : ℕ) (rest : Rest) (later : List ℕ) → IsRest n (rest_of rest) → later ≡ drop 1 rest.ranks.now → m ≡ n
    → AllByRecursion (λ rank. rank < m) later
in_range-of n m rest later is ranks long =
    subst (λ k. AllByRecursion (λ rank. rank < k) later) (sym long)
    (subst (AllByRecursion (λ rank. rank < n)) (sym ranks) (each-drop (λ rank. rank < n) 1 rest.ranks.now is.in_range))

pub add_to_each-requires-clause-in_range : goal.add_to_each-requires-clause-in_range
add_to_each-requires-clause-in_range c =
    let rests = c.args.rests.now in
    let i = c.loop-rest.rest-index in
    let is = is-of (length c.args.sums.now) rests i c.requires.each c.loop-rest-test.true in
    in_range-of (length c.args.sums.now) (length c.loop-rest.sums) (get_or rests i no_rest) c.after_first-later.result.ranks.now is
    (ap (λ r. r.ranks) c.after_first-later.ensures) c.loop-rest.invariant.long

pub add_to_each-requires-clause-least : goal.add_to_each-requires-clause-least
add_to_each-requires-clause-least c =
    let rests = c.args.rests.now in
    let i = c.loop-rest.rest-index in
    let is = is-of (length c.args.sums.now) rests i c.requires.each c.loop-rest-test.true in
    let gain = c.after_first-later.result.gain in
    let fits : FitsSigned w128 gain = search rules in
    subst (λ g. pos 0 ≤ℤ g) (sym (to_z-of_z w128 gain fits ∙ ap (λ r. r.gain) c.after_first-later.ensures)) is.least

pub add_to_each-requires-clause-fits : goal.add_to_each-requires-clause-fits
add_to_each-requires-clause-fits c rank =
    let n = length c.args.sums.now in
    let rests = c.args.rests.now in
    let i = c.loop-rest.rest-index in
    let rest = rest_of (get_or rests i no_rest) in
    let gain = c.after_first-later.result.gain in
    let fits : FitsSigned w128 gain = search rules in
    let gain_is = to_z-of_z w128 gain fits ∙ ap (λ r. r.gain) c.after_first-later.ensures in
    let ranks_is = ap (λ r. r.ranks) c.after_first-later.ensures in
    let within : i < length (rests_of rests) = omega (arith, length-map rests rest_of, c.loop-rest-test.true) in
    let more = later_gain-more (rests_of rests) i no_rest_of rest rank within (here-of rests i c.loop-rest-test.true) in
    let upper = later_gain-take n (rests_of rests) (i + 1) rank c.requires.each in
    let all = c.requires.fits rank in
    let high : (later_gain (take i (rests_of rests)) rank +ℤ gain_at (drop 1 rest.ranks) rest.gain rank) <ℤ pos (2 ^ 127) = omega (arith, ints) in
    subst (λ s. s <ℤ pos (2 ^ 127)) (sym (λ j. c.loop-rest.invariant.summed rank j +ℤ gain_at (ranks_is j) (gain_is j) rank)) high

pub hand-requires : goal.hand-requires
hand-requires c =
    let rests = c.args.rests.now in
    let i = c.loop-rest.rest-index in
    let n = length c.args.sums.now in
    let is = is-of n rests i c.requires.each c.loop-rest-test.true in
    let old = c.args.waiting.now.items in
    let new = c.loop-rest.waiting.items in
    let long : length new ≡ n =
    omega (
      arith,
      length-map new (λ v. rests_of v.items),
      length-map old (λ v. rests_of v.items),
      ap length c.loop-rest.invariant.waits,
      length-fold (map after_first (take i (rests_of rests))) (waiting_in old),
      c.requires.room,
    ) in
    in_range-of n (length new) (get_or rests i no_rest) c.after_first-later.result.ranks.now is (ap (λ r. r.ranks) c.after_first-later.ensures) long

pub loop-rest-preserved : goal.loop-rest-preserved
loop-rest-preserved c =
    let rests = c.args.rests.now in
    let i = c.loop-rest.rest-index in
    let rest = rest_of (get_or rests i no_rest) in
    let gain = c.after_first-later.result.gain in
    let fits : FitsSigned w128 gain = search rules in
    let gain_is = to_z-of_z w128 gain fits ∙ ap (λ r. r.gain) c.after_first-later.ensures in
    let ranks_is = ap (λ r. r.ranks) c.after_first-later.ensures in
    let within : i < length (rests_of rests) = omega (arith, length-map rests rest_of, c.loop-rest-test.true) in
    let here = here-of rests i c.loop-rest-test.true in
    record {
      long = c.in_ok-add_to_each.ensures.len ∙ c.loop-rest.invariant.long;
      summed = λ rank. c.in_ok-add_to_each.ensures.sums rank
          ∙ (λ j. c.loop-rest.invariant.summed rank j +ℤ gain_at (ranks_is j) (gain_is j) rank)
          ∙ sym (later_gain-more (rests_of rests) i no_rest_of rest rank within here);
      waits = c.in_ok-hand.ensures
          ∙ (λ j. handed (c.loop-rest.invariant.waits j) (c.after_first-later.ensures j))
          ∙ sym (fold-more after_first (rests_of rests) i no_rest_of (after_first rest) (waiting_in c.args.waiting.now.items) within (ap after_first here));
    }
