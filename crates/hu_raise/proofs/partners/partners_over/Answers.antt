use Rattle.std.proofs.Common.{◌≡◌, ◌∙◌, ℕ, ◌+◌, ◌^◌, ◌++◌, ◌∷◌, [], cond, nat_lt, pos, ◌≤ℤ◌, ◌<ℤ◌, map, fold, length, set, ap, sym, subst}
use Rattle.std.proofs.Common.{arith, to_z, of_z}
use Rattle.std.specs.Int.{w128}
use Rattle.std.specs.List.{AllByRecursion}
use Rattle.std.proofs.lemmas.Int.{to_z-of_z}
use Rattle.std.proofs.lemmas.List.{length-map, length-set, length-replicate, map-append}
use Rattle.std.proofs.lemmas.List.FromFn.{map-range_with_len_more}
use Rattle.hu_collect.specs.Pairs.{pair_twu}
use Rattle.hu_totals.specs.View.{pairs_in, lists_in}
use Rattle.hu_raise.specs.Partners.{partners}
use Rattle.hu_raise.specs.Rests.{after_first, handed, later_gain, list_at, IsRest}
use Rattle.hu_raise.specs.Sums.{sum_at}
use Rattle.hu_raise.specs.View.{rests_of, waiting_in}
use Rattle.hu_raise.proofs.PairLemmas.{reaching-partners}
use Rattle.hu_raise.proofs.TurnLemmas.{AreWaiting, AreWaiting-first, AreWaiting-next, IsRest-turn, later_gain-turn, later_gain-fits}
use Rattle.hu_raise.proofs.partners.partners_over.Goals as goal

pub loop-rank-init : goal.loop-rank-init
loop-rank-init c =
    let pairs = map pairs_in c.args.records.now in
    record {
      long = ap length c.in_ok-sums.ensures ∙ length-replicate c.args.ranks (pos 0);
      waiting = subst (AreWaiting c.args.ranks 0 pairs) (sym c.in_ok-waiting.ensures) (AreWaiting-first c.args.ranks pairs c.requires.rules);
      found = ap lists_in c.in_ok-table.ensures.items;
    }

pub take-rests-requires : goal.take-rests-requires
take-rests-requires c =
    omega (arith, length-map c.loop-rank.waiting.items (λ v. rests_of v.items), c.loop-rank.invariant.waiting.waits.long, c.loop-rank-test.true)

pub hand_on-requires-clause-each : goal.hand_on-requires-clause-each
hand_on-requires-clause-each c =
    let pairs = map pairs_in c.args.records.now in
    let n = c.args.ranks in
    let rank = c.loop-rank.rank in
    let lists = waiting_in c.loop-rank.waiting.items in
    let long : length c.clear.new.self ≡ n = ap length c.clear.ensures ∙ length-replicate (length c.loop-rank.sums) (pos 0) ∙ c.loop-rank.invariant.long in
    let own : rests_of c.deref.result.now ≡ list_at lists rank = ap rests_of c.deref.ensures.value ∙ c.take-rests.ensures.value in
    subst (λ m. AllByRecursion (IsRest m) (rests_of c.deref.result.now)) (sym long)
    (subst (AllByRecursion (IsRest n)) (sym own) (IsRest-turn n rank pairs lists c.loop-rank.invariant.waiting))

pub hand_on-requires-clause-room : goal.hand_on-requires-clause-room
hand_on-requires-clause-room c =
    let long : length c.clear.new.self ≡ c.args.ranks =
    ap length c.clear.ensures ∙ length-replicate (length c.loop-rank.sums) (pos 0) ∙ c.loop-rank.invariant.long in
    omega (
      arith,
      long,
      length-map c.take-rests.new.waiting.items (λ v. rests_of v.items),
      ap length c.take-rests.ensures.left,
      length-set (waiting_in c.loop-rank.waiting.items) c.loop-rank.rank [],
      c.loop-rank.invariant.waiting.waits.long,
    )

pub hand_on-requires-clause-fits : goal.hand_on-requires-clause-fits
hand_on-requires-clause-fits c later =
    let pairs = map pairs_in c.args.records.now in
    let rank = c.loop-rank.rank in
    let lists = waiting_in c.loop-rank.waiting.items in
    let own : rests_of c.deref.result.now ≡ list_at lists rank = ap rests_of c.deref.ensures.value ∙ c.take-rests.ensures.value in
    subst (λ rests. later_gain rests later <ℤ pos (2 ^ 127)) (sym own)
    (later_gain-fits c.args.ranks rank pairs lists c.loop-rank.invariant.waiting c.requires.rules.sum_fits later)

pub loop-rank-preserved : goal.loop-rank-preserved
loop-rank-preserved c =
    let pairs = map pairs_in c.args.records.now in
    let n = c.args.ranks in
    let rank = c.loop-rank.rank in
    let lists = waiting_in c.loop-rank.waiting.items in
    let are = c.loop-rank.invariant.waiting in
    let floor = to_z w128 (of_z w128 c.args.floor) in
    let same = to_z-of_z w128 c.args.floor c.ranges.floor in
    let own : rests_of c.deref.result.now ≡ list_at lists rank = ap rests_of c.deref.ensures.value ∙ c.take-rests.ensures.value in
    let sums = c.hand_on.new.sums in
    let long : length sums ≡ n =
    c.in_ok-hand_on.ensures.len ∙ ap length c.clear.ensures ∙ length-replicate (length c.loop-rank.sums) (pos 0) ∙ c.loop-rank.invariant.long in
    let summed : (later : ℕ) → sum_at sums later ≡ cond (nat_lt rank later) (pair_twu pairs rank later) (pos 0) =
    λ later. c.in_ok-hand_on.ensures.sums later ∙ ap (λ rests. later_gain rests later) own ∙ later_gain-turn n rank pairs lists are later in
    let handed_on : waiting_in c.hand_on.new.waiting.items ≡ fold handed (set lists rank []) (map after_first (list_at lists rank)) =
    c.in_ok-hand_on.ensures.waiting ∙ (λ j. fold handed (c.take-rests.ensures.left j) (map after_first (own j))) in
    let table = c.loop-rank.table.items in
    let new = c.in_ok-reaching.field-0 in
    let least : pos 1 ≤ℤ floor = subst (λ f. pos 1 ≤ℤ f) (sym same) c.requires.floor in
    let row : new.items ≡ partners pairs floor n rank =
    c.in_ok-reaching.ensures ∙ reaching-partners pairs floor rank sums least summed ∙ ap (λ m. partners pairs floor m rank) long in
    record {
      long = long;
      waiting = subst (AreWaiting n (rank + 1) pairs) (sym handed_on) (AreWaiting-next n rank pairs lists are c.loop-rank-test.true);
      found = ap lists_in c.in_ok-push.ensures.items
          ∙ map-append (λ v. v.items) table (new ∷ [])
          ∙ (λ j. c.loop-rank.invariant.found j ++ row j ∷ [])
          ∙ sym (map-range_with_len_more (partners pairs floor n) 0 rank rank (omega arith));
    }
