use Rattle.std.proofs.Common.{◌≡◌, ℕ, ◌+◌, ◌-◌, ◌<◌, ◌^◌, ℤ, ◌+ℤ◌, pos, unsigned_abs, get_or, drop, length, to_z, of_z, sym, ap, ◌∙◌, arith}
use Rattle.std.specs.Int.{w128}
use Rattle.std.proofs.lemmas.Int.{ints, to_z-of_z}
use Rattle.std.proofs.lemmas.List.{length-set, get_or_read}
use Rattle.hu_kind.specs.Record.{positive_part}
use Rattle.hu_kind.proofs.lemmas.Each.{each-get}
use Rattle.hu_kind.proofs.lemmas.Earned.{positive_part-within}
use Rattle.hu_proof.specs.declared.slots.Slotted.{Slotted}
use Rattle.hu_proof.specs.Slots.{bound_at, gain_in, gained, part}
use Rattle.hu_proof.proofs.SlotLemmas.{AtValue, at-value, added_by, added-within, added-more, gain-next, part-is}
use Rattle.hu_proof.proofs.slots.add_values.Goals.{In-values, After-index_mut}
use Rattle.hu_proof.proofs.slots.add_values.Goals as goal

-- a value past the end
abbrev no_value : Slotted
no_value = record { slot = 0; value = pos 0 }

-- what is known of the value that a turn is at
record AtTurn (c : In-values) (own : ℤ) (i : ℕ) (one : Slotted) : Type 0 where
  within : i < length c.args.values.now
  inside : one.slot < length c.args.bounds.now.items
  value : AtValue c.args.values.now i no_value
  gain : to_z w128 c.values.gain-bits ≡ pos (gain_in (drop (i + 1) c.args.values.now))
  before : (slot : ℕ) → slot < length c.args.bounds.now.items
      → bound_at c.values.bounds.items slot ≡ bound_at c.args.bounds.now.items slot +ℤ pos (gained own slot (drop (i + 1) c.args.values.now))
  fits : unsigned_abs (bound_at c.values.bounds.items one.slot) + added_by own c.args.values.now i no_value < 2 ^ 127

turn_at : (c : In-values)
    → AtTurn c (to_z w128 (of_z w128 c.args.own)) (c.values.i - 1) (get_or c.args.values.now (c.values.i - 1) no_value)
turn_at c =
    let values = c.args.values.now in
    let own = to_z w128 (of_z w128 c.args.own) in
    let back : own ≡ c.args.own = to_z-of_z w128 c.args.own c.ranges.own in
    let first = c.args.bounds.now.items in
    let i = c.values.i - 1 in
    let next : c.values.i ≡ i + 1 = omega (arith, c.values-test.true) in
    let within : i < length values = omega (arith, next, c.values.invariant.within) in
    let one = get_or values i no_value in
    let inside : one.slot < length first = each-get (λ (v : Slotted). v.slot < length first) values i no_value c.requires.slots within in
    let before : (slot : ℕ) → slot < length first
    → bound_at c.values.bounds.items slot ≡ bound_at first slot +ℤ pos (gained own slot (drop (i + 1) values)) =
    λ slot low. c.values.invariant.added slot low ∙ ap (λ n. bound_at first slot +ℤ pos (gained own slot (drop n values))) next in
    record {
      within = within;
      inside = inside;
      value = at-value values i no_value within;
      gain = c.values.invariant.gain ∙ ap (λ n. pos (gain_in (drop n values))) next;
      before = before;
      fits = omega (
        arith,
        ints,
        before one.slot inside,
        added-within own values i no_value within,
        c.requires.fits one.slot inside,
        ap (λ m. gained m one.slot values) back,
      );
    }

-- the bound that is read, with what is added to it
sum_at : (c : After-index_mut)
    → c.index_mut.result.now +ℤ c.positive_part.result ≡ bound_at c.values.bounds.items (get_or c.args.values.now (c.values.i - 1) no_value).slot
    +ℤ pos (added_by (to_z w128 (of_z w128 c.args.own)) c.args.values.now (c.values.i - 1) no_value)
sum_at c =
    let own = to_z w128 (of_z w128 c.args.own) in
    let back : own ≡ c.args.own = to_z-of_z w128 c.args.own c.ranges.own in
    let i = c.values.i - 1 in
    let one = get_or c.args.values.now i no_value in
    let turn = turn_at (goal.at.After-index_mut c).In-values in
    let rest = pos (gain_in (drop (i + 1) c.args.values.now)) in
    let sum : to_z w128 (of_z w128 (to_z w128 (of_z w128 (own +ℤ to_z w128 (of_z w128 one.value))) +ℤ to_z w128 c.values.gain-bits))
    ≡ (own +ℤ one.value) +ℤ rest =
    omega (arith, ints, turn.value.size, turn.gain, back, c.requires.sizes) in
    let worth = c.positive_part.ensures.value ∙ ap positive_part sum ∙ sym (part-is ((own +ℤ one.value) +ℤ rest)) in
    let inside : one.slot < length c.values.bounds.items = omega (arith, turn.inside, c.values.invariant.len) in
    let old = get_or_read c.values.bounds.items one.slot c.index_mut.result.now inside c.index_mut.ensures.value (pos 0) in
    (λ j. old j +ℤ worth j)

pub overflow_add-own-in-values : goal.overflow_add-own-in-values
overflow_add-own-in-values c =
    let turn = turn_at (goal.at.overflow_add-own-in-values c).In-values in
    omega (arith, ints, turn.value.size, turn.gain, c.requires.sizes)

pub overflow_add-index_mut : goal.overflow_add-index_mut
overflow_add-index_mut c =
    let turn = turn_at (goal.at.overflow_add-index_mut c).In-values in
    omega (arith, ints, sum_at (goal.at.overflow_add-index_mut c).After-index_mut, turn.fits)

pub overflow_add-gain : goal.overflow_add-gain
overflow_add-gain c =
    let turn = turn_at (goal.at.overflow_add-gain c).In-values in
    omega (arith, ints, turn.value.size, turn.gain, c.positive_part-gain.ensures.within, c.requires.sizes)

pub values-preserved : goal.values-preserved
values-preserved c =
    let values = c.args.values.now in
    let own = to_z w128 (of_z w128 c.args.own) in
    let bounds = c.values.bounds.items in
    let i = c.values.i - 1 in
    let one = get_or values i no_value in
    let turn = turn_at (goal.at.values-preserved c).In-values in
    let v = to_z w128 (of_z w128 (to_z w128 (of_z w128 c.index_mut.result.now) +ℤ to_z w128 (of_z w128 c.positive_part.result))) in
    let new : v ≡ bound_at bounds one.slot +ℤ pos (added_by own values i no_value) =
    omega (arith, ints, sum_at (goal.at.values-preserved c).After-index_mut, turn.fits) in
    let same : to_z w128 (of_z w128 one.value) ≡ one.value = omega (arith, ints, turn.value.size, c.requires.sizes) in
    let part-here : c.positive_part-gain.result ≡ pos (part one.value) =
    c.positive_part-gain.ensures.value ∙ (ap positive_part same ∙ sym (part-is one.value)) in
    record {
      within = omega (arith, turn.within);
      len = length-set bounds one.slot v ∙ c.values.invariant.len;
      gain = gain-next (to_z w128 c.values.gain-bits) c.positive_part-gain.result (gain_in (drop (i + 1) values)) (part one.value) turn.gain part-here
          (omega (arith, turn.value.size, positive_part-within one.value, c.requires.sizes))
          ∙ ap pos (sym turn.value.gain);
      added = λ slot low. added-more own values i no_value c.args.bounds.now.items bounds v turn.within
          (omega (arith, turn.inside, c.values.invariant.len)) new slot (turn.before slot low);
    }
