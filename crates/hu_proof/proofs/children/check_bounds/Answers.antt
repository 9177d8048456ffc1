use Rattle.std.proofs.Common.{◌≡◌, ◌+◌, ◌<◌, ◌∷◌, length, get_or, None, pos, drop, map, to_z, of_z, sym, ap, ◌∙◌, arith}
use Rattle.std.specs.Int.{w128}
use Rattle.std.proofs.lemmas.Int.{ints}
use Rattle.std.proofs.lemmas.List.{get_or_read, length-map}
use Rattle.hu_kind.specs.First.{first_some}
use Rattle.hu_kind.proofs.lemmas.FirstLemmas.{first_skip}
use Rattle.hu_proof.specs.declared.token.Token.{Token}
use Rattle.hu_proof.specs.Check.{wrong_bound_of}
use Rattle.hu_proof.specs.Judged.{bound_fault_at, bound_faults}
use Rattle.hu_proof.specs.Places.{places_of}
use Rattle.hu_proof.specs.Slots.{bound_at, shares_at}
use Rattle.hu_proof.proofs.NamedLemmas.{bounds-none, fault-slot, judged-here}
use Rattle.hu_proof.proofs.SlotLemmas.{shares-within}
use Rattle.hu_proof.proofs.TurnLemmas.{judges-err}
use Rattle.hu_proof.proofs.children.check_bounds.Goals.{After-index}
use Rattle.hu_proof.proofs.children.check_bounds.Goals as goal

-- a token past the end
abbrev no_token : Token
no_token = record { item = record { 0 = 0 }; bound = None }

-- where a slot's sum is read, the faults from the slot on are that of its token and the later ones
faults_at : (c : After-index)
    → let token = get_or c.args.tokens.now c.loop-slot.slot no_token in
    bound_faults c.args.line c.args.named.now (places_of c.args.places.now) (drop c.loop-slot.slot c.args.tokens.now)
    ≡ first_some (wrong_bound_of c.args.line token.item token.bound (to_z w128 (of_z w128 c.index.result.now))
    ∷ map (bound_fault_at c.args.line c.args.named.now (places_of c.args.places.now)) (drop (c.loop-slot.slot + 1) c.args.tokens.now))
faults_at c =
    let named = c.args.named.now in
    let places = places_of c.args.places.now in
    let tokens = c.args.tokens.now in
    let slot = c.loop-slot.slot in
    let summed = to_z w128 (of_z w128 c.index.result.now) in
    let len : length named ≡ length tokens = ap length c.requires.items ∙ length-map tokens (λ t. t.item.0) in
    let low : slot < length named = omega (arith, len, c.loop-slot-test.true) in
    let read : c.index.result.now ≡ bound_at c.in_ok-sums.sums.items slot =
    get_or_read c.in_ok-sums.sums.items slot c.index.result.now (omega (arith, low, c.in_ok-sums.ensures.len)) c.index.ensures (pos 0) in
    let is : summed ≡ shares_at named places slot =
    omega (
      arith,
      ints,
      read,
      c.in_ok-sums.ensures.value slot low,
      shares-within named places slot c.requires.apart c.requires.room.each low,
      c.requires.room.sum,
    ) in
    fault-slot c.args.line named places tokens slot no_token summed c.requires.items c.loop-slot-test.true is

pub returns-in_err-check_bound : goal.returns-in_err-check_bound
returns-in_err-check_bound c =
    let faults = faults_at (goal.at.returns-in_err-check_bound c).After-index in
    let whole = bound_faults c.args.line c.args.named.now (places_of c.args.places.now) c.args.tokens.now in
    let e = c.in_err-check_bound.field-0.0 in
    judges-err c.from_residual-in_err-check_bound.result e whole c.from_residual-in_err-check_bound.ensures
    (judged-here e whole _ _ (sym c.loop-slot.invariant ∙ faults) c.in_err-check_bound.ensures)

pub loop-slot-preserved : goal.loop-slot-preserved
loop-slot-preserved c =
    let faults = faults_at (goal.at.loop-slot-preserved c).After-index in
    sym (faults ∙ first_skip _ _ c.in_ok-check_bound.ensures) ∙ c.loop-slot.invariant

pub returns-then-not-have_bound : goal.returns-then-not-have_bound
returns-then-not-have_bound c =
    bounds-none c.args.line c.args.named.now (places_of c.args.places.now) c.args.tokens.now (sym c.if-not-have_bound.ensures)
