use Rattle.std.proofs.Common.{◌≡◌, None, drop, subst, sym, ap, ◌∙◌, map, rules, FitsSigned}
use Rattle.std.specs.Int.{w128}
use Rattle.std.proofs.lemmas.Int.{to_z-of_z}
use Rattle.hu_kind.specs.First.{first_some}
use Rattle.hu_proof.specs.Check.{not_cut}
use Rattle.hu_proof.specs.Judged.{bound_faults, children_fault_at, missing_fault, token_items}
use Rattle.hu_proof.specs.Places.{places_of, Apart, HasRoom}
use Rattle.hu_proof.proofs.Orders.{Apart-follows}
use Rattle.hu_proof.proofs.LineLemmas.{judges-last, judged-same}
use Rattle.hu_proof.proofs.NamedLemmas.{bounds-same, judged-second, HasRoom-named}
use Rattle.hu_proof.proofs.TurnLemmas.{judges-err}
use Rattle.hu_proof.proofs.line.check_children.Goals as goal

pub named_items-requires : goal.named_items-requires
named_items-requires c = Apart-follows _ _ c.requires.room.apart c.requires.later

pub check_bounds-requires-clause-apart : goal.check_bounds-requires-clause-apart
check_bounds-requires-clause-apart c = subst Apart (sym c.in_ok-named.ensures) (Apart-follows _ _ c.requires.room.apart c.requires.later)

pub check_bounds-requires-clause-room : goal.check_bounds-requires-clause-room
check_bounds-requires-clause-room c =
    let later = drop c.args.node.now.from c.args.terms.order.now in
    let places = places_of c.args.node.now.places.items in
    let named : HasRoom c.in_ok-named.named places = subst (λ xs. HasRoom xs places) (sym c.in_ok-named.ensures)
    (HasRoom-named later (token_items c.args.tokens.now) places c.requires.room c.requires.later) in
    subst (λ ps. HasRoom c.in_ok-named.named (places_of ps)) (sym c.deref.ensures.value) named

pub returns-in_err-check_bounds : goal.returns-in_err-check_bounds
returns-in_err-check_bounds c =
    let line = c.args.line in
    let later = drop c.args.node.now.from c.args.terms.order.now in
    let tokens = c.args.tokens.now in
    let places = places_of c.args.node.now.places.items in
    let named = c.in_ok-named.named in
    let e = c.in_err-check_bounds.field-0.0 in
    let left : missing_fault line later (token_items tokens) places ≡ None =
    subst (λ xs. missing_fault line later xs places ≡ None) c.in_ok-named.ensures c.in_ok-check_missing.ensures in
    let same : bound_faults line later places tokens ≡ bound_faults line named (places_of c.deref.result.now) tokens =
    bounds-same line later named places tokens c.in_ok-named.ensures c.requires.room.apart c.requires.later c.in_ok-check_missing.ensures
    ∙ ap (λ ps. bound_faults line named (places_of ps) tokens) (sym c.deref.ensures.value) in
    judges-err c.from_residual-in_err-check_bounds.result e (children_fault_at c.args.terms.least line later places tokens)
    c.from_residual-in_err-check_bounds.ensures
    (judged-second e (missing_fault line later (token_items tokens) places) (bound_faults line later places tokens)
    (first_some (map (not_cut line c.args.terms.least) tokens)) left
    (judged-same e (bound_faults line later places tokens) (bound_faults line named (places_of c.deref.result.now) tokens) same
    c.in_err-check_bounds.ensures))

pub returns : goal.returns
returns c =
    let line = c.args.line in
    let later = drop c.args.node.now.from c.args.terms.order.now in
    let tokens = c.args.tokens.now in
    let places = places_of c.args.node.now.places.items in
    let named = c.in_ok-named.named in
    let left : missing_fault line later (token_items tokens) places ≡ None =
    subst (λ xs. missing_fault line later xs places ≡ None) c.in_ok-named.ensures c.in_ok-check_missing.ensures in
    let sums : bound_faults line later places tokens ≡ None =
    bounds-same line later named places tokens c.in_ok-named.ensures c.requires.room.apart c.requires.later c.in_ok-check_missing.ensures
    ∙ (ap (λ ps. bound_faults line named (places_of ps) tokens) (sym c.deref.ensures.value) ∙ c.in_ok-check_bounds.ensures) in
    let fits : FitsSigned w128 c.args.terms.least = search rules in
    let last = rw (to_z-of_z w128 c.args.terms.least fits) at c.check_cuts.ensures in
    judges-last c.check_cuts.result (missing_fault line later (token_items tokens) places) (bound_faults line later places tokens) _ left sums last
