use Rattle.std.proofs.Common.{◌≡◌, ℕ, Bool, true, false, refl, ◌+◌, ◌-◌, cond, length, sym, ap, ◌∙◌, arith}
use mir.Val.{bool_byte}
use Rattle.hu_lines.specs.Pieces.{has_line_feed}
use Rattle.hu_lines.proofs.lemmas.LimitLemmas.{refusal_by_length, line_feed-le}
use Rattle.hu_lines.proofs.lines.Lines.passed_limit.Goals as goal

as_number : (t : Bool) → bool_byte t ≡ cond t 1 0
as_number true = refl
as_number false = refl

pub returns : goal.returns
returns c =
    let inside = c.self.inside in
    let taken = c.args.taken.now in
    let begun = sym c.self.invariant.held.whole ∙ (rw (← c.self.view_is) at c.requires.begun) in
    let from : c.from.result ≡ cond (has_line_feed taken) 1 0 = c.from.ensures ∙ (as_number c.args.whole ∙ ap (λ t. cond {A = ℕ} t 1 0) c.requires.whole) in
    let body : ((c.len.result + length taken) - c.from.result) + cond (has_line_feed taken) 1 0
    ≡ c.len.result + length taken = omega (arith, line_feed-le taken) in
    rw (← c.self.view_is)
    (c.limit_passed.ensures
    ∙ sym (refusal_by_length inside.number inside.before _ _ inside.bytes.items taken c.self.invariant.held.counted
    begun c.requires.one (omega arith) body))
