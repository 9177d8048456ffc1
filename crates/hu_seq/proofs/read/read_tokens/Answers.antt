use Rattle.std.proofs.Common.{◌≡◌, ◌+◌, ◌∷◌, [], ◌++◌, None, Some, refl, sym, ap, ◌∙◌, inr, arith, length, vec_len, filter_map, append-nil}
use Rattle.std.specs.Option.{option_map}
use Rattle.std.specs.List.{position_from}
use Rattle.hu_kind.specs.Token.{tokens}
use Rattle.hu_seq.specs.declared.fault.SeqFault.TheVariants.{BadToken}
use Rattle.hu_seq.specs.Token.{token_of, is_unknown}
use Rattle.hu_seq.proofs.TokensLemmas.{known-next, unknown-next, unknown-here, bad_token-from}
use Rattle.hu_seq.proofs.read.read_tokens.Goals as goal

pub loop-text-init : goal.loop-text-init
loop-text-init c =
    let all : c.into_iter-text-iterator.result ≡ tokens c.args.line.now = cc in
    record {
      rest = rw (all, c.new-told.ensures.items) refl;
      place = rw (all, c.new-told.ensures.len) refl;
      few = omega (arith, c.new-told.ensures.len, ap length c.into_iter-text-iterator.ensures.into_iter_gives, c.of-text-items.ensures.few);
    }

pub loop-text-preserved : goal.loop-text-preserved
loop-text-preserved c =
    let step : c.loop-text.text-iterator ≡ c.in-Some.text.now ∷ c.next.new.self = c.in-Some.ensures.steps in
    let is : token_of c.in-Some.text.now ≡ Some c.in-Some-token_of.token = cc in
    let told = c.in_ok-push-in-Some-token_of.ensures in
    record {
      rest =
          c.loop-text.invariant.rest
          ∙ ap (λ left. c.loop-text.told.items ++ filter_map token_of left) step
          ∙ known-next c.loop-text.told.items c.in-Some.text.now c.next.new.self c.in-Some-token_of.token is
          ∙ ap (λ items. items ++ filter_map token_of c.next.new.self) (sym told.items);
      place =
          c.loop-text.invariant.place
          ∙ ap (position_from is_unknown (vec_len c.loop-text.told)) step
          ∙ unknown-next (vec_len c.loop-text.told) c.in-Some.text.now c.next.new.self c.in-Some-token_of.token is
          ∙ ap (λ n. position_from is_unknown n c.next.new.self) (sym told.len);
      few = omega (arith, told.len, ap length step);
    }

pub overflow_cast-result : goal.overflow_cast-result
overflow_cast-result c = omega (arith, c.len.ensures)

pub overflow_add-result : goal.overflow_add-result
overflow_add-result c = omega (arith, c.len.ensures)

pub returns-in-None-token_of-clause-err : goal.returns-in-None-token_of-clause-err
returns-in-None-token_of-clause-err c =
    let step : c.loop-text.text-iterator ≡ c.in-Some.text.now ∷ c.next.new.self = c.in-Some.ensures.steps in
    let is : token_of c.in-Some.text.now ≡ None = cc in
    let here : position_from is_unknown 0 (tokens c.args.line.now) ≡ Some c.len.result =
    c.loop-text.invariant.place
    ∙ ap (position_from is_unknown (vec_len c.loop-text.told)) step
    ∙ unknown-here (vec_len c.loop-text.told) c.in-Some.text.now c.next.new.self is
    ∙ ap Some (sym c.len.ensures) in
    inr (bad_token-from (tokens c.args.line.now) ∙ ap (option_map (λ k. BadToken (k + 1))) here)

pub returns-clause-told : goal.returns-clause-told
returns-clause-told c =
    let over : c.loop-text.text-iterator ≡ [] = c.in-None.ensures.steps.0 in
    sym (
    c.loop-text.invariant.rest
    ∙ ap (λ left. c.loop-text.told.items ++ filter_map token_of left) over
    ∙ append-nil c.loop-text.told.items
    )

pub returns-clause-ok : goal.returns-clause-ok
returns-clause-ok c =
    let over : c.loop-text.text-iterator ≡ [] = c.in-None.ensures.steps.0 in
    bad_token-from (tokens c.args.line.now)
    ∙ ap (option_map (λ k. BadToken (k + 1))) (c.loop-text.invariant.place ∙ ap (position_from is_unknown (vec_len c.loop-text.told)) over)
