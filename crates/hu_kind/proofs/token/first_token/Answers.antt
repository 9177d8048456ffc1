use Rattle.std.proofs.Common.{sym, ap, ◌∙◌}
use Rattle.std.specs.List.{position_or_len}
use Rattle.hu_kind.specs.Token.{is_space}
use Rattle.hu_kind.proofs.TokenLemmas.{tokens-next, tokens-none}
use Rattle.hu_kind.proofs.token.first_token.Goals as goal

pub returns-in_err-start-clause-none : goal.returns-in_err-start-clause-none
returns-in_err-start-clause-none c =
    rw c.from_residual.ensures (tokens-none c.args.text.now (sym c.in_err-start.ensures))

pub returns-clause-found : goal.returns-clause-found
returns-clause-found c =
    let len = c.token_len.ensures.value ∙ ap (position_or_len is_space) c.split_at.ensures.back in
    let next = tokens-next c.args.text.now c.in_ok-start.start c.token_len.result (sym c.in_ok-start.ensures) len in
    cc
