use Rattle.std.proofs.Common.{◌∙◌, ap, unwrap_or, length, arith, not}
use Rattle.std.proofs.lemmas.List.Sums.{prefix_len-le-length}
use Rattle.hu_kind.specs.Token.{is_space}
use Rattle.hu_kind.proofs.TokenLemmas.{unwrap_or-position}
use Rattle.hu_kind.proofs.token.token_len.Goals as goal

pub returns-clause-value : goal.returns-clause-value
returns-clause-value c =
    c.unwrap_or.ensures
    ∙ ap (λ place. unwrap_or place (length c.args.text.now)) c.space_place.ensures
    ∙ unwrap_or-position is_space c.args.text.now

pub returns-clause-within : goal.returns-clause-within
returns-clause-within c =
    omega (arith, returns-clause-value c, prefix_len-le-length (λ byte. not (is_space byte)) c.args.text.now)
