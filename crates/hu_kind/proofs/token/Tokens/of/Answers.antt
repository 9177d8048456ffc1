use Rattle.hu_kind.proofs.TokenLemmas.{length-tokens}
use Rattle.hu_kind.proofs.token.Tokens.of.Goals as goal

pub returns-clause-few : goal.returns-clause-few
returns-clause-few c = length-tokens c.args.text.now
