use Rattle.std.proofs.Common.{sym, ap, ◌∙◌, Ok, FitsSigned, rules, refl}
use Rattle.std.specs.Int.{w128}
use Rattle.std.proofs.lemmas.Int.{to_z-of_z}
use Rattle.hu_kind.specs.Number.{number}
use Rattle.hu_kind.proofs.ReadLemmas.{read-from}
use Rattle.hu_kind.proofs.TokenLemmas.{tokens-none}
use Rattle.hu_kind.proofs.reading.first_number.Goals as goal

pub returns-in_err-start-clause-none : goal.returns-in_err-start-clause-none
returns-in_err-start-clause-none c = rw c.from_residual.ensures (tokens-none c.args.text.now (sym c.in_err-start.ensures))

pub returns-in-Some-clause-found : goal.returns-in-Some-clause-found
returns-in-Some-clause-found c =
    let begins = c.in-Some.ensures in
    let fits : FitsSigned w128 c.from.result = search rules in
    (read-from _ c.args.text.now c.split_at.result.1.now c.split_at-in-Some.result.1.now c.in_ok-start.start c.in-Some.count _
    (sym c.in_ok-start.ensures) c.split_at.ensures.back begins.end c.split_at-in-Some.ensures.back
    (begins.said ∙ ap Ok (sym (to_z-of_z w128 c.from.result fits ∙ c.from.ensures)))).0

pub returns-clause-found : goal.returns-clause-found
returns-clause-found c =
    (read-from _ c.args.text.now c.split_at.result.1.now c.split_at-2.result.1.now c.in_ok-start.start c.token_len.result _
    (sym c.in_ok-start.ensures) c.split_at.ensures.back c.token_len.ensures.value c.split_at-2.ensures.back
    (ap number (sym c.split_at-2.ensures.front) ∙ sym c.read_number.ensures)).0

pub returns-clause-shorter : goal.returns-clause-shorter
returns-clause-shorter c =
    (read-from number c.args.text.now c.split_at.result.1.now c.split_at-2.result.1.now c.in_ok-start.start c.token_len.result _
    (sym c.in_ok-start.ensures) c.split_at.ensures.back c.token_len.ensures.value c.split_at-2.ensures.back refl).1
