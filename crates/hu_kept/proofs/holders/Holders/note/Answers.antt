use Rattle.std.proofs.Common.{◌∙◌, ◌++◌, ap}
use Rattle.hu_base.specs.Base.{records_of}
use Rattle.hu_kept.proofs.holders.Holders.note.Goals as goal

pub returns-in_err-self-clause-front : goal.returns-in_err-self-clause-front
returns-in_err-self-clause-front c =
    let records = records_of c.args.base.now in
    (records, ap (λ front. front ++ records) (c.replace-holders.ensures.after ∙ c.none.ensures))
