use Rattle.std.proofs.Common.{◌∙◌, set, ap}
use Rattle.hu_raise.specs.View.{rests_of, waiting_in}
use Rattle.hu_raise.proofs.VectorLemmas.{waiting-set}
use Rattle.hu_raise.proofs.rests.take.Goals as goal

pub returns-clause-left : goal.returns-clause-left
returns-clause-left c =
    let lists = c.args.waiting.now.items in
    waiting-set lists c.args.rank c.replace.new.dest
    ∙ ap (λ rests. set (waiting_in lists) c.args.rank (rests_of rests)) (ap (λ v. v.items) c.replace.ensures.after ∙ c.new.ensures.items)
