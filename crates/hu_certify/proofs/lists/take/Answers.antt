use Rattle.std.proofs.Common.{◌∙◌, set, ap}
use Rattle.hu_certify.specs.Slots.{lists_of}
use Rattle.hu_certify.specs.Spots.{spots_of}
use Rattle.hu_certify.proofs.ListLemmas.{lists-set}
use Rattle.hu_certify.proofs.lists.take.Goals as goal

pub returns-clause-left : goal.returns-clause-left
returns-clause-left c =
    lists-set c.args.lists.now.items c.args.rank c.replace.new.dest
    ∙ ap (λ places. set (lists_of c.args.lists.now.items) c.args.rank (spots_of places)) (ap (λ v. v.items) c.replace.ensures.after ∙ c.new.ensures.items)
