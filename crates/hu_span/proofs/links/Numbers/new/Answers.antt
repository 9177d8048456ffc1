use Rattle.std.proofs.Common.{◌≡◌, ◌∙◌, length, replicate, rules, ap}
use Rattle.hu_span.specs.Links.{at}
use Rattle.hu_span.proofs.LinkLemmas.{at-zeros, numbers-none}
use Rattle.hu_span.proofs.links.Numbers.new.Goals as goal

pub returns-clause-rules : goal.returns-clause-rules
returns-clause-rules c =
    let zeros : c.in_ok-vec.field-0.items ≡ replicate c.args.room 0 = search rules in
    let size : length c.in_ok-vec.field-0.items ≡ c.args.room = search rules in
    numbers-none _ c.args.room c.requires size (λ b. ap (λ hs. at hs b) zeros ∙ at-zeros c.args.room b) c.new.ensures.items c.new-2.ensures.items
