use Rattle.std.proofs.Common.{sym, ap, ◌∙◌}
use Rattle.std.specs.Option.{option_map}
use Rattle.hu_io.proofs.LookupLemmas.{content_in-pairs}
use Rattle.hu_io.proofs.contents.Contents.content.Goals as goal

pub returns-in-Some : goal.returns-in-Some
returns-in-Some c =
    rw (← c.self.view_is, c.as_slice.ensures.value)
    (ap (option_map (λ v. v.items)) c.in-Some.ensures.value ∙ sym (content_in-pairs (λ v. v.items) c.args.name.now _))

pub returns-in-None : goal.returns-in-None
returns-in-None c =
    rw (← c.self.view_is)
    (ap (option_map (λ v. v.items)) c.in-None.ensures.value ∙ sym (content_in-pairs (λ v. v.items) c.args.name.now _))
