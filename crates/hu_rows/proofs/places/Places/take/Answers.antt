use Rattle.std.proofs.Common.{◌∙◌, ◌<◌, [], length, cond, eqb, ap, arith}
use Rattle.hu_rows.specs.Handed.{places_at}
use Rattle.hu_totals.specs.View.{lists_in}
use Rattle.hu_rows.proofs.PlaceLemmas.{places_at-taken}
use Rattle.hu_rows.proofs.places.Places.take.Goals as goal

pub returns-clause-left : goal.returns-clause-left
returns-clause-left c other =
    let lists = c.self.inside.of_ranks.items in
    let within : c.args.rank < length (lists_in lists) = omega (arith, ap length c.self.view_is, c.requires) in
    places_at-taken lists c.args.rank c.replace.new.dest within (ap (λ v. v.items) c.replace.ensures.after ∙ c.new.ensures.items) other
    ∙ ap (λ ls. cond (eqb other c.args.rank) [] (places_at ls other)) c.self.view_is
