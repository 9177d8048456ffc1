use Rattle.std.proofs.Common.{[], ◌∷◌, ◌∙◌, ap}
use Rattle.std.specs.Prelude.{codes, flat_map}
use Rattle.hu_input.specs.Reason.{joined}
use Rattle.hu_drill.specs.Summary.{summary_line}
use Rattle.hu_run.specs.Answer.{line_text}
use Rattle.hu_run.proofs.jobs.drill.answer.Goals as goal

pub returns : goal.returns
returns c =
    let first = c.new.ensures ∙ ap (summary_line (codes "items lists")) c.in_ok-lists.ensures in
    let second = c.new-2.ensures ∙ ap (summary_line (codes "items project")) c.in_ok-project.ensures in
    let third = c.new-3.ensures ∙ ap (summary_line (codes "items kept")) c.in_ok-kept.ensures in
    let fourth = c.new-4.ensures ∙ ap (summary_line (codes "closed lists")) c.in_ok-closed_lists.ensures in
    let fifth = c.new-5.ensures ∙ ap (summary_line (codes "closed project")) c.in_ok-closed_project.ensures in
    let sixth = c.new-6.ensures ∙ ap (summary_line (codes "closed kept")) c.in_ok-closed_kept.ensures in
    let last = c.new-7.ensures ∙ ap (summary_line (codes "seq chain")) c.in_ok-chain.ensures in
    ap (flat_map line_text) c.in_ok-lines.ensures.items
    ∙ (λ i. joined (first i ∷ second i ∷ third i ∷ fourth i ∷ fifth i ∷ sixth i ∷ last i ∷ []))
