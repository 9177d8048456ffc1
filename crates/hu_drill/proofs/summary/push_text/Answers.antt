use Rattle.std.proofs.Common.{◌∙◌, ◌++◌, ap, append_assoc}
use Rattle.std.proofs.lemmas.List.{take-append-drop}
use Rattle.hu_report.proofs.lemmas.PageLemmas.{Broke-forwarded, Forwards-append, Passes-longer}
use Rattle.hu_drill.proofs.summary.push_text.Goals as goal

pub returns-in_err-push : goal.returns-in_err-push
returns-in_err-push g c =
    let kept = c.loop-left.invariant in
    let split = (λ i. c.split_at.ensures.front i ++ c.split_at.ensures.back i) ∙ take-append-drop _ _ in
    Passes-longer _ _ _ c.split_at.result.1.now c.from_residual.result c.from_residual.ensures.0 (Broke-forwarded _ kept.sent c.in_err-push.ensures)
    (append_assoc kept.front c.split_at.result.0.now c.split_at.result.1.now ∙ ap (λ l. kept.front ++ l) split ∙ kept.whole)

pub loop-left-preserved : goal.loop-left-preserved
loop-left-preserved g c =
    let kept = c.loop-left.invariant in
    let split = (λ i. c.split_at.ensures.front i ++ c.split_at.ensures.back i) ∙ take-append-drop _ _ in
    record {
      front = kept.front ++ c.split_at.result.0.now;
      whole = append_assoc kept.front c.split_at.result.0.now c.split_at.result.1.now ∙ ap (λ l. kept.front ++ l) split ∙ kept.whole;
      sent = Forwards-append kept.sent c.in_ok-push.ensures;
    }
