use Rattle.std.proofs.Common.{◌++◌, refl, subst}
use Rattle.hu_io.specs.State.{Broke}
use Rattle.hu_io.proofs.lemmas.PutLemmas.{PutsAll-from_err}
use Rattle.hu_report.proofs.lemmas.PageLemmas.{Broke-forwarded, Broke-within, Forwards-append, PutsAll-flush}
use Rattle.hu_drill.specs.Summary.{numbers_text}
use Rattle.hu_drill.proofs.summary.write_summary.Goals as goal

pub returns-in_err-push_text : goal.returns-in_err-push_text
returns-in_err-push_text g c =
    let numbers = numbers_text c.args.summary.now in
    let old = g.S.Sink.state c.args.sink.now in
    let new = g.S.Sink.state c.push_text.new.sink in
    let name = c.as_bytes.result.now in
    PutsAll-from_err c.from_residual.result c.from_residual.ensures.0
    (subst (Broke old new) (λ i. c.new-page.ensures i ++ (c.as_bytes.ensures.value i ++ numbers))
    (Broke-within c.new-page.result name numbers c.in_err-push_text.ensures refl))

pub returns-in_err-push_numbers : goal.returns-in_err-push_numbers
returns-in_err-push_numbers g c =
    let numbers = numbers_text c.args.summary.now in
    let old = g.S.Sink.state c.args.sink.now in
    let new = g.S.Sink.state c.push_numbers.new.sink in
    PutsAll-from_err c.from_residual-in_err-push_numbers.result c.from_residual-in_err-push_numbers.ensures.0
    (subst (Broke old new) (λ i. c.new-page.ensures i ++ (c.as_bytes.ensures.value i ++ numbers))
    (Broke-forwarded numbers c.in_ok-push_text.ensures c.in_err-push_numbers.ensures))

pub returns : goal.returns
returns g c =
    let numbers = numbers_text c.args.summary.now in
    PutsAll-flush _ c.flush.result (Forwards-append c.in_ok-push_text.ensures c.in_ok-push_numbers.ensures) c.flush.ensures.puts
    (λ i. c.new-page.ensures i ++ (c.as_bytes.ensures.value i ++ numbers))
