use Rattle.std.proofs.Common.{ℕ, [], ◌+◌, drop, arith}
use Rattle.std.proofs.lemmas.Grind.{common_steps}
use Rattle.hu_io.proofs.lemmas.PutLemmas.{PutsAll-from_err}
use Rattle.hu_average.specs.Text.{average_text, average_line}
use Rattle.hu_report.proofs.lemmas.PageLemmas.{Broke-forwarded, Broke-within, Forwards-both, PutsAll-flush, flat_map-split}
use Rattle.hu_average.proofs.text.write_averages.Goals as goal

pub returns-in_err-push_line-clause-puts : goal.returns-in_err-push_line-clause-puts
returns-in_err-push_line-clause-puts g c =
    let i : ℕ = c.loop-entry.entry-index in
    let entries = c.args.entries.now in
    let all = flat_map-split average_line entries i c.entry-item.result (omega arith) in
    PutsAll-from_err c.from_residual.result c.from_residual.ensures.0
    (Broke-within [] _ (average_text (drop (i + 1) entries)) (Broke-forwarded _ c.loop-entry.invariant c.in_err-push_line.ensures) (cc))

pub loop-entry-preserved : goal.loop-entry-preserved
loop-entry-preserved g c = Forwards-both c.loop-entry.invariant c.in_ok-push_line.ensures (grind (arith, common_steps))

pub returns-clause-puts : goal.returns-clause-puts
returns-clause-puts g c = PutsAll-flush _ c.flush.result c.loop-entry.invariant c.flush.ensures.puts (grind (arith, common_steps))
