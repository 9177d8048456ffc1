use Rattle.hu_run.proofs.SureLemmas.{done_in_memory}
use Rattle.hu_run.proofs.laws.law_of_memory_streams.Goals as goal

pub returns : goal.returns
returns c = record { as_told = done_in_memory c.named_files_never_fail.ensures c.roomy_sinks_never_fail.ensures }
