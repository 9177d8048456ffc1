-- What a run leaves of its files and streams.
use Rattle.std.proofs.Common.{◌≡◌, ℕ, ◌≤◌, List, ap, refl, inl, inr, arith}
use Rattle.std.specs.Prelude.{◌≢◌}
use Rattle.hu_io.specs.State.{SinkState, FilesState, Appended, Broke, Missed}
use Rattle.hu_run.specs.Run.{Streams, Spares, Tells}

pub record KeepsFiles (old new : FilesState) : Type 0 where
  pub later : (name : List ℕ) → old.faults name ≤ new.faults name
  pub contents : new.contents ≡ old.contents
  pub plan : new.plan ≡ old.plan

pub files-same : (old new : FilesState) → new ≡ old → KeepsFiles old new
files-same old new same = record {
  later = λ name. omega (arith, ap (λ f. f.faults name) same);
  contents = ap (λ f. f.contents) same;
  plan = ap (λ f. f.plan) same;
}

pub files-missed : (old new : FilesState) (name : List ℕ) → Missed old new name → KeepsFiles old new
files-missed old new name missed = record { later = missed.later; contents = missed.contents; plan = missed.plan }

pub record KeepsSink (old new : SinkState) : Type 0 where
  pub later : old.faults ≤ new.faults
  pub plan : new.plan ≡ old.plan

pub sink-same : (old new : SinkState) → new ≡ old → KeepsSink old new
sink-same old new same = record { later = omega (arith, ap (λ s. s.faults) same); plan = ap (λ s. s.plan) same }

pub sink-put : {old new : SinkState} {text : List ℕ} → Appended old new text → KeepsSink old new
sink-put put = record { later = omega (arith, put.faults); plan = put.plan }

pub sink-broke : {old new : SinkState} {text : List ℕ} → Broke old new text → KeepsSink old new
sink-broke broke = record { later = broke.later; plan = broke.plan }

pub sink-told : (s : Streams) (line : List ℕ) → Tells s line → KeepsSink s.err s.err_after
sink-told s line (inl put) = sink-put put
sink-told s line (inr broke) = sink-broke broke

module _ (s : Streams) where
  spares : (status : ℕ) → KeepsFiles s.files s.files_after → (status ≢ 3 → s.files_after ≡ s.files) → KeepsSink s.out s.out_after
      → (status ≢ 4 → s.out_after.faults ≡ s.out.faults) → KeepsSink s.err s.err_after → Spares s status
  spares status files files_same out out_same err = record {
    files_same = files_same;
    files_later = files.later;
    out_same = out_same;
    out_later = out.later;
    err_later = err.later;
    contents = files.contents;
    files_plan = files.plan;
    out_plan = out.plan;
    err_plan = err.plan;
  }

  -- what was read was given, and something was written
  pub spares-written : (status : ℕ) → s.files_after ≡ s.files → KeepsSink s.out s.out_after → (status ≢ 4 → s.out_after.faults ≡ s.out.faults)
      → KeepsSink s.err s.err_after → Spares s status
  spares-written status files out out_same err =
      spares status (files-same s.files s.files_after files) (λ _. files) out out_same err

  -- nothing was written
  pub spares-stopped : (status : ℕ) → s.files_after ≡ s.files → s.out_after ≡ s.out → KeepsSink s.err s.err_after → Spares s status
  spares-stopped status files out err =
      spares-written status files (sink-same s.out s.out_after out) (λ _. ap (λ o. o.faults) out) err

  -- and a read failed
  pub spares-unread : (name : List ℕ) → Missed s.files s.files_after name → s.out_after ≡ s.out → KeepsSink s.err s.err_after → Spares s 3
  spares-unread name missed out err =
      spares 3 (files-missed s.files s.files_after name missed) (λ not. absurd (not refl)) (sink-same s.out s.out_after out)
      (λ _. ap (λ o. o.faults) out) err
