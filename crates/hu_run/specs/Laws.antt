-- Where files and sinks don't fail, the status of a run is that of what its job comes to.
use Rattle.std.specs.Prelude.{◌≡◌, ◌⊎◌, ℕ, ◌+◌, ◌≤◌, List, [], length, IsSome, IfOk, IfSome, ⊤}
use Rattle.std.specs.List.{Contains}
use Rattle.hu_io.specs.Files.{content_in}
use Rattle.hu_io.specs.State.{SinkState}
use Rattle.hu_io.specs.Sure.{sure_state, sure_sink}
use Rattle.hu_io.specs.MemoryFiles.{FilesView, files_state}
use Rattle.hu_io.specs.MemorySink.{SinkView, sink_state}
use Rattle.hu_run.specs.Job.{job, names_of, reads_of}
use Rattle.hu_run.specs.Ending.{Ending, writes, refuses, lacks, denies, ending, status_of}
use Rattle.hu_run.specs.Run.{Streams, Runs, WhereTold, streams}

-- the status is that of the ending, or want of memory
abbrev pub EndsAsTold : Streams → ℕ → Type 0
EndsAsTold s status = WhereTold s (λ e. (status ≡ status_of e) ⊎ (status ≡ 5))

-- the streams of a run over files and a sink that never fail
abbrev pub sure_streams : List (List ℕ) → List (List ℕ × List ℕ) → List (List ℕ × List ℕ)
    → SinkState → SinkState → Streams
sure_streams words files files_after err err_after =
    streams words (sure_state files) (sure_state files_after) sure_sink sure_sink err err_after

-- over such files and such a sink the status is that of the ending, or want of memory
abbrev pub IsSurelyDone : Type 0
IsSurelyDone =
    (words : List (List ℕ)) (files files_after : List (List ℕ × List ℕ)) (err err_after : SinkState)
    (status : ℕ)
    → Runs (sure_streams words files files_after err err_after) status
    → EndsAsTold (sure_streams words files files_after err err_after) status

-- the streams of a run over files and a sink in memory
abbrev pub memory_streams : List (List ℕ) → FilesView → FilesView → SinkView → SinkView → SinkState
    → SinkState → Streams
memory_streams words files files_after out out_after err err_after =
    streams words (files_state files) (files_state files_after) (sink_state out)
    (sink_state out_after) err err_after

-- the text of an ending has room
abbrev pub HasRoom : SinkView → Ending → Type 0
HasRoom out (writes text) = length out.bytes + length text ≤ out.room
HasRoom out (refuses name refusal) = ⊤
HasRoom out (lacks name) = ⊤
HasRoom out (denies denial) = ⊤

-- no call is to fail, every file and certificate that the words name is there, and there is room for the text that they come to
pub record IsUntroubled (words : List (List ℕ)) (files : FilesView) (out : SinkView) : Type 0 where
  pub no_failing_get : files.plan.failing ≡ []
  pub no_failing_put : out.plan.failing ≡ []
  pub there : IfOk (job words) (λ asked. (name : List ℕ) → Contains (reads_of asked words) name
      → IsSome (content_in files.files name))
  pub room : IfOk (job words)
      (λ asked. IfSome (ending asked (files_state files).contents (names_of asked words))
      (HasRoom out))

-- over such files and such a sink the status is that of the ending, or want of memory
abbrev pub IsDoneInMemory : Type 0
IsDoneInMemory =
    (words : List (List ℕ)) (files files_after : FilesView) (out out_after : SinkView)
    (err err_after : SinkState) (status : ℕ)
    → IsUntroubled words files out
    → Runs (memory_streams words files files_after out out_after err err_after) status
    → EndsAsTold (memory_streams words files files_after out out_after err err_after) status
