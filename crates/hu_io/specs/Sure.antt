-- Files and sinks that never fail.
use Rattle.std.specs.Prelude.{ℕ, List, [], None, Some}
use Rattle.hu_io.specs.Files.{content_or_empty}
use Rattle.hu_io.specs.State.{SinkState, FilesState}

-- every name is there, with no bytes where it wasn't added; no count rises and no call is to fail
abbrev pub sure_state : List (List ℕ × List ℕ) → FilesState
sure_state files =
    record {
      contents = Some (λ name. Some (content_or_empty files name));
      faults = λ _. 0;
      plan =
          [];
    }

-- the bytes aren't told, the count doesn't rise and no call is to fail
abbrev pub sure_sink : SinkState
sure_sink = record { bytes = None; faults = 0; plan = [] }
