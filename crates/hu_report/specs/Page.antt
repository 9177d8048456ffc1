-- What goes out where bytes wait on a page until a sink takes them.
use Rattle.std.specs.Prelude.{◌≡◌, ℕ, List, ◌++◌, Result, MatchResult}
use Rattle.hu_io.specs.State.{SinkState, Appended, Broke}

-- of what waited and then the text, a front went out, and the rest waits
pub record Forwards (old new : SinkState) (waited waits text : List ℕ) : Type 0 where
  pub front : List ℕ
  pub appended : Appended old new front
  pub whole : front ++ waits ≡ waited ++ text

-- Ok forwards the text, and after Failed a proper front of what waited and then the text went out
abbrev pub Passes : {E : Type 0} → SinkState → SinkState → Result (Unit {0}) E → List ℕ → List ℕ
    → List ℕ → Type 0
Passes old new result waited waits text =
    MatchResult result (λ _. Forwards old new waited waits text) (λ _. Broke old new (waited ++ text))
