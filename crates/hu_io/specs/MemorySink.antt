-- A sink in memory with a fixed room, of which chosen calls fail.
use Rattle.std.specs.Prelude.{
  ◌≡◌,
  ℕ,
  codes,
  refl,
  ◌+◌,
  ◌-◌,
  ◌≤◌,
  ◌∷◌,
  ◌==◌,
  ◌||◌,
  ◌&&◌,
  Bool,
  nat_lt,
  List,
  [],
  ◌++◌,
  length,
  take,
  Some,
  if◌then◌else◌,
}
use Rattle.hu_io.specs.Count.{one_more}
use Rattle.hu_io.specs.State.{SinkState, Broke}
use Rattle.hu_io.specs.Plan.{PlanView, after_call, listing, next_fails, no_plan}

-- what is seen of a `MemorySink`: its bytes, how many bytes fit in all, its plan, and the calls that failed
pub record SinkView : Type 0 where
  pub bytes : List ℕ
  pub room : ℕ
  pub plan : PlanView
  pub failed : ℕ

-- no byte, no plan and no fault
abbrev pub empty_sink : ℕ → SinkView
empty_sink room = record { bytes = []; room = room; plan = no_plan; failed = 0 }

-- the room that is left
abbrev pub room_left : SinkView → ℕ
room_left s = s.room - length s.bytes

-- the calls that failed, 0 while no call is listed and room is left
abbrev pub sink_faults : SinkView → ℕ
sink_faults s = if length s.plan.failing == 0 && nat_lt 0 (room_left s) then 0 else s.failed

-- what the trait sees of it: the plan is the room and then the calls that are to fail
abbrev pub sink_state : SinkView → SinkState
sink_state s = record { bytes = Some s.bytes; faults = sink_faults s; plan = s.room ∷ s.plan.failing }

-- whether the next call fails: by plan, or because no room is left for a byte
abbrev pub put_fails : SinkView → List ℕ → Bool
put_fails s piece = next_fails s.plan || (nat_lt 0 (length piece) && (room_left s == 0))

-- the sink after a call: it took what fits, or its count rose
abbrev pub after_put : SinkView → List ℕ → SinkView
after_put s piece =
    if put_fails s piece then record s { plan = after_call s.plan; failed = one_more s.failed }
    else record s { plan = after_call s.plan; bytes = s.bytes ++ take (room_left s) piece }

-- with room for three bytes, `abc` of `abcd` is taken, and the call with the rest fails
pub short_of_room : after_put (after_put (empty_sink 3) (codes "abcd")) (codes "d") ≡ record { bytes = codes "abc"; room = 3; plan = record { failing = []; calls = 2 }; failed = 1 }
short_of_room = refl

-- with room for four and the first call to fail, no byte is taken
pub failed_by_plan : after_put (record (empty_sink 4) { plan = listing 1 no_plan }) (codes "abcd") ≡ record { bytes = []; room = 4; plan = record { failing = 1 ∷ []; calls = 1 }; failed = 1 }
failed_by_plan = refl

-- while no call is to fail, a text that has room doesn't break
abbrev pub RoomySinksNeverFail : Type 0
RoomySinksNeverFail =
    (before now : SinkView) (text : List ℕ) → before.plan.failing ≡ []
    → length before.bytes + length text ≤ before.room
    → ¬ Broke (sink_state before) (sink_state now) text
