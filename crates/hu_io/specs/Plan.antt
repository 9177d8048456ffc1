-- A plan of failures: which calls are to fail, and how many calls there were. Calls count from 1.
use Rattle.std.specs.Prelude.{ℕ, Bool, List, [], ◌∷◌, ◌++◌, ◌==◌}
use Rattle.std.specs.List.{list_any}
use Rattle.hu_io.specs.Count.{one_more}

-- what is seen of a `Plan`
pub record PlanView : Type 0 where
  pub failing : List ℕ
  pub calls : ℕ

-- no call is to fail, and none was made
abbrev pub no_plan : PlanView
no_plan = record { failing = []; calls = 0 }

-- the plan with one more call that is to fail
abbrev pub listing : ℕ → PlanView → PlanView
listing call plan = record plan { failing = plan.failing ++ call ∷ [] }

-- the plan after one more call
abbrev pub after_call : PlanView → PlanView
after_call plan = record plan { calls = one_more plan.calls }

-- whether the next call is to fail
abbrev pub next_fails : PlanView → Bool
next_fails plan = list_any (λ call. call == one_more plan.calls) plan.failing
