use Rattle.std.proofs.Common.{ℕ, List, ◌++◌, map, take}
use Rattle.hu_totals.specs.Weights.{numbers_of}
use Rattle.hu_closed.specs.Holders.{AreHolders}
use Rattle.hu_closed.proofs.holders.add_record.Given as goal

abbrev pub invariant-loop-item : goal.invariant-loop-item
invariant-loop-item l =
    (pairs : List (ℕ × ℕ)) → AreHolders l.initial.places pairs
    → AreHolders l.places (pairs ++ map (λ item. (item, l.place)) (numbers_of (take l.item-index l.items)))
