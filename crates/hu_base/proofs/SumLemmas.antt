-- A sum over a list is that over its front and its tail.
use Rattle.std.proofs.Common.{◌≡◌, ℕ, ◌+◌, ◌-◌, ◌≤◌, List, length, take, drop, sum_by, arith, length-drop}
use Rattle.std.proofs.lemmas.List.{take_all}
use Rattle.std.proofs.lemmas.List.Sums.{sum_by-take-drop}

pub sum_by-parts : {X : Type 0} (f : X → ℕ) (xs : List X) (n : ℕ) → sum_by f (take n xs) + sum_by f (take (length xs - n) (drop n xs)) ≡ sum_by f xs
sum_by-parts f xs n =
    let all : length (drop n xs) ≤ length xs - n = omega (arith, length-drop n xs) in
    rw (take_all (length xs - n) (drop n xs) all) (sum_by-take-drop f xs n)
