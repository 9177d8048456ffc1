-- Draws of a generator whose state is a number from 1 to 2 ^ 31 - 2: each replaces the state and gives the new one.
-- After Park and Miller (1988), with the multiplier of Park, Miller and Stockmeyer (1993).
use Rattle.std.specs.Prelude.{ℕ, zero, suc, ◌*◌, ◌%◌}

-- a draw from a state
abbrev pub next_draw : ℕ → ℕ
next_draw state = (state * 48271) % 2147483647

-- the state after a number of draws
abbrev pub after_draws : ℕ → ℕ → ℕ
after_draws zero state = state
after_draws (suc n) state = next_draw (after_draws n state)
