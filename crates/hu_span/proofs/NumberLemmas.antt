-- Numbers of 128 bits that aren't below 0.
use Rattle.std.proofs.Common.{◌≡◌, ◌^◌, ℤ, pos, ◌≤ℤ◌, ◌<ℤ◌, to_z, of_z, SFits, arith}
use Rattle.std.specs.Int.{w128}
use Rattle.std.proofs.lemmas.Int.{ints, to_z-of_z}

pub fits-z : (x : ℤ) → pos 0 ≤ℤ x → x <ℤ pos (2 ^ 127) → SFits w128 x
fits-z x low high = omega (arith, ints)

-- such a number is kept
pub kept-z : (x : ℤ) → pos 0 ≤ℤ x → x <ℤ pos (2 ^ 127) → to_z w128 (of_z w128 x) ≡ x
kept-z x low high = to_z-of_z w128 x (fits-z x low high)
