-- Powers of two that fit a word.
use Rattle.std.proofs.Common.{◌≡◌, ℕ, ◌+◌, ◌^◌, ◌<◌, ◌≤◌, arith}
use Rattle.std.proofs.Math.Pow.{pow_mono}
use Rattle.std.proofs.lemmas.Nat.{pow_pos}

pub pow_at_12 : (k : ℕ) → k ≤ 12 → 2 ^ k ≤ 4096
pow_at_12 k h = pow_mono {j = 12} h

pub pow_from_64 : (k : ℕ) → 64 ≤ k → 18446744073709551616 ≤ 2 ^ k
pow_from_64 k h = pow_mono {i = 64} h

pub ruleset shifts = (pow_at_12, pow_from_64, pow_pos)
