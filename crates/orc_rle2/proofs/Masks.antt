-- Masks of so many low bits.
use Rattle.std.proofs.Common.{◌≡◌, ℕ, ◌-◌, ◌*◌, ◌%◌, ◌^◌, ◌+◌, ◌<◌, ap, ◌∙◌}
use Rattle.std.specs.Prelude.{bit_and}
use Rattle.std.proofs.lemmas.Nat.{and_mask, one_shl}
use Rattle.std.proofs.Math.Nat.{add-mod-mod}

pub masked : (n k w : ℕ) → k < w → bit_and n (1 * 2 ^ k % 2 ^ w - 1) ≡ n % 2 ^ k
masked n k w h = ap (λ (m : ℕ). bit_and n (m - 1)) (one_shl k w h) ∙ and_mask n k

pub patch_above : (width patch value : ℕ) → width < 64 → (bit_and value (1 * 2 ^ width % 2 ^ 64 - 1) + patch * 2 ^ width % 2 ^ 64) % 2 ^ 64 ≡ (value % 2 ^ width + patch * 2 ^ width) % 2 ^ 64
patch_above width patch value h =
    ap (λ (n : ℕ). (n + patch * 2 ^ width % 2 ^ 64) % 2 ^ 64) (masked value width 64 h) ∙ add-mod-mod (value % 2 ^ width) (patch * 2 ^ width) (2 ^ 64)
