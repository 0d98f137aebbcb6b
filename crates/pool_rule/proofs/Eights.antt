-- The bytes of a minimum block are eight for each of its cells.
use Rattle.std.proofs.Common.{◌≡◌, ℕ, ◌*◌, ◌/◌, ◌%◌, ◌≤◌, inl, inr, arith, eqb-true}
use Rattle.std.specs.Prelude.{count_ones}
use Rattle.std.proofs.lemmas.Bool.{cases_lt}
use Rattle.std.proofs.lemmas.Nat.{zero_from_ones}
use lib.Count.{ones_step}
use Rattle.pool_rule.specs.declared.geometry.Geometry.{Geometry}
use Rattle.pool_rule.specs.Layout.{IsGeometry, block_cells}

-- a number with one bit set is even, and half of it has one bit set, unless it is 1
halved : (n : ℕ) → count_ones n ≡ 1 → 2 ≤ n → (n ≡ 2 * (n / 2)) × (count_ones (n / 2) ≡ 1)
halved n one two =
    let s = ones_step n in
    elim (cases_lt (n % 2) 1) [
      | inl even ↦ (omega (arith, even), omega (arith, s, one, even))
      | inr odd ↦ let none = zero_from_ones (n / 2) (omega (arith, s, one, odd)) in absurd (omega (arith, none, two))
    ]

eighths : (n : ℕ) → count_ones n ≡ 1 → 64 ≤ n → n ≡ 8 * (n / 8)
eighths n one from =
    let a = halved n one (omega (arith, from)) in
    let b = halved (n / 2) a.1 (omega (arith, from)) in
    let c = halved (n / 2 / 2) b.1 (omega (arith, from)) in
    omega (arith, a.0, b.0, c.0)

pub eights : (g : Geometry) → IsGeometry g → g.min_block ≡ 8 * block_cells g
eights g h = eighths g.min_block (eqb-true (count_ones g.min_block) 1 h.power) h.min_block.0
