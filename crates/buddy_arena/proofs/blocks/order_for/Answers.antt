use Rattle.std.proofs.Common.{◌≡◌, ℕ, ◌+◌, ◌*◌, ◌^◌, ◌<◌, ◌≤◌, inl, inr, ap, ◌∙◌, arith}
use Rattle.std.proofs.Math.Nat.{mul-le-mul_left}
use Rattle.std.proofs.Math.Pow.{pow_mono}
use Rattle.std.proofs.lemmas.Bool.{cases_lt}
use Rattle.buddy_arena.proofs.BlockLemmas.{pow_double}
use Rattle.buddy_arena.proofs.blocks.order_for.Goals as goal

next_order : (len min_block order block k : ℕ) → block ≡ min_block * 2 ^ order → block < len → len ≤ min_block * 2 ^ k → order + 1 ≤ k
next_order len min_block order block k grown short holds =
    elim (cases_lt order k) [
      | inl above ↦ omega arith
      | inr within ↦
          let less : 2 ^ k ≤ 2 ^ order = pow_mono within in
          absurd (omega (arith, mul-le-mul_left min_block less))
    ]

doubled : (m k : ℕ) → m * 2 ^ k * 2 ≡ m * 2 ^ (k + 1)
doubled m k = omega (arith, ap (λ (x : ℕ). m * x) (pow_double k))

pub loop-block-preserved : goal.loop-block-preserved
loop-block-preserved c =
    let inv = c.loop-block.invariant in
    record {
      grown = ap (λ (x : ℕ). x * 2) inv.grown ∙ doubled c.args.min_block c.loop-block.order;
      small = omega (arith, inv.small);
      least = λ k holds. next_order c.args.len c.args.min_block c.loop-block.order c.loop-block.block k inv.grown (omega arith) holds;
    }
