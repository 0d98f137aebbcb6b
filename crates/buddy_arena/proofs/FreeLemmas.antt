-- Clear and free blocks: what a clear block's parent says.
use Rattle.std.proofs.Common.{◌≡◌, ℕ, ◌+◌, ◌≤◌, sym, subst, arith}
use Rattle.buddy_arena.specs.Block.{around}
use Rattle.buddy_arena.specs.Buddy.{IsClearBlock, IsFree}
use Rattle.buddy_arena.proofs.BlockLemmas.{around_around, nested_begin, nested_end, aligned_smaller}

-- the part of a clear block that is a block of a smaller order is clear
pub clear_part : (size bits p j k : ℕ) → j ≤ k → IsClearBlock size bits (around p k) k → IsClearBlock size bits (around p j) j
clear_part size bits p j k h big = record {
  block = record { aligned = around_around p j; inside = omega (arith, nested_end p j k h, big.block.inside) };
  clear = record { at = λ x low high. big.clear.at x (omega (arith, nested_begin p j k h)) (omega (arith, nested_end p j k h)) };
}

-- a clear block whose parent isn't clear is free
pub free_from_parent : (size bits p k : ℕ) → IsClearBlock size bits p k → (IsClearBlock size bits (around p (k + 1)) (k + 1) → ⊥) → IsFree size bits p k
free_from_parent size bits p k here parent = record {
  here = here;
  largest = λ larger h big. parent (clear_part size bits p (k + 1) larger (omega arith) big);
}

pub parent_of_free : (size bits p k : ℕ) → IsFree size bits p k → IsClearBlock size bits (around p (k + 1)) (k + 1) → ⊥
parent_of_free size bits p k free big = free.largest (k + 1) (omega arith) big

-- a clear block is one of each smaller order
pub clear_smaller : (size bits p j k : ℕ) → j ≤ k → IsClearBlock size bits p k → IsClearBlock size bits p j
clear_smaller size bits p j k h big =
    let own = big.block.aligned in
    let small : around p j ≡ p = aligned_smaller p j k h own in
    subst (λ (x : ℕ). IsClearBlock size bits x j) small
    (clear_part size bits p j k h (subst (λ (x : ℕ). IsClearBlock size bits x k) (sym own) big))
