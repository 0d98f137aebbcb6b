-- The exits of `find`: the best free block is the lowest of the first size that has one.
use Rattle.std.proofs.Common.{◌≡◌, ℕ, ◌+◌, ◌^◌, ◌<◌, ◌≤◌, inl, inr, Some, None, ap, subst, arith}
use Rattle.std.specs.Int.{w64, bit_at, trailing_zeros}
use Rattle.std.proofs.lemmas.Nat.Bits.{bit_at-zero, bit_at-trailing_zeros}
use Rattle.std.proofs.lemmas.Bool.{cases_lt}
use Rattle.buddy_arena.specs.Buddy.{IsClearBlock, IsFree, IsBuddyAnswer}
use Rattle.buddy_arena.specs.Sets.{IsSetOf}
use Rattle.buddy_arena.proofs.BlockLemmas.{order_within}
use Rattle.buddy_arena.proofs.FreeLemmas.{free_from_parent}

-- no block has an order above 6
pub none_above : (word order : ℕ) → 6 < order → IsBuddyAnswer 64 word order None
none_above word order h = λ p k free from. omega (arith, order_within k (omega (arith, free.here.block.inside)))

-- the lowest place of the set is the answer, where the set has the free blocks of a size and no smaller one serves
pub best_of_set : (word order size set : ℕ) → set < 2 ^ 64 → (set ≡ 0 → ⊥) → IsSetOf set (λ p. IsFree 64 word p size) → order ≤ size →
    ((p k : ℕ) → IsFree 64 word p k → order ≤ k → size ≤ k) → IsBuddyAnswer 64 word order (Some (trailing_zeros w64 set))
best_of_set word order size set fits some frees serves smaller =
    let positive : 0 < set = omega arith in
    let lowest_bit = bit_at-trailing_zeros w64 set positive fits in (
      size,
      record {
        free = frees.holds (trailing_zeros w64 set) lowest_bit.1;
        serves = serves;
        smallest = smaller;
        lowest = λ p free. not_below word size set (trailing_zeros w64 set) lowest_bit.2 frees p free;
      },
    )
  where
    not_below : (word size set z : ℕ) → ((i : ℕ) → i < z → bit_at set i ≡ 0) → IsSetOf set (λ p. IsFree 64 word p size) → (p : ℕ) → IsFree 64 word p size → z ≤ p
    not_below word size set z clear frees p free =
        elim (cases_lt p z) [
          | inl below ↦ absurd (omega (arith, clear p below, frees.has p free))
          | inr from ↦ from
        ]

-- where no block of the size is free, the next size is the least that may serve
pub next_size : (word order size set : ℕ) → set ≡ 0 → IsSetOf set (λ p. IsFree 64 word p size) →
    ((p k : ℕ) → IsFree 64 word p k → order ≤ k → size ≤ k) → (p k : ℕ) → IsFree 64 word p k → order ≤ k → size + 1 ≤ k
next_size word order size set empty frees smaller p k free from =
    elim (cases_lt size k) [
      | inl above ↦ omega arith
      | inr within ↦
          let same : k ≡ size = omega (arith, smaller p k free from) in
          let here = frees.has p (subst (λ (x : ℕ). IsFree 64 word p x) same free) in
          absurd (omega (arith, here, ap (λ (x : ℕ). bit_at x p) empty, bit_at-zero p))
    ]

-- a clear block of order 6 is the whole arena, and free
whole_arena : (word p : ℕ) → IsClearBlock 64 word p 6 → (p ≡ 0) × IsFree 64 word p 6
whole_arena word p clear =
    (omega (arith, clear.block.inside), free_from_parent 64 word p 6 clear (λ big. omega (arith, big.block.inside)))

-- the arena is clear
pub best_of_arena : (word order size set : ℕ) → set < 2 ^ 64 → (set ≡ 0 → ⊥) → size ≡ 6 → IsSetOf set (λ p. IsClearBlock 64 word p size) → order ≤ size →
    ((p k : ℕ) → IsFree 64 word p k → order ≤ k → size ≤ k) → IsBuddyAnswer 64 word order (Some 0)
best_of_arena word order size set fits some top clears serves smaller =
    let positive : 0 < set = omega arith in
    let lowest_bit = bit_at-trailing_zeros w64 set positive fits in
    let there = clears.holds (trailing_zeros w64 set) lowest_bit.1 in
    let whole = whole_arena word (trailing_zeros w64 set) (subst (λ (x : ℕ). IsClearBlock 64 word (trailing_zeros w64 set) x) top there) in (
      6,
      record {
        free = subst (λ (x : ℕ). IsFree 64 word x 6) whole.0 whole.1;
        serves = omega arith;
        smallest = λ p k free from. omega (arith, smaller p k free from);
        lowest = λ p free. omega arith;
      },
    )

-- no block is free
pub none_in_arena : (word order size set : ℕ) → set ≡ 0 → size ≡ 6 → IsSetOf set (λ p. IsClearBlock 64 word p size) →
    ((p k : ℕ) → IsFree 64 word p k → order ≤ k → size ≤ k) → IsBuddyAnswer 64 word order None
none_in_arena word order size set empty top clears smaller = λ p k free from.
    let block = free.here.block in
    let same : k ≡ size = omega (arith, order_within k (omega (arith, block.inside)), smaller p k free from) in
    let here = clears.has p (subst (λ (x : ℕ). IsClearBlock 64 word p x) same free.here) in
    omega (arith, here, ap (λ (x : ℕ). bit_at x p) empty, bit_at-zero p)
