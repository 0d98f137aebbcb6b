use Rattle.std.proofs.Common.{ℕ, ◌/◌, ◌+◌, ◌^◌, sym, subst, arith}
use Rattle.std.specs.Prelude.{bit_and}
use Rattle.std.proofs.lemmas.Nat.{pow_below}
use Rattle.buddy_arena.specs.Buddy.{IsClearBlock}
use Rattle.buddy_arena.specs.Sets.{IsSetOf}
use Rattle.buddy_arena.proofs.SetLemmas.{larger_set}
use Rattle.buddy_arena.proofs.free_blocks.larger_blocks.Goals as goal

pub overflow_shr-result : goal.overflow_shr-result
overflow_shr-result c = omega (arith, c.places.ensures.value, pow_below c.args.order 6 c.requires)

pub returns : goal.returns
returns c = λ bits halves.
    subst
    (λ (x : ℕ). IsSetOf (bit_and (bit_and c.args.clear (c.args.clear / 2 ^ x)) c.aligned_places.result) (λ p. IsClearBlock 64 bits p (c.args.order + 1)))
    (sym c.places.ensures.value)
    (larger_set c.args.clear c.aligned_places.result bits c.args.order c.aligned_places.ensures halves)
