use Rattle.buddy_arena.specs.Buddy.{IsClearBlock}
use Rattle.buddy_arena.specs.Sets.{IsSetOf}
use Rattle.buddy_arena.proofs.free_blocks.clear_blocks.Given as goal

abbrev pub invariant-loop-size : goal.invariant-loop-size
invariant-loop-size l = IsSetOf l.clear (λ p. IsClearBlock 64 l.word p l.size)
