use Rattle.buddy_arena.proofs.SetLemmas.{clear_places}
use Rattle.std.proofs.Common.{arith}
use Rattle.buddy_arena.proofs.free_blocks.clear_blocks.Goals as goal

pub loop-size-init : goal.loop-size-init
loop-size-init c = clear_places c.args.word (omega arith)

pub loop-size-preserved : goal.loop-size-preserved
loop-size-preserved c = c.larger_blocks-clear.ensures c.args.word c.loop-size.invariant
