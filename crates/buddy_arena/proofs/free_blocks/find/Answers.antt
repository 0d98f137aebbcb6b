use Rattle.std.proofs.Common.{◌≡◌, ℕ, Option, Some, None, arith}
use Rattle.std.specs.Int.{w64, trailing_zeros}
use Rattle.buddy_arena.specs.Buddy.{IsBuddyAnswer, buddy_answer}
use Rattle.buddy_arena.proofs.AnswerLemmas.{one_answer, buddy_answers}
use Rattle.buddy_arena.proofs.FindLemmas.{none_above, best_of_set, next_size, best_of_arena, none_in_arena}
use Rattle.buddy_arena.proofs.free_blocks.find.Goals as goal

same_answer : (word order : ℕ) (answer : Option ℕ) → IsBuddyAnswer 64 word order answer → answer ≡ buddy_answer 64 word order
same_answer word order answer is = one_answer 64 word order answer (buddy_answer 64 word order) is (buddy_answers 64 word order)

pub returns-then-order-gt-TOP_ORDER-clause-answer : goal.returns-then-order-gt-TOP_ORDER-clause-answer
returns-then-order-gt-TOP_ORDER-clause-answer c = none_above c.args.word c.args.order c.if-order-gt-TOP_ORDER.true

pub returns-then-order-gt-TOP_ORDER-clause-same : goal.returns-then-order-gt-TOP_ORDER-clause-same
returns-then-order-gt-TOP_ORDER-clause-same c =
    same_answer c.args.word c.args.order None (none_above c.args.word c.args.order c.if-order-gt-TOP_ORDER.true)

pub returns-then-free-ne0-clause-answer : goal.returns-then-free-ne0-clause-answer
returns-then-free-ne0-clause-answer c =
    let word = c.args.word in
    let inv = c.loop-size.invariant in
    best_of_set word c.args.order c.loop-size.size c.free_blocks-free.result (omega arith) (omega arith)
    (c.free_blocks-free.ensures word inv.set (c.larger_blocks-larger.ensures word inv.set)) (omega arith) inv.smaller

pub returns-then-free-ne0-clause-same : goal.returns-then-free-ne0-clause-same
returns-then-free-ne0-clause-same c =
    let word = c.args.word in
    let inv = c.loop-size.invariant in
    same_answer word c.args.order (Some (trailing_zeros w64 c.free_blocks-free.result))
    (best_of_set word c.args.order c.loop-size.size c.free_blocks-free.result (omega arith) (omega arith)
    (c.free_blocks-free.ensures word inv.set (c.larger_blocks-larger.ensures word inv.set)) (omega arith) inv.smaller)

pub loop-size-preserved : goal.loop-size-preserved
loop-size-preserved c =
    let word = c.args.word in
    let inv = c.loop-size.invariant in
    let larger = c.larger_blocks-larger.ensures word inv.set in
    record {
      fits = omega arith;
      set = larger;
      smaller = next_size word c.args.order c.loop-size.size c.free_blocks-free.result (omega arith)
          (c.free_blocks-free.ensures word inv.set larger) inv.smaller;
    }

pub returns-then-clear-eq0-clause-answer : goal.returns-then-clear-eq0-clause-answer
returns-then-clear-eq0-clause-answer c =
    none_in_arena c.args.word c.args.order c.loop-size.size c.loop-size.clear (omega arith) (omega arith) c.loop-size.invariant.set c.loop-size.invariant.smaller

pub returns-then-clear-eq0-clause-same : goal.returns-then-clear-eq0-clause-same
returns-then-clear-eq0-clause-same c =
    same_answer c.args.word c.args.order None
    (none_in_arena c.args.word c.args.order c.loop-size.size c.loop-size.clear (omega arith) (omega arith) c.loop-size.invariant.set c.loop-size.invariant.smaller)

pub returns-else-clear-eq0-clause-answer : goal.returns-else-clear-eq0-clause-answer
returns-else-clear-eq0-clause-answer c =
    best_of_arena c.args.word c.args.order c.loop-size.size c.loop-size.clear c.loop-size.invariant.fits (omega arith) (omega arith) c.loop-size.invariant.set (omega arith) c.loop-size.invariant.smaller

pub returns-else-clear-eq0-clause-same : goal.returns-else-clear-eq0-clause-same
returns-else-clear-eq0-clause-same c =
    same_answer c.args.word c.args.order (Some 0)
    (best_of_arena c.args.word c.args.order c.loop-size.size c.loop-size.clear c.loop-size.invariant.fits (omega arith) (omega arith) c.loop-size.invariant.set (omega arith) c.loop-size.invariant.smaller)
