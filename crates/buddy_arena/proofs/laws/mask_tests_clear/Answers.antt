use Rattle.buddy_arena.proofs.MaskLemmas.{clear_from_mask, mask_from_clear}
use Rattle.buddy_arena.proofs.laws.mask_tests_clear.Goals as goal

pub returns : goal.returns
returns c = λ bits mask place order m. (clear_from_mask bits mask place order m, mask_from_clear bits mask place order m)
