use Rattle.std.proofs.Common.{List, ℕ, [], ◌∷◌, ◌++◌, ◌+◌, ◌∙◌, ap, sym}
use Rattle.tail_writer.proofs.Growing.{range_more}
use Rattle.tail_writer.proofs.column_types.numbers_from.Goals as goal

pub loop-i-preserved : goal.loop-i-preserved
loop-i-preserved c =
    c.in_ok-push.ensures.items ∙ ap (λ (xs : List ℕ). xs ++ (c.args.first + c.loop-i.i) ∷ []) c.loop-i.invariant ∙ sym (range_more c.args.first c.loop-i.i)
