use Rattle.std.proofs.Common.{arith, get_or}
use Rattle.row_texts.proofs.Positive.{is_positive}
use Rattle.row_texts.proofs.lengths.are_positive.Goals as goal

pub returns : goal.returns
returns c = λ below k d h.
    let most = c.bits_of.ensures.within k d h in
    is_positive (get_or c.args.lengths.now k d) (c.bits_of.ensures.fit k d h) (grind (arith, most, below))
