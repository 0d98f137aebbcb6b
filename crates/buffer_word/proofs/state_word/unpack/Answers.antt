use Rattle.std.proofs.Common.{refl}
use Rattle.buffer_word.proofs.Flags.{word_single}
use Rattle.buffer_word.proofs.state_word.unpack.Goals as goal

pub returns-in-None-clause-packed : goal.returns-in-None-clause-packed
returns-in-None-clause-packed c = λ s fits e. absurd (word_single s c.args.word e (c.in-None.ensures.refused.0 refl))
