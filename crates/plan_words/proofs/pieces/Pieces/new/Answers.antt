use Rattle.std.proofs.Common.{arith}
use Rattle.plan_words.proofs.PieceSteps.{few_pieces}
use Rattle.plan_words.proofs.pieces.Pieces.new.Goals as goal

pub returns-clause-few : goal.returns-clause-few
returns-clause-few c = omega (arith, few_pieces c.args.separator c.args.bytes.now)
