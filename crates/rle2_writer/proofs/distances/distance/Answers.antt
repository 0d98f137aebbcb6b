use Rattle.std.proofs.Common.{arith, refl}
use Rattle.rle2_writer.proofs.Differences.{distance_up, distance_down}
use Rattle.rle2_writer.proofs.distances.distance.Goals as goal

pub returns-then-step : goal.returns-then-step
returns-then-step c =
    distance_up c.args.step c.bits_of_value-before.result c.bits_of_value-value.result _ c.args.before.now c.args.value.now (omega (arith, c.if-step.true)) (omega (arith, c.bits_of_value-before.type_inv)) (omega (arith, c.bits_of_value-value.type_inv)) c.bits_of_value-before.ensures c.bits_of_value-value.ensures refl

pub returns-else-step : goal.returns-else-step
returns-else-step c =
    distance_down c.args.step c.bits_of_value-before.result c.bits_of_value-value.result _ c.args.before.now c.args.value.now (omega (arith, c.if-step.false)) (omega (arith, c.bits_of_value-before.type_inv)) (omega (arith, c.bits_of_value-value.type_inv)) c.bits_of_value-before.ensures c.bits_of_value-value.ensures refl
