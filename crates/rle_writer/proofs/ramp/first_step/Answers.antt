use Rattle.std.proofs.Common.{arith, get_or, pos, refl}
use Rattle.rle_writer.proofs.Steps.{step_between}
use Rattle.rle_writer.proofs.ramp.first_step.Goals as goal

pub returns-clause-second : goal.returns-clause-second
returns-clause-second c more =
    let values = c.args.values.now in
    step_between c.bits_of_value-first.result c.bits_of_value.result _ (get_or values 0 (pos 0)) (get_or values 1 (pos 0)) (omega (arith, c.bits_of_value-first.type_inv)) (omega (arith, c.bits_of_value.type_inv)) c.bits_of_value-first.ensures c.bits_of_value.ensures refl
