use Rattle.std.proofs.Common.{◌^◌, ◌≤◌, arith}
use Rattle.std.proofs.Math.Pow.{pow_mono}
use Rattle.buddy_arena.proofs.blocks.places.Goals as goal

pub returns-clause-most : goal.returns-clause-most
returns-clause-most c =
    let within : 2 ^ c.args.order ≤ 2 ^ 6 = pow_mono c.requires in
    omega arith
