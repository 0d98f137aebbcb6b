use Rattle.std.proofs.Common.{arith, get_or, pos, length, ◌+◌, ◌≡◌}
use Rattle.std.specs.Int.{cast_signed, w64}
use Rattle.rle2_writer.proofs.Differences.{distances_more}
use Rattle.rle2_writer.proofs.distances.write_distances.Goals as goal

pub loop-i-preserved : goal.loop-i-preserved
loop-i-preserved c =
    let l = c.loop-i in
    let values = c.args.values.now in
    let room : length l.into + 1 ≡ length values = omega (arith, l.auto.into, c.requires) in
    distances_more (get_or values 0 (pos 0)) (cast_signed w64 c.args.step) values l.into l.i c.distance.result (omega (arith, l.auto.into, c.loop-i-test.true)) room l.invariant c.distance.ensures
