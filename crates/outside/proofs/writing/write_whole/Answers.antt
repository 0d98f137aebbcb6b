use Rattle.std.proofs.Common.{◌≤◌, length, take, drop, arith, length-drop}
use Rattle.std.specs.Io.KnownBytes.{Appends}
use Rattle.std.proofs.Math.Seq.{take-add}
use Rattle.std.proofs.lemmas.List.{take_rest}
use Rattle.outside.proofs.KnownBytes.{Appends-then}
use Rattle.outside.proofs.writing.write_whole.Goals as goal

pub loop-done-preserved : goal.loop-done-preserved
loop-done-preserved g c =
    let bytes = c.args.bytes.now in
    let l = c.loop-done in
    let len = c.in_ok-len.len in
    let known : Appends (g.P.Write.contents l.output) (g.P.Write.contents c.write_again.new.output) (take len (drop l.done bytes)) =
    rw (take_rest bytes l.done) at c.in_ok-len.ensures.known in
    let fits : len ≤ length (drop l.done bytes) = rw (take_rest bytes l.done) at c.in_ok-len.ensures.fits in
    record {
      within = omega (arith, length-drop l.done bytes, fits, l.invariant.within);
      grown = rw (take-add l.done len bytes)
          (Appends-then (g.P.Write.contents c.args.output.now) (g.P.Write.contents l.output) (g.P.Write.contents c.write_again.new.output)
          (take l.done bytes) (take len (drop l.done bytes)) l.invariant.grown known);
    }
