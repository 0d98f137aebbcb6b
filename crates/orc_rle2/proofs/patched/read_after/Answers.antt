use Rattle.std.proofs.Common.{◌+◌, ◌<◌, ◌≤◌, length, arith}
use Rattle.std.specs.Int.{cast_signed, w64}
use Rattle.outside.specs.ReadingLaws.{Reads-then, Reads-same}
use Rattle.orc_rle2.specs.IntRun2.{base_bytes, patched_values, patched_rest, patched_after}
use Rattle.orc_rle2.proofs.RunReader.{patched_after-narrow}
use Rattle.orc_rle2.proofs.patched.read_after.Goals as goal
use Rattle.orc_rle2.proofs.patched.read_after.Goals.{else-patches-gt0-via-then-patches-gt0+else-shape-gt64, else-patches-gt0-via-else-patches-gt0}

pub returns : goal.returns
returns g c =
    let f = g.F.Feed in
    let law = g.met.F.Feed in
    let a = c.args in
    let shape = a.shape in
    let narrow : 0 < a.patches → shape.gaps + shape.patches ≤ 64 =
    elim c.else-patches-gt0.branch [
      | else-patches-gt0-via-then-patches-gt0+else-shape-gt64 w ↦ λ some. omega (arith, w.if-shape-gt64.false)
      | else-patches-gt0-via-else-patches-gt0 w ↦ λ some. omega (arith, w.if-patches-gt0.false)
    ] in
    Reads-same f.rest f.fed f.fault_count a.stream law.fed_nothing law.fed_joined a.feed.now c.read_values.new.feed (patched_after shape a.base_len a.patches (length a.into.now)) (patched_rest shape a.base_len a.patches (length a.into.now)) _
    (λ bytes. patched_after-narrow shape a.base_len a.patches (length a.into.now) bytes narrow)
    (Reads-then f.rest f.fed f.fault_count a.stream law.fed_nothing law.fed_joined a.feed.now c.read_base.new.feed c.read_values.new.feed (base_bytes a.base_len) (λ base. patched_values shape base a.patches (length a.into.now)) (cast_signed w64 c.in_ok-base.base) _ c.in_ok-base.ensures c.read_values.ensures)
