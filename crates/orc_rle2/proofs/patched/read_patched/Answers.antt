use Rattle.std.proofs.Common.{ℕ, List, length, get_or}
use Rattle.outside.specs.Reading.{bind, exactly}
use Rattle.outside.specs.ReadingLaws.{Reads-then, Reads-same}
use Rattle.orc_rle2.specs.IntRun2.{patched_body, patched_after, shape_of, base_len, patch_count}
use Rattle.orc_rle2.proofs.Forms.{two_bytes}
use Rattle.orc_rle2.proofs.patched.read_patched.Goals as goal

pub returns : goal.returns
returns g c =
    let f = g.F.Feed in
    let law = g.met.F.Feed in
    let a = c.args in
    let count = length a.into.now in
    let last = c.read_after.new.feed in
    let after = λ (third fourth : ℕ). patched_after (shape_of a.width third fourth) (base_len third) (patch_count fourth) count in
    let next = λ (got : List ℕ). after (get_or got 0 0) (get_or got 1 0) in
    let reads = rw (c.from.ensures, c.width_of.ensures.value, c.from-2.ensures, c.from-base_len.ensures, c.from-patches.ensures) at c.read_after.ensures in
    Reads-same f.rest f.fed f.fault_count a.stream law.fed_nothing law.fed_joined a.feed.now last (patched_body a.width count) (bind (exactly 2) next) _ (λ bytes. two_bytes after bytes)
    (Reads-then f.rest f.fed f.fault_count a.stream law.fed_nothing law.fed_joined a.feed.now c.take_exactly.new.feed last (exactly 2) next c.take_exactly.new.into _ c.in_ok-take_exactly.ensures reads)
