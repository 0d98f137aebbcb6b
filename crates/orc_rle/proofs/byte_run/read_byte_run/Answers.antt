use Rattle.outside.specs.Reading.{byte}
use Rattle.outside.specs.ReadingLaws.{Reads-then}
use Rattle.orc_rle.specs.ByteRun.{bytes_after}
use Rattle.orc_rle.proofs.byte_run.read_byte_run.Goals as goal

pub returns-clause-reads : goal.returns-clause-reads
returns-clause-reads g c =
    let f = g.F.Feed in
    let law = g.met.F.Feed in
    let a = c.args in
    Reads-then f.rest f.fed f.fault_count a.stream law.fed_nothing law.fed_joined a.feed.now c.take_byte.new.feed c.read_after.new.feed byte bytes_after c.in_ok-control.control _ c.in_ok-control.ensures c.read_after.ensures.reads
