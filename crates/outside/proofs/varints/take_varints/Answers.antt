use Rattle.std.proofs.Common.{length, sym}
use Rattle.outside.specs.Varint.{varints, open_varints}
use Rattle.outside.specs.ReadingLaws.{Reads-same}
use Rattle.outside.proofs.Varint.{open_varints-fresh}
use Rattle.outside.proofs.varints.take_varints.Goals as goal

pub returns : goal.returns
returns g c =
    let f = g.F.Feed in
    let law = g.met.F.Feed in
    let count = length c.args.out.now in
    let reads = rw (c.new.ensures.groups, c.new.ensures.count) at c.take_open.ensures in
    Reads-same f.rest f.fed f.fault_count c.args.stream law.fed_nothing law.fed_joined c.args.feed.now c.take_open.new.feed (varints count) (open_varints 0 0 count) _ (λ bytes. sym (open_varints-fresh count bytes)) reads
