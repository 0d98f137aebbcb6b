use Rattle.orc_streams.proofs.Started.{tells_if, sized_if, others_stay}
use Rattle.orc_streams.proofs.openings.open_column.Goals as goal

pub returns : goal.returns
returns g c = record {
  opens = c.open_each.ensures;
  told = tells_if g.S.Feed.rest c.open_each.new.reader g.W.World.files c.args.file c.open_each.result c.args.index c.args.layout c.open_each.ensures.have;
  sized = sized_if g.S.Feed.rest c.open_each.new.reader c.open_each.result c.args.index c.args.layout c.open_each.ensures.sizes;
  others = others_stay g.S.Feed.rest c.args.reader.now c.open_each.new.reader c.args.index c.args.layout c.open_each.ensures.others;
}
