use Rattle.orc_streams.proofs.Started.{each_tells_if, each_sized_if}
use Rattle.orc_streams.proofs.openings.open_columns.Goals as goal

pub returns : goal.returns
returns g c = record {
  opens = c.open_from.ensures;
  told = each_tells_if g.S.Feed.rest c.open_from.new.reader g.W.World.files c.args.file c.open_from.result 0 c.args.layouts.now c.open_from.ensures.have;
  sized = each_sized_if g.S.Feed.rest c.open_from.new.reader c.open_from.result 0 c.args.layouts.now c.open_from.ensures.sizes;
}
