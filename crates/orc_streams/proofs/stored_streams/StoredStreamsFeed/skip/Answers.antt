use Rattle.std.proofs.Common.{◌<◌, [], length, arith}
use Rattle.orc_streams.proofs.Stored.{rests-get_or, others_stay}
use Rattle.orc_streams.proofs.stored_streams.StoredStreamsFeed.skip.Goals as goal

pub returns-clause-entry : goal.returns-clause-entry
returns-clause-entry c =
    let streams = c.args.self.now.streams.items in
    let h : c.args.stream < length streams = omega arith in
    others_stay streams c.args.stream c.skip.result c.skip.new.self h _ (rests-get_or streams c.args.stream c.index_mut.result.now _ [] h c.index_mut.ensures.value)
    c.skip.ensures.len c.skip.ensures.left
