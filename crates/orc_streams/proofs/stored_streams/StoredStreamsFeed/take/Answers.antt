use Rattle.std.proofs.Common.{◌<◌, [], length, arith}
use Rattle.orc_streams.proofs.Stored.{rests-get_or, replaced, others_stay, taken_and_left}
use Rattle.orc_streams.proofs.stored_streams.StoredStreamsFeed.take.Goals as goal

pub returns-clause-bytes : goal.returns-clause-bytes
returns-clause-bytes c =
    let streams = c.args.self.now.streams.items in
    let h : c.args.stream < length streams = omega arith in
    rw (rests-get_or streams c.args.stream c.index_mut.result.now _ [] h c.index_mut.ensures.value, replaced streams c.args.stream 0 c.take.new.self h)
    (taken_and_left _ _ _ c.take.result c.take.ensures.bytes c.take.ensures.left)

pub returns-clause-entry : goal.returns-clause-entry
returns-clause-entry c =
    let streams = c.args.self.now.streams.items in
    let h : c.args.stream < length streams = omega arith in
    others_stay streams c.args.stream c.take.result c.take.new.self h _ (rests-get_or streams c.args.stream c.index_mut.result.now _ [] h c.index_mut.ensures.value)
    c.take.ensures.len c.take.ensures.left
