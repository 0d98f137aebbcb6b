use Rattle.std.proofs.Common.{[], ◌<◌, ◌≤◌, length, arith}
use Rattle.std.proofs.lemmas.List.{take_rest}
use Rattle.outside.proofs.Slices.{bytes_of-get_or, others_stay}
use Rattle.outside.proofs.slice_feed.SliceFeedFeed.skip.Goals as goal

pub returns-clause-entry : goal.returns-clause-entry
returns-clause-entry c =
    let slices = c.args.self.now.rests.items in
    let h : c.args.stream < length slices = omega arith in
    let whole = c.index-left.result.now.now in
    let here = bytes_of-get_or slices c.args.stream c.index-left.result.now _ [] h c.index-left.ensures in
    let fits : c.min-skipped.result ≤ length whole = omega (arith, c.min-skipped.ensures) in
    others_stay slices c.args.stream c.min-skipped.result _ h whole here fits (take_rest whole c.min-skipped.result)
