use Rattle.std.proofs.Common.{◌≡◌, [], ◌<◌, ◌≤◌, length, arith, sym}
use Rattle.std.proofs.lemmas.List.{take_rest, take_at, length-take, take-append-drop}
use Rattle.outside.proofs.Slices.{bytes_of-get_or, replaced, others_stay}
use Rattle.outside.proofs.slice_feed.SliceFeedFeed.take.Goals as goal

pub returns-clause-bytes : goal.returns-clause-bytes
returns-clause-bytes c =
    let slices = c.args.self.now.rests.items in
    let h : c.args.stream < length slices = omega arith in
    let whole = c.index-rest.result.now.now in
    let here = bytes_of-get_or slices c.args.stream c.index-rest.result.now _ [] h c.index-rest.ensures in
    let fits : c.min-len.result ≤ length whole = omega (arith, c.min-len.ensures) in
    let front : length c.copy_from_slice.new.self ≡ c.min-len.result = rw c.copy_from_slice.ensures.after (omega (arith, length-take c.min-len.result whole)) in
    rw (here, take_at c.copy_from_slice.new.self _ c.min-len.result front, replaced slices c.args.stream c.min-len.result _ h, take_rest, c.copy_from_slice.ensures.after) (sym (take-append-drop c.min-len.result whole))

pub returns-clause-entry : goal.returns-clause-entry
returns-clause-entry c =
    let slices = c.args.self.now.rests.items in
    let h : c.args.stream < length slices = omega arith in
    let whole = c.index-rest.result.now.now in
    let here = bytes_of-get_or slices c.args.stream c.index-rest.result.now _ [] h c.index-rest.ensures in
    let fits : c.min-len.result ≤ length whole = omega (arith, c.min-len.ensures) in
    others_stay slices c.args.stream c.min-len.result _ h whole here fits (take_rest whole c.min-len.result)
