use Rattle.std.proofs.Common.{◌≡◌, ◌<◌, length, rules}
use Rattle.orc_walk.proofs.OneStripe.{in_the_file, counted, not_counted, footer_stops, columns_walked}
use Rattle.orc_walk.proofs.stripe_walk.walk_stripe.Goals as goal

pub returns-in_default-clause-walks : goal.returns-in_default-clause-walks
returns-in_default-clause-walks g c =
    let none : length c.args.columns.now ≡ 0 = search rules in
    not_counted g.S.StreamReader.did g.S.Feed.fault_count g.W.World.files g.C.Consumer.ate c.args.file c.args.columns.now c.args.number c.args.stripe.now
    g.met.S.StreamReader.did_nothing c.args.reader.now c.args.consumer.now c.count.new.self none

pub returns-then-is_empty-clause-walks : goal.returns-then-is_empty-clause-walks
returns-then-is_empty-clause-walks g c =
    let none : length c.args.columns.now ≡ 0 = search rules in
    counted g.S.StreamReader.did g.S.Feed.fault_count g.W.World.files g.C.Consumer.ate c.args.file c.args.columns.now c.args.number c.args.stripe.now c.in-Ok.field-0
    g.met.S.StreamReader.did_nothing c.args.reader.now c.args.consumer.now c.count.new.self none c.in-Ok.ensures.ate

pub returns-in-Err-clause-walks : goal.returns-in-Err-clause-walks
returns-in-Err-clause-walks g c =
    let m = g.met.S.StreamReader in
    let some : 0 < length c.args.columns.now = search rules in
    rw c.footer_stop.ensures (footer_stops g.S.StreamReader.did g.S.Feed.fault_count g.W.World.files g.C.Consumer.ate c.args.file c.args.columns.now c.args.number c.args.stripe.now
    g.S.RangeReader.went g.S.RangeReader.fault_count m.one_count m.did_read some c.args.reader.now c.read_stripe_footer.new.reader c.args.consumer.now c.in-Err.fault
    (g.met.C.Consumer.ate_nothing c.args.consumer.now) c.in-Err.ensures.followed)

pub walk_columns-walked-requires-clause-in_file : goal.walk_columns-walked-requires-clause-in_file
walk_columns-walked-requires-clause-in_file g c =
    let law = c.layouts_end_in_the_stripe.ensures in
    in_the_file law.end law.later c.args.stripe.now c.in-Ok-read_stripe_footer.footer c.args.file.len c.requires.in_file c.in-Ok-read_stripe_footer.ensures.follow

pub returns-clause-walks : goal.returns-clause-walks
returns-clause-walks g c =
    let m = g.met.S.StreamReader in
    let some : 0 < length c.args.columns.now = search rules in
    columns_walked g.S.StreamReader.did g.S.Feed.fault_count g.W.World.files g.C.Consumer.ate c.args.file c.args.columns.now c.args.number c.args.stripe.now
    g.S.RangeReader.went g.S.RangeReader.fault_count m.one_count m.did_read some c.args.reader.now c.read_stripe_footer.new.reader m.did_joined c.walk_columns-walked.new.reader c.close.new.self
    c.args.consumer.now c.walk_columns-walked.new.consumer c.in-Ok-read_stripe_footer.footer c.walk_columns-walked.result c.in-Ok-read_stripe_footer.ensures.followed
    c.walk_columns-walked.ensures.walks c.close.ensures.acts c.close.ensures.count
