use Rattle.std.proofs.Common.{arith}
use Rattle.held_ranges.specs.Moments.{keys_of, moment}
use Rattle.cut_streams.specs.Streams.{cursor_of}
use Rattle.cut_streams.proofs.Doing.{went_as, went_nowhere}
use Rattle.cut_streams.proofs.Takes.{is_at_hand, readies}
use Rattle.cut_streams.proofs.taking.make_ready.Goals as goal

pub returns-then-offset_of-eq0-clause-went : goal.returns-then-offset_of-eq0-clause-went
returns-then-offset_of-eq0-clause-went g c =
    went_as g.W.World.files g.S.Store.reads (moment c.args.desk.now c.args.slots.now.items) (moment c.next_cut.new.desk c.next_cut.new.slots.items) _ _
    (λ ds s. readies c.args.chunk c.args.slot (cursor_of c.args.stream.now) (keys_of c.args.slots.now.items) c.next_cut.result ds (keys_of c.next_cut.new.slots.items)
    c.requires.chunk.some (omega (arith, c.offset_of.ensures.offset)) s)
    c.next_cut.ensures.went

pub returns-else-offset_of-eq0-clause-went : goal.returns-else-offset_of-eq0-clause-went
returns-else-offset_of-eq0-clause-went g c =
    went_nowhere g.W.World.files g.S.Store.reads (moment c.args.desk.now c.args.slots.now.items) _
    (is_at_hand c.args.chunk c.args.slot (cursor_of c.args.stream.now) (keys_of c.args.slots.now.items) tt c.requires.chunk.some
    (omega (arith, c.offset_of.ensures.offset)))
