use Rattle.std.proofs.Common.{◌++◌, length, arith}
use Rattle.std.specs.Prelude.{drop}
use Rattle.held_ranges.specs.Moments.{moment}
use Rattle.cut_streams.specs.Streams.{cursor_of, key_behind}
use Rattle.cut_streams.proofs.Takes.{ready_got, swapped_by}
use Rattle.cut_streams.proofs.Visits.{on_ok_map}
use Rattle.cut_streams.proofs.taking.next_cut.Goals as goal

pub returns-clause-went : goal.returns-clause-went
returns-clause-went g c =
    swapped_by g.W.World.files g.S.Store.reads (moment c.args.desk.now c.args.slots.now.items) (moment c.swap.new.desk c.swap.new.slots.items) c.args.slot
    c.cut_behind-key.result (key_behind c.args.chunk (cursor_of c.args.stream.now).range (cursor_of c.args.stream.now).taken) c.swap.result c.cut_behind-key.ensures.key
    c.swap.ensures.got c.swap.ensures.keys c.swap.ensures.missed c.swap.ensures.left

pub returns-clause-ready : goal.returns-clause-ready
returns-clause-ready g c none =
    on_ok_map c.swap.result (λ content.
    ready_got g.W.World.files c.args.chunk (cursor_of c.args.stream.now) c.cut_behind-key.result c.swap.new.scratch
    c.split_at_mut-scratch.result.1.now (drop (length (c.swap.new.scratch ++ c.split_at_mut-scratch.result.1.now)) c.args.stream.now.bytes.items)
    c.args.stream.now.bytes.len c.cut_behind-key.ensures.key none (omega arith) (omega (arith, c.requires.room, c.cut_behind-key.ensures.size)) content)
    c.swap.ensures.bytes
