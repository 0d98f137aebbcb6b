use Rattle.std.proofs.Common.{sym, subst}
use Rattle.std.specs.Prelude.{List}
use Rattle.held_ranges.specs.Moments.{moment}
use Rattle.io_elevator.specs.Sound.{AreCutBy, StreamOf}
use Rattle.io_elevator.proofs.Doing.{let_go, ran_same}
use Rattle.io_elevator.proofs.Streams.{cut_shut}
use Rattle.io_elevator.proofs.scratch.close_scratch.Goals as goal

pub returns-clause-went : goal.returns-clause-went
returns-clause-went g c =
    let_go g.W.World.files g.S.Store.reads (moment c.args.desk.now c.args.scratch.now.slots.items) (moment c.let_go_all.new.desk c.let_go_all.new.slots.items)
    c.let_go_all.ensures.went c.let_go_all.ensures.empty c.let_go_all.ensures.count

pub returns-clause-seat_name : goal.returns-clause-seat_name
returns-clause-seat_name g c =
    (ran_same g.W.World.files g.S.Store.reads _ (moment c.args.desk.now c.args.scratch.now.slots.items) (moment c.let_go_all.new.desk c.let_go_all.new.slots.items)
    c.let_go_all.ensures.went).seat

pub returns-clause-evictor_name : goal.returns-clause-evictor_name
returns-clause-evictor_name g c =
    (ran_same g.W.World.files g.S.Store.reads _ (moment c.args.desk.now c.args.scratch.now.slots.items) (moment c.let_go_all.new.desk c.let_go_all.new.slots.items)
    c.let_go_all.ensures.went).evictor

pub returns-clause-store_name : goal.returns-clause-store_name
returns-clause-store_name g c =
    (ran_same g.W.World.files g.S.Store.reads _ (moment c.args.desk.now c.args.scratch.now.slots.items) (moment c.let_go_all.new.desk c.let_go_all.new.slots.items)
    c.let_go_all.ensures.went).store

pub returns-clause-totals_name : goal.returns-clause-totals_name
returns-clause-totals_name g c =
    (ran_same g.W.World.files g.S.Store.reads _ (moment c.args.desk.now c.args.scratch.now.slots.items) (moment c.let_go_all.new.desk c.let_go_all.new.slots.items)
    c.let_go_all.ensures.went).totals

pub returns-clause-cut : goal.returns-clause-cut
returns-clause-cut g c =
    subst (λ (ss : List StreamOf). AreCutBy c.args.chunk ss) (sym c.close_streams.ensures) (cut_shut c.args.chunk c.args.scratch.now.streams.items c.requires.cut)
