use Rattle.std.proofs.Common.{◌∙◌}
use Rattle.held_ranges.specs.Moments.{moment}
use Rattle.cut_streams.proofs.Doing.{ran_same}
use Rattle.cut_streams.proofs.Visits.{failed, visited}
use Rattle.cut_streams.proofs.visiting.visit.Goals as goal

pub returns-in-Ok-clause-went : goal.returns-in-Ok-clause-went
returns-in-Ok-clause-went g c =
    visited g.W.World.files g.S.Store.reads c.args.slot c.args.key (moment c.args.desk.now c.args.slots.now.items)
    (moment c.swap.new.desk c.swap.new.slots.items) (moment c.let_go.new.desk c.let_go.new.slots.items) tt c.requires.slot
    c.in-Ok.ensures.got c.in-Ok.ensures.keys c.let_go.ensures.went c.let_go.ensures.keys

pub returns-in-Ok-clause-cache : goal.returns-in-Ok-clause-cache
returns-in-Ok-clause-cache g c =
    c.let_go.ensures.cache ∙ (ran_same g.W.World.files g.S.Store.reads _ (moment c.args.desk.now c.args.slots.now.items)
    (moment c.swap.new.desk c.swap.new.slots.items) c.in-Ok.ensures.got).cache

pub returns-in-Err-clause-went : goal.returns-in-Err-clause-went
returns-in-Err-clause-went g c =
    failed g.W.World.files g.S.Store.reads c.args.slot c.args.key (moment c.args.desk.now c.args.slots.now.items)
    (moment c.swap.new.desk c.swap.new.slots.items) c.in-Err.failed c.in-Err.ensures.missed c.in-Err.ensures.left

pub returns-in-Err-clause-cache : goal.returns-in-Err-clause-cache
returns-in-Err-clause-cache g c =
    (ran_same g.W.World.files g.S.Store.reads _ (moment c.args.desk.now c.args.slots.now.items)
    (moment c.swap.new.desk c.swap.new.slots.items) c.in-Err.ensures.missed).cache
