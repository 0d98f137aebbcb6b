use Rattle.std.proofs.Common.{arith}
use Rattle.board_schedule.proofs.Queues.{not_all_wait}
use Rattle.board_schedule.proofs.Steps.{schedule_offered}
use Rattle.board_schedule.proofs.calls.accept.Goals as goal

pub put-requires-clause-room : goal.put-requires-clause-room
put-requires-clause-room c =
    let is = c.requires.schedule in
    omega (
      arith,
      is.queue.count,
      not_all_wait c.args.history.now.state.statuses c.args.fragment c.requires.absent,
      c.is_sound.ensures.sound.statuses,
      is.fits_all,
      c.args.places.now.ok.0,
    )

pub returns-clause-schedule : goal.returns-clause-schedule
returns-clause-schedule c =
    let law = c.the_order_is_total.ensures in
    schedule_offered law.irreflexive law.transitive law.total c.args.history.now _ _ _ _ _ c.args.fragment c.place-place.result c.requires.schedule c.requires.absent
    c.in_ok-offered.ensures.ok c.place-place.ensures c.put.ensures.places c.put.ensures.capacity
