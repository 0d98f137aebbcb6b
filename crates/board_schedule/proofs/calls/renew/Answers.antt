use Rattle.std.proofs.Common.{arith, ap, length}
use Rattle.board_schedule.proofs.Steps.{queue_whole}
use Rattle.board_schedule.proofs.calls.renew.Goals as goal

pub returns-clause-queue : goal.returns-clause-queue
returns-clause-queue c =
    queue_whole _ _ c.loop-fragment.fragment c.loop-fragment.places.items c.loop-fragment.invariant.queue
    (omega (
      arith,
      c.loop-fragment-test.false,
      c.loop-fragment.auto.fragment-end,
      c.is_sound.ensures.sound.statuses,
      ap length c.fragments.ensures.list,
      ap length c.plan.ensures,
      c.is_sound.ensures.fragments,
    ))
