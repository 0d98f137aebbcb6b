use Rattle.std.proofs.Common.{arith}
use Rattle.board_history.proofs.Adding.{reaches, add_gave_up}
use Rattle.board_history.proofs.history.History.gave_up.Goals as goal

pub push_reserved-requires : goal.push_reserved-requires
push_reserved-requires c =
    omega (arith, (reaches _ _ c.args.attempt c.self.invariant.0 c.self.view_is c.requires.runs).is_busy, c.self.invariant.1, c.self.invariant.2, c.self.inside.events.ok.0)

pub index_mut-requires : goal.index_mut-requires
index_mut-requires c = omega (arith, (reaches _ _ c.args.attempt c.self.invariant.0 c.self.view_is c.requires.runs).fragment, c.self.inside.statuses.ok.0)

pub index_mut-requires-2 : goal.index_mut-requires-2
index_mut-requires-2 c = omega (arith, (reaches _ _ c.args.attempt c.self.invariant.0 c.self.view_is c.requires.runs).executor, c.self.inside.runners.ok.0)

pub overflow_sub-self : goal.overflow_sub-self
overflow_sub-self c = omega (arith, (reaches _ _ c.args.attempt c.self.invariant.0 c.self.view_is c.requires.runs).is_busy, c.self.invariant.1)

pub invariant_of-self : goal.invariant_of-self
invariant_of-self c =
    let r = reaches _ _ c.args.attempt c.self.invariant.0 c.self.view_is c.requires.runs in (
      add_gave_up _ _ c.push_reserved.new.self.items c.self.invariant.0 c.self.view_is c.args.attempt c.requires c.push_reserved.ensures.items,
      omega (arith, r.then_idle, c.self.invariant.1),
      omega (
        arith,
        r.is_busy,
        c.self.invariant.1,
        c.self.invariant.2,
        c.self.inside.events.ok.0,
        c.push_reserved.ensures.len,
        c.push_reserved.ensures.capacity,
        c.push_reserved.new.self.ok.0,
      ),
    )
