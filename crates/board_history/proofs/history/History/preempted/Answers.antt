use Rattle.std.proofs.Common.{◌∙◌, arith}
use Rattle.std.proofs.lemmas.Option.{get_or_from_slice_get}
use Rattle.board_history.proofs.Adding.{reaches, add_preempted}
use Rattle.board_history.proofs.history.History.preempted.Goals as goal

pub push_reserved-requires : goal.push_reserved-requires
push_reserved-requires c =
    omega (arith, (reaches _ _ c.args.victim c.self.invariant.0 c.self.view_is c.requires.victim_is.runs).is_busy, c.self.invariant.1, c.self.invariant.2, c.self.inside.events.ok.0)

pub index_mut-requires : goal.index_mut-requires
index_mut-requires c = omega (arith, (reaches _ _ c.args.victim c.self.invariant.0 c.self.view_is c.requires.victim_is.runs).fragment, c.self.inside.statuses.ok.0)

pub index_mut-requires-2 : goal.index_mut-requires-2
index_mut-requires-2 c = omega (arith, (reaches _ _ c.args.victim c.self.invariant.0 c.self.view_is c.requires.victim_is.runs).number, c.self.inside.numbers.ok.0)

pub overflow_add-index_mut : goal.overflow_add-index_mut
overflow_add-index_mut c =
    let r = reaches _ _ c.args.victim c.self.invariant.0 c.self.view_is c.requires.victim_is.runs in
    let same = c.index_mut-2.ensures.value ∙ get_or_from_slice_get c.self.inside.numbers.items c.args.victim.fragment c.args.victim.number c.index_mut-2.result.now r.current in
    omega (arith, same, r.next)

pub index_mut-requires-3 : goal.index_mut-requires-3
index_mut-requires-3 c = omega (arith, (reaches _ _ c.args.victim c.self.invariant.0 c.self.view_is c.requires.victim_is.runs).executor, c.self.inside.runners.ok.0)

pub overflow_sub-self : goal.overflow_sub-self
overflow_sub-self c = omega (arith, (reaches _ _ c.args.victim c.self.invariant.0 c.self.view_is c.requires.victim_is.runs).is_busy, c.self.invariant.1)

pub invariant_of-self : goal.invariant_of-self
invariant_of-self c =
    let r = reaches _ _ c.args.victim c.self.invariant.0 c.self.view_is c.requires.victim_is.runs in (
      add_preempted _ _ c.push_reserved.new.self.items c.self.invariant.0 c.self.view_is c.args.victim c.args.made_for c.index_mut-2.result.now c.requires c.index_mut-2.ensures.value c.push_reserved.ensures.items,
      omega (arith, r.then_idle, c.self.invariant.1),
      omega (
        arith,
        r.is_busy,
        c.self.invariant.1,
        c.self.invariant.2,
        c.self.inside.events.ok.0,
        c.push_reserved.ensures.len,
        c.push_reserved.ensures.capacity,
        c.push_reserved.new.self.ok.0,
      ),
    )
