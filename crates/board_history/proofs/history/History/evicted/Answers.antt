use Rattle.std.proofs.Common.{◌++◌, ◌∷◌, [], ap, ◌∙◌, arith, length}
use Rattle.std.proofs.lemmas.List.{append_assoc}
use Rattle.board_history.specs.declared.event.BoardEvent.TheVariants as event
use Rattle.board_history.proofs.Adding.{running_few, add_evicted, evicted_within}
use Rattle.board_history.proofs.history.History.evicted.Goals as goal

pub make_room-requires : goal.make_room-requires
make_room-requires c = omega (arith, c.self.invariant.1, running_few c.self.inside.runners.items, c.self.invariant.0.sound.runners)

pub index_mut-requires : goal.index_mut-requires
index_mut-requires c =
    let within = evicted_within _ _ c.args.evicted c.args.fragment c.self.view_is c.requires in omega (arith, within.0, c.self.inside.statuses.ok.0)

pub index_mut-requires-2 : goal.index_mut-requires-2
index_mut-requires-2 c =
    let within = evicted_within _ _ c.args.evicted c.args.fragment c.self.view_is c.requires in omega (arith, within.1, c.self.inside.statuses.ok.0)

pub invariant_of-self-2 : goal.invariant_of-self-2
invariant_of-self-2 c =
    let one = c.push_reserved.ensures.items ∙ ap (λ xs. xs ++ event.Evicted c.args.evicted ∷ []) c.in_ok-make_room.ensures.events in
    let two = c.push_reserved-2.ensures.items ∙ ap (λ xs. xs ++ event.Offered c.args.fragment ∷ []) one in (
      add_evicted _ _ c.push_reserved-2.new.self.items c.args.evicted c.args.fragment c.self.invariant.0 c.self.view_is c.requires
          (two ∙ append_assoc c.self.inside.events.items (event.Evicted c.args.evicted ∷ []) (event.Offered c.args.fragment ∷ [])),
      c.self.invariant.1,
      omega (
        arith,
        c.push_reserved.ensures.len,
        c.push_reserved.ensures.capacity,
        c.push_reserved-2.ensures.len,
        c.push_reserved-2.ensures.capacity,
        c.push_reserved-2.new.self.ok.0,
        c.make_room.new.events.ok.0,
        ap length c.in_ok-make_room.ensures.events,
        c.in_ok-make_room.ensures.room,
      ),
    )
