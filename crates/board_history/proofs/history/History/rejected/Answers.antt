use Rattle.std.proofs.Common.{◌++◌, ◌∷◌, [], ap, ◌∙◌, arith, length}
use Rattle.board_history.specs.declared.event.BoardEvent.TheVariants as event
use Rattle.board_history.proofs.Adding.{running_few, add_rejected}
use Rattle.board_history.proofs.history.History.rejected.Goals as goal

pub make_room-requires : goal.make_room-requires
make_room-requires c = omega (arith, c.self.invariant.1, running_few c.self.inside.runners.items, c.self.invariant.0.sound.runners)

pub invariant_of-self-2 : goal.invariant_of-self-2
invariant_of-self-2 c = (
  add_rejected _ _ c.push_reserved.new.self.items c.self.invariant.0 c.self.view_is c.args.fragment c.requires
      (c.push_reserved.ensures.items ∙ ap (λ xs. xs ++ event.Rejected c.args.fragment ∷ []) c.in_ok-make_room.ensures.events),
  c.self.invariant.1,
  omega (
    arith,
    c.push_reserved.ensures.len,
    c.push_reserved.ensures.capacity,
    c.push_reserved.new.self.ok.0,
    c.make_room.new.events.ok.0,
    ap length c.in_ok-make_room.ensures.events,
    c.in_ok-make_room.ensures.room,
  ),
)
