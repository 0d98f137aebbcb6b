use Rattle.std.proofs.Common.{◌++◌, ◌∷◌, [], ap, ◌∙◌, arith, slice_get, length}
use Rattle.std.proofs.lemmas.Option.{slice_get_within}
use Rattle.board_history.specs.declared.event.BoardEvent.TheVariants as event
use Rattle.board_history.specs.declared.status.FragmentStatus.TheVariants.{Absent}
use Rattle.board_history.specs.Histories.{HistoryOf}
use Rattle.board_history.proofs.Adding.{running_few, add_offered}
use Rattle.board_history.proofs.history.History.offered.Goals as goal

pub make_room-requires : goal.make_room-requires
make_room-requires c = omega (arith, c.self.invariant.1, running_few c.self.inside.runners.items, c.self.invariant.0.sound.runners)

pub index_mut-requires : goal.index_mut-requires
index_mut-requires c =
    let f = c.args.fragment in
    let here = ap (λ (h : HistoryOf). slice_get h.state.statuses f) c.self.view_is ∙ c.requires.0 in
    omega (arith, slice_get_within c.self.inside.statuses.items f Absent here, c.self.inside.statuses.ok.0)

pub invariant_of-self-2 : goal.invariant_of-self-2
invariant_of-self-2 c = (
  add_offered _ _ c.push_reserved.new.self.items c.self.invariant.0 c.self.view_is c.args.fragment c.requires
      (c.push_reserved.ensures.items ∙ ap (λ xs. xs ++ event.Offered c.args.fragment ∷ []) c.in_ok-make_room.ensures.events),
  c.self.invariant.1,
  omega (
    arith,
    c.push_reserved.ensures.len,
    c.push_reserved.ensures.capacity,
    c.push_reserved.new.self.ok.0,
    c.make_room.new.events.ok.0,
    ap length c.in_ok-make_room.ensures.events,
    c.in_ok-make_room.ensures.room,
  ),
)
