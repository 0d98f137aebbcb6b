use Rattle.std.proofs.Common.{◌++◌, ◌∷◌, [], ap, ◌∙◌, arith, slice_get, length, None, Some}
use Rattle.std.proofs.lemmas.Option.{slice_get_within}
use Rattle.board_history.specs.declared.event.BoardEvent.TheVariants as event
use Rattle.board_history.specs.declared.status.FragmentStatus.TheVariants.{Waiting}
use Rattle.board_history.specs.Histories.{HistoryOf}
use Rattle.board_history.proofs.Adding.{running_few, add_started}
use Rattle.board_history.proofs.Soundness.{running_set}
use Rattle.board_history.proofs.history.History.started.Goals as goal

pub make_room-requires : goal.make_room-requires
make_room-requires c = omega (arith, c.self.invariant.1, running_few c.self.inside.runners.items, c.self.invariant.0.sound.runners)

pub index_mut-requires : goal.index_mut-requires
index_mut-requires c =
    let f = c.args.attempt.fragment in
    let here = ap (λ (h : HistoryOf). slice_get h.state.statuses f) c.self.view_is ∙ c.requires.first.waits_there in
    omega (arith, slice_get_within c.self.inside.statuses.items f Waiting here, c.self.inside.statuses.ok.0)

pub index_mut-requires-2 : goal.index_mut-requires-2
index_mut-requires-2 c =
    let k = c.args.attempt.executor in
    let here = ap (λ (h : HistoryOf). slice_get h.state.runners k) c.self.view_is ∙ c.requires.idle in
    omega (arith, slice_get_within c.self.inside.runners.items k None here, c.self.inside.runners.ok.0)

pub invariant_of-self-2 : goal.invariant_of-self-2
invariant_of-self-2 c =
    let a = c.args.attempt in
    let idle = ap (λ (h : HistoryOf). slice_get h.state.runners a.executor) c.self.view_is ∙ c.requires.idle in
    let more = running_set c.self.inside.runners.items a.executor (Some a) None idle in (
      add_started _ _ c.push_reserved.new.self.items c.self.invariant.0 c.self.view_is a c.requires (omega (arith, c.in-Some.ensures))
          (c.push_reserved.ensures.items ∙ ap (λ xs. xs ++ event.Started a ∷ []) c.in_ok-make_room.ensures.events),
      omega (arith, more, c.self.invariant.1),
      omega (
        arith,
        c.push_reserved.ensures.len,
        c.push_reserved.ensures.capacity,
        c.push_reserved.new.self.ok.0,
        c.make_room.new.events.ok.0,
        ap length c.in_ok-make_room.ensures.events,
        c.in_ok-make_room.ensures.room,
      ),
    )
