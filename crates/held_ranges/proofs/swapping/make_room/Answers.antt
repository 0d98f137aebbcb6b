use Rattle.std.proofs.Common.{ap, ◌∙◌, subst}
use Rattle.std.specs.Prelude.{Some, None, slice_set}
use Rattle.held_ranges.specs.Deeds.{Keys, dropped, drops_each, key_at, left_of}
use Rattle.held_ranges.specs.Moments.{Ran, keys_of, moment}
use Rattle.held_ranges.proofs.Gets.{ran_then}
use Rattle.held_ranges.proofs.Rooms.{none_holds, slot_emptied}
use Rattle.held_ranges.proofs.swapping.make_room.Goals as goal

pub returns-clause-went : goal.returns-clause-went
returns-clause-went g c =
    let keys : Keys = keys_of c.args.slots.now.items in
    let k = moment c.let_go.new.desk c.let_go.new.slots.items in
    let n = moment c.let_go_from.new.desk c.let_go_from.new.slots.items in
    let rest = subst (λ (ks : Keys). Ran g.W.World.files g.S.Store.reads k (drops_each (Some c.args.key) 0 ks) n) c.let_go.ensures.keys c.let_go_from.ensures.went in
    ran_then g.W.World.files g.S.Store.reads (dropped c.args.slot (key_at keys c.args.slot)) (drops_each (Some c.args.key) 0 (slice_set keys c.args.slot None))
    (moment c.args.desk.now c.args.slots.now.items) k n c.let_go.ensures.went rest

pub returns-clause-keys : goal.returns-clause-keys
returns-clause-keys g c = c.let_go_from.ensures.keys ∙ ap (λ (ks : Keys). left_of (Some c.args.key) ks) c.let_go.ensures.keys

pub returns-clause-empty : goal.returns-clause-empty
returns-clause-empty g c =
    slot_emptied c.args.slot c.args.key c.args.slots.now.items c.let_go_from.new.slots.items c.requires.slot
    (c.let_go_from.ensures.keys ∙ ap (λ (ks : Keys). left_of (Some c.args.key) ks) c.let_go.ensures.keys)

pub returns-clause-new : goal.returns-clause-new
returns-clause-new g c =
    none_holds c.args.slot c.args.key (keys_of c.args.slots.now.items) (keys_of c.let_go_from.new.slots.items)
    (c.let_go_from.ensures.keys ∙ ap (λ (ks : Keys). left_of (Some c.args.key) ks) c.let_go.ensures.keys)
