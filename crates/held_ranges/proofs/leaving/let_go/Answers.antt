use Rattle.std.proofs.Common.{◌≡◌, sym, ◌∙◌, subst}
use Rattle.std.specs.Prelude.{Option, Some, None}
use Rattle.range_cache.specs.Caches.{pool_of}
use Rattle.held_ranges.specs.declared.held.Held.{Held}
use Rattle.held_ranges.specs.Moments.{DeskHolds, IsHeld, Slots, moment, slot_at}
use Rattle.held_ranges.proofs.Gets.{drop_ok, drop_went, emptied_keys, none_went, stays_empty}
use Rattle.held_ranges.proofs.leaving.let_go.Goals as goal

pub drop_range-requires-clause-ranged : goal.drop_range-requires-clause-ranged
drop_range-requires-clause-ranged g c =
    let was : slot_at c.args.slots.now.items c.args.slot ≡ Some c.in-Some.held = sym c.take_slot.ensures.held ∙ c.in-Some.is in
    (subst (λ (h : Option Held). IsHeld (pool_of c.args.desk.now.cache.now) c.args.desk.now.seat.now h) was (c.requires.holding.holding.each c.args.slot)).0

pub returns-in-None-clause-holding : goal.returns-in-None-clause-holding
returns-in-None-clause-holding g c =
    let was : slot_at c.args.slots.now.items c.args.slot ≡ None = sym c.take_slot.ensures.held ∙ c.in-None.is in
    let same = c.take_slot.ensures.slots ∙ stays_empty c.args.slots.now.items c.args.slot was in
    subst (λ (s : Slots). DeskHolds (moment c.args.desk.now s)) (sym same) c.requires.holding

pub returns-in-None-clause-went : goal.returns-in-None-clause-went
returns-in-None-clause-went g c =
    let was : slot_at c.args.slots.now.items c.args.slot ≡ None = sym c.take_slot.ensures.held ∙ c.in-None.is in
    none_went g.W.World.files g.S.Store.reads c.args.desk.now c.args.slots.now.items c.take_slot.new.slots.items c.args.slot was
    (c.take_slot.ensures.slots ∙ stays_empty c.args.slots.now.items c.args.slot was)

pub returns-in-None-clause-keys : goal.returns-in-None-clause-keys
returns-in-None-clause-keys g c = emptied_keys c.args.slots.now.items c.take_slot.new.slots.items c.args.slot c.take_slot.ensures.slots

pub returns-in-Some-clause-holding : goal.returns-in-Some-clause-holding
returns-in-Some-clause-holding g c =
    let was : slot_at c.args.slots.now.items c.args.slot ≡ Some c.in-Some.held = sym c.take_slot.ensures.held ∙ c.in-Some.is in
    (drop_ok g.W.World.files g.S.Store.reads c.in-Some.held c.args.desk.now c.drop_range.new.desk c.args.slots.now.items c.take_slot.new.slots.items c.args.slot
    c.requires.holding c.drop_range.ensures.dropped c.drop_range.ensures.seat c.requires.slot was c.take_slot.ensures.slots).0

pub returns-in-Some-clause-went : goal.returns-in-Some-clause-went
returns-in-Some-clause-went g c =
    let was : slot_at c.args.slots.now.items c.args.slot ≡ Some c.in-Some.held = sym c.take_slot.ensures.held ∙ c.in-Some.is in
    let r = (drop_ok g.W.World.files g.S.Store.reads c.in-Some.held c.args.desk.now c.drop_range.new.desk c.args.slots.now.items c.take_slot.new.slots.items c.args.slot
    c.requires.holding c.drop_range.ensures.dropped c.drop_range.ensures.seat c.requires.slot was c.take_slot.ensures.slots).1 in
    drop_went g.W.World.files g.S.Store.reads c.in-Some.held c.args.desk.now c.drop_range.new.desk c.args.slots.now.items c.take_slot.new.slots.items c.args.slot was r

pub returns-in-Some-clause-keys : goal.returns-in-Some-clause-keys
returns-in-Some-clause-keys g c = emptied_keys c.args.slots.now.items c.take_slot.new.slots.items c.args.slot c.take_slot.ensures.slots
