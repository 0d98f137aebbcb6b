use Rattle.std.proofs.Common.{rules, ◌≡◌, ◌<◌, ℕ, length, sym, subst, arith}
use Rattle.orc_values.specs.Shown.{shown}
use Rattle.group_counts.specs.Slots.{counted}
use Rattle.group_counts.proofs.Moved.{More, slots-more, free-more, same-more}
use Rattle.group_counts.proofs.seen.add_at.Goals as goal

pub returns-then-slot-eq0-clause-counted : goal.returns-then-slot-eq0-clause-counted
returns-then-slot-eq0-clause-counted c = λ done.
    let slot = c.index-slot.result.now in
    let within : c.args.place < length c.args.slots.now.items = omega (arith, c.if-place-len.false, c.len.ensures) in
    slots-more c.args.slots.now.items c.args.place slot (record { key = c.args.key; count = 1 }) (shown c.args.key) within c.index-slot.ensures
    (free-more (shown slot.key) (shown c.args.key) slot.count c.if-slot-eq0.true)

pub returns-clause-counted : goal.returns-clause-counted
returns-clause-counted c = λ done.
    let slot = c.index-slot.result.now in
    let within : c.args.place < length c.args.slots.now.items = omega (arith, c.if-place-len.false, c.len.ensures) in
    let some : 0 < slot.count = omega (arith, c.if-slot-eq0.false) in
    let same : shown slot.key ≡ shown c.args.key = search rules in
    slots-more c.args.slots.now.items c.args.place slot (record { key = slot.key; count = c.saturating_add.result }) (shown c.args.key) within c.index-slot.ensures
    (subst (λ (n : ℕ). More (counted (shown slot.key) slot.count) (counted (shown slot.key) n) (shown c.args.key)) (sym c.saturating_add.ensures)
    (same-more (shown slot.key) (shown c.args.key) slot.count some same))
