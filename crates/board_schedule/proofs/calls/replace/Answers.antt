use Rattle.std.proofs.Common.{◌≡◌, ◌+◌, ◌-◌, true, false, refl, sym, ap, ◌∙◌, subst, arith, length, take}
use Rattle.board_schedule.specs.Queue.{Ordered, placed_among}
use Rattle.board_schedule.proofs.Steps.{split_last, last_there, precedes_by, schedule_replaced, ordered_front}
use Rattle.board_schedule.proofs.calls.replace.Goals as goal

pub evicted-requires : goal.evicted-requires
evicted-requires c =
    let ps = c.args.places.now.items in
    let m = c.len.result - 1 in
    let long : m + 1 ≡ length ps = omega (arith, c.len.ensures, c.args.places.now.ok.0, c.requires.schedule.queue.count, c.requires.full, c.requires.schedule.some_room) in
    let split = split_last ps m c.index.result.now long c.index.ensures in
    let last = last_there c.args.history.now ps (take m ps) _ c.index.result.now c.requires.schedule split in
    let before = precedes_by c.args.history.now c.args.fragment c.index.result.now c.place-place.result true c.place-place.ensures last.1
    (sym c.is_before.ensures ∙ c.if-is_before.true) in
    record { full = c.requires.full; last = last.0; made_for = (c.args.fragment, refl, c.requires.absent, before) }

pub put-requires-clause-ordered : goal.put-requires-clause-ordered
put-requires-clause-ordered c =
    let ps = c.args.places.now.items in
    let m = c.len.result - 1 in
    let long : m + 1 ≡ length ps = omega (arith, c.len.ensures, c.args.places.now.ok.0, c.requires.schedule.queue.count, c.requires.full, c.requires.schedule.some_room) in
    let split = split_last ps m c.index.result.now long c.index.ensures in
    let last = last_there c.args.history.now ps (take m ps) _ c.index.result.now c.requires.schedule split in
    let again : c.len-then-is_before.result ≡ c.len.result = c.len-then-is_before.ensures ∙ sym c.len.ensures in
    subst Ordered (sym (c.truncate.ensures.items ∙ ap (λ n. take (n - 1) ps) again)) (ordered_front ps (take m ps) c.index.result.now c.requires.schedule.queue.ordered split)

pub returns-then-is_before-clause-schedule : goal.returns-then-is_before-clause-schedule
returns-then-is_before-clause-schedule c =
    let ps = c.args.places.now.items in
    let m = c.len.result - 1 in
    let long : m + 1 ≡ length ps = omega (arith, c.len.ensures, c.args.places.now.ok.0, c.requires.schedule.queue.count, c.requires.full, c.requires.schedule.some_room) in
    let split = split_last ps m c.index.result.now long c.index.ensures in
    let last = last_there c.args.history.now ps (take m ps) _ c.index.result.now c.requires.schedule split in
    let again : c.len-then-is_before.result ≡ c.len.result = c.len-then-is_before.ensures ∙ sym c.len.ensures in
    let front = c.truncate.ensures.items ∙ ap (λ n. take (n - 1) ps) again in
    let law = c.the_order_is_total.ensures in
    schedule_replaced law.irreflexive law.transitive law.total c.args.history.now _ ps (take m ps) _ _ _ c.args.fragment c.index.result.now c.place-place.result
    c.requires.schedule split c.requires.absent c.in_ok-evicted.ensures.ok c.place-place.ensures
    (c.put.ensures.places ∙ ap (placed_among c.place-place.result) front) (c.put.ensures.capacity ∙ c.truncate.ensures.capacity)

pub returns-then-is_before-clause-ok : goal.returns-then-is_before-clause-ok
returns-then-is_before-clause-ok c =
    let ps = c.args.places.now.items in
    let m = c.len.result - 1 in
    let long : m + 1 ≡ length ps = omega (arith, c.len.ensures, c.args.places.now.ok.0, c.requires.schedule.queue.count, c.requires.full, c.requires.schedule.some_room) in
    let split = split_last ps m c.index.result.now long c.index.ensures in
    let last = last_there c.args.history.now ps (take m ps) _ c.index.result.now c.requires.schedule split in
    let before = precedes_by c.args.history.now c.args.fragment c.index.result.now c.place-place.result true c.place-place.ensures last.1
    (sym c.is_before.ensures ∙ c.if-is_before.true) in
    (c.requires.full, last.0, before, c.in_ok-evicted.ensures.ok)

pub rejected-requires : goal.rejected-requires
rejected-requires c =
    let ps = c.args.places.now.items in
    let m = c.len.result - 1 in
    let long : m + 1 ≡ length ps = omega (arith, c.len.ensures, c.args.places.now.ok.0, c.requires.schedule.queue.count, c.requires.full, c.requires.schedule.some_room) in
    let split = split_last ps m c.index.result.now long c.index.ensures in
    let last = last_there c.args.history.now ps (take m ps) _ c.index.result.now c.requires.schedule split in
    let not-before = precedes_by c.args.history.now c.args.fragment c.index.result.now c.place-place.result false c.place-place.ensures last.1
    (sym c.is_before.ensures ∙ c.if-is_before.false) in
    record {
      absent = c.requires.absent;
      full = c.requires.full;
      behind = (c.index.result.now.fragment, last.0, λ h. (let both : true ≡ false = sym h ∙ not-before in cc));
    }

pub returns-clause-ok : goal.returns-clause-ok
returns-clause-ok c =
    let ps = c.args.places.now.items in
    let m = c.len.result - 1 in
    let long : m + 1 ≡ length ps = omega (arith, c.len.ensures, c.args.places.now.ok.0, c.requires.schedule.queue.count, c.requires.full, c.requires.schedule.some_room) in
    let split = split_last ps m c.index.result.now long c.index.ensures in
    let last = last_there c.args.history.now ps (take m ps) _ c.index.result.now c.requires.schedule split in
    let not-before = precedes_by c.args.history.now c.args.fragment c.index.result.now c.place-place.result false c.place-place.ensures last.1
    (sym c.is_before.ensures ∙ c.if-is_before.false) in (
      record {
        absent = c.requires.absent;
        full = c.requires.full;
        behind = (c.index.result.now.fragment, last.0, λ h. (let both : true ≡ false = sym h ∙ not-before in cc));
      },
      c.in_ok-rejected.ensures.ok,
    )
