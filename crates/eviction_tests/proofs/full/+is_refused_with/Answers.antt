use Rattle.std.proofs.Common.{length, sym, ap, subst, arith}
use Rattle.std.proofs.lemmas.List.{length-append}
use Rattle.pool_rule.specs.declared.view.Mark.{Mark}
use Rattle.pool_rule.specs.declared.view.View.{View}
use Rattle.pool_rule.specs.Seats.{HasNothing, part_of, parted}
use Rattle.buffer_pool.specs.Callers.{part_count, part_nothing, parted_nothing, parted_numbers}
use Rattle.buffer_pool.specs.declared.pool.Pool.{Pool}
use Rattle.buffer_pool.specs.Pools.{IsSeatOf, view}
use Rattle.outside.specs.declared.real_world.RealWorld.{RealWorld}
use Rattle.eviction_tests.proofs.full.+is_refused_with.Goals as goal

pub pin-requires-clause-free : goal.pin-requires-clause-free
pin-requires-clause-free t c =
    let P : View → Type 0 = λ x. HasNothing x in
    ap (λ (x : Mark). x.hold) ((subst P (sym c.split-mine.ensures.part) (part_nothing 1 (view c.args.rest.now))).marks c.from.result)

pub is_refused_with-refused-requires : goal.is_refused_with-refused-requires
is_refused_with-refused-requires t c =
    let P : View → Type 0 = λ x. HasNothing x in
    let v = view c.args.rest.now in
    let all = c.requires.numbers in
    let less = c.if-way-eq8.false in
    let most = c.requires.way in
    let whole = ap length (parted_numbers 1 v) in
    let sum = length-append (parted 1 v).numbers (part_of 1 v).numbers in
    let one = part_count 1 v (omega (arith, all, less, most)) in
    let is = ap (λ (x : View). length x.numbers) c.split-mine.ensures.view in
    let S : Pool RealWorld → Type 0 = λ p. IsSeatOf p c.split-mine.new.seat in
    (omega (arith, less, most), (c.requires.seat, (subst S c.pool.ensures c.split-mine.ensures.seat.of_pool, (c.requires.evictor, (c.requires.bytes, (c.requires.sets, (c.requires.nothing, (subst P (sym c.split-mine.ensures.view) (parted_nothing 1 v c.requires.free), (omega (arith, less, most), omega (arith, all, whole, sum, one, is))))))))))
