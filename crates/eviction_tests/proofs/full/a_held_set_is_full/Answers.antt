use Rattle.std.proofs.Common.{length, sym, ap, ◌∙◌, subst, arith}
use Rattle.pool_rule.specs.declared.view.View.{View}
use Rattle.pool_rule.specs.Seats.{HasNothing}
use Rattle.buffer_pool.specs.Callers.{part_count, part_nothing, parted_nothing}
use Rattle.buffer_pool.specs.Pools.{view}
use Rattle.eviction_tests.proofs.full.a_held_set_is_full.Goals as goal

pub fills_by_two-requires-clause-nothing : goal.fills_by_two-requires-clause-nothing
fills_by_two-requires-clause-nothing c =
    let P : View → Type 0 = λ x. HasNothing x in
    subst P (sym c.split-rest.ensures.view) (parted_nothing 9 (view c.in-Ok.seat) c.in-Ok.ensures.nothing.0)

pub fills_by_two-requires-clause-free : goal.fills_by_two-requires-clause-free
fills_by_two-requires-clause-free c =
    let P : View → Type 0 = λ x. HasNothing x in
    subst P (sym c.split-rest.ensures.part) (part_nothing 9 (view c.in-Ok.seat))

pub fills_by_two-requires-clause-numbers : goal.fills_by_two-requires-clause-numbers
fills_by_two-requires-clause-numbers c =
    let all = c.in-Ok.ensures.numbers in
    ap (λ (x : View). length x.numbers) c.split-rest.ensures.part ∙ part_count 9 (view c.in-Ok.seat) (omega (arith, all))
