use Rattle.std.proofs.Common.{length, sym, ap, ◌∙◌, subst, arith}
use Rattle.pool_rule.specs.declared.view.View.{View}
use Rattle.pool_rule.specs.Seats.{HasNothing}
use Rattle.buffer_pool.specs.Callers.{part_count, part_nothing, parted_nothing}
use Rattle.buffer_pool.specs.Pools.{view}
use Rattle.eviction_tests.proofs.random.both_agree.Goals as goal

pub split-third-requires-clause-numbers : goal.split-third-requires-clause-numbers
split-third-requires-clause-numbers c =
    let v = view c.in-Ok.seat in
    let all = c.in-Ok.ensures.numbers in
    let two = ap (λ (x : View). length x.numbers) c.split-second.ensures.part ∙ part_count 2 v (omega (arith, all)) in
    (omega arith, omega (arith, two))

pub three_agree-requires-clause-nothing : goal.three_agree-requires-clause-nothing
three_agree-requires-clause-nothing c =
    let P : View → Type 0 = λ x. HasNothing x in
    subst P (sym c.split-second.ensures.view) (parted_nothing 2 (view c.in-Ok.seat) c.in-Ok.ensures.nothing.0)

pub three_agree-requires-clause-free : goal.three_agree-requires-clause-free
three_agree-requires-clause-free c =
    let P : View → Type 0 = λ x. HasNothing x in
    subst P (sym c.split-third.ensures.view)
    (parted_nothing 1 (view c.split-second.result) (subst P (sym c.split-second.ensures.part) (part_nothing 2 (view c.in-Ok.seat))))

pub three_agree-requires-clause-third_free : goal.three_agree-requires-clause-third_free
three_agree-requires-clause-third_free c =
    let P : View → Type 0 = λ x. HasNothing x in
    subst P (sym c.split-third.ensures.part) (part_nothing 1 (view c.split-second.result))
