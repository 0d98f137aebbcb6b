use Rattle.std.proofs.Common.{ℕ, ◌*◌, ◌%◌, ◌^◌, ◌<◌, sym, subst, arith}
use Rattle.std.specs.Prelude.{bit_and, bit_or}
use Rattle.std.specs.Int.{w64, bit_not}
use Rattle.std.proofs.lemmas.Nat.{pow_below, or_lt}
use Rattle.buddy_arena.specs.Buddy.{IsFree}
use Rattle.buddy_arena.specs.Sets.{IsSetOf}
use Rattle.buddy_arena.proofs.SetLemmas.{free_set}
use Rattle.buddy_arena.proofs.free_blocks.free_blocks.Goals as goal

pub overflow_shl-result : goal.overflow_shl-result
overflow_shl-result c = omega (arith, c.places.ensures.value, pow_below c.args.order 6 c.requires)

pub returns : goal.returns
returns c = λ bits own next.
    let larger = c.args.larger in
    let shifted : larger * 2 ^ 2 ^ c.args.order % 2 ^ 64 < 2 ^ 64 = omega arith in
    let fits : bit_or larger (larger * 2 ^ 2 ^ c.args.order % 2 ^ 64) < 2 ^ 64 = or_lt 64 larger (larger * 2 ^ 2 ^ c.args.order % 2 ^ 64) (omega arith) shifted in
    subst
    (λ (x : ℕ). IsSetOf (bit_and c.args.clear (bit_not w64 (bit_or c.args.larger (c.args.larger * 2 ^ x % 2 ^ 64)))) (λ p. IsFree 64 bits p c.args.order))
    (sym c.places.ensures.value)
    (free_set c.args.clear larger bits c.args.order c.requires fits own next)
