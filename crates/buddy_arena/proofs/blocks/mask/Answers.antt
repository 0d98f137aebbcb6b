use Rattle.std.proofs.Common.{ℕ, ◌-◌, ◌*◌, ◌/◌, ◌%◌, ◌^◌, ap, ◌∙◌, arith}
use Rattle.std.specs.Int.{bit_at}
use Rattle.buddy_arena.proofs.BitLemmas.{mask_value, mask_bits}
use Rattle.buddy_arena.proofs.BlockLemmas.{order_within}
use Rattle.buddy_arena.proofs.blocks.mask.Goals as goal

pub places-requires : goal.places-requires
places-requires c = order_within c.args.order (omega (arith, c.requires.inside))

pub returns-clause-value : goal.returns-clause-value
returns-clause-value c =
    ap (λ (x : ℕ). (2 ^ 64 - 1) / 2 ^ (64 - x) * 2 ^ c.args.place % 2 ^ 64) c.places.ensures.value
    ∙ mask_value (2 ^ c.args.order) c.args.place (omega (arith, c.requires.inside)) (omega (arith, c.requires.inside))

pub returns-clause-mask : goal.returns-clause-mask
returns-clause-mask c = λ p.
    ap (λ (x : ℕ). bit_at ((2 ^ 64 - 1) / 2 ^ (64 - x) * 2 ^ c.args.place % 2 ^ 64) p) c.places.ensures.value
    ∙ ap (λ (x : ℕ). bit_at x p) (mask_value (2 ^ c.args.order) c.args.place (omega (arith, c.requires.inside)) (omega (arith, c.requires.inside)))
    ∙ mask_bits (2 ^ c.args.order) c.args.place p
