use Rattle.std.proofs.Common.{◌≡◌, ◌∙◌, ◌+◌, ◌*◌, ◌<◌, length, take, get_or, sym, ap, arith, ℕ}
use Rattle.std.proofs.lemmas.List.{take_more}
use Rattle.orc_rle2.specs.Packed.{number_of}
use Rattle.orc_rle2.proofs.Numbers.{number_more, one_byte_below, seven_bytes}
use Rattle.orc_rle2.proofs.packed.number_in.Goals as goal

pub loop-byte-preserved : goal.loop-byte-preserved
loop-byte-preserved c =
    let l = c.loop-byte in
    let bytes = c.args.bytes.now in
    let byte = get_or bytes l.byte-index 0 in
    let front = take l.byte-index bytes in
    let within : l.byte-index < length bytes = omega (arith, c.loop-byte-test.true) in
    let is : c.from.result ≡ byte = c.from.ensures in
    record {
      made = ap (λ (n : ℕ). 256 * n + c.from.result) l.invariant.made ∙ ap (λ (b : ℕ). 256 * number_of front + b) is ∙ sym (ap number_of (take_more bytes l.byte-index 0 within) ∙ number_more front byte);
      below = one_byte_below l.number c.from.result l.byte-index l.invariant.below (omega (arith, is, c.type_inv.bytes l.byte-index));
    }

pub overflow_mul-number : goal.overflow_mul-number
overflow_mul-number c =
    let l = c.loop-byte in
    omega (arith, seven_bytes l.number l.byte-index l.invariant.below (omega (arith, c.loop-byte-test.true, c.requires)))

pub overflow_add-number : goal.overflow_add-number
overflow_add-number c =
    let l = c.loop-byte in
    omega (arith, seven_bytes l.number l.byte-index l.invariant.below (omega (arith, c.loop-byte-test.true, c.requires)))
