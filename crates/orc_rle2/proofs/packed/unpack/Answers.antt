use Rattle.std.proofs.Common.{◌≡◌, ℕ, ◌+◌, ◌*◌, ◌∙◌, sym, length, pos, arith}
use Rattle.std.proofs.lemmas.List.FromFn.{fill_by_all}
use Rattle.std.proofs.lemmas.Simd.{map-map}
use Rattle.std.specs.List.{range_with_len}
use Rattle.orc_integers.specs.Integers.{integer}
use Rattle.orc_rle2.specs.Packed.{bits_to}
use Rattle.orc_rle2.proofs.Groups.{group_room}
use Rattle.orc_rle2.proofs.packed.unpack.Goals as goal

pub returns : goal.returns
returns c =
    let a = c.args in
    let len : length c.loop-i.into ≡ length a.into.now = c.loop-i.auto.into ∙ c.loop-group.auto.into in
    fill_by_all (λ (i : ℕ). integer a.signed (bits_to a.bytes.now a.width (a.width * (i + 1)))) c.loop-i.into (length a.into.now) (pos 0) len
    (λ k h. c.loop-i.invariant k (omega (arith, c.loop-i-test.false, len)))
    ∙ sym (map-map (integer a.signed) (λ (i : ℕ). bits_to a.bytes.now a.width (a.width * (i + 1))) (range_with_len 0 (length a.into.now)))

pub value_in-requires-clause-room : goal.value_in-requires-clause-room
value_in-requires-clause-room c =
    group_room c.args.width c.loop-group.group (length c.args.into.now) (length c.args.bytes.now) (omega (arith, c.loop-group-test.true)) c.requires.room
