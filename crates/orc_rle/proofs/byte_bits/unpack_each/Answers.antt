use Rattle.std.proofs.Common.{◌≡◌, ◌∙◌, ℕ, ◌+◌, ◌*◌, ◌<◌, Bool, List, [], ◌∷◌, ◌++◌, length, take, get_or, drop, refl, sym, ap, arith, length-append, length-drop}
use Rattle.std.proofs.Math.Seq.{take-append-add}
use Rattle.std.proofs.lemmas.List.{take_at, take_more}
use Rattle.orc_rle.specs.BitRun.{byte_bits, bits_of}
use Rattle.orc_rle.proofs.BitRuns.{bits_of-append}
use Rattle.orc_rle.proofs.byte_bits.unpack_each.Goals as goal

-- the bits of one byte more
bits_of_more : (bytes : List ℕ) (place : ℕ) → place < length bytes → bits_of (take (place + 1) bytes) ≡ bits_of (take place bytes) ++ byte_bits (get_or bytes place 0)
bits_of_more bytes place h = ap bits_of (take_more bytes place 0 h) ∙ bits_of-append (take place bytes) (get_or bytes place 0 ∷ [])

-- eight flags behind those of `place` bytes
eight_more : (front eight back : List Bool) (place : ℕ) → length front ≡ 8 * place → length eight ≡ 8 → take (8 * (place + 1)) (front ++ (eight ++ back)) ≡ front ++ eight
eight_more front eight back place at len =
    let count : 8 * (place + 1) ≡ length front + 8 = omega (arith, at) in
    ap (λ (n : ℕ). take n (front ++ (eight ++ back))) count ∙ take-append-add front (eight ++ back) 8 ∙ ap (λ (l : List Bool). front ++ l) (take_at eight back 8 len)

pub loop-place-preserved : goal.loop-place-preserved
loop-place-preserved c =
    let bytes = c.args.bytes.now in
    let place = c.loop-place.place in
    let front = c.split_at_mut-open.result.0.now in
    let open_at = c.split_at_mut-open.result.1.now in
    let eight = byte_bits (get_or bytes place 0) in
    let back = drop 8 open_at in
    let first = c.split_at_mut-open.ensures in
    let written : front ++ eight ≡ bits_of (take (place + 1) bytes) =
    ap (λ (l : List Bool). l ++ eight) (first.front ∙ c.loop-place.invariant.written)
    ∙ sym (bits_of_more bytes place c.loop-place-test.true) in
    rw c.write_bits.ensures record {
      room = omega (arith, length-append front (eight ++ back), length-append eight back, length-drop 8 open_at, first.front_len, first.back_len, c.loop-place.invariant.room, c.loop-place-test.true);
      written = eight_more front eight back place first.front_len refl ∙ written;
    }
