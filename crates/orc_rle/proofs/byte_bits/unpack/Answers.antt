use Rattle.std.proofs.Common.{◌≡◌, ◌∙◌, ℕ, ◌+◌, ◌*◌, Bool, List, ◌++◌, length, take, sym, ap, arith, append_assoc, length-append}
use Rattle.std.proofs.Math.Seq.{take-append-add}
use Rattle.std.proofs.lemmas.List.{take_at, take-append-drop}
use Rattle.orc_rle.specs.BitRun.{bits_of}
use Rattle.orc_rle.proofs.BitRuns.{bits_of-append}
use Rattle.orc_rle.proofs.byte_bits.unpack.Goals as goal

-- the flags of eight bytes behind those of `done` bytes
group_more : (front group back : List Bool) (done : ℕ) → length front ≡ 8 * done → length group ≡ 64 → take (8 * (done + 8)) (front ++ (group ++ back)) ≡ front ++ group
group_more front group back done at len =
    let count : 8 * (done + 8) ≡ length front + 64 = omega (arith, at) in
    ap (λ (n : ℕ). take n (front ++ (group ++ back))) count ∙ take-append-add front (group ++ back) 64 ∙ ap (λ (l : List Bool). front ++ l) (take_at group back 64 len)

pub loop-eight-preserved : goal.loop-eight-preserved
loop-eight-preserved c =
    let l = c.loop-eight in
    let front = c.split_at_mut-open.result.0.now in
    let group = c.unpack_each.new.out in
    let back = c.split_at_mut-group.result.1.now in
    let first = c.split_at_mut-open.ensures in
    let second = c.split_at_mut-group.ensures in
    let eight = c.in-Some.eight.now in
    let behind = c.in-Some.behind.now in
    let cases = c.in-Some.ensures.cases in
    let parts : l.left.now ≡ eight ++ behind = rw (cases.0, cases.1) (sym (take-append-drop 8 l.left.now)) in
    let len : length group ≡ 64 = omega (arith, c.unpack_each.auto.out, second.front_len) in
    let bits : (front ++ group) ++ bits_of behind ≡ bits_of c.args.bytes.now =
    append_assoc front group (bits_of behind)
    ∙ ap (λ (l : List Bool). front ++ (l ++ bits_of behind)) c.unpack_each.ensures
    ∙ ap (λ (l : List Bool). front ++ l) (sym (bits_of-append eight behind) ∙ ap bits_of (sym parts))
    ∙ ap (λ (f : List Bool). f ++ bits_of l.left.now) first.front
    ∙ l.invariant.bits in
    record {
      room = omega (arith, length-append front (group ++ back), length-append group back, len, first.front_len, first.back_len, second.back_len, second.front_len, l.invariant.room);
      rest = omega (arith, ap length parts, length-append eight behind, c.in-Some.ensures.cases, l.invariant.rest);
      bits = ap (λ (f : List Bool). f ++ bits_of behind) (group_more front group back l.done first.front_len len) ∙ bits;
    }

pub returns : goal.returns
returns c =
    let l = c.loop-eight in
    ap (λ (f : List Bool). f ++ c.unpack_each-2.new.out) c.split_at_mut-open-2.ensures.front
    ∙ ap (λ (b : List Bool). take (8 * l.done) l.out ++ b) c.unpack_each-2.ensures
    ∙ l.invariant.bits
