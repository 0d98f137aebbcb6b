use Rattle.std.proofs.Common.{◌≡◌, ◌∙◌, ℕ, ◌*◌, ◌≤◌, Bool, List, length, map, sym, ap, subst, arith}
use Rattle.outside.specs.Reading.{exactly}
use Rattle.outside.specs.ReadingLaws.{Reads-map}
use Rattle.orc_integers.specs.Integers.{integer}
use Rattle.orc_rle2.specs.Integers.{bits_in}
use Rattle.orc_rle2.specs.IntRun2.{packed}
use Rattle.orc_rle2.specs.Packed.{packed_len, unpacked}
use Rattle.orc_rle2.proofs.InPlace.{unpacked-bits}
use Rattle.orc_rle2.proofs.Numbers.{Bytes, Bytes-none, Bytes-behind, unpacked-front}
use Rattle.orc_rle2.proofs.packed.take_within.Goals as goal

pub returns-clause-values : goal.returns-clause-values
returns-clause-values g c =
    let f = g.F.Feed in
    let law = g.met.F.Feed in
    let a = c.args in
    let count = length a.into.now in
    let body = c.take_exactly.new.into in
    let back = c.split_at_mut-bytes.result.1.now in
    let last = c.take_exactly.new.feed in
    let len : length c.split_at_mut-bytes.result.0.now ≡ packed_len a.width count = omega (arith, c.split_at_mut-bytes.ensures.front_len, c.div_ceil-len.ensures) in
    let one = rw len at c.in_ok-take_exactly.ensures in
    let are : Bytes back = subst (λ (l : List ℕ). Bytes l) (sym c.split_at_mut-bytes.ensures.back) (Bytes-behind _ c.div_ceil-len.result (Bytes-none _)) in
    let room : a.width * count ≤ 8 * length body = omega (arith, len, c.take_exactly.auto.into) in
    let is : c.unpack_by_width.new.into ≡ map (integer a.signed) (unpacked a.width count body) = c.unpack_by_width.ensures ∙ ap (map (integer a.signed)) (unpacked-front a.width count body back are room) in
    rw is (Reads-map f.rest f.fed f.fault_count a.stream law.fed_nothing law.fed_joined a.feed.now last (packed a.width count) (map (integer a.signed)) (unpacked a.width count body)
    (Reads-map f.rest f.fed f.fault_count a.stream law.fed_nothing law.fed_joined a.feed.now last (exactly (packed_len a.width count)) (unpacked a.width count) body one))

pub returns-clause-bits : goal.returns-clause-bits
returns-clause-bits g c unsigned =
    let f = g.F.Feed in
    let law = g.met.F.Feed in
    let a = c.args in
    let count = length a.into.now in
    let body = c.take_exactly.new.into in
    let back = c.split_at_mut-bytes.result.1.now in
    let len : length c.split_at_mut-bytes.result.0.now ≡ packed_len a.width count = omega (arith, c.split_at_mut-bytes.ensures.front_len, c.div_ceil-len.ensures) in
    let one = rw len at c.in_ok-take_exactly.ensures in
    let are : Bytes back = subst (λ (l : List ℕ). Bytes l) (sym c.split_at_mut-bytes.ensures.back) (Bytes-behind _ c.div_ceil-len.result (Bytes-none _)) in
    let room : a.width * count ≤ 8 * length body = omega (arith, len, c.take_exactly.auto.into) in
    let is : bits_in c.unpack_by_width.new.into ≡ unpacked a.width count body =
    ap bits_in (c.unpack_by_width.ensures ∙ ap (map (integer a.signed)) (unpacked-front a.width count body back are room)) ∙ ap (λ (s : Bool). bits_in (map (integer s) (unpacked a.width count body))) unsigned ∙ unpacked-bits a.width count body c.requires.width.most in
    rw is (Reads-map f.rest f.fed f.fault_count a.stream law.fed_nothing law.fed_joined a.feed.now c.take_exactly.new.feed (exactly (packed_len a.width count)) (unpacked a.width count) body one)
