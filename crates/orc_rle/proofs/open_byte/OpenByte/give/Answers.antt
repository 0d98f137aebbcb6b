use Rattle.std.proofs.Common.{◌≡◌, ◌-◌, length, take, drop, arith, sym}
use Rattle.std.proofs.lemmas.List.{take-append-drop, take_at, take_all, drop-drop, length-drop}
use Rattle.orc_rle.proofs.open_byte.OpenByte.give.Goals as goal

pub returns-clause-parts : goal.returns-clause-parts
returns-clause-parts c =
    let s = c.self.inside in
    let count = c.min-count.result in
    let told = c.self.told in
    let left = take (8 - s.from) (drop s.from s.bits) in
    let all : left ≡ drop s.from s.bits = take_all (8 - s.from) (drop s.from s.bits) (omega (arith, length-drop s.from s.bits, c.self.told)) in
    let front : length c.copy_from_slice.new.self ≡ count = omega (arith, c.copy_from_slice.ensures.len, c.split_at_mut-front.ensures.front_len) in
    rw (take_at c.copy_from_slice.new.self c.split_at_mut-front.result.1.now count front, c.copy_from_slice.ensures.after, all, ← drop-drop count s.from s.bits, ← c.self.view_is) (sym (take-append-drop count (drop s.from s.bits)))
