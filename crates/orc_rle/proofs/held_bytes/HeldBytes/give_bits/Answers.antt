use Rattle.std.proofs.Common.{◌≡◌, ◌+◌, ◌-◌, ◌*◌, ◌≤◌, length, take, drop, arith, sym, ap, ◌∙◌}
use Rattle.std.proofs.lemmas.List.{take-append-drop, take_at, length-take, length-drop}
use Rattle.orc_rle.specs.BitRun.{bits_of}
use Rattle.orc_rle.proofs.BitRuns.{bits_of-append}
use Rattle.orc_integers.specs.HeldLaws.{left_after}
use Rattle.orc_rle.proofs.held_bytes.HeldBytes.give_bits.Goals as goal

pub returns-clause-parts : goal.returns-clause-parts
returns-clause-parts c =
    let s = c.self.inside in
    let count = c.min-count.result in
    let whole = take (s.to - s.from) (drop s.from s.values) in
    let told = c.self.told in
    let len : length whole ≡ s.to - s.from = omega (arith, length-take (s.to - s.from) (drop s.from s.values), length-drop s.from s.values, c.self.invariant, c.self.told) in
    let fits : s.from + count ≤ s.to = omega (arith, c.min-count.ensures, len, c.self.invariant) in
    let front : length c.unpack.new.out ≡ 8 * count = omega (arith, c.unpack.auto.out, c.split_at_mut-front.ensures.front_len) in
    rw (take_at c.unpack.new.out c.split_at_mut-front.result.1.now (8 * count) front, c.unpack.ensures, ← left_after s.values s.from s.to count fits, ← c.self.view_is) (ap bits_of (sym (take-append-drop count whole)) ∙ bits_of-append (take count whole) (drop count whole))
