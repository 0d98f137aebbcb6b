use Rattle.std.proofs.Common.{◌≡◌, ◌+◌, ◌-◌, ◌≤◌, ◌∙◌, length, take, drop, arith, sym}
use Rattle.std.proofs.lemmas.List.{take-append-drop, take_at, drop_at, length-take, length-drop}
use Rattle.orc_integers.specs.HeldLaws.{left_after}
use Rattle.orc_integers.proofs.held.Held.give.Goals as goal

pub returns-clause-parts : goal.returns-clause-parts
returns-clause-parts c =
    let s = c.self.inside in
    let count = c.min-count.result in
    let whole = take (s.to - s.from) (drop s.from s.values.items) in
    let len : length whole ≡ s.to - s.from = omega (arith, length-take (s.to - s.from) (drop s.from s.values.items), length-drop s.from s.values.items, c.self.invariant) in
    let fits : s.from + count ≤ s.to = omega (arith, c.min-count.ensures, len, c.self.invariant) in
    let front : length c.copy_from_slice.new.self ≡ count = omega (arith, c.copy_from_slice.ensures.len, c.split_at_mut-front.ensures.front_len) in
    rw (take_at c.copy_from_slice.new.self c.split_at_mut-front.result.1.now count front, c.copy_from_slice.ensures.after, c.deref.ensures.value, ← left_after s.values.items s.from s.to count fits, ← c.self.view_is) (sym (take-append-drop count whole))

pub returns-clause-behind : goal.returns-clause-behind
returns-clause-behind c =
    let s = c.self.inside in
    let count = c.min-count.result in
    let front : length c.copy_from_slice.new.self ≡ count = omega (arith, c.copy_from_slice.ensures.len, c.split_at_mut-front.ensures.front_len) in
    drop_at c.copy_from_slice.new.self c.split_at_mut-front.result.1.now count front ∙ c.split_at_mut-front.ensures.back
