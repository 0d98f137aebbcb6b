use Rattle.std.proofs.Common.{◌≡◌, ◌∷◌, arith}
use Rattle.orc_integers.proofs.Numbers.{number-short, number-two}
use Rattle.orc_integers.proofs.in_place.varint_in.Goals as goal

pub returns-then-first-lt128 : goal.returns-then-first-lt128
returns-then-first-lt128 c =
    let first = c.in_ok-first.first.now in
    let parts : c.args.bytes.now ≡ first ∷ c.in_ok-first.rest.now = c.in_ok-first.ensures.cases.0 in
    rw (parts, c.from.ensures) (number-short first c.in_ok-first.rest.now (omega (arith, c.if-first-lt128.true)))

pub returns-then-second-lt128 : goal.returns-then-second-lt128
returns-then-second-lt128 c =
    let first = c.in_ok-first.first.now in
    let second = c.in_ok-second.second.now in
    let left = c.in_ok-second.left.now in
    let parts : c.args.bytes.now ≡ first ∷ c.in_ok-first.rest.now = c.in_ok-first.ensures.cases.0 in
    let more : c.in_ok-first.rest.now ≡ second ∷ left = c.in_ok-second.ensures.cases.0 in
    rw (parts, more, c.from-then-second-lt128.ensures, c.from-then-second-lt128-2.ensures)
    (number-two first second left (omega (arith, c.if-first-lt128.false)) (omega (arith, c.if-second-lt128.true)))
