use Rattle.std.proofs.Common.{◌≡◌, ◌≤◌, ◌<◌, ◌∷◌, arith, rules}
use Rattle.orc_rle2.proofs.RunsIn.{short-read, long-read}
use Rattle.orc_rle2.proofs.header.header_in.Goals as goal

pub returns-then-first-lt64-clause-reads : goal.returns-then-first-lt64-clause-reads
returns-then-first-lt64-clause-reads c =
    let parts : c.args.bytes.now ≡ c.in_ok-first.first.now ∷ c.in_ok-first.rest.now = c.in_ok-first.ensures.cases.0 in
    rw (parts, c.short_header.ensures.value) (short-read c.in_ok-first.first.now c.in_ok-first.rest.now (omega (arith, c.if-first-lt64.true)))

pub returns-clause-reads : goal.returns-clause-reads
returns-clause-reads c =
    let parts : c.args.bytes.now ≡ c.in_ok-first.first.now ∷ c.in_ok-first.rest.now = c.in_ok-first.ensures.cases.0 in
    let rest : c.in_ok-first.rest.now ≡ c.in_ok-second.second.now ∷ c.in_ok-second.left.now = c.in_ok-second.ensures.cases.0 in
    let ge : 64 ≤ c.in_ok-first.first.now = omega (arith, c.if-first-lt64.false) in
    let lt : c.in_ok-first.first.now < 256 = search rules in
    rw (parts, rest, c.long_header.ensures.value) (long-read c.in_ok-first.first.now c.in_ok-second.second.now c.in_ok-second.left.now ge lt)
