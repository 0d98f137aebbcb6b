use Rattle.std.proofs.Common.{arith}
use Rattle.orc_tail.proofs.Places.{placed_follow}
use Rattle.orc_tail.proofs.stripe_footer.stripe_footer_of_bytes.Goals as goal

pub returns-clause-follow : goal.returns-clause-follow
returns-clause-follow c =
    let s = c.args.stripe.now in
    let sum = c.in_ok-ranges.ensures.ok.1 in
    rw (c.new.ensures, c.in_ok-ranges.ensures.ok.0) (placed_follow s.at _ _ (omega (arith, sum)))
