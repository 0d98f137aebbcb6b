use Rattle.std.proofs.Common.{refl, arith, None}
use Rattle.std.proofs.lemmas.Bool.{false≢true}
use Rattle.pool_model.specs.Pool.{grant_covers}
use Rattle.pool_model.proofs.Totals.{total-zero, total-at}
use Rattle.pool_model.proofs.owned.grants_have.Goals as goal

pub returns-then-grant_has : goal.returns-then-grant_has
returns-then-grant_has c =
    let some = c.grant_has.ensures.0 c.if-grant_has.true in
    (λ _. omega (arith, total-at (grant_covers c.args.place) c.args.grants.now c.loop-at.at None (omega arith), some), λ _. refl)

pub returns : goal.returns
returns c = (
  λ e. absurd (false≢true e),
  λ h.
      absurd
      (omega (arith, h, total-zero (grant_covers c.args.place) c.args.grants.now None (λ k l. c.loop-at.invariant k (omega arith)))),
)
